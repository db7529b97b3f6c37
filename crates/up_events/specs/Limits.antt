-- Limits of a server and of an upload.
use Rattle.std.specs.Prelude.{ℕ, ◌^◌}

-- the maximum number of lanes of a server
abbrev pub max_lanes : ℕ
max_lanes = 16

-- the maximum number of bytes of an upload
abbrev pub max_upload_bytes : ℕ
max_upload_bytes = 2 ^ 30
