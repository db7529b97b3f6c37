-- The limits of a server.
use Rattle.std.specs.Prelude.{ℕ}

-- the maximum number of items in the queue of a lane
abbrev pub max_capacity : ℕ
max_capacity = 4096

-- the maximum number of connections after which a server can be asked to end
abbrev pub max_connections : ℕ
max_connections = 65536

-- the maximum number of connections that are open at a time
abbrev pub max_open : ℕ
max_open = 4096

-- the greatest possible shard
abbrev pub max_shard : ℕ
max_shard = 255
