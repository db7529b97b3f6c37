-- What the members so far become with the pairs that are left is what all pairs make.
use Rattle.std.proofs.Common.{◌≡◌, drop}
use Rattle.serde_json.specs.Data.{no_members}
use Rattle.serde_json.specs.View.{members_view}
use Rattle.up_hook_client.specs.Told.{put_pairs}
use Rattle.up_hook_client.proofs.upload.metadata_of.Given as goal

abbrev pub invariant-loop-pair : goal.invariant-loop-pair
invariant-loop-pair l =
    put_pairs (drop l.pair-index l.pairs) (members_view l.members.entries) ≡ put_pairs l.pairs no_members
