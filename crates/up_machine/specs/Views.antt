-- The view of an upload.
use Rattle.std.specs.Prelude.{◌≡◌, ◌≤◌, ◌++◌, Option, Some, None, length}
use Rattle.std.specs.Option.{option_copied}
use Rattle.up_message.specs.Joins.{pieced, pieced_then}
use Rattle.up_machine.specs.Content.{Content}
use Rattle.up_machine.specs.Kept.{tail_room}
use Rattle.up_machine.specs.declared.view.View.{View}

-- the view is of this upload
pub record IsViewOf (x : Content) (v : View) : Type 0 where
  pub kind : v.kind ≡ x.kind
  pub offset : v.offset ≡ length x.bytes
  pub length : v.length ≡ x.length
  pub metadata : option_copied v.metadata ≡ x.metadata
  pub concat : option_copied v.concat ≡ x.concat
  pub spare : v.spare ≤ tail_room
  pub bytes : pieced v.runs.now ++ pieced_then v.pieces.now v.tail.now ≡ x.bytes

-- there is a view exactly if there is an upload, and it is of that upload
abbrev pub IsViewIfAny : Option Content → Option View → Type 0
IsViewIfAny None None = Unit {0}
IsViewIfAny None (Some v) = ⊥
IsViewIfAny (Some x) None = ⊥
IsViewIfAny (Some x) (Some v) = IsViewOf x v
