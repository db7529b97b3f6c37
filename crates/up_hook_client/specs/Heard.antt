-- What a hook server's answer means.
use Rattle.std.specs.Prelude.{◌≡◌, ◌⊎◌, ◌≤◌, ◌<◌, ℕ, false, List, codes, Some, None, IsSome}
use Rattle.serde_json.specs.Data.{Data, null, boolean, object, no_members}
use Rattle.serde_json.specs.Find.{get, as_object}
use Rattle.serde_json.specs.Read.{read}
use Rattle.up_machine.specs.declared.ask.Point.{Point}
use Rattle.up_machine.specs.declared.ask.Point.TheVariants.{Terminate}

-- the status says that the request succeeded (RFC 9110, section 15.3)
abbrev pub IsSuccess : ℕ → Type 0
IsSuccess status = (200 ≤ status) × (status < 300)

-- the object has no such member, or the member is `null`
abbrev pub IsNothingAt : List ℕ → Data → Type 0
IsNothingAt key said = (get key said ≡ None) ⊎ (get key said ≡ Some null)

-- the same, or the member is `false`
abbrev pub IsFalseAt : List ℕ → Data → Type 0
IsFalseAt key said = IsNothingAt key said ⊎ (get key said ≡ Some (boolean false))

-- the same, or the member is an empty object
abbrev pub IsEmptyAt : List ℕ → Data → Type 0
IsEmptyAt key said = IsNothingAt key said ⊎ (get key said ≡ Some (object no_members))

-- at this point: an object that rejects nothing, and asks for no change of the upload
pub record LetsPass (point : Point) (said : Data) : Type 0 where
  pub is_object : IsSome (as_object said)
  pub rejects_nothing : IsFalseAt (codes "RejectUpload") said
  pub rejects_no_removal : point ≡ Terminate → IsFalseAt (codes "RejectTermination") said
  pub changes_nothing : IsEmptyAt (codes "ChangeFileInfo") said

-- the answer is a success, and its body is such an object
abbrev pub Allows : Point → ℕ → List ℕ → Type 0
Allows point status body = IsSuccess status × ((said : Data) × (read body ≡ Some said) × LetsPass point said)
