-- The first bytes of a file of bodies.
use Rattle.std.proofs.Common.{IsTrue, length, subst, ◌≡◌, ◌≢◌, ℕ, ◌<◌, ◌^◌, List, sym, ◌∙◌, ap, arith}
use Rattle.std.proofs.lemmas.Nat.{from_le_bytes-to_le_bytes_8}
use Rattle.sqlite_disk.specs.Disk.{Holds}
use Rattle.sqlite_disk.specs.declared.Disk.{Ghosts}
use Rattle.up_bodies.specs.declared.fault.OpenFault.{OpenFault}
use Rattle.up_bodies.specs.declared.fault.OpenFault.TheVariants as open_fault
use Rattle.up_bodies.specs.declared.head.Head.{Head}
use Rattle.up_bodies.specs.Failures.{IsUnopenedFor}
use Rattle.up_bodies.specs.Heads.{IsCause, IsOther, front, head_text, number_at}
use Rattle.up_bodies.proofs.Held.{same_held}

-- the generation that a head names
pub generation_in : (head : Head) → head.generation < 2 ^ 64 → number_at 16 (head_text head) ≡ head.generation
unfolding front
generation_in head small = from_le_bytes-to_le_bytes_8 head.generation small

-- bytes that aren't the head with the generation which they name are no head of the file
pub other : (head : Head) (text : List ℕ) → head.generation < 2 ^ 64 → text ≢ head_text (record head { generation = number_at 16 text }) → IsOther head text
other head text small differs seed is =
    let named : number_at 16 text ≡ is.generation =
    ap (number_at 16) is.text_is ∙ generation_in (record head { generation = is.generation }) (omega (arith, small, is.earlier)) in
    differs (is.text_is ∙ ap (λ (g : ℕ). head_text (record head { generation = g })) (sym named))

module _ {D : Type 0} (g : Ghosts D) (head : Head) (old new : D) (read : List ℕ) (size : length read ≡ 56)
    (there : IsTrue (g.is_clean new) → Holds (g.seen old) 0 read) where
  -- what is to blame in what was read is to blame in what the file has there
  blames : (fault : OpenFault) → IsCause head read fault → IsTrue (g.is_clean new) → (text : List ℕ) → length text ≡ 56 → Holds (g.seen old) 0 text
      → IsCause head text fault
  blames fault cause clean text long holds =
      subst (λ (t : List ℕ). IsCause head t fault) (same_held 0 (g.seen old) read text (there clean) holds (size ∙ sym long)) cause

  pub unopened : (fault : OpenFault) → IsCause head read fault → IsUnopenedFor g head old new fault
  unopened open_fault.Foreign cause = blames open_fault.Foreign cause
  unopened (open_fault.Version version) cause = blames (open_fault.Version version) cause
  unopened open_fault.Damaged cause = blames open_fault.Damaged cause
  unopened open_fault.OtherStore cause = blames open_fault.OtherStore cause
  unopened (open_fault.OtherNumber number) cause = blames (open_fault.OtherNumber number) cause
  unopened (open_fault.Later file log) cause = blames (open_fault.Later file log) cause
  unopened open_fault.Broken cause = absurd cause
  unopened (open_fault.Disk error) cause = absurd cause
  unopened open_fault.NoMemory cause = blames open_fault.NoMemory cause
