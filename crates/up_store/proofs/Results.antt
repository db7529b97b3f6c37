-- What holds anyway holds of a success.
use Rattle.std.proofs.Common.{OnOk, Result, Ok, Err}

pub on_ok : {T E P : Type 0} (result : Result T E) → P → OnOk result P
on_ok (Ok x) p = p
on_ok (Err e) p = tt
