-- Lists that exist only in proofs.
use Rattle.std.specs.Prelude.{List, refl}
use Rattle.std.specs.Coded.{Coded, code_by, coded_list}

-- the list of a trace
pub record Items (T : Type 0) : Type 0 where
  pub items : List T

-- the code with which a proof compares them
abbrev pub items_code : {T : Type 0} → Coded T → Coded (Items T)
items_code {T} code = code_by (List T) (coded_list code) (λ (t : Items T). t.items) (λ items. record { items = items }) (λ _. refl)
