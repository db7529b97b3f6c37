use Rattle.std.proofs.Common.{refl, subst, inr}
use Rattle.up_headers.specs.Places.{IsAt}
use Rattle.up_headers.proofs.checks.upload_at.Goals as goal

pub returns-in-Creation : goal.returns-in-Creation
returns-in-Creation c = subst (IsAt c.args.target.now) c.in-Creation.is c.in_ok-place_of.ensures

pub returns-in-Upload : goal.returns-in-Upload
returns-in-Upload c = subst (IsAt c.args.target.now) c.in-Upload.is c.in_ok-place_of.ensures

pub returns-in-Nowhere : goal.returns-in-Nowhere
returns-in-Nowhere c = inr (refl, subst (IsAt c.args.target.now) c.in-Nowhere.is c.in_ok-place_of.ensures)
