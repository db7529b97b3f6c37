use Rattle.up_headers.proofs.checks.at_upload.Goals as goal

pub returns-in-Patch-clause-answer : goal.returns-in-Patch-clause-answer
returns-in-Patch-clause-answer c = rw c.in-Patch.is c.patch_request.ensures.answer
