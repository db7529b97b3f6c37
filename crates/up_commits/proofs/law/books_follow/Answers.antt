use Rattle.up_commits.proofs.Books.{closed_follow, follow, new_follow, pass_over}
use Rattle.up_commits.proofs.law.books_follow.Goals as goal

pub returns-clause-new : goal.returns-clause-new
returns-clause-new c = new_follow

pub returns-clause-closed : goal.returns-clause-closed
returns-clause-closed c = closed_follow

pub returns-clause-carried : goal.returns-clause-carried
returns-clause-carried c = follow c.replays_begin_alike.ensures.goes_on

pub returns-clause-passed : goal.returns-clause-passed
returns-clause-passed c = pass_over
