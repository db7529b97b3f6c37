use Rattle.std.proofs.Common.{rules}
use Rattle.up_test_data.proofs.rows.courses.working.new_book.Goals as goal

pub new-requires-clause-some_lane : goal.new-requires-clause-some_lane
new-requires-clause-some_lane c = search rules
