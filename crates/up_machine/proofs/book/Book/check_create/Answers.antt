use Rattle.std.proofs.Common.{rules}
use Rattle.up_machine.proofs.book.Book.check_create.Goals as goal

pub returns : goal.returns
returns c = search rules
