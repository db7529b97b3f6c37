use Rattle.std.proofs.Common.{subst}
use Rattle.up_dispatch.specs.BoardView.{IsLawfulBoardView}
use Rattle.up_dispatch.proofs.Showing.{board_view_lawful}
use Rattle.up_dispatch.proofs.inside.Inside.is_lawful.Goals as goal

pub returns : goal.returns
returns g c =
    let i = c.self.inside in
    subst (IsLawfulBoardView g.B.Naming.queue g.B.Naming.lanes g.B.Naming.max_size) c.self.view_is (board_view_lawful g.B.Naming.queue g.B.Naming.lanes g.B.Naming.max_size i.book i.cursors.items i.given i.total.total i.rest.parts i.rest.amount c.self.invariant)
