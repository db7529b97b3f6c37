use Rattle.up_test_data.proofs.calls.boards.+finish.Given as goal

abbrev pub decreases-finish : goal.decreases-finish
decreases-finish g l = l.calls
