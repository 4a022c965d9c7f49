use Rattle.std.proofs.Common.{length}
use Rattle.program.proofs.Timing.{Adding}
use Rattle.program.proofs.bench.play_once.Given as goal

abbrev pub invariant-loop-start : goal.invariant-loop-start
invariant-loop-start g l = Adding l.fn.player.whole l.player l.items l.sum

abbrev pub decreases-loop-start : goal.decreases-loop-start
decreases-loop-start g l = length l.player.left.items
