use Rattle.std.proofs.Common.{length}
use Rattle.program.proofs.Timing.{Taking}
use Rattle.program.proofs.replay.play_whole.Given as goal

abbrev pub invariant-loop-ending : goal.invariant-loop-ending
invariant-loop-ending g l = Taking l.fn.player.whole l.player l.items.items

abbrev pub decreases-loop-ending : goal.decreases-loop-ending
decreases-loop-ending g l = length l.player.left.items
