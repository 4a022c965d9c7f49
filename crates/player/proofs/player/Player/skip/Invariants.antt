use Rattle.player.proofs.Counting.{Got}
use Rattle.player.proofs.player.Player.skip.Given as goal

abbrev pub invariant-loop-passed : goal.invariant-loop-passed
invariant-loop-passed g l = Got l.initial.self l.passed l.self
