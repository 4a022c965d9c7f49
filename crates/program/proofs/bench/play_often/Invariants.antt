use Rattle.std.proofs.Common.{◌≡◌, ◌≤◌, max}
use Rattle.program.specs.Bench.{TimedOf}
use Rattle.program.proofs.bench.play_often.Given as goal

abbrev pub invariant-loop-number : goal.invariant-loop-number
invariant-loop-number g l =
    TimedOf l.fn.player.whole l.best
    × (l.best.runs ≡ l.number)
    × (l.number ≤ max 1 l.fn.runs)
    × (l.player.whole ≡ l.fn.player.whole)
