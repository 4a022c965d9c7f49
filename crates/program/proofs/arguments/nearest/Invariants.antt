use Rattle.std.proofs.Common.{IfSome, ◌<◌}
use Rattle.program.specs.Arguments.{IsNear}
use Rattle.program.proofs.arguments.nearest.Given as goal

abbrev pub invariant-loop-name : goal.invariant-loop-name
invariant-loop-name l = IfSome l.best (λ name. IsNear l.word name.now) × (l.fewest < 4)
