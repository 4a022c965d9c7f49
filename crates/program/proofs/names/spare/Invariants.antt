use Rattle.program.specs.Names.{Spares}
use Rattle.program.proofs.names.spare.Given as goal

abbrev pub invariant-loop-number : goal.invariant-loop-number
invariant-loop-number g l = Spares (g.H.Host.may_say_same l.host) l.input l.to l.number
