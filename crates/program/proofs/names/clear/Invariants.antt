use Rattle.program.specs.Names.{Clears}
use Rattle.program.proofs.names.clear.Given as goal

abbrev pub invariant-loop-number : goal.invariant-loop-number
invariant-loop-number g l = Clears (g.H.Host.may_say_other l.host) l.to l.number
