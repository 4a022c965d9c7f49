use Rattle.program.proofs.Writing.{Going}
use Rattle.program.proofs.written.write_played.Given as goal

abbrev pub invariant-loop-files : goal.invariant-loop-files
invariant-loop-files g l =
    Going l.initial.player.whole l.to l.rate (g.H.Host.written l.initial.host) l.files l.player l.samples l.levels.highest l.levels.clipped (g.H.Host.written l.host)
