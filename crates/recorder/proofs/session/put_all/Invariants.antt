use Rattle.recorder.proofs.Filling.{Going}
use Rattle.recorder.proofs.session.put_all.Given as goal

abbrev pub invariant-loop : goal.invariant-loop
invariant-loop g l =
    Going l.initial.recording.samples l.initial.bytes (g.S.Source.left l.initial.source) (g.S.Source.whole l.initial.source)
    l.counter l.recording.samples l.bytes (g.S.Source.left l.source) (g.S.Source.whole l.source)
