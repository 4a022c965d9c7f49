use Rattle.std.proofs.Common.{◌≡◌, length, Some, None, Ok, Err, sym, ap, ◌∙◌, arith}
use Rattle.sources.specs.Streams.{answer}
use Rattle.recorder.proofs.Filling.{goes, over}
use Rattle.recorder.proofs.session.put_all.Goals as goal

pub loop-preserved : goal.loop-preserved
loop-preserved g c =
    let a : Ok (Some c.in-Ok-Some.sample) ≡ answer (g.S.Source.left c.loop.source) = sym (c.in-Ok-Some.is ∙ ap Ok c.in-Ok-Some.field-0-is) ∙ c.next.ensures.answers in
    let k : length c.loop.bytes ≡ length c.args.bytes.now = c.loop.auto.bytes in
    goes c.args.recording.now.samples c.args.bytes.now (g.S.Source.left c.args.source.now) (g.S.Source.whole c.args.source.now)
    c.loop.counter c.loop.recording.samples c.loop.bytes (g.S.Source.left c.loop.source) (g.S.Source.whole c.loop.source) c.loop.invariant
    c.in-Ok-Some.sample c.put.new.self.samples c.put.new.bytes (g.S.Source.left c.next.new.self) (g.S.Source.whole c.next.new.self)
    a c.next.ensures.moves c.next.ensures.same c.put.ensures.count c.put.ensures.bytes
    (let n = c.loop.invariant.counted in omega arith) (omega arith) (omega arith)

pub returns-in-Ok-None : goal.returns-in-Ok-None
returns-in-Ok-None g c =
    let a : Ok None ≡ answer (g.S.Source.left c.loop.source) = sym (c.in-Ok-None.is ∙ ap Ok c.in-Ok-None.field-0-is) ∙ c.next.ensures.answers in
    over c.args.recording.now.samples c.args.bytes.now (g.S.Source.left c.args.source.now) (g.S.Source.whole c.args.source.now)
    c.loop.counter c.loop.recording.samples c.loop.bytes (g.S.Source.left c.loop.source) (g.S.Source.whole c.loop.source) c.loop.invariant
    c.args.room (Ok tt) c.loop-test.true a (g.S.Source.left c.next.new.self) (g.S.Source.whole c.next.new.self) c.next.ensures.moves c.next.ensures.same

pub returns-in-Err : goal.returns-in-Err
returns-in-Err g c =
    let a : Err c.in-Err.fault ≡ answer (g.S.Source.left c.loop.source) = sym c.in-Err.is ∙ c.next.ensures.answers in
    over c.args.recording.now.samples c.args.bytes.now (g.S.Source.left c.args.source.now) (g.S.Source.whole c.args.source.now)
    c.loop.counter c.loop.recording.samples c.loop.bytes (g.S.Source.left c.loop.source) (g.S.Source.whole c.loop.source) c.loop.invariant
    c.args.room (Err c.in-Err.fault) c.loop-test.true a (g.S.Source.left c.next.new.self) (g.S.Source.whole c.next.new.self) c.next.ensures.moves c.next.ensures.same
