use Rattle.std.proofs.Common.{ℕ, ◌-◌, ◌/◌, length, sym, ap, ◌∙◌}
use Rattle.recorder.proofs.Sessions.{Session, session}
use Rattle.recorder.proofs.session.record.Goals as goal
use Rattle.recorder.proofs.session.record.Goals.{After-unwrap-length}

-- what its calls come to
sat : (g : _) (c : After-unwrap-length g) → Session c.args.out.now c.args.rate (g.S.Source.left c.args.source.now) c.finish.new.bytes
sat g c =
    session c.args.out.now c.args.rate (g.S.Source.left c.args.source.now) c.in_ok-recording.recording c.put_all-ending.new.recording
    ((length c.start.new.bytes - 44) / 4) c.start.new.bytes c.put_all-ending.new.bytes c.finish.new.bytes
    (sym c.in_ok-recording.was ∙ c.start.ensures.answer) c.start.ensures.bytes (ap (λ (k : ℕ). (k - 44) / 4) c.start.auto.bytes)
    c.put_all-ending.ensures.count c.put_all-ending.ensures.bytes c.finish.ensures.bytes

pub returns-clause-bytes : goal.returns-clause-bytes
returns-clause-bytes g c = (sat g c).bytes

pub returns-clause-opens : goal.returns-clause-opens
returns-clause-opens g c = (sat g c).opens
