use Rattle.std.proofs.Common.{Ok, Err}
use Rattle.capi.proofs.Handing.{handed_on}
use Rattle.capi.proofs.Wanting.{replayed}
use Rattle.capi.proofs.replaying.replay.Goals as goal

pub returns-in_err-made : goal.returns-in_err-made
returns-in_err-made c =
    let e = c.in_err-made.field-0.0 in
    replayed (Err e) c.in_err-made.ensures (handed_on _ e c.from_residual.ensures.1)

pub returns-in_err-steps : goal.returns-in_err-steps
returns-in_err-steps c =
    let e = c.in_err-steps.field-0.0 in
    replayed (Ok c.in_ok-made.made) c.in_ok-made.ensures (Err e, c.in_err-steps.ensures, handed_on _ e c.from_residual-in_err-steps.ensures.1)

pub returns : goal.returns
returns c =
    replayed (Ok c.in_ok-made.made) c.in_ok-made.ensures
    (Ok c.in_ok-steps.steps.items, c.in_ok-steps.ensures, rw (← c.as_slice.ensures.value) c.replay_recordings.ensures)
