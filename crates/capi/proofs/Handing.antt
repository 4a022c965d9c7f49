-- Refusals that are handed on.
use Rattle.std.proofs.Common.{◌≡◌, Result, Err, Ok, ap}
use Rattle.std.specs.Result.{IsErrAnd}
use Rattle.capi.specs.declared.refusal.Refusal.{Refusal}
use Rattle.capi.specs.declared.replaying.Transcript.{Transcript}

-- the refusal that a failed step hands on
pub handed_on : (r : Result Transcript Refusal) (e : Refusal) → IsErrAnd r (λ x. x ≡ e) → r ≡ Err e
handed_on (Ok t) e h = absurd h
handed_on (Err x) e h = ap Err h
