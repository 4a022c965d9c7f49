use Rattle.std.proofs.Common.{◌≡◌, map, take}
use Rattle.player.specs.Calls.{asked}
use Rattle.text.specs.Steps.{asked_by}
use Rattle.text.proofs.transcript.step.calls_of.Given as goal

abbrev pub invariant-loop-step : goal.invariant-loop-step
invariant-loop-step l = map asked l.calls.items ≡ asked_by (take l.step-index l.steps)
