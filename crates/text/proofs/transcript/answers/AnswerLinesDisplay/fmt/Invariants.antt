use Rattle.std.proofs.Common.{◌≡◌, ℕ, List, ◌++◌, map}
use Rattle.std.specs.Fmt.{HasWritten, IsPlainFormatter}
use Rattle.std.specs.Iterator.Adapters.{zip_first, zip_second}
use Rattle.std.specs.Slice.Iter.{iter_rest}
use Rattle.player.specs.Calls.{answered}
use Rattle.text.specs.Answers.{answer_lines}
use Rattle.text.proofs.transcript.answers.AnswerLinesDisplay.fmt.Given as goal

abbrev pub invariant-loop-step : goal.invariant-loop-step
invariant-loop-step g l =
    (goal.iterator-loop-step g).can_next l.step-iterator
    × (goal.iterator-loop-step g).is_finite l.step-iterator
    × (IsPlainFormatter l.fn.f → (done : List ℕ) × HasWritten g.W.Write.write_str_gives l.fn.f done l.f
    × (done ++ answer_lines (iter_rest (zip_first l.step-iterator)) (map answered (iter_rest (zip_second l.step-iterator))) ≡ answer_lines l.fn.self.steps.now (map answered l.fn.self.answers.now)))
