use Rattle.std.proofs.Common.{[], ◌∷◌, ◌++◌, rules}
use Rattle.std.proofs.Output.{has_written_append, has_written_of_eq}
use Rattle.std.specs.Iterator.Adapters.{zip_first, zip_second}
use Rattle.std.specs.Slice.Iter.{iter_rest}
use Rattle.std.proofs.lemmas.Slice.Zip.{Zip-more, either_empty_from_Zip}
use Rattle.player.specs.Calls.{answered}
use Rattle.text.specs.Lines.{feed}
use Rattle.text.specs.Answers.{answer_text}
use Rattle.text.proofs.Answered.{lines_more, lines_end}
use Rattle.text.proofs.transcript.answers.AnswerLinesDisplay.fmt.Goals as goal

pub loop-step-preserved : goal.loop-step-preserved
loop-step-preserved g c =
    let s = c.loop-step.step-iterator in
    let t = c.next.new.self in
    let step = c.in-Some.step.now in
    let answer = c.in-Some.answer.now in
    let taken = Zip-more s t c.next.result (c.in-Some.step, c.in-Some.answer) c.in-Some.is c.next.ensures.steps in (
      (tt, tt),
      tt,
      λ plain.
          let so_far = c.loop-step.invariant.2 plain in (
            so_far.0 ++ (answer_text step.held (answered answer) ++ feed ∷ []),
            has_written_append _ _ _ _ _ _ so_far.1 (search rules),
            lines_more so_far.0 _ (iter_rest (zip_first s)) (iter_rest (zip_first t)) (iter_rest (zip_second s)) (iter_rest (zip_second t)) step answer so_far.2 taken.0 taken.1,
          ),
    )

pub returns-clause-writes : goal.returns-clause-writes
returns-clause-writes g c = λ plain _.
    let so_far = c.loop-step.invariant.2 plain in
    let none = either_empty_from_Zip c.loop-step.step-iterator c.next.new.self c.next.result c.in-None.is c.next.ensures.steps in
    has_written_of_eq _ _ _ _ _ (lines_end so_far.0 _ _ _ so_far.2 none) so_far.1
