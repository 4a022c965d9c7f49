use Rattle.std.proofs.Common.{◌++◌, rules}
use Rattle.std.proofs.Output.{has_written_append}
use Rattle.text.specs.Answers.{placed_text}
use Rattle.text.proofs.Answered.{samples_more}
use Rattle.text.proofs.transcript.answers.write_filled.Goals as goal

pub loop-sample-preserved : goal.loop-sample-preserved
loop-sample-preserved g c =
    let x = c.in-Some.sample.now in
    let steps = c.in-Some.ensures.steps in (
      tt,
      tt,
      λ plain.
          let so_far = c.loop-sample.invariant.2 plain in (
            so_far.0 ++ placed_text x,
            has_written_append _ _ _ _ _ _ so_far.1 (search rules),
            samples_more so_far.0 _ _ _ _ _ x so_far.2 steps.0 steps.1,
          ),
    )
