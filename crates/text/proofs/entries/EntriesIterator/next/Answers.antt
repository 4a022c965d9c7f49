use Rattle.std.proofs.Common.{◌∙◌, sym, arith}
use Rattle.text.proofs.Passing.{passed_over, first_entry, blank, with_words, wrong_entry}
use Rattle.text.proofs.entries.EntriesIterator.next.Goals as goal

pub loop-line-preserved : goal.loop-line-preserved
loop-line-preserved g c =
    let step = c.in-Some.ensures.steps in
    let read = rw c.in-Ok-None.field-0-is at c.in-Ok-None.ensures in
    (c.loop-line.invariant.0 ∙ passed_over c.loop-line.self.lines.passed c.next.new.self.passed c.loop-line.self.lines.rest.now c.in-Some.field-0.held.now c.next.new.self.rest.now step.1 (step.4 ∙ step.3) (blank c.in-Some.field-0.held.now read.0 read.1), omega arith)

pub returns-in-Ok-Some-clause-steps : goal.returns-in-Ok-Some-clause-steps
returns-in-Ok-Some-clause-steps g c =
    let step = c.in-Some.ensures.steps in
    let read = rw c.in-Ok-Some.field-0-is at c.in-Ok-Some.ensures in (
      (c.next.new.self.passed, c.in-Some.field-0.held.now),
      c.loop-line.invariant.0 ∙ first_entry c.loop-line.self.lines.passed c.next.new.self.passed c.loop-line.self.lines.rest.now c.in-Some.field-0.held.now c.next.new.self.rest.now step.1 (step.4 ∙ step.3) (with_words c.in-Some.field-0.held.now read.1.0),
      (sym step.4, read.0, read.1.1),
    )

pub returns-in-Err-clause-steps : goal.returns-in-Err-clause-steps
returns-in-Err-clause-steps g c =
    let step = c.in-Some.ensures.steps in (
      (c.next.new.self.passed, c.in-Some.field-0.held.now),
      c.loop-line.invariant.0 ∙ first_entry c.loop-line.self.lines.passed c.next.new.self.passed c.loop-line.self.lines.rest.now c.in-Some.field-0.held.now c.next.new.self.rest.now step.1 (step.4 ∙ step.3) (wrong_entry g.F.Form.Complains c.in-Some.field-0.held.now c.in-Err.held c.in-Err.ensures),
      (sym step.4, c.in-Err.ensures),
    )
