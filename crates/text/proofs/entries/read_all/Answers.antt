use Rattle.std.proofs.Common.{sym, subst}
use mathlib.Core.Logic.{inl}
use Rattle.text.specs.Entries.{Holds, IsWrong, Reads, entries_of, entries_left}
use Rattle.text.proofs.Passing.{Passed, passed_more, stops}
use Rattle.text.proofs.Rows.{exit}
use Rattle.text.proofs.entries.read_all.Goals as goal

pub loop-entry-preserved : goal.loop-entry-preserved
loop-entry-preserved g c =
    let all = entries_of c.args.bytes.now in
    let step = c.in-Some.ensures.steps in
    let holds : Holds g.F.Form.Says step.0 c.in_ok-entry.field-0 = subst (Reads g.F.Form.Says g.F.Form.Complains step.0) c.in_ok-entry.was step.2 in (
      tt,
      tt,
      subst (Passed g.F.Form.Says all (entries_left c.next.new.self)) (sym c.in_ok-push.ensures.items)
          (passed_more g.F.Form.Says all (entries_left c.loop-entry.entry-iterator) (entries_left c.next.new.self) c.loop-entry.all.items step.0 c.in_ok-entry.field-0 c.loop-entry.invariant.2 step.1 holds),
    )

pub returns-in_err-entry-clause-read : goal.returns-in_err-entry-clause-read
returns-in_err-entry-clause-read g c =
    let step = c.in-Some.ensures.steps in
    let wrong : IsWrong g.F.Form.Complains step.0 c.in_err-entry.field-0.0 = subst (Reads g.F.Form.Says g.F.Form.Complains step.0) c.in_err-entry.was step.2 in
    exit _ _ _ _ c.from_residual.ensures.1
    (stops g.F.Form.Says g.F.Form.Complains (entries_of c.args.bytes.now) (entries_left c.loop-entry.entry-iterator) (entries_left c.next.new.self) c.loop-entry.all.items step.0 c.in_err-entry.field-0.0 c.loop-entry.invariant.2 step.1 (inl wrong))
