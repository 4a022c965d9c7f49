use Rattle.std.proofs.Common.{rules, List, [], ℕ, ◌-◌, sym, subst, arith}
use Rattle.std.specs.Fmt.{HasWritten}
use Rattle.text.specs.declared.transcript.step.Step.TheVariants.{Next}
use Rattle.program.proofs.Lines.{but_last_end, no_lines}
use Rattle.program.proofs.report.fmt_answered.Goals as goal

pub returns-then-count-eq0 : goal.returns-then-count-eq0
returns-then-count-eq0 g c = λ plain ok.
    let nothing : HasWritten g.W.Write.write_str_gives c.args.f.now [] c.args.f.now = search rules in
    subst (λ (text : List ℕ). HasWritten g.W.Write.write_str_gives c.args.f.now text c.args.f.now)
    (sym (no_lines c.args.steps.now c.args.answers.now (omega (arith, c.min-count.ensures, c.if-count-eq0.true)))) nothing

pub returns : goal.returns
returns g c = λ plain ok.
    subst (λ (text : List ℕ). HasWritten g.W.Write.write_str_gives c.args.f.now text c.fmt_lines.new.f)
    (sym (but_last_end c.args.steps.now c.args.answers.now (c.min-count.result - 1) (record { line = 0; held = Next }) c.index-answers-last.result (omega (arith, c.min-count.ensures, c.if-count-eq0.false)) c.index-answers-last.is))
    (c.fmt_lines.ensures plain ok)
