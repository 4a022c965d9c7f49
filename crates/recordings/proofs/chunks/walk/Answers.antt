use Rattle.std.proofs.Common.{◌≡◌, ℕ, suc, ◌-◌, length, None, Ok, sym, ap, ◌∙◌, arith}
use Rattle.std.proofs.lemmas.Result.{err_from_is_err_and}
use Rattle.recordings.specs.Chunks.{chunks}
use Rattle.recordings.proofs.Walks.{goes_on}
use Rattle.recordings.proofs.chunks.walk.Goals as goal

pub loop-next-init : goal.loop-next-init
loop-next-init c =
    let e : suc (length c.args.bytes.now - 1) ≡ length c.args.bytes.now = omega arith in
    record {
      within = c.requires.0;
      as_all = record { n = length c.args.bytes.now - 1; enough = omega arith; answer = ap (λ (n : ℕ). chunks c.args.format c.args.bytes.now n 12 None) e };
    }

pub loop-next-preserved : goal.loop-next-preserved
loop-next-preserved c =
    let i = rw c.in-Onward.is at c.in_ok-next.ensures.inside in
    record {
      within = i.1;
      as_all = goes_on _ _ _ _ _ _ c.loop-next.invariant.as_all (ap Ok (sym c.in-Onward.is) ∙ sym c.in_ok-next.was ∙ c.next_step.ensures.answer) i.0 i.1;
    }

pub returns-in_err-next-clause-answer : goal.returns-in_err-next-clause-answer
returns-in_err-next-clause-answer c =
    let p = err_from_is_err_and c.from_residual.result c.from_residual.ensures.1 in
    rw (p.1, p.2) (goes_on _ _ _ _ _ _ c.loop-next.invariant.as_all (sym c.in_err-next.was ∙ c.next_step.ensures.answer))

pub returns-in-Data-clause-answer : goal.returns-in-Data-clause-answer
returns-in-Data-clause-answer c = goes_on _ _ _ _ _ _ c.loop-next.invariant.as_all (ap Ok (sym c.in-Data.is) ∙ sym c.in_ok-next.was ∙ c.next_step.ensures.answer)
