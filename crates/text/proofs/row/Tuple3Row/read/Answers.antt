use Rattle.std.proofs.Common.{[], ◌∷◌, is_some, refl, ap, ◌∙◌}
use Rattle.text.specs.Faults.{kind_of, Lacks}
use Rattle.text.specs.Taking.{numbers_left}
use Rattle.text.proofs.Rows.{exit, lacks_first, lacks_later}
use Rattle.text.proofs.row.Tuple3Row.read.Goals as goal

pub returns-in_err-a-clause-read : goal.returns-in_err-a-clause-read
returns-in_err-a-clause-read g c = exit _ _ _ _ c.from_residual.ensures.1 (lacks_first _ _ _ _ _ c.in_err-a.ensures)

pub returns-in_err-b-clause-read : goal.returns-in_err-b-clause-read
returns-in_err-b-clause-read g c =
    exit _ _ _ _ c.from_residual-in_err-b.ensures.1 (lacks_later _ _ _ _ _ _ _ _ c.in_ok-a.ensures (lacks_first _ _ _ _ _ c.in_err-b.ensures.read))

pub returns-in_err-c-clause-read : goal.returns-in_err-c-clause-read
returns-in_err-c-clause-read g c =
    let next = c.in_ok-b.ensures.read in
    let form = ap (λ f. f.now) c.in_ok-b.ensures.form in
    let third : Lacks c.args.behind.now.form.now (kind_of g.C.Number.spelled g.C.Number.range ∷ []) (numbers_left c.number.new.self) c.in_err-c.field-0.0 = lacks_first _ _ _ _ _ (rw form at c.in_err-c.ensures.read) in
    exit _ _ _ _ c.from_residual-in_err-c.ensures.1
    (lacks_later _ _ _ _ _ _ _ _ c.in_ok-a.ensures (rw next.1 (lacks_later _ _ _ _ _ _ _ _ next.2 third)))

pub returns-clause-read : goal.returns-clause-read
returns-clause-read g c =
    let first = c.args.first.now in
    let next = c.in_ok-b.ensures.read in
    let last = c.in_ok-c.ensures.read in
    (first ∷ next.0 ∷ last.0 ∷ [], ap (λ words. first ∷ words) (next.1 ∙ ap (λ words. next.0 ∷ words) last.1), (ap is_some c.in_ok-a.ensures, (ap is_some next.2, (ap is_some last.2, tt))), (first, next.0, last.0, refl, c.in_ok-a.ensures, next.2, last.2))
