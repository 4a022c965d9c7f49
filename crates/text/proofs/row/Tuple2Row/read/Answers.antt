use Rattle.std.proofs.Common.{[], ◌∷◌, is_some, refl, ap}
use Rattle.text.proofs.Rows.{exit, lacks_first, lacks_later}
use Rattle.text.proofs.row.Tuple2Row.read.Goals as goal

pub returns-in_err-a-clause-read : goal.returns-in_err-a-clause-read
returns-in_err-a-clause-read g c = exit _ _ _ _ c.from_residual.ensures.1 (lacks_first _ _ _ _ _ c.in_err-a.ensures)

pub returns-in_err-b-clause-read : goal.returns-in_err-b-clause-read
returns-in_err-b-clause-read g c =
    exit _ _ _ _ c.from_residual-in_err-b.ensures.1 (lacks_later _ _ _ _ _ _ _ _ c.in_ok-a.ensures (lacks_first _ _ _ _ _ c.in_err-b.ensures.read))

pub returns-clause-read : goal.returns-clause-read
returns-clause-read g c =
    let first = c.args.first.now in
    let next = c.in_ok-b.ensures.read in
    (first ∷ next.0 ∷ [], ap (λ words. first ∷ words) next.1, (ap is_some c.in_ok-a.ensures, (ap is_some next.2, tt)), (first, next.0, refl, c.in_ok-a.ensures, next.2))
