use Rattle.std.proofs.Common.{[], ◌∷◌, is_some, refl, ap}
use Rattle.text.proofs.Rows.{exit, lacks_first}
use Rattle.text.proofs.row.Tuple1Row.read.Goals as goal

pub returns-in_err-of_word-clause-read : goal.returns-in_err-of_word-clause-read
returns-in_err-of_word-clause-read g c = exit _ _ _ _ c.from_residual.ensures.1 (lacks_first _ _ _ _ _ c.in_err-of_word.ensures)

pub returns-clause-read : goal.returns-clause-read
returns-clause-read g c =
    (c.args.first.now ∷ [], refl, (ap is_some c.in_ok-of_word.ensures, tt), (c.args.first.now, refl, c.in_ok-of_word.ensures))
