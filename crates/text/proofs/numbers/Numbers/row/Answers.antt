use Rattle.std.proofs.Common.{[], refl}
use Rattle.text.proofs.Rows.{lacks_first}
use mathlib.Core.Logic.{inl}
use Rattle.text.proofs.numbers.Numbers.row.Goals as goal

pub returns-in_default : goal.returns-in_default
returns-in_default g c = inl (rw c.in_default.ensures.0 (lacks_first _ _ _ [] _ refl))
