use Rattle.std.proofs.Common.{◌≡◌, ◌∷◌, length}
use Rattle.text.specs.Taking.{numbers_left}
use Rattle.text.proofs.Rows.{Begun}
use Rattle.text.proofs.numbers.Numbers.rows.Given as goal

abbrev pub invariant-loop-first : goal.invariant-loop-first
invariant-loop-first g l =
    (l.self.form ≡ l.fn.self.form) × Begun (g.R.Row.kind ∷ g.R.Row.kinds_behind) g.R.Row.Says (numbers_left l.fn.self) l.rows.items (numbers_left l.self)

abbrev pub decreases-loop-first : goal.decreases-loop-first
decreases-loop-first g l = length (numbers_left l.self)
