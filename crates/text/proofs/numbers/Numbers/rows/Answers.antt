use Rattle.std.proofs.Common.{◌∷◌, refl, sym, ◌∙◌, subst}
use Rattle.text.specs.Faults.{TakesRow}
use Rattle.text.specs.Taking.{numbers_left}
use Rattle.text.proofs.Rows.{exit, Begun, begun_more, begun_row}
use mathlib.Core.Logic.{inl}
use Rattle.text.proofs.numbers.Numbers.rows.Goals as goal

pub loop-first-preserved : goal.loop-first-preserved
loop-first-preserved g c =
    let kinds = g.R.Row.kind ∷ g.R.Row.kinds_behind in
    let takes = subst (λ words. TakesRow kinds g.R.Row.Says words (numbers_left c.read.new.behind) c.in_ok-read.field-0) (sym c.in-Some.ensures) c.in_ok-read.ensures.read in (
      c.in_ok-read.ensures.form ∙ c.loop-first.invariant.0,
      subst (λ items. Begun kinds g.R.Row.Says (numbers_left c.args.self) items (numbers_left c.read.new.behind)) (sym c.in_ok-push.ensures.items)
          (begun_more kinds g.R.Row.Says (numbers_left c.args.self) c.loop-first.rows.items (numbers_left c.loop-first.self) (numbers_left c.read.new.behind) c.in_ok-read.field-0 c.loop-first.invariant.1 takes),
    )

pub returns-in_err-push : goal.returns-in_err-push
returns-in_err-push g c =
    let kinds = g.R.Row.kind ∷ g.R.Row.kinds_behind in
    let takes = subst (λ words. TakesRow kinds g.R.Row.Says words (numbers_left c.read.new.behind) c.in_ok-read.field-0) (sym c.in-Some.ensures) c.in_ok-read.ensures.read in
    let begins = begun_row kinds g.R.Row.Says (numbers_left c.args.self) c.loop-first.rows.items (numbers_left c.loop-first.self) (numbers_left c.read.new.behind) c.in_ok-read.field-0 c.loop-first.invariant.1 takes in
    exit _ _ _ _ c.from_residual-in_err-push.ensures.1 (inl (refl, begins))
