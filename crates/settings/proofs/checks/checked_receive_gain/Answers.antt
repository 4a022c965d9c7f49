use Rattle.std.proofs.Common.{◌≡◌, ℕ, ◌≤◌, ℤ, Result, sym, ap, ◌∙◌, arith, w16, SFits, to_z, of_z}
use Rattle.std.proofs.lemmas.Int.{to_z-of_z}
use Rattle.std.proofs.lemmas.Bool.{cond-false, le-ltb}
use Rattle.stages.specs.declared.gain.Gain.{Gain}
use Rattle.settings.specs.declared.refusal.SettingRefusal.{SettingRefusal}
use Rattle.settings.specs.Checks.{checked_gain, checked_receive_gain}
use Rattle.settings.proofs.checks.checked_receive_gain.Goals as goal

-- with an index up to 127, what is made of the gain
of_gain : (i : ℕ) (s : ℤ) (f : ℕ) (r : Result Gain SettingRefusal) → SFits w16 s → i ≤ 127 → r ≡ checked_gain (to_z w16 (of_z w16 s)) f → r ≡ checked_receive_gain i s f
of_gain i s f r fits h e = e ∙ ap (λ (z : ℤ). checked_gain z f) (to_z-of_z w16 s fits) ∙ sym (cond-false _ _ (checked_gain s f) (le-ltb 127 i h))

pub returns-clause-value : goal.returns-clause-value
returns-clause-value c = of_gain c.args.index c.args.shift c.args.factor c.checked_gain.result c.ranges.shift (omega arith) c.checked_gain.ensures
