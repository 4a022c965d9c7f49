use Rattle.std.proofs.Common.{ℤ, ap, ◌∙◌, w16}
use Rattle.std.proofs.lemmas.Int.{to_z-of_z}
use Rattle.settings.specs.Changes.{with_gain}
use Rattle.settings.specs.Checks.{checked_gain}
use Rattle.settings.proofs.Calls.{put_in}
use Rattle.settings.proofs.settings.Settings.set_gain.Goals as goal

pub returns-clause-leaves : goal.returns-clause-leaves
returns-clause-leaves c = put_in _ with_gain c.args.self.now _ (c.in_ok-self.ensures ∙ ap (λ (z : ℤ). checked_gain z c.args.factor) (to_z-of_z w16 c.args.shift c.ranges.shift))
