use Rattle.std.proofs.Common.{ap, ◌∙◌, w64}
use Rattle.std.proofs.lemmas.Int.{to_z-of_z}
use Rattle.settings.specs.Changes.{with_frequency}
use Rattle.settings.specs.Checks.{checked_frequency}
use Rattle.settings.proofs.Calls.{put_in}
use Rattle.settings.proofs.settings.Settings.set_frequency.Goals as goal

pub returns-clause-leaves : goal.returns-clause-leaves
returns-clause-leaves c = put_in _ with_frequency c.args.self.now _ (c.in_ok-self.ensures ∙ ap checked_frequency (to_z-of_z w64 c.args.f c.ranges.f))
