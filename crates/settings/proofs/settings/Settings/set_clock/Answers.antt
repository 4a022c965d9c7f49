use Rattle.std.proofs.Common.{ap, ◌∙◌, w64}
use Rattle.std.proofs.lemmas.Int.{to_z-of_z}
use Rattle.settings.specs.Changes.{with_clock}
use Rattle.settings.specs.Checks.{checked_clock}
use Rattle.settings.proofs.Calls.{put_in}
use Rattle.settings.proofs.settings.Settings.set_clock.Goals as goal

pub returns-clause-leaves : goal.returns-clause-leaves
returns-clause-leaves c = put_in _ with_clock c.args.self.now _ (c.in_ok-self.ensures ∙ ap checked_clock (to_z-of_z w64 c.args.c c.ranges.c))
