use Rattle.std.proofs.Common.{w64}
use Rattle.std.proofs.lemmas.Int.{to_z-of_z}
use Rattle.settings.proofs.Accepted.{frequency_made}
use Rattle.settings.proofs.checks.checked_frequency.Goals as goal

pub returns : goal.returns
returns c = frequency_made _ c.args.f (to_z-of_z w64 c.args.f c.ranges.f)
