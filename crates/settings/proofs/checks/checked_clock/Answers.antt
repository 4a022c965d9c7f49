use Rattle.std.proofs.Common.{w64}
use Rattle.std.proofs.lemmas.Int.{to_z-of_z}
use Rattle.settings.proofs.Accepted.{clock_made}
use Rattle.settings.proofs.checks.checked_clock.Goals as goal

pub returns : goal.returns
returns c = clock_made _ c.args.c (to_z-of_z w64 c.args.c c.ranges.c)
