use Rattle.std.proofs.Common.{◌≡◌, length}
use Rattle.std.specs.List.{AllWithin}
use Rattle.settings.specs.Lists.{Near}
use Rattle.settings.proofs.Listed.{PathsWritten}
use Rattle.settings.proofs.checks.checked_paths.Given as goal

abbrev pub invariant-loop-i : goal.invariant-loop-i
invariant-loop-i l = (length l.places ≡ 10) × AllWithin Near l.given 0 l.i × PathsWritten l.given l.i l.places
