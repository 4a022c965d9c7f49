use Rattle.std.proofs.Common.{◌≡◌, length}
use Rattle.std.specs.List.{AllWithin}
use Rattle.settings.specs.Lists.{Amplitude}
use Rattle.settings.proofs.Listed.{EntriesWritten}
use Rattle.settings.proofs.checks.checked_table.Given as goal

abbrev pub invariant-loop-i : goal.invariant-loop-i
invariant-loop-i l = (length l.entries ≡ 513) × AllWithin Amplitude l.amplitudes 0 l.i × EntriesWritten l.amplitudes l.phases l.i l.entries
