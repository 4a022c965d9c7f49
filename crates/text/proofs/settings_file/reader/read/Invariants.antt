use Rattle.std.proofs.Common.{◌≡◌, List}
use Rattle.std.specs.List.{All}
use Rattle.text.specs.declared.numbered.Numbered.{Numbered}
use Rattle.text.specs.Entries.{entries_of, entries_left}
use Rattle.text.proofs.Passing.{Passed}
use Rattle.settings.specs.Fresh.{fresh}
use Rattle.text.specs.declared.settings_file.setting.Setting.{Setting}
use Rattle.text.specs.Files.{Accepted, changed_by}
use Rattle.text.specs.Forms.{Says}
use Rattle.text.proofs.settings_file.reader.read.Given as goal

abbrev pub invariant-loop-entry : goal.invariant-loop-entry
invariant-loop-entry l =
    goal.iterator-loop-entry.can_next l.entry-iterator × goal.iterator-loop-entry.is_finite l.entry-iterator
    × ((said : List (Numbered Setting)) × Passed Says (entries_of l.fn.bytes) (entries_left l.entry-iterator) said × All Accepted said × (l.made ≡ changed_by said fresh))
