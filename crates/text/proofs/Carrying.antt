-- Settings carried out one after the other, up to the line that stops them.
use Rattle.std.proofs.Common.{◌≡◌, ℕ, List, ◌∷◌, ◌++◌, ap, ◌∙◌}
use Rattle.std.specs.List.{All}
use Rattle.text.specs.declared.numbered.Numbered.{Numbered}
use Rattle.text.proofs.Passing.{Passed}
use Rattle.text.specs.declared.settings_file.fault.LineFault.{LineFault}
use Rattle.text.specs.declared.settings_file.setting.Setting.{Setting}
use Rattle.text.specs.Files.{Accepted, Stops, StopsAt}
use Rattle.text.specs.Forms.{Says}

pub stopped : (all left after : List (ℕ × List ℕ)) (said : List (Numbered Setting)) (entry : ℕ × List ℕ) (fault : LineFault) → Passed Says all left said → All Accepted said → left ≡ entry ∷ after → fault.line ≡ entry.0 → StopsAt entry.1 fault.stop → Stops all fault
stopped all left after said entry fault so_far accepted is line stops =
    record {
      before = so_far.0;
      entry = entry;
      after = after;
      said = said;
      entries_are = so_far.1 ∙ ap (λ ls. so_far.0 ++ ls) is;
      hold = so_far.2;
      accepted = accepted;
      line_is = line;
      stops = stops;
    }
