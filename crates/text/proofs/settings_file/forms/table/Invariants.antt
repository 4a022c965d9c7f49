use Rattle.std.proofs.Common.{◌≡◌, map, take}
use Rattle.text.proofs.settings_file.forms.table.Given as goal

abbrev pub invariant-loop-row : goal.invariant-loop-row
invariant-loop-row l =
    (l.amplitudes.items ≡ map (λ row. row.0) (take l.row-index l.row-items))
    × (l.phases.items ≡ map (λ row. row.1) (take l.row-index l.row-items))
