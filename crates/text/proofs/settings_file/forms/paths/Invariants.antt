use Rattle.std.proofs.Common.{◌≡◌, map, take}
use Rattle.text.specs.Forms.{path_of}
use Rattle.text.proofs.settings_file.forms.paths.Given as goal

abbrev pub invariant-loop-row : goal.invariant-loop-row
invariant-loop-row l = l.paths.items ≡ map path_of (take l.row-index l.row-items)
