-- The player's fault in words.
use Rattle.std.specs.Prelude.{ℕ, List, ◌++◌, codes, decimal}
use Rattle.sources.specs.Faults.{fault_text}
use Rattle.player.specs.declared.fault.PlayerFault.{PlayerFault}

-- the source's fault, and the place
abbrev pub player_fault_text : PlayerFault → List ℕ
player_fault_text f = fault_text f.fault ++ (codes " place " ++ decimal f.place)
