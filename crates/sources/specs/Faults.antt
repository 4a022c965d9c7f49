-- The number of each fault, and a fault in words.
use Rattle.std.specs.Prelude.{ℕ, List, ◌++◌, codes, decimal}
use Rattle.sources.specs.declared.fault.Fault.{Fault}
use Rattle.sources.specs.declared.fault.FaultKind.{FaultKind}
use Rattle.sources.specs.declared.fault.FaultKind.TheVariants.{LowBits, GainOver, Other}

-- a source of somebody else's has the number that its writer chose
abbrev pub fault_number : FaultKind → ℕ
fault_number LowBits = 12
fault_number GainOver = 13
fault_number (Other number) = number

-- what is wrong; of a fault that is none of ours, its number
abbrev pub kind_text : FaultKind → List ℕ
kind_text LowBits = codes "the low four bits of a part are not 0"
kind_text GainOver = codes "a gain byte is over 127"
kind_text (Other number) = codes "fault " ++ decimal number

-- its number, the input that has it, and the item there
abbrev pub fault_text : Fault → List ℕ
fault_text f = codes "fault " ++ (decimal (fault_number f.kind) ++ (codes " input " ++ (decimal f.input ++ (codes " item " ++ decimal f.item))))

-- its number, and the item
abbrev pub at_item_text : Fault → List ℕ
at_item_text f = codes "fault " ++ (decimal (fault_number f.kind) ++ (codes " at item " ++ decimal f.item))
