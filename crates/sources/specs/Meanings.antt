-- What each lowest source and each stage means by its whole and its left, from its own state and from what the sources
-- below mean. A pile's meaning is these, one in the other.
use Rattle.std.specs.Prelude.{List}
use Rattle.sources.specs.Streams.{Stream}
use Rattle.sources.specs.Wholes.{each, transformed, held, behind_lead, paired, kept_before}
use Rattle.sources.specs.declared.each.Each.{Each}
use Rattle.sources.specs.declared.held.Held.{Held}
use Rattle.sources.specs.declared.lead.Lead.{Lead}
use Rattle.sources.specs.declared.listed.Listed.{Listed}
use Rattle.sources.specs.declared.pairing.Pairing.{Pairing}
use Rattle.sources.specs.declared.scan.Scan.{Scan}

-- a list of items: all of them, and those that are left
abbrev pub listed_whole : {T : Type 0} → Listed T → Stream T
listed_whole s = record { items = s.whole.now; ending = s.ending }

abbrev pub listed_left : {T : Type 0} → Listed T → Stream T
listed_left s = record { items = s.left.now; ending = s.ending }

-- a held item: all its times, and the times that remain
abbrev pub held_whole : {T : Type 0} → Held T → Stream T
held_whole s = held s.times s.item

abbrev pub held_left : {T : Type 0} → Held T → Stream T
held_left s = held s.remaining s.item

-- a stage without a memory, `formula` being what its mapping means
abbrev pub each_whole : {S M A B : Type 0} → (M → A → B) → (S → Stream A) → Each S M → Stream B
each_whole formula whole s = each (formula s.mapping) (whole s.below)

abbrev pub each_left : {S M A B : Type 0} → (M → A → B) → (S → Stream A) → Each S M → Stream B
each_left formula left s = each (formula s.mapping) (left s.below)

-- a stage with a memory: what it makes from its start, and from where it stands
abbrev pub scan_whole : {S M A B : Type 0} → (M → List A → List B) → (S → Stream A) → Scan S M → Stream B
scan_whole fresh whole s = transformed (fresh s.memory) (whole s.below)

abbrev pub scan_left : {S M A B : Type 0} → (M → List A → List B) → (S → Stream A) → Scan S M → Stream B
scan_left makes left s = transformed (makes s.memory) (left s.below)

-- a lead: all copies, and the copies that remain
abbrev pub lead_whole : {S T : Type 0} → (S → Stream T) → Lead S T → Stream T
lead_whole whole s = behind_lead s.copies.times s.copies.item (whole s.below)

abbrev pub lead_left : {S T : Type 0} → (S → Stream T) → Lead S T → Stream T
lead_left left s = behind_lead s.copies.remaining s.copies.item (left s.below)

-- a pairing
abbrev pub pairing_whole : {A B T U : Type 0} → (A → Stream T) → (B → Stream U) → Pairing A B T → Stream (T × U)
pairing_whole whole whole' s = paired (whole s.first) (whole' s.second)

-- an item that is kept stands before what is left of the first
abbrev pub pairing_left : {A B T U : Type 0} → (A → Stream T) → (B → Stream U) → Pairing A B T → Stream (T × U)
pairing_left left left' s = paired (kept_before s.kept (left s.first)) (left' s.second)
