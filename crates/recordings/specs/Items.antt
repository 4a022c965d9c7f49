-- What the data of a recording holds.
use Rattle.std.specs.Prelude.{ℕ, ◌+◌, ◌-◌, ◌*◌, ◌/◌, ◌%◌, Bool, cond, ◌&&◌, List, [], ◌∷◌, length, take, drop, ℤ, pos, negsuc, Ok, Err, Result, ◌==◌, nat_le, nat_lt, slice_index}
use Rattle.samples.specs.Arithmetic.{floor_by}
use Rattle.samples.specs.Kinds.{converter, gain_index}
use Rattle.samples.specs.declared.gain_index.GainIndex.{GainIndex}
use Rattle.samples.specs.declared.kinds.ConverterSample.{ConverterSample}
use Rattle.sources.specs.declared.fault.FaultKind.{FaultKind}
use Rattle.sources.specs.declared.fault.FaultKind.TheVariants.{LowBits, GainOver}
use Rattle.sources.specs.Streams.{Ending, Stream, tabulate}
use Rattle.recordings.specs.Bytes.{u16_at}

-- 16 bits as a signed number
abbrev pub signed16 : ℕ → ℤ
signed16 w = cond (nat_lt w 32768) (pos w) (negsuc (65535 - w))

-- the upper 12 of 16 bits
abbrev pub part_of : ℕ → ℤ
part_of w = floor_by (signed16 w) 16

-- the low four bits of both parts are 0
abbrev pub low_bits_clear : List ℕ → Bool
low_bits_clear b = u16_at b 0 % 16 == 0 && u16_at b 2 % 16 == 0

-- the sample in four bytes, or what is wrong with it; a recording never reads another number of bytes
abbrev pub signal_item : List ℕ → Result ConverterSample FaultKind
signal_item b = cond (length b == 4 && low_bits_clear b) (Ok (converter (part_of (u16_at b 0)) (part_of (u16_at b 2)))) (Err LowBits)

-- the gain index in one byte, or what is wrong with it; a recording never reads another number of bytes
abbrev pub gain_item : List ℕ → Result GainIndex FaultKind
gain_item b = cond (length b == 1 && nat_le (slice_index b 0) 127) (Ok (gain_index (pos (slice_index b 0)))) (Err GainOver)

-- item k of the data d, with a bytes for each item
abbrev pub item_at : {T : Type 0} → (List ℕ → Result T FaultKind) → ℕ → List ℕ → ℕ → Result T FaultKind
item_at meaning a d k = meaning (take a (drop (k * a) d))

-- the items before the first that has a fault
abbrev pub good_items : {T : Type 0} → List (Result T FaultKind) → List T
good_items [] = []
good_items (Err kind ∷ xs) = []
good_items (Ok x ∷ xs) = x ∷ good_items xs

-- how they end, if the first of them has the place k: where one has a fault, with that fault, its input and its place
abbrev pub ending_of : {T : Type 0} → ℕ → ℕ → List (Result T FaultKind) → Ending
ending_of input k [] = Ok tt
ending_of input k (Err kind ∷ xs) = Err (record { kind = kind; input = input; item = k })
ending_of input k (Ok x ∷ xs) = ending_of input (k + 1) xs

abbrev pub before_fault : {T : Type 0} → ℕ → ℕ → List (Result T FaultKind) → Stream T
before_fault input k xs = record { items = good_items xs; ending = ending_of input k xs }

-- what the first n items of the data d are, if the first of them has the place k
abbrev pub held_from : {T : Type 0} → (List ℕ → Result T FaultKind) → ℕ → ℕ → ℕ → ℕ → List ℕ → Stream T
held_from meaning a input k n d = before_fault input k (tabulate (item_at meaning a d) 0 n)

-- everything that the data d hold
abbrev pub whole_of : {T : Type 0} → (List ℕ → Result T FaultKind) → ℕ → ℕ → List ℕ → Stream T
whole_of meaning a input d = held_from meaning a input 0 (length d / a) d

-- what the rest r of the data d holds
abbrev pub left_of : {T : Type 0} → (List ℕ → Result T FaultKind) → ℕ → ℕ → List ℕ → List ℕ → Stream T
left_of meaning a input d r = held_from meaning a input ((length d - length r) / a) (length r / a) r
