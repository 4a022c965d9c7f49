-- Opening, up to the data: the tests in byte order, and what the first that fails answers.
use Rattle.std.specs.Prelude.{ℕ, zero, suc, ◌+◌, ◌*◌, ◌%◌, ◌≤◌, Bool, true, false, cond, List, [], ◌∷◌, length, Some, None, Ok, Err, codes, is_some, Option, Result, ◌==◌, nat_le}
use Rattle.recordings.specs.declared.format.Format.{Format}
use Rattle.recordings.specs.declared.chunks.ChunkKind.{ChunkKind}
use Rattle.recordings.specs.declared.chunks.ChunkKind.TheVariants as kinds
use Rattle.recordings.specs.declared.chunks.Found.{Found}
use Rattle.recordings.specs.declared.chunks.Step.{Step}
use Rattle.recordings.specs.declared.chunks.Step.TheVariants as steps
use Rattle.recordings.specs.declared.refusal.OpeningRefusal.{OpeningRefusal}
use Rattle.recordings.specs.declared.refusal.OpeningRefusal.TheVariants.{TooShort, WrongHead, WrongField, DataBeforeFormat}
use Rattle.recordings.specs.declared.refusal.HeadField.TheVariants.{Riff, Length, Wave}
use Rattle.recordings.specs.declared.refusal.Field.TheVariants.{FormatSize, Tag, Channels, Rate, ByteRate, Align, Bits, DataSize}
use Rattle.recordings.specs.Bytes.{u16_at, u32_at}
use Rattle.recordings.specs.Rates.{good_rate}

-- a mark of four letters, as the number that its bytes make
abbrev pub mark : List ℕ → ℕ
mark name = u32_at name 0

-- a test, and the refusal where it fails
abbrev pub Test : Type 0
Test = Bool × OpeningRefusal

-- the answer where every test passes, else the refusal of the first that fails
abbrev pub tested : {A : Type 0} → List Test → Result A OpeningRefusal → Result A OpeningRefusal
tested [] a = a
tested (t ∷ ts) a = cond t.0 (tested ts a) (Err t.1)

-- the head: enough bytes, both marks, and the length
abbrev pub head : List ℕ → List Test
head b =
    (nat_le 12 (length b), TooShort 0)
    ∷ (u32_at b 0 == mark (codes "RIFF"), WrongHead Riff)
    ∷ (u32_at b 4 + 8 == length b, WrongHead Length)
    ∷ (u32_at b 8 == mark (codes "WAVE"), WrongHead Wave)
    ∷ []

-- which chunk begins at s
abbrev pub kind_of : ℕ → ChunkKind
kind_of name = cond (name == mark (codes "fmt ")) kinds.Format (cond (name == mark (codes "data")) kinds.Data kinds.Other)

abbrev pub kind_at : List ℕ → ℕ → ChunkKind
kind_at b s = kind_of (u32_at b s)

-- the size in the head of the chunk at s
abbrev pub size_at : List ℕ → ℕ → ℕ
size_at b s = u32_at b (s + 4)

-- where the chunk at s ends, with the pad byte after an odd size
abbrev pub chunk_end : List ℕ → ℕ → ℕ
chunk_end b s = s + 8 + size_at b s + size_at b s % 2

-- the chunk at s lies within the bytes
abbrev pub complete : List ℕ → ℕ → Test
complete b s = (nat_le (chunk_end b s) (length b), TooShort s)

-- the fields of the format chunk at s
abbrev pub field_tests : Format → List ℕ → ℕ → List Test
field_tests f b s =
    (u16_at b (s + 8) == 1, WrongField Tag (s + 8))
    ∷ (u16_at b (s + 10) == f.channels, WrongField Channels (s + 10))
    ∷ (good_rate (u32_at b (s + 12)), WrongField Rate (s + 12))
    ∷ (u32_at b (s + 16) == u32_at b (s + 12) * f.align, WrongField ByteRate (s + 16))
    ∷ (u16_at b (s + 20) == f.align, WrongField Align (s + 20))
    ∷ (u16_at b (s + 22) == f.bits, WrongField Bits (s + 22))
    ∷ []

-- the format chunk at s
abbrev pub format_tests : Format → List ℕ → ℕ → List Test
format_tests f b s = (size_at b s == 16, WrongField FormatSize (s + 4)) ∷ complete b s ∷ field_tests f b s

-- the data chunk at s
abbrev pub data_tests : Format → List ℕ → ℕ → List Test
data_tests f b s =
    (size_at b s % f.align == 0, WrongField DataSize (s + 4))
    ∷ complete b s
    ∷ []

-- the tests of the chunk at s behind its head, in their order, where a format chunk came before it or not
abbrev pub tests_of : ChunkKind → Bool → Format → List ℕ → ℕ → List Test
tests_of kinds.Format false f b s = format_tests f b s
tests_of kinds.Format true f b s = complete b s ∷ []
tests_of kinds.Data false f b s = (false, DataBeforeFormat s) ∷ []
tests_of kinds.Data true f b s = data_tests f b s
tests_of kinds.Other formatted f b s = complete b s ∷ []

-- what it leads to behind its tests, where the rate is known from a format chunk before it or not
abbrev pub leads_to : ChunkKind → List ℕ → ℕ → Option ℕ → Result Step OpeningRefusal
leads_to kinds.Format b s None = Ok (steps.Onward (chunk_end b s) (Some (u32_at b (s + 12))))
leads_to kinds.Format b s (Some rate) = Ok (steps.Onward (chunk_end b s) (Some rate))
leads_to kinds.Data b s None = Err (DataBeforeFormat s)
leads_to kinds.Data b s (Some rate) = Ok (steps.Data (record { rate = rate; start = s + 8; size = size_at b s }))
leads_to kinds.Other b s rate = Ok (steps.Onward (chunk_end b s) rate)

abbrev pub chunk_of : ChunkKind → Format → List ℕ → ℕ → Option ℕ → Result Step OpeningRefusal
chunk_of kind f b s rate = tested (tests_of kind (is_some rate) f b s) (leads_to kind b s rate)

-- all tests of the chunk at s
abbrev pub chunk_tests : Bool → Format → List ℕ → ℕ → List Test
chunk_tests formatted f b s = (nat_le (s + 8) (length b), TooShort s) ∷ tests_of (kind_at b s) formatted f b s

-- what the chunk at s answers
abbrev pub chunk : Format → List ℕ → ℕ → Option ℕ → Result Step OpeningRefusal
chunk f b s rate = tested (chunk_tests (is_some rate) f b s) (leads_to (kind_at b s) b s rate)

-- it leads onward behind its own head, and stays within the bytes
abbrev pub Inside : List ℕ → ℕ → Step → Type 0
Inside b s (steps.Onward t rate) = (s + 8 ≤ t) × (t ≤ length b)
Inside b s (steps.Data found) = found.start + found.size ≤ length b

-- one chunk, and from there on
abbrev pub from_step : Result Step OpeningRefusal → (ℕ → Option ℕ → Result Found OpeningRefusal) → Result Found OpeningRefusal
from_step (Err e) onward = Err e
from_step (Ok (steps.Data found)) onward = Ok found
from_step (Ok (steps.Onward s rate)) onward = onward s rate

-- the chunks from s on, of which there can be at most n
abbrev pub chunks : Format → List ℕ → ℕ → ℕ → Option ℕ → Result Found OpeningRefusal
chunks f b zero s rate = Err (TooShort s)
chunks f b (suc n) s rate = from_step (chunk f b s rate) (chunks f b n)

-- the data, or why there is none
abbrev pub find_data : Format → List ℕ → Result Found OpeningRefusal
find_data f b = tested (head b) (chunks f b (length b) 12 None)
