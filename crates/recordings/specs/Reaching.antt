-- The law of opening, in terms of the chunks by their numbers: where the data is found, or what stops the way to it.
use Rattle.std.specs.Prelude.{◌≡◌, ℕ, ◌+◌, ◌*◌, ◌%◌, ◌<◌, ◌≤◌, Bool, false, ◌⊎◌, ◌↔◌, List, ◌∷◌, ◌++◌, length, codes, IsTrue}
use Rattle.std.specs.Fn.{iterate}
use Rattle.std.specs.List.{AllPass}
use Rattle.recordings.specs.declared.format.Format.{Format}
use Rattle.recordings.specs.declared.chunks.Found.{Found}
use Rattle.recordings.specs.declared.refusal.OpeningRefusal.{OpeningRefusal}
use Rattle.recordings.specs.Bytes.{u16_at, u32_at}
use Rattle.recordings.specs.Chunks.{mark, Test, head, size_at, chunk_end, chunk_tests}
use Rattle.recordings.specs.Rates.{good_rate}

-- where chunk n begins; the first is chunk 0
abbrev pub place_of : List ℕ → ℕ → ℕ
place_of b n = iterate (chunk_end b) n 12

-- chunk n has this name
abbrev pub Named : List ℕ → List ℕ → ℕ → Type 0
Named b name n = u32_at b (place_of b n) ≡ mark name

-- chunk n lies within the bytes, with its pad byte
abbrev pub LiesWithin : List ℕ → ℕ → Type 0
LiesWithin b n = chunk_end b (place_of b n) ≤ length b

-- chunk n is the first of this name
pub record FirstNamed (b name : List ℕ) (n : ℕ) : Type 0 where
  pub here : Named b name n
  pub none_before : (k : ℕ) → k < n → Named b name k → ⊥

-- the head has both marks and the length
pub record HasHead (b : List ℕ) : Type 0 where
  pub room : 12 ≤ length b
  pub riff : u32_at b 0 ≡ mark (codes "RIFF")
  pub size : u32_at b 4 + 8 ≡ length b
  pub wave : u32_at b 8 ≡ mark (codes "WAVE")

-- the format chunk at s has each field as the format f and the rate require
pub record HasFields (f : Format) (b : List ℕ) (s : ℕ) : Type 0 where
  pub size : size_at b s ≡ 16
  pub tag : u16_at b (s + 8) ≡ 1
  pub channels : u16_at b (s + 10) ≡ f.channels
  pub rate : IsTrue (good_rate (u32_at b (s + 12)))
  pub byte_rate : u32_at b (s + 16) ≡ u32_at b (s + 12) * f.align
  pub align : u16_at b (s + 20) ≡ f.align
  pub bits : u16_at b (s + 22) ≡ f.bits

-- the chunks before chunk n are passed over: none is named data, all lie within the bytes, and the first format chunk has its fields
pub record PassedOver (f : Format) (b : List ℕ) (n : ℕ) : Type 0 where
  pub no_data : (k : ℕ) → k < n → Named b (codes "data") k → ⊥
  pub within : (k : ℕ) → k < n → LiesWithin b k
  pub fields : (m : ℕ) → m < n → FirstNamed b (codes "fmt ") m → HasFields f b (place_of b m)

-- the data is found in chunk n, the first that is named data, at the rate of chunk m before it, the first format chunk
pub record Reached (f : Format) (b : List ℕ) (found : Found) : Type 0 where
  pub has_head : HasHead b
  pub n : ℕ
  pub passed : PassedOver f b n
  pub data_chunk : Named b (codes "data") n
  pub within : LiesWithin b n
  pub whole_items : size_at b (place_of b n) % f.align ≡ 0
  pub m : ℕ
  pub format_before : m < n
  pub format_chunk : FirstNamed b (codes "fmt ") m
  pub rate : found.rate ≡ u32_at b (place_of b m + 12)
  pub start : found.start ≡ place_of b n + 8
  pub size : found.size ≡ size_at b (place_of b n)

-- the first of the tests that fails is refused with e
pub record FirstFailing (tests : List Test) (e : OpeningRefusal) : Type 0 where
  pub before : List Test
  pub after : List Test
  pub tests_are : tests ≡ before ++ (false, e) ∷ after
  pub pass : AllPass (λ t. t.0) before

-- the way stops at chunk n: those before it are passed over, and e is the refusal of its first test that fails
pub record StopsAtChunk (f : Format) (b : List ℕ) (e : OpeningRefusal) : Type 0 where
  pub has_head : HasHead b
  pub n : ℕ
  pub passed : PassedOver f b n
  pub formatted : Bool
  pub formatted_is : IsTrue formatted ↔ ((m : ℕ) × (m < n) × Named b (codes "fmt ") m)
  pub fails : FirstFailing (chunk_tests formatted f b (place_of b n)) e

-- the way to the data stops in the head or at a chunk
abbrev pub Stopped : Format → List ℕ → OpeningRefusal → Type 0
Stopped f b e = FirstFailing (head b) e ⊎ StopsAtChunk f b e
