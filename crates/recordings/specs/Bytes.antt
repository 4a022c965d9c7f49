-- Numbers in bytes, the lowest byte first.
use Rattle.std.specs.Prelude.{ℕ, ◌+◌, ◌*◌, ◌/◌, ◌%◌, List, [], ◌∷◌, ◌++◌, length, take, drop, slice_index}

-- the 16-bit and the 32-bit number at place s
abbrev pub u16_at : List ℕ → ℕ → ℕ
u16_at b s = slice_index b s + 256 * slice_index b (s + 1)

abbrev pub u32_at : List ℕ → ℕ → ℕ
u32_at b s = u16_at b s + 65536 * u16_at b (s + 2)

-- a number in two and in four bytes
abbrev pub le16 : ℕ → List ℕ
le16 v = v % 256 ∷ v / 256 ∷ []

abbrev pub le32 : ℕ → List ℕ
le32 v = v % 256 ∷ v / 256 % 256 ∷ v / 65536 % 256 ∷ v / 16777216 ∷ []

-- the bytes b after xs was written at place s
abbrev pub overwrite : ℕ → List ℕ → List ℕ → List ℕ
overwrite s xs b = take s b ++ (xs ++ drop (s + length xs) b)
