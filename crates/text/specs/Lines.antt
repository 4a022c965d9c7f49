-- Lines of bytes: what stands between line feeds.
use Rattle.std.specs.Prelude.{◌≡◌, ℕ, ◌+◌, ◌-◌, ◌^◌, ◌<◌, List, [], ◌∷◌, ◌++◌, length, map, ◌≢◌, ◌==◌, cond, min, slice_index}
use Rattle.std.specs.List.{enumerate_from, slice_split}

-- the byte that ends a line
abbrev pub feed : ℕ
feed = 10

-- the bytes begin with a line, which holds no line feed; behind it stands a line feed and what is left, or nothing
pub record FirstLine (bytes line left : List ℕ) : Type 0 where
  pub unbroken : (k : ℕ) → k < length line → slice_index line k ≢ feed
  pub ended : length line < length bytes → bytes ≡ line ++ feed ∷ left
  pub unended : length line ≡ length bytes → (bytes ≡ line) × (left ≡ [])

-- behind the last line feed an empty part is no line
abbrev pub without_empty_end : List (List ℕ) → List (List ℕ)
without_empty_end [] = []
without_empty_end (part ∷ []) = cond (length part == 0) [] (part ∷ [])
without_empty_end (part ∷ next ∷ more) = part ∷ without_empty_end (next ∷ more)

-- the lines are the parts between line feeds
abbrev pub lines_of : List ℕ → List (List ℕ)
lines_of bytes = without_empty_end (slice_split (λ byte. byte == feed) bytes)

-- the number of a line, as 64 bits tell it
abbrev pub reported_number : ℕ → ℕ
reported_number n = min n (2 ^ 64 - 1)

-- the lines with their numbers, behind so many
abbrev pub numbered : ℕ → List (List ℕ) → List (ℕ × List ℕ)
numbered passed lines = map (λ line. (reported_number line.0, line.1)) (enumerate_from (passed + 1) lines)
