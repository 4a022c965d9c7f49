-- The columns of a line, one after the other.
use Rattle.std.proofs.Common.{◌≡◌, ◌<◌, List, [], ◌∷◌, ◌==◌, length, map, ap, refl, ℕ, arith}
use Rattle.std.proofs.lemmas.Grind.{common_steps}
use Rattle.std.proofs.lemmas.List.Splits.{slice_split_first}
use Rattle.std.specs.List.{after_first, before_first, position_or_len, slice_split}
use Rattle.std.specs.Str.{trim}
use Rattle.comparison.specs.Tables.{bar, columns}

-- the first column ends at the first bar
pub columns_first : (s : List ℕ) → position_or_len (λ b. b == bar) s < length s → columns s ≡ trim (before_first (λ b. b == bar) s) ∷ columns (after_first (λ b. b == bar) s)
columns_first s h = ap (map trim) (slice_split_first (λ b. b == bar) s 0 h)

-- without a bar there is one column
unsplit : (s : List ℕ) → position_or_len (λ b. b == bar) s ≡ length s → slice_split (λ b. b == bar) s ≡ s ∷ []
unsplit [] h = refl
unsplit (x ∷ xs) h = grind (arith, common_steps, unsplit xs)

pub columns_last : (s : List ℕ) → position_or_len (λ b. b == bar) s ≡ length s → columns s ≡ trim s ∷ []
columns_last s h = ap (map trim) (unsplit s h)
