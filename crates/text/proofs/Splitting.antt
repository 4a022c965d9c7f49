-- Lines come off the bytes one after the other.
use Rattle.std.proofs.Common.{◌≡◌, ℕ, ◌<◌, ◌≤◌, List, [], ◌∷◌, length, false, refl, sym, ap, ◌∙◌, arith, ◌==◌}
use Rattle.std.specs.List.{All, slice_split}
use Rattle.std.proofs.lemmas.Bool.Decides.{nat_tests}
use Rattle.std.proofs.lemmas.List.{get_or_default}
use Rattle.std.proofs.lemmas.List.Splits.{slice_split_none, slice_split_at, length-slice_split}
use Rattle.text.specs.Lines.{feed, FirstLine, without_empty_end, lines_of}
use Rattle.std.proofs.Math.Nat.{eq-or-lt_of_le}
use mathlib.Core.Logic.{inl, inr}

no_feed : (bytes line left : List ℕ) → FirstLine bytes line left → All (λ b. (b == feed) ≡ false) line
no_feed bytes line left first k d within =
    let apart = first.unbroken k within in
    rw (get_or_default line k d 0 within) (grind (arith, nat_tests, apart))

onto_more : (line : List ℕ) (parts : List (List ℕ)) → 0 < length parts → without_empty_end (line ∷ parts) ≡ line ∷ without_empty_end parts
onto_more line [] some = absurd (omega arith)
onto_more line (part ∷ parts) some = refl

last_line : (line : List ℕ) → 0 < length line → without_empty_end (line ∷ []) ≡ line ∷ []
last_line line some = grind (arith, nat_tests)

-- the first line and what is left have all the lines
pub first_of_lines : (bytes line left : List ℕ) → FirstLine bytes line left → length line ≤ length bytes → 0 < length bytes → lines_of bytes ≡ line ∷ lines_of left
first_of_lines bytes line left first within some =
    elim (eq-or-lt_of_le within) [
      | inr h ↦
          ap lines_of (first.ended h) ∙ ap without_empty_end (slice_split_at (λ b. b == feed) line feed left (no_feed bytes line left first) refl)
          ∙ onto_more line (slice_split (λ b. b == feed) left) (rw (length-slice_split (λ b. b == feed) left) (omega arith))
      | inl h ↦
          let whole = first.unended h in
          ap lines_of whole.0 ∙ ap without_empty_end (slice_split_none (λ b. b == feed) line (no_feed bytes line left first))
          ∙ last_line line (omega arith) ∙ ap (λ l. line ∷ lines_of l) (sym whole.1)
    ]
