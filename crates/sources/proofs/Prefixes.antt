-- How far two lists agree.
use Rattle.std.proofs.Common.{◌≡◌, ℕ, ◌+◌, ◌≤◌, Bool, true, false, not, cond, List, [], ◌∷◌, length, min, Some, None, refl, ap, ◌∙◌, arith, nat_eq, nat_lt, ◌&&◌, unwrap_or}
use Rattle.std.proofs.lemmas.Grind.{common_steps}
use Rattle.std.proofs.lemmas.List.Sums.{common_prefix_len-le}
use Rattle.std.proofs.lemmas.Slice.Zip.{length-zip}
use Rattle.std.specs.Cmp.Lexicographic.{pointwise}
use Rattle.std.specs.List.{common_prefix_len, position, position_or_len, zip}
use Rattle.sources.specs.Differences.{difference}

-- the first pair that differs, or the shorter length where none does
along_zip : {T : Type 0} (eq : T → T → Bool) (xs ys : List T) → position_or_len (λ p. not (eq p.0 p.1)) (zip xs ys) ≡ common_prefix_len eq xs ys
along_zip eq [] ys = refl
along_zip eq (x ∷ xs) [] = refl
along_zip eq (x ∷ xs) (y ∷ ys) =
    elim (eq x y) as (λ b. cond (not (not b)) (1 + position_or_len (λ p. not (eq p.0 p.1)) (zip xs ys)) 0 ≡ cond b (1 + common_prefix_len eq xs ys) 0)
    [ true ↦ ap (λ n. 1 + n) (along_zip eq xs ys) | false ↦ refl ]

-- lists that agree throughout agree as far as each of them is long
prefix_of_alike : {T : Type 0} (eq : T → T → Bool) (xs ys : List T) → pointwise eq xs ys ≡ true → (common_prefix_len eq xs ys ≡ length xs) × (common_prefix_len eq xs ys ≡ length ys)
prefix_of_alike eq [] [] h = (refl, refl)
prefix_of_alike eq [] (y ∷ ys) h = cc
prefix_of_alike eq (x ∷ xs) [] h = cc
prefix_of_alike eq (x ∷ xs) (y ∷ ys) h = grind (arith, common_steps, prefix_of_alike eq xs ys)

pub prefix_is_all : {T : Type 0} (eq : T → T → Bool) (xs ys : List T) → pointwise eq xs ys ≡ true → common_prefix_len eq xs ys ≡ length xs
prefix_is_all eq xs ys h = (prefix_of_alike eq xs ys h).0

-- and the other way round
alike_by_prefix : {T : Type 0} (eq : T → T → Bool) (xs ys : List T) → common_prefix_len eq xs ys ≡ length xs → common_prefix_len eq xs ys ≡ length ys → pointwise eq xs ys ≡ true
alike_by_prefix eq [] [] h k = refl
alike_by_prefix eq [] (y ∷ ys) h k = absurd (omega arith)
alike_by_prefix eq (x ∷ xs) [] h k = absurd (omega arith)
alike_by_prefix eq (x ∷ xs) (y ∷ ys) h k = grind (arith, common_steps, alike_by_prefix eq xs ys)

-- a number up to the limit, or the limit where there is none below it
limited : (k m n c : ℕ) → k ≡ c → m ≡ n → c ≤ n → unwrap_or (cond (nat_lt k m) (Some k) None) n ≡ c
limited k m n c h i j = grind (arith, common_steps)

-- they differ unless they agree as far as both are long
differs : {T : Type 0} (eq : T → T → Bool) (xs ys : List T) → difference eq xs ys ≡ cond (nat_eq (common_prefix_len eq xs ys) (length xs) && nat_eq (common_prefix_len eq xs ys) (length ys)) None (Some (common_prefix_len eq xs ys))
differs eq xs ys = grind (arith, common_steps, prefix_of_alike eq xs ys, alike_by_prefix eq xs ys)

pub by_agreement : {T : Type 0} (eq : T → T → Bool) (xs ys : List T) (agreed : ℕ)
    → agreed ≡ unwrap_or (position (λ p. not (eq p.0 p.1)) (zip xs ys)) (min (length xs) (length ys))
    → difference eq xs ys ≡ cond (nat_eq agreed (length xs) && nat_eq agreed (length ys)) None (Some agreed)
by_agreement eq xs ys agreed h =
    let within = common_prefix_len-le eq xs ys in
    let k : agreed ≡ common_prefix_len eq xs ys = h ∙ limited _ _ _ _ (along_zip eq xs ys) (length-zip xs ys) (omega arith) in
    rw k (differs eq xs ys)
