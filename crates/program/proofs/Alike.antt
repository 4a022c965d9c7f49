-- Wholes that are the same have no difference.
use Rattle.std.proofs.Common.{◌≡◌, Bool, true, List, [], ◌∷◌, None, vec_items, refl, ap, ◌∙◌, sym}
use Rattle.std.proofs.lemmas.Bool.{cond-true, and_from}
use Rattle.std.specs.Cmp.Lexicographic.{pointwise}
use Rattle.sources.specs.Differences.{whole_difference}
use Rattle.sources.specs.declared.whole.Whole.{Whole}

same_items : {T : Type 0} (eq : T → T → Bool) → ((x : T) → eq x x ≡ true) → (xs : List T) → pointwise eq xs xs ≡ true
same_items eq same [] = refl
same_items eq same (x ∷ xs) = and_from (eq x x) (pointwise eq xs xs) (same x) (same_items eq same xs)

pub no_difference : {T E : Type 0} (eq : T → T → Bool) (ends : E → E → Bool) → ((x : T) → eq x x ≡ true) → ((e : E) → ends e e ≡ true)
    → (one other : Whole T E) → vec_items one.items ≡ vec_items other.items → one.ending ≡ other.ending → whole_difference eq ends one other ≡ None
no_difference eq ends same same_end one other items ending =
    let k : pointwise eq (vec_items one.items) (vec_items other.items) ≡ true = ap (pointwise eq (vec_items one.items)) (sym items) ∙ same_items eq same (vec_items one.items) in
    let l : ends one.ending other.ending ≡ true = ap (ends one.ending) (sym ending) ∙ same_end one.ending in
    cond-true _ None _ (and_from (pointwise eq (vec_items one.items) (vec_items other.items)) (ends one.ending other.ending) k l)
