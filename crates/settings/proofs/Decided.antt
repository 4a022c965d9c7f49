-- What a check of a fact, or of a list's and its elements' facts, comes to.
use Rattle.std.proofs.Common.{◌≡◌, ℕ, zero, suc, ◌+◌, List, [], ◌∷◌, Ok, Err, Result, refl, ap, ◌∙◌, suc-le-suc, zero-le, zero-add, arith}
use Rattle.std.specs.List.{AllByRecursion}
use Rattle.settings.specs.Decisions.{checked, made_of, also, each_checked, checked_list}
use Rattle.settings.specs.Firsts.{First}

-- the fact holds
pub made : {P X E : Type 0} (d : Dec P) (make : P → X) (e : E) (p : P) → IsProp P → Ok (make p) ≡ checked d make e
made (yes q) make e p one = ap (λ h. Ok (make h)) (one p q)
made (no n) make e p one = absurd (n p)

module _ {P Q E : Type 0} where
  also_ok : (one : IsProp P) (d : Dec P) (e : E) (r : Result Q E) (p : P) (q : Q) → r ≡ Ok q → also d e r ≡ Ok (p, q)
  also_ok one (yes h) e r p q k = rw k (ap (λ v. Ok (v, q)) (one h p))
  also_ok one (no n) e r p q k = absurd (n p)

  also_first : (d : Dec P) (e : E) (r : Result Q E) → (P → ⊥) → also d e r ≡ Err e
  also_first (yes p) e r n = absurd (n p)
  also_first (no m) e r n = refl

  also_second : (d : Dec P) (e f : E) (r : Result Q E) → P → r ≡ Err f → also d e r ≡ Err f
  also_second (yes h) e f r p k = rw k
  also_second (no n) e f r p k = absurd (n p)

module _ {X E : Type 0} {Q : X → Type 0} (decide : (x : X) → Dec (Q x)) (refusal : ℕ → E) where
  all_accepted : (one : (x : X) → IsProp (Q x)) (k : ℕ) (xs : List X) (h : AllByRecursion Q xs) → each_checked decide refusal k xs ≡ Ok h
  all_accepted one k [] h = refl
  all_accepted one k (x ∷ xs) h = also_ok (one x) (decide x) (refusal k) _ h.0 h.1 (all_accepted one (k + 1) xs h.1)

  first_wrong : (k : ℕ) (xs : List X) (i : ℕ) → First Q xs i → each_checked decide refusal k xs ≡ Err (refusal (k + i))
  first_wrong k [] i f = absurd (omega (arith, f.there))
  first_wrong k (x ∷ xs) zero f = also_first (decide x) (refusal k) _ (f.wrong x) ∙ ap (λ (n : ℕ). Err (refusal n)) (omega arith)
  first_wrong k (x ∷ xs) (suc i) f =
      let later : First Q xs i =
      record { there = omega (arith, f.there); wrong = f.wrong; before = λ j d l h. f.before (suc j) d zero-le (suc-le-suc h) } in
      also_second (decide x) (refusal k) _ _ (f.before 0 x zero-le (suc-le-suc zero-le)) (first_wrong (k + 1) xs i later)
      ∙ ap (λ (n : ℕ). Err (refusal n)) (omega arith)

  module _ {P Y : Type 0} (whole : Dec P) (e : E) (xs : List X) (make : P → AllByRecursion Q xs → Y) where
    pub list_made : IsProp P → ((x : X) → IsProp (Q x)) → (p : P) (h : AllByRecursion Q xs) → checked_list whole e decide refusal xs make ≡ Ok (make p h)
    list_made one each p h = ap (λ r. made_of r make) (also_ok one whole e _ p h (all_accepted each 0 xs h))

    pub whole_refused : (P → ⊥) → checked_list whole e decide refusal xs make ≡ Err e
    whole_refused n = ap (λ r. made_of r make) (also_first whole e (each_checked decide refusal 0 xs) n)

    pub element_refused : P → (k : ℕ) → First Q xs k → checked_list whole e decide refusal xs make ≡ Err (refusal k)
    element_refused p k f =
        ap (λ r. made_of r make) (also_second whole e (refusal k) _ p (first_wrong 0 xs k f ∙ ap (λ (n : ℕ). Err (refusal n)) (zero-add k)))
