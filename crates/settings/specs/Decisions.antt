-- Decided facts: a proof of the fact, or of its contrary.
use Rattle.std.specs.Prelude.{ℕ, ◌+◌, ◌≤◌, Bool, true, false, T, List, [], ◌∷◌, ℤ, ◌≤ℤ◌, Ok, Err, Result, int_le}
use Rattle.std.proofs.Math.Decide.{dec_le}
use Rattle.std.specs.Int.Signed.{le_z_yes}
use Rattle.std.specs.List.{AllByRecursion}

-- both facts
abbrev pub both : {P Q : Type 0} → Dec P → Dec Q → Dec (P × Q)
both (yes p) (yes q) = yes (p, q)
both (yes p) (no n) = no (λ h. n h.1)
both (no n) q = no (λ h. n h.0)

-- a is at most x, and x at most b
abbrev pub between : (a x b : ℕ) → Dec ((a ≤ x) × (x ≤ b))
between a x b = both (dec_le a x) (dec_le x b)

-- a test that came out true
abbrev pub tested : (b : Bool) → Dec (T b)
tested true = yes tt
tested false = no (λ f. f)

-- an order, by its test
abbrev pub ordered : {a b : ℤ} → Dec (T (int_le a b)) → Dec (a ≤ℤ b)
ordered (yes t) = yes (le_z_yes t)
ordered (no n) = no (λ h. n h.le)

-- the same of signed numbers
abbrev pub between_ℤ : (a x b : ℤ) → Dec ((a ≤ℤ x) × (x ≤ℤ b))
between_ℤ a x b = both (ordered (tested (int_le a x))) (ordered (tested (int_le x b)))

-- what is made of the fact, or else the refusal
abbrev pub checked : {P X E : Type 0} → Dec P → (P → X) → E → Result X E
checked (yes p) make e = Ok (make p)
checked (no n) make e = Err e

-- what is made of two facts, or else their refusal
abbrev pub made_of : {P Q X E : Type 0} → Result (P × Q) E → (P → Q → X) → Result X E
made_of (Ok h) make = Ok (make h.0 h.1)
made_of (Err e) make = Err e

-- the two facts, or the refusal of the first that fails
abbrev pub also : {P Q E : Type 0} → Dec P → E → Result Q E → Result (P × Q) E
also (no n) e q = Err e
also (yes p) e (Err f) = Err f
also (yes p) e (Ok q) = Ok (p, q)

-- the fact of every element, or else the refusal of the first that has it not; the first element's place is k
abbrev pub each_checked : {X E : Type 0} {P : X → Type 0} → ((x : X) → Dec (P x)) → (ℕ → E) → ℕ → (xs : List X) → Result (AllByRecursion P xs) E
each_checked decide refusal k [] = Ok tt
each_checked decide refusal k (x ∷ xs) = also (decide x) (refusal k) (each_checked decide refusal (k + 1) xs)

-- what is made of a fact of the whole list and of the fact of each element, or else the first refusal
abbrev pub checked_list : {P X Y E : Type 0} {Q : X → Type 0} → Dec P → E → ((x : X) → Dec (Q x)) → (ℕ → E) → (xs : List X) → (P → AllByRecursion Q xs → Y) → Result Y E
checked_list whole refusal decide each xs make = made_of (also whole refusal (each_checked decide each 0 xs)) make
