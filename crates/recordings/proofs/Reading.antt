-- Reading one item: what is left loses its first.
use Rattle.std.proofs.Common.{◌≡◌, ℕ, zero, suc, ◌+◌, ◌-◌, ◌*◌, ◌/◌, ◌<◌, ◌≤◌, List, [], ◌∷◌, length, take, drop, Ok, Err, Result, sym, refl, ap, ◌∙◌, ap₂, add-mul, one-mul, zero-mul, arith, length-drop}
use Rattle.std.proofs.Math.Nat.{div-eq-sub-div, div-eq_of_lt}
use Rattle.std.proofs.lemmas.List.{drop-drop}
use Rattle.sources.specs.declared.fault.FaultKind.{FaultKind}
use Rattle.sources.specs.Streams.{tabulate}
use Rattle.recordings.specs.Items.{item_at, good_items, ending_of, before_fault, held_from, left_of}

-- the items from the second on are the items of what is behind the first
shifted : {T : Type 0} (meaning : List ℕ → Result T FaultKind) (a : ℕ) (d : List ℕ) (j n : ℕ) → tabulate (item_at meaning a d) (j + 1) n ≡ tabulate (item_at meaning a (drop a d)) j n
shifted meaning a d j zero = refl
shifted meaning a d j (suc n) =
    let e : drop (j * a) (drop a d) ≡ drop ((j + 1) * a) d = drop-drop (j * a) a d ∙ ap (λ (k : ℕ). drop k d) (omega (arith, add-mul j 1 a, one-mul a)) in
    let x : item_at meaning a d (j + 1) ≡ item_at meaning a (drop a d) j = ap (λ (l : List ℕ). meaning (take a l)) (sym e) in
    let xs = shifted meaning a d (j + 1) n in
    cc

-- the first item, and the items behind it
pub peeled : {T : Type 0} (meaning : List ℕ → Result T FaultKind) (a : ℕ) (d : List ℕ) (n m : ℕ) → n ≡ suc m → tabulate (item_at meaning a d) 0 n ≡ meaning (take a d) ∷ tabulate (item_at meaning a (drop a d)) 0 m
peeled meaning a d n m h =
    let z : item_at meaning a d 0 ≡ meaning (take a d) = ap (λ (k : ℕ). meaning (take a (drop k d))) (zero-mul a) in
    let xs = shifted meaning a d 0 m in
    ap (λ (k : ℕ). tabulate (item_at meaning a d) 0 k) h ∙ ap₂ (λ (y : Result _ FaultKind) (ys : List (Result _ FaultKind)). y ∷ ys) z xs

-- an item less is left, where there is room for one
fewer : (a : ℕ) (r : List ℕ) → 0 < a → a ≤ length r → length r / a ≡ suc (length (drop a r) / a)
fewer a r some h = div-eq-sub-div some h ∙ omega (arith, ap (λ (k : ℕ). k / a) (length-drop a r))

-- and an item more is read
more : (a : ℕ) (d r : List ℕ) → 0 < a → a ≤ length r → length r ≤ length d → (length d - length (drop a r)) / a ≡ (length d - length r) / a + 1
more a d r some h part =
    let l : length d - length (drop a r) - a ≡ length d - length r = omega (arith, length-drop a r) in
    let e : a ≤ length d - length (drop a r) = omega (arith, length-drop a r) in
    div-eq-sub-div some e ∙ ap (λ (k : ℕ). k / a + 1) l

module _ {T : Type 0} (meaning : List ℕ → Result T FaultKind) (a : ℕ) (input : ℕ) (d r : List ℕ) (some : 0 < a) where
  -- no item is left
  pub ends : length r < a → left_of meaning a input d r ≡ record { items = []; ending = Ok tt }
  ends h = ap (λ (k : ℕ). held_from meaning a input ((length d - length r) / a) k r) (div-eq_of_lt h)

  -- where one is left, it is the first, and the others are behind it
  first : (y : Result T FaultKind) → a ≤ length r → meaning (take a r) ≡ y → left_of meaning a input d r ≡ before_fault input ((length d - length r) / a) (y ∷ tabulate (item_at meaning a (drop a r)) 0 (length (drop a r) / a))
  first y h e =
      let m = length (drop a r) / a in
      ap (before_fault input ((length d - length r) / a)) (peeled meaning a r (length r / a) m (fewer a r some h) ∙ ap (λ (y : Result T FaultKind). y ∷ tabulate (item_at meaning a (drop a r)) 0 m) e)

  -- an item: the others are left behind it
  pub gives : (x : T) → a ≤ length r → length r ≤ length d → meaning (take a r) ≡ Ok x → left_of meaning a input d r ≡ (let rest = left_of meaning a input d (drop a r) in record { items = x ∷ rest.items; ending = rest.ending })
  gives x h part e =
      let xs = tabulate (item_at meaning a (drop a r)) 0 (length (drop a r) / a) in
      first (Ok x) h e ∙ ap (λ (j : ℕ). record { items = x ∷ good_items xs; ending = ending_of input j xs }) (sym (more a d r some h part))

  -- a fault: it is the ending
  pub fails : (kind : FaultKind) → a ≤ length r → meaning (take a r) ≡ Err kind → left_of meaning a input d r ≡ record { items = []; ending = Err (record { kind = kind; input = input; item = (length d - length r) / a }) }
  fails kind h e = first (Err kind) h e
