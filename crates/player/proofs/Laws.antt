-- The law of runs follows where the answers are the plain player's.
use Rattle.std.proofs.Common.{◌≡◌, ℕ, zero, suc, ◌+◌, ◌-◌, min, ◌<◌, ◌≤◌, List, [], ◌∷◌, ◌++◌, length, take, drop, Some, None, Ok, Err, fold, Result, sym, refl, ap, ◌∙◌, subst, inl, inr, suc-add, zero-add, arith, length-drop, length-take}
use Rattle.std.proofs.lemmas.List.{take_at}
use Rattle.std.proofs.lemmas.Option.{slice_get_cases}
use Rattle.std.proofs.lemmas.Bool.Decides.{nat_tests}
use Rattle.std.specs.List.{slice_get}
use Rattle.sources.specs.Streams.{Ending, Stream}
use Rattle.player.specs.declared.fault.PlayerFault.{PlayerFault}
use Rattle.player.specs.Calls.{Asked, next, fill, skip, rewind, wanted, Answered, item, filled, skipped}
use Rattle.sources.specs.Places.{stopped}
use Rattle.player.specs.Plain.{handed_out, player_fault, ending_answer, answer_of, plain_next, plain_count, plain_buffer, plain_answer, plain_place, plain_run}
use Rattle.player.specs.Runs.{items_in, counted, place_after, count_ending, ending_answered, fault_answered, Turn, place_at, LawOfRuns}

-- What the law says of one answer to a call at place p.
record Lawful {T : Type 0} (w : Stream T) (p : ℕ) (call : Asked T) (answer : Answered T) : Type 0 where
  in_place : (j : ℕ) (x : T) → slice_get (items_in answer) j ≡ Some x → slice_get w.items (p + j) ≡ Some x
  counts : place_after p answer ≡ plain_place w p call
  only : (e : Ending) → ending_answered (wanted call) answer ≡ Some e → (0 < wanted call) × (p ≡ length w.items) × (e ≡ w.ending)
  always : 0 < wanted call → p ≡ length w.items → ending_answered (wanted call) answer ≡ Some w.ending
  fault_place : (f : PlayerFault) → fault_answered answer ≡ Some f → f.place ≡ stopped p

-- How a count reads, where n items are wanted at place p of so many, and the ending is e.
module _ (len p n : ℕ) (inside : p ≤ len) where
  abbrev count : Ending → Result ℕ PlayerFault
  count e = answer_of e p n (min n (len - p)) 0 (min n (len - p))

  count_is : (e : Ending) → counted (count e) ≡ min n (len - p)
  count_is (Ok _) = grind (arith, nat_tests)
  count_is (Err f) = grind (arith, nat_tests)

  count_only : (e reported : Ending) → count_ending n (count e) ≡ Some reported → (0 < n) × (p ≡ len) × (reported ≡ e)
  count_only (Ok _) reported h = (grind (arith, nat_tests), grind (arith, nat_tests), grind (arith, nat_tests))
  count_only (Err f) reported h = (grind (arith, nat_tests), grind (arith, nat_tests), grind (arith, nat_tests))

  count_always : (e : Ending) → 0 < n → p ≡ len → count_ending n (count e) ≡ Some e
  count_always (Ok _) h k = grind (arith, nat_tests)
  count_always (Err f) h k = grind (arith, nat_tests)

  fill_fault : {T : Type 0} (e : Ending) (b : List T) (f : PlayerFault) → fault_answered (filled (count e) b) ≡ Some f → f.place ≡ stopped p
  fill_fault (Ok _) b f h = grind (arith, nat_tests)
  fill_fault (Err g) b f h = grind (arith, nat_tests)

  skip_fault : (T : Type 0) (e : Ending) (f : PlayerFault) → fault_answered {T = T} (skipped (count e)) ≡ Some f → f.place ≡ stopped p
  skip_fault T (Ok _) f h = grind (arith, nat_tests)
  skip_fault T (Err g) f h = grind (arith, nat_tests)

-- The items that a call brings out.
nth_from : {T : Type 0} (p : ℕ) (xs : List T) (j : ℕ) → slice_get (drop p xs) j ≡ slice_get xs (p + j)
nth_from zero xs j = rw zero-add
nth_from (suc p) [] j = refl
nth_from (suc p) (x ∷ xs) j = rw suc-add (nth_from p xs j)

nth_front : {T : Type 0} (t : ℕ) (xs : List T) (j : ℕ) (x : T) → slice_get (take t xs) j ≡ Some x → slice_get xs j ≡ Some x
nth_front zero xs j x h = cc
nth_front (suc t) [] j x h = h
nth_front (suc t) (y ∷ xs) zero x h = h
nth_front (suc t) (y ∷ xs) (suc j) x h = nth_front t xs j x h

-- the items that a fill puts into its buffer
placed : {T : Type 0} (w : Stream T) (p : ℕ) (buffer : List T) (j : ℕ) (x : T) → slice_get (take (handed_out w p (length buffer)) (plain_buffer w p buffer)) j ≡ Some x → slice_get w.items (p + j) ≡ Some x
placed w p buffer j x h =
    let t = handed_out w p (length buffer) in
    let l : length (take t (drop p w.items)) ≡ t = simp (length-take, length-drop) (omega arith) in
    let e = take_at (take t (drop p w.items)) (drop t buffer) t l in
    let k = nth_front t (drop p w.items) j x (ap (λ xs. slice_get xs j) (sym e) ∙ h) in
    sym (nth_from p w.items j) ∙ k

fill_brings : {T : Type 0} (r : Result ℕ PlayerFault) (t : ℕ) (b : List T) → counted r ≡ t → (j : ℕ) (x : T) → slice_get (items_in (filled r b)) j ≡ Some x → slice_get (take t b) j ≡ Some x
fill_brings (Ok c) t b e j x h = rw (← e) h
fill_brings (Err f) t b e j x h = cc

one_brought : {T : Type 0} (xs : List T) (p : ℕ) (y x : T) (j : ℕ) → slice_get xs p ≡ Some y → slice_get (y ∷ []) j ≡ Some x → slice_get xs (p + j) ≡ Some x
one_brought xs p y x zero e h = let k : p + 0 ≡ p = omega arith in rw k (e ∙ h)
one_brought xs p y x (suc j) e h = cc

-- next at an item, and at the end
item_lawful : {T : Type 0} (w : Stream T) (p : ℕ) (x : T) → p < length w.items → slice_get w.items p ≡ Some x → Lawful w p next (item (Ok (Some x)))
item_lawful w p x h e =
    record {
      in_place = λ j y. one_brought w.items p x y j e;
      counts = omega arith;
      only = λ e k. cc;
      always = λ _ k. absurd (omega arith);
      fault_place = λ f k. cc;
    }

end_lawful : {T : Type 0} (items : List T) (e : Ending) (p : ℕ) → p ≡ length items → Lawful (record { items = items; ending = e }) p next (item (ending_answer e p None))
end_lawful items (Ok _) p h =
    record {
      in_place = λ j y k. cc;
      counts = omega arith;
      only = λ e k. (omega arith, h, let m : e ≡ Ok tt = cc in m);
      always = λ _ _. refl;
      fault_place = λ f k. cc;
    }
end_lawful items (Err g) p h =
    record {
      in_place = λ j y k. cc;
      counts = omega arith;
      only = λ e k. (omega arith, h, cc);
      always = λ _ _. refl;
      fault_place = λ f k. let m : f ≡ player_fault g p = cc in ap (λ (v : PlayerFault). v.place) m;
    }

lawful : {T : Type 0} (w : Stream T) (p : ℕ) (call : Asked T) → p ≤ length w.items → Lawful w p call (plain_answer w p call)
lawful w p next h =
    elim (slice_get_cases w.items p).1 [
      | inl k ↦
          let e : plain_next w p ≡ Ok (Some k.0) = grind (arith, nat_tests, k.1, k.2) in
          subst (λ r. Lawful w p next (item r)) (sym e) (item_lawful w p k.0 k.1 k.2)
      | inr k ↦
          let e : plain_next w p ≡ ending_answer w.ending p None = grind (arith, nat_tests, k.0) in
          subst (λ r. Lawful w p next (item r)) (sym e) (end_lawful w.items w.ending p (omega (arith, k.0)))
    ]
lawful w p (fill buffer) h =
    let len = length w.items in
    let n = length buffer in
    let read = count_is len p n h w.ending in
    record {
      in_place = λ j x k. placed w p buffer j x (fill_brings (plain_count w p n) _ (plain_buffer w p buffer) read j x k);
      counts = ap (λ k. p + k) read;
      only = count_only len p n h w.ending;
      always = count_always len p n h w.ending;
      fault_place = fill_fault len p n h w.ending (plain_buffer w p buffer);
    }
lawful {T} w p (skip n) h =
    let len = length w.items in
    record {
      in_place = λ j x k. cc;
      counts = ap (λ k. p + k) (count_is len p n h w.ending);
      only = count_only len p n h w.ending;
      always = count_always len p n h w.ending;
      fault_place = skip_fault len p n h T w.ending;
    }
lawful w p rewind h =
    record {
      in_place = λ j x k. cc;
      counts = refl;
      only = λ e k. cc;
      always = λ k. absurd (omega arith);
      fault_place = λ f k. cc;
    }

place_inside : {T : Type 0} (w : Stream T) (p : ℕ) (call : Asked T) → p ≤ length w.items → plain_place w p call ≤ length w.items
place_inside w p next h = omega arith
place_inside w p (fill buffer) h = omega arith
place_inside w p (skip n) h = omega arith
place_inside w p rewind h = omega arith

module _ {T : Type 0} (w : Stream T) where
  -- each turn of the plain player's run, at the place that the answers before it tell
  at_turn : (calls : List (Asked T)) (p : ℕ) → p ≤ length w.items → (i : ℕ) (call : Asked T) (a : Answered T) → slice_get calls i ≡ Some call → slice_get (plain_run w p calls) i ≡ Some a → Lawful w (fold place_after p (take i (plain_run w p calls))) call a
  at_turn [] p h i call a c r = cc
  at_turn (k ∷ calls) p h zero call a c r =
      let e : k ≡ call = cc in
      let f : plain_answer w p k ≡ a = cc in
      subst (λ v. Lawful w p v a) e (subst (λ v. Lawful w p k v) f (lawful w p k h))
  at_turn (k ∷ calls) p h (suc i) call a c r =
      let q = plain_place w p k in
      subst (λ v. Lawful w (fold place_after v (take i (plain_run w q calls))) call a) (sym (lawful w p k h).counts)
      (at_turn calls q (place_inside w p k h) i call a c r)

  never_past : (calls : List (Asked T)) (p : ℕ) → p ≤ length w.items → (i : ℕ) → fold place_after p (take i (plain_run w p calls)) ≤ length w.items
  never_past [] p h zero = h
  never_past [] p h (suc i) = h
  never_past (k ∷ calls) p h zero = h
  never_past (k ∷ calls) p h (suc i) =
      let q = plain_place w p k in
      subst (λ v. fold place_after v (take i (plain_run w q calls)) ≤ length w.items) (sym (lawful w p k h).counts)
      (never_past calls q (place_inside w p k h) i)

  all_answered : (calls : List (Asked T)) (p : ℕ) → length (plain_run w p calls) ≡ length calls
  all_answered [] p = refl
  all_answered (k ∷ calls) p = ap suc (all_answered calls (plain_place w p k))

  start : 0 ≤ length w.items
  start = omega arith

  of_plain : (calls : List (Asked T)) → LawOfRuns w calls (plain_run w 0 calls)
  of_plain calls =
      let here : (turn : Turn calls (plain_run w 0 calls)) → Lawful w (place_at turn) turn.call turn.answer =
      λ turn. at_turn calls 0 start turn.number turn.call turn.answer turn.call_made turn.answer_given in
      record {
        each_once = all_answered calls 0;
        as_plain = refl;
        in_place = λ turn. (here turn).in_place;
        within = never_past calls 0 start;
        ends_only_there = λ turn e h. let k = (here turn).only e h in ((k.0, k.1), k.2);
        ends_always_there = λ turn h. (here turn).always h.0 h.1;
        place_in_fault = λ turn. (here turn).fault_place;
      }

  pub law : (calls : List (Asked T)) (answers : List (Answered T)) → answers ≡ plain_run w 0 calls → LawOfRuns w calls answers
  law calls answers e = subst (λ v. LawOfRuns w calls v) (sym e) (of_plain calls)

  -- one more call
  pub run_more : (calls : List (Asked T)) (p : ℕ) (call : Asked T) → plain_run w p (calls ++ call ∷ []) ≡ plain_run w p calls ++ plain_answer w (fold (plain_place w) p calls) call ∷ []
  run_more [] p call = refl
  run_more (k ∷ calls) p call = ap (λ v. plain_answer w p k ∷ v) (run_more calls (plain_place w p k) call)
