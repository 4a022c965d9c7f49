-- Where a player stands at a place of a whole, it answers as the plain player does there, and goes on as that does.
use Rattle.std.proofs.Common.{◌≡◌, ℕ, zero, suc, ◌+◌, ◌≤◌, cond, List, [], ◌∷◌, length, drop, None, Ok, Err, sym, refl, ap, ◌∙◌, subst, ap₂, arith, length-drop}
use Rattle.std.proofs.lemmas.List.{drop-drop}
use Rattle.std.specs.List.{slice_get}
use Rattle.sources.specs.Streams.{Ending, Stream, from}
use Rattle.player.specs.Calls.{Asked, next, fill, skip, rewind, Answered, item, filled, skipped}
use Rattle.sources.specs.Places.{stopped}
use Rattle.player.specs.Plain.{handed_out, none_handed_out, answer_of, plain_next, plain_count, plain_buffer, plain_answer, plain_place}
use Rattle.player.specs.Standing.{Standing, standing, next_answer, count_answer, buffer_after, onward, answer_to, standing_after, Stands, Plays}

-- a place that has stopped stays there
stopped_again : {A : Type 0} (e : Ending) (p n t : ℕ) (nothing tells : A) → answer_of e (stopped p) n t nothing tells ≡ answer_of e p n t nothing tells
stopped_again (Ok _) p n t nothing tells = refl
stopped_again (Err f) p n t nothing tells =
    let k : stopped (stopped p) ≡ stopped p = omega arith in
    ap (λ q. cond (none_handed_out n t) (Err (record { fault = f; place = q })) (Ok tells)) k

pub nth_drop : {T : Type 0} (p : ℕ) (xs : List T) → slice_get (drop p xs) 0 ≡ slice_get xs p
nth_drop zero [] = refl
nth_drop zero (x ∷ xs) = refl
nth_drop (suc p) [] = refl
nth_drop (suc p) (x ∷ xs) = nth_drop p xs

module _ {T : Type 0} (w : Stream T) (p : ℕ) (inside : p ≤ length w.items) where
  abbrev here : Standing T
  here = standing w (from p w) (stopped p)

  next_plain : next_answer here ≡ plain_next w p
  next_plain = rw (length-drop p w.items) (rw (nth_drop p w.items) (stopped_again w.ending p 1 _ None _))

  count_plain : (n : ℕ) → count_answer n here ≡ plain_count w p n
  count_plain n = rw (length-drop p w.items) (stopped_again w.ending p n _ 0 _)

  buffer_plain : (b : List T) → buffer_after b here ≡ plain_buffer w p b
  buffer_plain b = rw (length-drop p w.items)

  goes_on : (n : ℕ) → Stands (onward n here) w (p + handed_out w p n)
  goes_on n =
      record {
        whole = refl;
        left = rw (length-drop p w.items) (ap (λ xs. record { items = xs; ending = w.ending }) (drop-drop (handed_out w p n) p w.items));
        within = omega arith;
        place = omega (arith, length-drop p w.items);
      }

  call_plain : (call : Asked T) → (answer_to call here ≡ plain_answer w p call) × Stands (standing_after call here) w (plain_place w p call)
  call_plain next = (ap item next_plain, goes_on 1)
  call_plain (fill buffer) = (ap₂ filled (count_plain (length buffer)) (buffer_plain buffer), goes_on (length buffer))
  call_plain (skip n) = (ap skipped (count_plain n), goes_on n)
  call_plain rewind = (refl, record { whole = refl; left = refl; within = omega arith; place = refl })

-- what a call promises of what is left, it promises of any whole and place
pub plays : {T : Type 0} {s s' : Standing T} (call : Asked T) {r : Answered T} → r ≡ answer_to call s → s' ≡ standing_after call s → Plays call s s' r
plays {s = s} call a m w p at =
    let is : s ≡ standing w (from p w) (stopped p) = λ i. standing (at.whole i) (at.left i) (at.place i) in
    let e = call_plain w p at.within call in
    (a ∙ ap (answer_to call) is ∙ e.0, subst (λ u. Stands u w (plain_place w p call)) (sym (m ∙ ap (standing_after call) is)) e.1)
