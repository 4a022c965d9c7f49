-- What the clock makes from any state, one draw and one output on.
use Rattle.std.proofs.Common.{◌≡◌, ℕ, suc, ◌+◌, ◌-◌, ◌*◌, ◌/◌, ◌^◌, ◌<◌, ◌≤◌, List, [], ◌∷◌, length, refl, ap, ◌∙◌, ap₂, inl, inr, suc-mul, zero-mul, add-one, arith}
use Rattle.std.proofs.Math.Nat.{add-div_right}
use native.Mathlib.Nat.{div-eq_of_lt}
use Rattle.std.proofs.lemmas.Bool.{cases_lt}
use Rattle.samples.specs.declared.kinds.WorkingSample.{WorkingSample}
use Rattle.sources.specs.Streams.{Stream}
use Rattle.sources.specs.Wholes.{transformed}
use Rattle.samples.specs.Kinds.{silent}
use Rattle.stages.specs.ClockOffset.{index, fraction, sample_between, on_line, count_from, output_count, outputs, outputs_from}
use Rattle.stages.specs.Meanings.{outputs_on}
use Rattle.stages.specs.declared.clock_offset.Line.{Line}
use Rattle.stages.proofs.Tables.{tabulate_same, tabulate_on}

-- rounded up, a quotient loses one where one divisor is taken away
shorter : (d s : ℕ) → 0 < d → 0 < s → (d + (s - 1)) / s ≡ suc ((d - s + (s - 1)) / s)
shorter d s p q =
    let e : (d - 1 + s) / s ≡ (d - 1) / s + 1 = add-div_right (d - 1) q in
    let l : d + (s - 1) ≡ d - 1 + s = omega arith in
    elim (cases_lt s d) [
      | inl h ↦ let f : d - s + (s - 1) ≡ d - 1 = omega arith in rw (l, e, f, add-one) refl
      | inr h ↦ grind (arith, div-eq_of_lt)
    ]

-- with an output handed out, one fewer is to come
count_more : (step p n : ℕ) → 0 < step → p < 2 ^ 53 → count_from step p n ≡ suc (count_from step (p + step) n)
count_more step p n s h =
    let e : (n + 1) * 2 ^ 53 - (p + step) ≡ (n + 1) * 2 ^ 53 - p - step = omega arith in
    rw e (shorter ((n + 1) * 2 ^ 53 - p) step (omega arith) s)

-- without its first item a line has the same points, one item nearer
shorter_line : (x : WorkingSample) (xs : List WorkingSample) (q r : ℕ) → 2 ^ 53 + r ≡ q → on_line (x ∷ xs) q ≡ on_line xs r
shorter_line x xs q r e =
    let i : index q ≡ suc (index r) = omega arith in
    let f : fraction q ≡ fraction r = omega arith in
    let n : suc (index r) + 1 ≡ suc (index r + 1) = omega arith in
    rw (i, f, n) refl

-- an item is drawn
pub drawn : (step : ℕ) (before last x : WorkingSample) (p : ℕ) (xs : List WorkingSample) → 2 ^ 53 ≤ p → outputs_from step before last p (x ∷ xs) ≡ outputs_from step last x (p - 2 ^ 53) xs
drawn step before last x p xs h =
    let n : count_from step p (suc (length xs)) ≡ count_from step (p - 2 ^ 53) (length xs) = ap (λ (d : ℕ). (d + (step - 1)) / step) (omega arith) in
    rw n (tabulate_same _ _ (λ j. shorter_line before (last ∷ x ∷ xs) (p + j * step) (p - 2 ^ 53 + j * step) (omega arith)) 0 _)

-- an output is handed out: it stands between the two items that were drawn
pub handed : (step : ℕ) (before last : WorkingSample) (p : ℕ) (xs : List WorkingSample) → 0 < step → p < 2 ^ 53 → outputs_from step before last p xs ≡ sample_between before last (p / 2 ^ 37) ∷ outputs_from step before last (p + step) xs
handed step before last p xs s h =
    let e : (j : ℕ) → p + (j + 1) * step ≡ p + step + j * step = λ j. rw add-one (omega (arith, suc-mul j step)) in
    let z : p + 0 * step ≡ p = omega (arith, zero-mul step) in
    let i : index p ≡ 0 = omega arith in
    let f : fraction p ≡ p / 2 ^ 37 = omega arith in
    rw (count_more step p (length xs) s h) (ap₂ ◌∷◌ (rw (z, i, f) refl) (tabulate_on _ _ (λ j. ap (on_line (before ∷ last ∷ xs)) (e j)) 0 _))

-- no item is left to draw
pub exhausted : (step : ℕ) (before last : WorkingSample) (p : ℕ) → 0 < step → 2 ^ 53 ≤ p → outputs_from step before last p [] ≡ []
exhausted step before last p s h =
    let n : count_from step p 0 ≡ 0 = div-eq_of_lt (omega arith) in
    rw n refl

-- at the start output m stands at m × step
started : (step : ℕ) (xs : List WorkingSample) → outputs_from step silent silent (2 ^ 53) xs ≡ outputs step xs
started step xs =
    let n : count_from step (2 ^ 53) (length xs) ≡ output_count step (length xs) = ap (λ (d : ℕ). (d + (step - 1)) / step) (omega arith) in
    rw n (tabulate_same _ _ (λ j. shorter_line silent (silent ∷ xs) (2 ^ 53 + j * step) (j * step) refl ∙ rw add-one) 0 _)

-- so a line that stands there makes what the clock makes from its start
pub restarted : (step : ℕ) (l : Line) (s t : Stream WorkingSample) → l.step ≡ step → l.before ≡ silent → l.last ≡ silent → l.position ≡ 2 ^ 53 → s ≡ t → transformed (outputs_on l) s ≡ transformed (outputs step) t
restarted step l s t k b e p q = rw (k, b, e, p, q) (ap (λ (ys : List WorkingSample). record { items = ys; ending = t.ending }) (started step t.items))
