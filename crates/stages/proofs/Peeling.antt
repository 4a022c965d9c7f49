-- One step of a multipath channel takes one item off what it makes.
use Rattle.std.proofs.Common.{◌≡◌, ℕ, suc, ◌+◌, ◌-◌, ◌%◌, ◌^◌, ◌<◌, ◌≤◌, List, ◌∷◌, length, set, replicate, ap₂, inl, inr, arith}
use Rattle.std.proofs.lemmas.Grind.{common_steps}
use Rattle.std.proofs.lemmas.Bool.Decides.{nat_tests}
use Rattle.std.proofs.lemmas.Bool.{cases_lt}
use Rattle.std.proofs.lemmas.List.{get_or-replicate}
use Rattle.samples.specs.Arithmetic.{floor_by}
use Rattle.samples.specs.Kinds.{working, silent}
use Rattle.samples.specs.declared.kinds.WorkingSample.{WorkingSample}
use Rattle.stages.specs.declared.multipath.Path.{Path}
use Rattle.stages.specs.Multipath.{total, echo_re, echo_im, echo_sum, before, echoes, ring, silence}
use Rattle.stages.proofs.Tables.{tabulate_on}

-- only the last 64 samples count, since no delay is longer
echo_sum_same : (ps : List Path) (a b : ℕ → WorkingSample) → ((d : ℕ) → d ≤ 63 → a d ≡ b d) → echo_sum ps a ≡ echo_sum ps b
unfolding echo_sum
echo_sum_same ps a b h = λ i.
    let at = λ (p : Path). h p.delay p.delay_within i in
    working (floor_by (total (λ p. echo_re p (at p)) ps) (2 ^ 13)) (floor_by (total (λ p. echo_im p (at p)) ps) (2 ^ 13))

-- the history h after the sample x went by
pub record Moved (h h' : ℕ → WorkingSample) (x : WorkingSample) : Type 0 where
  pub first : h' 0 ≡ x
  pub rest : (j : ℕ) → j < 63 → h' (suc j) ≡ h j

module _ (h h' : ℕ → WorkingSample) (x : WorkingSample) (xs : List WorkingSample) (m : Moved h h' x) where
  at_first : (d : ℕ) → d ≤ 63 → before h (x ∷ xs) 0 d ≡ h' d
  at_first d l = grind (arith, nat_tests, m.first, m.rest (d - 1))

  at_later : (k d : ℕ) → d ≤ 63 → before h (x ∷ xs) (k + 1) d ≡ before h' xs k d
  at_later k d l =
      elim (cases_lt k d) [
        | inl u ↦ grind (arith, nat_tests, m.first, m.rest (d - k - 2))
        | inr u ↦ let e : k + 1 - d ≡ suc (k - d) = omega arith in rw e (grind (arith, nat_tests))
      ]

pub peel : (ps : List Path) (h h' : ℕ → WorkingSample) (x : WorkingSample) → Moved h h' x → (xs : List WorkingSample) → echoes ps h (x ∷ xs) ≡ echo_sum ps h' ∷ echoes ps h' xs
unfolding echoes
peel ps h h' x m xs =
    ap₂ ◌∷◌
    (echo_sum_same ps _ h' (at_first h h' x xs m))
    (tabulate_on _ _ (λ k. echo_sum_same ps _ _ (at_later h h' x xs m k)) 0 (length xs))

-- the sample x put into the place before the newest, round the end
pub ring_moved : (line : List WorkingSample) (newest next : ℕ) (x : WorkingSample) → length line ≡ 64 → newest < 64 → next ≡ (newest + 63) % 64 → Moved (ring line newest) (ring (set line next x) next) x
ring_moved line newest next x whole inside down = record { first = grind (arith, common_steps); rest = λ j h. grind (arith, common_steps) }

pub ring_silent : (newest : ℕ) → ring (replicate 64 silent) newest ≡ silence
ring_silent newest = λ i j. get_or-replicate 64 ((newest + j) % 64) silent silent (omega arith) i
