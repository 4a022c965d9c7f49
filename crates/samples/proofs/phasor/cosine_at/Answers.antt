use Rattle.std.proofs.Common.{◌≡◌, ℕ, zero, suc, ◌+◌, ◌-◌, ◌*◌, ◌/◌, ◌%◌, ◌^◌, ◌<◌, ◌≤◌, Bool, true, ◌&&◌, cond, eqb, ltb, leb, refl, arith, lit<, lit≤}
use Rattle.std.proofs.lemmas.Bool.{eq-eqb, eqb-true, ltb-true, leb-true}
use Rattle.std.proofs.lemmas.Bool.Decides.{Decides-below_and}
use Rattle.samples.specs.Roots.{root, root_from, grown}
use Rattle.samples.specs.Phasors.{Halving, step_cosine, fine_cosine, cosine, rounded, halvings, halved}
use Rattle.samples.proofs.phasor.cosine_at.Goals as goal

-- the test f passes at each number below n
unfoldable all : (ℕ → Bool) → ℕ → Bool
all f zero = true
all f (suc n) = f n && all f n

at : (f : ℕ → Bool) (n : ℕ) → all f n ≡ true → (k : ℕ) → k < n → f k ≡ true
unfolding all
at f n t = (Decides-below_and f (λ k. f k ≡ true) (all f) (λ k. (λ e. e, λ e. e)) refl (λ _. refl) n).0 t

-- at every a that is a multiple of the distance of neighbours
from_neighbours : ℕ → ℕ → Bool
from_neighbours j a = cond (eqb (a % 2 ^ (9 - j)) 0) (eqb (fine_cosine (a + 2 ^ (8 - j))) (2 ^ 39 * (fine_cosine a + fine_cosine (a + 2 ^ (9 - j))) / step_cosine j)) true

halving : Halving step_cosine fine_cosine cosine
unfolding from_neighbours all fine_cosine cosine rounded halvings halved step_cosine root root_from grown
halving =
    record {
      first_root = record { at_most = lit≤ tt; greatest = lit< tt };
      next_root = λ j l h. record {
        at_most = leb-true _ _ (at (λ k. leb (step_cosine (k + 1) * step_cosine (k + 1)) (2 ^ 39 * (2 ^ 40 + step_cosine k))) 8 refl j (omega arith));
        greatest = ltb-true _ _ (at (λ k. ltb (2 ^ 39 * (2 ^ 40 + step_cosine k)) ((step_cosine (k + 1) + 1) * (step_cosine (k + 1) + 1))) 8 refl j (omega arith));
      };
      one = refl;
      nought = refl;
      halfway = λ j a l h k m.
          let t = at (from_neighbours j) 256 (at (λ i. all (from_neighbours i) 256) 9 refl j (omega arith)) a k in
          eqb-true _ _ (rw (eq-eqb _ _ m) at t);
      nearest = λ k h. eqb-true _ _ (at (λ i. eqb (cosine i) ((fine_cosine i + 2 ^ 25) / 2 ^ 26)) 257 refl k (omega arith));
    }

cosine_small : (k : ℕ) → k ≤ 256 → cosine k ≤ 16384
unfolding all cosine rounded halvings halved step_cosine root root_from grown
cosine_small k h = leb-true _ _ (at (λ i. leb (cosine i) 16384) 257 refl k (omega arith))

-- the table is what the rule computes
pub returns : goal.returns
unfolding cosine rounded halvings halved step_cosine root root_from grown
returns c = record { value = refl; at_most_one = cosine_small c.args.k c.requires; rule = halving }
