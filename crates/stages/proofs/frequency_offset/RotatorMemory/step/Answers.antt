use Rattle.std.proofs.Common.{◌≡◌, ℕ, ◌+◌, ◌/◌, ◌^◌, ◌<◌, List, [], ◌∷◌, ℤ, pos, negsuc, ◌+ℤ◌, ◌-ℤ◌, ◌*ℤ◌, neg_ℤ, sym, refl, ap, ap₂, add-one, arith, w64, SFits, rules}
use lib.IntN.{zero-*ℤ, pred_ℤ, pred_ℤ-*ℤ, neg_ℤ-suc_ℤ}
use Rattle.std.proofs.lemmas.Int.{ints, to_z-of_z}
use Rattle.samples.specs.Phases.{modulo}
use Rattle.samples.specs.declared.kinds.WorkingSample.{WorkingSample}
use Rattle.stages.specs.FrequencyOffset.{indexed, phase_at, turned_to, frequency_offset}
use Rattle.stages.proofs.frequency_offset.RotatorMemory.step.Goals as goal

-- how many turns are left out
turns : ℤ → ℤ
turns (pos a) = neg_ℤ (pos (a / 2 ^ 48))
turns (negsuc a) = pos (a / 2 ^ 48 + 1)

splits : (z : ℤ) → pos (modulo z (2 ^ 48)) ≡ z +ℤ (turns z *ℤ pos (2 ^ 48))
unfolding turns
splits (pos a) = omega (arith, ints)
splits (negsuc a) = omega (arith, ints)

-- whole turns do not count
whole_turns : (a b n : ℤ) → a ≡ b +ℤ (n *ℤ pos (2 ^ 48)) → modulo a (2 ^ 48) ≡ modulo b (2 ^ 48)
whole_turns (pos a) (pos b) n e = omega (arith, ints)
whole_turns (pos a) (negsuc b) n e = omega (arith, ints)
whole_turns (negsuc a) (pos b) n e = omega (arith, ints)
whole_turns (negsuc a) (negsuc b) n e = omega (arith, ints)

-- the phase moves by one offset from sample to sample
one_more : (k : ℕ) (f : ℤ) → neg_ℤ (pos (k + 1)) *ℤ f ≡ (neg_ℤ (pos k) *ℤ f) -ℤ f
one_more k f =
    let e : neg_ℤ (pos (k + 1)) ≡ pred_ℤ (neg_ℤ (pos k)) = rw add-one (neg_ℤ-suc_ℤ (pos k)) in
    rw e (pred_ℤ-*ℤ (neg_ℤ (pos k)) f)

next_phase : (p : ℕ) (f : ℤ) (k : ℕ) → phase_at p f (k + 1) ≡ phase_at (modulo (pos p -ℤ f) (2 ^ 48)) f k
next_phase p f k = sym (whole_turns _ _ (turns (pos p -ℤ f)) (omega (arith, ints, splits (pos p -ℤ f), one_more k f)))

-- and what is made of a list goes on from there
later : {A B : Type 0} (f g : ℕ → A → B) → ((k : ℕ) (x : A) → f (k + 1) x ≡ g k x) → (n : ℕ) (xs : List A) → indexed f (n + 1) xs ≡ indexed g n xs
later f g e n [] = refl
later f g e n (x ∷ xs) = ap₂ ◌∷◌ (e n x) (later f g e (n + 1) xs)

stepped : (p : ℕ) (f : ℤ) (x : WorkingSample) (xs : List WorkingSample) → p < 2 ^ 48 → frequency_offset p f (x ∷ xs) ≡ turned_to p x ∷ frequency_offset (modulo (pos p -ℤ f) (2 ^ 48)) f xs
stepped p f x xs h =
    let e : phase_at p f 0 ≡ p = rw (zero-*ℤ f) (omega arith) in
    ap₂ ◌∷◌ (ap (λ (q : ℕ). turned_to q x) e) (later _ _ (λ k y. ap (λ (q : ℕ). turned_to q y) (next_phase p f k)) 0 xs)

pub returns : goal.returns
returns c =
    let s = c.args.self.now in
    let f : SFits w64 s.offset.f = search rules in
    let e = simp to_z-of_z at c.next_phase-self.ensures in
    record { steps = λ xs. rw (c.turn_to-turned.ensures, e) (stepped s.phase s.offset.f c.args.x xs s.phase_within); same = refl }
