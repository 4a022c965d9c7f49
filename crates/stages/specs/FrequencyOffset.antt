-- The frequency offset: sample k is turned by k times the offset, backwards.
use Rattle.std.specs.Prelude.{◌≡◌, ℕ, suc, ◌+◌, ◌^◌, List, [], ◌∷◌, length, refl, ℤ, pos, ◌+ℤ◌, ◌*ℤ◌, neg_ℤ}
use Rattle.std.proofs.Common.{ap}
use Rattle.samples.specs.Phases.{modulo, index_48}
use Rattle.samples.specs.Phasors.{phasor_of}
use Rattle.samples.specs.declared.kinds.WorkingSample.{WorkingSample}
use Rattle.stages.specs.Turns.{turned, divided}

-- item k is f k of item k of the list; the first is item n
abbrev pub indexed : {A B : Type 0} → (ℕ → A → B) → ℕ → List A → List B
indexed f n [] = []
indexed f n (x ∷ xs) = f n x ∷ indexed f (n + 1) xs

length_indexed : {A B : Type 0} (f : ℕ → A → B) (n : ℕ) (xs : List A) → length (indexed f n xs) ≡ length xs
length_indexed f n [] = refl
length_indexed f n (x ∷ xs) = ap suc (length_indexed f (n + 1) xs)

-- the phase of item k, 2 ^ 48 a turn, where that of item 0 is p: (p - k × f) mod 2 ^ 48
abbrev pub phase_at : ℕ → ℤ → ℕ → ℕ
phase_at p f k = modulo (pos p +ℤ (neg_ℤ (pos k) *ℤ f)) (2 ^ 48)

-- a sample turned by the phasor of a phase, each part rounded down after division by 2 ^ 14, then clipped
abbrev pub turned_to : ℕ → WorkingSample → WorkingSample
turned_to phase x = divided (turned x (phasor_of (index_48 phase))) 14

-- item k is turned to the phase of item k, where that of item 0 is p
abbrev pub frequency_offset : ℕ → ℤ → List WorkingSample → List WorkingSample
frequency_offset p f = indexed (λ k. turned_to (phase_at p f k)) 0

-- one item out for each item in
pub length_offset : (p : ℕ) (f : ℤ) (xs : List WorkingSample) → length (frequency_offset p f xs) ≡ length xs
length_offset p f = length_indexed (λ k. turned_to (phase_at p f k)) 0
