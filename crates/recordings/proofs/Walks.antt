-- The walk from chunk to chunk answers what its definition does.
use Rattle.std.proofs.Common.{◌≡◌, ℕ, zero, suc, ◌+◌, ◌*◌, ◌<◌, ◌≤◌, List, length, Ok, Err, Option, Result, ap, ◌∙◌, arith}
use Rattle.recordings.specs.declared.format.Format.{Format}
use Rattle.recordings.specs.declared.chunks.Found.{Found}
use Rattle.recordings.specs.declared.chunks.Step.{Step}
use Rattle.recordings.specs.declared.chunks.Step.TheVariants as steps
use Rattle.recordings.specs.declared.refusal.OpeningRefusal.{OpeningRefusal}
use Rattle.recordings.specs.Chunks.{chunk, chunks, from_step}

-- The chunks from s on, of which there can be at most n + 1, answer what all chunks do.
pub record Walking (f : Format) (b : List ℕ) (all : Result Found OpeningRefusal) (s : ℕ) (rate : Option ℕ) : Type 0 where
  pub n : ℕ
  pub enough : length b < s + 8 * suc n
  pub answer : chunks f b (suc n) s rate ≡ all

-- So the chunk at s answers as all do, or leads to where they go on.
abbrev pub GoesOn : Format → List ℕ → Result Found OpeningRefusal → ℕ → Result Step OpeningRefusal → Type 0
GoesOn f b all s (Err e) = Err e ≡ all
GoesOn f b all s (Ok (steps.Data d)) = Ok d ≡ all
GoesOn f b all s (Ok (steps.Onward t r)) = s + 8 ≤ t → t ≤ length b → Walking f b all t r

by_step : (f : Format) (b : List ℕ) (all : Result Found OpeningRefusal) (s n : ℕ) (c : Result Step OpeningRefusal) → length b < s + 8 * suc n → from_step c (chunks f b n) ≡ all → GoesOn f b all s c
by_step f b all s n (Err e) l a = a
by_step f b all s n (Ok (steps.Data d)) l a = a
by_step f b all s zero (Ok (steps.Onward t r)) l a = λ h i. absurd (omega arith)
by_step f b all s (suc n) (Ok (steps.Onward t r)) l a = λ h i. record { n = n; enough = omega arith; answer = a }

pub goes_on : (f : Format) (b : List ℕ) (all : Result Found OpeningRefusal) (s : ℕ) (rate : Option ℕ) (c : Result Step OpeningRefusal) → Walking f b all s rate → c ≡ chunk f b s rate → GoesOn f b all s c
goes_on f b all s rate c w e = by_step f b all s w.n c w.enough (ap (λ (d : Result Step OpeningRefusal). from_step d (chunks f b w.n)) e ∙ w.answer)
