-- Tests in their order: all pass, or one is the first that fails.
use Rattle.std.proofs.Common.{◌≡◌, Bool, true, false, cond, List, [], ◌∷◌, Err, Result, refl, ap, ◌∙◌}
use Rattle.std.proofs.lemmas.List.Elements.{All-nil, All-cons}
use Rattle.recordings.specs.declared.refusal.OpeningRefusal.{OpeningRefusal}
use Rattle.recordings.specs.Chunks.{Test, tested}
use Rattle.recordings.specs.Reaching.{FirstFailing}

-- tests that all pass
abbrev pub Passed : List Test → Type 0
Passed [] = Unit {0}
Passed (t ∷ ts) = (t.0 ≡ true) × Passed ts

pub passed : {A : Type 0} (ts : List Test) (a : Result A OpeningRefusal) → Passed ts → tested ts a ≡ a
passed [] a p = refl
passed (t ∷ ts) a p = ap (λ (c : Bool). cond c (tested ts a) (Err t.1)) p.0 ∙ passed ts a p.1

-- what holds of the answer where all pass, and of the refusal of the first that fails, holds of what is tested
pub by_tests : {A : Type 0} (P : Result A OpeningRefusal → Type 0) (ts : List Test) (a : Result A OpeningRefusal)
    → (Passed ts → P a) → ((e : OpeningRefusal) → FirstFailing ts e → P (Err e)) → P (tested ts a)
by_tests P [] a p f = p tt
by_tests P ((true, e) ∷ ts) a p f =
    by_tests P ts a (λ h. p (refl, h)) (λ d g. f d (
    record {
      before = (true, e) ∷ g.before;
      after = g.after;
      tests_are = ap (λ (us : List Test). (true, e) ∷ us) g.tests_are;
      pass = All-cons (λ (t : Test). t.0 ≡ true) (true, e) g.before refl g.pass;
    }
    ))
by_tests P ((false, e) ∷ ts) a p f = f e (record { before = []; after = ts; tests_are = refl; pass = All-nil (λ (t : Test). t.0 ≡ true) })
