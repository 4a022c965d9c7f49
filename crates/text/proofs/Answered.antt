-- Texts of answers, written one piece behind the other: what stands there, and what is still to come.
use Rattle.std.proofs.Common.{◌≡◌, ℕ, ◌+◌, List, [], ◌∷◌, ◌++◌, map, take, flat_map, ◌⊎◌, inl, inr, refl, sym, ◌∙◌, append_assoc, append-nil}
use Rattle.std.proofs.Math.Numerals.{add-one}
use Rattle.samples.specs.declared.kinds.ConverterSample.{ConverterSample}
use Rattle.player.specs.Calls.{answered}
use Rattle.player.specs.declared.calls.Answer.{Answer}
use Rattle.text.specs.declared.numbered.Numbered.{Numbered}
use Rattle.text.specs.Lines.{feed}
use Rattle.text.specs.Answers.{answer_lines, answer_text, placed_text}
use Rattle.text.specs.declared.transcript.step.Step.{Step}

-- one sample more
pub samples_more : (done all : List ℕ) (count count' : ℕ) (rest rest' : List ConverterSample) (x : ConverterSample) → done ++ flat_map placed_text (take count rest) ≡ all → rest ≡ x ∷ rest' → count' + 1 ≡ count → (done ++ placed_text x) ++ flat_map placed_text (take count' rest') ≡ all
samples_more done all count count' rest rest' x h is fewer = append_assoc done (placed_text x) (flat_map placed_text (take count' rest')) ∙ rw (← h, is, ← fewer, add-one)

-- one line more
pub lines_more : (done all : List ℕ) (steps steps' : List (Numbered Step)) (answers answers' : List (Answer ConverterSample)) (step : Numbered Step) (answer : Answer ConverterSample) → done ++ answer_lines steps (map answered answers) ≡ all → steps ≡ step ∷ steps' → answers ≡ answer ∷ answers' → (done ++ (answer_text step.held (answered answer) ++ feed ∷ [])) ++ answer_lines steps' (map answered answers') ≡ all
lines_more done all steps steps' answers answers' step answer h is are =
    append_assoc done (answer_text step.held (answered answer) ++ feed ∷ []) (answer_lines steps' (map answered answers')) ∙ rw (← h, is, are)

unanswered : (steps : List (Numbered Step)) → answer_lines steps [] ≡ []
unanswered [] = refl
unanswered (step ∷ steps) = refl

-- no line is still to come
pub lines_end : (done all : List ℕ) (steps : List (Numbered Step)) (answers : List (Answer ConverterSample)) → done ++ answer_lines steps (map answered answers) ≡ all → (steps ≡ []) ⊎ (answers ≡ []) → done ≡ all
lines_end done all steps answers h (inl none) = sym (append-nil done) ∙ rw none at h
lines_end done all steps answers h (inr none) = sym (append-nil done) ∙ rw (none, unanswered steps) at h
