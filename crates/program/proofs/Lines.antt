-- The lines of the answers, but for the end of the last.
use Rattle.std.proofs.Common.{◌≡◌, ℕ, zero, suc, ◌-◌, min, List, [], ◌∷◌, ◌++◌, length, map, take, refl, sym, ap, ◌∙◌, append-nil, append_assoc, get_or, length-append, arith}
use Rattle.std.proofs.lemmas.List.{take_at}
use Rattle.std.specs.List.{flat_map, zip}
use Rattle.samples.specs.declared.kinds.ConverterSample.{ConverterSample}
use Rattle.player.specs.Calls.{answered}
use Rattle.player.specs.declared.calls.Answer.{Answer}
use Rattle.text.specs.Answers.{answer_lines, answer_text, line_text}
use Rattle.text.specs.Lines.{feed}
use Rattle.text.specs.declared.numbered.Numbered.{Numbered}
use Rattle.text.specs.declared.transcript.step.Step.{Step}
use Rattle.program.specs.Reports.{answered_lines}

zip_none : (steps : List (Numbered Step)) (answers : List (Answer ConverterSample)) → min (length steps) (length answers) ≡ 0 → zip steps (map answered answers) ≡ []
zip_none [] answers h = refl
zip_none (s ∷ steps) [] h = refl
zip_none (s ∷ steps) (a ∷ answers) h = absurd (omega (arith, h))

-- without a step or an answer there is no line
pub no_lines : (steps : List (Numbered Step)) (answers : List (Answer ConverterSample)) → min (length steps) (length answers) ≡ 0 → answered_lines steps answers ≡ []
no_lines steps answers h = ap (λ turns. let lines = flat_map line_text turns in take (length lines - 1) lines) (zip_none steps answers h)

-- all lines are those before the last, and the last
last_line : (steps : List (Numbered Step)) (answers : List (Answer ConverterSample)) (k : ℕ) (d : Numbered Step) (y : Answer ConverterSample)
    → min (length steps) (length answers) ≡ suc k → y ≡ get_or answers k y
    → answer_lines steps (map answered answers) ≡ answer_lines (take k steps) (map answered (take k answers)) ++ (answer_text (get_or steps k d).held (answered y) ++ feed ∷ [])
last_line [] answers k d y h i = absurd (omega (arith, h))
last_line (s ∷ steps) [] k d y h i = absurd (omega (arith, h))
last_line (s ∷ steps) (a ∷ answers) zero d y h i =
    ap (λ turns. line_text (s, answered a) ++ flat_map line_text turns) (zip_none steps answers (omega (arith, h)))
    ∙ append-nil (line_text (s, answered a))
    ∙ ap (λ v. answer_text s.held (answered v) ++ feed ∷ []) (sym i)
last_line (s ∷ steps) (a ∷ answers) (suc k) d y h i =
    ap (λ lines. line_text (s, answered a) ++ lines) (last_line steps answers k d y (omega (arith, h)) i)
    ∙ sym (append_assoc (line_text (s, answered a)) (answer_lines (take k steps) (map answered (take k answers))) _)

trimmed : (lines front : List ℕ) → lines ≡ front ++ feed ∷ [] → take (length lines - 1) lines ≡ front
trimmed lines front h = ap (λ ls. take (length ls - 1) ls) h ∙ take_at front (feed ∷ []) _ (omega (arith, length-append front (feed ∷ [])))

pub but_last_end : (steps : List (Numbered Step)) (answers : List (Answer ConverterSample)) (k : ℕ) (d : Numbered Step) (y : Answer ConverterSample)
    → min (length steps) (length answers) ≡ suc k → y ≡ get_or answers k y
    → answered_lines steps answers ≡ answer_lines (take k steps) (map answered (take k answers)) ++ answer_text (get_or steps k d).held (answered y)
but_last_end steps answers k d y h i =
    trimmed _ _ (last_line steps answers k d y h i ∙ sym (append_assoc (answer_lines (take k steps) (map answered (take k answers))) (answer_text (get_or steps k d).held (answered y)) (feed ∷ [])))
