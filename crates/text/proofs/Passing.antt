-- Entries come off the lines one after the other.
use Rattle.std.proofs.Common.{◌≡◌, ℕ, ◌+◌, ◌<◌, List, [], ◌∷◌, length, map, filter, true, false, cond, refl, sym, ap, ◌∙◌, ◌++◌, append_assoc, arith}
use Rattle.std.specs.List.{enumerate_from, AllZip}
use Rattle.std.specs.Str.{IsUtf8}
use Rattle.std.proofs.lemmas.Bool.Decides.{nat_tests}
use Rattle.std.proofs.lemmas.Str.{IsUtf8-from_is_utf8, is_utf8-from_IsUtf8}
use Rattle.text.specs.declared.fault.Wrong.{Wrong}
use Rattle.text.specs.declared.numbered.Numbered.{Numbered}
use Rattle.text.specs.Entries.{WrongText, Holds, IsWrong, NoRoomFor, FirstWrong, entries_behind}
use Rattle.text.proofs.Rows.{zip_more}
use mathlib.Core.Logic.{◌⊎◌, inl, inr}
use Rattle.text.specs.Lines.{lines_of, reported_number, numbered}
use Rattle.text.specs.Words.{words_of, is_entry}

abbrev numbering : ℕ → List (List ℕ) → List (ℕ × List ℕ)
numbering n lines = map {B = ℕ × List ℕ} (λ line. (reported_number line.0, line.1)) (enumerate_from n lines)

same_numbers : (n m : ℕ) (lines : List (List ℕ)) → reported_number n ≡ reported_number m → numbering n lines ≡ numbering m lines
same_numbers n m [] h = refl
same_numbers n m (line ∷ lines) h =
    let more = same_numbers (n + 1) (m + 1) lines (omega arith) in
    ap (λ (k : ℕ). ((k, line) ∷ numbering (n + 1) lines)) h ∙ ap (λ (ls : List (ℕ × List ℕ)). (reported_number m, line) ∷ ls) more

first_numbered : (passed : ℕ) (line : List ℕ) (lines : List (List ℕ)) → numbered passed (line ∷ lines) ≡ (reported_number (passed + 1), line) ∷ numbered (reported_number (passed + 1)) lines
first_numbered passed line lines = ap (λ (ls : List (ℕ × List ℕ)). (reported_number (passed + 1), line) ∷ ls) (same_numbers (passed + 1 + 1) (reported_number (passed + 1) + 1) lines (omega arith))

first_behind : (passed : ℕ) (bytes line left : List ℕ) → lines_of bytes ≡ line ∷ lines_of left → entries_behind passed bytes ≡ cond (is_entry line) ((reported_number (passed + 1), line) ∷ entries_behind (reported_number (passed + 1)) left) (entries_behind (reported_number (passed + 1)) left)
first_behind passed bytes line left is = rw is (ap (filter (λ l. is_entry l.1)) (first_numbered passed line (lines_of left)))

-- a line that is no entry is passed over
pub passed_over : (passed n : ℕ) (bytes line left : List ℕ) → lines_of bytes ≡ line ∷ lines_of left → n ≡ reported_number (passed + 1) → is_entry line ≡ false → entries_behind passed bytes ≡ entries_behind n left
passed_over passed n bytes line left is number off = first_behind passed bytes line left is ∙ rw (off, ← number)

pub first_entry : (passed n : ℕ) (bytes line left : List ℕ) → lines_of bytes ≡ line ∷ lines_of left → n ≡ reported_number (passed + 1) → is_entry line ≡ true → entries_behind passed bytes ≡ (n, line) ∷ entries_behind n left
first_entry passed n bytes line left is number on = first_behind passed bytes line left is ∙ rw (on, ← number)

pub blank : (line : List ℕ) → IsUtf8 line → words_of line ≡ [] → is_entry line ≡ false
blank line text none = grind (arith, nat_tests, is_utf8-from_IsUtf8 line text, none)

pub with_words : (line : List ℕ) → 0 < length (words_of line) → is_entry line ≡ true
with_words line some = grind (arith, nat_tests)

no_text : (line : List ℕ) → ¬ (IsUtf8 line) → is_entry line ≡ true
no_text line not_text = grind (arith, nat_tests, not_text, IsUtf8-from_is_utf8 line)

pub wrong_entry : (Complains : List (List ℕ) → Wrong → Type 0) (line : List ℕ) (wrong : Wrong) → WrongText Complains line wrong → is_entry line ≡ true
wrong_entry Complains line wrong (inl h) = no_text line h.0
wrong_entry Complains line wrong (inr h) = with_words line h.1

-- the values are what the entries say that are passed; these are left
abbrev pub Passed : {F : Type 0} → (List (List ℕ) → F → Type 0) → List (ℕ × List ℕ) → List (ℕ × List ℕ) → List (Numbered F) → Type 0
Passed Says all left held = (passed : List (ℕ × List ℕ)) × (all ≡ passed ++ left) × AllZip (Holds Says) passed held

pub passed_more : {F : Type 0} (Says : List (List ℕ) → F → Type 0) (all left after : List (ℕ × List ℕ)) (held : List (Numbered F)) (entry : ℕ × List ℕ) (one : Numbered F) → Passed Says all left held → left ≡ entry ∷ after → Holds Says entry one → Passed Says all after (held ++ one ∷ [])
passed_more Says all left after held entry one so_far is holds = (
  so_far.0 ++ entry ∷ [],
  so_far.1 ∙ ap (λ ls. so_far.0 ++ ls) is ∙ sym (append_assoc so_far.0 (entry ∷ []) after),
  zip_more (Holds Says) so_far.0 held entry one so_far.2 holds,
)

-- the entry at which reading stops
pub stops : {F : Type 0} (Says : List (List ℕ) → F → Type 0) (Complains : List (List ℕ) → Wrong → Type 0) (all left after : List (ℕ × List ℕ)) (held : List (Numbered F)) (entry : ℕ × List ℕ) (wrong : Numbered Wrong) → Passed Says all left held → left ≡ entry ∷ after → IsWrong Complains entry wrong ⊎ NoRoomFor Says entry wrong → FirstWrong Says Complains all wrong
stops Says Complains all left after held entry wrong so_far is fails =
    record { before = so_far.0; entry = entry; after = after; held = held; entries_are = so_far.1 ∙ ap (λ ls. so_far.0 ++ ls) is; hold = so_far.2; fails = fails }
