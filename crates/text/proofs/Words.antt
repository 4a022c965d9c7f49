-- Words come off a text one after the other.
use Rattle.std.proofs.Common.{◌≡◌, ℕ, ◌<◌, ◌≤◌, List, [], ◌∷◌, ◌++◌, length, get_or, true, false, refl, sym, ap, ◌∙◌, arith, filter, suc, append-nil, nat_lt, codes, Option, Some, None, Bor, MatchOption}
use Rattle.std.specs.Char.{is_ascii_whitespace}
use Rattle.std.specs.List.{slice_split, AllPass, All}
use Rattle.std.specs.Str.{NoCharPasses}
use Rattle.std.specs.Str.Iter.{IsAsciiSeparator, CutsAsciiWord}
use Rattle.std.proofs.lemmas.Bool.{lt-ltb}
use Rattle.std.proofs.lemmas.List.{get_or_default}
use Rattle.std.proofs.lemmas.List.Splits.{slice_split_none, slice_split_at, slice_split-cons_yes}
use Rattle.std.proofs.lemmas.Str.{NoCharPasses-byte}
use Rattle.std.proofs.lemmas.Bool.Decides.{nat_tests}
use Rattle.text.specs.Words.{words_in, beginning, quote_of}

-- white space in front holds no word
pub words_behind_gap : (gap text : List ℕ) → AllPass is_ascii_whitespace gap → words_in (gap ++ text) ≡ words_in text
words_behind_gap [] text all = refl
words_behind_gap (b ∷ gap) text all =
    let head : is_ascii_whitespace b ≡ true = all 0 0 (omega arith) in
    let tail : AllPass is_ascii_whitespace gap = λ k d h. all (suc k) d (omega arith) in
    ap (filter (λ word. nat_lt 0 (length word))) (slice_split-cons_yes is_ascii_whitespace b (gap ++ text) head) ∙ words_behind_gap gap text tail

pub no_words : (text : List ℕ) → AllPass is_ascii_whitespace text → words_in text ≡ []
no_words text all = ap words_in (sym (append-nil text)) ∙ words_behind_gap text [] all

-- only an ASCII byte is white space
white_below : (b : ℕ) → (b < 128 → is_ascii_whitespace b ≡ false) → is_ascii_whitespace b ≡ false
white_below b low = grind (arith, nat_tests)

-- a byte of a text without white space is none
no_white : (word : List ℕ) → NoCharPasses is_ascii_whitespace word → All (λ b. is_ascii_whitespace b ≡ false) word
no_white word none k d within = rw (get_or_default word k d 0 within) (white_below (get_or word k 0) (λ low. NoCharPasses-byte is_ascii_whitespace word k none within low))

one_word : (word : List ℕ) (more : List (List ℕ)) → 0 < length word → filter (λ w. nat_lt 0 (length w)) (word ∷ more) ≡ word ∷ filter (λ w. nat_lt 0 (length w)) more
one_word word more some = rw (lt-ltb 0 (length word) some)

pub first_word : (word sep rest : List ℕ) → 0 < length word → NoCharPasses is_ascii_whitespace word → IsAsciiSeparator sep rest → words_in (word ++ (sep ++ rest)) ≡ word ∷ words_in rest
first_word word [] [] some none ends = ap (filter (λ w. nat_lt 0 (length w))) (ap (slice_split is_ascii_whitespace) (append-nil word) ∙ slice_split_none is_ascii_whitespace word (no_white word none)) ∙ one_word word [] some
first_word word [] (r ∷ rest) some none ends = absurd (omega (arith, ends.2 refl))
first_word word (b ∷ []) rest some none ends = ap (filter (λ w. nat_lt 0 (length w))) (slice_split_at is_ascii_whitespace word b rest (no_white word none) (ends.0 0 0 (omega arith))) ∙ one_word word (slice_split is_ascii_whitespace rest) some
first_word word (b ∷ c ∷ sep) rest some none ends = absurd (omega (arith, ends.1))

-- what one step of the words' iterator takes off the words
pub taken : (text left : List ℕ) (r : Option (Bor (List ℕ))) → CutsAsciiWord text r left (λ gap word sep. gap ++ (word ++ (sep ++ left))) → MatchOption r ((words_in text ≡ []) × (words_in left ≡ [])) (λ word. words_in text ≡ word.now ∷ words_in left)
taken text [] None h = (no_words text h.0, refl)
taken text (b ∷ left) None h = absurd (omega (arith, h.1))
taken text left (Some word) h =
    let cut = h.3 in
    ap words_in cut.2 ∙ words_behind_gap cut.0 (word.now ++ (cut.1 ++ left)) cut.3 ∙ first_word word.now cut.1 left h.0 h.1 cut.4

pub quote_whole : (word text : List ℕ) → text ≡ beginning word → length word ≤ length text → text ≡ quote_of word
quote_whole word text is long = grind (arith, nat_tests, is, ap length is, long)

pub quote_begun : (word begun text : List ℕ) → begun ≡ beginning word → length begun < length word → text ≡ begun ++ codes ".." → text ≡ quote_of word
quote_begun word begun text is short dots = grind (arith, nat_tests, is, ap length is, short, dots)
