-- The words of a line, and how a word is quoted.
use Rattle.std.specs.Prelude.{ℕ, ◌++◌, List, length, take, filter, Bool, not, ◌&&◌, ◌==◌, cond, codes, nat_lt}
use Rattle.std.specs.Char.{is_ascii_whitespace}
use Rattle.std.specs.List.{slice_split, before_first}
use Rattle.std.specs.Str.{chars, is_utf8, encode_utf8_all}

-- the byte that starts a comment
abbrev pub hash : ℕ
hash = 35

-- the runs of bytes between ASCII white space
abbrev pub words_in : List ℕ → List (List ℕ)
words_in text = filter (λ word. nat_lt 0 (length word)) (slice_split is_ascii_whitespace text)

-- the words of a line are those before its comment
abbrev pub words_of : List ℕ → List (List ℕ)
words_of line = words_in (before_first (λ byte. byte == hash) line)

-- a line is an entry unless it is text without a word
abbrev pub is_entry : List ℕ → Bool
is_entry line = not (is_utf8 line && (length (words_of line) == 0))

-- the first characters of a word that are quoted
abbrev pub beginning : List ℕ → List ℕ
beginning word = encode_utf8_all (take 40 (chars word))

-- a word is quoted whole, or by its beginning and two dots
abbrev pub quote_of : List ℕ → List ℕ
quote_of word = cond (nat_lt (length (beginning word)) (length word)) (beginning word ++ codes "..") (beginning word)
