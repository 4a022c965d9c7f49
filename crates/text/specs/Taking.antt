-- Entries and numbers, as the words that they have left.
use Rattle.std.specs.Prelude.{ℕ, List}
use Rattle.std.specs.Str.Iter.{split_ascii_whitespace_text}
use Rattle.text.specs.declared.entry.Entry.{Entry}
use Rattle.text.specs.declared.numbers.Numbers.{Numbers}
use Rattle.text.specs.Words.{words_in}

abbrev pub words_left : Entry → List (List ℕ)
words_left entry = words_in (split_ascii_whitespace_text entry.words)

abbrev pub numbers_left : Numbers → List (List ℕ)
numbers_left numbers = words_left numbers.words
