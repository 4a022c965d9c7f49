-- The entries of a file, and what is read of them.
use Rattle.std.specs.Prelude.{◌≡◌, ℕ, ◌<◌, List, [], ◌∷◌, ◌++◌, length, filter, ◌⊎◌, Option, MatchOption, Result, Ok, Err}
use Rattle.std.specs.List.{AllZip}
use Rattle.std.specs.Str.{IsUtf8}
use Rattle.text.specs.declared.entries.Entries.{Entries}
use Rattle.text.specs.declared.fault.Wrong.{Wrong}
use Rattle.text.specs.declared.fault.Wrong.TheVariants.{NoText, Memory}
use Rattle.text.specs.declared.numbered.Numbered.{Numbered}
use Rattle.text.specs.Lines.{lines_of, numbered}
use Rattle.text.specs.Words.{words_of, is_entry}

-- the lines behind so many, without those of blanks and comments
abbrev pub entries_behind : ℕ → List ℕ → List (ℕ × List ℕ)
entries_behind passed bytes = filter (λ line. is_entry line.1) (numbered passed (lines_of bytes))

abbrev pub entries_of : List ℕ → List (ℕ × List ℕ)
entries_of bytes = entries_behind 0 bytes

abbrev pub entries_left : {F : Type 0} → Entries F → List (ℕ × List ℕ)
entries_left entries = entries_behind entries.lines.passed entries.lines.rest.now

-- a line is text and holds nothing, having no word, or what its words say
abbrev pub LineHolds : {F : Type 0} → (List (List ℕ) → F → Type 0) → List ℕ → Option F → Type 0
LineHolds Says line held =
    IsUtf8 line × MatchOption held (words_of line ≡ []) (λ value. (0 < length (words_of line)) × Says (words_of line) value)

-- a line is no text, or its words are wrong
abbrev pub WrongText : (List (List ℕ) → Wrong → Type 0) → List ℕ → Wrong → Type 0
WrongText Complains line wrong = (¬ (IsUtf8 line) × (wrong ≡ NoText)) ⊎ (IsUtf8 line × (0 < length (words_of line)) × Complains (words_of line) wrong)

-- the value is what the entry says, with its line's number
abbrev pub Holds : {F : Type 0} → (List (List ℕ) → F → Type 0) → ℕ × List ℕ → Numbered F → Type 0
Holds Says entry held = (held.line ≡ entry.0) × IsUtf8 entry.1 × Says (words_of entry.1) held.held

-- the entry is wrong, in this way
abbrev pub IsWrong : (List (List ℕ) → Wrong → Type 0) → ℕ × List ℕ → Numbered Wrong → Type 0
IsWrong Complains entry wrong = (wrong.line ≡ entry.0) × WrongText Complains entry.1 wrong.held

abbrev pub Reads : {F : Type 0} → (List (List ℕ) → F → Type 0) → (List (List ℕ) → Wrong → Type 0) → ℕ × List ℕ → Result (Numbered F) (Numbered Wrong) → Type 0
Reads Says Complains entry (Ok held) = Holds Says entry held
Reads Says Complains entry (Err wrong) = IsWrong Complains entry wrong

-- there is no memory for what the entry says
abbrev pub NoRoomFor : {F : Type 0} → (List (List ℕ) → F → Type 0) → ℕ × List ℕ → Numbered Wrong → Type 0
NoRoomFor {F = F} Says entry wrong = (wrong.held ≡ Memory) × ((value : F) × Holds Says entry (record { line = wrong.line; held = value }))

-- All entries before one hold what is read; that one is wrong, or there is no memory for it.
pub record FirstWrong {F : Type 0} (Says : List (List ℕ) → F → Type 0) (Complains : List (List ℕ) → Wrong → Type 0) (entries : List (ℕ × List ℕ)) (wrong : Numbered Wrong) : Type 0 where
  pub before : List (ℕ × List ℕ)
  pub entry : ℕ × List ℕ
  pub after : List (ℕ × List ℕ)
  pub held : List (Numbered F)
  pub entries_are : entries ≡ before ++ entry ∷ after
  pub hold : AllZip (Holds Says) before held
  pub fails : IsWrong Complains entry wrong ⊎ NoRoomFor Says entry wrong
