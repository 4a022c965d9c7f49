-- What is wrong with a line's words.
use Rattle.std.specs.Prelude.{◌≡◌, ℕ, ◌<◌, List, [], ◌∷◌, ◌++◌, Bool, true, false, Option, Some, is_some, string_bytes, ◌⊎◌, length}
use Rattle.std.specs.List.{All, AllZip, flat_map}
use Rattle.text.specs.declared.fault.Wrong.{Wrong}
use Rattle.text.specs.declared.fault.Wrong.TheVariants.{UnknownWord, NoNumber, Missing, Superfluous, Memory}
use Rattle.text.specs.Words.{quote_of}

-- a kind of number: which words spell one, and which numbers these are
pub record Kind : Type 0 where
  pub spells : List ℕ → Bool
  pub range : List ℕ

abbrev pub kind_of : {N : Type 0} → (List ℕ → Option N) → List ℕ → Kind
kind_of spelled range = record { spells = λ word. is_some (spelled word); range = range }

-- the word spells a number of the kind
abbrev pub Spells : Kind → List ℕ → Type 0
Spells kind word = kind.spells word ≡ true

-- the first word is none that names something of the kind
abbrev pub Unknown : List ℕ → List ℕ → Wrong → Type 0
Unknown kind word (UnknownWord quote names) = (string_bytes quote ≡ quote_of word) × (names.now ≡ kind)
Unknown kind word Memory = Unit {0}
Unknown kind word _ = ⊥

-- the word is no number of the kind; where there is no memory to quote it, that is reported
abbrev pub Mistaken : Kind → List ℕ → Wrong → Type 0
Mistaken kind word (NoNumber quote range) = (kind.spells word ≡ false) × (string_bytes quote ≡ quote_of word) × (range.now ≡ kind.range)
Mistaken kind word Memory = kind.spells word ≡ false
Mistaken kind word _ = ⊥

-- a number of the form is missing
abbrev pub Ends : List ℕ → Wrong → Type 0
Ends form (Missing answered) = answered.now ≡ form
Ends form _ = ⊥

-- the words that are left fail a form that has a number of the kind here
abbrev pub FailsAt : List ℕ → Kind → List (List ℕ) → Wrong → Type 0
FailsAt form kind [] wrong = Ends form wrong
FailsAt form kind (word ∷ more) wrong = Mistaken kind word wrong

-- the word is too much for the form
abbrev pub TooMuch : List ℕ → List ℕ → Wrong → Type 0
TooMuch form word (Superfluous quote answered) = (string_bytes quote ≡ quote_of word) × (answered.now ≡ form)
TooMuch form word Memory = Unit {0}
TooMuch form word _ = ⊥

-- Words of these kinds come first, then one that is no number of its kind, or none where the form has one.
pub record Lacks (form : List ℕ) (kinds : List Kind) (words : List (List ℕ)) (wrong : Wrong) : Type 0 where
  pub spelled : List (List ℕ)
  pub more : List (List ℕ)
  pub before : List Kind
  pub kind : Kind
  pub after : List Kind
  pub kinds_are : kinds ≡ before ++ kind ∷ after
  pub words_are : words ≡ spelled ++ more
  pub spell : AllZip Spells before spelled
  pub fails : FailsAt form kind more wrong

-- Words of these kinds come first, then one more.
pub record Exceeds (form : List ℕ) (kinds : List Kind) (words : List (List ℕ)) (wrong : Wrong) : Type 0 where
  pub spelled : List (List ℕ)
  pub word : List ℕ
  pub more : List (List ℕ)
  pub words_are : words ≡ spelled ++ word ∷ more
  pub spell : AllZip Spells kinds spelled
  pub fails : TooMuch form word wrong

-- Whole rows of these kinds come first, then one that fails.
pub record LastLacks (form : List ℕ) (kinds : List Kind) (words : List (List ℕ)) (wrong : Wrong) : Type 0 where
  pub whole : List (List (List ℕ))
  pub last : List (List ℕ)
  pub words_are : words ≡ flat_map (λ row. row) whole ++ last
  pub begun : 0 < length last
  pub spell : All (AllZip Spells kinds) whole
  pub fails : Lacks form kinds last wrong

-- the words begin with a whole row
abbrev pub BeginsWithRow : List Kind → List (List ℕ) → Type 0
BeginsWithRow kinds words = (row : List (List ℕ)) × (more : List (List ℕ)) × (words ≡ row ++ more) × AllZip Spells kinds row

-- there is no memory to keep the rows, of which there is one at least
abbrev pub NoRoom : List Kind → List (List ℕ) → Wrong → Type 0
NoRoom kinds words wrong = (wrong ≡ Memory) × BeginsWithRow kinds words

-- what is wrong with words that should be one row of numbers, and with words that should be whole rows
abbrev pub NoRow : List ℕ → List Kind → List (List ℕ) → Wrong → Type 0
NoRow form kinds words wrong = Lacks form kinds words wrong ⊎ Exceeds form kinds words wrong

abbrev pub NoRows : List ℕ → List Kind → List (List ℕ) → Wrong → Type 0
NoRows form kinds words wrong = NoRoom kinds words wrong ⊎ LastLacks form kinds words wrong

-- the words are rows that say the items, one behind the other
abbrev pub SayRows : {R : Type 0} → (List (List ℕ) → R → Type 0) → List (List ℕ) → List R → Type 0
SayRows Says words items = (rows : List (List (List ℕ))) × (words ≡ flat_map (λ row. row) rows) × AllZip Says rows items

-- a row is taken off the words
abbrev pub TakesRow : {R : Type 0} → List Kind → (List (List ℕ) → R → Type 0) → List (List ℕ) → List (List ℕ) → R → Type 0
TakesRow kinds Says words left row = (taken : List (List ℕ)) × (words ≡ taken ++ left) × AllZip Spells kinds taken × Says taken row

-- a number is taken off the words
abbrev pub TakesNumber : {N : Type 0} → (List ℕ → Option N) → List (List ℕ) → List (List ℕ) → N → Type 0
TakesNumber spelled words left number = (word : List ℕ) × (words ≡ word ∷ left) × (spelled word ≡ Some number)

-- one, two or three words spell the numbers
abbrev pub OneSays : {A : Type 0} → (List ℕ → Option A) → List (List ℕ) → A → Type 0
OneSays first words x = (v : List ℕ) × (words ≡ v ∷ []) × (first v ≡ Some x)

abbrev pub TwoSay : {A B : Type 0} → (List ℕ → Option A) → (List ℕ → Option B) → List (List ℕ) → A → B → Type 0
TwoSay first second words x y = (v : List ℕ) × (w : List ℕ) × (words ≡ v ∷ w ∷ []) × (first v ≡ Some x) × (second w ≡ Some y)

abbrev pub ThreeSay : {A B C : Type 0} → (List ℕ → Option A) → (List ℕ → Option B) → (List ℕ → Option C) → List (List ℕ) → A → B → C → Type 0
ThreeSay first second third words x y z = (u : List ℕ) × (v : List ℕ) × (w : List ℕ) × (words ≡ u ∷ v ∷ w ∷ []) × (first u ≡ Some x) × (second v ≡ Some y) × (third w ≡ Some z)
