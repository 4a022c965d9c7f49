-- What reading row by row tells of the words.
use Rattle.std.proofs.Common.{◌≡◌, ℕ, List, [], ◌∷◌, ◌++◌, refl, sym, ap, ◌∙◌, Option, Some, is_some, Result, Ok, Err, MatchResult, append-nil, append_assoc, subst, ◌<◌, length, arith}
use Rattle.std.specs.Result.{IsErrAnd}
use Rattle.std.specs.List.{All, AllZip, flat_map}
use Rattle.std.proofs.lemmas.Grind.{flat_map-append}
use Rattle.std.proofs.lemmas.List.Elements.{All-push}
use Rattle.text.specs.declared.fault.Wrong.{Wrong}
use Rattle.text.specs.Faults.{Kind, kind_of, Spells, FailsAt, Lacks, BeginsWithRow, SayRows, TakesRow}

-- the error that a failed step hands on
pub exit : {T E : Type 0} (P : T → Type 0) (Q : E → Type 0) (r : Result T E) (w : E) → IsErrAnd r (λ e. e ≡ w) → Q w → MatchResult r P Q
exit P Q (Ok x) w h q = absurd h
exit P Q (Err e) w h q = rw h q

-- the first number of the form fails
pub lacks_first : (form : List ℕ) (kind : Kind) (kinds : List Kind) (words : List (List ℕ)) (wrong : Wrong) → FailsAt form kind words wrong → Lacks form (kind ∷ kinds) words wrong
lacks_first form kind kinds words wrong h = record { spelled = []; more = words; before = []; kind = kind; after = kinds; kinds_are = refl; words_are = refl; spell = tt; fails = h }

-- the first word spells its number, and what is behind it fails
pub lacks_later : {N : Type 0} (spelled : List ℕ → Option N) (n : N) (form range : List ℕ) (kinds : List Kind) (word : List ℕ) (words : List (List ℕ)) (wrong : Wrong) → spelled word ≡ Some n → Lacks form kinds words wrong → Lacks form (kind_of spelled range ∷ kinds) (word ∷ words) wrong
lacks_later spelled n form range kinds word words wrong s h =
    record {
      spelled = word ∷ h.spelled;
      more = h.more;
      before = kind_of spelled range ∷ h.before;
      kind = h.kind;
      after = h.after;
      kinds_are = ap (λ ks. kind_of spelled range ∷ ks) h.kinds_are;
      words_are = ap (λ ws. word ∷ ws) h.words_are;
      spell = (ap is_some s, h.spell);
      fails = h.fails;
    }

-- the words are rows that say the items, and what is left
abbrev pub Begun : {R : Type 0} → List Kind → (List (List ℕ) → R → Type 0) → List (List ℕ) → List R → List (List ℕ) → Type 0
Begun kinds Says words items left = (whole : List (List (List ℕ))) × (words ≡ flat_map (λ row. row) whole ++ left) × All (AllZip Spells kinds) whole × AllZip Says whole items

pub zip_more : {A B : Type 0} (R : A → B → Type 0) (xs : List A) (ys : List B) (x : A) (y : B) → AllZip R xs ys → R x y → AllZip R (xs ++ x ∷ []) (ys ++ y ∷ [])
zip_more R [] [] x y h r = (r, tt)
zip_more R [] (b ∷ ys) x y h r = absurd h
zip_more R (a ∷ xs) [] x y h r = absurd h
zip_more R (a ∷ xs) (b ∷ ys) x y h r = (h.0, zip_more R xs ys x y h.1 r)

flat_more : (rows : List (List (List ℕ))) (row left : List (List ℕ)) → flat_map (λ r. r) (rows ++ row ∷ []) ++ left ≡ flat_map (λ r. r) rows ++ (row ++ left)
flat_more rows row left = ap (λ xs. xs ++ left) (flat_map-append (λ r. r) rows (row ∷ []) ∙ ap (λ xs. flat_map (λ r. r) rows ++ xs) (append-nil row)) ∙ append_assoc (flat_map (λ r. r) rows) row left

-- one row more
pub begun_more : {R : Type 0} (kinds : List Kind) (Says : List (List ℕ) → R → Type 0) (words : List (List ℕ)) (items : List R) (left after : List (List ℕ)) (row : R) → Begun kinds Says words items left → TakesRow kinds Says left after row → Begun kinds Says words (items ++ row ∷ []) after
begun_more kinds Says words items left after row begun takes =
    let whole = begun.0 in (
      whole ++ takes.0 ∷ [],
      begun.1 ∙ ap (λ xs. flat_map (λ r. r) whole ++ xs) takes.1 ∙ sym (flat_more whole takes.0 after),
      All-push (AllZip Spells kinds) whole takes.0 begun.2 takes.2,
      zip_more Says whole items takes.0 row begun.3 takes.3,
    )

-- rows in front of words that begin with one
first_row : (kinds : List Kind) (words left : List (List ℕ)) (whole : List (List (List ℕ))) → words ≡ flat_map (λ row. row) whole ++ left → All (AllZip Spells kinds) whole → BeginsWithRow kinds left → BeginsWithRow kinds words
first_row kinds words left [] is all h = subst (BeginsWithRow kinds) (sym is) h
first_row kinds words left (row ∷ whole) is all h = (row, flat_map (λ r. r) whole ++ left, is ∙ append_assoc row (flat_map (λ r. r) whole) left, all 0 row (omega arith))

-- the words begin with a row, once one was taken
pub begun_row : {R : Type 0} (kinds : List Kind) (Says : List (List ℕ) → R → Type 0) (words : List (List ℕ)) (items : List R) (left after : List (List ℕ)) (row : R) → Begun kinds Says words items left → TakesRow kinds Says left after row → BeginsWithRow kinds words
begun_row kinds Says words items left after row begun takes = first_row kinds words left begun.0 begun.1 begun.2 (takes.0, after, takes.1, takes.2)

-- words that are rows begin with one, if there is one
rows_first : {R : Type 0} (kinds : List Kind) (Says : List (List ℕ) → R → Type 0) → ((ws : List (List ℕ)) (row : R) → Says ws row → AllZip Spells kinds ws) → (words : List (List ℕ)) (rows : List (List (List ℕ))) (items : List R) → words ≡ flat_map (λ row. row) rows → AllZip Says rows items → 0 < length items → BeginsWithRow kinds words
rows_first kinds Says spell words rows [] is all some = absurd (omega (arith, some))
rows_first kinds Says spell words [] (x ∷ items) is all some = absurd all
rows_first kinds Says spell words (row ∷ rows) (x ∷ items) is all some = (row, flat_map (λ r. r) rows, is, spell row x all.0)

pub rows_begin : {R : Type 0} (kinds : List Kind) (Says : List (List ℕ) → R → Type 0) → ((ws : List (List ℕ)) (row : R) → Says ws row → AllZip Spells kinds ws) → (words : List (List ℕ)) (items : List R) → SayRows Says words items → 0 < length items → BeginsWithRow kinds words
rows_begin kinds Says spell words items h some = rows_first kinds Says spell words h.0 items h.1 h.2 some
