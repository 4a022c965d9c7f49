-- What std reads of a word is the number that the word spells.
use Rattle.std.proofs.Common.{◌≡◌, ℕ, ◌+◌, ◌^◌, ◌<◌, List, Bool, true, false, length, cond, ℤ, Result, Ok, Err, Some, None, refl, arith, ap, nat_lt, zero, suc, pos, neg_ℤ, SFits}
use Rattle.std.specs.Result.{result_ok, OkIff}
use mir.Syntax.{Width}
use mir.Val.{hbits}
use Rattle.std.specs.Str.{all_ascii_digits}
use Rattle.std.specs.Bool.{Decides}
use Rattle.std.specs.Str.Parse.{ParsesUnsigned, ParsesSigned, starts_with_minus, digits_value, without_leading_plus, without_leading_sign, signed_digits_value, AllDigits, IsNumeral}
use Rattle.std.proofs.lemmas.Str.Parse.{IsNumeralModel, numerals_by_value, tells_all_ascii_digits}
use Rattle.std.proofs.lemmas.Bool.Decides.{Decides-and, Decides-ltb, Decides-like}
use Rattle.std.proofs.lemmas.Nat.{pow_pos}
use Rattle.text.specs.Numbers.{is_below, unsigned, signed}

digits : IsNumeralModel (λ ds. all_ascii_digits ds ≡ true) (digits_value 10)
digits = numerals_by_value _ tells_all_ascii_digits

-- the test decides what std asks of digits
tells_below : (top : ℕ) (ds : List ℕ) → Decides (is_below top ds) (IsNumeral 10 ds × (digits_value 10 ds < top))
tells_below top ds =
    let some : Decides (nat_lt 0 (length ds)) (0 < length ds) = Decides-ltb 0 (length ds) in
    let all : Decides (all_ascii_digits ds) (AllDigits 10 ds) = (digits.to ds, digits.from ds) in
    Decides-and _ _ (Decides-and _ _ some all) (Decides-ltb (digits_value 10 ds) top)

-- a result that is the value where P holds is the value where a test of P passes
read_where : {T E P : Type 0} (passes : Bool) (v : T) (r : Result T E) → Decides passes P → OkIff r P v → result_ok r ≡ cond passes (Some v) None
read_where true v (Ok x) d h = ap Some h.1
read_where true v (Err e) d h = absurd (h (d.0 refl))
read_where false v (Ok x) d h = cc (d.1 h.0)
read_where false v (Err e) d h = refl

pub unsigned_reads : {E : Type 0} (k : ℕ) (word : List ℕ) (r : Result ℕ E) → ParsesUnsigned k 10 word r → result_ok r ≡ unsigned k word
unsigned_reads k word r h = read_where _ _ r (tells_below (2 ^ k) (without_leading_plus word)) h

fits_from : (w : Width) (minus : Bool) (n : ℕ) → n < 2 ^ hbits w + cond minus 1 0 → SFits w (cond minus (neg_ℤ (pos n)) (pos n))
fits_from w true zero h = record { sfits = pow_pos (hbits w) }
fits_from w true (suc n) h = record { sfits = omega arith }
fits_from w false n h = record { sfits = omega arith }

from_fits : (w : Width) (minus : Bool) (n : ℕ) → SFits w (cond minus (neg_ℤ (pos n)) (pos n)) → n < 2 ^ hbits w + cond minus 1 0
from_fits w true zero h = omega (arith, pow_pos (hbits w))
from_fits w true (suc n) h = omega (arith, h.sfits)
from_fits w false n h = omega (arith, h.sfits)

-- with a minus the least number fits too
tells_signed : (w : Width) (word : List ℕ) → Decides (is_below (2 ^ hbits w + cond (starts_with_minus word) 1 0) (without_leading_sign word)) (IsNumeral 10 (without_leading_sign word) × SFits w (signed_digits_value 10 word))
tells_signed w word =
    Decides-like _ (λ h. (h.0, fits_from w (starts_with_minus word) _ h.1)) (λ h. (h.0, from_fits w (starts_with_minus word) _ h.1)) (tells_below _ (without_leading_sign word))

pub signed_reads : {E : Type 0} (w : Width) (word : List ℕ) (r : Result ℤ E) → ParsesSigned w 10 word r → result_ok r ≡ signed (hbits w) word
signed_reads w word r h = read_where _ _ r (tells_signed w word) h
