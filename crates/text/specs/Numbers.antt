-- What number a word spells: decimal digits, with an optional sign.
use Rattle.std.specs.Prelude.{ℕ, ◌+◌, ◌^◌, List, length, Bool, ◌&&◌, cond, ℤ, Option, Some, None, nat_lt, true, false, codes}
use Rattle.std.specs.Str.{all_ascii_digits, bytes_eq}
use Rattle.text.specs.declared.number.Switch.{Switch}
use Rattle.std.specs.Str.Parse.{digits_value, without_leading_plus, without_leading_sign, signed_digits_value, starts_with_minus}

-- one decimal digit or more, whose number is less than top
abbrev pub is_below : ℕ → List ℕ → Bool
is_below top ds = (nat_lt 0 (length ds) && all_ascii_digits ds) && nat_lt (digits_value 10 ds) top

-- the number below 2^bits that the word spells; a plus may stand in front
abbrev pub unsigned : ℕ → List ℕ → Option ℕ
unsigned bits word = cond (is_below (2 ^ bits) (without_leading_plus word)) (Some (digits_value 10 (without_leading_plus word))) None

-- the number from -2^high to 2^high - 1 that the word spells; a plus or a minus may stand in front
abbrev pub signed : ℕ → List ℕ → Option ℤ
signed high word = cond (is_below (2 ^ high + cond (starts_with_minus word) 1 0) (without_leading_sign word)) (Some (signed_digits_value 10 word)) None

-- a switch is off at `0` and on at `1`
abbrev pub switch : List ℕ → Option Switch
switch word = cond (bytes_eq word (codes "0")) (Some (record { 0 = false })) (cond (bytes_eq word (codes "1")) (Some (record { 0 = true })) None)

-- how the numbers are reported that a word may be
abbrev pub u8_range : List ℕ
u8_range = codes "a whole number from 0 to 255"

abbrev pub u16_range : List ℕ
u16_range = codes "a whole number from 0 to 65535"

abbrev pub u32_range : List ℕ
u32_range = codes "a whole number from 0 to 4294967295"

abbrev pub i16_range : List ℕ
i16_range = codes "a whole number from -32768 to 32767"

abbrev pub i64_range : List ℕ
i64_range = codes "a whole number from -9223372036854775808 to 9223372036854775807"

abbrev pub switch_range : List ℕ
switch_range = codes "0 or 1"
