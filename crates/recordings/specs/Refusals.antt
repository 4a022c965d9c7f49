-- The number of each refusal of opening, the byte place that it names, and its words.
use Rattle.std.specs.Prelude.{ℕ, List, codes}
use Rattle.recordings.specs.declared.refusal.Field.{Field}
use Rattle.recordings.specs.declared.refusal.Field.TheVariants.{FormatSize, Tag, Channels, Rate, ByteRate, Align, Bits, DataSize}
use Rattle.recordings.specs.declared.refusal.HeadField.{HeadField}
use Rattle.recordings.specs.declared.refusal.HeadField.TheVariants.{Riff, Length, Wave}
use Rattle.recordings.specs.declared.refusal.OpeningRefusal.{OpeningRefusal}
use Rattle.recordings.specs.declared.refusal.OpeningRefusal.TheVariants.{TooShort, WrongHead, WrongField, DataBeforeFormat}

-- where each part of the head begins
abbrev pub head_place : HeadField → ℕ
head_place Riff = 0
head_place Length = 4
head_place Wave = 8

abbrev pub opening_number : OpeningRefusal → ℕ
opening_number (TooShort s) = 8
opening_number (WrongHead h) = 9
opening_number (WrongField f s) = 10
opening_number (DataBeforeFormat s) = 11

abbrev pub opening_place : OpeningRefusal → ℕ
opening_place (TooShort s) = s
opening_place (WrongHead h) = head_place h
opening_place (WrongField f s) = s
opening_place (DataBeforeFormat s) = s

-- in words
abbrev pub head_text : HeadField → List ℕ
head_text Riff = codes "it does not begin with RIFF"
head_text Length = codes "the RIFF length is not the number of bytes less 8"
head_text Wave = codes "the RIFF form is not WAVE"

abbrev pub field_text : Field → List ℕ
field_text FormatSize = codes "the format chunk's size must be 16"
field_text Tag = codes "the format tag must be 1 (PCM)"
field_text Channels = codes "the number of channels must be 2 for a signal, 1 for a gain recording"
field_text Rate = codes "the rate must be 1 to 100000000"
field_text ByteRate = codes "the byte rate must be the rate times the bytes of an item"
field_text Align = codes "an item must have 4 bytes in a signal, 1 in a gain recording"
field_text Bits = codes "the bits must be 12 for a signal, 8 for a gain recording"
field_text DataSize = codes "the data's size must be a multiple of the bytes of an item"

-- a wrong field is reported by its own words
abbrev pub opening_text : OpeningRefusal → List ℕ
opening_text (TooShort s) = codes "the bytes end too early"
opening_text (WrongHead h) = head_text h
opening_text (WrongField f s) = field_text f
opening_text (DataBeforeFormat s) = codes "the data stands before the format"
