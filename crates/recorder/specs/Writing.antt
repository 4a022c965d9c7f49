-- What a written recording is, byte for byte, and what the buffer holds after each call of the writer.
use Rattle.std.specs.Prelude.{◌≡◌, ℕ, suc, ◌+◌, ◌-◌, ◌*◌, Bool, true, cond, ◌&&◌, List, [], ◌∷◌, ◌++◌, length, take, ℤ, pos, negsuc, Ok, Err, codes, Result, nat_le}
use Rattle.std.specs.List.{flat_map}
use Rattle.samples.specs.declared.kinds.ConverterSample.{ConverterSample}
use Rattle.recorder.specs.declared.refusal.WritingRefusal.{WritingRefusal}
use Rattle.recorder.specs.declared.refusal.WritingRefusal.TheVariants.{Buffer, Full, Rate}
use Rattle.recorder.specs.declared.started.StartedRecording.{StartedRecording}
use Rattle.recordings.specs.Bytes.{le16, le32, overwrite}
use Rattle.recordings.specs.Rates.{good_rate}
use Rattle.recordings.specs.Opening.{HandsOut}

-- the 44 bytes before the samples, with the size of what follows the first 8 bytes, and of the samples
abbrev pub header : ℕ → ℕ → ℕ → List ℕ
header rate riff samples =
    codes "RIFF" ++ (le32 riff ++ (codes "WAVE"
    ++ (codes "fmt " ++ (le32 16 ++ (le16 1 ++ (le16 2 ++ (le32 rate ++ (le32 (rate * 4) ++ (le16 4 ++ (le16 12
    ++ (codes "data" ++ le32 samples)))))))))))

-- a part in the upper 12 of 16 bits
abbrev pub word : ℤ → ℕ
word (pos v) = 16 * v
word (negsuc v) = 65536 - 16 * suc v

-- a sample in four bytes
abbrev pub coded : ConverterSample → List ℕ
coded x = le16 (word x.re) ++ le16 (word x.im)

-- the length of a recording of n samples
abbrev pub size_of : ℕ → ℕ
size_of n = 44 + 4 * n

-- a finished recording
abbrev pub recorded : ℕ → List ConverterSample → List ℕ
recorded rate xs = header rate (size_of (length xs) - 8) (4 * length xs) ++ flat_map coded xs

-- these bytes hold these samples, of a recording that was started and not finished
abbrev pub Holds : List ℕ → ℕ → List ConverterSample → Type 0
Holds b rate xs = take (size_of (length xs)) b ≡ header rate 0 0 ++ flat_map coded xs

abbrev pub good_buffer : ℕ → Bool
good_buffer len = nat_le 44 len && nat_le len 65536

-- n samples fit a buffer of len bytes, and 65,536 bytes
abbrev pub fits : ℕ → ℕ → Bool
fits len n = nat_le (size_of n) len && nat_le (size_of n) 65536

-- the answer where a rate and a buffer of len bytes are accepted, else the refusal; the rate is tested first
abbrev pub accepting : {X : Type 0} → ℕ → ℕ → Result X WritingRefusal → Result X WritingRefusal
accepting len rate answer = cond (good_rate rate) (cond (good_buffer len) answer (Err Buffer)) (Err Rate)

abbrev pub accept_answer : ℕ → ℕ → Result (Unit {0}) WritingRefusal
accept_answer len rate = accepting len rate (Ok tt)

-- A count at its limit, far above what a recording may have. To drop a started recording needs it, and none ever meets it.
abbrev pub Overfull : StartedRecording → Type 0
Overfull w = w.samples ≡ 4294967295

-- start
abbrev pub start_answer : ℕ → ℕ → Result StartedRecording WritingRefusal
start_answer len rate = accepting len rate (Ok (record { samples = 0 }))

abbrev pub after_start : List ℕ → ℕ → List ℕ
after_start b rate = cond (good_rate rate && good_buffer (length b)) (overwrite 0 (header rate 0 0) b) b

-- put
abbrev pub put_answer : ℕ → ℕ → Result (Unit {0}) WritingRefusal
put_answer len n = cond (fits len (n + 1)) (Ok tt) (Err Full)

abbrev pub put_count : ℕ → ℕ → ℕ
put_count len n = cond (fits len (n + 1)) (n + 1) n

abbrev pub after_put : List ℕ → ℕ → ConverterSample → List ℕ
after_put b n x = cond (fits (length b) (n + 1)) (overwrite (size_of n) (coded x) b) b

-- finish
abbrev pub finish_answer : ℕ → StartedRecording → Result ℕ (WritingRefusal × StartedRecording)
finish_answer len w = cond (fits len w.samples) (Ok (size_of w.samples)) (Err (Full, w))

abbrev pub sized : List ℕ → ℕ → List ℕ
sized b n = overwrite 40 (le32 (4 * n)) (overwrite 4 (le32 (size_of n - 8)) b)

abbrev pub after_finish : List ℕ → ℕ → List ℕ
after_finish b n = cond (fits (length b) n) (sized b n) b

-- The round trip, call by call: whatever samples the bytes held, they hold them and the one that was put in;
abbrev pub Adds : List ℕ → List ℕ → ℕ → ConverterSample → Type 0
Adds b after n x = (rate : ℕ) (xs : List ConverterSample) → length xs ≡ n → Holds b rate xs → Holds after rate (xs ++ x ∷ [])

-- and whatever samples they held, the finished bytes are the recording of them, and hand them out when they are opened.
abbrev pub Finishes : List ℕ → List ℕ → ℕ → Type 0
Finishes b after n = (rate : ℕ) (xs : List ConverterSample) → length xs ≡ n → good_rate rate ≡ true → Holds b rate xs → (take (size_of n) after ≡ recorded rate xs) × HandsOut (take (size_of n) after) rate xs
