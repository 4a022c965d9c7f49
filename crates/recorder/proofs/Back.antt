-- What was written comes back: opening a finished recording hands out what was put in.
use Rattle.std.proofs.Common.{◌≡◌, ℕ, suc, ◌+◌, ◌-◌, ◌*◌, ◌/◌, ◌%◌, ◌^◌, ◌<◌, ◌≤◌, true, false, ltb, List, [], ◌∷◌, ◌++◌, length, take, ℤ, pos, negsuc, Some, None, Ok, Result, sym, refl, ap, ◌∙◌, ap₂, arith}
use Rattle.std.proofs.lemmas.List.{take_all}
use Rattle.std.proofs.lemmas.Int.{ints}
use Rattle.std.proofs.lemmas.Bool.Decides.{nat_tests}
use Rattle.std.specs.List.{flat_map}
use Rattle.samples.specs.Arithmetic.{Within}
use Rattle.samples.specs.Kinds.{converter}
use Rattle.samples.specs.declared.kinds.ConverterSample.{ConverterSample}
use Rattle.samples.specs.Equal.{same_sample}
use Rattle.samples.specs.Widths.{clip_same}
use Rattle.sources.specs.Streams.{Stream}
use Rattle.recordings.specs.declared.chunks.Step.{Step}
use Rattle.recordings.specs.declared.refusal.OpeningRefusal.{OpeningRefusal}
use Rattle.recordings.specs.Bytes.{u32_at}
use Rattle.recordings.specs.Chunks.{head, kind_at, leads_to, chunk_tests, chunks, from_step, find_data}
use Rattle.recordings.specs.Rates.{good_rate}
use Rattle.recordings.specs.Items.{signal_item, part_of, before_fault, held_from}
use Rattle.recordings.specs.Opening.{opened, signal_format, HandsOut}
use Rattle.recorder.specs.Writing.{word, coded, size_of, recorded}
use Rattle.recordings.proofs.Reading.{peeled}
use Rattle.recordings.proofs.Tests.{Passed, passed}

-- a part comes back from its word
word_clear : (z : ℤ) → Within 12 z → word z % 16 ≡ 0
word_clear (pos v) w = omega (arith, ints, w.0, w.1)
word_clear (negsuc v) w = omega (arith, ints, w.0, w.1)

word_back : (z : ℤ) → Within 12 z → part_of (word z) ≡ z
word_back (pos v) w =
    let b : v ≤ 2047 = omega (arith, ints, w.0, w.1) in
    let t : ltb (16 * v) 32768 ≡ true = grind (arith, nat_tests) in
    rw t (ap pos (omega arith))
word_back (negsuc v) w =
    let b : v ≤ 2047 = omega (arith, ints, w.0, w.1) in
    let t : ltb (65536 - 16 * suc v) 32768 ≡ false = grind (arith, nat_tests) in
    rw t (ap negsuc (omega arith))

-- two bytes come back as their number
pair_back : (v : ℕ) → v % 256 + 256 * (v / 256) ≡ v
pair_back v = omega arith

-- a sample comes back from its bytes
sample_back : (x : ConverterSample) (rest : List ℕ) → signal_item (take 4 (coded x ++ rest)) ≡ Ok x
sample_back x rest =
    let r = x.re_within in
    let i = x.im_within in
    rw (pair_back (word x.re), pair_back (word x.im), word_clear x.re r, word_clear x.im i, word_back x.re r, word_back x.im i)
    (ap Ok (same_sample (converter x.re x.im) x (clip_same 12 x.re r) (clip_same 12 x.im i)))

-- all samples come back from theirs
held_back : (input k : ℕ) (xs : List ConverterSample) → held_from signal_item 4 input k (length xs) (flat_map coded xs) ≡ record { items = xs; ending = Ok tt }
held_back input k [] = refl
held_back input k (x ∷ xs) =
    ap (before_fault input k) (peeled signal_item 4 (coded x ++ flat_map coded xs) (suc (length xs)) (length xs) refl)
    ∙ rw (sample_back x (flat_map coded xs)) (ap (λ (s : Stream ConverterSample). record { items = x ∷ s.items; ending = s.ending }) (held_back input (k + 1) xs))

-- how long they are
pub coded_length : (xs : List ConverterSample) → length (flat_map coded xs) ≡ 4 * length xs
coded_length [] = refl
coded_length (x ∷ xs) = let h = coded_length xs in omega arith

pub recorded_length : (rate : ℕ) (xs : List ConverterSample) → length (recorded rate xs) ≡ 44 + 4 * length xs
recorded_length rate xs = let h = coded_length xs in omega arith

-- four bytes come back as their number
quad_back : (v : ℕ) → v < 2 ^ 32 → v % 256 + 256 * (v / 256 % 256) + 65536 * (v / 65536 % 256 + 256 * (v / 16777216)) ≡ v
quad_back v h = omega arith

module _ (rate : ℕ) (xs : List ConverterSample) (r : good_rate rate ≡ true) (short : size_of (length xs) ≤ 65536) where
  abbrev b : List ℕ
  b = recorded rate xs

  long : length b ≡ 44 + 4 * length xs
  long = recorded_length rate xs

  high : rate ≤ 100000000
  high = grind (arith, nat_tests)

  rate_back : u32_at b 24 ≡ rate
  rate_back = quad_back rate (let h = high in omega arith)

  byte_rate_back : u32_at b 28 ≡ u32_at b 24 * 4
  byte_rate_back = quad_back (rate * 4) (let h = high in omega arith) ∙ ap (λ (v : ℕ). v * 4) (sym rate_back)

  riff_back : u32_at b 4 + 8 ≡ length b
  riff_back = let e = quad_back (size_of (length xs) - 8) (omega arith) in let l = long in omega arith

  size_back : u32_at b 40 ≡ 4 * length xs
  size_back = quad_back (4 * length xs) (omega arith)

  head_passes : Passed (head b)
  head_passes = let l = long in let e = riff_back in grind (arith, nat_tests)

  format_passes : Passed (chunk_tests false signal_format b 12)
  format_passes = let l = long in let e = byte_rate_back in let f = rate_back in grind (arith, nat_tests)

  data_passes : Passed (chunk_tests true signal_format b 36)
  data_passes = let l = long in let e = size_back in grind (arith, nat_tests)

  -- the first chunk is the format, the second is the data
  found : (n : ℕ) → length b ≡ suc (suc n) → find_data signal_format b ≡ Ok (record { rate = rate; start = 44; size = 4 * length xs })
  found n e =
      passed (head b) (chunks signal_format b (length b) 12 None) head_passes
      ∙ ap (λ (n : ℕ). chunks signal_format b n 12 None) e
      ∙ ap (λ (c : Result Step OpeningRefusal). from_step c (chunks signal_format b (suc n))) (passed (chunk_tests false signal_format b 12) (leads_to (kind_at b 12) b 12 None) format_passes)
      ∙ ap (λ (v : ℕ). chunks signal_format b (suc n) 36 (Some v)) rate_back
      ∙ ap (λ (c : Result Step OpeningRefusal). from_step c (chunks signal_format b n)) (passed (chunk_tests true signal_format b 36) (leads_to (kind_at b 36) b 36 (Some rate)) data_passes)
      ∙ ap (λ (v : ℕ). Ok (record { rate = rate; start = 44; size = v })) size_back

  pub hands_out : HandsOut (recorded rate xs) rate xs
  hands_out input =
      let whole = held_back input 0 xs in
      let counted : 4 * length xs / 4 ≡ length xs = omega arith in
      let all : take (4 * length xs) (flat_map coded xs) ≡ flat_map coded xs = take_all (4 * length xs) (flat_map coded xs) (let l = coded_length xs in omega arith) in
      ap (opened signal_item 4 input b) (found (42 + 4 * length xs) (let l = long in omega arith))
      ∙ ap₂ (λ (n : ℕ) (d : List ℕ). Ok (record { rate = rate; whole = held_from signal_item 4 input 0 n d })) counted all
      ∙ ap (λ (w : Stream ConverterSample). Ok (record { rate = rate; whole = w })) whole
