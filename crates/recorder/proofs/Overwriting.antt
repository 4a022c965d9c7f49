-- What bytes hold after a write, and what they held before it.
use Rattle.std.proofs.Common.{◌≡◌, ℕ, ◌+◌, ◌-◌, ◌*◌, ◌≤◌, List, ◌++◌, length, take, drop, sym, ap, ◌∙◌, append_assoc, arith}
use Rattle.std.proofs.lemmas.List.{length-append, length-take-le, length-drop, length_push, take_at, drop_at, drop-drop, take-append-drop, flat_map_more}
use Rattle.std.specs.List.{flat_map}
use Rattle.samples.specs.declared.kinds.ConverterSample.{ConverterSample}
use Rattle.recordings.specs.Bytes.{overwrite}
use Rattle.recordings.specs.Opening.{HandsOut, signal_opening}
use Rattle.recorder.specs.Writing.{header, coded, size_of, recorded, sized, Adds, Finishes}
use Rattle.recorder.proofs.Back.{hands_out, coded_length}

-- up to its end, a write is what was before it and what was written
pub take-overwrite : (s : ℕ) (xs b : List ℕ) (n : ℕ) → s ≤ length b → n ≡ s + length xs → take n (overwrite s xs b) ≡ take s b ++ xs
take-overwrite s xs b n h e =
    ap (take n) (sym (append_assoc (take s b) xs (drop (s + length xs) b)))
    ∙ take_at (take s b ++ xs) (drop (s + length xs) b) n (let l = length-append (take s b) xs in let m = length-take-le s b h in omega arith)

-- behind its end, nothing has changed
pub drop-overwrite : (s : ℕ) (xs b : List ℕ) (n : ℕ) → s ≤ length b → n ≡ s + length xs → drop n (overwrite s xs b) ≡ drop n b
drop-overwrite s xs b n h e =
    ap (drop n) (sym (append_assoc (take s b) xs (drop (s + length xs) b)))
    ∙ drop_at (take s b ++ xs) (drop (s + length xs) b) n (let l = length-append (take s b) xs in let m = length-take-le s b h in omega arith)
    ∙ ap (λ (k : ℕ). drop k b) (sym e)

-- two writes, one behind the other, are one
pub overwrite_more : (s : ℕ) (xs ys b : List ℕ) (n : ℕ) → s ≤ length b → n ≡ s + length xs → overwrite n ys (overwrite s xs b) ≡ overwrite s (xs ++ ys) b
overwrite_more s xs ys b n h e =
    let behind : drop (n + length ys) (overwrite s xs b) ≡ drop (n + length ys) b = sym (drop-drop (length ys) n (overwrite s xs b)) ∙ ap (drop (length ys)) (drop-overwrite s xs b n h e) ∙ drop-drop (length ys) n b in
    let end : n + length ys ≡ s + length (xs ++ ys) = let l = length-append xs ys in omega arith in
    rw (take-overwrite s xs b n h e, behind ∙ ap (λ (k : ℕ). drop k b) end) (simp append_assoc)

-- one sample more
pub adds : (b : List ℕ) (n : ℕ) (x : ConverterSample) → size_of (n + 1) ≤ length b → Adds b (overwrite (size_of n) (coded x) b) n x
adds b n x room rate xs l h =
    ap (λ (k : ℕ). take (size_of k) (overwrite (size_of n) (coded x) b)) (length_push xs x ∙ ap (λ (k : ℕ). k + 1) l)
    ∙ take-overwrite (size_of n) (coded x) b (size_of (n + 1)) (omega arith) (omega arith)
    ∙ ap (λ (ys : List ℕ). ys ++ coded x) (ap (λ (k : ℕ). take (size_of k) b) (sym l) ∙ h)
    ∙ flat_map_more coded (header rate 0 0) xs x

-- the finished bytes are the recording
pub finishes : (b : List ℕ) (n : ℕ) → size_of n ≤ length b → size_of n ≤ 65536 → Finishes b (sized b n) n
finishes b n room short rate xs l good h =
    let held : take (size_of n) b ≡ header rate 0 0 ++ flat_map coded xs = ap (λ (k : ℕ). take (size_of k) b) (sym l) ∙ h in
    let split : b ≡ header rate 0 0 ++ (flat_map coded xs ++ drop (size_of n) b) = sym (take-append-drop (size_of n) b) ∙ ap (λ (p : List ℕ). p ++ drop (size_of n) b) held in
    let done : sized b n ≡ header rate (size_of n - 8) (4 * n) ++ (flat_map coded xs ++ drop (size_of n) b) = ap (λ (c : List ℕ). sized c n) split in
    let long : length (header rate (size_of n - 8) (4 * n) ++ flat_map coded xs) ≡ size_of n = let c = coded_length xs in omega arith in
    let whole : take (size_of n) (sized b n) ≡ recorded rate xs =
    ap (take (size_of n)) done
    ∙ take_at (header rate (size_of n - 8) (4 * n) ++ flat_map coded xs) (drop (size_of n) b) (size_of n) long
    ∙ ap (λ (k : ℕ). header rate (size_of k - 8) (4 * k) ++ flat_map coded xs) (sym l) in
    let out : HandsOut (recorded rate xs) rate xs = hands_out rate xs good (omega arith) in
    (whole, λ input. ap (signal_opening input) whole ∙ out input)

-- a write within the bytes keeps their number
pub overwrite_length : (s : ℕ) (xs b : List ℕ) → s + length xs ≤ length b → length (overwrite s xs b) ≡ length b
overwrite_length s xs b h = omega (arith, length-append (take s b) (xs ++ drop (s + length xs) b), length-append xs (drop (s + length xs) b), length-take-le s b (omega arith), length-drop (s + length xs) b)
