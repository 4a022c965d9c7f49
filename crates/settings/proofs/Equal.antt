-- Records with the same numbers are the same record: their ranges are facts, which have one proof.
use Rattle.std.proofs.Common.{◌≡◌, ℕ, ◌≤◌, List, length, Ok, Result}
use mathlib.Core.Path.{PathP, to_path_p}
use native.Mathlib.Bridge.{le_prop}
use denote.Struct.Props.{≡_prop}
use base.Stored.{coded_ℕ}
use Rattle.stages.specs.declared.amplifier.Entry.{Entry}
use Rattle.stages.specs.declared.multipath.Path.{Path}
use Rattle.stages.specs.declared.amplifier.AmplifierTable.{AmplifierTable}
use Rattle.stages.specs.declared.multipath.Paths.{Paths}

within : (low high : ℕ → ℕ) {x y : ℕ} (p : x ≡ y) (u : low x ≤ high x) (v : low y ≤ high y) → PathP (λ i. low (p i) ≤ high (p i)) u v
within low high p u v = to_path_p (λ i. low (p i) ≤ high (p i)) (le_prop _ v)

long : {X : Type 0} (n : ℕ) {xs ys : List X} (p : xs ≡ ys) (u : length xs ≡ n) (v : length ys ≡ n) → PathP (λ i. length (p i) ≡ n) u v
long n p u v = to_path_p (λ i. length (p i) ≡ n) (≡_prop coded_ℕ _ _ _ v)

pub same_path : (a b : Path) → a.re ≡ b.re → a.im ≡ b.im → a.delay ≡ b.delay → a ≡ b
same_path a b p q r =
    λ i. record { re = p i; im = q i; delay = r i; delay_within = within (λ d. d) (λ _. 63) r a.delay_within b.delay_within i }

pub same_entry : (a b : Entry) → a.amplitude ≡ b.amplitude → a.phase ≡ b.phase → a ≡ b
same_entry a b p q =
    λ i.
    record {
      amplitude = p i;
      phase = q i;
      amplitude_within = within (λ d. d) (λ _. 32767) p a.amplitude_within b.amplitude_within i;
    }

pub same_table : (a b : AmplifierTable) → a.entries ≡ b.entries → a ≡ b
same_table a b p = λ i. record { entries = p i; all = long 513 p a.all b.all i }

pub same_paths : (a b : Paths) → a.places ≡ b.places → a.count ≡ b.count → a ≡ b
same_paths a b p q =
    λ i.
    record {
      places = p i;
      count = q i;
      ten = long 10 p a.ten b.ten i;
      low = within (λ _. 1) (λ d. d) q a.low b.low i;
      high = within (λ d. d) (λ _. 10) q a.high b.high i;
    }

-- what a check accepts is one record
pub same_made : {X E : Type 0} {a b : X} {r : Result X E} → Ok a ≡ r → Ok b ≡ r → a ≡ b
same_made p q = cc
