-- Formats with the same numbers are the same format: that an item has bytes is a fact, which has one proof.
use Rattle.std.specs.Prelude.{◌≡◌, ℕ, ◌<◌}
use Rattle.std.proofs.Math.Path.{PathP, to_path_p}
use Rattle.std.proofs.Math.Bridge.{le_prop}
use Rattle.recordings.specs.declared.format.Format.{Format}

over : {x y : ℕ} (p : x ≡ y) (u : 0 < x) (v : 0 < y) → PathP (λ i. 0 < p i) u v
over p u v = to_path_p (λ i. 0 < p i) (le_prop _ v)

pub same_format : (a b : Format) → a.channels ≡ b.channels → a.align ≡ b.align → a.bits ≡ b.bits → a ≡ b
same_format a b p q r = λ i. record { channels = p i; align = q i; bits = r i; takes_room = over q a.takes_room b.takes_room i }
