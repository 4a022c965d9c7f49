use Rattle.std.proofs.Common.{◌≡◌, ℕ, ◌-◌, ◌*◌, ◌^◌, ◌<◌, ◌∙◌, arith}
use Rattle.std.specs.Int.{w32, to_le_bytes}
use Rattle.recordings.specs.Bytes.{le32}
use Rattle.recorder.specs.Writing.{size_of}
use Rattle.recorder.proofs.Overwriting.{finishes}
use Rattle.recorder.proofs.started.StartedRecording.finish.Goals as goal

four_bytes : (v : ℕ) → v < 2 ^ 32 → to_le_bytes w32 v ≡ le32 v
four_bytes v h = grind arith

pub returns-clause-opens : goal.returns-clause-opens
returns-clause-opens c =
    let n = c.args.self.samples in
    let p = four_bytes (size_of n - 8) (omega arith) in
    let q = four_bytes (4 * n) (omega arith) in
    rw (c.place-2.ensures, c.place.ensures, c.to_le_bytes.ensures ∙ p, c.to_le_bytes-2.ensures ∙ q) (finishes c.args.bytes.now n (omega arith) (omega arith))
