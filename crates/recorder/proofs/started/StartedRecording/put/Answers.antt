use Rattle.std.proofs.Common.{arith}
use Rattle.recorder.proofs.Overwriting.{adds}
use Rattle.recorder.proofs.started.StartedRecording.put.Goals as goal

pub returns-clause-holds : goal.returns-clause-holds
returns-clause-holds c = rw (c.place.ensures, c.coded.ensures) (adds c.args.bytes.now c.args.self.now.samples c.args.sample (omega arith))
