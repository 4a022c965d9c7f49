use Rattle.text.proofs.Words.{taken}
use Rattle.text.proofs.entry.Entry.word.Goals as goal

pub returns : goal.returns
returns c = taken _ _ _ c.next.ensures.steps
