use Rattle.text.proofs.fault.WrongDisplay.fmt.Goals as goal

pub returns-in-NoNumber-clause-writes : goal.returns-in-NoNumber-clause-writes
returns-in-NoNumber-clause-writes g c = rw c.in-NoNumber.is c.write-in-NoNumber.ensures.writes

pub returns-in-Superfluous-clause-writes : goal.returns-in-Superfluous-clause-writes
returns-in-Superfluous-clause-writes g c = rw c.in-Superfluous.is c.write-in-Superfluous.ensures.writes
