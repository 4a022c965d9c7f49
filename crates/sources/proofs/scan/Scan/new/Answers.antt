use Rattle.sources.proofs.scan.Scan.new.Goals as goal

-- where a memory starts, it makes as many items as it is given
pub returns-clause-as_many : goal.returns-clause-as_many
returns-clause-as_many g c xs = rw (← c.reset.ensures.starts) (g.met.M.Memory.same_length c.reset.new.self xs)
