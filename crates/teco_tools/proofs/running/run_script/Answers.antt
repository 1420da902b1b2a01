use Rattle.teco_tools.proofs.running.run_script.Goals as goal

pub returns-in-Some : goal.returns-in-Some
returns-in-Some g c = rw c.in-Some.is (c.run_source.ensures _)
