use Rattle.teco_paths.proofs.Prelude.{IsFact}
use Rattle.teco_paths.proofs.Always.{most_fact}
use Rattle.teco_paths.proofs.Lists.{all_last}
use Rattle.teco_paths.proofs.facts.add_most.Goals as goal

pub returns : goal.returns
returns c size facts =
    all_last (IsFact size) c.args.facts.now.items c.push.new.self.items c.in_ok-fact.fact c.in_ok-push.ensures.items
    facts
    (most_fact size c.in_ok-fact.fact c.args.place c.in-Some.most c.in-Some.ensures c.in_ok-fact.ensures)
