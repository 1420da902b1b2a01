use Rattle.teco_query_outcomes.proofs.Prelude.{◌≡◌, ◌++◌, arith, common_steps}
use Rattle.teco_query_outcomes.proofs.conversions.add_given.Goals as goal

pub returns : goal.returns
returns c =
    let given = c.in_ok-given.given.cases.items in
    let items : c.append.new.self.items ≡ c.args.cases.now.items ++ given = grind (arith, common_steps) in
    record { given = given; gives = c.in_ok-given.ensures; items = items }
