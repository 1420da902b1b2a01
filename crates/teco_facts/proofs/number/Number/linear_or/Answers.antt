use Rattle.teco_facts.proofs.Prelude.{◌≡◌, true, is_linear}
use Rattle.teco_facts.proofs.Linear.{linear_is_number}
use Rattle.teco_facts.proofs.number.Number.linear_or.Goals as goal

pub invariant_of-result : goal.invariant_of-result
invariant_of-result c =
    let linear : is_linear c.args.exact ≡ true = cc in
    linear_is_number c.args.exact linear c.requires.ordered
