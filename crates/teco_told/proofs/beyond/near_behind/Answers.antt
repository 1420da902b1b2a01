use Rattle.teco_model.specs.Element as definition
use Rattle.teco_told.specs.Seen.{near_seen}
use Rattle.teco_told.proofs.NearTables.{at_node}
use Rattle.teco_told.proofs.beyond.near_behind.Goals as goal

pub returns-in-Some : goal.returns-in-Some
returns-in-Some c = λ node at.
    let element = definition.seen c.in-Some.element in
    at_node node element c.colon-colon.result c.args.way c.args.argument (near_seen c.args.before)
    (near_seen c.near_element.result) (c.in-Some.ensures.read node at) (c.colon-colon.ensures node element at)
    c.near_element.ensures
