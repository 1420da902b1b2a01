use Rattle.teco_check.proofs.Prelude.{◌∙◌, node_at}
use Rattle.teco_check.proofs.Numbered.{numbered_at, inside_is}
use Rattle.teco_check.proofs.node.inside.Goals as goal

pub returns : goal.returns
returns c =
    let node = node_at c.args.nodes.now c.args.number in
    c.inside.ensures node (numbered_at c.args.nodes.now c.args.number c.requires.one c.requires.last)
    ∙ inside_is node.stand.position.running.starts
