use Rattle.teco_check.proofs.Prelude.{node_at}
use Rattle.teco_check.proofs.Numbered.{numbered_at}
use Rattle.teco_check.proofs.node.names_macro.Goals as goal

pub returns : goal.returns
returns c =
    c.names_macro.ensures (node_at c.args.nodes.now c.args.number)
    (numbered_at c.args.nodes.now c.args.number c.requires.one c.requires.last)
