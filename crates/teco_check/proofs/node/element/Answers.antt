use Rattle.teco_check.proofs.Prelude.{node_at}
use Rattle.teco_check.proofs.Numbered.{numbered_at}
use Rattle.teco_check.proofs.node.element.Goals as goal

pub returns-clause-read : goal.returns-clause-read
returns-clause-read c =
    c.element.ensures.read (node_at c.args.nodes.now c.args.number)
    (numbered_at c.args.nodes.now c.args.number c.requires.one c.requires.last)
