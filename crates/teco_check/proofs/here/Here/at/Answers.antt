use Rattle.teco_check.proofs.Prelude.{◌≡◌, sym, ◌∙◌, ap, refl, Some, None, option_map, node_at}
use Rattle.teco_model.specs.Element as elements
use Rattle.teco_check.proofs.here.Here.at.Goals as goal

pub returns-in-None : goal.returns-in-None
returns-in-None c =
    let node = node_at c.args.nodes.now c.args.number in
    let read : node.element ≡ None = sym c.element.ensures.read ∙ ap (option_map elements.seen) c.in-None.is in
    rw read refl

pub returns-in-Some : goal.returns-in-Some
returns-in-Some c =
    let node = node_at c.args.nodes.now c.args.number in
    let read : node.element ≡ Some (elements.seen c.in-Some.element) =
    sym c.element.ensures.read ∙ ap (option_map elements.seen) c.in-Some.is in
    rw (
      read,
      ← c.names_macro.ensures,
      ← c.inside.ensures,
      ← c.colon.ensures (elements.seen c.in-Some.element) read,
      ← c.left_by.ensures,
    ) refl
