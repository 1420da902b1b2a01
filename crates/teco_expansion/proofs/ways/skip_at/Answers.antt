use Rattle.teco_expansion.proofs.Prelude.{ap, ◌∙◌, seen, skip_at, text_of}
use Rattle.teco_expansion.proofs.Elements.{skip_of_element}
use Rattle.teco_expansion.proofs.ways.skip_at.Goals as goal

pub returns-in-Some : goal.returns-in-Some
returns-in-Some c =
    let spot = c.args.spot.now in
    c.in-Some.ensures ∙ skip_of_element (text_of c.args.texts.now spot.register) spot.place
    (seen c.args.element.now) c.requires

pub returns-in-None : goal.returns-in-None
returns-in-None c =
    let spot = c.args.spot.now in
    c.skip_from.ensures ∙ ap (λ text. skip_at text spot.place) c.text.ensures.value
    ∙ skip_of_element (text_of c.args.texts.now spot.register) spot.place (seen c.args.element.now) c.requires
