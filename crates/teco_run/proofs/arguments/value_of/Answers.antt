use Rattle.teco_run.proofs.Prelude.{ap, ◌∙◌, pos, refl, rules, w32, to_z-of_z}
use Rattle.teco_run.proofs.arguments.value_of.Goals as goal

pub returns-in-Size : goal.returns-in-Size
returns-in-Size g c level =
    let size = to_z-of_z w32 c.number-size.result (search rules) ∙ c.number-size.ensures
    ∙ ap pos c.size.ensures.value in
    rw (c.in-Size.is, size) refl

pub returns-in-Pointer : goal.returns-in-Pointer
returns-in-Pointer g c level =
    let dot = to_z-of_z w32 c.number-dot.result (search rules) ∙ c.number-dot.ensures ∙ ap pos c.dot.ensures.value in
    rw (c.in-Pointer.is, dot) refl
