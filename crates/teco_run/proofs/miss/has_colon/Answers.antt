use Rattle.teco_run.proofs.Prelude.{◌≡◌, false, Option, Some, None, Result, Ok, Err, ap, refl, ◌∙◌, arith}
use Rattle.teco_run.proofs.Prelude.{option_map_or, Code, Element, seen}
use Rattle.teco_model.specs.Searching.{is_leave, is_leave_kind}
use Rattle.teco_scan.specs.Reached.{kind_of}
use Rattle.teco_run.proofs.miss.has_colon.Goals as goal

leave-kind : (read : Result (Option Element) Code) → option_map_or is_leave_kind (kind_of read) false ≡ is_leave read
leave-kind (Ok (Some e)) = refl
leave-kind (Ok None) = refl
leave-kind (Err c) = refl

pub returns-else-element-gt0 : goal.returns-else-element-gt0
returns-else-element-gt0 c =
    let kind = c.kind_behind.ensures (seen c.args.element.now) c.requires.read in
    let none : c.args.element.now.colons ≡ 0 = omega (arith, c.if-element-gt0.false) in
    rw none (c.is_leave.ensures ∙ ap (λ k. option_map_or is_leave_kind k false) kind ∙ leave-kind _)
