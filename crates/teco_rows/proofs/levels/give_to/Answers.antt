use Rattle.teco_rows.proofs.Prelude.{◌≡◌, rules, subst, to_z-of_z, IfOk-weaker, w64, cast_signed, cast_unsigned}
use Rattle.teco_rows.proofs.Prelude.{Quotients}
use Rattle.std.specs.Prelude.{FitsSigned}
use Rattle.teco_rows.proofs.Giving.{gives_made, gives_quotient, gives_wrapped}
use Rattle.teco_rows.proofs.levels.give_to.Goals as goal

pub returns-then-may_wrap : goal.returns-then-may_wrap
returns-then-may_wrap c =
    IfOk-weaker c.give_wrapped.result _ _
    (λ all wraps. gives_wrapped c.args.case.now c.args.number.now c.args.operator all c.requires wraps)
    c.give_wrapped.ensures

pub returns-in-Some : goal.returns-in-Some
returns-in-Some c =
    let fits : FitsSigned w64 c.in-Some.by = search rules in
    let same : cast_signed w64 (cast_unsigned w64 c.in-Some.by) ≡ c.in-Some.by = to_z-of_z w64 c.in-Some.by fits in
    IfOk-weaker c.give_quotient.result _ _
    (λ all quotients.
    gives_quotient c.args.case.now c.in_ok-left.left c.args.number.now c.in-Some.by c.args.operator all c.requires
    c.in_ok-left.ensures c.in-Some.ensures
    (subst (λ by. Quotients c.in_ok-left.left by c.args.case.now all) same quotients))
    c.give_quotient.ensures

pub returns-in-Some-2 : goal.returns-in-Some-2
returns-in-Some-2 c =
    IfOk-weaker c.give_made.result _ _
    (λ all values.
    gives_made c.args.case.now c.in_ok-left.left c.args.number.now c.in-Some-2.form c.args.operator all c.requires
    c.in_ok-left.ensures (search rules) values)
    c.give_made.ensures
