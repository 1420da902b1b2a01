use Rattle.teco_rows.proofs.Prelude.{◌≡◌, subst, to_z-of_z, IfOk-weaker, w64, cast_signed, cast_unsigned, IsBelowZero}
use Rattle.teco_rows.proofs.Prelude.{IsDivided, IsFromZero}
use Rattle.teco_rows.proofs.Giving.{quotients_two}
use Rattle.teco_rows.proofs.levels.give_quotient.Goals as goal

pub returns : goal.returns
returns c =
    let same : cast_signed w64 (cast_unsigned w64 c.args.by) ≡ c.args.by = to_z-of_z w64 c.args.by c.ranges.by in
    IfOk-weaker c.two.result _ _
    (λ all two.
    quotients_two c.args.case.now c.in_ok-from_zero.from_zero c.in_ok-below_zero.below_zero c.args.left c.args.by _ all
    c.in_ok-conditions.ensures
    (subst (λ by. IsDivided IsFromZero by c.args.case.now c.args.left c.in_ok-from_zero.from_zero) same
    c.in_ok-from_zero.ensures)
    (subst (λ by. IsDivided IsBelowZero by c.args.case.now c.args.left c.in_ok-below_zero.below_zero) same
    c.in_ok-below_zero.ensures) two)
    c.two.ensures
