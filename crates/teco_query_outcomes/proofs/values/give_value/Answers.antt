use Rattle.teco_query_outcomes.proofs.Prelude.{sym, subst, IfOk-weaker, after_value, Foretells}
use Rattle.teco_query_outcomes.proofs.Valuing.{value_foretold, begin_value, size_value, pointer_value, last_value}
use Rattle.teco_query_outcomes.proofs.Valuing.{pair_foretold, text_value, whole_value}
use Rattle.teco_query_outcomes.proofs.values.give_value.Goals as goal

pub returns-in-Begin : goal.returns-in-Begin
returns-in-Begin c =
    IfOk-weaker c.give.result _ _
    (λ all gives.
    subst (λ kind. Foretells (λ s. after_value kind s.kept s.arguments) c.args.case.now all) (sym c.in-Begin.is)
    (value_foretold _ _ c.args.case.now all (begin_value c.args.case.now c.zero.result c.zero.ensures) gives))
    c.give.ensures

pub returns-in_ok-single-in-Size : goal.returns-in_ok-single-in-Size
returns-in_ok-single-in-Size c =
    IfOk-weaker c.give-in-Size.result _ _
    (λ all gives.
    subst (λ kind. Foretells (λ s. after_value kind s.kept s.arguments) c.args.case.now all) (sym c.in-Size.is)
    (value_foretold _ _ c.args.case.now all
    (size_value c.args.case.now c.in_ok-single-in-Size.field-0 c.in_ok-single-in-Size.ensures) gives))
    c.give-in-Size.ensures

pub returns-in_ok-single-in-Pointer : goal.returns-in_ok-single-in-Pointer
returns-in_ok-single-in-Pointer c =
    IfOk-weaker c.give-in-Pointer.result _ _
    (λ all gives.
    subst (λ kind. Foretells (λ s. after_value kind s.kept s.arguments) c.args.case.now all) (sym c.in-Pointer.is)
    (value_foretold _ _ c.args.case.now all
    (pointer_value c.args.case.now c.in_ok-single-in-Pointer.field-0 c.in_ok-single-in-Pointer.ensures) gives))
    c.give-in-Pointer.ensures

pub returns-in_ok-minus-in-LastLength : goal.returns-in_ok-minus-in-LastLength
returns-in_ok-minus-in-LastLength c =
    IfOk-weaker c.give-in-LastLength.result _ _
    (λ all gives.
    subst (λ kind. Foretells (λ s. after_value kind s.kept s.arguments) c.args.case.now all)
    (sym c.in-LastLength.is)
    (value_foretold _ _ c.args.case.now all
    (last_value c.args.case.now c.zero-in-LastLength.result c.in_ok-length-in-LastLength.length
    c.in_ok-minus-in-LastLength.minus c.zero-in-LastLength.ensures c.in_ok-length-in-LastLength.ensures
    c.in_ok-minus-in-LastLength.ensures)
    gives))
    c.give-in-LastLength.ensures

pub returns-in_ok-size-in-Whole : goal.returns-in_ok-size-in-Whole
returns-in_ok-size-in-Whole c =
    IfOk-weaker c.give_pair.result _ _
    (λ all gives.
    subst (λ kind. Foretells (λ s. after_value kind s.kept s.arguments) c.args.case.now all) (sym c.in-Whole.is)
    (pair_foretold _ _ _ c.args.case.now all
    (whole_value c.args.case.now c.zero-begin.result c.in_ok-size-in-Whole.size c.zero-begin.ensures
    c.in_ok-size-in-Whole.ensures) gives))
    c.give_pair.ensures

pub returns-in_ok-begin-in-LastText : goal.returns-in_ok-begin-in-LastText
returns-in_ok-begin-in-LastText c =
    IfOk-weaker c.give_pair-in-LastText.result _ _
    (λ all gives.
    subst (λ kind. Foretells (λ s. after_value kind s.kept s.arguments) c.args.case.now all) (sym c.in-LastText.is)
    (pair_foretold _ _ _ c.args.case.now all
    (text_value c.args.case.now c.in_ok-pointer-in-LastText.pointer c.in_ok-length-in-LastText.length
    c.in_ok-begin-in-LastText.begin c.in_ok-pointer-in-LastText.ensures c.in_ok-length-in-LastText.ensures
    c.in_ok-begin-in-LastText.ensures) gives))
    c.give_pair-in-LastText.ensures
