use Rattle.teco_flow_outcomes.proofs.Prelude.{IfOk-weaker, sym, subst, ◌∙◌, rules, w32, to_z-of_z, level_with}
use Rattle.teco_flow_outcomes.proofs.Prelude.{levels_after, Rearranges}
use Rattle.teco_model.specs.Arguments.{with_level}
use Rattle.teco_flow_outcomes.proofs.arguments.change_arguments.Goals as goal

pub returns-in-DropAll : goal.returns-in-DropAll
returns-in-DropAll c =
    IfOk-weaker c.drop_all.result _ _
    (λ all told.
    subst (λ a. Rearranges (levels_after a c.args.text.now) c.args.case.now all) (sym c.in-DropAll.is) told)
    c.drop_all.ensures

pub returns-in-Operate : goal.returns-in-Operate
returns-in-Operate c =
    IfOk-weaker c.operate.result _ _
    (λ all told.
    subst (λ a. Rearranges (levels_after a c.args.text.now) c.args.case.now all) (sym c.in-Operate.is) told)
    c.operate.ensures

pub returns-in-Open : goal.returns-in-Open
returns-in-Open c =
    IfOk-weaker c.open.result _ _
    (λ all told.
    subst (λ a. Rearranges (levels_after a c.args.text.now) c.args.case.now all) (sym c.in-Open.is) told)
    c.open.ensures

pub returns-in-Close : goal.returns-in-Close
returns-in-Close c =
    IfOk-weaker c.close.result _ _
    (λ all told.
    subst (λ a. Rearranges (levels_after a c.args.text.now) c.args.case.now all) (sym c.in-Close.is) told)
    c.close.ensures

pub returns-in-Comma : goal.returns-in-Comma
returns-in-Comma c =
    IfOk-weaker c.part.result _ _
    (λ all told.
    subst (λ a. Rearranges (levels_after a c.args.text.now) c.args.case.now all) (sym c.in-Comma.is) told)
    c.part.ensures

pub returns-in-Digits : goal.returns-in-Digits
returns-in-Digits c =
    IfOk-weaker c.give_number.result _ _
    (λ all told.
    subst (λ a. Rearranges (levels_after a c.args.text.now) c.args.case.now all) (sym c.in-Digits.is)
    (subst (λ x. Rearranges (λ arguments. with_level arguments (level_with x arguments.level)) c.args.case.now all)
    (to_z-of_z w32 c.run_value-number.result (search rules) ∙ c.run_value-number.ensures) told))
    c.give_number.ensures
