use Rattle.teco_outcomes.proofs.Prelude.{IfOk-weaker, sym, subst, refl, seen, after_command, Foretells}
use Rattle.teco_model.specs.declared.kind.Command.TheVariants as command
use Rattle.teco_outcomes.proofs.Stepping.{command_foretold}
use Rattle.teco_outcomes.proofs.elements.perform.Goals as goal

pub returns-in_ok-colon-in-Motion : goal.returns-in_ok-colon-in-Motion
returns-in_ok-colon-in-Motion c =
    IfOk-weaker c.move_by.result _ _
    (λ all performs.
    subst (λ k. Foretells (λ s. after_command k (seen c.args.element.now) s.kept s.arguments) c.args.case.now all)
    (sym c.in-Motion.is)
    (command_foretold (seen c.args.element.now) c.args.case.now c.in_ok-taken.taken all
    (command.Motion c.in-Motion.motion)
    c.in_ok-taken.ensures (performs (seen c.args.element.now) c.in_ok-colon-in-Motion.ensures)))
    c.move_by.ensures

pub returns-in-SetNumber : goal.returns-in-SetNumber
returns-in-SetNumber c =
    IfOk-weaker c.store_number.result _ _
    (λ all performs.
    subst (λ k. Foretells (λ s. after_command k (seen c.args.element.now) s.kept s.arguments) c.args.case.now all)
    (sym c.in-Storage.is)
    (command_foretold (seen c.args.element.now) c.args.case.now c.in_ok-taken.taken all
    (command.Storage c.in-Storage.storage)
    c.in_ok-taken.ensures (performs (seen c.args.element.now))))
    c.store_number.ensures

pub returns-in_default : goal.returns-in_default
returns-in_default c =
    IfOk-weaker c.store_text.result _ _
    (λ all performs.
    subst (λ k. Foretells (λ s. after_command k (seen c.args.element.now) s.kept s.arguments) c.args.case.now all)
    (sym c.in-Storage.is)
    (command_foretold (seen c.args.element.now) c.args.case.now c.in_ok-taken.taken all
    (command.Storage c.in-Storage.storage)
    c.in_ok-taken.ensures performs))
    c.store_text.ensures

pub returns-in-Typing : goal.returns-in-Typing
returns-in-Typing c =
    IfOk-weaker c.type_text.result _ _
    (λ all performs.
    subst (λ k. Foretells (λ s. after_command k (seen c.args.element.now) s.kept s.arguments) c.args.case.now all)
    (sym c.in-Typing.is)
    (command_foretold (seen c.args.element.now) c.args.case.now c.in_ok-taken.taken all
    (command.Typing c.in-Typing.typing) c.in_ok-taken.ensures performs))
    c.type_text.ensures

pub returns-in-Deletion : goal.returns-in-Deletion
returns-in-Deletion c =
    IfOk-weaker c.delete.result _ _
    (λ all performs.
    subst (λ k. Foretells (λ s. after_command k (seen c.args.element.now) s.kept s.arguments) c.args.case.now all)
    (sym c.in-Deletion.is)
    (command_foretold (seen c.args.element.now) c.args.case.now c.in_ok-taken.taken all
    (command.Deletion c.in-Deletion.unit) c.in_ok-taken.ensures performs))
    c.delete.ensures

pub returns-in-Insertion : goal.returns-in-Insertion
returns-in-Insertion c =
    IfOk-weaker c.insert.result _ _
    (λ all performs.
    subst (λ k. Foretells (λ s. after_command k (seen c.args.element.now) s.kept s.arguments) c.args.case.now all)
    (sym c.in-Insertion.is)
    (command_foretold (seen c.args.element.now) c.args.case.now c.in_ok-taken.taken all
    (command.Insertion c.in-Insertion.insertion) c.in_ok-taken.ensures (performs (seen c.args.element.now) refl)))
    c.insert.ensures
