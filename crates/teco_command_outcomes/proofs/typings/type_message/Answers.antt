use Rattle.teco_command_outcomes.proofs.Prelude.{sym, Exactly}
use Rattle.teco_command_outcomes.proofs.Writing.{types_bytes}
use Rattle.teco_command_outcomes.proofs.typings.type_message.Goals as goal

pub returns : goal.returns
returns c =
    types_bytes c.args.case.now (Exactly c.in_ok-form.form) (λ n v s. c.args.text.now) c.in_ok-all.all
    (λ n v s t w. sym (c.in_ok-form.ensures n v)) c.in_ok-all.ensures.types
