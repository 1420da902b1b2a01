use Rattle.teco_parameters.proofs.Keys.{gives_none, is_given}
use Rattle.teco_parameters.proofs.given.given_in.Goals as goal
use Rattle.teco_parameters.specs.declared.binding.Given.{Given}

pub returns-in-Some : goal.returns-in-Some
returns-in-Some c =
    let given : Given = record { key = c.split_key.result.0; text = c.in-Some.text } in
    is_given c.args.word.now given c.split_key.result.1.now c.split_key.ensures.key c.split_key.ensures.rest
    c.in-Some.ensures

pub returns-in-None : goal.returns-in-None
returns-in-None c =
    gives_none c.args.word.now c.split_key.result.1.now c.split_key.ensures.rest c.in-None.ensures
