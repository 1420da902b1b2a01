use Rattle.teco_verify.proofs.Prelude.{IsFound, plain_fields}
use Rattle.std.proofs.Common.{rules}
use Rattle.teco_verify.proofs.Again.{accepted_checked}
use Rattle.teco_verify.proofs.verdict.checked.Goals as goal

pub returns-clause-accepted : goal.returns-clause-accepted
returns-clause-accepted c = λ entry steps most small takes_none is spelled.
    let here : IsFound (plain_fields entry steps most) c.certified_by.result =
    accepted_checked c.args.library.now c.args.bytes.now c.certified_by.result c.certified_by.ensures.again
    entry steps most small takes_none is spelled in
    search rules
