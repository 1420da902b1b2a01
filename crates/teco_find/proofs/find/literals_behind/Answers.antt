use Rattle.teco_find.proofs.Prelude.{None, Some, sym, joined}
use Rattle.teco_find.proofs.Matches.{first_found, first_nowhere, next_needle}
use Rattle.teco_find.proofs.Needled.{literals_here, up_to}
use Rattle.teco_find.proofs.find.literals_behind.Goals as goal

pub returns-in_err-start-clause-value : goal.returns-in_err-start-clause-value
returns-in_err-start-clause-value c items are =
    let text = joined c.args.text in
    let none = next_needle items text c.args.needle.now are.begin c.args.at None
    (up_to c.args.needle.now text c.requires.some c.args.at None c.in_err-start.ensures) in
    rw c.from_residual.ensures (sym (first_nowhere items text c.args.at c.requires.within none))

pub returns-clause-value : goal.returns-clause-value
returns-clause-value c items are =
    let text = joined c.args.text in
    let start = c.in_ok-start.start in
    let found = next_needle items text c.args.needle.now are.begin c.args.at (Some start)
    (up_to c.args.needle.now text c.requires.some c.args.at (Some start) c.in_ok-start.ensures) in
    rw c.needle.ensures (first_found items text c.args.at start _ found
    (literals_here items c.args.needle.now text start are (c.in_ok-start.ensures).1))
