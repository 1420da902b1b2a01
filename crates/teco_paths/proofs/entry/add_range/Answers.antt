use Rattle.teco_paths.proofs.Answered.{on_ok}
use Rattle.teco_paths.proofs.Beginning.{argument_between}
use Rattle.teco_paths.proofs.entry.add_range.Goals as goal

pub returns-in-Some : goal.returns-in-Some
returns-in-Some c =
    on_ok c.add_between.result
    (λ more lengths claims. more lengths c.args.argument
    (argument_between lengths c.in-Some.range _ _ c.low.ensures.value c.high.ensures.value c.args.argument c.in-Some.is)
    claims)
    c.add_between.ensures
