use Rattle.teco_paths.proofs.Answered.{on_ok}
use Rattle.teco_paths.proofs.Beginning.{length_between}
use Rattle.teco_paths.proofs.entry.add_length.Goals as goal

pub returns-in-Some : goal.returns-in-Some
returns-in-Some c =
    on_ok c.add_between.result
    (λ more argument claims. more c.args.lengths.now argument
    (length_between c.args.lengths.now argument c.args.register c.in-Some.long c.in-Some.ensures) claims)
    c.add_between.ensures
