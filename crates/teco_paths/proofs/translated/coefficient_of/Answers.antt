use Rattle.teco_paths.proofs.Prelude.{◌/◌, arith}
use Rattle.std.proofs.Common.{rules}
use Rattle.std.proofs.lemmas.Nat.{div-add-mod'}
use Rattle.teco_paths.proofs.translated.coefficient_of.Goals as goal

pub returns-then-term : goal.returns-then-term
returns-then-term c =
    let divisor = c.args.term.now.coefficient.divisor in (
      c.args.times / divisor,
      omega (arith, div-add-mod' c.args.times divisor, c.if-times-divisor-ne0.false),
      search rules,
    )

pub returns-else-term : goal.returns-else-term
returns-else-term c =
    let divisor = c.args.term.now.coefficient.divisor in (
      c.args.times / divisor,
      omega (arith, div-add-mod' c.args.times divisor, c.if-times-divisor-ne0.false),
      search rules,
    )
