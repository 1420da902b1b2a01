use Rattle.std.proofs.Common.{Some, None, rules}
use Rattle.std.proofs.lemmas.Bool.Decides.{Decides-eqb}
use Rattle.std.proofs.lemmas.Slice.Eq.{strip_prefix_is}
use Rattle.std.specs.Prelude.{codes}
use Rattle.teco_library.proofs.Declaring.{blank_stands, high_there, more_behind, range_read}
use Rattle.teco_library.proofs.header.range_in.Goals as goal

pub returns-in_err-strip_prefix : goal.returns-in_err-strip_prefix
returns-in_err-strip_prefix c =
    let none = strip_prefix_is Decides-eqb c.in_ok-low.rest.now (codes " ") None c.in_err-strip_prefix.ensures.cases in
    rw c.from_residual-in_err-strip_prefix.ensures
    (λ range is e. none _ (blank_stands c.args.text.now range is e c.in_ok-low.low c.in_ok-low.rest.now
    c.in_ok-low.ensures.found))

pub returns-in_err-high : goal.returns-in_err-high
returns-in_err-high c =
    let stands = strip_prefix_is Decides-eqb c.in_ok-low.rest.now (codes " ") (Some c.in_ok-strip_prefix.field-0)
    c.in_ok-strip_prefix.ensures.cases in
    rw c.from_residual-in_err-high.ensures
    (λ range is e. c.in_err-high.ensures.none range.high _
    (high_there c.args.text.now range is e c.in_ok-low.low c.in_ok-low.rest.now c.in_ok-low.ensures.found
    c.in_ok-strip_prefix.field-0.now stands))

pub returns-then-is_empty : goal.returns-then-is_empty
returns-then-is_empty c =
    let stands = strip_prefix_is Decides-eqb c.in_ok-low.rest.now (codes " ") (Some c.in_ok-strip_prefix.field-0)
    c.in_ok-strip_prefix.ensures.cases in
    range_read c.args.text.now c.in_ok-strip_prefix.field-0.now c.in_ok-low.rest.now c.in_ok-high.rest.now
    c.in_ok-low.low c.in_ok-high.high c.in_ok-low.ensures.found stands c.in_ok-high.ensures.found
    c.range_between.result (search rules) c.range_between.ensures

pub returns-else-is_empty : goal.returns-else-is_empty
returns-else-is_empty c =
    let stands = strip_prefix_is Decides-eqb c.in_ok-low.rest.now (codes " ") (Some c.in_ok-strip_prefix.field-0)
    c.in_ok-strip_prefix.ensures.cases in
    more_behind c.args.text.now c.in_ok-strip_prefix.field-0.now c.in_ok-low.rest.now c.in_ok-high.rest.now
    c.in_ok-low.low c.in_ok-high.high c.in_ok-low.ensures.found stands c.in_ok-high.ensures.found
    (search rules)
