use Rattle.teco_paths.specs.Meaning.{SayClaims}
use Rattle.teco_paths.proofs.Prelude.{subst, sym, ap, ◌∙◌, option_map, most_with}
use Rattle.teco_paths.proofs.Answered.{on_ok}
use Rattle.teco_paths.proofs.Certain.{certain_as}
use Rattle.teco_paths.specs.Sure.{bounds_in}
use Rattle.teco_poly.specs.Polynomial.{value}
use Rattle.teco_paths.proofs.claimed.check_claimed.Goals as goal

pub returns : goal.returns
returns c =
    let called = c.args.called.now in
    let claimed = c.args.claimed.now in
    let first = c.in_ok-first in
    let prepared = c.with_cuts-prepared in
    on_ok c.check_prepared.result
    (λ certain. record {
      cuts = prepared.result.cuts.items;
      certain = certain_as called.nodes.now called.lengths.now called.argument called.needs
          (record {
            commands = prepared.result.commands.items;
            size = prepared.result.size.items;
            grows = option_map (λ t. t.items) prepared.result.grows;
            types = option_map (λ t. t.items) prepared.result.types;
          }) (bounds_in claimed) prepared.result.cuts.items (record {
            commands = λ n. ap (λ p. value p n) prepared.ensures.commands ∙ first.ensures.commands n;
            size = λ n. ap (λ p. value p n) prepared.ensures.size ∙ first.ensures.size n;
            grows = λ n before.
                ap (λ grows. most_with (option_map (λ t. t.items) grows) n before) prepared.ensures.grows
                ∙ first.ensures.grows n before;
            types = λ n before.
                ap (λ types. most_with (option_map (λ t. t.items) types) n before) prepared.ensures.types
                ∙ first.ensures.types n before;
          }) certain;
      say = subst (SayClaims called.nodes.now claimed.cuts) (sym prepared.ensures.cuts) c.in_ok-cuts.ensures;
    })
    c.check_prepared.ensures
