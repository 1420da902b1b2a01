use Rattle.teco_find.proofs.Prelude.{◌≡◌, ◌-◌, ◌+◌, suc, sym, ap, ◌∙◌, Some, option_map_or, sought, Wanted, Span}
use Rattle.teco_find.proofs.Prelude.{joined}
use Rattle.teco_model.specs.Match as model
use Rattle.teco_find.proofs.Matches.{sought_more}
use Rattle.teco_find.proofs.pattern.Pattern.seek.Goals as goal

pub loop-turn-preserved : goal.loop-turn-preserved
loop-turn-preserved c =
    let pattern = c.args.self.now in
    let text = joined c.args.text in
    let n = c.args.n in
    let at = c.loop-turn.at in
    let turn = c.loop-turn.turn in
    let found : model.first_from pattern text at ≡ Some c.in-Some.span =
    sym c.first_from.ensures.value ∙ c.in-Some.is in
    let more = sought_more pattern text at turn n c.loop-turn-test.true in
    record {
      within = c.in-Some.ensures.within;
      left = sym (ap (λ o. option_map_or (λ (span : Span). sought pattern text span.end (suc (n - (turn + 1)))) o
          (Wanted (suc (n - turn)))) found) ∙ sym more ∙ c.loop-turn.invariant.left;
    }
