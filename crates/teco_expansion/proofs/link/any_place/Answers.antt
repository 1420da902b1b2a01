use Rattle.teco_expansion.proofs.Prelude.{◌≡◌, ◌+◌, ◌||◌, true, false, drop, map, get_or, sym, ap, ◌∙◌, rules, arith}
use Rattle.teco_expansion.proofs.Prelude.{list_any, Stand, position_seen, stand_seen}
use Rattle.teco_verifier.specs.expansion.Expansion.{same_place}
use Rattle.teco_expansion.specs.declared.spot.Stand as code
use Rattle.teco_expansion.proofs.Finding.{any_on}
use Rattle.teco_expansion.proofs.link.any_place.Goals as goal

pub returns-then-is_at : goal.returns-then-is_at
returns-then-is_at c =
    let seen = stand_seen c.args.texts.now in
    let place = position_seen c.args.texts.now c.args.position.now in
    let x = c.index-stands-at.result in
    let same : c.is_at.result ≡ true = search rules in
    let here : same_place place (seen (get_or c.args.stands.now c.loop-at.at x)).position ≡ true =
    sym (ap (λ (s : code.Stand). same_place place (seen s).position) c.index-stands-at.is) ∙ sym c.is_at.ensures
    ∙ same in
    let rest = list_any (λ (other : Stand). same_place place other.position)
    (drop (c.loop-at.at + 1) (map seen c.args.stands.now)) in
    sym (c.loop-at.invariant ∙ any_on seen (λ (other : Stand). same_place place other.position) c.args.stands.now
    c.loop-at.at x (omega arith) ∙ ap (λ b. b || rest) here)

pub loop-at-preserved : goal.loop-at-preserved
loop-at-preserved c =
    let seen = stand_seen c.args.texts.now in
    let place = position_seen c.args.texts.now c.args.position.now in
    let x = c.index-stands-at.result in
    let other : c.is_at.result ≡ false = search rules in
    let here : same_place place (seen (get_or c.args.stands.now c.loop-at.at x)).position ≡ false =
    sym (ap (λ (s : code.Stand). same_place place (seen s).position) c.index-stands-at.is) ∙ sym c.is_at.ensures
    ∙ other in
    let rest = list_any (λ (other : Stand). same_place place other.position)
    (drop (c.loop-at.at + 1) (map seen c.args.stands.now)) in
    c.loop-at.invariant ∙ any_on seen (λ (other : Stand). same_place place other.position) c.args.stands.now
    c.loop-at.at x (omega arith) ∙ ap (λ b. b || rest) here
