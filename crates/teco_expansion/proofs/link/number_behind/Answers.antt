use Rattle.teco_expansion.proofs.Prelude.{◌≡◌, true, false, get_or, sym, ◌∙◌, rules, arith, stand_seen}
use Rattle.teco_verifier.specs.expansion.Expansion.{same_stand}
use Rattle.teco_expansion.proofs.Finding.{found_here, found_on}
use Rattle.teco_expansion.proofs.link.number_behind.Goals as goal

pub returns-then-same_stand : goal.returns-then-same_stand
returns-then-same_stand c =
    let seen = stand_seen c.args.texts.now in
    let p = same_stand (seen c.args.stand.now) in
    let x = c.index-stands-at.result in
    let same : c.same_stand.result ≡ true = search rules in
    let here : p (seen (get_or c.args.stands.now c.loop-at.at x)) ≡ true =
    rw (← c.index-stands-at.is) (sym c.same_stand.ensures ∙ same) in
    sym (c.loop-at.invariant ∙ found_here seen p c.args.stands.now c.loop-at.at x (omega arith) here)

pub loop-at-preserved : goal.loop-at-preserved
loop-at-preserved c =
    let seen = stand_seen c.args.texts.now in
    let p = same_stand (seen c.args.stand.now) in
    let x = c.index-stands-at.result in
    let other : c.same_stand.result ≡ false = search rules in
    let here : p (seen (get_or c.args.stands.now c.loop-at.at x)) ≡ false =
    rw (← c.index-stands-at.is) (sym c.same_stand.ensures ∙ other) in
    c.loop-at.invariant ∙ found_on seen p c.args.stands.now c.loop-at.at x (omega arith) here
