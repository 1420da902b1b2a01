use Rattle.teco_expansion.proofs.Prelude.{◌≡◌, true, ap, sym, ◌∙◌, rules, seen, crossing, crosses, spot_seen, text_of}
use Rattle.teco_expansion.proofs.Elements.{ahead_of_element}
use Rattle.teco_expansion.proofs.Passing.{nothing_between, branch-route, jump-told}
use Rattle.teco_expansion.proofs.overlap.parts_on.Goals as goal

pub returns-then-to-behind_blanks : goal.returns-then-to-behind_blanks
returns-then-to-behind_blanks c =
    nothing_between (spot_seen c.args.texts.now c.args.spot.now) c.args.element.now.next c.args.to
    (rw c.behind_blanks.ensures at c.if-to-behind_blanks.true)

pub returns-in-Some : goal.returns-in-Some
returns-in-Some c =
    let spot = spot_seen c.args.texts.now c.args.spot.now in
    let text = text_of c.args.texts.now c.args.spot.now.register in
    let e = seen c.args.element.now in
    let branch = branch-route c.args.element.now.kind c.requires.branch in
    let read = ahead_of_element text c.args.spot.now.place e c.requires.read in
    let kept = c.in-Some.ensures e branch.0 0 read branch.1 in
    let landed : c.lands.result ≡ true = search rules in
    c.crosses.ensures
    ∙ ap (λ crossed. crosses crossed c.len.result c.args.to) kept
    ∙ ap (λ n. crosses (crossing text branch.0 e.next) n c.args.to) c.len.ensures.value
    ∙ jump-told spot e branch.0 c.args.to branch.1 (sym c.lands.ensures ∙ landed)
