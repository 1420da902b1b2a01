use Rattle.std.proofs.Common.{◌≡◌, ◌-◌, ◌+◌, ◌∙◌, ℕ, suc, false, List, ap, arith, sym, refl}
use Rattle.std.specs.List.{after_first, before_first}
use Rattle.teco_acceptance.specs.Editions.{edition_within, is_end, names_second}
use Rattle.teco_acceptance.proofs.claim.edition_of.Goals as goal

-- behind a line that names nothing the others are left
behind_line : (lines : ℕ) (text : List ℕ) → names_second (before_first is_end text) ≡ false
    → edition_within (suc lines) text ≡ edition_within lines (after_first is_end text)
behind_line lines text other = rw other refl

pub loop-preserved : goal.loop-preserved
loop-preserved c =
    let rest = c.loop.rest.now in
    let left = 4 - (c.loop.counter + 1) in
    let other = sym (c.names_second.ensures ∙ ap names_second c.split_line.ensures.line) ∙ c.if-names_second.false in
    let one_more : suc left ≡ 4 - c.loop.counter = omega (arith, c.loop-test.true) in
    ap (edition_within left) c.split_line.ensures.behind ∙ sym (behind_line left rest other)
    ∙ ap (λ lines. edition_within lines rest) one_more ∙ c.loop.invariant
