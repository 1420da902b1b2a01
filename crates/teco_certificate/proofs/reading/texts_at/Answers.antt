use Rattle.teco_certificate.proofs.Prelude.{◌++◌, ◌∷◌, [], None, flat_map, ap, sym, subst, ◌∙◌, Decides-eqb}
use Rattle.teco_certificate.proofs.Prelude.{strip_prefix_is, codes, LF, behind_comma, TextsRise}
use Rattle.teco_certificate.proofs.Rising.{few_rise}
use Rattle.teco_certificate.proofs.Spelling.{texts_first, ends_longer}
use Rattle.teco_certificate.proofs.reading.texts_at.Goals as goal

pub returns-clause-text : goal.returns-clause-text
returns-clause-text c = λ ls rest are rise e.
    let pushed = c.in_ok-push.ensures.items
    ∙ ap (λ xs. xs ++ c.longer_at-first.result.0 ∷ []) c.new-longer.ensures.items in
    let has = texts_first ls c.args.text.now rest are
    (λ words f. strip_prefix_is Decides-eqb c.args.text.now (codes "-") None c.in_default.ensures.cases words f) e
    in
    let one = c.longer_at-first.ensures.text has.first (flat_map behind_comma has.others ++ LF ∷ rest) has.is_first
    (ends_longer has.others rest) has.spelled in
    let all = ap (λ xs. xs ++ has.others) pushed ∙ ap (λ l. l ∷ has.others) one.0 ∙ sym has.all in
    let rises = subst TextsRise (sym all) rise in
    let more = c.in_ok-rest.ensures.text has.others rest has.are_others rises one.1 in
    (more.0 ∙ all, more.1)

pub returns-clause-few : goal.returns-clause-few
returns-clause-few c = few_rise c.others_at.new.longer.items c.in_ok-rest.ensures.rise c.in_ok-rest.ensures.registers
