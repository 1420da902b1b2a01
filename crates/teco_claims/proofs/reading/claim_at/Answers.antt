use Rattle.teco_claims.proofs.Prelude.{◌++◌, ◌∷◌, [], flat_map, ap, ◌∙◌, arith, LF, first_sign, body_text, next_text}
use Rattle.teco_claims.proofs.Claiming.{ends_next, parts_of_claim}
use Rattle.teco_claims.proofs.Rising.{terms_front}
use Rattle.teco_claims.proofs.reading.claim_at.Goals as goal

pub returns-then-not-is_next-clause-text : goal.returns-then-not-is_next-clause-text
returns-then-not-is_next-clause-text c [] rest is e = absurd (omega (arith, is.some))
returns-then-not-is_next-clause-text c (t ∷ ts) rest is e =
    let others = flat_map next_text ts ++ LF ∷ rest in
    let begin =
    c.behind.ensures.word.1.there (first_sign t.is_negative ++ (body_text t ++ others))
    (e ∙ parts_of_claim t ts rest) in
    let one = c.first_at-first.ensures.text t others is.are.each.0 (ends_next ts rest) begin.1 in
    let stands =
    c.if-not-is_next.ensures.1
    (rw (c.deref.ensures.value, c.new-terms.ensures.items, one.0) (terms_front (t ∷ []) ts is.are)) in
    absurd (cc)

pub returns-clause-text : goal.returns-clause-text
returns-clause-text c [] rest is e = absurd (omega (arith, is.some))
returns-clause-text c (t ∷ ts) rest is e =
    let others = flat_map next_text ts ++ LF ∷ rest in
    let pushed =
    c.in_ok-push.ensures.items ∙ ap (λ xs. xs ++ c.first_at-first.result.0 ∷ []) c.new-terms.ensures.items in
    let begin =
    c.behind.ensures.word.1.there (first_sign t.is_negative ++ (body_text t ++ others))
    (e ∙ parts_of_claim t ts rest) in
    let one = c.first_at-first.ensures.text t others is.are.each.0 (ends_next ts rest) begin.1 in
    let more = c.in_ok-rest.ensures.text ts rest (rw (pushed, one.0) is.are) one.1 in
    let last = c.behind-2.ensures.word.1.there rest more.1 in
    (more.0 ∙ ap (λ xs. xs ++ ts) pushed ∙ ap (λ u. u ∷ ts) one.0, last.1)
