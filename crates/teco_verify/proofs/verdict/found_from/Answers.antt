use Rattle.teco_verify.proofs.Prelude.{◌≡◌, true, false, subst, sym, ap, ◌∙◌, IsTextOf, Fields, IsFound}
use Rattle.std.proofs.lemmas.Slice.Eq.{bytes_eq-Decides}
use Rattle.teco_certificate.specs.Text.{certificate_text}
use Rattle.teco_verify.proofs.Again.{made_by_choices}
use Rattle.teco_verify.proofs.verdict.found_from.Goals as goal

pub returns-in_default-clause-again : goal.returns-in_default-clause-again
returns-in_default-clause-again c = λ fields made spelled.
    let asked = c.args.asked.now in
    let one = c.one_spelling.ensures c.args.bytes.now c.args.claimed.now made.read c.requires.spelled
    (subst (IsTextOf made.read) (sym spelled) made.spelled) in
    c.found_with-found.ensures.again fields
    (made_by_choices asked.library.now fields c.args.claimed.now asked.entry c.args.nodes.now
    c.deref.result.now made one c.requires.entry c.requires.expanded
    (c.deref.ensures.value ∙ ap (λ (f : Fields). f.loops) c.claimed.view_is))

pub returns-in-Ok-certificate-clause-again : goal.returns-in-Ok-certificate-clause-again
returns-in-Ok-certificate-clause-again c = λ fields made spelled.
    let asked = c.args.asked.now in
    let one = c.one_spelling.ensures c.args.bytes.now c.args.claimed.now made.read c.requires.spelled
    (subst (IsTextOf made.read) (sym spelled) made.spelled) in
    c.found_with-found.ensures.again fields
    (made_by_choices asked.library.now fields c.args.claimed.now asked.entry c.args.nodes.now
    c.deref.result.now made one c.requires.entry c.requires.expanded
    (c.deref.ensures.value ∙ ap (λ (f : Fields). f.loops) c.claimed.view_is))

pub returns-clause-again : goal.returns-clause-again
returns-clause-again c = λ fields made spelled.
    let asked = c.args.asked.now in
    let one = c.one_spelling.ensures c.args.bytes.now c.args.claimed.now made.read c.requires.spelled
    (subst (IsTextOf made.read) (sym spelled) made.spelled) in
    let found = c.found_with-found.ensures.again fields
    (made_by_choices asked.library.now fields c.args.claimed.now asked.entry c.args.nodes.now
    c.deref.result.now made one c.requires.entry c.requires.expanded
    (c.deref.ensures.value ∙ ap (λ (f : Fields). f.loops) c.claimed.view_is)) in
    let same : c.in-Ok.verified.fields ≡ fields = subst (IsFound fields) c.in-Ok.is found in
    let text : c.as_slice.result.now ≡ c.args.bytes.now = c.as_slice.ensures.value
    ∙ (c.in-Ok-certificate.ensures.text ∙ (ap certificate_text same ∙ sym spelled)) in
    let yes : c.eq.result ≡ true = c.eq.ensures ∙ (bytes_eq-Decides c.as_slice.result.now c.args.bytes.now).1 text in
    let no : true ≡ false = sym yes ∙ c.if-eq.false in
    absurd (cc)
