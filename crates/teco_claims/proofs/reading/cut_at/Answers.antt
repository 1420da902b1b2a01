use Rattle.teco_claims.proofs.Prelude.{◌++◌, ◌∷◌, flat_map, refl, ◌∙◌, LF, claim_line}
use Rattle.teco_claims.proofs.Claiming.{parts_of_cut, same_cut}
use Rattle.teco_claims.proofs.reading.cut_at.Goals as goal

pub returns-clause-text : goal.returns-clause-text
returns-clause-text c = λ cut rest is ends e.
    let lines = flat_map claim_line cut.claims ++ rest in
    let point = c.point_at-point.ensures.text cut.point (LF ∷ lines) is.point refl (e ∙ parts_of_cut cut rest) in
    let begin = c.behind.ensures.word.1.there lines point.1 in
    let claims = c.in_ok-claims.ensures.text cut.claims rest is.each ends begin.1 in
    (same_cut cut point.0 claims.0, claims.1)
