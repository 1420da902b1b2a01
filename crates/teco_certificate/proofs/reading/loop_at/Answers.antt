use Rattle.teco_certificate.proofs.Prelude.{◌++◌, ◌∷◌, refl, ◌∙◌, codes, LF, kept_text, longer_texts, text}
use Rattle.teco_certificate.proofs.Spelling.{ends_kept, parts_of_line, same_chosen}
use Rattle.teco_certificate.proofs.reading.loop_at.Goals as goal

pub returns-clause-text : goal.returns-clause-text
returns-clause-text c = λ chosen rest is rise e.
    let texts = codes " texts " ++ (longer_texts chosen.longer ++ LF ∷ rest) in
    let behind_held = kept_text chosen.kept ++ texts in
    let behind_number = text chosen.held ++ (codes " " ++ behind_held) in
    let number = c.number_at-number.ensures.text chosen.begin (codes " held " ++ behind_number) is.begin refl
    (e ∙ parts_of_line chosen rest) in
    let word = c.behind.ensures.word.1.there behind_number number.1 in
    let held = c.held_at-held.ensures.text chosen.held behind_held is.held (ends_kept chosen.kept texts) word.1 in
    let kept = c.kept_at-kept.ensures.text chosen.kept texts held.1 in
    let begin = c.behind-2.ensures.word.1.there (longer_texts chosen.longer ++ LF ∷ rest) kept.1 in
    let longer = c.in_ok-longer.ensures.text chosen.longer rest is.longer rise begin.1 in
    (same_chosen chosen number.0 held.0 kept.0 longer.0, (c.behind-3.ensures.word.1.there rest longer.1).1)
