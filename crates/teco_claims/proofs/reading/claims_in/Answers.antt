use Rattle.teco_claims.proofs.Prelude.{◌++◌, ◌∷◌, [], refl, ◌∙◌, append_assoc, flat_map, codes, LF, line, types_text}
use Rattle.teco_claims.proofs.Prelude.{cut_text, text}
use Rattle.teco_claims.specs.Text.{grows_text}
use Rattle.teco_claims.proofs.Claiming.{same_claimed}
use Rattle.teco_claims.proofs.reading.claims_in.Goals as goal

pub returns-clause-text : goal.returns-clause-text
returns-clause-text c = λ claimed is e.
    let cuts = flat_map cut_text claimed.cuts ++ line (codes "end") in
    let types = line (codes "types " ++ types_text claimed.types) ++ cuts in
    let grown = grows_text claimed.grows ++ types in
    let sizes = line (codes "size " ++ text claimed.size) ++ grown in
    let of_commands = c.behind.ensures.word.1.there ((text claimed.commands ++ LF ∷ []) ++ sizes) e in
    let most =
    c.polynomial_at-commands.ensures.text claimed.commands (LF ∷ sizes) is.commands refl
    (of_commands.1 ∙ append_assoc (text claimed.commands) (LF ∷ []) sizes) in
    let of_size = c.behind-2.ensures.word.1.there ((text claimed.size ++ LF ∷ []) ++ grown) most.1 in
    let size =
    c.polynomial_at-size.ensures.text claimed.size (LF ∷ grown) is.size refl
    (of_size.1 ∙ append_assoc (text claimed.size) (LF ∷ []) grown) in
    let of_grows = c.behind-3.ensures.word.1.there grown size.1 in
    let grows =
    c.grows_at-grows.ensures claimed.grows ((types_text claimed.types ++ LF ∷ []) ++ cuts) is.grows of_grows.1 in
    let of_types = c.behind-4.ensures.word.1.there ((types_text claimed.types ++ LF ∷ []) ++ cuts) grows.1 in
    let typed =
    c.types_at-types.ensures claimed.types cuts is.types
    (of_types.1 ∙ append_assoc (types_text claimed.types) (LF ∷ []) cuts) in
    let of_cuts = c.behind-5.ensures.word.1.there cuts typed.1 in
    same_claimed claimed most.0 size.0 grows.0 typed.0
    (c.in_ok-cuts.ensures.text claimed.cuts is.cuts of_cuts.1)
