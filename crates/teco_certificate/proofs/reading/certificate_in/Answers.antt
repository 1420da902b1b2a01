use Rattle.teco_certificate.proofs.Prelude.{◌++◌, ◌∷◌, [], refl, ap, ◌∙◌, append_assoc, flat_map, codes, register_name}
use Rattle.teco_certificate.proofs.Prelude.{LF, line, version_text, argument_line, needs_text, loop_line, text}
use Rattle.teco_certificate.proofs.Spelling.{no_argument, same_fields}
use Rattle.teco_certificate.proofs.reading.certificate_in.Goals as goal

pub returns-clause-text : goal.returns-clause-text
returns-clause-text c = λ f is e.
    let has = is.parts in
    let loops = flat_map loop_line f.loops ++ line (codes "end") in
    let sizes = line (codes "size " ++ text f.size) ++ loops in
    let commands = line (codes "commands " ++ text f.commands) ++ sizes in
    let needs = line (codes "needs " ++ needs_text f.needs) ++ commands in
    let arguments = argument_line f.argument ++ needs in
    let entries = line (codes "entry " ++ register_name f.entry ∷ []) ++ arguments in
    let version = c.behind_version.ensures f.argument entries
    (e ∙ ap (λ rest. codes "TECO-CERT " ++ rest) (append_assoc (version_text f.argument) (LF ∷ []) entries)) in
    let start = c.behind.ensures.word.1.there (register_name f.entry ∷ LF ∷ arguments) version in
    let entry = c.register_at-entry.ensures.text f.entry (LF ∷ arguments) has.entry start.1 in
    let of_argument = c.behind-2.ensures.word.1.there arguments entry.1 in
    let behind_needs = (needs_text f.needs ++ LF ∷ []) ++ commands in
    let argument = c.argument_at-argument.ensures f.argument needs has.argument (no_argument behind_needs)
    of_argument.1 in
    let of_needs = c.behind-3.ensures.word.1.there behind_needs argument.1 in
    let need = c.needs_at-needs.ensures f.needs commands
    (of_needs.1 ∙ append_assoc (needs_text f.needs) (LF ∷ []) commands) in
    let of_commands = c.behind-4.ensures.word.1.there ((text f.commands ++ LF ∷ []) ++ sizes) need.1 in
    let most = c.polynomial_at-commands.ensures.text f.commands (LF ∷ sizes) has.commands refl
    (of_commands.1 ∙ append_assoc (text f.commands) (LF ∷ []) sizes) in
    let of_size = c.behind-5.ensures.word.1.there ((text f.size ++ LF ∷ []) ++ loops) most.1 in
    let size = c.polynomial_at-size.ensures.text f.size (LF ∷ loops) has.size refl
    (of_size.1 ∙ append_assoc (text f.size) (LF ∷ []) loops) in
    let of_loops = c.behind-6.ensures.word.1.there loops size.1 in
    same_fields f entry.0 argument.0 need.0 most.0 size.0
    (c.in_ok-loops.ensures.text f.loops has.loops is.order.registers of_loops.1)
