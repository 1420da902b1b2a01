use Rattle.teco_find.proofs.Prelude.{◌≡◌, ◌∙◌, ◌++◌, ap, drop, length, sym, take}
use Rattle.std.proofs.lemmas.List.{append_assoc, take-append-drop}
use Rattle.std.specs.Cmp.Lexicographic.{same_text}
use Rattle.teco_find.proofs.rests.literals_rest.Goals as goal

pub returns-clause-value : goal.returns-clause-value
returns-clause-value c =
    let literals = c.args.literals.now in
    let front = c.args.text.0.now in
    let cases = c.in_ok-rest.ensures.cases in
    let begins : take (length literals) front ≡ literals = same_text _ _ (sym cases.0) in
    let is : front ≡ literals ++ c.in_ok-rest.rest.now = sym (take-append-drop (length literals) front)
    ∙ ap (λ l. l ++ drop (length literals) front) begins ∙ ap (λ l. literals ++ l) (sym cases.1) in
    ap (λ l. l ++ c.args.text.1.now) is ∙ append_assoc literals c.in_ok-rest.rest.now c.args.text.1.now
