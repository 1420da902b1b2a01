use Rattle.std.proofs.Common.{ℕ, List, All, IsTrue, Option, false, subst}
use Rattle.std.proofs.lemmas.List.{take_all}
use Rattle.std.proofs.lemmas.List.Elements.{All-more}
use Rattle.teco_library.specs.Library.{LibraryFile}
use Rattle.teco_examples.specs.Examples.{IsAsked, NoteHolds}
use Rattle.teco_notes.specs.declared.finding.FoundNote.{FoundNote}
use Rattle.teco_options.specs.declared.running.LetterCase.{LetterCase}
use Rattle.teco_examples.proofs.testing.Trial.try_all.Goals as goal

-- one of the notes holds, if it is asked for
abbrev IsWell : LibraryFile → Option LetterCase → Option ℕ → FoundNote → Type 0
IsWell library case entry found = IsAsked entry found.register → NoteHolds library case found.register found.note

pub loop-finding-preserved-then-not-has : goal.loop-finding-preserved-then-not-has
loop-finding-preserved-then-not-has g c = λ none.
    let P : FoundNote → Type 0 = IsWell c.args.self.now.sourced.now.library c.args.self.now.tests.now.case
    c.args.self.now.tests.now.entry in
    let other : P c.finding-item.result = λ asked.
    let no : IsTrue false = c.if-not-has.ensures asked in absurd (cc) in
    All-more P c.args.self.now.notes.now c.loop-finding.finding-index c.finding-item.result c.loop-finding-test.true
    (c.loop-finding.invariant none) (subst P c.finding-item.is other)

pub loop-finding-preserved : goal.loop-finding-preserved
loop-finding-preserved g c = λ none.
    let P : FoundNote → Type 0 = IsWell c.args.self.now.sourced.now.library c.args.self.now.tests.now.case
    c.args.self.now.tests.now.entry in
    let both = c.in_ok-tally.ensures none in
    let one : P c.finding-item.result = λ asked. both.1 in
    All-more P c.args.self.now.notes.now c.loop-finding.finding-index c.finding-item.result c.loop-finding-test.true
    (c.loop-finding.invariant both.0) (subst P c.finding-item.is one)

pub returns : goal.returns
returns g c = λ none.
    subst (λ (it : List FoundNote). All (IsWell c.args.self.now.sourced.now.library c.args.self.now.tests.now.case
    c.args.self.now.tests.now.entry) it)
    (take_all c.loop-finding.finding-index c.args.self.now.notes.now c.loop-finding-test.false)
    (c.loop-finding.invariant none)
