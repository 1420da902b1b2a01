use mathlib.Core.Bool.{beq, not}
use Rattle.std.proofs.Common.{◌≡◌, ◌∙◌, Bool, true, false, ap, refl, subst, sym}
use Rattle.std.specs.Prelude.{IfSome}
use Rattle.teco_witness.proofs.Ends.{comes_to}
use Rattle.teco_witness.specs.Witness.{Subject, SmallWorld, IsReady, IsTaken, call_text}
use Rattle.teco_witness.proofs.trial.end_within.Goals as goal

-- two that do not differ
same : (a b : Bool) → not (beq a b) ≡ false → a ≡ b
same true true h = refl
same true false h = h
same false true h = sym h
same false false h = refl

pub returns : goal.returns
returns c =
    let subject = c.args.subject.now in
    let world = c.args.world.now in
    let entry = ap (λ (s : Subject). s.entry) c.subject.view_is in
    let argument = ap (λ (s : Subject). s.argument) c.subject.view_is in
    let given = ap (λ (w : SmallWorld). w.given) c.world.view_is in
    let input = ap (λ (w : SmallWorld). w.is_input) c.world.view_is in
    let opened = sym input ∙ same _ _ c.if-world-opens_files.false ∙ c.opens_files.ensures in
    let taken = subst (λ g. IsTaken subject.argument g) given
    (subst (λ a. IsTaken a c.world.inside.given) argument (c.if-not-takes.ensures.0 refl)) in
    let made = subst (λ made. IfSome made (IsReady subject.library world)) c.in-Some.is c.in_ok-bench.ensures in
    let text = c.deref.ensures.value ∙ c.in_ok-command.ensures ∙ ap (λ e. call_text e c.world.inside.given) entry
    ∙ ap (λ g. call_text subject.entry g) given in
    comes_to subject world c.in-Some.bench _ c.end_of.result opened taken made text c.end_of.ensures
