-- Ways that meet: what is known of the registers comes last.
use Rattle.teco_facts.proofs.Prelude.{◌≡◌, refl, ap, ◌∙◌, List, Result, Ok, Err, RefusalReason, ◌>>=◌, Facts, Position}
use Rattle.teco_facts.proofs.Prelude.{Pushed, join_of, hulls, joined_lengths, joined_pushes}
use Rattle.teco_poly.specs.Polynomial.{Polynomial}
use Rattle.teco_verifier.specs.facts.Facts.{without_arguments}
use Rattle.teco_verifier.specs.facts.Joins.{joined, joined_position, none_pending}
use Rattle.teco_facts.specs.declared.fault.FactFault.{FactFault}
use Rattle.teco_facts.specs.declared.fault.FactFault.TheVariants as fault
use Rattle.teco_facts.specs.Does.{Gives, Leaves}
use Rattle.teco_facts.specs.Joined.{joined_but_registers, with_registers_joined}
use Rattle.teco_facts.proofs.Joins.{ok_of}

whole : (facts others j : Facts) (one two : Unit {0}) (pushes : List Pushed) (position : Position) (held : Polynomial)
    → none_pending facts.arguments ≡ Ok one → none_pending others.arguments ≡ Ok two
    → joined_pushes facts.pushes others.pushes ≡ Ok pushes
    → joined_position facts.position others.position ≡ Ok position → join_of facts.held others.held ≡ Ok held
    → record (without_arguments facts) { position = position; held = held; pushes = pushes } ≡ j
    → joined facts others ≡ (joined_lengths j.texts others.texts
    >>= (λ texts. Ok (record j { numbers = hulls j.numbers others.numbers; texts = texts })))
whole facts others j one two pushes position held a b c d e f = rw (a, b, c, d, e, ← f) refl

then_registers : (facts others j : Facts) → joined_but_registers facts others ≡ Ok j
    → joined facts others ≡ (joined_lengths j.texts others.texts
    >>= (λ texts. Ok (record j { numbers = hulls j.numbers others.numbers; texts = texts })))
then_registers facts others j e =
    let one = ok_of (none_pending facts.arguments) _ _ e in
    let two = ok_of (none_pending others.arguments) _ _ one.2 in
    let pushes = ok_of (joined_pushes facts.pushes others.pushes) _ _ two.2 in
    let position = ok_of (joined_position facts.position others.position) _ _ pushes.2 in
    let held = ok_of (join_of facts.held others.held) _ _ position.2 in
    whole facts others j _ _ _ _ _ one.1 two.1 pushes.1 position.1 held.1 (cc)

fails_on : {A B C : Type 0} (r : Result A RefusalReason) (f : A → Result B RefusalReason) (g : A
    → Result C RefusalReason) (why : RefusalReason)
    → ((a : A) → f a ≡ Err why → g a ≡ Err why) → (r >>= f) ≡ Err why → (r >>= g) ≡ Err why
fails_on (Ok a) f g why more e = more a e
fails_on (Err other) f g why more e = let is : other ≡ why = (cc) in ap Err is

refused_before : (facts others : Facts) (why : RefusalReason) → joined_but_registers facts others ≡ Err why
    → joined facts others ≡ Err why
refused_before facts others why e =
    fails_on (none_pending facts.arguments) _ _ why
    (λ one a. fails_on (none_pending others.arguments) _ _ why
    (λ two b. fails_on (joined_pushes facts.pushes others.pushes) _ _ why
    (λ pushes c. fails_on (joined_position facts.position others.position) _ _ why
    (λ position d. fails_on (join_of facts.held others.held) _ _ why (λ held h. absurd (cc)) d) c) b) a) e

pub fails_before : (facts others : Facts) (why : FactFault) → Gives (joined_but_registers facts others) (Err why)
    → Gives (joined facts others) (Err why)
fails_before facts others (fault.Refused why) e = refused_before facts others why e
fails_before facts others fault.Memory e = tt

pub registers_fail : (facts others j new : Facts) (why : FactFault) → joined_but_registers facts others ≡ Ok j
    → Leaves (with_registers_joined j others) new (Err why) → Gives (joined facts others) (Err why)
registers_fail facts others j new (fault.Refused why) e l = then_registers facts others j e ∙ l
registers_fail facts others j new fault.Memory e l = tt

pub with_registers : (facts others j new : Facts) → joined_but_registers facts others ≡ Ok j
    → with_registers_joined j others ≡ Ok new → joined facts others ≡ Ok new
with_registers facts others j new e l = then_registers facts others j e ∙ l
