-- No text of the library is written.
use Rattle.teco_law_facts.proofs.Prelude.{◌≡◌, ℕ, true, refl, sym, subst, List, Option, Some, None, Result, Ok, Err}
use Rattle.teco_law_facts.proofs.Prelude.{Kind, KnownTaken, ◌>>=◌, Facts, with_arguments, Foreseen, Placed, transfer}
use Rattle.teco_law_facts.proofs.Prelude.{edges_of, answer_for, without_answer, RefusalReason, Value}
use Rattle.std.specs.Prelude.{IsErr}
use Rattle.teco_model.specs.declared.kind.Command.TheVariants as command
use Rattle.teco_model.specs.declared.kind.Kind.TheVariants as kind
use Rattle.teco_model.specs.declared.kind.Stack.TheVariants as stack
use Rattle.teco_model.specs.declared.kind.Storage.TheVariants as storage
use Rattle.teco_verifier.specs.facts.Arguments.{arguments_of, levels_after_taking}
use Rattle.teco_law_facts.specs.Laws.{WritesText, LibraryStays}
use Rattle.teco_verifier.specs.facts.Storages.{own_text_storage, copy}
use Rattle.teco_verifier.specs.facts.Transfer.{after_taking}
use Rattle.teco_verifier.specs.facts.Transfer.{execution, on}
use Rattle.teco_verifier.specs.facts.Typings.{part_named}

refused_then : {X Y : Type 0} (r : Result X RefusalReason) (f : X → Result Y RefusalReason) → IsErr r → IsErr (r >>= f)
refused_then (Err why) f h = refl
refused_then (Ok x) f h = absurd (cc)

then_refused : {X Y : Type 0} (r : Result X RefusalReason) (f : X → Result Y RefusalReason) → ((x : X) → IsErr (f x))
    → IsErr (r >>= f)
then_refused (Ok x) f h = h x
then_refused (Err why) f h = refl

-- after the arguments are taken
taking_refused : (act : KnownTaken → Facts → Result Foreseen RefusalReason) (facts : Facts)
    → ((taken : KnownTaken) (facts : Facts) → IsErr (act taken facts)) → IsErr (on (after_taking act facts))
taking_refused act facts h = refused_then (after_taking act facts) _
    (then_refused (arguments_of facts.arguments.level) _
    (λ taken. refused_then (act taken (with_arguments (levels_after_taking facts.arguments) facts)) _ (h taken _)))

own_text_refused : (colons r : ℕ) (text : List ℕ) (n : Option Value) (facts : Facts)
    → IsErr (own_text_storage true colons r text n facts)
own_text_refused colons r text None facts = refl
own_text_refused colons r text (Some n) facts = refl

written_refused : (k : Kind) (x : Placed) (facts : Facts) → x.library ≡ true → WritesText k
    → IsErr (edges_of k x (answer_for k facts) (without_answer facts))
written_refused (kind.Stack (stack.Pop r)) x facts e w = rw e refl
written_refused (kind.Command (command.Storage (storage.Copy r))) x facts e w =
    taking_refused (execution (command.Storage (storage.Copy r)) x) (without_answer facts) (λ taken known.
    subst (λ library. IsErr (copy library x.element.colons r taken known)) (sym e)
    (then_refused (part_named taken.first taken.value known.position.distances) _ (λ named. refl)))
written_refused (kind.Command (command.Storage (storage.SetText r))) x facts e w =
    taking_refused (execution (command.Storage (storage.SetText r)) x) (without_answer facts) (λ taken known.
    subst (λ library. IsErr (own_text_storage library x.element.colons r x.element.text taken.value known)) (sym e)
    (own_text_refused x.element.colons r x.element.text taken.value known))
written_refused k x facts e w = absurd w

pub library_stays : LibraryStays
unfolding transfer
library_stays x facts e w = written_refused x.element.kind x facts e w
