-- Registers and the push-down list. A text of the library is never written, by X, ^U and ].
use Rattle.std.specs.Prelude.{ℕ, zero, suc, List, [], ◌∷◌, length, slice_set, Bool, true, false, nat_lt}
use Rattle.std.specs.Prelude.{if◌then◌else◌, Option, Some, None, Result, Ok, Err}
use Rattle.std.specs.List.{list_all}
use Rattle.teco_model.specs.declared.kind.Stack.{Stack}
use Rattle.teco_model.specs.declared.kind.Stack.TheVariants.{Push, Pop}
use Rattle.teco_model.specs.declared.kind.Storage.{Storage}
use Rattle.teco_model.specs.declared.kind.Storage.TheVariants.{SetNumber, Add, Copy, SetText, Get}
use Rattle.teco_poly.specs.Polynomial.{Polynomial, number}
use Rattle.teco_verifier.specs.declared.values.Value.{Value}
use Rattle.teco_verifier.specs.declared.values.Interval.{Interval}
use Rattle.teco_verifier.specs.declared.refusal.RefusalReason.{RefusalReason}
use Rattle.teco_verifier.specs.declared.refusal.RefusalReason.TheVariants as refusal
use Rattle.teco_verifier.specs.facts.Arguments.{KnownTaken, needed_value}
use Rattle.teco_verifier.specs.facts.Attempt.{◌>>=◌}
use Rattle.teco_verifier.specs.facts.Facts.{Iteration, Pushed, Facts, number_of, text_of, sum_of}
use Rattle.teco_verifier.specs.facts.Insertions.{insertion_of}
use Rattle.teco_verifier.specs.facts.Motions.{count_of}
use Rattle.teco_verifier.specs.facts.Shifts.{is_place, Foreseen, silent, answering, silent_behind}
use Rattle.teco_verifier.specs.facts.Typings.{part_named}
use Rattle.teco_verifier.specs.facts.Values.{interval_of, interval_sum, kept_in_32_bits}

-- the number of a register is of an interval, and saved or not, and its text at most so long
abbrev pub with_number : ℕ → Interval → Bool → Facts → Facts
with_number r i saved facts = record facts {
  numbers = slice_set facts.numbers r i;
  position = record facts.position { saved = slice_set facts.position.saved r saved };
}

abbrev pub with_text : ℕ → Polynomial → Facts → Facts
with_text r length facts = record facts { texts = slice_set facts.texts r length }

-- n%q answers the sum, which is not saved
abbrev pub addition : ℕ → Option Value → Facts → Foreseen
addition r n facts =
    let sum = kept_in_32_bits (interval_sum (number_of r facts) (count_of n facts.position.distances)) in
    answering sum (with_number r sum false facts)

-- is the text one of the library's?
abbrev pub not_of_library : Bool → Result (Unit {0}) RefusalReason
not_of_library true = Err refusal.Written
not_of_library false = Ok tt

-- a text at most so long is stored, or with a colon appended
abbrev pub text_storage : ℕ → ℕ → Polynomial → Facts → Result Foreseen RefusalReason
text_storage zero r length facts = Ok (silent (with_text r length facts))
text_storage (suc colons) r length facts = do
  sum ← sum_of (text_of r facts) length
  Ok (silent (with_text r sum facts))

-- X copies a part of the buffer, which is no longer than what is held
abbrev pub copy : Bool → ℕ → ℕ → KnownTaken → Facts → Result Foreseen RefusalReason
copy library colons r taken facts = do
  named ← part_named taken.first taken.value facts.position.distances
  free ← not_of_library library
  text_storage colons r facts.held facts

-- ^U stores its text; an argument is not allowed
abbrev pub own_text_storage : Bool → ℕ → ℕ → List ℕ → Option Value → Facts → Result Foreseen RefusalReason
own_text_storage library colons r text None facts = do
  free ← not_of_library library
  text_storage colons r (number (length text)) facts
own_text_storage library colons r text (Some n) facts = Err refusal.Argument

-- G inserts the text, or with a colon types it
abbrev pub retrieval : ℕ → ℕ → Facts → Result Foreseen RefusalReason
retrieval zero r facts = silent_behind (insertion_of 0 (text_of r facts) facts.position.distances) facts
retrieval (suc colons) r facts = Ok (silent facts)

-- nUq saves n where that is a place of the buffer.
abbrev pub storage : Storage → Bool → ℕ → List ℕ → KnownTaken → Facts → Result Foreseen RefusalReason
storage (SetNumber r) library colons text taken facts = do
  n ← needed_value taken.value
  Ok (
      let distances = facts.position.distances in
      silent (with_number r (interval_of distances n) (is_place n distances) facts))
storage (Add r) library colons text taken facts = Ok (addition r taken.value facts)
storage (Copy r) library colons text taken facts = copy library colons r taken facts
storage (SetText r) library colons text taken facts = own_text_storage library colons r text taken.value facts
storage (Get r) library colons text taken facts = retrieval colons r facts

-- [q pushes what is known of the pair
abbrev pub push : ℕ → Facts → Facts
push r facts =
    record facts {
      pushes = record { number = number_of r facts; text = text_of r facts }
          ∷ facts.pushes;
    }

-- ]q pops it, but none from below the entry, or from below the < of an open iteration
abbrev pub is_above : List Pushed → List Iteration → Bool
is_above pushes iterations = list_all (λ (i : Iteration). nat_lt i.pushes (length pushes)) iterations

abbrev pub with_popped : ℕ → List Pushed → Facts → Result Facts RefusalReason
with_popped r [] facts = Err refusal.Pop
with_popped r (pair ∷ pushes) facts =
    if is_above (pair ∷ pushes) facts.iterations
    then Ok (record (with_text r pair.text (with_number r pair.number false facts)) { pushes = pushes })
    else Err refusal.Pop

abbrev pub pop : Bool → ℕ → Facts → Result Facts RefusalReason
pop library r facts = do
  free ← not_of_library library
  with_popped r facts.pushes facts

abbrev pub stack : Stack → Bool → Facts → Result Facts RefusalReason
stack (Push r) library facts = Ok (push r facts)
stack (Pop r) library facts = pop library r facts
