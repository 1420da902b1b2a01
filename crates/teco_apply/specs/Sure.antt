-- What the run of a verified macro does.
use Rattle.std.specs.Prelude.{◌≡◌, ℕ, ◌+◌, ◌-◌, ◌^◌, ◌≤◌, ℤ, pos, negsuc, List, ◌++◌, length, Bool, true, Option, Some}
use Rattle.std.specs.Prelude.{None, Result, Ok, Err, IsSome, ⊤}
use Rattle.teco_base.specs.NumberText.{decimal}
use Rattle.teco_base.specs.declared.TheConstants.{LIMIT}
use Rattle.teco_model.specs.Macros.{Library, call_of, ArgumentRange, IsAsked, Needs}
use Rattle.teco_model.specs.Registers.{with_texts}
use Rattle.teco_model.specs.Run.{Stops, IsSure}
use Rattle.teco_model.specs.State.{Kept, World, start}
use Rattle.teco_model.specs.declared.stop.Stop.TheVariants as stop
use Rattle.teco_model.specs.declared.stop.Stop.{Stop}
use Rattle.teco_changes.specs.Worlds.{text_of}
use Rattle.teco_law_runs.specs.Framing.{LeavesFramed}
use Rattle.teco_law_runs.specs.Keeping.{LeavesOpen}
use Rattle.teco_law_runs.specs.Ready.{n_of}
use Rattle.teco_hosts.specs.Held.{Held}
use Rattle.teco_poly.specs.Polynomial.{value}
use Rattle.teco_law_changes.specs.Runs.{IsGot}
use Rattle.teco_promise.specs.Promise.{IsWithin, Promise, held_of, most_with}
use Rattle.teco_verifier.specs.expansion.Expansion.{expansion}
use Rattle.teco_verifier.specs.expansion.Node.{Node}
use Rattle.teco_apply.specs.declared.ready.NotReady.{NotReady}
use Rattle.teco_apply.specs.declared.ready.NotReady.TheVariants.{NoInput, NoOutput, Argument, Memory}

-- the most steps that a run may be allowed
abbrev pub MOST : ℕ
MOST = 2 ^ 64 - 1

-- the library's texts are in their registers
abbrev pub kept_loaded : Library → Kept → Kept
kept_loaded library kept = record kept { registers = with_texts library kept.registers }

abbrev pub loaded : Library → World → World
loaded library world = record world { kept = kept_loaded library world.kept }

-- what is promised of a macro, and the argument that it is given
pub record PromisedCall : Type 0 where
  pub promise : Promise
  pub given : Option ℤ

-- A macro is given an argument where it takes one, and then in the range; no range has a negative number.
abbrev pub IsTaken : Option ArgumentRange → Option ℤ → Type 0
IsTaken argument None = IsAsked argument None
IsTaken argument (Some (pos n)) = IsAsked argument (Some n)
IsTaken argument (Some (negsuc n)) = ⊥

abbrev pub TakesArgument : PromisedCall → Type 0
TakesArgument call = IsTaken call.promise.argument call.given

-- the argument in decimal, and the call
abbrev pub call_text : ℕ → Option ℤ → List ℕ
call_text entry None = call_of entry
call_text entry (Some n) = decimal n ++ call_of entry

-- The size may be held, and the number of commands is one of 64 bits.
pub record IsReady (promise : Promise) (world : World) : Type 0 where
  pub fits : value promise.size (n_of world) ≤ LIMIT
  pub counts : value promise.commands (n_of world) ≤ MOST

-- at its end no more bytes are typed than that
abbrev pub TypesWithin : Option ℕ → Stop → World → Type 0
TypesWithin typed (stop.Ended n) new = IsWithin typed (length new.kept.typed)
TypesWithin typed answer new = ⊤

-- and no more is in the buffer and unread
abbrev pub GrowsWithin : Option ℕ → Stop → World → Type 0
GrowsWithin held (stop.Ended n) new = IsWithin held (held_of new)
GrowsWithin held answer new = ⊤

-- what no element of the macro names is left as it was
pub record LeavesUnnamed (promise : Promise) (old new : Kept) : Type 0 where
  pub nodes : List Node
  pub expanded : expansion promise.library promise.entry ≡ Ok nodes
  pub framed : LeavesFramed nodes old new

abbrev pub KeepsUnnamed : Promise → Stop → World → World → Type 0
KeepsUnnamed promise (stop.Ended n) old new = LeavesUnnamed promise old.kept new.kept
KeepsUnnamed promise answer old new = ⊤

-- the text is changed by whatever list has all that the elements of the macro can do
abbrev pub ChangesByElements : Promise → Stop → World → World → Type 0
ChangesByElements promise (stop.Ended n) old new =
    IsGot promise.library promise.entry (text_of old) (text_of new)
ChangesByElements promise answer old new = ⊤

-- The macro is called as the command machine does it, with an argument that it takes. Where it is ready, it is sure to
-- end within the printed number of commands, and at its end the files are as open as they were, no more is unread, the
-- text has got no longer, and no more bytes are typed, than is told, what no element of it names is as it was, and the
-- text is changed by no more than its elements can do.
pub record Calls (call : PromisedCall) (answer : Stop) (old new : World) : Type 0 where
  pub taken : TakesArgument call
  pub stops : Stops (start (call_text call.promise.entry call.given) old) MOST answer new
  pub sure : IsReady call.promise old → IsSure (value call.promise.commands (n_of old)) answer
  pub keeps : IsReady call.promise old → LeavesOpen answer old.files new.files
  pub grows :
      IsReady call.promise old → GrowsWithin (most_with call.promise.grows (n_of old) (held_of old)) answer new
  pub types :
      IsReady call.promise old
      → TypesWithin (most_with call.promise.types (n_of old) (length old.kept.typed)) answer new
  pub unnamed : IsReady call.promise old → KeepsUnnamed call.promise answer old new
  pub changed : IsReady call.promise old → ChangesByElements call.promise answer old new

-- the macro is called where the library is loaded first
abbrev pub Runs : PromisedCall → Stop → World → World → Type 0
Runs call answer old new = Calls call answer (loaded call.promise.library old) new

-- a file is needed and not open
abbrev pub IsMissing : {X : Type 0} → Bool → Option X → Type 0
IsMissing needed file = (needed ≡ true) × (file ≡ None)

abbrev pub IsThere : {X : Type 0} → Bool → Option X → Type 0
IsThere needed file = needed ≡ true → IsSome file

-- The files that it needs are open.
pub record HasFiles (needs : Needs) (held : Held) : Type 0 where
  pub input : IsThere needs.input held.input
  pub output : IsThere needs.output held.output

-- Whether the macro is run: not where a file is missing that it needs, the input first, nor with an argument that
-- it does not take.
abbrev pub Answers : {X : Type 0} → PromisedCall → Held → Result X NotReady → Type 0
Answers call held (Ok x) = HasFiles call.promise.needs held × TakesArgument call
Answers call held (Err NoInput) = IsMissing call.promise.needs.input held.input
Answers call held (Err NoOutput) =
    IsThere call.promise.needs.input held.input × IsMissing call.promise.needs.output held.output
Answers call held (Err Argument) = HasFiles call.promise.needs held × ¬ TakesArgument call
Answers call held (Err Memory) = HasFiles call.promise.needs held × TakesArgument call
