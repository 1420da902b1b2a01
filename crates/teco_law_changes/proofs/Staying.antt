-- Elements that leave the buffer, with the pointer and the last length; so what was found before stays found.
use Rattle.std.proofs.Common.{◌≡◌, ◌≢◌, ℕ, ℤ, pos, negsuc, neg_ℤ, zero, suc, ◌+◌, List, [], ◌∷◌, ◌++◌, length, refl}
use Rattle.std.proofs.Common.{sym, ap}
use Rattle.std.proofs.Common.{◌∙◌, subst, inl, inr, Option, Some, None, Result, Ok, Err, Bool, true, false, not}
use Rattle.std.specs.Prelude.{◌⊎◌, IfOk, ⊤, nat_le}
use Rattle.std.specs.Option.{ok_or}
use Rattle.std.specs.Prelude.{option_map, slice_get, unwrap_or}
use Rattle.teco_base.specs.Arithmetic.{byte_of, sub}
use Rattle.teco_base.specs.NumberText.{decimal}
use Rattle.teco_base.specs.Results.{◌>>=◌}
use Rattle.teco_base.specs.Text.{text_after_insertion}
use Rattle.teco_base.specs.declared.TheConstants.{LIMIT}
use Rattle.teco_base.specs.declared.bytes.TheConstants.{TAB}
use Rattle.teco_base.specs.declared.code.Code.{Code}
use Rattle.teco_base.specs.declared.code.Code.TheVariants as code
use Rattle.teco_changes.specs.Characters.{character_before, character_there, code_there}
use Rattle.teco_changes.specs.declared.argument.Side.{Side}
use Rattle.teco_changes.specs.declared.argument.Side.TheVariants.{At, Before}
use Rattle.teco_changes.specs.Nearby as near
use Rattle.teco_changes.specs.Nearby.{is_no_text}
use Rattle.teco_changes.specs.Nearby.{Found, HasValue, IsFound, IsNear, IsPending, JustFound, Known, Nearby, Nothing}
use Rattle.teco_changes.specs.Nearby.{Perhaps, Surely, Unreached}
use Rattle.teco_changes.specs.declared.argument.Pending.{Pending}
use Rattle.teco_changes.specs.declared.argument.Pending.TheVariants.{Asked, AskedLess, AskedMinus, Anything, Empty}
use Rattle.teco_changes.specs.declared.argument.Pending.TheVariants.{Length, Negative, Number, Place}
use Rattle.teco_changes.specs.Arguments.{IsSo}
use Rattle.teco_changes.specs.declared.argument.NumericArgument.{NumericArgument}
use Rattle.teco_changes.specs.declared.argument.NumericArgument.TheVariants as known
use Rattle.teco_law_changes.specs.Steps.{IsKnown, IsKnownNear, IsUnderway, Reads, StepsLeaveNear, colon_in}
use Rattle.teco_law_changes.proofs.Lasts.{near_before}
use Rattle.teco_law_changes.proofs.Numbers.{exact, known_before}
use Rattle.teco_law_changes.proofs.Results.{of_ok, onward, onward_any, onward_made, tested}
use Rattle.teco_law_changes.proofs.Searches.{FoundTold, IsSought, LookTold, first_look_is_told, look_is_told}
use Rattle.teco_law_changes.proofs.Searches.{search_is_told}
use Rattle.teco_law_changes.proofs.Sharper.{HasNumber, exactly_is_number, value_is_number}
use Rattle.teco_law_changes.proofs.Steps.{anything, still_looks}
use Rattle.teco_law_changes.proofs.Taking.{ends_so, taken_is, value_is}
use Rattle.teco_law_runs.specs.Steps.{IsLeftAt, is_long}
use Rattle.teco_law_runs.specs.Turns.{Took, Went}
use Rattle.teco_law_runs.specs.Was.{Answers, ElementWas, Finds, GoesOnFound, GoesOnMissed, OutcomeWas, SearchWas}
use Rattle.teco_law_runs.specs.Was.{StepWas}
use Rattle.teco_law_runs.specs.Was.{Turns, answer_where, finding, levels_searching, looking_on}
use Rattle.teco_model.specs.Arguments.{Arguments, arguments_of, final_value, first_value, level_after_comma, level_with}
use Rattle.teco_model.specs.Arguments.{level_with_operator, level_with_pair, levels_after_answer, levels_after_taking}
use Rattle.teco_model.specs.Arguments.{no_first, run_value, with_level}
use Rattle.teco_model.specs.Condition.{holds, is_negative}
use Rattle.teco_model.specs.Effect.{Effect, needed_value}
use Rattle.teco_model.specs.Deletion.{character_deletion, deletion_of, part_deletion}
use Rattle.teco_model.specs.Element.{Element}
use Rattle.teco_model.specs.Insertion.{insertion_of, insertion_with}
use Rattle.teco_model.specs.Flow.{Turn, leaves, turn_of}
use Rattle.teco_model.specs.Going.{After, Again, Along, Behind, Course, Into, NoFile, Quit, Refused, Reply, on_editor}
use Rattle.teco_model.specs.Going.{next_in, settle, settled}
use Rattle.teco_model.specs.Outside.{append_reply, page_reply}
use Rattle.teco_model.specs.Paging.{Looked, Met, Through, Turned, look_first, look_for, world_seeking}
use Rattle.teco_model.specs.Places.{characters_of, part_named, part_of, place_in}
use Rattle.teco_model.specs.Motion.{motion, motion_to, target}
use Rattle.teco_model.specs.Query.{query, query_with}
use Rattle.teco_model.specs.Registers.{registers_after_pop}
use Rattle.teco_model.specs.Search.{Finding, Missed, search, search_text_of}
use Rattle.teco_model.specs.Search.{Found as Finds_kept}
use Rattle.teco_model.specs.Searching.{has_colon}
use Rattle.teco_model.specs.State.{Frame, Frames, Kept, Next, State, World}
use Rattle.teco_model.specs.Step.{after_query_with, execution, level_with_value, levels_after, outcome_of, value_for}
unfoldable use Rattle.teco_model.specs.Step.{reply_of}
use Rattle.teco_model.specs.Storage.{own_text_storage, retrieval, stack, storage, text_in, text_setting, text_storage}
use Rattle.teco_model.specs.Typing.{typing}
use Rattle.teco_model.specs.declared.arguments.Level.{Level}
use Rattle.teco_model.specs.declared.arguments.Operator.{Operator}
use Rattle.teco_model.specs.declared.arguments.Operator.TheVariants.{Plus, Minus, Times, Over, And, Or}
use Rattle.teco_model.specs.declared.arguments.Taken.{Taken}
use Rattle.teco_model.specs.declared.kind.Argument.{Argument}
use Rattle.teco_model.specs.declared.kind.Argument.TheVariants.{DropAll, Digits, Operate, Open, Close, Comma}
use Rattle.teco_model.specs.declared.kind.Call.{Call}
use Rattle.teco_model.specs.declared.kind.Command.{Command}
use Rattle.teco_model.specs.declared.kind.Command.TheVariants as command
use Rattle.teco_model.specs.declared.kind.Flow.{Flow}
use Rattle.teco_model.specs.declared.kind.Flow.TheVariants as flow
use Rattle.teco_model.specs.declared.kind.Insertion.{Insertion}
use Rattle.teco_model.specs.declared.kind.Insertion.TheVariants as insertion_kind
use Rattle.teco_model.specs.declared.kind.Kind.{Kind}
use Rattle.teco_model.specs.declared.kind.Kind.TheVariants as kind
use Rattle.teco_model.specs.declared.kind.MachineValue.{MachineValue}
use Rattle.teco_model.specs.declared.kind.MachineValue.TheVariants.{Begin, Size, Pointer, Whole, LastLength, LastText}
use Rattle.teco_model.specs.declared.kind.Motion.{Motion}
use Rattle.teco_model.specs.declared.kind.Motion.TheVariants as motion_kind
use Rattle.teco_model.specs.declared.kind.Page.{Page}
use Rattle.teco_model.specs.declared.kind.Page.TheVariants as page
use Rattle.teco_model.specs.declared.kind.Query.{Query}
use Rattle.teco_model.specs.declared.kind.Query.TheVariants as query_kind
use Rattle.teco_model.specs.declared.kind.Search.{Search}
use Rattle.teco_model.specs.declared.kind.Search.TheVariants as search_kind
use Rattle.teco_model.specs.declared.kind.Stack.{Stack}
use Rattle.teco_model.specs.declared.kind.Stack.TheVariants as stack_kind
use Rattle.teco_model.specs.declared.kind.Storage.{Storage}
use Rattle.teco_model.specs.declared.kind.Storage.TheVariants as storage_kind
use Rattle.teco_model.specs.declared.kind.Test.{Test}
use Rattle.teco_model.specs.declared.kind.Test.TheVariants as test
use Rattle.teco_model.specs.declared.kind.Typing.{Typing}
use Rattle.teco_model.specs.declared.kind.Unit.{Unit as Counted}
use Rattle.teco_model.specs.declared.kind.Unit.TheVariants.{Characters, Lines}
use Rattle.teco_model.specs.declared.kind.Typing.TheVariants as typing_kind

-- ---- the buffer stays, with the pointer and the last length
pub record IsSame (old new : Kept) : Type 0 where
  pub text : new.text ≡ old.text
  pub pointer : new.pointer ≡ old.pointer
  pub long : new.last_length ≡ old.last_length

pub as_it_was : (kept : Kept) → IsSame kept kept
as_it_was kept = record { text = refl; pointer = refl; long = refl }

pub just : (wanted : List ℕ) (old new : Kept) → IsSame old new → JustFound wanted old → JustFound wanted new
just wanted old new same last = record {
  front = last.front;
  piece = last.piece;
  back = last.back;
  is = same.text ∙ last.is;
  ends = same.pointer ∙ last.ends;
  long = same.long ∙ last.long;
  matches = last.matches;
}

pub still_found : (found : Found) (before after : Level) (old new : Kept) → IsSame old new → IsFound found before old
    → IsFound (near.still found) after new
still_found Nothing before after old new same is = tt
still_found (Perhaps wanted) before after old new same is = tt
still_found (Surely wanted) before after old new same is = just wanted old new same is

pub found_same : (found : Found) (level : Level) (old new : Kept) → IsSame old new → IsFound found level old
    → IsFound found level new
found_same Nothing level old new same is = tt
found_same (Perhaps wanted) level old new same is = (is.0, is.1, λ some. just wanted old new same (is.2 some))
found_same (Surely wanted) level old new same is = just wanted old new same is

pub character_same : (side : Side) (old new : Kept) → IsSame old new
    → character_there side new ≡ character_there side old
character_same At old new same =
    ap (λ text. slice_get text new.pointer) same.text ∙ ap (λ place. slice_get old.text place) same.pointer
character_same Before old new same =
    ap (λ text. character_before text new.pointer) same.text
    ∙ ap (λ place. character_before old.text place) same.pointer

code_same : (side : Side) (old new : Kept) → IsSame old new → code_there side old ≡ code_there side new
code_same side old new same =
    ap (λ c. unwrap_or (option_map pos c) (negsuc 0)) (sym (character_same side old new same))

pub pending_same : (pending : Pending) (level : Level) (old new : Kept) → IsSame old new → IsPending pending level old
    → IsPending pending level new
pending_same Anything level old new same is = tt
pending_same Empty level old new same is = is
pending_same Negative level old new same is = is
pending_same (Number n) level old new same is = is
pending_same Length level old new same is =
    subst (λ n. HasValue (neg_ℤ (pos n)) level) (sym same.long) is
pending_same (Asked side) level old new same is =
    subst (λ n. HasValue n level) (code_same side old new same) is
pending_same (AskedLess side n) level old new same is =
    subst (λ c. HasValue (sub c n) level) (code_same side old new same) is
pending_same (AskedMinus side) level old new same is =
    subst (λ c. (level.operator ≡ Some Minus) × (level.value ≡ Some c)) (code_same side old new same) is
pending_same Place level old new same is = (
  subst (λ n. HasValue (pos n) level) (sym same.pointer) is.0,
  is.1
      ∙ ap (λ n. Some (near.last_begin (record old { pointer = n }))) (sym same.pointer)
      ∙ ap (λ n. Some (near.last_begin (record old { pointer = new.pointer; last_length = n }))) (sym same.long),
)

-- ---- commands
module _ (kept : Kept) where
  -- a command leaves the buffer
  abbrev pub Stays : Effect → Type 0
  Stays effect = IsSame kept effect.kept

  pub typings : (t : Typing) (e : Element) (taken : Taken) → IfOk (typing t e taken kept) Stays
  typings typing_kind.Part e taken = onward_any Stays (part_of taken kept) _
      (λ part is. record { text = refl; pointer = refl; long = refl })
  typings typing_kind.View e taken = record { text = refl; pointer = refl; long = refl }
  typings typing_kind.Message e taken = record { text = refl; pointer = refl; long = refl }
  typings typing_kind.Byte e taken = onward_any Stays (needed_value taken.value) _
      (λ n is. record { text = refl; pointer = refl; long = refl })
  typings (typing_kind.Number radix) e taken =
      onward_any Stays (needed_value taken.value) _ (λ n is. record { text = refl; pointer = refl; long = refl })

  set : (r : ℕ) (text : List ℕ) → IfOk (text_setting r text kept) Stays
  set r text = tested Stays (nat_le (length text) LIMIT) _ code.Ful
      (record { text = refl; pointer = refl; long = refl })

  put : (colons r : ℕ) (text : List ℕ) → IfOk (text_storage colons r text kept) Stays
  put zero r text = set r text
  put (suc colons) r text = set r (text_in r kept ++ text)

  put_own : (colons r : ℕ) (text : List ℕ) (value : Option ℤ) → IfOk (own_text_storage colons r text value kept) Stays
  put_own colons r text None = put colons r text
  put_own colons r text (Some n) = tt

  pub stacked : (k : Stack) → IfOk (stack k kept) (λ new. IsSame kept new)
  stacked (stack_kind.Push r) = record { text = refl; pointer = refl; long = refl }
  stacked (stack_kind.Pop r) =
      onward_any _ (ok_or (registers_after_pop r kept.registers) code.Pes) _
      (λ registers given. record { text = refl; pointer = refl; long = refl })

  retrieved_same : (colons r : ℕ) → is_no_text (storage_kind.Get r) colons ≡ true
      → IfOk (retrieval colons r kept) Stays
  retrieved_same zero r is = absurd cc
  retrieved_same (suc colons) r is = record { text = refl; pointer = refl; long = refl }

  pub stores_same : (s : Storage) (e : Element) (taken : Taken) → is_no_text s e.colons ≡ true
      → IfOk (storage s e taken kept) Stays
  stores_same (storage_kind.Get r) e taken is = retrieved_same e.colons r is
  stores_same (storage_kind.SetNumber r) e taken is =
      onward_any Stays (needed_value taken.value) _ (λ n given. record { text = refl; pointer = refl; long = refl })
  stores_same (storage_kind.Add r) e taken is = record { text = refl; pointer = refl; long = refl }
  stores_same (storage_kind.Copy r) e taken is =
      onward_any Stays (part_of taken kept) _ (λ part given. put e.colons r (characters_of part kept))
  stores_same (storage_kind.SetText r) e taken is = put_own e.colons r e.text taken.value

  module _ (found : Found) (before after : Level) (is : IsFound found before kept) where
    abbrev StillFinds : Effect → Type 0
    StillFinds effect = IsFound (near.still found) after effect.kept

    pub stays_on : (r : Result Effect Code) → IfOk r Stays → IfOk r StillFinds
    stays_on (Ok effect) same = still_found found before after kept effect.kept same is
    stays_on (Err c) same = tt

    retrieved : (colons r : ℕ)
        → IfOk (retrieval colons r kept)
        (λ effect. IsFound (near.found_storage (storage_kind.Get r) colons found) after effect.kept)
    retrieved zero r = anything _
    retrieved (suc colons) r = stays_on (retrieval (suc colons) r kept)
        (record { text = refl; pointer = refl; long = refl })

    stores : (s : Storage) (e : Element) (taken : Taken)
        → IfOk (storage s e taken kept) (λ effect. IsFound (near.found_storage s e.colons found) after effect.kept)
    stores (storage_kind.Get r) e taken = retrieved e.colons r
    stores (storage_kind.SetNumber r) e taken =
        stays_on _ (onward_any Stays (needed_value taken.value) _
        (λ n given. record { text = refl; pointer = refl; long = refl }))
    stores (storage_kind.Add r) e taken = stays_on (storage (storage_kind.Add r) e taken kept)
        (record { text = refl; pointer = refl; long = refl })
    stores (storage_kind.Copy r) e taken =
        stays_on _ (onward_any Stays (part_of taken kept) _ (λ part given. put e.colons r (characters_of part kept)))
    stores (storage_kind.SetText r) e taken = stays_on _ (put_own e.colons r e.text taken.value)

    pub executes : (c : Command) (e : Element) (taken : Taken)
        → IfOk (execution c e taken kept) (λ effect. IsFound (near.found_command c e.colons found) after effect.kept)
    executes (command.Typing t) e taken = stays_on _ (typings t e taken)
    executes (command.Storage s) e taken = stores s e taken
    executes (command.Motion m) e taken = anything _
    executes (command.Deletion unit) e taken = anything _
    executes (command.Insertion i) e taken = anything _

-- what a command leaves pending
