-- Where no iteration begins, none is open in what is known, and nothing falls: no facts are too large.
use Rattle.teco_check.proofs.Prelude.{◌≡◌, refl, sym, ap, ◌∙◌, subst, ℕ, zero, suc, ◌+◌, ◌-◌, ◌<◌, true, false, Bool}
use Rattle.teco_check.proofs.Prelude.{List, [], ◌∷◌, ◌++◌, length, drop, Option, Some, None, option_map, Result, Ok}
use Rattle.teco_check.proofs.Prelude.{Err, slice_get, unwrap_or, if◌then◌else◌, ◌==◌, ◌||◌, arith, list_any, Flow, Kind}
use Rattle.teco_check.proofs.Prelude.{Counted, Element, Node, Polynomial, RefusalReason, Value, ArgumentRange}
use Rattle.teco_check.proofs.Prelude.{facts_given}
use Rattle.teco_check.proofs.Prelude.{changes_in, ◌>>=◌, Choice, Changes, deletion_of, Facts, Edges, Shift, Foreseen}
use Rattle.teco_check.proofs.Prelude.{silent_behind, ending, along, begins_turn, begins_iteration, begins_by_kind}
use Rattle.teco_check.proofs.Prelude.{Chosen, Arrival, met, met_with, arriving, arrivals_behind, derived_at, chosen_for}
use Rattle.teco_check.proofs.Prelude.{NotDerived, AreLarge, Slots, arrivals_of, Table, no_node, node_at, begins}
use Rattle.std.proofs.Common.{map, IfOk}
use Rattle.std.proofs.Common.{slice_index_or, pos}
use Rattle.std.proofs.Math.Seq.{drop-nil}
use Rattle.std.proofs.lemmas.List.Elements.{All-nil}
use Rattle.teco_model.specs.declared.kind.Command.{Command}
use Rattle.teco_model.specs.declared.kind.Command.TheVariants as command
use Rattle.teco_model.specs.declared.kind.Flow.TheVariants as flow
use Rattle.teco_model.specs.declared.kind.Insertion.{Insertion}
use Rattle.teco_model.specs.declared.kind.Insertion.TheVariants as insert
use Rattle.teco_model.specs.declared.kind.Kind.TheVariants as kind
use Rattle.teco_model.specs.declared.kind.Motion.{Motion}
use Rattle.teco_model.specs.declared.kind.Motion.TheVariants as move
use Rattle.teco_model.specs.declared.kind.Page.{Page}
use Rattle.teco_model.specs.declared.kind.Page.TheVariants as page
use Rattle.teco_model.specs.declared.kind.Query.{Query}
use Rattle.teco_model.specs.declared.kind.Query.TheVariants as ask
use Rattle.teco_model.specs.declared.kind.Search.{Search}
use Rattle.teco_model.specs.declared.kind.Search.TheVariants as sought
use Rattle.teco_model.specs.declared.kind.Stack.{Stack}
use Rattle.teco_model.specs.declared.kind.Stack.TheVariants as pushing
use Rattle.teco_model.specs.declared.kind.Storage.{Storage}
use Rattle.teco_model.specs.declared.kind.Storage.TheVariants as store
use Rattle.teco_model.specs.declared.kind.Typing.{Typing}
use Rattle.teco_model.specs.declared.kind.Typing.TheVariants as type_
use Rattle.teco_model.specs.declared.kind.Unit.TheVariants as counted
use Rattle.teco_facts.specs.Numbers.{AreSmall, IsSmallFall}
use Rattle.teco_facts.specs.declared.few.TheConstants.{DEPTH}
use Rattle.teco_poly.specs.Polynomial.{number}
use Rattle.teco_verifier.specs.declared.refusal.RefusalReason.TheVariants as refusal
use Rattle.teco_verifier.specs.declared.values.Distances.{Distances}
use Rattle.teco_verifier.specs.declared.values.Interval.{Interval}
use Rattle.teco_verifier.specs.facts.Arguments.{KnownArguments, KnownTaken, needed_value, with_level, level_with}
use Rattle.teco_verifier.specs.facts.Arguments.{levels_after_taking, arguments_of}
use Rattle.teco_base.specs.declared.bytes.TheConstants.{TAB}
use Rattle.teco_verifier.specs.facts.Values.{interval_of}
use Rattle.teco_verifier.specs.facts.Deletions.{part_deletion, range_deletion, character_deletion}
use Rattle.teco_verifier.specs.facts.Facts.{Position, Answer, Pushed, with_arguments, sum_of, join_of, text_of}
use Rattle.teco_verifier.specs.facts.Facts.{nowhere}
use Rattle.teco_verifier.specs.facts.Flows.{leaving, turn_end, flow_edges, needed_taken, facts_taken}
use Rattle.teco_verifier.specs.facts.Flows.{leaving_numbers, without_value}
use Rattle.teco_verifier.specs.facts.Insertions.{insertion_with, insertion_of}
use Rattle.teco_verifier.specs.facts.Joins.{joined, joined_position, smaller_falls, none_pending, joined_pushes}
use Rattle.teco_verifier.specs.facts.Joins.{joined_lengths}
use Rattle.teco_verifier.specs.facts.Motions.{motion, motion_to, shift_or_saved, goes_to_saved, target}
use Rattle.teco_verifier.specs.facts.Motions.{perhaps_forward, goes_forward, count_of, shift_by_lines}
use Rattle.teco_verifier.specs.facts.Pages.{pages, append, turning, writing, some_pages}
use Rattle.teco_verifier.specs.facts.Queries.{facts_after_query, query_with, facts_at_query, value_for, past_number}
use Rattle.teco_verifier.specs.facts.Queries.{query}
use Rattle.teco_verifier.specs.facts.Searches.{facts_found, facts_failed, facts_of_answer, position_failed}
use Rattle.teco_verifier.specs.facts.Searches.{position_failed_in, shift_to_begin, minimum_of, shift_found}
use Rattle.teco_verifier.specs.facts.Searches.{facts_at_search, count_checked}
use Rattle.teco_verifier.specs.facts.Shifts.{shifted, facts_answered, position_after}
use Rattle.teco_verifier.specs.facts.Shifts.{fall_after, shift_to, moving}
use Rattle.teco_verifier.specs.facts.Storages.{storage, stack, with_popped, text_storage, own_text_storage, retrieval}
use Rattle.teco_verifier.specs.facts.Storages.{not_of_library, is_above}
use Rattle.teco_verifier.specs.facts.Transfer.{Placed, edges_of, search_edges, transfer, on, answer_for}
use Rattle.teco_verifier.specs.facts.Transfer.{without_answer, execution, after_taking, search_outcomes}
use Rattle.teco_verifier.specs.facts.Transfer.{search_allowed, facts_after_argument, levels_after, facts_after_value}
use Rattle.teco_verifier.specs.facts.Transfer.{level_with_value, facts_after_command, facts_after_page}
use Rattle.teco_verifier.specs.facts.Typings.{typing, part_named}
use Rattle.teco_verifier.specs.facts.Ways.{Numbers, Zero, NotZero, Negative, NotNegative, Positive, NotPositive, All}
use Rattle.teco_verifier.specs.facts.Ways.{way, position_of, position_by, may_take, raised, other, holding}
use Rattle.teco_verifier.specs.table.Behind.{edges_at, edges_behind, placed}
use Rattle.teco_verifier.specs.table.Deriving.{Derived, arrivals_at}
use Rattle.teco_verifier.specs.table.Deriving.{choice_of}
use Rattle.teco_check.specs.declared.derivation.NotDerived.TheVariants as fault
use Rattle.teco_check.specs.Derived.{IsLargeBy, IsNotLarge, known_of}
use Rattle.teco_check.specs.Kept.{AreKept}
use Rattle.teco_check.specs.Ways.{goes_on as goes_on_at}
use Rattle.teco_check.proofs.Arriving.{AreDerived, arrivals_before}
use Rattle.teco_check.proofs.Ways.{along_is, arriving_is}

-- what a result is, if it is not refused
binds : {X Y : Type 0} (P : Y → Type 0) (r : Result X RefusalReason) (f : X → Result Y RefusalReason)
    → ((x : X) → IfOk (f x) P)
    → IfOk (r >>= f) P
binds P (Ok x) f h = h x
binds P (Err why) f h = tt

binds_with : {X Y : Type 0} (Q : X → Type 0) (P : Y → Type 0) (r : Result X RefusalReason) (f : X
    → Result Y RefusalReason)
    → IfOk r Q → ((x : X) → Q x → IfOk (f x) P) → IfOk (r >>= f) P
binds_with Q P (Ok x) f q h = h x q
binds_with Q P (Err why) f q h = tt

if_allowed : {X : Type 0} (P : X → Type 0) (b : Bool) (x : X) (why : RefusalReason) → P x
    → IfOk (if b then Ok x else Err why) P
if_allowed P true x why p = p
if_allowed P false x why p = tt

-- nothing falls at a position
record IsStill (position : Position) : Type 0 where
  none : position.falls ≡ []

-- nor at those of an answer
abbrev AreStill : Option Answer → Type 0
AreStill None = Unit {0}
AreStill (Some answer) = IsStill answer.found × IsStill answer.failed

-- no iteration is open
record IsOutside (facts : Facts) : Type 0 where
  position : IsStill facts.position
  iterations : facts.iterations ≡ []
  answer : AreStill facts.answer

abbrev IsForeseen : Foreseen → Type 0
IsForeseen known = IsOutside known.facts

abbrev OutOr : Option Facts → Type 0
OutOr None = Unit {0}
OutOr (Some facts) = IsOutside facts

abbrev StillOr : Option Position → Type 0
StillOr None = Unit {0}
StillOr (Some position) = IsStill position

record AreOut (edges : Edges) : Type 0 where
  on : OutOr edges.on
  away : OutOr edges.away

-- what an element leaves
after_shift : (s : Shift) (held : Polynomial) (p : Position) → IsStill p → IsStill (position_after s held p)
after_shift s held p q = record { none = ap (map (fall_after s.fall)) q.none }

with_arguments_out : (arguments : KnownArguments) (facts : Facts) → IsOutside facts
    → IsOutside (with_arguments arguments facts)
with_arguments_out arguments facts o = record {
  position = record { none = o.position.none };
  iterations = o.iterations;
  answer = tt;
}

leaving_out : (count : ℕ) (facts : Facts) → IsOutside facts → IsOutside (leaving count facts)
leaving_out count facts o = record {
  position = record { none = ap (drop count) o.position.none ∙ drop-nil count };
  iterations = ap (drop count) o.iterations ∙ drop-nil count;
  answer = tt;
}

answered_out : (known : Foreseen) → IsForeseen known → IsOutside (facts_answered known)
answered_out known o = with_arguments_out _ known.facts o

module _ (facts : Facts) (o : IsOutside facts) where
  at_position_out : (p : Position) → IsStill p → IsOutside (record facts { position = p })
  at_position_out p q = record { position = q; iterations = o.iterations; answer = o.answer }

  shifted_out : (s : Shift) → IfOk (shifted s facts) IsOutside
  shifted_out s = binds IsOutside (sum_of facts.held s.growth) _
      (λ held. record {
        position = after_shift s held facts.position o.position;
        iterations = o.iterations;
        answer = o.answer;
      })

  silent_out : (s : Shift) → IfOk (silent_behind s facts) IsForeseen
  silent_out s = binds_with IsOutside IsForeseen (shifted s facts) _ (shifted_out s) (λ known q. q)

  motion_to_out : (m : Motion) (colons : ℕ) (n : Option Value) → IfOk (motion_to m colons n facts) IsForeseen
  motion_to_out m zero n = binds IsForeseen
      (shift_or_saved (goes_to_saved m n) (shift_to (target m n) facts.position.distances)) _
      (λ shift. silent_out shift)
  motion_to_out m (suc colons) n =
      let shift = perhaps_forward (goes_forward m (count_of n facts.position.distances)) in
      binds_with IsOutside IsForeseen (shifted shift facts) _ (shifted_out shift) (λ known q. q)

  motion_out : (m : Motion) (colons : ℕ) (taken : KnownTaken) → IfOk (motion m colons taken facts) IsForeseen
  motion_out move.Lines colons taken =
      silent_out (shift_by_lines None facts.position.distances (count_of taken.value facts.position.distances))
  motion_out m colons taken = motion_to_out m colons taken.value

  part_deletion_out : (first value : Option Value) → IfOk (part_deletion first value facts) IsForeseen
  part_deletion_out (Some m) (Some n) =
      binds IsForeseen (range_deletion m n facts.position.distances) _ (λ shift. silent_out (ending shift))
  part_deletion_out None value = silent_out
      (ending (shift_by_lines (Some (pos 0)) facts.position.distances (count_of value facts.position.distances)))
  part_deletion_out (Some m) None =
      silent_out
      (ending (shift_by_lines (Some (pos 0)) facts.position.distances (count_of None facts.position.distances)))

  deletion_out : (unit : Counted) (first value : Option Value) → IfOk (deletion_of unit first value facts) IsForeseen
  deletion_out counted.Characters (Some m) (Some n) = part_deletion_out (Some m) (Some n)
  deletion_out counted.Characters None value =
      binds IsForeseen (character_deletion facts.position.distances (count_of value facts.position.distances)) _
      (λ shift. silent_out (ending shift))
  deletion_out counted.Characters (Some m) None =
      binds IsForeseen (character_deletion facts.position.distances (count_of None facts.position.distances)) _
      (λ shift. silent_out (ending shift))
  deletion_out counted.Lines first value = part_deletion_out first value

  insertion_out : (i : Insertion) (text : List ℕ) (value : Option Value)
      → IfOk (insertion_with i text value facts) IsForeseen
  insertion_out insert.Text text None =
      silent_out (insertion_of (length text) (number (length text)) facts.position.distances)
  insertion_out insert.Text [] (Some n) = silent_out (insertion_of (1) (number (1)) facts.position.distances)
  insertion_out insert.Text (c ∷ text) (Some n) = tt
  insertion_out insert.Tab text None =
      silent_out (insertion_of (length (TAB ∷ text)) (number (length (TAB ∷ text))) facts.position.distances)
  insertion_out insert.Tab text (Some n) = tt

  typing_out : (t : Typing) (taken : KnownTaken) → IfOk (typing t taken facts) IsForeseen
  typing_out type_.Part taken = binds IsForeseen (part_named taken.first taken.value facts.position.distances) _
      (λ named. o)
  typing_out type_.View taken = o
  typing_out type_.Message taken = o
  typing_out type_.Byte taken = binds IsForeseen (needed_value taken.value) _ (λ n. o)
  typing_out (type_.Number radix) taken = binds IsForeseen (needed_value taken.value) _ (λ n. o)

  kept_out : (numbers : List Interval) (saved : List Bool) (texts : List Polynomial) (pushes : List Pushed)
      → IsOutside (record facts {
        position = record facts.position { saved = saved };
        numbers = numbers;
        texts = texts;
        pushes = pushes;
      })
  kept_out numbers saved texts pushes =
      record { position = record { none = o.position.none }; iterations = o.iterations; answer = o.answer }

  text_storage_out : (colons r : ℕ) (length : Polynomial) → IfOk (text_storage colons r length facts) IsForeseen
  text_storage_out zero r length = kept_out _ _ _ _
  text_storage_out (suc colons) r length =
      binds IsForeseen (sum_of (text_of r facts) length) _ (λ sum. kept_out _ _ _ _)

  own_text_out : (library : Bool) (colons r : ℕ) (text : List ℕ) (value : Option Value)
      → IfOk (own_text_storage library colons r text value facts) IsForeseen
  own_text_out library colons r text None =
      binds IsForeseen (not_of_library library) _ (λ free. text_storage_out colons r (number (length text)))
  own_text_out library colons r text (Some n) = tt

  retrieval_out : (colons r : ℕ) → IfOk (retrieval colons r facts) IsForeseen
  retrieval_out zero r = silent_out (insertion_of 0 (text_of r facts) facts.position.distances)
  retrieval_out (suc colons) r = o

  storage_out : (s : Storage) (library : Bool) (colons : ℕ) (text : List ℕ) (taken : KnownTaken)
      → IfOk (storage s library colons text taken facts) IsForeseen
  storage_out (store.SetNumber r) library colons text taken =
      binds IsForeseen (needed_value taken.value) _ (λ n. kept_out _ _ _ _)
  storage_out (store.Add r) library colons text taken = kept_out _ _ _ _
  storage_out (store.Copy r) library colons text taken =
      binds IsForeseen (part_named taken.first taken.value facts.position.distances) _
      (λ named. binds IsForeseen (not_of_library library) _ (λ free. text_storage_out colons r facts.held))
  storage_out (store.SetText r) library colons text taken = own_text_out library colons r text taken.value
  storage_out (store.Get r) library colons text taken = retrieval_out colons r

  popped_out : (r : ℕ) (pushes : List Pushed) → IfOk (with_popped r pushes facts) IsOutside
  popped_out r [] = tt
  popped_out r (pair ∷ pushes) = if_allowed IsOutside (is_above (pair ∷ pushes) facts.iterations) _ refusal.Pop
      (kept_out _ _ _ _)

  stack_out : (s : Stack) (library : Bool) → IfOk (stack s library facts) IsOutside
  stack_out (pushing.Push r) library = kept_out _ _ _ _
  stack_out (pushing.Pop r) library = binds IsOutside (not_of_library library) _ (λ free. popped_out r facts.pushes)

  append_out : (value : Option Value) → IfOk (append value facts) IsForeseen
  append_out None = silent_out (moving facts.position.distances (Some (pos 0)))
  append_out (Some n) = o

  turning_out : (first value : Option Value) → IfOk (turning first value facts) IsForeseen
  turning_out (Some m) (Some n) = binds IsForeseen (part_named (Some m) (Some n) facts.position.distances) _
      (λ named. o)
  turning_out None value = binds IsForeseen (some_pages (count_of value facts.position.distances)) _
      (λ some. silent_out (ending (moving nowhere (Some (pos 0)))))
  turning_out (Some m) None = binds IsForeseen (some_pages (count_of None facts.position.distances)) _
      (λ some. silent_out (ending (moving nowhere (Some (pos 0)))))

  writing_out : (first value : Option Value) → IfOk (writing first value facts) IsForeseen
  writing_out (Some m) (Some n) = binds IsForeseen (part_named (Some m) (Some n) facts.position.distances) _
      (λ named. o)
  writing_out None value = binds IsForeseen (some_pages (count_of value facts.position.distances)) _ (λ some. o)
  writing_out (Some m) None = binds IsForeseen (some_pages (count_of None facts.position.distances)) _ (λ some. o)

  pages_out : (p : Page) (taken : KnownTaken) → IfOk (pages p taken facts) IsForeseen
  pages_out page.Append taken = append_out taken.value
  pages_out page.Next taken = turning_out taken.first taken.value
  pages_out page.Write taken = writing_out taken.first taken.value
  pages_out page.Yank taken = tt

  execution_out : (c : Command) (x : Placed) (taken : KnownTaken) → IfOk (execution c x taken facts) IsForeseen
  execution_out (command.Motion m) x taken = motion_out m x.element.colons taken
  execution_out (command.Deletion unit) x taken = deletion_out unit taken.first taken.value
  execution_out (command.Insertion i) x taken = insertion_out i x.element.text taken.value
  execution_out (command.Typing t) x taken = typing_out t taken
  execution_out (command.Storage s) x taken = storage_out s x.library x.element.colons x.element.text taken

  at_query_out : (q : Query) → IfOk (facts_at_query q facts) IsOutside
  at_query_out ask.Conversion = shifted_out (past_number facts.position.distances)
  at_query_out (ask.Number r) = o
  at_query_out ask.Mode = o

  query_with_out : (q : Query) → IfOk (query_with q facts) IsForeseen
  query_with_out (ask.Number r) = o
  query_with_out ask.Mode = o
  query_with_out ask.Conversion = silent_out (insertion_of 1 (number 11) facts.position.distances)

  failed_in_still : (colons : ℕ) → IsStill (position_failed_in colons facts)
  failed_in_still zero = after_shift (shift_to_begin facts.position.distances) facts.held facts.position o.position
  failed_in_still (suc zero) = after_shift (shift_to_begin facts.position.distances) facts.held facts.position
      o.position
  failed_in_still (suc (suc colons)) = o.position

  failed_still : (s : Search) (colons : ℕ) → IsStill (position_failed s colons facts)
  failed_still sought.FindInPages colons =
      after_shift (ending (moving nowhere None)) facts.held facts.position o.position
  failed_still sought.ReplaceInPages colons =
      after_shift (ending (moving nowhere None)) facts.held facts.position o.position
  failed_still sought.Find colons = failed_in_still colons
  failed_still sought.Replace colons = failed_in_still colons

  found_out : (s : Search) (e : Element) → IfOk (facts_found s e facts) IsOutside
  found_out s e = binds IsOutside (minimum_of e.text) _
      (λ least. shifted_out (shift_found s least (length e.second) facts.position.distances))

-- what takes its arguments first
taking_out : (act : KnownTaken → Facts → Result Foreseen RefusalReason) (facts : Facts) → IsOutside facts
    → ((taken : KnownTaken) (known : Facts) → IsOutside known → IfOk (act taken known) IsForeseen)
    → IfOk (after_taking act facts) IsOutside
taking_out act facts o h =
    let after = with_arguments (levels_after_taking facts.arguments) facts in
    binds IsOutside (arguments_of facts.arguments.level) _
    (λ taken. binds_with IsForeseen IsOutside (act taken after) _
    (h taken after (with_arguments_out (levels_after_taking facts.arguments) facts o))
    (λ known q. answered_out known q))

query_out : (q : Query) (colons : ℕ) (value : Option Value) (facts : Facts) → IsOutside facts
    → IfOk (facts_after_query q colons value facts) IsOutside
query_out q colons None facts o = binds_with IsOutside IsOutside (facts_at_query q facts) _ (at_query_out facts o q)
    (λ known p. binds IsOutside (with_level known.arguments
    (level_with known.position.distances (query q colons facts) known.arguments.level)) _
    (λ arguments. with_arguments_out arguments known p))
query_out q colons (Some s) facts o =
    let after = with_arguments (levels_after_taking facts.arguments) facts in
    binds_with IsForeseen IsOutside (query_with q after) _
    (query_with_out after (with_arguments_out (levels_after_taking facts.arguments) facts o) q)
    (λ known p. answered_out known p)

-- where ways meet
smaller_still : (p q : Position) → IsStill p → smaller_falls p.falls q.falls ≡ []
smaller_still p q h = ap (λ falls. smaller_falls falls q.falls) h.none

joined_still : (p q : Position) → IsStill p → IfOk (joined_position p q) IsStill
joined_still p q h = binds IsStill (join_of p.ahead q.ahead) _ (λ ahead. record { none = smaller_still p q h })

of_answer_out : (found failed : Facts) → IsOutside found → IsOutside failed
    → IfOk (facts_of_answer found failed) IsOutside
of_answer_out found failed o p = binds_with IsStill IsOutside (joined_position found.position failed.position) _
    (joined_still found.position failed.position o.position)
    (λ position q. record { position = q; iterations = o.iterations; answer = (o.position, p.position) })

joined_out : (facts others : Facts) → IsOutside facts → IfOk (joined facts others) IsOutside
joined_out facts others o =
    binds IsOutside (none_pending facts.arguments) _ (λ one.
    binds IsOutside (none_pending others.arguments) _ (λ two.
    binds IsOutside (joined_pushes facts.pushes others.pushes) _ (λ pushes.
    binds_with IsStill IsOutside (joined_position facts.position others.position) _
    (joined_still facts.position others.position o.position) (λ position q.
    binds IsOutside (join_of facts.held others.held) _ (λ held.
    binds IsOutside (joined_lengths facts.texts others.texts) _
    (λ texts. record { position = q; iterations = o.iterations; answer = tt }))))))

-- edges
on_out : (r : Result Facts RefusalReason) → IfOk r IsOutside → IfOk (on r) AreOut
on_out r h = binds_with IsOutside AreOut r _ h (λ facts o. record { on = o; away = tt })

outcomes_out : (colon : Bool) (found failed : Facts) → IsOutside found → IsOutside failed
    → IfOk (search_outcomes colon found failed) AreOut
outcomes_out true found failed o p = on_out (facts_of_answer found failed) (of_answer_out found failed o p)
outcomes_out false found failed o p = record { on = o; away = leaving_out 1 failed p }

at_search_out : (s : Search) (facts : Facts) → IsOutside facts → IfOk (facts_at_search s facts) IsOutside
at_search_out s facts o = binds IsOutside (arguments_of facts.arguments.level) _
    (λ taken. binds IsOutside (count_checked s taken.first taken.value facts.position.distances) _
    (λ counted. with_arguments_out (levels_after_taking facts.arguments) facts o))

search_out : (s : Search) (x : Placed) (facts : Facts) → IsOutside facts → IfOk (search_edges s x facts) AreOut
search_out s x facts o =
    binds_with IsOutside AreOut (facts_at_search s facts) _ (at_search_out s facts o) (λ taken p.
    binds AreOut (search_allowed x.inside x.colon) _ (λ allowed.
    binds_with IsOutside AreOut (facts_found s x.element taken) _ (found_out taken p s x.element) (λ found q.
    outcomes_out x.colon found (facts_failed s x.element.colons taken) q
    (at_position_out taken p (position_failed s x.element.colons taken)
    (failed_still taken p s x.element.colons)))))

-- on the ways of a test
moved_still : (p : Position) → IsStill p → (d : Option Distances)
    → StillOr (option_map (λ distances. record p { distances = distances }) d)
moved_still p q None = tt
moved_still p q (Some d) = record { none = q.none }

perhaps_still : (b : Bool) (p : Option Position) → StillOr p → StillOr (if b then p else None)
perhaps_still true p q = q
perhaps_still false p q = tt

by_answer_still : (n : Numbers) (answer : Answer) (p : Position) → AreStill (Some answer) → IsStill p
    → StillOr (position_of n answer p)
by_answer_still Zero answer p a q = a.1
by_answer_still NotZero answer p a q = a.0
by_answer_still Negative answer p a q = a.0
by_answer_still NotNegative answer p a q = a.1
by_answer_still Positive answer p a q = tt
by_answer_still NotPositive answer p a q = q
by_answer_still All answer p a q = q

position_still : (n : Numbers) (answer : Option Answer) (s : Value) (p : Position) → AreStill answer → IsStill p
    → StillOr (position_by n answer s p)
position_still n None s p a q =
    perhaps_still (may_take n (interval_of p.distances s)) _ (moved_still p q (raised n s p.distances))
position_still n (Some answer) s p a q = by_answer_still n answer p a q

placed_out : (facts : Facts) → IsOutside facts → (p : Option Position) → StillOr p
    → OutOr (option_map (λ position. record facts { position = position }) p)
placed_out facts o None q = tt
placed_out facts o (Some p) q = at_position_out facts o p q

way_out : (n : Numbers) (answer : Option Answer) (s : Value) (facts : Facts) → AreStill answer → IsOutside facts
    → OutOr (way n answer s facts)
way_out n answer s facts a o = placed_out facts o (position_by n answer s facts.position)
    (position_still n answer s facts.position a o.position)

left_out : (known : Option Facts) → OutOr known → OutOr (option_map (leaving 1) known)
left_out None o = tt
left_out (Some facts) o = leaving_out 1 facts o

flow_out : (f : Flow) (colons leaves : ℕ) (answer : Option Answer) (facts : Facts)
    → begins_by_kind (kind.Flow f) ≡ false → AreStill answer → IsOutside facts
    → IfOk (flow_edges f colons leaves answer facts) AreOut
flow_out flow.Iterate colons leaves answer facts b a o = absurd (cc)
flow_out flow.EndTurn colons leaves answer facts b a o =
    subst (λ iterations. IfOk (turn_end iterations facts) AreOut) (sym o.iterations) tt
flow_out flow.Leave colons leaves answer facts b a o = binds AreOut (needed_taken facts) _ (λ n.
    let p = with_arguments_out (levels_after_taking facts.arguments) facts o in record {
      on = way_out (other (leaving_numbers colons)) answer n (facts_taken facts) a p;
      away = left_out (way (leaving_numbers colons) answer n (facts_taken facts))
          (way_out (leaving_numbers colons) answer n (facts_taken facts) a p);
    })
flow_out (flow.Test test) colons leaves answer facts b a o = binds AreOut (needed_taken facts) _ (λ n.
    let p = with_arguments_out (levels_after_taking facts.arguments) facts o in record {
      on = way_out (holding test) answer n (facts_taken facts) a p;
      away = way_out (other (holding test)) answer n (facts_taken facts) a p;
    })
flow_out flow.Otherwise colons leaves answer facts b a o = record { on = tt; away = o }
flow_out flow.EndTest colons leaves answer facts b a o = record { on = o; away = tt }
flow_out flow.GoTo colons leaves answer facts b a o =
    binds AreOut (arguments_of facts.arguments.level) _
    (λ taken. binds AreOut (without_value taken.value) _
    (λ alone. record { on = tt; away = leaving_out leaves facts o }))
flow_out flow.Comment colons leaves answer facts b a o = record { on = o; away = tt }
flow_out (flow.GoAhead g) colons leaves answer facts b a o = record { on = tt; away = o }

edges_out : (k : Kind) (x : Placed) (answer : Option Answer) (facts : Facts) → begins_by_kind k ≡ false
    → AreStill answer → IsOutside facts → IfOk (edges_of k x answer facts) AreOut
edges_out (kind.Argument a) x answer facts b s o =
    on_out (facts_after_argument a x.element.text facts)
    (binds IsOutside (levels_after a x.element.text facts.position.distances facts.arguments) _
    (λ arguments. with_arguments_out arguments facts o))
edges_out (kind.Value v) x answer facts b s o =
    on_out (facts_after_value v facts)
    (binds IsOutside (with_level facts.arguments (level_with_value v facts.position.distances facts.arguments.level)) _
    (λ arguments. with_arguments_out arguments facts o))
edges_out (kind.Query q) x answer facts b s o =
    on_out (facts_after_query q x.element.colons (value_for q x.element.colons facts.arguments.level) facts)
    (query_out q x.element.colons (value_for q x.element.colons facts.arguments.level) facts o)
edges_out (kind.Stack t) x answer facts b s o = on_out (stack t x.library facts) (stack_out facts o t x.library)
edges_out (kind.Call c) x answer facts b s o = record { on = o; away = tt }
edges_out (kind.Flow f) x answer facts b s o = flow_out f x.element.colons x.leaves answer facts b s o
edges_out (kind.Command c) x answer facts b s o =
    on_out (facts_after_command c x facts)
    (taking_out (execution c x) facts o (λ taken known p. execution_out known p c x taken))
edges_out (kind.Page p) x answer facts b s o =
    on_out (facts_after_page p facts) (taking_out (pages p) facts o (λ taken known q. pages_out known q p taken))
edges_out (kind.Search t) x answer facts b s o = search_out t x facts o
edges_out (kind.File f) x answer facts b s o = binds AreOut (arguments_of facts.arguments.level) _ (λ taken. tt)

answered_still : (k : Kind) (facts : Facts) → IsOutside facts → AreStill (answer_for k facts)
answered_still (kind.Flow flow.Leave) facts o = o.answer
answered_still (kind.Flow (flow.Test test)) facts o = o.answer
answered_still k facts o = tt

no_answer_out : (facts : Facts) → IsOutside facts → IsOutside (without_answer facts)
no_answer_out facts o = record { position = o.position; iterations = o.iterations; answer = tt }

behind_out : (nodes : List Node) (node : Node) (read : Option Element) (facts : Facts) → begins_iteration read ≡ false
    → IsOutside facts → IfOk (edges_behind nodes node read facts) AreOut
unfolding transfer
behind_out nodes node None facts b o = record { on = no_answer_out facts o; away = tt }
behind_out nodes node (Some e) facts b o =
    edges_out e.kind (placed nodes node e) (answer_for e.kind facts) (without_answer facts) b
    (answered_still e.kind facts o) (no_answer_out facts o)

-- what arrives behind a node
chosen_out : (b : Bool) (one other : Option Facts) → OutOr one → OutOr other → OutOr (if b then one else other)
chosen_out true one other o p = o
chosen_out false one other o p = p

along_out : (read : Option Element) (at : ℕ) (edges : Edges) → AreOut edges → OutOr (along read at edges)
along_out None at edges o = o.on
along_out (Some e) at edges o =
    rw (along_is e at edges) (chosen_out (goes_on_at e.kind (at == 0)) edges.on edges.away o.on o.away)

arriving_out : (changes : Changes) (choice : Option Choice) (read : Option Element) (at : ℕ) (edges : Edges)
    → begins_iteration read ≡ false → AreOut edges → OutOr (arriving changes choice read at edges)
arriving_out changes choice read at edges b o =
    rw (
      arriving_is changes choice read at edges,
      b,
    ) (chosen_out (begins_turn read at) None (along read at edges) tt (along_out read at edges o))

abbrev AllOut : List Arrival → Type 0
AllOut [] = Unit {0}
AllOut (arrival ∷ arrivals) = IsOutside arrival.facts × AllOut arrivals

all_out_more : (first second : List Arrival) → AllOut first → AllOut second → AllOut (first ++ second)
all_out_more [] second o p = p
all_out_more (a ∷ first) second o p = (o.0, all_out_more first second o.1 p)

arrival_out : (target : ℕ) (known : Option Facts) → OutOr known → AllOut (arrivals_at target known)
arrival_out target None o = tt
arrival_out target (Some facts) o = (o, tt)

arrivals_out : (changes : Changes) (choice : Option Choice) (read : Option Element) (at : ℕ) (ways : List ℕ)
    (edges : Edges) → begins_iteration read ≡ false → AreOut edges
    → AllOut (arrivals_behind changes choice read at ways edges)
arrivals_out changes choice read at [] edges b o = tt
arrivals_out changes choice read at (target ∷ targets) edges b o =
    all_out_more (arrivals_at target (arriving changes choice read at edges)) _
    (arrival_out target (arriving changes choice read at edges) (arriving_out changes choice read at edges b o))
    (arrivals_out changes choice read (suc at) targets edges b o)

abbrev HasArrivalsOut : Derived → Type 0
HasArrivalsOut derived = AllOut derived.arrivals

derived_out : (nodes : List Node) (chosen : List Chosen) (number : ℕ) (node : Node) (known : Option Facts)
    → begins node ≡ false → OutOr known → IfOk (derived_at nodes chosen number node known) HasArrivalsOut
derived_out nodes chosen number node None b o = tt
derived_out nodes chosen number node (Some facts) b o =
    binds_with AreOut HasArrivalsOut (edges_at nodes node facts) _ (behind_out nodes node node.element facts b o)
    (λ edges p. arrivals_out (changes_in nodes number) (option_map (choice_of facts) (chosen_for number chosen))
    node.element 0 node.ways edges b p)

-- what is known where edges meet
met_with_out : (known : Option Facts) (facts : Facts) → OutOr known → IsOutside facts
    → IfOk (met_with known facts) OutOr
met_with_out None facts o p = p
met_with_out (Some others) facts o p = binds_with IsOutside OutOr (joined others facts) _ (joined_out others facts o)
    (λ join q. q)

if_met : (b : Bool) (one other : Result (Option Facts) RefusalReason) → IfOk one OutOr → IfOk other OutOr
    → IfOk (if b then one else other) OutOr
if_met true one other o p = o
if_met false one other o p = p

met_out : (number : ℕ) (arrivals : List Arrival) (known : Option Facts) → AllOut arrivals → OutOr known
    → IfOk (met number arrivals known) OutOr
met_out number [] known a o = o
met_out number (arrival ∷ arrivals) known a o =
    if_met (arrival.target == number) _ (met number arrivals known)
    (binds_with OutOr OutOr (met_with known arrival.facts) _ (met_with_out known arrival.facts o a.0)
    (λ more p. met_out number arrivals more a.1 p)) (met_out number arrivals known a.1 o)

none_begins : (nodes : List Node) (k : ℕ) → list_any begins nodes ≡ false
    → begins (unwrap_or (slice_get nodes k) no_node) ≡ false
none_begins [] k h = refl
none_begins (node ∷ nodes) zero h = first_of_any (begins node) (list_any begins nodes) h
  where
    first_of_any : (a b : Bool) → (a || b) ≡ false → a ≡ false
    first_of_any true b e = e
    first_of_any false b e = refl
none_begins (node ∷ nodes) (suc k) h = none_begins nodes k (rest_of_any (begins node) (list_any begins nodes) h)
  where
    rest_of_any : (a b : Bool) → (a || b) ≡ false → b ≡ false
    rest_of_any true b e = absurd (cc)
    rest_of_any false b e = e

arrivals_of_out : (r : Result Derived RefusalReason) → IfOk r HasArrivalsOut → AllOut (arrivals_of r)
arrivals_of_out (Ok derived) o = o
arrivals_of_out (Err why) o = tt

begun_out : (argument : Option ArgumentRange) → IsOutside (facts_given argument)
begun_out None = record { position = record { none = refl }; iterations = refl; answer = tt }
begun_out (Some range) = record { position = record { none = refl }; iterations = refl; answer = tt }

module _ (argument : Option ArgumentRange) (nodes : List Node) (chosen : List Chosen)
    (none : list_any begins nodes ≡ false) where
  before_out : (k : ℕ) → AllOut (arrivals_before argument nodes chosen k)
  unfolding arrivals_before node_at
  before_out zero = (begun_out argument, tt)
  before_out (suc k) =
      let before = before_out k in
      all_out_more (arrivals_before argument nodes chosen k) _ before
      (arrivals_of_out _ (binds_with OutOr HasArrivalsOut (met (suc k) (arrivals_before argument nodes chosen k) None) _
      (met_out (suc k) (arrivals_before argument nodes chosen k) None before tt)
      (λ known o. derived_out nodes chosen (suc k) (node_at nodes (suc k)) known (none_begins nodes k none) o)))

-- what is known outside of iterations is kept
kept : (facts : Facts) → IsOutside facts → AreKept facts
kept facts o = record {
  small = subst AreSmall (sym o.position.none) (All-nil IsSmallFall);
  room = record {
    falls = subst (λ fs. length fs < DEPTH) (sym o.position.none) (omega arith);
    iterations = subst (λ is. length is < DEPTH) (sym o.iterations) (omega arith);
  };
}

not_large : (known : Result (Option Facts) RefusalReason) → IfOk known OutOr → AreLarge (known_of known) → ⊥
not_large (Err why) o l = l
not_large (Ok None) o l = l
not_large (Ok (Some facts)) o l = l (kept facts o)

pub row_small : (argument : Option ArgumentRange) (nodes : List Node) (chosen : List Chosen) (k : ℕ) (slots : Slots)
    (table : Table) (why : NotDerived) → k < length nodes → list_any begins nodes ≡ false
    → AreDerived argument nodes chosen k slots table
    → IsLargeBy (known_of (slice_index_or slots (k + 1 - 1) (Ok None))) (Err why) → IsNotLarge (Err why)
row_small argument nodes chosen k slots table (fault.Large node) h none a l =
    let same : k + 1 - 1 ≡ k = omega arith in
    let met_here = a.met.each k (omega arith) h in
    not_large (met (suc k) (arrivals_before argument nodes chosen k) None)
    (met_out (suc k) (arrivals_before argument nodes chosen k) None (before_out argument nodes chosen none k) tt)
    (subst (λ slot. AreLarge (known_of slot)) met_here
    (subst (λ n. AreLarge (known_of (slice_index_or slots n (Ok None)))) same l))
row_small argument nodes chosen k slots table (fault.Refused why node) h none a l = tt
row_small argument nodes chosen k slots table fault.Memory h none a l = tt
