-- The laws of elements that go on behind themselves.
use Rattle.teco_law_facts.proofs.Prelude.{◌≡◌, ℕ, zero, suc, ◌+◌, ◌≤◌, arith, w32, refl, ℤ, pos, neg_ℤ, List, [], ◌∷◌}
use Rattle.teco_law_facts.proofs.Prelude.{length, drop, Option, Some, None, Result, Ok, Err, Bool, true, false, cond}
use Rattle.teco_law_facts.proofs.Prelude.{IfOk, ok_or, ints, SFits-int_wrap, Code, number_at, Effect, Pair, Kept, After}
use Rattle.teco_law_facts.proofs.Prelude.{after, Level, Operator, Taken, Query, Polynomial, value, KnownLevel}
use Rattle.teco_law_facts.proofs.Prelude.{KnownArguments, KnownTaken, ◌>>=◌, Run, IsWhole, Holds, Describes, ArePushed}
use Rattle.teco_law_facts.proofs.Prelude.{IsLevel, IsTaken, IsOptional, ArePending, fore_of, back_of, Facts, Pushed}
use Rattle.teco_law_facts.proofs.Prelude.{with_arguments, Foreseen, facts_answered, facts_behind, Leads, Fits, Arrives}
use Rattle.teco_law_facts.proofs.Prelude.{FitsOn, ArrivesOn, Placed, single, value_in, size, IsValue}
use Rattle.teco_law_facts.proofs.Prelude.{any_number, RefusalReason, Value}
use Rattle.teco_base.specs.declared.code.Code.TheVariants as code
use Rattle.teco_model.specs.Arguments as model
use Rattle.teco_model.specs.Registers.{registers_without_top}
use Rattle.teco_model.specs.Step as step
use Rattle.teco_model.specs.declared.kind.Argument.{Argument}
use Rattle.teco_model.specs.declared.kind.Argument.TheVariants.{DropAll, Digits, Operate, Open, Close, Comma}
use Rattle.teco_model.specs.declared.kind.Command.{Command}
use Rattle.teco_model.specs.declared.kind.Command.TheVariants as command
use Rattle.teco_model.specs.declared.kind.Query.TheVariants as query
use Rattle.teco_model.specs.declared.kind.Stack.{Stack}
use Rattle.teco_model.specs.declared.kind.Stack.TheVariants as stack
use Rattle.teco_model.specs.declared.kind.MachineValue.{MachineValue as Given}
use Rattle.teco_model.specs.declared.kind.MachineValue.TheVariants.{Begin, Size, Pointer, Whole, LastLength, LastText}
use Rattle.teco_law_facts.proofs.Asking.{interval_value, query_foretold, number_is, length_is, mode_is, past}
use Rattle.teco_model.proofs.Bytes.{number_fits}
use Rattle.teco_law_facts.proofs.Deletion.{deletion_foretold}
use Rattle.teco_law_facts.proofs.Insertion.{insertion_foretold}
use Rattle.teco_law_facts.proofs.Motion.{motion_foretold, size_in, pointer_in}
use Rattle.teco_law_facts.proofs.Numbers.{AreDistances, any_within}
use Rattle.teco_law_facts.proofs.Pending.{settled_are, give_covers, give_both_covers, operate_covers, comma_covers}
use Rattle.teco_law_facts.proofs.Pending.{closed_covers, at_level_covers, taken_covers, nothing_is, opened_is}
use Rattle.teco_law_facts.proofs.Pending.{single_in, empty_is}
use Rattle.teco_law_facts.proofs.Registers.{storage_foretold, typing_foretold, pushed_holds, popped_holds}
use Rattle.teco_law_facts.proofs.Near.{distances}
use Rattle.teco_law_facts.proofs.Shapes.{IsDone, Foretells, shifted_holds, value-sum_of}
use Rattle.teco_law_facts.proofs.Steps.{by_kind, Covers}
use Rattle.teco_law_facts.proofs.Leading.{covers_leads, leads_on}
use Rattle.teco_verifier.specs.facts.Arguments as known
use Rattle.teco_verifier.specs.facts.Queries as row
use Rattle.teco_law_facts.specs.SoundElements.{IsNamedByCommand}
use Rattle.teco_law_facts.specs.SoundElements.{ArgumentsAreSound, ValuesAreSound, CommandsAreSound, QueriesAreSound}
use Rattle.teco_law_facts.specs.SoundElements.{StacksAreSound}
use Rattle.teco_verifier.specs.facts.Storages as storages
use Rattle.teco_verifier.specs.facts.Transfer as transfers
use Rattle.teco_verifier.specs.declared.refusal.RefusalReason.TheVariants as refusal

-- the edge that goes on
on_leads : (run : Run) (facts : Facts) (unread : ℕ) (kept : Kept) (r : Result Facts RefusalReason)
    (c : Result After Code)
    → Leads (Fits run.n) (Arrives run facts.held unread kept) r c
    → Leads (FitsOn run.n) (ArrivesOn run facts.held unread kept) (transfers.on r) c
on_leads run facts unread kept (Ok next) c h = h
on_leads run facts unread kept (Err why) c h = tt

-- where more was read first
keeps_on : (run : Run) (facts read : Facts) (unread : ℕ) (kept new : Kept) (x : Result Facts RefusalReason)
    (y : Result After Code) → value facts.held run.n ≤ value read.held run.n → length new.text ≤ length kept.text
    → Leads (Fits run.n) (Arrives run read.held unread new) x y
    → Leads (Fits run.n) (Arrives run facts.held unread kept) x y
keeps_on run facts read unread kept new (Ok next) (Ok p) m n h = λ l. let i = h l in
    record { described = i.described; grown = omega (arith, i.grown) }
keeps_on run facts read unread kept new (Ok next) (Err c) m n h = h
keeps_on run facts read unread kept new (Err e) y m n h = tt

-- other arguments, and no answer
pub pending_again : (run : Run) (facts : Facts) (unread : ℕ) (kept : Kept) → Holds run facts unread kept
    → (pending : KnownArguments) → Holds run (with_arguments pending facts) unread kept
pending_again run facts unread kept h pending = record {
  position = h.position;
  held = h.held;
  registers = h.registers;
  pushed = h.pushed;
}

pub without_answer : (run : Run) (facts : Facts) (unread : ℕ) (kept : Kept) (arguments : model.Arguments)
    → Describes run facts unread kept arguments → Describes run (transfers.without_answer facts) unread kept arguments
without_answer run facts unread kept arguments d = let h = d.state in
    record {
      state = record { position = h.position; held = h.held; registers = h.registers; pushed = h.pushed };
      pending = d.pending;
      answers = tt;
    }

module _ (run : Run) (facts : Facts) (unread : ℕ) (kept : Kept) (arguments : model.Arguments) (whole : IsWhole kept)
    (d : Describes run facts unread kept arguments) where
  now : AreDistances facts.position.distances (fore_of kept) (back_of kept)
  now = distances run facts unread kept whole d.state

  -- ---- elements that change the arguments alone
  keeps : (x : Result KnownArguments RefusalReason) (y : Result model.Arguments Code)
      → Covers (ArePending (fore_of kept) (back_of kept)) x y
      → Leads (Fits run.n) (Arrives run facts.held unread kept) (transfers.facts_after_levels x facts)
      (y >>= λ levels. Ok (after kept levels))
  keeps x y c = covers_leads (ArePending (fore_of kept) (back_of kept)) (Fits run.n)
      (Arrives run facts.held unread kept) x y _ _ c
      (λ p q i l. record {
        described = record {
          state = pending_again run facts unread kept d.state p;
          pending = i;
          answers = tt;
        };
        grown = omega arith;
      })

  levels_keep : (x : Result KnownLevel RefusalReason) (y : Result Level Code)
      → Covers (IsLevel (fore_of kept) (back_of kept)) x y
      → Covers (ArePending (fore_of kept) (back_of kept)) (known.with_level facts.arguments x)
      (model.with_level arguments y)
  levels_keep x y c = at_level_covers facts.position.distances (fore_of kept) (back_of kept) now facts.arguments
      arguments x y d.pending c

  argued : (a : Argument) (text : List ℕ)
      → Covers (ArePending (fore_of kept) (back_of kept))
      (transfers.levels_after a text facts.position.distances facts.arguments) (step.levels_after a text arguments)
  argued DropAll text = nothing_is facts.position.distances (fore_of kept) (back_of kept) now
  argued Digits text = levels_keep _ _
      (give_covers facts.position.distances (fore_of kept) (back_of kept) now _ _ facts.arguments.level arguments.level
      (single_in facts.position.distances (fore_of kept) (back_of kept) now _ (SFits-int_wrap w32 _)) d.pending.level)
  argued (Operate operator) text =
      levels_keep _ _ (operate_covers facts.position.distances (fore_of kept)
      (back_of kept) now operator facts.arguments.level arguments.level d.pending.level)
  argued Open text = opened_is facts.position.distances (fore_of kept) (back_of kept) now facts.arguments arguments
      d.pending
  argued Close text = closed_covers facts.position.distances (fore_of kept) (back_of kept) now facts.arguments.level
      arguments.level facts.arguments.outer arguments.outer d.pending.level d.pending.outer
  argued Comma text = levels_keep _ _
      (comma_covers facts.position.distances (fore_of kept) (back_of kept) now facts.arguments.level arguments.level
      d.pending.level)

  gives : (s : Value) (v : ℤ) → IsValue (fore_of kept) (back_of kept) s v
      → Covers (IsLevel (fore_of kept) (back_of kept))
      (known.level_with facts.position.distances s facts.arguments.level) (model.level_with v arguments.level)
  gives s v i = give_covers facts.position.distances (fore_of kept) (back_of kept) now s v facts.arguments.level
      arguments.level i d.pending.level

  zero_is : IsValue (fore_of kept) (back_of kept) (single (pos 0)) (pos 0)
  zero_is = single_in facts.position.distances (fore_of kept) (back_of kept) now (pos 0) (omega (arith, ints))

  size_is : IsValue (fore_of kept) (back_of kept) size (pos (length kept.text))
  size_is = record {
    is = size_in run facts unread kept whole d.state;
    fits = omega (arith, ints, whole.within);
    saved = tt;
  }

  last_is : IsValue (fore_of kept) (back_of kept) (value_in transfers.last_length) (neg_ℤ (pos kept.last_length))
  last_is = interval_value _ _ _ _ (record { low = omega (arith, ints, whole.last); high = omega (arith, ints) })
      (omega (arith, ints, whole.last))

  valued : (v : Given) → Covers (IsLevel (fore_of kept) (back_of kept))
      (transfers.level_with_value v facts.position.distances facts.arguments.level)
      (step.level_with_value v kept arguments.level)
  valued Begin = gives _ _ zero_is
  valued Size = gives _ _ size_is
  valued Pointer = gives _ _ (record {
    is = pointer_in run facts unread kept whole d.state;
    fits = omega (arith, ints, whole.within, whole.inside);
    saved = tt;
  })
  valued Whole = give_both_covers facts.position.distances (fore_of kept)
      (back_of kept) now _ _ _ _ facts.arguments.level arguments.level zero_is size_is d.pending.level
  valued LastLength = gives _ _ last_is
  valued LastText = tt

  -- ---- elements that take their arguments
  abbrev taking : Facts
  taking = with_arguments (known.levels_after_taking facts.arguments) facts

  taking_holds : Holds run taking unread kept
  taking_holds = pending_again run facts unread kept d.state _

  taking_are : ArePending (fore_of kept) (back_of kept) taking.arguments (model.levels_after_taking arguments)
  taking_are = record {
    level = empty_is facts.position.distances (fore_of kept) (back_of kept) now;
    outer = d.pending.outer;
  }

  answered_are : (fore back : ℕ) (o : Option Value) (v : Option ℤ) (pending : KnownArguments) (left : model.Arguments)
      → IsOptional (IsValue fore back) o v → ArePending fore back pending left
      → ArePending fore back (known.levels_after_answer o pending) (model.levels_after_answer v left)
  answered_are fore back None None pending left i p = p
  answered_are fore back (Some s) (Some v) pending left i p =
      record { level = record { first = tt; value = i; operator = refl }; outer = p.outer }
  answered_are fore back None (Some v) pending left i p = absurd i
  answered_are fore back (Some s) None pending left i p = absurd i

  arrived : (foreseen : Foreseen) (effect : Effect) → IsDone run taking unread kept foreseen effect
      → Arrives run facts.held unread kept (facts_answered foreseen)
      (after effect.kept (model.levels_after_answer effect.answer (model.levels_after_taking arguments)))
  arrived foreseen effect i = record {
    described = record {
      state = pending_again run foreseen.facts unread effect.kept i.state _;
      pending = answered_are (fore_of effect.kept) (back_of effect.kept) foreseen.answer effect.answer
          foreseen.facts.arguments (model.levels_after_taking arguments) i.answer
          (i.pending (model.levels_after_taking arguments) taking_are);
      answers = tt;
    };
    grown = i.grown;
  }

  pub takes_and_acts : (act : KnownTaken → Facts → Result Foreseen RefusalReason) (does : Taken → Result Effect Code)
      → ((known : KnownTaken) (taken : Taken) → IsTaken (fore_of kept) (back_of kept) known taken
      → Foretells run taking unread kept (act known taking) (does taken))
      → Leads (Fits run.n) (Arrives run facts.held unread kept) (transfers.after_taking act facts)
      (model.arguments_of arguments.level >>= λ taken. does taken >>= λ effect.
      Ok (after effect.kept (model.levels_after_answer effect.answer (model.levels_after_taking arguments))))
  takes_and_acts act does f =
      covers_leads (IsTaken (fore_of kept) (back_of kept)) (Fits run.n) (Arrives run facts.held unread kept) _ _ _ _
      (taken_covers facts.position.distances (fore_of kept) (back_of kept) now facts.arguments.level arguments.level
      d.pending.level) (λ known taken i.
      leads_on (λ (f : Foreseen). Fits run.n f.facts) (IsDone run taking unread kept) (Fits run.n)
      (Arrives run facts.held unread kept) _ _ facts_answered _
      (λ f l. record { buffer = l.buffer; texts = l.texts }) arrived (f known taken i))

  executed : (c : Command) (x : Placed) (known : KnownTaken) (taken : Taken) → IsNamedByCommand c
      → IsTaken (fore_of kept) (back_of kept) known taken
      → Foretells run taking unread kept (transfers.execution c x known taking) (step.execution c x.element taken kept)
  executed (command.Motion m) x known taken w i =
      motion_foretold run taking unread kept whole taking_holds m x.element known taken i
  executed (command.Deletion u) x known taken w i =
      deletion_foretold run taking unread kept whole taking_holds u known taken i
  executed (command.Insertion t) x known taken w i =
      insertion_foretold run taking unread kept whole taking_holds t x.element known taken i
  executed (command.Typing t) x known taken w i =
      typing_foretold run taking unread kept whole taking_holds t x.element known taken i
  executed (command.Storage s) x known taken w i =
      storage_foretold run taking unread kept whole taking_holds s x.library x.element known taken w i

  -- ---- Q, ^X and \
  replied : (s : Value) (v : ℤ) → IsValue (fore_of kept) (back_of kept) s v
      → Leads (Fits run.n) (Arrives run facts.held unread kept)
      (known.with_level facts.arguments (known.level_with facts.position.distances s facts.arguments.level)
      >>= λ pending. Ok (with_arguments pending facts))
      (model.with_level arguments (model.level_with v arguments.level) >>= λ levels. Ok (after kept levels))
  replied s v i = keeps _ _ (levels_keep _ _ (gives s v i))

  standing_beside : (operator : Option Operator) (o : Option Value) (v : Option ℤ)
      → IsOptional (IsValue (fore_of kept) (back_of kept)) o v
      → IsOptional (IsValue (fore_of kept) (back_of kept)) (known.value_beside operator o)
      (model.value_beside operator v)
  standing_beside None o v i = i
  standing_beside (Some operator) o v i = tt

  standing : IsOptional (IsValue (fore_of kept) (back_of kept)) (known.standing_value facts.arguments.level)
      (model.standing_value arguments.level)
  standing = rw d.pending.level.operator
      (standing_beside facts.arguments.level.operator facts.arguments.level.value arguments.level.value
      d.pending.level.value)

  taken_if : (b : Bool) → IsOptional (IsValue (fore_of kept) (back_of kept))
      (cond b (known.standing_value facts.arguments.level) None) (cond b (model.standing_value arguments.level) None)
  taken_if true = standing
  taken_if false = tt

-- \ alone
module _ (run : Run) (facts : Facts) (unread : ℕ) (kept : Kept) (arguments : model.Arguments) (whole : IsWhole kept)
    (d : Describes run facts unread kept arguments) where
  abbrev behind_number : Kept
  behind_number = record kept { pointer = kept.pointer + (number_at (drop kept.pointer kept.text)).len }

  behind_whole : IsWhole behind_number
  behind_whole =
      let p = past run facts unread kept whole d.state in
      record {
        inside = omega (arith, p.ahead);
        within = whole.within;
        bytes = whole.bytes;
        count = whole.count;
        pairs = whole.pairs;
        stack = whole.stack;
        last = whole.last;
        mode = whole.mode;
      }

  read_on : (changed : Result Polynomial RefusalReason)
      → IfOk changed (λ held. value held run.n ≡ value facts.held run.n + value
      (row.past_number facts.position.distances).growth run.n)
      → Leads (Fits run.n) (Arrives run facts.held unread kept)
      ((changed >>= λ held. Ok (facts_behind (row.past_number facts.position.distances) held facts)) >>= λ read.
      known.with_level read.arguments
      (known.level_with read.position.distances (value_in any_number) read.arguments.level) >>= λ pending.
      Ok (with_arguments pending read)) (step.after_query_with query.Conversion 0 None kept arguments)
  read_on (Err e) h = tt
  read_on (Ok held) h =
      let read = facts_behind (row.past_number facts.position.distances) held facts in
      let p = past run facts unread kept whole d.state in
      let here : Describes run (transfers.without_answer read) unread behind_number arguments = record {
        state = pending_again run read unread behind_number
            (shifted_holds run facts unread kept whole d.state (row.past_number facts.position.distances) behind_number
            held p h) _;
        pending = settled_are facts.position.distances false (fore_of kept) (back_of kept) (fore_of behind_number)
            (back_of behind_number) (distances run facts unread kept whole d.state) p.wider facts.arguments arguments
            d.pending;
        answers = tt;
      } in
      let fits = number_fits (drop kept.pointer kept.text) in
      keeps_on run facts (transfers.without_answer read) unread kept behind_number _ _ (omega (arith, h)) (omega arith)
      (replied run (transfers.without_answer read) unread behind_number arguments behind_whole here
      (value_in any_number) _ (interval_value _ _ _ _ (any_within _ fits) fits))

module _ (run : Run) (facts : Facts) (unread : ℕ) (kept : Kept) (arguments : model.Arguments) (whole : IsWhole kept)
    (d : Describes run facts unread kept arguments) where
  asked_for : (q : Query) (colons : ℕ) (o : Option Value) (v : Option ℤ)
      → IsOptional (IsValue (fore_of kept) (back_of kept)) o v
      → Leads (Fits run.n) (Arrives run facts.held unread kept) (row.facts_after_query q colons o facts)
      (step.after_query_with q colons v kept arguments)
  asked_for (query.Number r) zero None None i =
      replied run facts unread kept arguments whole d _ _ (number_is run facts unread kept whole d.state r)
  asked_for (query.Number r) (suc colons) None None i =
      replied run facts unread kept arguments whole d _ _ (length_is run facts unread kept whole d.state r)
  asked_for query.Mode colons None None i =
      replied run facts unread kept arguments whole d _ _ (mode_is run facts unread kept whole d.state)
  asked_for query.Conversion colons None None i =
      read_on run facts unread kept arguments whole d _ (value-sum_of run.n facts.held _)
  asked_for q colons (Some s) (Some v) i =
      leads_on (λ (f : Foreseen). Fits run.n f.facts)
      (IsDone run (taking run facts unread kept arguments whole d) unread kept) (Fits run.n)
      (Arrives run facts.held unread kept) _ _ facts_answered _
      (λ f l. record { buffer = l.buffer; texts = l.texts }) (arrived run facts unread kept arguments whole d)
      (query_foretold run (taking run facts unread kept arguments whole d) unread kept whole
      (taking_holds run facts unread kept arguments whole d) q v i.fits)
  asked_for q colons None (Some v) i = absurd i
  asked_for q colons (Some s) None i = absurd i

  -- ---- [ and ]
  popped_if : facts.answer ≡ None → (b : Bool) (r : ℕ) (s : Pushed) (pushes : List Pushed) (top : List Pair)
      → ArePushed run.n run.below (s ∷ pushes) top
      → Leads (Fits run.n) (Arrives run facts.held unread kept)
      (cond b (Ok (record (storages.with_text r s.text (storages.with_number r s.number false facts))
      { pushes = pushes })) (Err refusal.Pop))
      ((ok_or (registers_without_top r top kept.registers) code.Pes >>= λ registers.
      Ok (record kept { registers = registers })) >>= λ changed. Ok (after changed arguments))
  popped_if none false r s pushes top i = tt
  popped_if none true r s pushes [] i = absurd i
  popped_if none true r s pushes (pair ∷ rest) i =
      λ l. record {
        described = record {
          state = popped_holds run facts unread kept whole d.state r s pushes pair rest
              i.0 i.1;
          pending = d.pending;
          answers = rw none tt;
        };
        grown = omega arith;
      }

  popped : facts.answer ≡ None → (library : Bool) (r : ℕ) (pushes : List Pushed)
      → ArePushed run.n run.below pushes kept.registers.stack
      → Leads (Fits run.n) (Arrives run facts.held unread kept) (storages.not_of_library library >>= λ free.
      storages.with_popped r pushes facts) (step.after_stack (stack.Pop r) kept arguments)
  popped none true r pushes i = tt
  popped none false r [] i = tt
  popped none false r (s ∷ pushes) i = popped_if none _ r s pushes kept.registers.stack i

  stacked : facts.answer ≡ None → (s : Stack) (library : Bool)
      → Leads (Fits run.n) (Arrives run facts.held unread kept) (storages.stack s library facts)
      (step.after_stack s kept arguments)
  stacked none (stack.Push r) library =
      λ l. record {
        described = record {
          state = pushed_holds run facts unread kept whole d.state r;
          pending = d.pending;
          answers = d.answers;
        };
        grown = omega arith;
      }
  stacked none (stack.Pop r) library = popped none library r facts.pushes d.state.pushed

-- ---- the laws
pub arguments_are_sound : ArgumentsAreSound
arguments_are_sound run facts unread kept arguments x a whole d e =
    let n = without_answer run facts unread kept arguments d in
    by_kind x facts _ (λ r. Leads (FitsOn run.n) (ArrivesOn run facts.held unread kept) r
    (step.after_argument a x.element kept arguments)) e
    (on_leads run facts unread kept _ _ (keeps run (transfers.without_answer facts) unread kept arguments whole n _ _
    (argued run (transfers.without_answer facts) unread kept arguments whole n a x.element.text)))

pub values_are_sound : ValuesAreSound
values_are_sound run facts unread kept arguments x v whole d e =
    let n = without_answer run facts unread kept arguments d in
    by_kind x facts _ (λ r. Leads (FitsOn run.n) (ArrivesOn run facts.held unread kept) r
    (step.after_value v kept arguments)) e
    (on_leads run facts unread kept _ _ (keeps run (transfers.without_answer facts) unread kept arguments whole n _ _
    (levels_keep run (transfers.without_answer facts) unread kept arguments whole n _ _
    (valued run (transfers.without_answer facts) unread kept arguments whole n v))))

pub commands_are_sound : CommandsAreSound
commands_are_sound run facts unread kept arguments x c whole d e named =
    let n = without_answer run facts unread kept arguments d in
    by_kind x facts _ (λ r. Leads (FitsOn run.n) (ArrivesOn run facts.held unread kept) r
    (step.after_command c x.element kept arguments)) e
    (on_leads run facts unread kept _ _
    (takes_and_acts run (transfers.without_answer facts) unread kept arguments whole n (transfers.execution c x)
    (λ taken. step.execution c x.element taken kept)
    (λ known taken i. executed run (transfers.without_answer facts) unread kept arguments whole n c x known taken
    named i)))

pub queries_are_sound : QueriesAreSound
queries_are_sound run facts unread kept arguments x q whole d e named =
    let n = without_answer run facts unread kept arguments d in
    by_kind x facts _ (λ r. Leads (FitsOn run.n) (ArrivesOn run facts.held unread kept) r
    (step.after_query q x.element kept arguments)) e
    (on_leads run facts unread kept _ _
    (asked_for run (transfers.without_answer facts) unread kept arguments whole n q x.element.colons _ _
    (taken_if run (transfers.without_answer facts) unread kept arguments whole n (step.takes q x.element.colons))))

pub stacks_are_sound : StacksAreSound
stacks_are_sound run facts unread kept arguments x s whole d e named =
    let n = without_answer run facts unread kept arguments d in
    by_kind x facts _ (λ r. Leads (FitsOn run.n) (ArrivesOn run facts.held unread kept) r
    (step.after_stack s kept arguments)) e
    (on_leads run facts unread kept _ _
    (stacked run (transfers.without_answer facts) unread kept arguments whole n refl s x.library))
