-- What is known to take the last text takes a match.
use Rattle.std.proofs.Common.{◌≡◌, ℕ, ℤ, pos, negsuc, neg_ℤ, suc, ◌+ℤ◌, List, [], ◌∷◌, length, refl, sym, ap, ◌∙◌}
use Rattle.std.proofs.Common.{subst}
use Rattle.std.proofs.Common.{Option, Some, None, Ok, Bool, true, false, arith, is_some, cond}
use Rattle.std.proofs.lemmas.Int.{int_wrap_fits, ints}
use Rattle.std.specs.Int.{int_wrap, w32}
use Rattle.std.specs.Prelude.{◌≤◌, FitsSigned, IfOk, if◌then◌else◌}
use Rattle.teco_base.specs.declared.TheConstants.{LIMIT}
use Rattle.teco_changes.specs.Changes.{Changes}
use Rattle.teco_changes.specs.Characters.{AreWithin, IsWithin, character_there}
use Rattle.teco_changes.specs.Elements.{deleted_character, deleted_last, deleted_near, either_told, taken_of}
use Rattle.teco_changes.specs.Elements.{takes_last}
use Rattle.teco_changes.specs.Nearby.{Found, IsFound, HasValue, IsNear, IsPending, JustFound, Known, Nearby, Nothing}
use Rattle.teco_changes.specs.Nearby.{Perhaps, Surely}
use Rattle.teco_changes.specs.Nearby.{Unreached, last_begin}
use Rattle.teco_changes.specs.declared.argument.Pending.{Pending}
use Rattle.teco_changes.specs.declared.argument.Pending.TheVariants.{Asked, AskedLess, AskedMinus, Anything, Empty}
use Rattle.teco_changes.specs.declared.argument.Pending.TheVariants.{Length, Negative, Number, Place}
use Rattle.teco_changes.specs.Plain.{matches_have}
use Rattle.teco_changes.specs.Worlds.{IsChangedBy, text_of}
use Rattle.teco_changes.specs.declared.change.Change.{Change}
use Rattle.teco_changes.specs.declared.change.Change.TheVariants as change
use Rattle.teco_changes.specs.declared.argument.Side.{Side}
use Rattle.teco_changes.specs.declared.argument.Side.TheVariants.{At, Before}
use Rattle.teco_changes.specs.declared.change.Characters.{Characters as Near}
use Rattle.teco_changes.specs.declared.change.Range.{Range}
use Rattle.teco_changes.proofs.Lasts.{by_known, by_length, by_place}
use Rattle.teco_changes.proofs.OneTaken.{takes_at, takes_before}
use Rattle.teco_law_changes.specs.Steps.{IsKnownNear, is_ranged}
use Rattle.teco_law_changes.proofs.Marks.{HasMark, commands_keep_mark}
use Rattle.teco_law_changes.proofs.Numbers.{left_long, none_left}
use Rattle.teco_law_changes.proofs.Results.{given, of_ok, onward, onward_any}
use Rattle.teco_law_changes.proofs.Steps.{Edits, EditsAfter, behind, settle_told}
use Rattle.teco_law_changes.proofs.Taking.{ends_so, first_is, value_is}
use Rattle.teco_law_runs.specs.Steps.{IsLeftAt, is_long}
use Rattle.teco_model.specs.Arguments.{arguments_of, final_value}
use Rattle.teco_model.specs.Deletion.{character_deletion, deletion, deletion_of, part_deletion}
use Rattle.teco_model.specs.Effect.{Effect}
use Rattle.teco_model.specs.Element.{Element}
use Rattle.teco_model.specs.State.{Kept, Next, State}
use Rattle.teco_model.specs.Step.{execution, outcome_of}
unfoldable use Rattle.teco_model.specs.Step.{reply_of}
use Rattle.teco_model.specs.declared.arguments.Level.{Level}
use Rattle.teco_model.specs.declared.arguments.Operator.TheVariants.{Minus}
use Rattle.teco_model.specs.declared.arguments.Taken.{Taken}
use Rattle.teco_model.specs.declared.kind.Command.TheVariants as command
use Rattle.teco_model.specs.declared.kind.Kind.TheVariants as kind
use Rattle.teco_model.specs.declared.kind.Unit.{Unit as Counted}
use Rattle.teco_model.specs.declared.kind.Unit.TheVariants.{Characters, Lines}
use Rattle.teco_model.specs.laws.Whole.{IsWhole}

no_first : (first : Option ℤ) → (is_some first ≡ true → false ≡ true) → first ≡ None
no_first None not = refl
no_first (Some m) not = absurd (let z : Path Bool false true = not refl in cc)

-- the place where the last text begins fits 32 bits
begins : (wanted : List ℕ) (kept : Kept) (last : JustFound wanted kept) → IsWhole kept
    → last_begin kept ≡ pos (length last.front)
begins wanted kept last whole =
    let ends = last.ends in
    let long = last.long in
    let inside = whole.inside in
    let within = whole.within in
    let same : pos kept.pointer +ℤ neg_ℤ (pos kept.last_length) ≡ pos (length last.front) = omega (arith, ints) in
    let fits : FitsSigned w32 (pos (length last.front)) = omega (arith, ints) in
    ap (λ z. int_wrap w32 z) same ∙ int_wrap_fits w32 (pos (length last.front)) fits

module _ (wanted : List ℕ) (kept : Kept) (last : JustFound wanted kept) (level : Level) (taken : Taken)
    (took : arguments_of level ≡ Ok taken) (effect : Effect) where
  abbrev Takes : Type 0
  Takes = Changes (change.TakesMatch wanted ∷ []) kept.text effect.kept.text

  one_number : (n : ℤ) → level.first ≡ None → final_value level ≡ Ok (Some n)
      → deletion Characters taken kept ≡ Ok effect → character_deletion n kept ≡ Ok effect
  one_number n none ends h =
      subst (λ value. deletion_of Characters None value kept ≡ Ok effect) (value_is level taken took (Some n) ends)
      (subst (λ first. deletion_of Characters first taken.value kept ≡ Ok effect) (first_is level taken took ∙ none) h)

  ranged_part : (unit : Counted) (m n : ℤ) → deletion_of unit (Some m) (Some n) kept ≡ Ok effect
      → part_deletion (Some m) (Some n) kept ≡ Ok effect
  ranged_part Characters m n h = h
  ranged_part Lines m n h = h

  both : (unit : Counted) (m n : ℤ) → level.first ≡ Some m → final_value level ≡ Ok (Some n)
      → deletion unit taken kept ≡ Ok effect → part_deletion (Some m) (Some n) kept ≡ Ok effect
  both unit m n first ends h =
      ranged_part unit m n
      (subst (λ value. deletion_of unit (Some m) value kept ≡ Ok effect) (value_is level taken took (Some n) ends)
      (subst (λ first. deletion_of unit first taken.value kept ≡ Ok effect) (first_is level taken took ∙ first) h))

  last_taken : (unit : Counted) (ranged : Bool) (pending : Pending) → IsWhole kept
      → (ranged ≡ false → level.first ≡ None) → IsPending pending level kept
      → takes_last unit ranged wanted pending ≡ true → deletion unit taken kept ≡ Ok effect → Takes
  last_taken unit ranged Place whole first is sure h =
      by_place wanted kept last effect (begins wanted kept last whole)
      (both unit (last_begin kept) (pos kept.pointer) is.1 (ends_so level (Some (pos kept.pointer)) is.0.0 is.0.1) h)
  last_taken Characters false Length whole first is sure h =
      by_length wanted kept last effect
      (one_number (neg_ℤ (pos kept.last_length)) (first refl)
      (ends_so level (Some (neg_ℤ (pos kept.last_length))) is.0 is.1) h)
  last_taken Characters false Negative whole first is sure h =
      by_known wanted kept last 0 effect sure
      (one_number (negsuc 0) (first refl) (rw (is.0, is.1) refl) h)
  last_taken Characters false (Number (negsuc n)) whole first is sure h =
      by_known wanted kept last n effect sure
      (one_number (negsuc n) (first refl) (ends_so level (Some (negsuc n)) is.0 is.1) h)
  last_taken Characters false (Number (pos n)) whole first is sure h = absurd cc
  last_taken Characters false Anything whole first is sure h = absurd cc
  last_taken Characters false (Asked side) whole first is sure h = absurd cc
  last_taken Characters false (AskedMinus side) whole first is sure h = absurd cc
  last_taken Characters false (AskedLess side n) whole first is sure h = absurd cc
  last_taken Characters false Empty whole first is sure h = absurd cc
  last_taken Characters true Length whole first is sure h = absurd cc
  last_taken Characters true Negative whole first is sure h = absurd cc
  last_taken Characters true (Number n) whole first is sure h = absurd cc
  last_taken Characters true Anything whole first is sure h = absurd cc
  last_taken Characters true (Asked side) whole first is sure h = absurd cc
  last_taken Characters true (AskedMinus side) whole first is sure h = absurd cc
  last_taken Characters true (AskedLess side n) whole first is sure h = absurd cc
  last_taken Characters true Empty whole first is sure h = absurd cc
  last_taken Lines ranged Length whole first is sure h = absurd cc
  last_taken Lines ranged Negative whole first is sure h = absurd cc
  last_taken Lines ranged (Number n) whole first is sure h = absurd cc
  last_taken Lines ranged Anything whole first is sure h = absurd cc
  last_taken Lines ranged (Asked side) whole first is sure h = absurd cc
  last_taken Lines ranged (AskedMinus side) whole first is sure h = absurd cc
  last_taken Lines ranged (AskedLess side n) whole first is sure h = absurd cc
  last_taken Lines ranged Empty whole first is sure h = absurd cc

-- ---- one character
module _ (kept : Kept) (level : Level) (taken : Taken) (took : arguments_of level ≡ Ok taken) (effect : Effect) where
  one_number_of : (n : ℤ) → level.first ≡ None → final_value level ≡ Ok (Some n)
      → deletion Characters taken kept ≡ Ok effect → character_deletion n kept ≡ Ok effect
  one_number_of n none ends h =
      subst (λ value. deletion_of Characters None value kept ≡ Ok effect) (value_is level taken took (Some n) ends)
      (subst (λ first. deletion_of Characters first taken.value kept ≡ Ok effect) (first_is level taken took ∙ none) h)

  no_number : (level.operator ≡ None) × (level.value ≡ None) → level.first ≡ None
      → deletion Characters taken kept ≡ Ok effect → character_deletion (pos 1) kept ≡ Ok effect
  no_number empty none h =
      subst (λ value. deletion_of Characters None value kept ≡ Ok effect)
      (value_is level taken took None (ends_so level None empty.0 empty.1))
      (subst (λ first. deletion_of Characters first taken.value kept ≡ Ok effect) (first_is level taken took ∙ none) h)

-- a deletion of so many characters takes the one there, of whatever range that is known to be
abbrev DeletesAt : Side → ℤ → Kept → Type 0
DeletesAt side n kept =
    (range : Range) → IsWithin (Some range) (character_there side kept) → (effect : Effect)
    → character_deletion n kept ≡ Ok effect
    → Changes (change.Takes (range ∷ []) ∷ []) kept.text effect.kept.text

at_pointer : (kept : Kept) → DeletesAt At (pos 1) kept
at_pointer kept range is effect h = takes_at kept range is effect h

before_pointer : (kept : Kept) → kept.pointer ≤ length kept.text → DeletesAt Before (negsuc 0) kept
before_pointer kept inside range is effect h = takes_before kept inside range is effect h

module _ (s t : State) (e : Element) (unit : Counted) where
  abbrev ChangedBy : List Change → Type 0
  ChangedBy changes = IsChangedBy (Some changes) (text_of s.world) (text_of t.world)

  -- a deletion does what each of its effects does
  deletes : (changes : List Change)
      → ((taken : Taken) (effect : Effect) → arguments_of s.arguments.level ≡ Ok taken
      → deletion unit taken s.world.kept ≡ Ok effect → Changes changes s.world.kept.text effect.kept.text)
      → outcome_of (kind.Command (command.Deletion unit)) e s ≡ Next t → ChangedBy changes
  unfolding reply_of
  deletes changes does goes =
      settle_told s e (Some changes) t _
      (behind s e changes _
      (onward_any (EditsAfter s e changes) (arguments_of s.arguments.level) _ (λ taken took.
      onward (λ effect. Edits s e changes effect.kept) (EditsAfter s e changes)
      (execution (command.Deletion unit) e taken s.world.kept) _
      (given (λ effect. Edits s e changes effect.kept) (execution (command.Deletion unit) e taken s.world.kept)
      (λ effect is. (
        of_ok (HasMark s.world.kept) (execution (command.Deletion unit) e taken s.world.kept) effect
            (commands_keep_mark s.world.kept (command.Deletion unit) e taken) is,
        does taken effect took is,
      ))) (λ effect d. d)))) goes

  module _ (ranged : Bool) (whole : IsWhole s.world.kept) (first : is_ranged s ≡ true → ranged ≡ true)
      (goes : outcome_of (kind.Command (command.Deletion unit)) e s ≡ Next t)
      (P : Option (List Change) → Type 0) (plain : P None)
      (sharp : (changes : List Change) → ChangedBy changes → P (Some changes)) where
    none_first : ranged ≡ false → s.arguments.level.first ≡ None
    none_first is = no_first s.arguments.level.first (λ some. sym is ∙ first some)

    takes : (wanted : List ℕ) (pending : Pending) (other : Option (List Change)) (sure : Bool)
        → takes_last unit ranged wanted pending ≡ sure → JustFound wanted s.world.kept
        → IsPending pending s.arguments.level s.world.kept → P other
        → P (either_told (if sure then Some (change.TakesMatch wanted ∷ []) else None) other)
    takes wanted pending other false is last waits less = less
    takes wanted pending other true is last waits less =
        sharp (change.TakesMatch wanted ∷ [])
        (deletes (change.TakesMatch wanted ∷ []) (λ taken effect took does.
        last_taken wanted s.world.kept last s.arguments.level taken took effect unit ranged pending whole none_first
        waits is does) goes)

    last_deleted : (found : Found) (pending : Pending) (other : Option (List Change))
        → IsFound found s.arguments.level s.world.kept → IsPending pending s.arguments.level s.world.kept → P other
        → P (either_told (deleted_last unit ranged found pending) other)
    last_deleted Nothing pending other is waits less = less
    last_deleted (Perhaps wanted) pending other is waits less = less
    last_deleted (Surely wanted) pending other is waits less =
        takes wanted pending other (takes_last unit ranged wanted pending) refl is waits less

    one_taken : (side : Side) (n : ℤ) (range : Option Range) → DeletesAt side n s.world.kept
        → (ranged ≡ false → unit ≡ Characters → (taken : Taken) (effect : Effect)
        → arguments_of s.arguments.level ≡ Ok taken → deletion unit taken s.world.kept ≡ Ok effect
        → character_deletion n s.world.kept ≡ Ok effect)
        → IsWithin range (character_there side s.world.kept) → ranged ≡ false → unit ≡ Characters → P (taken_of range)
    one_taken side n None at does is none counted = plain
    one_taken side n (Some range) at does is none counted =
        sharp (change.Takes (range ∷ []) ∷ [])
        (deletes (change.Takes (range ∷ []) ∷ []) (λ taken effect took h.
        at range is effect (does none counted taken effect took h)) goes)

    by_pending : (u : Counted) (r : Bool) (pending : Pending) (characters : Near) → unit ≡ u → ranged ≡ r
        → IsPending pending s.arguments.level s.world.kept → AreWithin characters s.world.kept
        → P (deleted_character u r pending characters)
    by_pending Characters false Empty characters counted none waits are =
        one_taken At (pos 1) characters.at (at_pointer s.world.kept) (λ r c taken effect took h.
        no_number s.world.kept s.arguments.level taken took effect waits (none_first r)
        (subst (λ u. deletion u taken s.world.kept ≡ Ok effect) c h)) are.0 none counted
    by_pending Characters false Negative characters counted none waits are =
        one_taken Before (negsuc 0) characters.before (before_pointer s.world.kept whole.inside)
        (λ r c taken effect took h.
        one_number_of s.world.kept s.arguments.level taken took effect (negsuc 0) (none_first r)
        (rw (waits.0, waits.1) refl)
        (subst (λ u. deletion u taken s.world.kept ≡ Ok effect) c h)) are.1 none counted
    by_pending Characters false Anything characters counted none waits are = plain
    by_pending Characters false (Number n) characters counted none waits are = plain
    by_pending Characters false Length characters counted none waits are = plain
    by_pending Characters false Place characters counted none waits are = plain
    by_pending Characters false (Asked side) characters counted none waits are = plain
    by_pending Characters false (AskedMinus side) characters counted none waits are = plain
    by_pending Characters false (AskedLess side n) characters counted none waits are = plain
    by_pending Characters true pending characters counted none waits are = plain
    by_pending Lines r pending characters counted none waits are = plain

    pub deletion_near : (near : Nearby) → IsNear near s.arguments.level s.world.kept → P (deleted_near unit ranged near)
    deletion_near Unreached is = absurd is
    deletion_near (Known found pending characters) is =
        last_deleted found pending (deleted_character unit ranged pending characters) is.0 is.1
        (by_pending unit ranged pending characters refl refl is.1 is.2)

-- what is known before an element that takes one step is so
pub near_before : (s : State) (e : Element) (near : Nearby) → IsLeftAt (Some e) s.left → IsKnownNear near s
    → is_long e.kind ≡ false → IsNear near s.arguments.level s.world.kept
near_before s e near left is short = is.begins (none_left e.kind s.left (left_long s e left) short)
