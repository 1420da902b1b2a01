-- What each element does where something is known of its numeric argument.
use Rattle.std.proofs.Common.{◌≡◌, ℕ, ℤ, List, [], ◌∷◌, refl, sym, ap, ◌∙◌, subst, Option, Some, None}
use Rattle.std.proofs.Common.{Result, Ok, Bool, true, false}
use Rattle.std.specs.Prelude.{◌≢◌, IfOk}
use Rattle.teco_base.specs.Arithmetic.{byte_of}
use Rattle.teco_base.specs.declared.code.Code.{Code}
use Rattle.teco_changes.specs.Arguments.{IsSo}
use Rattle.teco_changes.specs.Elements.{changes_of, changes_told, either_told, told_near, told_with as told_by_kind}
use Rattle.teco_changes.specs.Nearby.{IsNear, Nearby}
use Rattle.teco_changes.specs.Worlds.{IsChangedBy, text_of}
use Rattle.teco_changes.specs.declared.argument.NumericArgument.{NumericArgument}
use Rattle.teco_changes.specs.declared.argument.NumericArgument.TheVariants as known
use Rattle.teco_changes.specs.declared.change.Change.{Change}
use Rattle.teco_changes.specs.declared.change.Change.TheVariants as change
use Rattle.teco_changes.proofs.Elements.{put_in}
use Rattle.teco_law_changes.specs.Steps.{Reads, StepsAreToldWith, is_ranged}
use Rattle.teco_law_changes.proofs.Lasts.{deletion_near, near_before}
use Rattle.teco_law_changes.proofs.Marks.{HasMark, inserted}
use Rattle.teco_law_changes.proofs.Numbers.{known_before}
use Rattle.teco_law_changes.proofs.Results.{given, of_ok, onward, onward_any}
use Rattle.teco_law_changes.proofs.Taking.{ends_so, taken_is}
use Rattle.teco_law_changes.proofs.Steps.{Edits, EditsAfter, Told, as_was, behind, settle_told, steps_are_told}
use Rattle.teco_law_runs.specs.Steps.{is_long}
use Rattle.teco_model.proofs.Chains.{bound}
use Rattle.teco_model.specs.Arguments.{arguments_from, arguments_of, final_value, levels_after_taking}
use Rattle.teco_model.specs.Element.{Element}
use Rattle.teco_model.specs.Insertion.{insertion_of, insertion_with}
use Rattle.teco_model.specs.Outside.{append_reply, page_reply}
use Rattle.teco_model.specs.State.{Next, State}
use Rattle.teco_model.specs.Step.{outcome_at, outcome_of}
unfoldable use Rattle.teco_model.specs.Step.{reply_of, step}
use Rattle.teco_model.specs.declared.arguments.Level.{Level}
use Rattle.teco_model.specs.declared.arguments.Taken.{Taken}
use Rattle.teco_model.specs.declared.kind.Command.{Command}
use Rattle.teco_model.specs.declared.kind.Command.TheVariants as command
use Rattle.teco_model.specs.declared.kind.Insertion.TheVariants as insertion_kind
use Rattle.teco_model.specs.declared.kind.Kind.{Kind}
use Rattle.teco_model.specs.declared.kind.Kind.TheVariants as kind
use Rattle.teco_model.specs.declared.kind.Page.TheVariants as page
use Rattle.teco_model.specs.laws.Whole.{IsWholeState}

-- ---- what is taken
abbrev pub HasNumber : Level → Type 0
HasNumber level = final_value level ≢ Ok None

pub value_is_number : (level : Level) → level.operator ≡ None → level.value ≢ None → HasNumber level
value_is_number level none some e =
    some (let same : ◌≡◌ {A = Result (Option ℤ) Code} (Ok level.value) (Ok None) =
    sym (ends_so level level.value none refl) ∙ e in cc)

pub some_is_value : (n : ℤ) (level : Level) → level.value ≡ Some n → level.value ≢ None
some_is_value n level is e = let z : Path (Option ℤ) (Some n) None = sym is ∙ e in absurd cc

pub exactly_is_number : (n : ℤ) (level : Level) → level.operator ≡ None → level.value ≡ Some n → HasNumber level
exactly_is_number n level none is = value_is_number level none (some_is_value n level is)

-- ---- of an element behind two arguments no more is told than of it alone
abbrev Weaker : Option (List Change) → Option (List Change) → Type 0
Weaker told less = (old new : List ℕ) → IsChangedBy told old new → IsChangedBy less old new

by_kind : (k : Kind) (e : Element) → Weaker (changes_told k e false) (changes_told k e true)
by_kind (kind.Page page.Next) e old new h = tt
by_kind (kind.Page page.Yank) e old new h = tt
by_kind (kind.Page page.Write) e old new h = tt
by_kind (kind.Page page.Append) e old new h = h
by_kind (kind.Argument a) e old new h = h
by_kind (kind.Value v) e old new h = h
by_kind (kind.Query q) e old new h = h
by_kind (kind.Stack k) e old new h = h
by_kind (kind.Call c) e old new h = h
by_kind (kind.Flow f) e old new h = h
by_kind (kind.Command c) e old new h = h
by_kind (kind.Search x) e old new h = h
by_kind (kind.File f) e old new h = h

no_stronger : (e : Element) (was said : Bool) → (was ≡ true → said ≡ true)
    → Weaker (changes_of e was) (changes_of e said)
no_stronger e true true same old new h = h
no_stronger e false false same old new h = h
no_stronger e true false same old new h = absurd (let z : Path Bool false true = same refl in cc)
no_stronger e false true same old new h = by_kind e.kind e old new h

as_outcome : (s t : State) (e : Element) → Reads s (Some e) → step s ≡ Next t → outcome_of e.kind e s ≡ Next t
unfolding step
as_outcome s t e reads goes = ap (outcome_at s) (sym reads) ∙ goes

module _ (s : State) (e : Element) where
  -- nA gives a character
  appends : (value : Option ℤ) → value ≢ None
      → IfOk (append_reply value s.left (levels_after_taking s.arguments) s.world) (Told s e (Some []))
  appends None some = absurd (some refl)
  appends (Some n) some = as_was s e [] s.world refl

  number_taken : (taken : Taken) → HasNumber s.arguments.level → arguments_of s.arguments.level ≡ Ok taken
      → taken.value ≢ None
  number_taken taken number is none = number (taken_is s.arguments.level taken is ∙ ap Ok none)

  append_told : HasNumber s.arguments.level
      → IfOk (page_reply page.Append s.left s.arguments s.world) (Told s e (Some []))
  append_told number =
      onward_any (Told s e (Some [])) (arguments_of s.arguments.level) _ (λ taken is.
      appends taken.value (number_taken taken number is))

  append_step : (t : State) → HasNumber s.arguments.level → outcome_of (kind.Page page.Append) e s ≡ Next t
      → IsChangedBy (Some []) (text_of s.world) (text_of t.world)
  unfolding reply_of
  append_step t number goes =
      settle_told s e (Some []) t (page_reply page.Append s.left s.arguments s.world) (append_told number) goes

  -- nI puts the character n
  abbrev Byte : ℤ → List Change
  Byte n = change.Puts (byte_of n ∷ []) ∷ []

  byte_put : (n : ℤ) → IfOk (insertion_of (byte_of n ∷ []) s.world.kept) (λ effect. Edits s e (Byte n) effect.kept)
  byte_put n = given (λ effect. Edits s e (Byte n) effect.kept) (insertion_of (byte_of n ∷ []) s.world.kept)
      (λ effect is. (
        of_ok (HasMark s.world.kept) (insertion_of (byte_of n ∷ []) s.world.kept) effect
            (inserted s.world.kept (byte_of n ∷ [])) is,
        put_in (change.Puts (byte_of n ∷ [])) (byte_of n ∷ []) refl refl s.world.kept effect is,
      ))

  inserts : (n : ℤ) (text : List ℕ) (value : Option ℤ) → text ≡ [] → value ≡ Some n
      → IfOk (insertion_with insertion_kind.Text text value s.world.kept) (λ effect. Edits s e (Byte n) effect.kept)
  inserts n text value none is =
      subst (λ t. IfOk (insertion_with insertion_kind.Text t value s.world.kept)
      (λ effect. Edits s e (Byte n) effect.kept)) (sym none)
      (subst (λ v. IfOk (insertion_with insertion_kind.Text [] v s.world.kept)
      (λ effect. Edits s e (Byte n) effect.kept)) (sym is) (byte_put n))

  exactly_taken : (n : ℤ) (taken : Taken) → s.arguments.level.operator ≡ None → s.arguments.level.value ≡ Some n
      → arguments_of s.arguments.level ≡ Ok taken → taken.value ≡ Some n
  exactly_taken n taken none is there =
      let same : ◌≡◌ {A = Result (Option ℤ) Code} (Ok taken.value) (Ok (Some n)) =
      sym (taken_is s.arguments.level taken there) ∙ ends_so s.arguments.level (Some n) none is in cc

  insert_step : (n : ℤ) (t : State) → e.text ≡ [] → s.arguments.level.operator ≡ None
      → s.arguments.level.value ≡ Some n
      → outcome_of (kind.Command (command.Insertion insertion_kind.Text)) e s ≡ Next t
      → IsChangedBy (Some (Byte n)) (text_of s.world) (text_of t.world)
  unfolding reply_of
  insert_step n t empty none is goes =
      settle_told s e (Some (Byte n)) t _
      (behind s e (Byte n) _
      (onward_any (EditsAfter s e (Byte n)) (arguments_of s.arguments.level) _ (λ taken there.
      onward (λ effect. Edits s e (Byte n) effect.kept) (EditsAfter s e (Byte n))
      (insertion_with insertion_kind.Text e.text taken.value s.world.kept) _
      (inserts n e.text taken.value empty (exactly_taken n taken none is there)) (λ effect d. d)))) goes

  -- ---- by what is known
  module _ (t : State) (ranged : Bool) (plain : IsChangedBy (changes_of e ranged) (text_of s.world) (text_of t.world))
    where
      abbrev Sharp : Kind → List ℕ → NumericArgument → Type 0
      Sharp k text before =
          IsChangedBy (either_told (told_by_kind k text before) (changes_of e ranged))
          (text_of s.world) (text_of t.world)

      append_known : (text : List ℕ) (before : NumericArgument) → IsSo before s.arguments.level
          → outcome_of (kind.Page page.Append) e s ≡ Next t → Sharp (kind.Page page.Append) text before
      append_known text known.Unreached is goes = plain
      append_known text known.Unknown is goes = plain
      append_known text known.Complete is goes = plain
      append_known text known.Number is goes = append_step t is goes
      append_known text known.Value is goes = append_step t (value_is_number s.arguments.level is.0 is.1) goes
      append_known text (known.Exactly n) is goes =
          append_step t (exactly_is_number n s.arguments.level is.0 is.1) goes

      insert_known : (text : List ℕ) (before : NumericArgument) → e.text ≡ text → IsSo before s.arguments.level
          → outcome_of (kind.Command (command.Insertion insertion_kind.Text)) e s ≡ Next t
          → Sharp (kind.Command (command.Insertion insertion_kind.Text)) text before
      insert_known [] (known.Exactly n) same is goes = insert_step n t same is.0 is.1 goes
      insert_known [] known.Unreached same is goes = plain
      insert_known [] known.Unknown same is goes = plain
      insert_known [] known.Complete same is goes = plain
      insert_known [] known.Number same is goes = plain
      insert_known [] known.Value same is goes = plain
      insert_known (c ∷ text) before same is goes = plain

      command_known : (c : Command) (before : NumericArgument) → IsSo before s.arguments.level
          → outcome_of (kind.Command c) e s ≡ Next t → Sharp (kind.Command c) e.text before
      command_known (command.Insertion insertion_kind.Text) before is goes = insert_known e.text before refl is goes
      command_known (command.Insertion insertion_kind.Tab) before is goes = plain
      command_known (command.Motion m) before is goes = plain
      command_known (command.Deletion unit) before is goes = plain
      command_known (command.Typing typing) before is goes = plain
      command_known (command.Storage storage) before is goes = plain

      kind_known : (k : Kind) (before : NumericArgument) → (is_long k ≡ false → IsSo before s.arguments.level)
          → outcome_of k e s ≡ Next t → Sharp k e.text before
      kind_known (kind.Page page.Append) before is goes = append_known e.text before (is refl) goes
      kind_known (kind.Page page.Yank) before is goes = plain
      kind_known (kind.Page page.Next) before is goes = plain
      kind_known (kind.Page page.Write) before is goes = plain
      kind_known (kind.Command c) before is goes = command_known c before (is refl) goes
      kind_known (kind.Argument a) before is goes = plain
      kind_known (kind.Value v) before is goes = plain
      kind_known (kind.Query q) before is goes = plain
      kind_known (kind.Stack k) before is goes = plain
      kind_known (kind.Call c) before is goes = plain
      kind_known (kind.Flow f) before is goes = plain
      kind_known (kind.Search x) before is goes = plain
      kind_known (kind.File f) before is goes = plain

      -- and by what is near
      module _ (whole : IsWholeState s) (first : is_ranged s ≡ true → ranged ≡ true) where
        abbrev SharpNear : Kind → NumericArgument → Nearby → Type 0
        SharpNear k before near =
            IsChangedBy
            (either_told (told_near k ranged near) (either_told (told_by_kind k e.text before) (changes_of e ranged)))
            (text_of s.world) (text_of t.world)

        command_near : (c : Command) (before : NumericArgument) (near : Nearby)
            → IsNear near s.arguments.level s.world.kept → outcome_of (kind.Command c) e s ≡ Next t
            → Sharp (kind.Command c) e.text before → SharpNear (kind.Command c) before near
        command_near (command.Deletion unit) before near is goes sharp =
            deletion_near s t e unit ranged whole.world.kept first goes
            (λ told. IsChangedBy (either_told told
            (either_told (told_by_kind (kind.Command (command.Deletion unit)) e.text before) (changes_of e ranged)))
            (text_of s.world) (text_of t.world)) sharp (λ changes does. does) near is
        command_near (command.Insertion i) before near is goes sharp = sharp
        command_near (command.Motion m) before near is goes sharp = sharp
        command_near (command.Typing typing) before near is goes sharp = sharp
        command_near (command.Storage storage) before near is goes sharp = sharp

        kind_near : (k : Kind) (before : NumericArgument) (near : Nearby)
            → (is_long k ≡ false → IsNear near s.arguments.level s.world.kept) → outcome_of k e s ≡ Next t
            → Sharp k e.text before → SharpNear k before near
        kind_near (kind.Command c) before near is goes sharp = command_near c before near (is refl) goes sharp
        kind_near (kind.Page p) before near is goes sharp = sharp
        kind_near (kind.Argument a) before near is goes sharp = sharp
        kind_near (kind.Value v) before near is goes sharp = sharp
        kind_near (kind.Query q) before near is goes sharp = sharp
        kind_near (kind.Stack k) before near is goes sharp = sharp
        kind_near (kind.Call c) before near is goes sharp = sharp
        kind_near (kind.Flow f) before near is goes sharp = sharp
        kind_near (kind.Search x) before near is goes sharp = sharp
        kind_near (kind.File f) before near is goes sharp = sharp

pub steps_are_told_with : StepsAreToldWith
steps_are_told_with s t None ranged before near whole under first left is near_is reads goes =
    steps_are_told s t None whole under reads goes
steps_are_told_with s t (Some e) ranged before near whole under first left is near_is reads goes =
    let out = as_outcome s t e reads goes in
    let plain = no_stronger e (is_ranged s) ranged first (text_of s.world) (text_of t.world)
    (steps_are_told s t (Some e) whole under reads goes) in
    kind_near s e t ranged plain whole first e.kind before near (near_before s e near left near_is) out
    (kind_known s e t ranged plain e.kind before (known_before s e before left is) out)
