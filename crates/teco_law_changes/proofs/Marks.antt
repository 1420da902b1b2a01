-- Whether a form feed ended the last page stays as it is, by each command.
use Rattle.std.proofs.Common.{◌≡◌, ℕ, ℤ, pos, negsuc, zero, suc, ◌+◌, List, [], ◌∷◌, ◌++◌, length, refl}
use Rattle.std.proofs.Common.{Option, Some, None}
use Rattle.std.specs.Prelude.{Result, IfOk, nat_le}
use Rattle.teco_base.specs.Arithmetic.{byte_of}
use Rattle.teco_base.specs.Text.{text_after_insertion}
use Rattle.teco_base.specs.declared.TheConstants.{LIMIT}
use Rattle.teco_base.specs.declared.bytes.TheConstants.{TAB}
use Rattle.teco_base.specs.declared.code.Code.{Code}
use Rattle.teco_base.specs.declared.code.Code.TheVariants as code
use Rattle.teco_law_changes.proofs.Results.{tested, onward_any}
use Rattle.teco_model.specs.Deletion.{character_deletion, deletion_of, part_deletion}
use Rattle.teco_model.specs.Effect.{Effect, needed_value}
use Rattle.teco_model.specs.Element.{Element}
use Rattle.teco_model.specs.Insertion.{insertion_of, insertion_with}
use Rattle.teco_model.specs.Motion.{motion, motion_to, target}
use Rattle.teco_model.specs.Places.{characters_of, part_named, part_of, place_in}
use Rattle.teco_model.specs.State.{Kept}
use Rattle.teco_model.specs.Step.{execution}
use Rattle.teco_model.specs.Storage.{own_text_storage, retrieval, storage, text_in, text_setting}
use Rattle.teco_model.specs.Storage.{text_storage}
use Rattle.teco_model.specs.Typing.{typing}
use Rattle.teco_model.specs.declared.arguments.Taken.{Taken}
use Rattle.teco_model.specs.declared.kind.Command.{Command}
use Rattle.teco_model.specs.declared.kind.Command.TheVariants as command
use Rattle.teco_model.specs.declared.kind.Insertion.{Insertion}
use Rattle.teco_model.specs.declared.kind.Insertion.TheVariants as insertion_kind
use Rattle.teco_model.specs.declared.kind.Motion.{Motion}
use Rattle.teco_model.specs.declared.kind.Motion.TheVariants as motion_kind
use Rattle.teco_model.specs.declared.kind.Storage.{Storage}
use Rattle.teco_model.specs.declared.kind.Storage.TheVariants as storage_kind
use Rattle.teco_model.specs.declared.kind.Typing.{Typing}
use Rattle.teco_model.specs.declared.kind.Typing.TheVariants as typing_kind
use Rattle.teco_model.specs.declared.kind.Unit.{Unit as Counted}
use Rattle.teco_model.specs.declared.kind.Unit.TheVariants.{Characters, Lines}

module _ (kept : Kept) where
  abbrev pub HasMark : Effect → Type 0
  HasMark effect = effect.kept.form_feed ≡ kept.form_feed

  abbrev pub KeepsMark : Result Effect Code → Type 0
  KeepsMark r = IfOk r HasMark

  pub inserted : (new : List ℕ) → KeepsMark (insertion_of new kept)
  inserted new =
      tested HasMark (nat_le (length (text_after_insertion kept.text kept.pointer new)) LIMIT) _ code.Ful refl

  insertions : (i : Insertion) (text : List ℕ) (value : Option ℤ) → KeepsMark (insertion_with i text value kept)
  insertions insertion_kind.Text text None = inserted text
  insertions insertion_kind.Text [] (Some n) = inserted (byte_of n ∷ [])
  insertions insertion_kind.Text (c ∷ text) (Some n) = tt
  insertions insertion_kind.Tab text None = inserted (TAB ∷ text)
  insertions insertion_kind.Tab text (Some n) = tt

  by_part : (first value : Option ℤ) → KeepsMark (part_deletion first value kept)
  by_part first value = onward_any HasMark (part_named first value kept) _ (λ part is. refl)

  by_characters : (n : ℤ) → KeepsMark (character_deletion n kept)
  by_characters (pos n) =
      tested HasMark (nat_le (kept.pointer + n) (length kept.text)) _ code.Dtb refl
  by_characters (negsuc n) = tested HasMark (nat_le (suc n) kept.pointer) _ code.Dtb refl

  deletions : (unit : Counted) (first value : Option ℤ) → KeepsMark (deletion_of unit first value kept)
  deletions Lines first value = by_part first value
  deletions Characters (Some m) (Some n) = by_part (Some m) (Some n)
  deletions Characters (Some m) None = by_characters (pos 1)
  deletions Characters None (Some n) = by_characters n
  deletions Characters None None = by_characters (pos 1)

  moved : (colons : ℕ) (place : Option ℕ) → KeepsMark (motion_to colons place kept)
  moved zero None = tt
  moved zero (Some place) = refl
  moved (suc n) None = refl
  moved (suc n) (Some place) = refl

  motions : (m : Motion) (e : Element) (taken : Taken) → KeepsMark (motion m e taken kept)
  motions motion_kind.Lines e taken = refl
  motions motion_kind.Forward e taken =
      moved e.colons (place_in kept.text (target motion_kind.Forward kept.pointer taken.value))
  motions motion_kind.Backward e taken =
      moved e.colons (place_in kept.text (target motion_kind.Backward kept.pointer taken.value))
  motions motion_kind.To e taken =
      moved e.colons (place_in kept.text (target motion_kind.To kept.pointer taken.value))

  typings : (t : Typing) (e : Element) (taken : Taken) → KeepsMark (typing t e taken kept)
  typings typing_kind.Part e taken = onward_any HasMark (part_of taken kept) _ (λ part is. refl)
  typings typing_kind.View e taken = refl
  typings typing_kind.Message e taken = refl
  typings typing_kind.Byte e taken = onward_any HasMark (needed_value taken.value) _ (λ n is. refl)
  typings (typing_kind.Number radix) e taken = onward_any HasMark (needed_value taken.value) _ (λ n is. refl)

  set : (r : ℕ) (text : List ℕ) → KeepsMark (text_setting r text kept)
  set r text = tested HasMark (nat_le (length text) LIMIT) _ code.Ful refl

  put : (colons r : ℕ) (text : List ℕ) → KeepsMark (text_storage colons r text kept)
  put zero r text = set r text
  put (suc colons) r text = set r (text_in r kept ++ text)

  put_own : (colons r : ℕ) (text : List ℕ) (value : Option ℤ) → KeepsMark (own_text_storage colons r text value kept)
  put_own colons r text None = put colons r text
  put_own colons r text (Some n) = tt

  retrieved : (colons r : ℕ) → KeepsMark (retrieval colons r kept)
  retrieved zero r = inserted (text_in r kept)
  retrieved (suc colons) r = refl

  stores : (s : Storage) (e : Element) (taken : Taken) → KeepsMark (storage s e taken kept)
  stores (storage_kind.Get r) e taken = retrieved e.colons r
  stores (storage_kind.SetNumber r) e taken = onward_any HasMark (needed_value taken.value) _ (λ n is. refl)
  stores (storage_kind.Add r) e taken = refl
  stores (storage_kind.Copy r) e taken =
      onward_any HasMark (part_of taken kept) _ (λ part is. put e.colons r (characters_of part kept))
  stores (storage_kind.SetText r) e taken = put_own e.colons r e.text taken.value

  pub commands_keep_mark : (c : Command) (e : Element) (taken : Taken) → KeepsMark (execution c e taken kept)
  commands_keep_mark (command.Motion m) e taken = motions m e taken
  commands_keep_mark (command.Deletion unit) e taken = deletions unit taken.first taken.value
  commands_keep_mark (command.Insertion i) e taken = insertions i e.text taken.value
  commands_keep_mark (command.Typing t) e taken = typings t e taken
  commands_keep_mark (command.Storage s) e taken = stores s e taken
