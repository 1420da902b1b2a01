-- Commands that leave the buffer's text as it is; and each command, as its changes.
use Rattle.std.proofs.Common.{◌≡◌, ℕ, ℤ, pos, zero, suc, List, [], ◌∷◌, ◌++◌, length, Option, Some, None, ap}
use Rattle.std.specs.Prelude.{Result, Ok, nat_le, unwrap_or}
use Rattle.teco_base.specs.declared.TheConstants.{LIMIT}
use Rattle.teco_base.specs.declared.code.Code.{Code}
use Rattle.teco_changes.specs.Changes.{Changes}
use Rattle.teco_changes.specs.Elements.{commanded}
use Rattle.teco_changes.specs.Told.{CommandsAreTold}
use Rattle.teco_changes.proofs.Elements.{bound, deletions_are_told, insertions_are_told, no_change, ok_is, passed}
use Rattle.teco_changes.proofs.Elements.{retrievals_are_told}
use Rattle.teco_model.specs.Effect.{Effect, needed_value, no_answer}
use Rattle.teco_model.specs.Element.{Element}
use Rattle.teco_model.specs.Motion.{motion, motion_to, target}
use Rattle.teco_model.specs.Places.{characters_of, part_of, place_in}
use Rattle.teco_model.specs.State.{Kept}
use Rattle.teco_model.specs.Storage.{addition, kept_with_number, own_text_storage, storage, text_in, text_setting}
use Rattle.teco_model.specs.Storage.{text_storage}
use Rattle.teco_model.specs.Typing.{line_end, number_text, typing, typing_of}
use Rattle.teco_model.specs.declared.arguments.Taken.{Taken}
use Rattle.teco_model.specs.declared.kind.Command.TheVariants as command
use Rattle.teco_model.specs.declared.kind.Motion.{Motion}
use Rattle.teco_model.specs.declared.kind.Motion.TheVariants as motion_kind
use Rattle.teco_model.specs.declared.kind.Storage.{Storage}
use Rattle.teco_model.specs.declared.kind.Storage.TheVariants as storage_kind
use Rattle.teco_model.specs.declared.kind.Typing.{Typing}
use Rattle.teco_model.specs.declared.kind.Typing.TheVariants as typing_kind
use Rattle.teco_base.specs.Arithmetic.{byte_of}

abbrev Leaves : Kept → Effect → Type 0
Leaves kept effect = kept.text ≡ effect.kept.text

pub same_text : (done effect : Effect) → ◌≡◌ {A = Result Effect Code} (Ok done) (Ok effect)
    → done.kept.text ≡ effect.kept.text
same_text done effect h = ap (λ e. e.kept.text) (ok_is done effect h)

moved : (colons : ℕ) (place : Option ℕ) (kept : Kept) (effect : Effect) → motion_to colons place kept ≡ Ok effect
    → Leaves kept effect
moved zero None kept effect h = absurd cc
moved zero (Some place) kept effect h = same_text _ effect h
moved (suc n) None kept effect h = same_text _ effect h
moved (suc n) (Some place) kept effect h = same_text _ effect h

motions : (m : Motion) (e : Element) (taken : Taken) (kept : Kept) (effect : Effect)
    → motion m e taken kept ≡ Ok effect → Leaves kept effect
motions motion_kind.Lines e taken kept effect h = same_text _ effect h
motions motion_kind.Forward e taken kept effect h =
    moved e.colons (place_in kept.text (target motion_kind.Forward kept.pointer taken.value)) kept effect h
motions motion_kind.Backward e taken kept effect h =
    moved e.colons (place_in kept.text (target motion_kind.Backward kept.pointer taken.value)) kept effect h
motions motion_kind.To e taken kept effect h =
    moved e.colons (place_in kept.text (target motion_kind.To kept.pointer taken.value)) kept effect h

typings : (t : Typing) (e : Element) (taken : Taken) (kept : Kept) (effect : Effect)
    → typing t e taken kept ≡ Ok effect → Leaves kept effect
typings typing_kind.Part e taken kept effect h =
    let done = bound (part_of taken kept) (λ part. Ok (typing_of (characters_of part kept) kept)) effect h in
    same_text _ effect done.gives
typings typing_kind.View e taken kept effect h = same_text _ effect h
typings typing_kind.Message e taken kept effect h = same_text _ effect h
typings typing_kind.Byte e taken kept effect h =
    let done = bound (needed_value taken.value) (λ n. Ok (typing_of (byte_of n ∷ []) kept)) effect h in
    same_text _ effect done.gives
typings (typing_kind.Number radix) e taken kept effect h =
    let done = bound (needed_value taken.value)
    (λ n. Ok (typing_of (number_text radix n ++ line_end e.colons) kept)) effect h in
    same_text _ effect done.gives

set : (r : ℕ) (text : List ℕ) (kept : Kept) (effect : Effect) → text_setting r text kept ≡ Ok effect
    → Leaves kept effect
set r text kept effect h = ap (λ e. e.kept.text) (passed (nat_le (length text) LIMIT) _ effect _ h)

put : (colons r : ℕ) (text : List ℕ) (kept : Kept) (effect : Effect) → text_storage colons r text kept ≡ Ok effect
    → Leaves kept effect
put zero r text kept effect h = set r text kept effect h
put (suc colons) r text kept effect h = set r (text_in r kept ++ text) kept effect h

put_own : (colons r : ℕ) (text : List ℕ) (value : Option ℤ) (kept : Kept) (effect : Effect)
    → own_text_storage colons r text value kept ≡ Ok effect → Leaves kept effect
put_own colons r text None kept effect h = put colons r text kept effect h
put_own colons r text (Some n) kept effect h = absurd cc

stores : (s : Storage) (e : Element) (taken : Taken) (kept : Kept) (effect : Effect)
    → storage s e taken kept ≡ Ok effect
    → Changes (commanded (command.Storage s) e) kept.text effect.kept.text
stores (storage_kind.Get r) e taken kept effect h = retrievals_are_told r e.colons kept effect h
stores (storage_kind.SetNumber r) e taken kept effect h =
    let done = bound (needed_value taken.value) (λ n. Ok (no_answer (kept_with_number r n kept))) effect h in
    no_change [] kept.text effect.kept.text (same_text _ effect done.gives)
stores (storage_kind.Add r) e taken kept effect h =
    no_change [] kept.text effect.kept.text (same_text (addition r (unwrap_or taken.value (pos 1)) kept) effect h)
stores (storage_kind.Copy r) e taken kept effect h =
    let done = bound (part_of taken kept) (λ part. text_storage e.colons r (characters_of part kept) kept) effect h in
    no_change [] kept.text effect.kept.text
    (put e.colons r (characters_of done.value kept) kept effect done.gives)
stores (storage_kind.SetText r) e taken kept effect h =
    no_change [] kept.text effect.kept.text (put_own e.colons r e.text taken.value kept effect h)

pub commands_are_told : CommandsAreTold
commands_are_told (command.Motion m) e taken kept effect h =
    no_change [] kept.text effect.kept.text (motions m e taken kept effect h)
commands_are_told (command.Deletion unit) e taken kept effect h = deletions_are_told unit e taken kept effect h
commands_are_told (command.Insertion i) e taken kept effect h = insertions_are_told i e taken kept effect h
commands_are_told (command.Typing t) e taken kept effect h =
    no_change [] kept.text effect.kept.text (typings t e taken kept effect h)
commands_are_told (command.Storage s) e taken kept effect h = stores s e taken kept effect h
