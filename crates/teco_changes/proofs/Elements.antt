-- What commands do to the buffer, as changes.
use Rattle.std.proofs.Common.{◌≡◌, ℕ, ℤ, pos, negsuc, zero, suc, ◌+◌, ◌-◌, ◌≤◌, List, [], ◌∷◌, ◌++◌, length}
use Rattle.std.proofs.Common.{take, drop, Bool, true, false, cond, refl, sym, subst, ap, ◌∙◌, arith, Option, Some, None}
use Rattle.std.proofs.lemmas.List.{append_assoc, drop-drop, take-append-drop}
use Rattle.std.specs.Prelude.{Result, Ok, Err, nat_le, ok_or, unwrap_or}
use Rattle.teco_base.specs.Arithmetic.{byte_of}
use Rattle.teco_base.specs.Results.{◌>>=◌}
use Rattle.teco_base.specs.Text.{text_after_insertion}
use Rattle.teco_base.specs.declared.TheConstants.{LIMIT}
use Rattle.teco_base.specs.declared.bytes.TheConstants.{TAB}
use Rattle.teco_base.specs.declared.code.Code.{Code}
use Rattle.teco_base.specs.declared.code.Code.TheVariants as code
use Rattle.teco_changes.specs.Changes.{Changes, IsChange, IsPut, IsTaken}
use Rattle.teco_changes.specs.Elements.{commanded, inserted, stored}
use Rattle.teco_changes.specs.declared.change.Change.{Change}
use Rattle.teco_changes.specs.declared.change.Change.TheVariants as change
use Rattle.teco_model.specs.Deletion.{character_deletion, deletion, deletion_between, deletion_of, part_deletion}
use Rattle.teco_model.specs.Effect.{Effect}
use Rattle.teco_model.specs.Element.{Element}
use Rattle.teco_model.specs.declared.arguments.Taken.{Taken}
use Rattle.teco_model.specs.Insertion.{insertion, insertion_of, insertion_with}
use Rattle.teco_model.specs.Places.{part_named, place_in, span_between}
use Rattle.teco_model.specs.State.{Kept}
use Rattle.teco_model.specs.Storage.{retrieval, text_in}
use Rattle.teco_model.specs.declared.kind.Command.TheVariants as command
use Rattle.teco_model.specs.declared.kind.Storage.TheVariants as storage
use Rattle.teco_model.specs.declared.kind.Unit.{Unit as Counted}
use Rattle.teco_model.specs.Typing.{typing_of}
use Rattle.teco_model.specs.declared.kind.Insertion.{Insertion}
use Rattle.teco_model.specs.declared.kind.Insertion.TheVariants as insertion_kind
use Rattle.teco_model.specs.declared.kind.Unit.TheVariants.{Characters, Lines}
use Rattle.teco_model.specs.declared.pattern.Span.{Span}

-- I and TAB
abbrev pub InsertionsAreTold : Type 0
InsertionsAreTold =
    (i : Insertion) (element : Element) (taken : Taken) (kept : Kept) (effect : Effect)
    → insertion i element taken kept ≡ Ok effect → Changes (inserted i element.text) kept.text effect.kept.text

-- D and K
abbrev pub DeletionsAreTold : Type 0
DeletionsAreTold =
    (unit : Counted) (element : Element) (taken : Taken) (kept : Kept) (effect : Effect)
    → deletion unit taken kept ≡ Ok effect
    → Changes (commanded (command.Deletion unit) element) kept.text effect.kept.text

-- G
abbrev pub RetrievalsAreTold : Type 0
RetrievalsAreTold =
    (register colons : ℕ) (kept : Kept) (effect : Effect) → retrieval colons register kept ≡ Ok effect
    → Changes (stored (storage.Get register) colons) kept.text effect.kept.text

pub one_change : (change : Change) (old new : List ℕ) → IsChange change old new → Changes (change ∷ []) old new
one_change change old new does = (
  1,
  (
    new,
    record {
      change = change;
      listed = (0, omega arith, refl);
      does = does;
    },
    refl,
  ),
)

pub no_change : (changes : List Change) (old new : List ℕ) → old ≡ new → Changes changes old new
no_change changes old new e = (0, e)

-- a test that passed
pub passed : {X : Type 0} (t : Bool) (x y : X) (c : Code) → cond t (Ok x) (Err c) ≡ Ok y → x ≡ y
passed true x y c h = cc
passed false x y c h = absurd cc

pub ok_is : {X : Type 0} (x y : X) → ◌≡◌ {A = Result X Code} (Ok x) (Ok y) → x ≡ y
ok_is x y h = cc

pub record IsBound {X Y : Type 0} (r : Result X Code) (f : X → Result Y Code) (y : Y) : Type 0 where
  pub value : X
  pub was : r ≡ Ok value
  pub gives : f value ≡ Ok y

pub bound : {X Y : Type 0} (r : Result X Code) (f : X → Result Y Code) (y : Y) → r >>= f ≡ Ok y → IsBound r f y
bound (Ok x) f y h = record { value = x; was = refl; gives = h }
bound (Err c) f y h = absurd cc

inserted_text : (new : List ℕ) (kept : Kept) (effect : Effect) → insertion_of new kept ≡ Ok effect
    → effect.kept.text ≡ text_after_insertion kept.text kept.pointer new
inserted_text new kept effect h =
    sym (ap (λ e. e.kept.text)
    (passed (nat_le (length (text_after_insertion kept.text kept.pointer new)) LIMIT) _ effect _ h))

pub put_in : (change : Change) (new : List ℕ) → IsTaken change [] → IsPut change new
    → (kept : Kept) (effect : Effect) → insertion_of new kept ≡ Ok effect
    → Changes (change ∷ []) kept.text effect.kept.text
put_in change new takes puts kept effect h =
    one_change change kept.text effect.kept.text (record {
      front = take kept.pointer kept.text;
      taken = [];
      put = new;
      back = drop kept.pointer kept.text;
      old_is = sym (take-append-drop kept.pointer kept.text);
      new_is = inserted_text new kept effect h
          ∙ append_assoc (take kept.pointer kept.text) new (drop kept.pointer kept.text);
      takes = takes;
      puts = puts;
    })

nothing_put : (changes : List Change) (kept : Kept) (effect : Effect) → insertion_of [] kept ≡ Ok effect
    → Changes changes kept.text effect.kept.text
nothing_put changes kept effect h =
    no_change changes kept.text effect.kept.text
    (sym (take-append-drop kept.pointer kept.text)
    ∙ sym (append_assoc (take kept.pointer kept.text) [] (drop kept.pointer kept.text))
    ∙ sym (inserted_text [] kept effect h))

by_value : (i : Insertion) (text : List ℕ) (value : Option ℤ) (kept : Kept) (effect : Effect)
    → insertion_with i text value kept ≡ Ok effect → Changes (inserted i text) kept.text effect.kept.text
by_value insertion_kind.Text [] None kept effect h = nothing_put (change.PutsByte ∷ []) kept effect h
by_value insertion_kind.Text [] (Some n) kept effect h =
    put_in change.PutsByte (byte_of n ∷ []) refl (byte_of n, refl) kept effect h
by_value insertion_kind.Text (c ∷ text) None kept effect h =
    put_in (change.Puts (c ∷ text)) (c ∷ text) refl refl kept effect h
by_value insertion_kind.Text (c ∷ text) (Some n) kept effect h = absurd cc
by_value insertion_kind.Tab text None kept effect h =
    put_in (change.Puts (TAB ∷ text)) (TAB ∷ text) refl refl kept effect h
by_value insertion_kind.Tab text (Some n) kept effect h = absurd cc

pub insertions_are_told : InsertionsAreTold
insertions_are_told i element taken kept effect h = by_value i element.text taken.value kept effect h

pub retrievals_are_told : RetrievalsAreTold
retrievals_are_told register zero kept effect h =
    put_in (change.PutsText register) (text_in register kept) refl tt kept effect h
retrievals_are_told register (suc colons) kept effect h =
    no_change [] kept.text effect.kept.text
    (ap (λ e. e.kept.text) (ok_is (typing_of (text_in register kept) kept) effect h))

-- a piece of a text, between what stands before and behind it
parted : (a b : ℕ) (text : List ℕ) → a ≤ b → text ≡ take a text ++ (take (b - a) (drop a text) ++ drop b text)
parted a b text ordered =
    let whole : a + (b - a) ≡ b = omega arith in
    sym (take-append-drop a text)
    ∙ ap (λ l. take a text ++ l) (sym (take-append-drop (b - a) (drop a text)))
    ∙ ap (λ l. take a text ++ (take (b - a) (drop a text) ++ l))
    (drop-drop (b - a) a text ∙ ap (λ n. drop n text) whole)

taken_out : (a b : ℕ) (kept : Kept) (effect : Effect) → a ≤ b
    → ◌≡◌ {A = Result Effect Code} (Ok (deletion_between a b kept)) (Ok effect)
    → Changes (change.TakesAny ∷ []) kept.text effect.kept.text
taken_out a b kept effect ordered h =
    let same : deletion_between a b kept ≡ effect = ok_is (deletion_between a b kept) effect h in
    one_change change.TakesAny kept.text effect.kept.text (record {
      front = take a kept.text;
      taken = take (b - a) (drop a kept.text);
      put = [];
      back = drop b kept.text;
      old_is = parted a b kept.text ordered;
      new_is = sym (ap (λ e. e.kept.text) same);
      takes = tt;
      puts = refl;
    })

tested : (t : Bool) (a b : ℕ) (c : Code) (kept : Kept) (effect : Effect) → a ≤ b
    → cond t (Ok (deletion_between a b kept)) (Err c) ≡ Ok effect
    → Changes (change.TakesAny ∷ []) kept.text effect.kept.text
tested true a b c kept effect ordered h = taken_out a b kept effect ordered h
tested false a b c kept effect ordered h = absurd cc

by_characters : (n : ℤ) (kept : Kept) (effect : Effect) → character_deletion n kept ≡ Ok effect
    → Changes (change.TakesAny ∷ []) kept.text effect.kept.text
by_characters (pos n) kept effect h =
    tested (nat_le (kept.pointer + n) (length kept.text)) kept.pointer (kept.pointer + n) _ kept effect (omega arith) h
by_characters (negsuc n) kept effect h =
    tested (nat_le (suc n) kept.pointer) (kept.pointer - suc n) kept.pointer _ kept effect (omega arith) h

between_ordered : (a b : ℕ) → (span_between a b).start ≤ (span_between a b).end
between_ordered a b = omega arith

abbrev IsOrdered : Span → Type 0
IsOrdered span = span.start ≤ span.end

of_span : (span : Span) (a b : ℕ) → ◌≡◌ {A = Result Span Code} (Ok (span_between a b)) (Ok span) → IsOrdered span
of_span span a b h =
    let same : span_between a b ≡ span = ok_is (span_between a b) span h in
    subst (λ s. IsOrdered s) same (between_ordered a b)

part_ordered : (first value : Option ℤ) (kept : Kept) (span : Span) → part_named first value kept ≡ Ok span
    → IsOrdered span
part_ordered (Some m) (Some n) kept span h =
    let a : Result ℕ Code = ok_or (place_in kept.text m) code.Pop in
    let b : Result ℕ Code = ok_or (place_in kept.text n) code.Pop in
    let from = bound a (λ x. b >>= (λ y. Ok (span_between x y))) span h in
    let to = bound b (λ y. Ok (span_between from.value y)) span from.gives in
    of_span span from.value to.value to.gives
part_ordered (Some m) None kept span h = of_span span kept.pointer _ h
part_ordered None (Some n) kept span h = of_span span kept.pointer _ h
part_ordered None None kept span h = of_span span kept.pointer _ h

by_part : (first value : Option ℤ) (kept : Kept) (effect : Effect) → part_deletion first value kept ≡ Ok effect
    → Changes (change.TakesAny ∷ []) kept.text effect.kept.text
by_part first value kept effect h =
    let part = bound (part_named first value kept) (λ p. Ok (deletion_between p.start p.end kept)) effect h in
    taken_out part.value.start part.value.end kept effect
    (part_ordered first value kept part.value part.was) part.gives

by_either : (first value : Option ℤ) (kept : Kept) (effect : Effect)
    → deletion_of Characters first value kept ≡ Ok effect
    → Changes (change.TakesAny ∷ []) kept.text effect.kept.text
by_either (Some m) (Some n) kept effect h = by_part (Some m) (Some n) kept effect h
by_either (Some m) None kept effect h = by_characters (unwrap_or None (pos 1)) kept effect h
by_either None (Some n) kept effect h = by_characters (unwrap_or (Some n) (pos 1)) kept effect h
by_either None None kept effect h = by_characters (unwrap_or None (pos 1)) kept effect h

pub deletions_are_told : DeletionsAreTold
deletions_are_told Lines element taken kept effect h = by_part taken.first taken.value kept effect h
deletions_are_told Characters element taken kept effect h =
    by_either taken.first taken.value kept effect h
