-- What is unread where an edit turns pages.
use Rattle.std.proofs.Common.{◌≡◌, ◌≢◌, ◌≤◌, ◌+◌, ℕ, suc, List, [], ◌∷◌, ◌++◌, length, Bool}
use Rattle.std.proofs.Common.{true, false, ◌==◌, if◌then◌else◌, Option, Some, None, IsSome, option_map, refl}
use Rattle.std.proofs.Common.{ap, ◌∙◌, arith, length-append}
use Rattle.std.proofs.Math.Seq.{drop-length, take-length}
use Rattle.std.proofs.lemmas.List.{append-nil}
use Rattle.std.specs.Option.{option_map_or}
use Rattle.teco_base.specs.declared.bytes.TheConstants.{FF}
use Rattle.teco_law_edits.specs.Texts.{gathered, more_text, next_page}
use Rattle.teco_model.specs.Files.{Files, Input, Output, with_written}
use Rattle.teco_model.specs.Pages.{before_form_feed, behind_first_page, first_page, written_page}
use Rattle.teco_model.specs.Paging.{files_behind_page, page_of_buffer, unread}
use Rattle.teco_model.specs.State.{World}
use Rattle.teco_law_edits.proofs.Running.{IsOpen}

-- ---- a page and what is behind it
first_is_less : (bytes : List ℕ) → length (before_form_feed bytes) ≤ length bytes
first_is_less [] = omega arith
first_is_less (b ∷ bytes) = by (b == FF) (first_is_less bytes)
  where
    by : (ends : Bool) → length (before_form_feed bytes) ≤ length bytes
        → length (if ends then [] else b ∷ before_form_feed bytes) ≤ suc (length bytes)
    by true less = omega arith
    by false less = omega (arith, less)

pub page_is_less : (bytes : List ℕ) → length (first_page bytes).text ≤ length bytes
page_is_less bytes = first_is_less bytes

-- some byte goes with each page
pub behind_is_less : (bytes : List ℕ) → length (behind_first_page bytes) ≤ length bytes
behind_is_less [] = omega arith
behind_is_less (b ∷ bytes) = by (b == FF) (behind_is_less bytes)
  where
    by : (ends : Bool) → length (behind_first_page bytes) ≤ length bytes
        → length (if ends then bytes else behind_first_page bytes) ≤ suc (length bytes)
    by true less = omega arith
    by false less = omega (arith, less)

pub page_takes_one : (bytes : List ℕ) → bytes ≢ [] → 1 + length (behind_first_page bytes) ≤ length bytes
page_takes_one [] some = absurd (some refl)
page_takes_one (b ∷ bytes) some = by (b == FF) (behind_is_less bytes)
  where
    by : (ends : Bool) → length (behind_first_page bytes) ≤ length bytes
        → 1 + length (if ends then bytes else behind_first_page bytes) ≤ suc (length bytes)
    by true less = omega arith
    by false less = omega (arith, less)

-- where bytes are behind a page, a form feed is between them
pub page_parts : (bytes : List ℕ) → behind_first_page bytes ≢ []
    → length (before_form_feed bytes) + 1 + length (behind_first_page bytes) ≡ length bytes
page_parts [] some = absurd (some refl)
page_parts (b ∷ bytes) some = by (b == FF) (page_parts bytes) some
  where
    by : (ends : Bool)
        → (behind_first_page bytes ≢ []
        → length (before_form_feed bytes) + 1 + length (behind_first_page bytes) ≡ length bytes)
        → (if ends then bytes else behind_first_page bytes) ≢ []
        → length (if ends then [] else b ∷ before_form_feed bytes) + 1
        + length (if ends then bytes else behind_first_page bytes) ≡ suc (length bytes)
    by true parts some = omega arith
    by false parts some = let all = parts some in omega (arith, all)

-- ---- what stays open
there : {X : Type 0} (o : Option X) → IsSome o → (x : X) × (o ≡ Some x)
there None is = absurd (cc)
there (Some x) is = (x, refl)

pub output_there : {X : Type 0} (o : Option X) → IsSome o → (x : X) × (o ≡ Some x)
output_there o is = there o is

still : {X Y : Type 0} (f : X → Y) (o : Option X) → IsSome o → IsSome (option_map f o)
still f None is = absurd (cc)
still f (Some x) is = refl

still_written : (bytes : List ℕ) (o : Option Output) → IsSome o → IsSome (with_written bytes o)
still_written bytes None is = absurd (cc)
still_written bytes (Some output) is = refl

unread_behind : (input : Option Input)
    → option_map_or (λ (i : Input). i.unread)
    (option_map (λ (i : Input). record i { unread = behind_first_page i.unread }) input) []
    ≡ behind_first_page (option_map_or (λ (i : Input). i.unread) input [])
unread_behind None = refl
unread_behind (Some input) = refl

pub behind_page : (files : Files) → unread (files_behind_page files) ≡ behind_first_page (unread files)
behind_page files = unread_behind files.input

pub turned_open : (most : ℕ) (old : World) → IsOpen most old.files → IsOpen most (next_page old).files
turned_open most old h = record {
  input = still _ old.files.input h.input;
  output = still_written (written_page (page_of_buffer old.kept)) old.files.output h.output;
  few = let same = ap length (behind_page old.files) in
      omega (arith, same, behind_is_less (unread old.files), h.few);
}

pub gathered_open : (most : ℕ) (old : World) → IsOpen most old.files → IsOpen most (gathered old).files
gathered_open most old h = record {
  input = still _ old.files.input h.input;
  output = h.output;
  few = let same = ap length (behind_page old.files) in
      omega (arith, same, behind_is_less (unread old.files), h.few);
}

-- ---- the buffer with more pages
pub more_length : (world : World) → length (more_text world) ≡ length world.kept.text + 1
more_length world =
    let front : more_text world ≡ (world.kept.text ++ (FF ∷ [])) ++ [] =
    rw (take-length world.kept.text, drop-length world.kept.text) refl in
    ap length (front ∙ append-nil (world.kept.text ++ (FF ∷ []))) ∙ length-append world.kept.text (FF ∷ [])

-- bytes that are unread are those of an input
pub some_unread : (input : Option Input) → option_map_or (λ (i : Input). i.unread) input [] ≢ []
    → (i : Input) × (b : ℕ) × (bytes : List ℕ) × (input ≡ Some i) × (i.unread ≡ b ∷ bytes)
some_unread None some = absurd (some refl)
some_unread (Some input) some = by input.unread refl
  where
    by : (bytes : List ℕ) → input.unread ≡ bytes
        → (i : Input) × (b : ℕ) × (rest : List ℕ) × (Some input ≡ Some i) × (i.unread ≡ b ∷ rest)
    by [] is = absurd (some is)
    by (b ∷ rest) is = (input, b, rest, refl, is)
