-- What is done to the buffer, and to pages, as done to the text of the world.
use Rattle.std.proofs.Common.{◌≡◌, ℕ, List, [], ◌∷◌, ◌++◌, Bool, true, false, ◌==◌, if◌then◌else◌, refl, sym, ap, ◌∙◌}
use Rattle.std.proofs.Common.{subst, eqb-true, Option, Some, None, Ok}
use Rattle.std.proofs.lemmas.List.{append_assoc}
use Rattle.std.specs.Prelude.{IfOk}
use Rattle.std.specs.Option.{option_map_or, ok_or}
use Rattle.teco_base.specs.declared.bytes.TheConstants.{FF}
use Rattle.teco_base.specs.declared.code.Code.TheVariants as code
use Rattle.teco_changes.specs.Changes.{Changes}
use Rattle.teco_changes.specs.Worlds.{text_of, written}
use Rattle.teco_changes.specs.declared.change.Change.{Change}
use Rattle.teco_changes.specs.declared.change.Range.{Range}
use Rattle.teco_changes.specs.declared.change.Change.TheVariants as change
use Rattle.teco_changes.proofs.Closure.{changes_stand_anywhere}
use Rattle.teco_changes.proofs.Elements.{no_change, one_change}
use Rattle.teco_law_changes.proofs.Results.{onward, onward_any}
use Rattle.teco_model.specs.Files.{Files, Input, Output, with_written}
use Rattle.teco_model.specs.Going.{with_kept}
use Rattle.teco_model.specs.Pages.{Page, before_form_feed, behind_form_feed, first_page, has_form_feed, written_page}
use Rattle.teco_model.specs.Paging.{append, appended, files_behind_page, fitting, kept_with_page, page_of_buffer}
use Rattle.teco_model.specs.Paging.{page_turned, page_added, page_taken, world_with_next_page, unread}
use Rattle.teco_model.specs.Paging.{world_after_writing, looked_through}
use Rattle.teco_model.specs.State.{Kept, World}

-- the form feed that ended a page, if one did
abbrev mark : Bool → List ℕ
mark ended = if ended then FF ∷ [] else []

-- what is done to the buffer
module _ (changes : List Change) (world : World) (new : Kept) (same : new.form_feed ≡ world.kept.form_feed) where
  abbrev around : List ℕ → List ℕ
  around text = written world.files ++ (text ++ (mark world.kept.form_feed ++ unread world.files))

  around_is : (kept : Kept) → kept.form_feed ≡ world.kept.form_feed → text_of (with_kept kept world) ≡ around kept.text
  around_is kept e =
      ap (λ l. written world.files ++ l)
      (append_assoc kept.text (mark kept.form_feed) (unread world.files)
      ∙ ap (λ b. kept.text ++ (mark b ++ unread world.files)) e)

  pub in_world : Changes changes world.kept.text new.text
      → Changes changes (text_of world) (text_of (with_kept new world))
  in_world h =
      let inside = changes_stand_anywhere changes (written world.files)
      (mark world.kept.form_feed ++ unread world.files) world.kept.text new.text h in
      subst (λ text. Changes changes text (text_of (with_kept new world))) (sym (around_is world.kept refl))
      (subst (λ text. Changes changes (around world.kept.text) text) (sym (around_is new same)) inside)

-- a text is its first page and what stands behind it
parted_at : (ends : Bool) (b : ℕ) (bytes : List ℕ) → (ends ≡ true → b ≡ FF)
    → (before_form_feed bytes ++ mark (has_form_feed bytes)) ++ behind_form_feed bytes ≡ bytes
    → ((if ends then [] else b ∷ before_form_feed bytes) ++ mark (if ends then true else has_form_feed bytes))
    ++ (if ends then bytes else behind_form_feed bytes) ≡ b ∷ bytes
parted_at true b bytes is rest = ap (λ c. c ∷ bytes) (sym (is refl))
parted_at false b bytes is rest = ap (λ l. b ∷ l) rest

pub first_page_parts : (bytes : List ℕ) → written_page (first_page bytes) ++ behind_form_feed bytes ≡ bytes
first_page_parts [] = refl
first_page_parts (b ∷ bytes) = parted_at (b == FF) b bytes (eqb-true b FF) (first_page_parts bytes)

-- an input is unread behind its first page
unread_behind : (files : Files) (input : Option Input)
    → unread (files_behind_page (record files { input = input }))
    ≡ behind_form_feed (unread (record files { input = input }))
unread_behind files None = refl
unread_behind files (Some input) = refl

written_on : (bytes : List ℕ) (output : Option Output) (o : Output) → output ≡ Some o
    → option_map_or (λ (output : Output). output.written) (with_written bytes output) []
    ≡ option_map_or (λ (output : Output). output.written) output [] ++ bytes
written_on bytes None o is = absurd cc
written_on bytes (Some output) o is = refl

-- the buffer is written as a page, and a page of the unread bytes is put in its stead
module _ (world : World) (o : Output) (open_is : world.files.output ≡ Some o) where
  page_goes : (bytes rest : List ℕ) → bytes ++ rest ≡ unread world.files
      → option_map_or (λ (output : Output). output.written)
      (with_written (written_page (page_of_buffer world.kept)) world.files.output) []
      ++ (bytes ++ rest) ≡ text_of world
  page_goes bytes rest is =
      let page : List ℕ = written_page (page_of_buffer world.kept) in
      ap (λ l. l ++ (bytes ++ rest)) (written_on page world.files.output o open_is)
      ∙ append_assoc (written world.files) page (bytes ++ rest)
      ∙ ap (λ l. written world.files ++ (page ++ l)) is

  abbrev next : World
  next = record {
    kept = kept_with_page (first_page (unread world.files)) world.kept;
    files = files_behind_page world.files;
  }

  next_is : IfOk (world_with_next_page world) (λ turned. turned ≡ next)
  next_is =
      let page : Page = first_page (unread world.files) in
      onward (λ kept. kept ≡ kept_with_page page world.kept) (λ turned. turned ≡ next) (page_taken page world.kept)
      (λ kept. Ok (record { kept = kept; files = files_behind_page world.files }))
      (onward_any (λ kept. kept ≡ kept_with_page page world.kept) (fitting page.text)
      (λ text. Ok (kept_with_page page world.kept)) (λ text is. refl))
      (λ kept is. ap (λ kept. record { kept = kept; files = files_behind_page world.files }) is)

  abbrev pub IsTurned : World → Type 0
  IsTurned new = (text_of new ≡ text_of world) × (new.kept.search_text ≡ world.kept.search_text)

  pub turned_is : IsTurned (world_after_writing (written_page (page_of_buffer world.kept)) next)
  turned_is = (
    ap (λ rest. option_map_or (λ (output : Output). output.written)
        (with_written (written_page (page_of_buffer world.kept)) world.files.output) []
        ++ (written_page (first_page (unread world.files)) ++ rest)) (unread_behind world.files world.files.input)
        ∙ page_goes (written_page (first_page (unread world.files))) (behind_form_feed (unread world.files))
        (first_page_parts (unread world.files)),
    refl,
  )

  pub turning_keeps : IfOk (page_turned world) IsTurned
  turning_keeps =
      onward (λ turned. turned ≡ next) IsTurned (world_with_next_page world)
      (λ turned. Ok (world_after_writing (written_page (page_of_buffer world.kept)) turned)) next_is
      (λ turned is. subst (λ turned. IsTurned (world_after_writing (written_page (page_of_buffer world.kept)) turned))
      (sym is) turned_is)

  -- the last page is written, and the buffer is empty
  pub passing_keeps : text_of (looked_through world) ≡ text_of world
  passing_keeps = page_goes [] (unread world.files) refl

-- A takes the form feed that ended the last page in the buffer, and puts the next page behind it
abbrev pub form_feeds : List Range
form_feeds = record { first = FF; last = FF } ∷ []

module _ (world : World) (bytes : List ℕ) (unread_is : unread world.files ≡ bytes) where
  abbrev joined : World
  joined = record {
    kept = record world.kept {
      text = world.kept.text ++ before_form_feed bytes;
      form_feed = has_form_feed bytes;
    };
    files = files_behind_page world.files;
  }

  rest_is : unread (files_behind_page world.files) ≡ behind_form_feed bytes
  rest_is = unread_behind world.files world.files.input ∙ ap behind_form_feed unread_is

  joined_is : text_of joined ≡ (written world.files ++ world.kept.text) ++ bytes
  joined_is =
      ap (λ rest. written world.files
      ++ (((world.kept.text ++ before_form_feed bytes) ++ mark (has_form_feed bytes)) ++ rest))
      rest_is
      ∙ ap (λ l. written world.files ++ l)
      (ap (λ l. l ++ behind_form_feed bytes)
      (append_assoc world.kept.text (before_form_feed bytes) (mark (has_form_feed bytes)))
      ∙ append_assoc world.kept.text (written_page (first_page bytes)) (behind_form_feed bytes)
      ∙ ap (λ l. world.kept.text ++ l) (first_page_parts bytes))
      ∙ sym (append_assoc (written world.files) world.kept.text bytes)

  before_is : text_of world ≡ (written world.files ++ world.kept.text) ++ (mark world.kept.form_feed ++ bytes)
  before_is =
      ap (λ l. written world.files ++ ((world.kept.text ++ mark world.kept.form_feed) ++ l)) unread_is
      ∙ ap (λ l. written world.files ++ l) (append_assoc world.kept.text (mark world.kept.form_feed) bytes)
      ∙ sym (append_assoc (written world.files) world.kept.text (mark world.kept.form_feed ++ bytes))

  form_feed_goes : (ended : Bool) → text_of world ≡ (written world.files ++ world.kept.text) ++ (mark ended ++ bytes)
      → Changes (change.Takes form_feeds ∷ []) (text_of world) (text_of joined)
  form_feed_goes true is = one_change (change.Takes form_feeds) (text_of world) (text_of joined) (record {
    front = written world.files ++ world.kept.text;
    taken = FF ∷ [];
    put = [];
    back = bytes;
    old_is = is;
    new_is = joined_is;
    takes = (FF, refl, refl);
    puts = refl;
  })
  form_feed_goes false is =
      no_change (change.Takes form_feeds ∷ []) (text_of world) (text_of joined) (is ∙ sym joined_is)

abbrev pub IsJoined : World → World → Type 0
IsJoined world new = Changes (change.Takes form_feeds ∷ []) (text_of world) (text_of new)

joined_by : (world : World) (bytes : List ℕ) → unread world.files ≡ bytes → IfOk (appended bytes world) (IsJoined world)
joined_by world [] is = no_change (change.Takes form_feeds ∷ []) (text_of world) (text_of world) refl
joined_by world (b ∷ bytes) is =
    let page : Page = first_page (b ∷ bytes) in
    let kept : Kept = record world.kept { text = world.kept.text ++ page.text; form_feed = page.ff } in
    onward (λ (k : Kept). k ≡ kept) (IsJoined world) (page_added page world.kept)
    (λ kept. Ok (record { kept = kept; files = files_behind_page world.files }))
    (onward_any (λ k. k ≡ kept) (fitting (world.kept.text ++ page.text)) (λ text. Ok kept) (λ text is. refl))
    (λ k same. subst (λ k. IsJoined world (record { kept = k; files = files_behind_page world.files })) (sym same)
    (form_feed_goes world (b ∷ bytes) is world.kept.form_feed (before_is world (b ∷ bytes) is)))

input_is : (files : Files) (input : Input) (there : Option Input) → ok_or there code.Nfi ≡ Ok input
    → unread (record files { input = there }) ≡ input.unread
input_is files input None is = absurd cc
input_is files input (Some other) is = let same : other ≡ input = cc in ap (λ (i : Input). i.unread) same

pub appending_joins : (world : World) → IfOk (append world) (IsJoined world)
appending_joins world =
    onward_any (IsJoined world) (ok_or world.files.input code.Nfi) (λ input. appended input.unread world)
    (λ input is. joined_by world input.unread (input_is world.files input world.files.input is))
