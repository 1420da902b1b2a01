-- The text of the world stays as it is where an edit turns pages, and is the target's where it is closed.
use Rattle.std.proofs.Common.{◌≡◌, ◌≢◌, ℕ, List, [], ◌∷◌, ◌++◌, Bool, true, false, ◌==◌, if◌then◌else◌, bytes_eq}
use Rattle.std.proofs.Common.{Option, Some, None, option_map, refl, sym, ap, ◌∙◌}
use Rattle.std.proofs.Math.Seq.{drop-length, take-length}
use Rattle.std.proofs.lemmas.List.{append-nil, append_assoc}
use Rattle.std.proofs.lemmas.Slice.Eq.{bytes_eq-Decides}
use Rattle.teco_base.specs.declared.bytes.TheConstants.{FF}
use Rattle.teco_changes.specs.Worlds.{text_of, written}
use Rattle.teco_law_changes.proofs.Worlds.{first_page_parts, turned_is}
use Rattle.teco_law_edits.proofs.Opening.{opened}
use Rattle.teco_law_edits.proofs.Pages.{behind_page}
use Rattle.teco_law_edits.specs.Texts.{gathered, more_text, next_page}
use Rattle.teco_law_runs.specs.Staying.{output_name}
use Rattle.teco_model.specs.Files.{File, Output, file_named, with_file, with_written}
use Rattle.teco_model.specs.Filing.{world_copied}
use Rattle.teco_model.specs.Pages.{behind_form_feed, first_page, has_form_feed, written_page}
use Rattle.teco_model.specs.Paging.{page_of_buffer, unread}
use Rattle.teco_model.specs.State.{World}

-- ---- a page is turned
pub turned_text : (world : World) (o : Output) → world.files.output ≡ Some o
    → text_of (next_page world) ≡ text_of world
turned_text world o is = (turned_is world o is).0

name_written : (bytes : List ℕ) (output : Option Output)
    → option_map (λ (o : Output). o.name) (with_written bytes output) ≡ option_map (λ (o : Output). o.name) output
name_written bytes None = refl
name_written bytes (Some output) = refl

pub turned_name : (world : World) → output_name (next_page world).files ≡ output_name world.files
turned_name world = name_written (written_page (page_of_buffer world.kept)) world.files.output

-- ---- pages are gathered
-- behind a page with bytes behind it, a form feed was
pub marked_page : (bytes : List ℕ) → behind_form_feed bytes ≢ [] → has_form_feed bytes ≡ true
marked_page [] some = absurd (some refl)
marked_page (b ∷ bytes) some = by (b == FF) (marked_page bytes) some
  where
    by : (ends : Bool) → (behind_form_feed bytes ≢ [] → has_form_feed bytes ≡ true)
        → (if ends then bytes else behind_form_feed bytes) ≢ []
        → (if ends then true else has_form_feed bytes) ≡ true
    by true rest some = refl
    by false rest some = rest some

more_is : (world : World) → more_text world ≡ world.kept.text ++ FF ∷ []
more_is world =
    let front : more_text world ≡ (world.kept.text ++ (FF ∷ [])) ++ [] =
    rw (take-length world.kept.text, drop-length world.kept.text) refl in
    front ∙ append-nil (world.kept.text ++ (FF ∷ []))

mark : Bool → List ℕ
mark ended = if ended then FF ∷ [] else []

joined : (text page rest : List ℕ) (ff : Bool)
    → (((text ++ FF ∷ []) ++ page) ++ mark ff) ++ rest ≡ (text ++ FF ∷ []) ++ ((page ++ mark ff) ++ rest)
joined text page rest ff =
    append_assoc ((text ++ FF ∷ []) ++ page) (mark ff) rest
    ∙ append_assoc (text ++ FF ∷ []) page (mark ff ++ rest)
    ∙ ap (λ l. (text ++ FF ∷ []) ++ l) (sym (append_assoc page (mark ff) rest))

pub gathered_text : (world : World) → world.kept.form_feed ≡ true → text_of (gathered world) ≡ text_of world
unfolding mark
gathered_text world marked =
    let bytes = unread world.files in
    let page = first_page bytes in
    ap (λ rest. written world.files ++ (((more_text world ++ page.text) ++ mark page.ff) ++ rest))
    (behind_page world.files)
    ∙ ap (λ text. written world.files ++ (((text ++ page.text) ++ mark page.ff) ++ behind_form_feed bytes))
    (more_is world)
    ∙ ap (λ l. written world.files ++ l) (joined world.kept.text page.text (behind_form_feed bytes) page.ff)
    ∙ ap (λ l. written world.files ++ ((world.kept.text ++ FF ∷ []) ++ l)) (first_page_parts bytes)
    ∙ ap (λ ff. written world.files ++ ((world.kept.text ++ mark ff) ++ bytes)) (sym marked)

-- ---- the files are opened, and closed
pub opened_text : (source target bytes : List ℕ) (world : World) → text_of (opened source target bytes world) ≡ bytes
unfolding opened
opened_text source target bytes world = first_page_parts bytes

same_name : (name : List ℕ) → bytes_eq name name ≡ true
same_name name = (bytes_eq-Decides name name).1 refl

found_file : (name bytes : List ℕ) (files : List File) → file_named name (with_file name bytes files) ≡ Some bytes
found_file name bytes [] = rw (same_name name) refl
found_file name bytes (file ∷ files) = by (bytes_eq file.name name) refl (found_file name bytes files)
  where
    by : (same : Bool) → bytes_eq file.name name ≡ same
        → file_named name (with_file name bytes files) ≡ Some bytes
        → file_named name (if same then record { name = name; bytes = bytes } ∷ files
        else file ∷ with_file name bytes files)
        ≡ Some bytes
    by true is rest = rw (same_name name) refl
    by false is rest = rw (is) rest

pub copied_text : (target : List ℕ) (world : World) → output_name world.files ≡ Some target
    → file_named target (world_copied world).files.named ≡ Some (text_of world)
copied_text target world named = by world.files.output refl
  where
    by : (output : Option Output) → world.files.output ≡ output
        → file_named target (world_copied world).files.named ≡ Some (text_of world)
    by None none = absurd (let e = sym named ∙ ap (option_map (λ (o : Output). o.name)) none in cc)
    by (Some o) is =
        let name : o.name ≡ target = cc in
        rw (is, name) (found_file target (o.written ++ (written_page (page_of_buffer world.kept) ++ unread world.files))
        world.files.named)
