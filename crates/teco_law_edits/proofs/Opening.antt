-- The end of the command string that opens the files and reads the first page.
use Rattle.std.proofs.Common.{◌≡◌, ◌≤◌, ℕ, List, [], ◌∷◌, length, false, bytes_eq}
use Rattle.std.proofs.Common.{Some, None, refl, ap, ◌∙◌}
use Rattle.std.proofs.lemmas.Bool.{le-leb}
use Rattle.teco_apply.proofs.Opening.{end_at, first_read, named, second_place, second_read, third_place, third_read}
use Rattle.teco_apply.specs.Apply.{has_esc, opening}
use Rattle.teco_base.specs.declared.TheConstants.{LIMIT}
use Rattle.teco_law_edits.proofs.Texts.{at_once, one_more, within}
use Rattle.teco_model.specs.Arguments.{no_arguments}
use Rattle.teco_model.specs.Files.{Input, file_named, output_of}
use Rattle.teco_model.specs.Going.{settle}
use Rattle.teco_model.specs.Outside.{file_reply, page_reply}
use Rattle.teco_model.specs.Pages.{behind_first_page, before_form_feed, first_page}
use Rattle.teco_model.specs.Paging.{files_behind_page, kept_with_page}
use Rattle.teco_model.specs.Run.{Ends}
use Rattle.teco_model.specs.State.{Next, End, World, start}
use Rattle.teco_model.specs.Step.{outcome_at, reply_of, step}
use Rattle.teco_model.specs.declared.kind.File.TheVariants as file
use Rattle.teco_model.specs.declared.kind.Kind.TheVariants as kind
use Rattle.teco_model.specs.declared.kind.Page.TheVariants as page

reading : List ℕ → List ℕ → World → World
reading source bytes world =
    record world { files = record world.files { input = Some (record { name = source; unread = bytes }) } }

writing : List ℕ → World → World
writing target world = record world { files = record world.files { output = Some (output_of target) } }

-- both files are open, and the first page is in the buffer
unfoldable pub opened : List ℕ → List ℕ → List ℕ → World → World
opened source target bytes world = record {
  kept = kept_with_page (first_page bytes) world.kept;
  files = record world.files {
    input = Some (record { name = source; unread = behind_first_page bytes });
    output = Some (output_of target);
  };
}

-- ---- each step
read_on : (text : List ℕ) (place next c : ℕ) (front bytes : List ℕ) (world : World) → world.files.output ≡ None
    → file_named (c ∷ front) world.files.named ≡ Some bytes
    → settle (named (kind.File file.Read) (c ∷ front) place next) (within text place world)
    (file_reply file.Read (c ∷ front) None no_arguments world)
    ≡ Next (within text next (reading (c ∷ front) bytes world))
unfolding named within reading
read_on text place next c front bytes world free there = rw (free, there) refl

written_on : (text : List ℕ) (place next d : ℕ) (back : List ℕ) (input : Input) (world : World)
    → world.files.input ≡ Some input → world.files.output ≡ None → bytes_eq (d ∷ back) input.name ≡ false
    → settle (named (kind.File file.Write) (d ∷ back) place next) (within text place world)
    (file_reply file.Write (d ∷ back) None no_arguments world)
    ≡ Next (within text next (writing (d ∷ back) world))
unfolding named within writing
written_on text place next d back input world is free apart = rw (is, free, apart) refl

yanked_on : (text : List ℕ) (place next : ℕ) (input : Input) (world : World) → world.files.input ≡ Some input
    → world.kept.text ≡ [] → length (before_form_feed input.unread) ≤ LIMIT
    → settle (named (kind.Page page.Yank) [] place next) (within text place world)
    (page_reply page.Yank None no_arguments world)
    ≡ Next (within text next (record {
      kept = kept_with_page (first_page input.unread) world.kept;
      files = files_behind_page world.files;
    }))
unfolding named within
yanked_on text place next input world is empty fits = rw (is, empty, le-leb _ _ fits) refl

module _ (c d : ℕ) (front back bytes : List ℕ) (old : World) (plain : has_esc (c ∷ front) ≡ false)
    (plain' : has_esc (d ∷ back) ≡ false) (apart : bytes_eq (d ∷ back) (c ∷ front) ≡ false)
    (there : file_named (c ∷ front) old.files.named ≡ Some bytes) (fits : length (before_form_feed bytes) ≤ LIMIT)
    (empty : old.kept.text ≡ []) (free : old.files.output ≡ None) where
  abbrev source : List ℕ
  source = c ∷ front

  abbrev target : List ℕ
  target = d ∷ back

  abbrev text : List ℕ
  text = opening source target

  input : Input
  input = record { name = source; unread = bytes }

  read : World
  read = reading source bytes old

  reads : step (start text old) ≡ Next (within text (second_place source) read)
  unfolding step reply_of named within read
  reads = ap (outcome_at (start text old)) (first_read source target plain)
      ∙ read_on text 0 (second_place source) c front bytes old free there

  writes : step (within text (second_place source) read)
      ≡ Next (within text (third_place source target) (writing target read))
  unfolding step reply_of named within read reading input
  writes = ap (outcome_at (within text (second_place source) read)) (second_read source target plain')
      ∙ written_on text (second_place source) (third_place source target) d back input read refl free apart

  yanks : step (within text (third_place source target) (writing target read))
      ≡ Next (within text (length text) (opened source target bytes old))
  unfolding step reply_of named within read reading writing input opened
  yanks = ap (outcome_at (within text (third_place source target) (writing target read))) (third_read source target)
      ∙ yanked_on text (third_place source target) (length text) input (writing target read) refl empty fits

  over : (world : World) → step (within text (length text) world) ≡ End world
  unfolding step within
  over world = ap (outcome_at (within text (length text) world)) (end_at text)

  pub opening_ends : Ends (start (opening (c ∷ front) (d ∷ back)) old) 3 (opened (c ∷ front) (d ∷ back) bytes old)
  opening_ends = record {
    last = within text (length text) (opened source target bytes old);
    steps = one_more 2 (start text old) _ _ (one_more 1 (start text old) _ _
        (one_more 0 (start text old) _ _ (at_once (start text old)) reads) writes) yanks;
    end = over (opened source target bytes old);
  }
