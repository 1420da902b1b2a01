-- The ends of the command strings with which an edit turns pages and closes its output.
use Rattle.std.specs.Prelude.{◌≡◌, ◌≤◌, ◌+◌, ℕ, List, [], ◌∷◌, ◌++◌, codes, length, Some}
use Rattle.teco_base.specs.declared.TheConstants.{LIMIT}
use Rattle.teco_base.specs.Text.{text_after_insertion}
use Rattle.teco_base.specs.declared.bytes.TheConstants.{ESC, FF}
use Rattle.teco_model.specs.Files.{Input, Output}
use Rattle.teco_model.specs.Filing.{world_copied}
use Rattle.teco_model.specs.Pages.{first_page, written_page}
use Rattle.teco_model.specs.Paging.{files_behind_page, kept_with_page, page_of_buffer, unread, world_after_writing}
use Rattle.teco_model.specs.Run.{Ends}
use Rattle.teco_model.specs.State.{World, start}

-- the next page is in the place of the buffer, which is written
abbrev pub next_page : World → World
next_page world =
    world_after_writing (written_page (page_of_buffer world.kept)) (record {
      kept = kept_with_page (first_page (unread world.files)) world.kept;
      files = files_behind_page world.files;
    })

-- EC copies what is left and closes both files.
abbrev pub CopyingEnds : Type 0
CopyingEnds =
    (world : World) (output : Output) → world.files.output ≡ Some output
    → Ends (start (codes "EC") world) 1 (world_copied world)

-- P turns to a page that fits.
abbrev pub TurningEnds : Type 0
TurningEnds =
    (world : World) (output : Output) → world.files.output ≡ Some output
    → length (first_page (unread world.files)).text ≤ LIMIT
    → Ends (start (codes "P") world) 1 (next_page world)

-- J goes to the start.
abbrev pub at_start : World → World
at_start world = record world { kept = record world.kept { pointer = 0 } }

abbrev pub GoingEnds : Type 0
GoingEnds = (world : World) → Ends (start (codes "J") world) 1 (at_start world)

-- ZJ12I and A put a form feed behind the buffer, and the next page behind that.
abbrev pub more_text : World → List ℕ
more_text world = text_after_insertion world.kept.text (length world.kept.text) (FF ∷ [])

abbrev pub gathered : World → World
gathered world =
    let page = first_page (unread world.files) in record {
      kept = record world.kept {
        text = more_text world ++ page.text;
        pointer = length world.kept.text + 1;
        form_feed = page.ff;
        last_length = 1;
      };
      files = files_behind_page world.files;
    }

abbrev pub GatheringEnds : Type 0
GatheringEnds =
    (world : World) (input : Input) (byte : ℕ) (bytes : List ℕ)
    → world.files.input ≡ Some input → input.unread ≡ byte ∷ bytes
    → length (more_text world ++ (first_page (unread world.files)).text) ≤ LIMIT
    → Ends (start (codes "ZJ12I" ++ ESC ∷ codes "A") world) 5 (gathered world)

pub record TextsEnd : Type 0 where
  pub copying : CopyingEnds
  pub turning : TurningEnds
  pub going : GoingEnds
  pub gathering : GatheringEnds
