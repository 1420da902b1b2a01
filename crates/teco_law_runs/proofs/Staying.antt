-- Files stay as open as they are, through each step whose element is no command of files.
use Rattle.teco_law_runs.proofs.Prelude.{◌≡◌, ℕ, ◌≤◌, suc, List, [], ◌∷◌, length, Bool, true, false, ◌==◌}
use Rattle.teco_law_runs.proofs.Prelude.{if◌then◌else◌, arith, Option, Some, None, Ok, refl, sym, ap, ◌∙◌, subst, Kind}
use Rattle.teco_law_runs.proofs.Prelude.{Element, World, changes_files, AreAsOpen, option_map, kept_by_step, Upkeep}
use Rattle.teco_model.specs.Files.{Files, Input, Output, with_written}
use Rattle.teco_model.specs.Macros.{Needs}
use Rattle.teco_law_runs.specs.Ready.{AreOpen}
use Rattle.teco_law_runs.specs.Staying.{FilesStayOpen}
use Rattle.teco_base.specs.declared.bytes.TheConstants.{FF}
use Rattle.teco_model.specs.Names.{is_of_files}
use Rattle.teco_model.specs.Pages.{behind_first_page}
use Rattle.teco_model.specs.Paging.{files_behind_page, world_after_writing, unread}
use Rattle.teco_model.specs.laws.Upkeep.{Survives}

pub same : (files : Files) → AreAsOpen files files
same files = record { input = refl; output = refl; unread = omega arith; named = refl }

name_written : (bytes : List ℕ) (output : Option Output)
    → option_map (λ (o : Output). o.name) (with_written bytes output) ≡ option_map (λ (o : Output). o.name) output
name_written bytes None = refl
name_written bytes (Some output) = refl

written : (old : Files) (bytes : List ℕ) (world : World) → AreAsOpen old world.files
    → AreAsOpen old (world_after_writing bytes world).files
written old bytes world h = record {
  input = h.input;
  output = name_written bytes world.files.output ∙ h.output;
  unread = h.unread;
  named = h.named;
}

name_behind : (input : Option Input)
    → option_map (λ (i : Input). i.name)
    (option_map (λ (input : Input). record input { unread = behind_first_page input.unread }) input)
    ≡ option_map (λ (i : Input). i.name) input
name_behind None = refl
name_behind (Some input) = refl

less_either : (ends : Bool) (bytes rest : List ℕ) → length rest ≤ length bytes
    → length (if ends then bytes else rest) ≤ suc (length bytes)
less_either true bytes rest less = omega arith
less_either false bytes rest less = omega (arith, less)

less_behind : (bytes : List ℕ) → length (behind_first_page bytes) ≤ length bytes
less_behind [] = omega arith
less_behind (b ∷ bytes) = less_either (b == FF) bytes (behind_first_page bytes) (less_behind bytes)

read_on : (old files : Files) → AreAsOpen old files → AreAsOpen old (files_behind_page files)
read_on old files h = record {
  input = name_behind files.input ∙ h.input;
  output = h.output;
  unread = omega (arith, h.unread, less_unread files.input);
  named = h.named;
}
  where
    less_unread : (input : Option Input)
        → length (unread (files_behind_page (record files { input = input }))) ≤ length
        (unread (record files { input = input }))
    less_unread None = omega arith
    less_unread (Some input) = less_behind input.unread

-- what is open stays so by all elements but those of files
open_keeps : (k : Kind) (old : Files) → is_of_files k ≡ false → Upkeep k (λ (world : World). AreAsOpen old world.files)
open_keeps k old none = record {
  edited = λ before after registers mode files h. subst (AreAsOpen old) (sym files) h;
  numbered = λ world r n names h. h;
  paired = λ world r pair names writes h. h;
  stacked = λ world stack is h. h;
  moded = λ world mode sets h. h;
  read = λ world h. read_on old world.files h;
  written = λ world bytes h. written old bytes world h;
  filed = λ before after files registers mode h. absurd (cc);
}

survives : (old : Files) (read : Option Element) → changes_files read ≡ false
    → Survives (λ (world : World). AreAsOpen old world.files) (Ok read)
survives old None none = tt
survives old (Some e) none = open_keeps e.kind old none

pub files_stay_open : FilesStayOpen
files_stay_open s t read none reads goes =
    kept_by_step s t (λ (world : World). AreAsOpen s.world.files world.files) read reads
    (survives s.world.files read none) (same s.world.files) goes

-- what is asked to be open is so, where all is as open as before
some_there : {X Y : Type 0} (f : X → Y) (new old : Option X) (x : X) → option_map f new ≡ option_map f old
    → old ≡ Some x → (y : X) × (new ≡ Some y)
some_there f None old x same is = absurd (let e = same ∙ ap (option_map f) is in cc)
some_there f (Some y) old x same is = (y, refl)

pub open_as_before : (need : Needs) (old new : Files) → AreAsOpen old new → AreOpen need old → AreOpen need new
open_as_before need old new same files = record {
  input = λ h. let i = files.input h in some_there _ new.input old.input i.0 same.input i.1;
  output = λ h. let o = files.output h in some_there _ new.output old.output o.0 same.output o.1;
}
