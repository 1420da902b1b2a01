-- Files stay as open as they are, through each step whose element is no command of files.
use Rattle.std.specs.Prelude.{◌≡◌, ℕ, ◌<◌, ◌≤◌, List, length, Bool, false, Option, Some, None, option_map, Ok}
use Rattle.teco_model.specs.Element.{Element, element_at}
use Rattle.teco_model.specs.Files.{Files, Input, Output}
pub use Rattle.teco_model.specs.Names.{is_of_files}
use Rattle.teco_model.specs.Paging.{unread}
use Rattle.teco_model.specs.Run.{Reaches}
use Rattle.teco_model.specs.State.{State, Next}
use Rattle.teco_model.specs.Step.{step}

abbrev pub changes_files : Option Element → Bool
changes_files None = false
changes_files (Some e) = is_of_files e.kind

-- what is read at a state is no command of files
abbrev pub ReadsNoFileCommand : State → Type 0
ReadsNoFileCommand s =
    (read : Option Element)
    → element_at s.frames.running.text s.frames.running.place ≡ Ok read → changes_files read ≡ false

-- none is read at a state that a run comes to in fewer than so many steps
abbrev pub NoFileCommands : State → ℕ → Type 0
NoFileCommands s steps = (k : ℕ) (t : State) → k < steps → Reaches k s t → ReadsNoFileCommand t

-- the names under which an input and an output are open, if they are
abbrev pub input_name : Files → Option (List ℕ)
input_name files = option_map (λ (input : Input). input.name) files.input

abbrev pub output_name : Files → Option (List ℕ)
output_name files = option_map (λ (output : Output). output.name) files.output

-- After it the input is open that was open before, if one was, and so is the output; no more is unread; and each file
-- that has a name is as it was.
pub record AreAsOpen (old new : Files) : Type 0 where
  pub input : input_name new ≡ input_name old
  pub output : output_name new ≡ output_name old
  pub unread : length (unread new) ≤ length (unread old)
  pub named : new.named ≡ old.named

abbrev pub FilesStayOpen : Type 0
FilesStayOpen =
    (s t : State) (read : Option Element)
    → changes_files read ≡ false → element_at s.frames.running.text s.frames.running.place ≡ Ok read
    → step s ≡ Next t → AreAsOpen s.world.files t.world.files
