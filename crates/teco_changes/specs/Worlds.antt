-- The text of a world, and what is told of it.
use Rattle.std.specs.Prelude.{ℕ, List, [], ◌++◌, Option, Some, None, ⊤}
use Rattle.std.specs.Option.{option_map_or}
use Rattle.teco_changes.specs.Changes.{Changes}
use Rattle.teco_changes.specs.declared.change.Change.{Change}
use Rattle.teco_model.specs.Files.{Files, Output}
use Rattle.teco_model.specs.Pages.{written_page}
use Rattle.teco_model.specs.Paging.{page_of_buffer, unread}
use Rattle.teco_model.specs.State.{World}

-- what is written to the output, if one is open
abbrev pub written : Files → List ℕ
written files = option_map_or (λ (output : Output). output.written) files.output []

-- what is written to the output, then the buffer as a page, then what is unread
abbrev pub text_of : World → List ℕ
text_of world = written world.files ++ (written_page (page_of_buffer world.kept) ++ unread world.files)

-- A text is got from another by the changes that are told; where nothing is told it may be any.
abbrev pub IsChangedBy : Option (List Change) → List ℕ → List ℕ → Type 0
IsChangedBy None old new = ⊤
IsChangedBy (Some changes) old new = Changes changes old new
