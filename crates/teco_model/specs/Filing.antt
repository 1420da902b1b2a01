-- The commands of files: ER, EW, EF, EK, EC, EX.
use Rattle.std.specs.Prelude.{ℕ, List, [], ◌∷◌, ◌++◌, bytes_eq, Option, Some, None, Result, Ok, Err, option_map}
use Rattle.std.specs.Prelude.{if◌then◌else◌}
use Rattle.teco_base.specs.declared.code.Code.{Code}
use Rattle.teco_base.specs.declared.code.Code.TheVariants as code
use Rattle.teco_model.specs.Checked.{◌>>=◌}
use Rattle.teco_model.specs.Files.{Input, Output, Files, file_named, output_of, with_closed}
use Rattle.teco_model.specs.Pages.{first_page, written_page}
use Rattle.teco_model.specs.Paging.{unread, world_after_writing, page_of_buffer, kept_with_page, needed_output}
use Rattle.teco_model.specs.State.{World}

-- A name is not empty, nor that of the other open file: else it is ARG.
abbrev pub name_apart_from : Option (List ℕ) → List ℕ → Result (Unit {0}) Code
name_apart_from other [] = Err code.Arg
name_apart_from None (c ∷ name) = Ok tt
name_apart_from (Some other) (c ∷ name) = if bytes_eq (c ∷ name) other then Err code.Arg else Ok tt

-- ER opens the input, from its start, in the place of an open one, if a file has the name.
abbrev pub with_input : List ℕ → World → List ℕ → World
with_input name world bytes =
    record world { files = record world.files { input = Some (record { name = name; unread = bytes }) } }

abbrev pub open_input : List ℕ → World → Result (Option World) Code
open_input name world = do
  apart ← name_apart_from (option_map (λ (output : Output). output.name) world.files.output) name
  Ok (option_map (with_input name world) (file_named name world.files.named))

-- one output at a time, else it is OFO
abbrev pub no_output : Option Output → Result (Unit {0}) Code
no_output None = Ok tt
no_output (Some output) = Err code.Ofo

-- EW opens an output, which takes its name when it is closed.
abbrev pub open_output : List ℕ → World → Result World Code
open_output name world = do
  alone ← no_output world.files.output
  apart ← name_apart_from (option_map (λ (input : Input). input.name) world.files.input) name
  Ok (record world { files = record world.files { output = Some (output_of name) } })

-- the output takes its name, if one is open
abbrev pub files_closed : Files → Files
files_closed files = record files { named = with_closed files.output files.named; output = None }

-- EF closes the output.
abbrev pub close_output : World → Result World Code
close_output world = do
  output ← needed_output world
  Ok (record world { files = files_closed world.files })

-- EK abandons it, if one is open: a file of its name is as it was.
abbrev pub abandon_output : World → World
abandon_output world = record world { files = record world.files { output = None } }

-- all that is left goes to the output: the buffer as a page, and what is unread
abbrev pub all_written : World → World
all_written world =
    world_after_writing (written_page (page_of_buffer world.kept) ++ unread world.files) world

-- EC writes all that is left, closes both files, and empties the buffer.
abbrev pub world_copied : World → World
world_copied world =
    let written = all_written world in record {
      kept = kept_with_page (first_page []) written.kept;
      files = record (files_closed written.files) { input = None };
    }

abbrev pub copy_all : World → Result World Code
copy_all world = do
  output ← needed_output world
  Ok (world_copied world)

-- EX does so if an output is open, and ends the session.
abbrev pub exit_from : Option Output → World → World
exit_from None world = world
exit_from (Some output) world = world_copied world

abbrev pub exit : World → World
exit world = exit_from world.files.output world
