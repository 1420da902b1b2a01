-- What a host of files in memory shows.
use Rattle.std.specs.Prelude.{ℕ, List, [], Bool, not, bytes_eq, Option, None, option_map}
use Rattle.teco_model.specs.Files.{File, Output, with_file}
use Rattle.teco_hosts.specs.HostFiles.{HostFiles}

-- its files, how many bytes it gave of the input that was opened last, and how many of its calls have failed
pub record MemFiles : Type 0 where
  pub told : HostFiles
  pub given : ℕ
  pub failures : ℕ

-- no files, and nothing is open
abbrev pub no_files : MemFiles
no_files = record { told = record { named = []; unread = []; output = None }; given = 0; failures = 0 }

-- a file of this name has these bytes
abbrev pub with_put : List ℕ → List ℕ → MemFiles → MemFiles
with_put name bytes files =
    record files { told = record files.told { named = with_file name bytes files.told.named } }

-- an output that is kept as a file which has no name yet
abbrev pub output_in : Option File → Option Output
output_in = option_map (λ file. record { name = file.name; written = file.bytes })

-- has it another name?
abbrev pub is_other : List ℕ → File → Bool
is_other name file = not (bytes_eq file.name name)
