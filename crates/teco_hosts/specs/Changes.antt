-- The files that a host has, and what its calls make of them.
use Rattle.std.specs.Prelude.{ℕ, List, Option, Some, None, IfSome}
use Rattle.std.specs.List.{AllByRecursion}
use Rattle.teco_model.specs.Files.{File, Output, output_of, with_written, with_closed}
use Rattle.teco_model.specs.laws.Whole.{AreBytes}

-- the files that have names, what is unread of the input that was opened last, and the output that is open
pub record HostFiles : Type 0 where
  pub named : List File
  pub unread : List ℕ
  pub output : Option Output

-- what is unread and written, and what has a name, is of bytes
pub record AreOfBytes (files : HostFiles) : Type 0 where
  pub named : AllByRecursion (λ (file : File). AreBytes file.bytes) files.named
  pub unread : AreBytes files.unread
  pub output : IfSome files.output (λ (output : Output). AreBytes output.written)

-- an output of this name is open, with nothing written to it
abbrev pub after_opening : List ℕ → HostFiles → HostFiles
after_opening name files = record files { output = Some (output_of name) }

-- these bytes were written to the open output
abbrev pub after_writing : List ℕ → HostFiles → HostFiles
after_writing bytes files = record files { output = with_written bytes files.output }

-- the open output has taken its name
abbrev pub after_closing : HostFiles → HostFiles
after_closing files = record files { named = with_closed files.output files.named; output = None }

-- the open output is gone, and left no trace
abbrev pub after_dropping : HostFiles → HostFiles
after_dropping files = record files { output = None }
