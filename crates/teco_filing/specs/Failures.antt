-- Where a command of pages or files may fail otherwise than with a code, and what it leaves then.
use Rattle.std.specs.Prelude.{◌≡◌, Option, Result, Ok, IsOk}
use Rattle.teco_base.specs.Does.{May, IsDoneOrFull, codes_alone, memory_where}
use Rattle.teco_base.specs.declared.code.Code.{Code}
use Rattle.teco_model.specs.Faults.{WritesPart, without_files}
use Rattle.teco_model.specs.Filing.{abandon_output}
use Rattle.teco_model.specs.State.{World}
use Rattle.teco_model.specs.declared.stop.HostFault.{HostFault}
use Rattle.teco_model.specs.declared.stop.HostFault.TheVariants.{NoFile, In, Out}

-- a fact for each fault of the host
abbrev pub by_fault : {Y : Type 0} → (no_file input output : World → World → Result Y Code → Type 0) → HostFault → World
    → World → Result Y Code → Type 0
by_fault no_file input output NoFile = no_file
by_fault no_file input output In = input
by_fault no_file input output Out = output

-- no such fault
abbrev pub nowhere : {Y : Type 0} → World → World → Result Y Code → Type 0
nowhere old new defined = ⊥

-- all is as it was, where this is so of the definition's result
abbrev pub same_where : {Y : Type 0} → (Result Y Code → Type 0) → World → World → Result Y Code → Type 0
same_where fact old new defined = fact defined × (new ≡ old)

-- no file is open any more
abbrev pub no_files : World → World → Result World Code → Type 0
no_files old new defined = IsOk defined × (new ≡ without_files old)

-- no output is open any more
abbrev pub no_output : World → World → Result World Code → Type 0
no_output old new defined = IsOk defined × (new ≡ abandon_output old)

-- what a step that fails in writing leaves, where the definition says what it would have left
pub record StopsWriting (old new : World) (defined : Result World Code) : Type 0 where
  pub after : World
  pub done : defined ≡ Ok after
  pub part : WritesPart old after new

-- an input is opened
abbrev pub opening_input : May World (Option World) HostFault
opening_input = record (memory_where IsOk) { breaks = by_fault (same_where IsOk) nowhere nowhere }

-- an output is opened
abbrev pub opening_output : May World World HostFault
opening_output = record (memory_where IsOk) { breaks = by_fault nowhere nowhere (same_where IsOk) }

-- an output is closed or dropped
abbrev pub letting_go : May World World HostFault
letting_go = record codes_alone { breaks = by_fault nowhere nowhere no_output }

-- all is written, and the files are closed
abbrev pub copying : May World World HostFault
copying = record codes_alone { breaks = by_fault nowhere no_files no_files }

-- a page is read
abbrev pub reading : May World World HostFault
reading = record (memory_where IsDoneOrFull) { breaks = by_fault nowhere (same_where IsDoneOrFull) nowhere }

-- a page is written, and another read
abbrev pub turning : May World World HostFault
turning = record (memory_where IsDoneOrFull) { breaks = by_fault nowhere (same_where IsDoneOrFull) StopsWriting }

-- a page is written
abbrev pub writing : May World World HostFault
writing = record codes_alone { breaks = by_fault nowhere nowhere StopsWriting }
