-- Files: those that have names, the input that is open and the output that is open. A name is a list of bytes.
use Rattle.std.specs.Prelude.{ℕ, List, [], ◌∷◌, ◌++◌, bytes_eq, Option, Some, None, if◌then◌else◌}

-- a file that has a name, and its bytes
pub record File : Type 0 where
  pub name : List ℕ
  pub bytes : List ℕ

-- an open input: its name, and the bytes of it that are unread
pub record Input : Type 0 where
  pub name : List ℕ
  pub unread : List ℕ

-- an open output: the name that it takes when it is closed, and the bytes that are written to it
pub record Output : Type 0 where
  pub name : List ℕ
  pub written : List ℕ

-- the files that have names, in the order in which the names came, and what is open
pub record Files : Type 0 where
  pub named : List File
  pub input : Option Input
  pub output : Option Output

-- there is no file
abbrev pub no_files : Files
no_files = record { named = []; input = None; output = None }

-- the bytes of the file of a name, if there is one
abbrev pub file_named : List ℕ → List File → Option (List ℕ)
file_named name [] = None
file_named name (file ∷ files) = if bytes_eq file.name name then Some file.bytes else file_named name files

-- the file of this name has these bytes: the one that was there, or a new one
abbrev pub with_file : List ℕ → List ℕ → List File → List File
with_file name bytes [] = record { name = name; bytes = bytes } ∷ []
with_file name bytes (file ∷ files) =
    if bytes_eq file.name name then record { name = name; bytes = bytes } ∷ files
    else file ∷ with_file name bytes files

-- an output at its beginning
abbrev pub output_of : List ℕ → Output
output_of name = record { name = name; written = [] }

-- the open output, if there is one, with more bytes written to it
abbrev pub with_written : List ℕ → Option Output → Option Output
with_written bytes None = None
with_written bytes (Some output) = Some (record output { written = output.written ++ bytes })

-- the files that have names after the open output, if there is one, took its name
abbrev pub with_closed : Option Output → List File → List File
with_closed None named = named
with_closed (Some output) named = with_file output.name output.written named
