-- What the source of a library says, by what a request names.
use Rattle.std.specs.Prelude.{ℕ, ◌-◌, ◌≡◌, ◌⊎◌, ⊤, List, [], ◌∷◌, ◌++◌, drop, length, Option, Some, None, IfSome, Vec}
use Rattle.std.specs.Borrow.{Bor}
use Rattle.std.specs.List.{Contains}
use Rattle.std.specs.declared.alloc.Global.{Global}
use Rattle.teco_base.specs.Register.{register_name}
use Rattle.teco_base.specs.declared.bytes.TheConstants.{ESC, LF}
use Rattle.teco_source.specs.Source.{said}
use Rattle.teco_source.specs.declared.form.EscapeForm.{EscapeForm}
use Rattle.teco_source.specs.declared.form.EscapeForm.TheVariants.{Marked, Readable}
use Rattle.teco_console.specs.declared.forms.Escape.{Escape}
use Rattle.teco_console.specs.declared.forms.Escape.TheVariants.{ByName, Mark}
use Rattle.teco_console.specs.declared.forms.TheConstants.{READABLE}
use Rattle.teco_console.specs.Searches.{filled}
use Rattle.teco_console.specs.declared.request.Request.{Request}

-- a name ends in a word
abbrev pub EndsIn : List ℕ → List ℕ → Type 0
EndsIn word name = drop (length name - length word) name ≡ word

-- how a file writes ESC: as the words of the command line say, or else by its name
abbrev pub IsFileForm : Escape → List ℕ → EscapeForm → Type 0
IsFileForm (Mark mark) name form = form ≡ Marked mark
IsFileForm ByName name form =
    (EndsIn READABLE.now name × (form ≡ Readable)) ⊎ ((¬ EndsIn READABLE.now name) × (form ≡ Marked ESC))

-- how a text on the command line writes it
abbrev pub word_form : Escape → EscapeForm
word_form (Mark mark) = Marked mark
word_form ByName = Readable

-- Behind a text a register is given what bytes say, between two bytes that are none of these.
pub record IsGivenBehind (before : List ℕ) (register : ℕ) (form : EscapeForm) (bytes text : List ℕ) : Type 0 where
  pub delimiter : ℕ
  pub fresh : ¬ Contains bytes delimiter
  pub written : text ≡ before ++ (64 ∷ 21 ∷ register_name register ∷ delimiter ∷ [])
      ++ said form bytes ++ delimiter ∷ []

-- Texts behind those that came before: each begins a line, but the first.
abbrev pub line_behind : List ℕ → List ℕ → List ℕ
line_behind [] text = text
line_behind (c ∷ lines) text = (c ∷ lines) ++ (LF ∷ text)

abbrev pub lines_behind : List ℕ → List (Bor (List ℕ)) → List ℕ
lines_behind lines [] = lines
lines_behind lines (text ∷ texts) = lines_behind (line_behind lines text.now) texts

-- What a file says: its text; or it is one macro alone, for people, and says that as the text of A.
pub record FileSays (escape : Escape) (name bytes text : List ℕ) : Type 0 where
  pub form : EscapeForm
  pub by_name : IsFileForm escape name form
  pub says : (text ≡ said form bytes) ⊎ IsGivenBehind [] 0 form bytes text

-- what the file says that a request names; nothing where it names none
abbrev pub IsOfFile : Escape → Option (Bor (List ℕ)) → Option (Vec ℕ Global) → List ℕ → Type 0
IsOfFile escape (Some name) (Some bytes) text = FileSays escape name.now bytes.items text
IsOfFile escape (Some name) None text = text ≡ []
IsOfFile escape None bytes text = text ≡ []

-- behind that, texts of the command line say the text of A, if there are any
abbrev pub IsWithWords : Escape → List (Bor (List ℕ)) → List ℕ → List ℕ → Type 0
IsWithWords escape [] of_file text = text ≡ of_file
IsWithWords escape (word ∷ words) of_file text =
    IsGivenBehind of_file 0 (word_form escape) (lines_behind [] (word ∷ words)) text

-- the source of a library, by a request and what the file has that it names: search texts stand in their places in it
pub record IsSource (request : Request) (bytes : Option (Vec ℕ Global)) (text : List ℕ) : Type 0 where
  pub of_file : List ℕ
  pub file : IsOfFile request.escape request.library.file bytes of_file
  pub words : IsWithWords request.escape request.library.texts.now (filled request.searches.now of_file) text

-- A file is read where one is named, and it has what is told of it.
abbrev pub IsFileRead : (List ℕ → Option (List ℕ)) → Option (Bor (List ℕ)) → Option (Vec ℕ Global) → Type 0
IsFileRead holds None None = ⊤
IsFileRead holds None (Some bytes) = ⊥
IsFileRead holds (Some name) None = ⊥
IsFileRead holds (Some name) (Some bytes) = IfSome (holds name.now) (λ told. bytes.items ≡ told)

-- a source that is read for a request
pub record IsReadFor (holds : List ℕ → Option (List ℕ)) (request : Request) (text : List ℕ) : Type 0 where
  pub bytes : Option (Vec ℕ Global)
  pub told : IsFileRead holds request.library.file bytes
  pub source : IsSource request bytes text
