-- What a macro makes of a text in memory.
use Rattle.std.specs.Prelude.{◌≡◌, ℕ, List, [], ◌∷◌, Option, Some, None, unwrap_or}
use Rattle.teco_apply.specs.Sure.{call_text, loaded}
use Rattle.teco_base.specs.declared.code.Code.{Code}
use Rattle.teco_jobs.specs.Openings.{Runs, Then, Opens}
use Rattle.teco_jobs.specs.declared.in_memory.Came.{Came}
use Rattle.teco_jobs.specs.declared.in_memory.Came.TheVariants as came
use Rattle.teco_jobs.specs.declared.in_memory.TextCall.{TextCall}
use Rattle.teco_jobs.specs.declared.in_memory.TheConstants.{STEPS}
use Rattle.teco_model.specs.Files.{File, file_named}
use Rattle.teco_model.specs.State.{World, kept_of_store}
use Rattle.teco_tools.specs.Starts.{Prepares}

-- in, out
abbrev pub source : List ℕ
source = 105 ∷ 110 ∷ []

abbrev pub target : List ℕ
target = 111 ∷ 117 ∷ 116 ∷ []

-- EC
abbrev pub closing : List ℕ
closing = 69 ∷ 67 ∷ []

-- a new machine, where the only file is this text
abbrev pub beside_text : List ℕ → World
beside_text text = record {
  kept = kept_of_store [] 0;
  files = record { named = record { name = source; bytes = text } ∷ []; input = None; output = None };
}

-- what was written, which is nothing where no file was
abbrev pub text_of_output : List File → List ℕ
text_of_output named = unwrap_or (file_named target named) []

-- the macro is called where its library is loaded, and then the files are closed
abbrev pub CallsAndCloses : TextCall → Option Code → World → World → Type 0
CallsAndCloses call code old new =
    Then (Runs STEPS (call_text call.entry call.argument)) (Runs STEPS closing) code
    (loaded call.library.now.texts old) new

-- the files are opened, and then it is called
abbrev pub OpensAndCalls : TextCall → Option Code → World → World → Type 0
OpensAndCalls call = Then (Opens call.pages source target) (CallsAndCloses call)

-- before that, registers are given their texts
abbrev pub Works : TextCall → Option Code → World → World → Type 0
Works call code old new = (begun : World) × Prepares call.start old begun × OpensAndCalls call code begun new

-- What it makes is the file that is written, where no code comes; and else that code.
abbrev pub Makes : TextCall → List ℕ → Came → Type 0
Makes call text (came.Text made) =
    (new : World) × Works call None (beside_text text) new × (made.items ≡ text_of_output new.files.named)
Makes call text (came.Code c) = (new : World) × Works call (Some c) (beside_text text) new
