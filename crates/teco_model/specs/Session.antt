-- A session: the input is cut into command strings, each is run, and what it typed is written, with a code line for
-- a stop that is not the end.
use Rattle.std.specs.Prelude.{ℕ, ◌+◌, ◌≡◌, ◌≤◌, List, [], ◌∷◌, ◌++◌, codes, length, take, Option, Some, None, Bool}
use Rattle.std.specs.Prelude.{true, false, ◌&&◌, ◌||◌, ◌==◌, nat_le, if◌then◌else◌}
use Rattle.std.specs.List.{list_all}
use Rattle.std.specs.Option.{option_map}
use Rattle.teco_base.specs.Bytes.{is_blank}
use Rattle.teco_base.specs.Code.{code_name}
use Rattle.teco_base.specs.declared.bytes.TheConstants.{CR, LF, ESC}
use Rattle.teco_base.specs.declared.code.Code.{Code}
use Rattle.teco_base.specs.declared.code.Code.TheVariants as code
use Rattle.teco_model.specs.Run.{Stops, StopCounts}
use Rattle.teco_model.specs.State.{World, start}
use Rattle.teco_model.specs.declared.session.Limits.{Limits}
use Rattle.teco_model.specs.declared.stop.HostFault.{HostFault}
use Rattle.teco_model.specs.declared.stop.HostFault.TheVariants as host_fault
use Rattle.teco_model.specs.declared.stop.Stop.{Stop}
use Rattle.teco_model.specs.declared.stop.Stop.TheVariants as stop

-- A command string ends with the first two successive ESC: the place behind them.
unfoldable pub string_end : List ℕ → Option ℕ
string_end [] = None
string_end (a ∷ []) = None
string_end (a ∷ b ∷ rest) = elim (a == ESC && b == ESC) [
  | true ↦ Some 2
  | false ↦ option_map (λ n. 1 + n) (string_end (b ∷ rest))
]

-- a command string: it holds no end before its own, and has no more bytes than one may have
pub record IsCommandString (limits : Limits) (string : List ℕ) : Type 0 where
  pub ends : string_end string ≡ Some (length string)
  pub within : length string ≤ limits.length

-- the code that is typed for what the host could not do
abbrev pub code_of_fault : HostFault → Code
code_of_fault host_fault.NoFile = code.Fnf
code_of_fault host_fault.In = code.Inp
code_of_fault host_fault.Out = code.Out

-- the code that is typed for a stop; none for the end, and for that of the session
abbrev pub code_of : Stop → Option Code
code_of (stop.Ended steps) = None
code_of (stop.Exit steps) = None
code_of (stop.Error c) = Some c
code_of stop.Limit = Some code.Lim
code_of stop.Memory = Some code.Mem
code_of (stop.HostFault fault) = Some (code_of_fault fault)

-- does a stop end the session?
abbrev pub is_exit : Stop → Bool
is_exit (stop.Exit steps) = true
is_exit s = false

-- a code line: ?, the code, CR LF
abbrev pub code_line : Option Code → List ℕ
code_line None = []
code_line (Some c) = codes "?" ++ code_name c ++ CR ∷ LF ∷ []

abbrev pub is_code : Option Code → Bool
is_code None = false
is_code (Some c) = true

-- what stays when the typed bytes are taken
abbrev pub without_typed : World → World
without_typed world = record world { kept = record world.kept { typed = [] } }

-- what is written for a stop: the typed bytes, and then the code line
abbrev pub lines_of : Stop → World → List ℕ
lines_of stop world = world.kept.typed ++ code_line (code_of stop)

-- Command strings, joined to one input, are executed one after another, and none ends the session: what stays then,
-- what the host's count of failures is, what is written, and whether a code line is among it. The count rises in
-- the strings that the host stops.
pub data Executes (limits : Limits) (old : World) (f : ℕ) : ℕ → List ℕ → World → ℕ → List ℕ → Bool
    → Type 0 where
  none : Executes limits old f 0 [] old f [] false
  one_more :
      (count : ℕ) (input : List ℕ) (mid : World) (k : ℕ) (written : List ℕ) (coded : Bool) →
      (string : List ℕ) (stop : Stop) (new : World) (g : ℕ) →
      Executes limits old f count input mid k written coded →
      IsCommandString limits string → Stops (start string mid) limits.steps stop new
      → StopCounts stop k g → is_exit stop ≡ false →
      Executes limits old f (count + 1) (input ++ string) (without_typed new) g
      (written ++ lines_of stop new) (coded || is_code (code_of stop))

-- What follows the last command string: a rest without an end of as many bytes as a string may have is FUL, blanks are
-- nothing, and any other rest is UTC. It is not executed.
abbrev pub rest_code : Limits → List ℕ → Option Code
rest_code limits rest =
    if nat_le limits.length (length rest) then Some code.Ful
    else if list_all is_blank rest then None else Some code.Utc

-- a session that goes on to the end of its input
pub record SessionToEnd
    (limits : Limits) (old : World) (f : ℕ) (input : List ℕ) (new : World) (g : ℕ)
    (written : List ℕ) (coded : Bool) :
    Type 0 where
  pub count : ℕ
  pub strings : List ℕ
  pub rest : List ℕ
  pub lines : List ℕ
  pub line : Bool
  pub whole : input ≡ strings ++ rest
  pub executed : Executes limits old f count strings new g lines line
  pub no_string : string_end (take limits.length rest) ≡ None
  pub all_written : written ≡ lines ++ code_line (rest_code limits rest)
  pub a_line : coded ≡ (line || is_code (rest_code limits rest))

-- a session that a command string ends: what follows that is not executed
pub record SessionToExit
    (limits : Limits) (old : World) (f : ℕ) (input : List ℕ) (new : World) (g : ℕ)
    (written : List ℕ) (coded : Bool) :
    Type 0 where
  pub count : ℕ
  pub strings : List ℕ
  pub last : List ℕ
  pub behind : List ℕ
  pub lines : List ℕ
  pub steps : ℕ
  pub mid : World
  pub after : World
  pub whole : input ≡ strings ++ (last ++ behind)
  pub executed : Executes limits old f count strings mid g lines coded
  pub one_string : IsCommandString limits last
  pub exits : Stops (start last mid) limits.steps (stop.Exit steps) after
  pub stays : new ≡ without_typed after
  pub all_written : written ≡ lines ++ lines_of (stop.Exit steps) after

-- a whole session of an input: what it leaves, what the host's count of failures is then, what it writes, whether a
-- code line is among it, and whether a command string ended it
abbrev pub Session : Limits → World → ℕ → List ℕ → World → ℕ → List ℕ → Bool → Bool → Type 0
Session limits old f input new g written coded false = SessionToEnd limits old f input new g written coded
Session limits old f input new g written coded true = SessionToExit limits old f input new g written coded
