-- What a session did with one piece of its input, beside the definition.
use Rattle.std.specs.Prelude.{ℕ, ◌≡◌, List, Option, Bool, false, Result, Ok, Err, IfOk}
use Rattle.teco_model.specs.Run.{Stops, StopCounts}
use Rattle.teco_model.specs.Session.{code_of, code_line, is_code, is_exit, lines_of, rest_code, without_typed}
use Rattle.teco_model.specs.State.{World, start}
use Rattle.teco_model.specs.declared.session.Limits.{Limits}
use Rattle.teco_model.specs.declared.stop.Stop.{Stop}
use Rattle.teco_session.specs.Output.{Writes}
use Rattle.teco_session.specs.declared.fault.SessionFault.{SessionFault}
use Rattle.teco_session.specs.declared.sessions.Done.{Done}
use Rattle.teco_session.specs.declared.strings.Piece.{Piece}
use Rattle.teco_session.specs.declared.strings.Piece.TheVariants.{Command, Rest}

-- a command string was run: what it has to write, whether a code line is among it, and whether it ends the session
pub record Runs (limits : Limits) (string : List ℕ) (old new : World) (f g : ℕ) (lines : List ℕ)
    (coded exit : Bool)
    : Type 0 where
  pub stop : Stop
  pub after : World
  pub stops : Stops (start string old) limits.steps stop after
  pub counted : StopCounts stop f g
  pub stays : new ≡ without_typed after
  pub all_lines : lines ≡ lines_of stop after
  pub a_line : coded ≡ is_code (code_of stop)
  pub an_exit : exit ≡ is_exit stop

-- a rest was not run
pub record RunsNot (limits : Limits) (rest : List ℕ) (old new : World) (f g : ℕ) (lines : List ℕ)
    (coded : Bool)
    : Type 0 where
  pub stays : new ≡ old
  pub counted : g ≡ f
  pub all_lines : lines ≡ code_line (rest_code limits rest)
  pub a_line : coded ≡ is_code (rest_code limits rest)

-- a piece was run, if it is a command string
abbrev pub MayRun : Limits → Piece → List ℕ → World → World → ℕ → ℕ → List ℕ → Bool → Bool → Type 0
MayRun limits Command bytes old new f g lines coded exit = Runs limits bytes old new f g lines coded exit
MayRun limits Rest bytes old new f g lines coded exit =
    RunsNot limits bytes old new f g lines coded × (exit ≡ false)

-- and what it has to write was written, or with a fault a part of that
pub record Answers (limits : Limits) (piece : Piece) (bytes : List ℕ) (old new : World) (f g : ℕ)
    (sink sunk : Option (List ℕ)) (result : Result Done SessionFault) : Type 0 where
  pub lines : List ℕ
  pub coded : Bool
  pub exit : Bool
  pub ran : MayRun limits piece bytes old new f g lines coded exit
  pub writes : Writes sink sunk lines result
  pub coded_told : IfOk result (λ done. done.coded ≡ coded)
  pub exit_told : IfOk result (λ done. done.exit ≡ exit)

-- a fault, or whether a code line was written and whether the session ends
abbrev pub Said : Result Bool SessionFault → Bool → Result Done SessionFault → Type 0
Said (Ok line) exit result = result ≡ Ok (record { coded = line; exit = exit })
Said (Err fault) exit result = result ≡ Err fault
