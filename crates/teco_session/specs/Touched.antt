-- Which files the command strings of a session touch, where its host notes its calls.
use Rattle.std.specs.Prelude.{ℕ, ◌≡◌, List, [], ◌++◌, Option}
use Rattle.std.specs.Io.KnownBytes.{Consumes}
use Rattle.teco_model.specs.Run.{Stops}
use Rattle.teco_model.specs.Session.{IsCommandString}
use Rattle.teco_model.specs.State.{start}
use Rattle.teco_model.specs.declared.session.Limits.{Limits}
use Rattle.teco_hosts.specs.Events.{Event}
use Rattle.teco_hosts.specs.HostFiles.{Telling}
use Rattle.teco_hosts.specs.Possible.{AreOpenedAnew, FitWhere}
use Rattle.teco_run.specs.Holdings.{Holdings, Joined}
use Rattle.teco_run.specs.Touched.{TouchesBetween, TouchesBySteps, touched_in_run}
use Rattle.teco_run.specs.declared.site.Stopped.{Stopped}
use Rattle.teco_session.specs.declared.strings.Piece.{Piece}
use Rattle.teco_session.specs.declared.strings.Piece.TheVariants.{Command, Rest}

-- A command string was run, for so many steps at most: just those files were touched that its steps touch by the
-- definition.
pub record TouchesByRun (steps : ℕ) (string : List ℕ) (old new : Holdings) (before after : Telling) : Type 0 where
  pub stopped : Stopped
  pub stops : Joined (λ was is. Stops (start string was) steps stopped.stop is) old new before after
  pub touches : TouchesBySteps (start string) (touched_in_run stopped) old new before after

-- and then what it typed was taken
pub record TouchesByString (steps : ℕ) (string : List ℕ) (old new : Holdings) (before after : Telling) : Type 0 where
  pub behind : Holdings
  pub ran : TouchesByRun steps string old behind before after
  pub taken : new ≡ record behind { kept = record behind.kept { typed = [] } }

-- command strings that make up an input were run so, one behind another
pub data TouchesByStrings (limits : Limits) : List ℕ → Holdings → Holdings → Telling → Telling → Type 0 where
  nothing : (desk : Holdings) (files : Telling) → TouchesByStrings limits [] desk desk files files
  one_more :
      (input string : List ℕ) (old mid new : Holdings) (before until after : Telling) →
      TouchesByStrings limits input old mid before until → IsCommandString limits string
      → TouchesByString limits.steps string mid new until after →
      TouchesByStrings limits (input ++ string) old new before after

-- a piece of an input: if it is a command string it was run so, and otherwise all is as it was
abbrev pub TouchesByPiece : Limits → Piece → List ℕ → Holdings → Holdings → Telling → Telling → Type 0
TouchesByPiece limits Command bytes old new before after = TouchesByString limits.steps bytes old new before after
TouchesByPiece limits Rest bytes old new before after = (new ≡ old) × (after ≡ before)

-- The front of what was read are the command strings that were run. They touched no other files than by the definition,
-- and some files fit what was noted, if no input was opened that was opened before.
pub record TouchesInSession (limits : Limits) (unread left : Option (List ℕ)) (old new : Holdings)
    (before after : Telling) : Type 0 where
  pub input : List ℕ
  pub rest : List ℕ
  pub came : Consumes unread left (input ++ rest)
  pub strings : TouchesByStrings limits input old new before after
  pub touched : List Event
  pub notes : TouchesBetween touched old new before after
  pub possible : FitWhere (AreOpenedAnew old.held.output) old.held.output before after
