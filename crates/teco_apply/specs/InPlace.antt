-- The edit of a file in place, by what its host notes.
use Rattle.std.specs.Prelude.{ℕ, ◌≡◌, List, Bool, Option, Result}
use Rattle.teco_apply.specs.ByPages.{FileEdited, Order}
use Rattle.teco_apply.specs.declared.by_pages.Edited.{Edited}
use Rattle.teco_options.specs.declared.editing.PageChoice.{PageChoice}
use Rattle.teco_filing.specs.Worlds.{world}
use Rattle.teco_in_place.specs.InPlace.{AreFittedInPlace, AreInPlace, AreReady, new_text}
use Rattle.teco_hosts.specs.Events.{Event, Happened}
use Rattle.teco_hosts.specs.Held.{IsSameOutput}
use Rattle.teco_hosts.specs.HostFiles.{AreOfBytes, HostFiles, Telling, Notes}
use Rattle.teco_hosts.specs.Possible.{GivesMeasured}
use Rattle.teco_run.specs.Holdings.{Holdings}
use Rattle.teco_session.specs.declared.fault.SessionFault.{SessionFault}

-- The host has noted these events, which some files fit if no more was given of one than was measured. Whatever
-- files fit them, the edit of the file into a new one leaves some by the definition, and each file has its new text,
-- if there is one; else it is as it was.
pub record IsRewritten (pages : PageChoice) (order : Order) (name : List ℕ) (replaces : Bool) (old new : Holdings)
    (after : Telling) (f : ℕ) (sink sunk : Option (List ℕ)) (result : Result Edited SessionFault) : Type 0 where
  pub events : List Event
  pub noted : after ≡ Notes events
  pub possible : GivesMeasured events → AreFittedInPlace events
  pub failures : ℕ
  pub edits :
      (files left : HostFiles) → AreOfBytes files → AreReady files → IsSameOutput old.held files
      → Happened events files left
      → (apart : HostFiles)
      × FileEdited pages order name (new_text name) (world old.kept old.held files)
      (world new.kept new.held apart) f failures
      sink sunk result
      × AreInPlace replaces files left apart
