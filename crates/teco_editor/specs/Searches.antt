-- How what a search did is seen.
use Rattle.std.specs.Prelude.{ℕ, List, Option, Some, None}
use Rattle.teco_base.specs.declared.code.Code.TheVariants as code
use Rattle.teco_find.specs.declared.fault.FindFault.{FindFault}
use Rattle.teco_find.specs.declared.fault.FindFault.TheVariants as fault
use Rattle.teco_model.specs.Paging.{Here, MetHere, WantedYet}
use Rattle.teco_model.specs.Search as model
use Rattle.teco_model.specs.State.{Kept}
use Rattle.teco_editor.specs.declared.searching.Finding.{Finding}
use Rattle.teco_editor.specs.declared.searching.Finding.TheVariants.{Found, Missed}
use Rattle.teco_editor.specs.declared.stuck.Stuck.{Stuck}
use Rattle.teco_editor.specs.declared.stuck.Stuck.TheVariants as stuck

-- what a fault of a search text comes to
abbrev pub stuck_by_pattern : FindFault → Stuck
stuck_by_pattern fault.Ice = stuck.Code code.Ice
stuck_by_pattern fault.Iqn = stuck.Code code.Iqn
stuck_by_pattern fault.Memory = stuck.Memory

-- what a search of a text came to: it found, and left this; or it missed in what was kept before
abbrev pub finding_seen : List ℕ → Kept → Kept → Finding → model.Finding
finding_seen text old new Found = model.Found new
finding_seen text old new Missed = model.Missed (record old { search_text = model.search_text_of text old })

-- the buffer has the last match, and this is left there; or so many more are wanted
abbrev pub here_seen : Kept → Option ℕ → Here
here_seen new None = MetHere new
here_seen new (Some n) = WantedYet n
