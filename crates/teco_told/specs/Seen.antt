-- What the code knows near the pointer, whose search texts are borrowed.
use Rattle.std.specs.Prelude.{ℕ, zero, suc, List, slice_get}
use Rattle.std.specs.Option.{option_map_or}
use Rattle.teco_changes.specs.Nearby.{Found, IsFound, IsPending, Known, Nearby, Nothing, Perhaps, Surely, Unreached}
use Rattle.teco_changes.specs.Nearby.{anything}
use Rattle.teco_changes.specs.declared.argument.Pending.{Pending}
use Rattle.teco_model.specs.State.{Kept}
use Rattle.teco_model.specs.declared.arguments.Level.{Level}
use Rattle.teco_told.specs.declared.near.Found.{Found as Borrowed}
use Rattle.teco_told.specs.declared.near.Found.TheVariants as found
use Rattle.teco_told.specs.declared.near.Nearby.{Nearby as Table}
use Rattle.teco_told.specs.declared.near.Nearby.TheVariants as near

abbrev pub found_seen : Borrowed → Found
found_seen found.Nothing = Nothing
found_seen (found.Perhaps wanted) = Perhaps wanted.now
found_seen (found.Surely wanted) = Surely wanted.now

abbrev pub near_seen : Table → Nearby
near_seen near.Unreached = Unreached
near_seen (near.Known found pending characters) = Known (found_seen found) pending characters

-- all that is known of what was found, and of what is pending, is known of the other
abbrev pub ImpliesFound : Found → Found → Type 0
ImpliesFound one other = (level : Level) (kept : Kept) → IsFound one level kept → IsFound other level kept

abbrev pub ImpliesPending : Pending → Pending → Type 0
ImpliesPending one other = (level : Level) (kept : Kept) → IsPending one level kept → IsPending other level kept

-- the entry of a table for a number from 1 on; behind the last nothing is known
abbrev pub near_in : List Table → ℕ → Nearby
near_in table zero = anything
near_in table (suc k) = option_map_or near_seen (slice_get table k) anything
