-- What keeps a property of worlds: it survives all that the elements of a kind may do. That no element does more is
-- shown once (`proofs/upkeep`), so a law of this form is a record of eight changes, and not a proof for each command.
use Rattle.std.specs.Prelude.{◌≡◌, ℕ, ℤ, ⊤, List, true, Option, Some, Result, Ok}
use Rattle.teco_base.specs.declared.code.Code.{Code}
use Rattle.teco_model.specs.Element.{Element}
use Rattle.teco_model.specs.Going.{with_kept}
use Rattle.teco_model.specs.Names.{named_by, written_by, is_of_stack, sets_mode, is_of_files}
use Rattle.teco_model.specs.Paging.{files_behind_page, world_after_writing}
use Rattle.teco_model.specs.Registers.{Pair, Registers, with_pair}
use Rattle.teco_model.specs.State.{World, Outcome, Next, End, Exit, Fail, Absent}
use Rattle.teco_model.specs.Storage.{kept_with_number}
use Rattle.teco_model.specs.declared.kind.Kind.{Kind}
use Rattle.teco_model.specs.laws.StepCodes.{IsOfStep}
use Rattle.teco_model.specs.laws.Whole.{IsWholeWorld, IsWholeState}

-- other registers, or another push-down list
abbrev pub with_registers : Registers → World → World
with_registers registers world = with_kept (record world.kept { registers = registers }) world

-- Any element may edit the buffer, the pointer, the search text and what is typed; read a page, and write. A register
-- changes only by an element that names it, and its text by one that writes it; the push-down list by [ and ]; the
-- search mode by one that sets it; and what is open by one of files.
pub record Upkeep (k : Kind) (P : World → Type 0) : Type 0 where
  pub edited :
      (old new : World) → new.kept.registers ≡ old.kept.registers → new.kept.mode ≡ old.kept.mode
      → new.files ≡ old.files → P old → P new
  pub numbered :
      (world : World) (r : ℕ) (n : ℤ) → named_by k ≡ Some r → P world
      → P (with_kept (kept_with_number r n world.kept) world)
  pub paired :
      (world : World) (r : ℕ) (pair : Pair) → named_by k ≡ Some r → written_by k ≡ Some r → P world
      → P (with_registers (with_pair r pair world.kept.registers) world)
  pub stacked :
      (world : World) (stack : List Pair) → is_of_stack k ≡ true → P world
      → P (with_registers (record world.kept.registers { stack = stack }) world)
  pub moded :
      (world : World) (mode : ℤ) → sets_mode k ≡ true → P world
      → P (with_kept (record world.kept { mode = mode }) world)
  pub read : (world : World) → P world → P (record world { files = files_behind_page world.files })
  pub written : (world : World) (bytes : List ℕ) → P world → P (world_after_writing bytes world)
  pub filed :
      (old new : World) → is_of_files k ≡ true → new.kept.registers ≡ old.kept.registers
      → new.kept.mode ≡ old.kept.mode → P old → P new

-- the element that is read at a place keeps it, if one is
abbrev pub Survives : (World → Type 0) → Result (Option Element) Code → Type 0
Survives P (Ok (Some e)) = Upkeep e.kind P
Survives P read = ⊤

-- A world has the property, and is whole where so much is assumed.
pub record IsUpheld (assumed : Type 0) (P : World → Type 0) (world : World) : Type 0 where
  pub whole : assumed → IsWholeWorld world
  pub kept : P world

-- What a step leaves is upheld, and its code is one that a step may be.
abbrev pub Upholds : Type 0 → (World → Type 0) → Outcome → Type 0
Upholds assumed P (Next s) = (assumed → IsWholeState s) × P s.world
Upholds assumed P (End world) = IsUpheld assumed P world
Upholds assumed P (Exit world) = IsUpheld assumed P world
Upholds assumed P (Fail c world) = IsOfStep c × IsUpheld assumed P world
Upholds assumed P (Absent world) = IsUpheld assumed P world
