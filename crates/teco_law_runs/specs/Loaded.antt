-- What a step leaves of the registers and the search mode; and that a library stays loaded.
use Rattle.std.specs.Prelude.{◌≡◌, ◌≢◌, ℕ, Bool, false, Option, Some, None, ◌≤◌, length, Ok}
use Rattle.teco_model.specs.Element.{Element}
pub use Rattle.teco_model.specs.Names.{sets_mode}
use Rattle.teco_model.specs.Registers.{pair_of, with_texts}
use Rattle.teco_model.specs.State.{Kept, State, Next}
use Rattle.teco_model.specs.Step.{step}
use Rattle.teco_model.specs.Macros.{Library, IsLoaded}
use Rattle.teco_verifier.specs.expansion.Names.{named_by, writes_macro, written_by}
use Rattle.teco_verifier.specs.expansion.Position.{position_of}
use Rattle.teco_verifier.specs.expansion.Ways.{read_at}

-- No register but the one that is named has another number or text, and no text but that of the one that is written;
-- the search mode stays, unless it is set.
pub record Keeps (named wrote : Option ℕ) (modes : Bool) (old new : Kept) : Type 0 where
  pub pairs : (r : ℕ) → named ≢ Some r → pair_of r new.registers ≡ pair_of r old.registers
  pub texts : (r : ℕ) → wrote ≢ Some r → (pair_of r new.registers).text ≡ (pair_of r old.registers).text
  pub mode : modes ≡ false → new.mode ≡ old.mode

-- what an element that is read leaves; the end of a text leaves all
abbrev pub KeepsBy : Option Element → Kept → Kept → Type 0
KeepsBy None old new = Keeps None None false old new
KeepsBy (Some e) old new = Keeps (named_by e.kind) (written_by e.kind) (sets_mode e.kind) old new

abbrev pub StepsKeep : Type 0
StepsKeep =
    (s t : State) (read : Option Element)
    → read_at (position_of s) ≡ Ok read → step s ≡ Next t → KeepsBy read s.world.kept t.world.kept

-- A library is loaded where its texts are put into their registers.
abbrev pub LoadingLoads : Type 0
LoadingLoads =
    (library : Library) (kept : Kept) → length library ≤ length kept.registers.pairs
    → IsLoaded library (record kept { registers = with_texts library kept.registers })

-- A library stays loaded through each step that writes none of its registers.
abbrev pub StaysLoaded : Type 0
StaysLoaded =
    (library : Library) (s t : State) (read : Option Element)
    → IsLoaded library s.world.kept → writes_macro library read ≡ false
    → read_at (position_of s) ≡ Ok read → step s ≡ Next t → IsLoaded library t.world.kept
