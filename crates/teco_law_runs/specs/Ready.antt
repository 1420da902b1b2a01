-- Where a run of a macro may begin: its library is loaded, N holds all, and what is promised to be held may be.
use Rattle.std.specs.Prelude.{◌≡◌, ℕ, ◌+◌, ◌<◌, ◌≤◌, length, true, Some}
use Rattle.teco_base.specs.declared.TheConstants.{LIMIT, REGISTERS}
use Rattle.teco_model.specs.Files.{Input, Output, Files}
use Rattle.teco_model.specs.Macros.{Library, IsLoaded, call_of, Needs}
use Rattle.teco_model.specs.Paging.{unread_of}
use Rattle.teco_model.specs.Registers.{pair_of}
use Rattle.teco_model.specs.State.{Kept, World, held_length}
use Rattle.teco_model.specs.laws.Whole.{AreBytes, IsWholeWorld}
use Rattle.teco_poly.specs.Polynomial.{Polynomial, value}

-- N: what is held, and what is unread
abbrev pub n_of : World → ℕ
n_of world = held_length world.kept + unread_of world

-- N holds the buffer and all that is unread, and each register's text
pub record IsEntry (n : ℕ) (unread : ℕ) (kept : Kept) : Type 0 where
  pub held : length kept.text + unread ≤ n
  pub texts : (r : ℕ) → length (pair_of r kept.registers).text ≤ n

-- where a run begins
pub record IsReady (library : Library) (entry : ℕ) (most : Polynomial) (n : ℕ) (world : World) : Type 0 where
  pub named : entry < REGISTERS
  pub loaded : IsLoaded library world.kept
  pub whole : IsWholeWorld world
  pub call : AreBytes (call_of entry)
  pub begins : IsEntry n (unread_of world) world.kept
  pub small : value most n ≤ LIMIT

-- the files that are needed are open
pub record AreOpen (need : Needs) (files : Files) : Type 0 where
  pub input : need.input ≡ true → (input : Input) × (files.input ≡ Some input)
  pub output : need.output ≡ true → (output : Output) × (files.output ≡ Some output)
