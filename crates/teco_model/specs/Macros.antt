-- Libraries of macros, how one of them is called, and what a call may need.
use Rattle.std.specs.Prelude.{◌≡◌, ℕ, ◌<◌, ◌≤◌, ◌^◌, ⊤, List, [], ◌∷◌, Option, Some, None, Bool, ◌&&◌, nat_le, nat_lt}
use Rattle.std.specs.Prelude.{is_some, slice_index_or}
use Rattle.teco_base.specs.Register.{register_name}
use Rattle.teco_model.specs.State.{Kept}
use Rattle.teco_model.specs.Storage.{text_in}

-- the texts by the places of their registers, each perhaps absent
abbrev pub Library : Type 0
Library = List (Option (List ℕ))

-- the text of a register, where it is one of the library
abbrev pub macro : Library → ℕ → Option (List ℕ)
macro library r = slice_index_or library r None

abbrev pub is_macro : Library → ℕ → Bool
is_macro library r = is_some (macro library r)

-- each register of the library holds its text
pub record IsLoaded (library : Library) (kept : Kept) : Type 0 where
  pub holds : (r : ℕ) (text : List ℕ) → macro library r ≡ Some text → text_in r kept ≡ text

-- a macro is called by a command string of its own
abbrev pub call_of : ℕ → List ℕ
call_of entry = 77 ∷ register_name entry ∷ []

-- the arguments that a macro may be declared to take, from the least to the greatest
pub record ArgumentRange : Type 0 where
  pub low : ℕ
  pub high : ℕ

-- numbers of 32 bits, in order
pub record IsArgumentRange (range : ArgumentRange) : Type 0 where
  pub ordered : range.low ≤ range.high
  pub small : range.high < 2 ^ 31

abbrev pub is_range : ArgumentRange → Bool
is_range range = nat_le range.low range.high && nat_lt range.high (2 ^ 31)

pub record IsInRange (range : ArgumentRange) (n : ℕ) : Type 0 where
  pub low : range.low ≤ n
  pub high : n ≤ range.high
  pub small : n < 2 ^ 31

-- An argument is given where one is declared, and then in its range.
abbrev pub IsAsked : Option ArgumentRange → Option ℕ → Type 0
IsAsked None None = ⊤
IsAsked (Some range) (Some n) = IsInRange range n
IsAsked None (Some n) = ⊥
IsAsked (Some range) None = ⊥

-- the files that must be open for a call
pub record Needs : Type 0 where
  pub input : Bool
  pub output : Bool
