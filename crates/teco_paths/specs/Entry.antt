-- What is known of a macro's state at its entry.
use Rattle.std.specs.Prelude.{◌≡◌, ℕ, zero, suc, ◌+◌, ◌*◌, ◌≤◌, nat_lt, ◌&&◌, ◌==◌, ℤ, pos, ◌+ℤ◌, ◌≤ℤ◌, List}
use Rattle.std.specs.Prelude.{[], length, Bool, true, false, Option, Some, None, slice_index_or}
use Rattle.teco_base.specs.declared.TheConstants.{REGISTERS}
use Rattle.teco_linear.specs.declared.term.Term.{Term}
use Rattle.teco_linear.specs.Form.{Valuation}
use Rattle.teco_model.specs.Macros.{ArgumentRange, IsAsked}
use Rattle.teco_model.specs.State.{Kept, held_length}
use Rattle.teco_model.specs.Storage.{text_in}
use Rattle.teco_model.specs.laws.Whole.{IsWhole}
use Rattle.teco_rows.specs.declared.measure.Family.{Family}
use Rattle.teco_rows.specs.declared.measure.Family.TheVariants.{Number, Length}
use Rattle.teco_rows.specs.declared.measure.Family.TheVariants.{Value}
use Rattle.teco_rows.specs.declared.measure.Measure.{Measure}
use Rattle.teco_rows.specs.declared.measure.Measure.TheVariants.{One, Each}
use Rattle.teco_rows.specs.States.{Point}
use Rattle.teco_paths.specs.declared.cut.CutState.{CutState}
use Rattle.teco_paths.specs.Claims.{AreClaimed, ClaimHolds}
use Rattle.teco_paths.specs.Symbols.{measure_of, numbers_of}
use Rattle.teco_verifier.specs.facts.Argument.{arguments_given}
use Rattle.teco_verifier.specs.table.Printed.{steps_before}

-- texts of registers are as long as is said
abbrev pub HaveLengths : List (Option ℕ) → Kept → Type 0
HaveLengths lengths kept =
    (r long : ℕ) → slice_index_or lengths r None ≡ Some long → length (text_in r kept) ≡ long

-- the state at the entry, where N is n and this is given
pub record IsEntered
    (lengths : List (Option ℕ)) (argument : Option ArgumentRange) (n : ℕ) (given : Option ℕ) (s : Point) :
    Type 0 where
  pub whole : IsWhole s.kept
  pub loaded : HaveLengths lengths s.kept
  pub steps : s.steps ≡ steps_before argument
  pub held : held_length s.kept + s.unread ≤ n
  pub asked : IsAsked argument given
  pub arguments : s.arguments ≡ arguments_given given
  pub loops : s.loops ≡ []
  pub pushes : s.origin.pushes ≡ length s.kept.registers.stack
  pub typed : s.origin.typed ≡ length s.kept.typed
  pub all : s.origin.held ≡ length s.kept.text + s.unread

-- the length of the text of a register, or 0
abbrev pub length_if : Bool → Valuation → ℕ → ℤ
length_if false v register = pos 0
length_if true v register = v (12 + 7 * register)

-- the lengths of those texts of the first registers, together, whose places are marked
abbrev pub used_lengths : List Bool → Valuation → ℕ → ℤ
used_lengths used v zero = pos 0
used_lengths used v (suc registers) =
    used_lengths used v registers +ℤ length_if (slice_index_or used (12 + 7 * registers) false) v registers

-- a claim holds at each such state
abbrev pub IsEntryClaim : List (Option ℕ) → Option ArgumentRange → List Term → Type 0
IsEntryClaim lengths argument claim =
    (n : ℕ) (given : Option ℕ) (s : Point) → IsEntered lengths argument n given s → ClaimHolds n s claim

-- the measure of a place is between two numbers at each such state
abbrev pub IsEntryBound : List (Option ℕ) → Option ArgumentRange → ℕ → ℕ → ℕ → Type 0
IsEntryBound lengths argument place least most =
    (n : ℕ) (given : Option ℕ) (s : Point)
    → IsEntered lengths argument n given s
    → (pos least ≤ℤ numbers_of s place) × (numbers_of s place ≤ℤ pos most)

abbrev pub family_is_there : Bool → Family → ℕ → Bool
family_is_there has_argument Number i = nat_lt i REGISTERS
family_is_there has_argument Length i = nat_lt i REGISTERS
family_is_there has_argument Value i = has_argument && (0 == i)
family_is_there has_argument f i = false

-- which measures there are at an entry
abbrev pub is_there : Bool → Measure → Bool
is_there has_argument (One single) = true
is_there has_argument (Each family i) = family_is_there has_argument family i

abbrev pub AreThere : Bool → List Bool → Type 0
AreThere has_argument present =
    (k : ℕ) → slice_index_or present k false ≡ is_there has_argument (measure_of k)

-- the state at each entry is as a cut point says
abbrev pub IsEntryCut : List (Option ℕ) → Option ArgumentRange → CutState → Type 0
IsEntryCut lengths argument cut =
    (n : ℕ) (given : Option ℕ) (s : Point) → IsEntered lengths argument n given s → AreClaimed n cut s
