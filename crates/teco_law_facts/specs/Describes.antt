-- What it means that facts describe a state of the machine.
use Rattle.std.specs.Prelude.{◌≡◌, ◌⊎◌, ℕ, ℤ, pos, negsuc, ◌+◌, ◌-◌, ◌≤◌, ◌+ℤ◌, ◌≤ℤ◌, ⊤, List, [], ◌∷◌, length, drop}
use Rattle.std.specs.Prelude.{Bool, Option, Some, None, MatchOption}
use Rattle.teco_model.specs.declared.arguments.Level.{Level}
use Rattle.teco_model.specs.declared.arguments.Taken.{Taken}
use Rattle.teco_model.specs.Arguments.{Arguments, empty_level}
use Rattle.teco_model.specs.Registers.{Pair}
use Rattle.teco_model.specs.State.{Kept}
pub use Rattle.teco_model.specs.laws.Whole.{AreBytes, IsWholePair, IsWhole}
use Rattle.teco_poly.specs.Polynomial.{Polynomial, value}
use Rattle.teco_verifier.specs.declared.values.Interval.{Interval}
use Rattle.teco_verifier.specs.facts.Arguments.{KnownLevel, KnownArguments, KnownTaken}
use Rattle.teco_verifier.specs.facts.Facts.{Position, Answer, Pushed, Facts}
use Rattle.teco_verifier.specs.facts.Values.{IsValue, IsWithin, IsPlaceIf}

-- the pointer's distances from the begin and from the end
abbrev pub back_of : Kept → ℕ
back_of kept = kept.pointer

abbrev pub fore_of : Kept → ℕ
fore_of kept = length kept.text - kept.pointer

-- What a run is at that its facts speak of: the number that the polynomials are taken at, how much was ahead when the
-- turns of the open iterations began, the innermost first, and the push-down list of the entry.
pub record Run : Type 0 where
  pub n : ℕ
  pub turns : List ℕ
  pub below : List Pair

-- a run behind iterations that it left, and one in which a turn begins
abbrev pub run_behind : ℕ → Run → Run
run_behind count run = record run { turns = drop count run.turns }

abbrev pub run_in_turn : ℕ → Kept → Run → Run
run_in_turn unread kept run = record run { turns = (fore_of kept + unread) ∷ run.turns }

-- of what may be absent
abbrev pub IsOptional : {X Y : Type 0} → (X → Y → Type 0) → Option X → Option Y → Type 0
IsOptional P None None = ⊤
IsOptional P (Some x) (Some y) = P x y
IsOptional P None (Some y) = ⊥
IsOptional P (Some x) None = ⊥

-- of each of two lists, in order
abbrev pub AreEach : {X Y : Type 0} → (X → Y → Type 0) → List X → List Y → Type 0
AreEach P [] [] = ⊤
AreEach P (x ∷ xs) (y ∷ ys) = P x y × AreEach P xs ys
AreEach P [] (y ∷ ys) = ⊥
AreEach P (x ∷ xs) [] = ⊥

-- the pending arguments have the levels that are known, with such values
pub record IsLevel (fore back : ℕ) (known : KnownLevel) (level : Level) : Type 0 where
  pub first : IsOptional (IsValue fore back) known.first level.first
  pub value : IsOptional (IsValue fore back) known.value level.value
  pub operator : level.operator ≡ known.operator

pub record ArePending (fore back : ℕ) (known : KnownArguments) (arguments : Arguments) : Type 0 where
  pub level : IsLevel fore back known.level arguments.level
  pub outer : AreEach (IsLevel fore back) known.outer arguments.outer

pub record IsTaken (fore back : ℕ) (known : KnownTaken) (taken : Taken) : Type 0 where
  pub first : IsOptional (IsValue fore back) known.first taken.first
  pub value : IsOptional (IsValue fore back) known.value taken.value

-- what is ahead has fallen by so much since a turn began, if that is known
abbrev pub HasFallen : ℕ → Option ℤ → ℕ → Type 0
HasFallen ahead fall begun = MatchOption fall ⊤ (λ v. (pos ahead +ℤ v) ≤ℤ pos begun)

-- the number of a register that is saved is a place of the buffer
abbrev pub AreSaved : ℕ → ℕ → List Bool → List Pair → Type 0
AreSaved fore back saved pairs = AreEach (λ s (pair : Pair). IsPlaceIf s fore back pair.number) saved pairs

-- The pointer is at least so far from either end; no more is ahead than is known, nor has less of it fallen; and what
-- is saved of the registers is so.
pub record IsAt (run : Run) (position : Position) (fore back unread : ℕ) (pairs : List Pair) : Type 0 where
  pub begin : position.distances.back ≤ back
  pub end : position.distances.fore ≤ fore
  pub fallen : AreEach (HasFallen (fore + unread)) position.falls run.turns
  pub ahead : fore + unread ≤ value position.ahead run.n
  pub saved : AreSaved fore back position.saved pairs

-- an answer tells which outcome's position it is
pub record IsAnswer
    (run : Run) (answer : Answer) (fore back unread : ℕ) (pairs : List Pair) (v : ℤ) : Type 0 where
  pub either : (v ≡ negsuc 0) ⊎ (v ≡ pos 0)
  pub found : v ≡ negsuc 0 → IsAt run answer.found fore back unread pairs
  pub failed : v ≡ pos 0 → IsAt run answer.failed fore back unread pairs

-- Where one is known it is all that the innermost level holds.
abbrev pub Answers : Run → Option Answer → ℕ → ℕ → ℕ → List Pair → Level → Type 0
Answers run answer fore back unread pairs level =
    MatchOption answer ⊤
    (λ a. (v : ℤ) × (level ≡ record empty_level { value = Some v }) × IsAnswer run a fore back unread pairs v)

-- each register's number is of its interval, and its text no longer than is known
pub record AreRegisters
    (run : Run) (intervals : List Interval) (lengths : List Polynomial) (pairs : List Pair) : Type 0 where
  pub numbers : AreEach (λ i (pair : Pair). IsWithin i pair.number) intervals pairs
  pub texts : AreEach (λ most (pair : Pair). length pair.text ≤ value most run.n) lengths pairs

-- the push-down list is that of the entry, and above it what was pushed since
pub record IsPushed (n : ℕ) (known : Pushed) (pair : Pair) : Type 0 where
  pub number : IsWithin known.number pair.number
  pub text : length pair.text ≤ value known.text n

abbrev pub ArePushed : ℕ → List Pair → List Pushed → List Pair → Type 0
ArePushed n below [] stack = stack ≡ below
ArePushed n below (known ∷ pushes) [] = ⊥
ArePushed n below (known ∷ pushes) (pair ∷ stack) = IsPushed n known pair × ArePushed n below pushes stack

-- The facts describe what is kept, and how much of the input is unread.
pub record Holds (run : Run) (facts : Facts) (unread : ℕ) (kept : Kept) : Type 0 where
  pub position : IsAt run facts.position (fore_of kept) (back_of kept) unread kept.registers.pairs
  pub held : length kept.text + unread ≤ value facts.held run.n
  pub registers : AreRegisters run facts.numbers facts.texts kept.registers.pairs
  pub pushed : ArePushed run.n run.below facts.pushes kept.registers.stack

-- They describe the pending arguments, too.
pub record Describes (run : Run) (facts : Facts) (unread : ℕ) (kept : Kept)
    (arguments : Arguments) : Type 0 where
  pub state : Holds run facts unread kept
  pub pending : ArePending (fore_of kept) (back_of kept) facts.arguments arguments
  pub answers :
      Answers run facts.answer (fore_of kept) (back_of kept) unread kept.registers.pairs arguments.level
