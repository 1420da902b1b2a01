-- What follows from the changes of a macro: policies that each text keeps.
use Rattle.std.specs.Prelude.{◌≡◌, ◌≢◌, ◌⊎◌, ℕ, List, [], ◌∷◌, Bool, false, not, All, Contains, Vec}
use Rattle.std.specs.Prelude.{if◌then◌else◌}
use Rattle.std.specs.List.{AllZip}
use Rattle.std.specs.declared.alloc.Global.{Global}
use Rattle.teco_base.specs.Bytes.{is_line_end}
use Rattle.teco_changes.specs.Changes.{AreOneOf, Changes, IsMatch, IsPut, IsTaken}
use Rattle.teco_change_policies.specs.Simple.{IsSimple}
use Rattle.teco_changes.specs.declared.change.Change.{Change}
use Rattle.teco_policy.specs.Lines.{EndAlike, body, in_first}
use Rattle.teco_policy.specs.Policies.{Keeps}
use Rattle.teco_policy.specs.declared.policy.Policy.{Policy}
use Rattle.teco_policy.specs.Wordings.{IsFoundIn}
use Rattle.teco_policy.specs.declared.policy.Policy.TheVariants as policy

-- whatever a change takes is so
abbrev pub TakesWhat : (List ℕ → Type 0) → Change → Type 0
TakesWhat Is change = (taken : List ℕ) → IsTaken change taken → Is taken

-- whatever it puts is so
abbrev pub PutsWhat : (List ℕ → Type 0) → Change → Type 0
PutsWhat Is change = (put : List ℕ) → IsPut change put → Is put

abbrev pub TakesNothing : Change → Type 0
TakesNothing change = TakesWhat (λ text. text ≡ []) change

abbrev pub PutsNothing : Change → Type 0
PutsNothing change = PutsWhat (λ text. text ≡ []) change

abbrev pub TakesOnly : List ℕ → Change → Type 0
TakesOnly characters change = TakesWhat (AreOneOf characters) change

abbrev pub PutsOnly : List ℕ → Change → Type 0
PutsOnly characters change = PutsWhat (AreOneOf characters) change

-- a piece of one line, without its line end
abbrev pub IsWithinLine : List ℕ → Type 0
IsWithinLine text = All (λ b. is_line_end b ≡ false) text

abbrev pub KeepsLineEnds : Change → Type 0
KeepsLineEnds change = TakesWhat IsWithinLine change × PutsWhat IsWithinLine change

-- a piece that is not empty is put in the stead of another
abbrev pub Swaps : Change → Type 0
Swaps change = TakesWhat (λ text. text ≢ []) change × PutsWhat (λ text. text ≢ []) change

-- such changes, whichever they are and however many, keep a policy in every text
abbrev pub AlwaysKeep : List Change → Policy → Type 0
AlwaysKeep changes policy = (old new : List ℕ) → Changes changes old new → Keeps policy old new

-- a policy follows, if each change is so
abbrev pub Follows : (Change → Type 0) → Policy → Type 0
Follows Is policy = (changes : List Change) → All Is changes → AlwaysKeep changes policy

abbrev pub TextIsKept : Type 0
TextIsKept = Follows TakesNothing policy.KeepText

abbrev pub NothingIsAdded : Type 0
NothingIsAdded = Follows PutsNothing policy.AddNothing

abbrev pub OnlyTheseAreAdded : Type 0
OnlyTheseAreAdded = (characters : Vec ℕ Global) → Follows (PutsOnly characters.items) (policy.AddOnly characters)

abbrev pub OnlyTheseAreTaken : Type 0
OnlyTheseAreTaken = (characters : Vec ℕ Global) → Follows (TakesOnly characters.items) (policy.TakeOnly characters)

-- the same line ends stand in both texts, in turn
abbrev pub LineEndsAreKept : Type 0
LineEndsAreKept =
    (changes : List Change) (old new : List ℕ) → All KeepsLineEnds changes → Changes changes old new → EndAlike old new

-- does a text end within a line, with a character that is no line end?
abbrev pub ends_within_line : List ℕ → Bool
ends_within_line [] = false
ends_within_line (b ∷ []) = not (is_line_end b)
ends_within_line (b ∷ c ∷ text) = ends_within_line (c ∷ text)

-- A last line without a line end may come or go; if it does neither, lines are kept.
abbrev pub LinesAreKept : Type 0
LinesAreKept =
    (changes : List Change) (old new : List ℕ) → All KeepsLineEnds changes → Changes changes old new
    → ends_within_line old ≡ ends_within_line new → Keeps policy.KeepLines old new

-- it does neither where no piece is put at an end of a line or leaves nothing behind
abbrev pub SwapsKeepLines : Type 0
SwapsKeepLines = Follows (λ change. KeepsLineEnds change × Swaps change) policy.KeepLines

-- whatever it takes is a match of this search text
abbrev pub Seeks : List ℕ → Change → Type 0
Seeks wanted change = TakesWhat (IsMatch wanted) change

-- this search text, in either case, has a match in each line that changes
abbrev pub others : List ℕ → Policy
others wanted = policy.KeepOthers (record { text = wanted; exact = false })

-- Lines without a match stay as they are, if a last line without a line end neither comes nor goes.
abbrev pub OthersAreKept : Type 0
OthersAreKept =
    (wanted : List ℕ) → IsSimple wanted → (changes : List Change) (old new : List ℕ)
    → All (λ change. KeepsLineEnds change × Seeks wanted change) changes → Changes changes old new
    → ends_within_line old ≡ ends_within_line new → Keeps (others wanted) old new

abbrev pub SwapsKeepOthers : Type 0
SwapsKeepOthers =
    (wanted : List ℕ) → IsSimple wanted
    → Follows (λ change. (KeepsLineEnds change × Swaps change) × Seeks wanted change) (others wanted)

-- The lines of a text, and what stands behind the last line end, even if nothing does.
abbrev pub all_lines : List ℕ → List (List ℕ)
all_lines [] = [] ∷ []
all_lines (b ∷ text) = if is_line_end b then (b ∷ []) ∷ all_lines text else in_first b (all_lines text)

-- one of some search texts, in either case, has a match in a text
abbrev pub HasOne : List (List ℕ) → List ℕ → Type 0
HasOne wanted text =
    (sought : List ℕ) × Contains wanted sought × IsFoundIn (record { text = sought; exact = false }) text

-- a line ends as before, and is the same unless it has a match of one of them
abbrev pub IsSameOrHas : List (List ℕ) → List ℕ → List ℕ → Type 0
IsSameOrHas wanted old new = EndAlike old new × ((old ≡ new) ⊎ HasOne wanted (body old))

-- each line without a match of one of them stays as it is; a last line without a line end may come or go
abbrev pub OthersStay : List (List ℕ) → List ℕ → List ℕ → Type 0
OthersStay wanted old new = AllZip (IsSameOrHas wanted) (all_lines old) (all_lines new)

-- such changes, however many, leave those lines in every text
abbrev pub LeaveOthers : List Change → List (List ℕ) → Type 0
LeaveOthers changes wanted = (old new : List ℕ) → Changes changes old new → OthersStay wanted old new

-- whatever a change takes is a match of one of these search texts
abbrev pub SeeksOne : List (List ℕ) → Change → Type 0
SeeksOne wanted change =
    TakesWhat (λ taken. (sought : List ℕ) × Contains wanted sought × IsMatch sought taken) change

abbrev pub OthersAreLeft : Type 0
OthersAreLeft =
    (wanted : List (List ℕ)) → All IsSimple wanted → (changes : List Change)
    → All (λ change. KeepsLineEnds change × SeeksOne wanted change) changes → LeaveOthers changes wanted
