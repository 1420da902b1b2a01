-- The registers: 36 pairs of a number and a text, by their places, and the push-down list of such pairs.
use Rattle.std.specs.Prelude.{◌≡◌, ℕ, ℤ, ◌+◌, ◌≤◌, pos, List, [], ◌∷◌, length, map, zip, replicate, sum_by, All}
use Rattle.std.specs.Prelude.{slice_set, slice_index_or, Option, Some, None}
use Rattle.teco_base.specs.declared.TheConstants.{LIMIT, REGISTERS}

-- what a register holds
pub record Pair : Type 0 where
  pub number : ℤ
  pub text : List ℕ

-- what a register of a new machine holds
abbrev pub empty_pair : Pair
empty_pair = record { number = pos 0; text = [] }

-- the pairs by the places of their registers, and those of the push-down list, the newest first
pub record Registers : Type 0 where
  pub pairs : List Pair
  pub stack : List Pair

-- the registers of a new machine
unfoldable pub empty_pairs : List Pair
empty_pairs = replicate REGISTERS empty_pair

abbrev pub empty_registers : Registers
empty_registers = record { pairs = empty_pairs; stack = [] }

-- a pair whose text is not too long
abbrev pub IsWithinLimit : Pair → Type 0
IsWithinLimit pair = length pair.text ≤ LIMIT

-- What always holds of a machine's registers: there are 36 of them, and no text is too long.
pub record AreWhole (registers : Registers) : Type 0 where
  pub count : length registers.pairs ≡ REGISTERS
  pub within : All IsWithinLimit registers.pairs
  pub stack_within : All IsWithinLimit registers.stack

-- what a register holds
abbrev pub pair_of : ℕ → Registers → Pair
pair_of r registers = slice_index_or registers.pairs r empty_pair

-- one register holds another pair
abbrev pub with_pair : ℕ → Pair → Registers → Registers
with_pair r pair registers = record registers { pairs = slice_set registers.pairs r pair }

-- the number of a register is set
abbrev pub with_number : ℕ → ℤ → Registers → Registers
with_number r n registers = with_pair r (record (pair_of r registers) { number = n }) registers

-- the text of a register is set
abbrev pub with_text : ℕ → List ℕ → Registers → Registers
with_text r text registers = with_pair r (record (pair_of r registers) { text = text }) registers

-- Some registers get a text of their own, each in its place; the others keep theirs.
abbrev pub with_own_text : Option (List ℕ) → Pair → Pair
with_own_text None pair = pair
with_own_text (Some text) pair = record pair { text = text }

abbrev pub with_texts : List (Option (List ℕ)) → Registers → Registers
with_texts texts registers =
    record registers { pairs = map (λ own. with_own_text own.0 own.1) (zip texts registers.pairs) }

-- Pushing puts a copy of the pair on the list; popping takes the newest off it, or there is none.
abbrev pub registers_after_push : ℕ → Registers → Registers
registers_after_push r registers = record registers { stack = pair_of r registers ∷ registers.stack }

abbrev pub registers_without_top : ℕ → List Pair → Registers → Option Registers
registers_without_top r [] registers = None
registers_without_top r (pair ∷ rest) registers =
    Some (record (with_pair r pair registers) { stack = rest })

abbrev pub registers_after_pop : ℕ → Registers → Option Registers
registers_after_pop r registers = registers_without_top r registers.stack registers

-- how many characters a pair holds, and how many the registers and the push-down list hold together
abbrev pub held_length_of_pair : Pair → ℕ
held_length_of_pair pair = length pair.text

abbrev pub held_length_of_registers : Registers → ℕ
held_length_of_registers registers =
    sum_by held_length_of_pair registers.pairs + sum_by held_length_of_pair registers.stack
