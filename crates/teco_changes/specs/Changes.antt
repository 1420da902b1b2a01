-- What the elements of a macro can do to a text.
use Rattle.std.specs.Prelude.{◌≡◌, ◌≢◌, ℕ, zero, suc, List, [], ◌∷◌, ◌++◌, codes, Bool, ◌==◌, IsTrue, All, Contains}
use Rattle.std.specs.Prelude.{Some, Ok, ⊤}
use Rattle.std.specs.Int.{is_in_range}
use Rattle.std.specs.List.{list_any}
use Rattle.teco_changes.specs.declared.change.Change.{Change}
use Rattle.teco_changes.specs.declared.change.Change.TheVariants as change
use Rattle.teco_changes.specs.declared.change.Range.{Range}
use Rattle.teco_model.specs.Match.{match_rest}
use Rattle.teco_model.specs.Pattern.{Pattern, pattern}
use Rattle.teco_model.specs.Registers.{Registers}

-- is a character of a class, which is given by ranges?
abbrev pub is_of_class : List Range → ℕ → Bool
is_of_class ranges b = list_any (λ range. is_in_range range.first range.last b) ranges

-- each character of a text is one of these
abbrev pub AreOneOf : List ℕ → List ℕ → Type 0
AreOneOf characters text = All (λ b. IsTrue (list_any (λ c. c == b) characters)) text

-- what a number is written with
abbrev pub numeral : List ℕ
numeral = codes "-0123456789"

-- A piece is a match of a search text, in one of the modes, with the texts of some registers and before some text.
pub record IsMatch (wanted piece : List ℕ) : Type 0 where
  pub exact : Bool
  pub registers : Registers
  pub said : Pattern
  pub behind : List ℕ
  pub says : pattern registers exact wanted ≡ Ok said
  pub some : said ≢ []
  pub leaves : match_rest said (piece ++ behind) ≡ Some behind

-- a piece of a text that a change can take; a change that only puts takes none
abbrev pub IsTaken : Change → List ℕ → Type 0
IsTaken (change.Puts text) taken = taken ≡ []
IsTaken change.PutsNumber taken = taken ≡ []
IsTaken change.PutsByte taken = taken ≡ []
IsTaken (change.PutsText register) taken = taken ≡ []
IsTaken (change.Takes ranges) taken = (b : ℕ) × (taken ≡ b ∷ []) × IsTrue (is_of_class ranges b)
IsTaken (change.TakesMatch wanted) taken = IsMatch wanted taken
IsTaken change.TakesAny taken = ⊤
IsTaken (change.Swaps wanted text) taken = IsMatch wanted taken

-- a piece that it can put there; a change that only takes puts none. What a register may hold is not told.
abbrev pub IsPut : Change → List ℕ → Type 0
IsPut (change.Puts text) put = put ≡ text
IsPut change.PutsNumber put = AreOneOf numeral put
IsPut change.PutsByte put = (b : ℕ) × (put ≡ b ∷ [])
IsPut (change.PutsText register) put = ⊤
IsPut (change.Takes ranges) put = put ≡ []
IsPut (change.TakesMatch wanted) put = put ≡ []
IsPut change.TakesAny put = put ≡ []
IsPut (change.Swaps wanted text) put = put ≡ text

-- one change: somewhere in the text a piece is taken, and another is put there
pub record IsChange (change : Change) (old new : List ℕ) : Type 0 where
  pub front : List ℕ
  pub taken : List ℕ
  pub put : List ℕ
  pub back : List ℕ
  pub old_is : old ≡ front ++ (taken ++ back)
  pub new_is : new ≡ front ++ (put ++ back)
  pub takes : IsTaken change taken
  pub puts : IsPut change put

-- it is one of a list
pub record IsChangeOf (changes : List Change) (old new : List ℕ) : Type 0 where
  pub change : Change
  pub listed : Contains changes change
  pub does : IsChange change old new

-- so many changes of a list, one after another
abbrev pub InTurn : List Change → ℕ → List ℕ → List ℕ → Type 0
InTurn changes zero old new = old ≡ new
InTurn changes (suc n) old new =
    (between : List ℕ) × IsChangeOf changes old between × InTurn changes n between new

-- a text is got from another by changes of a list
abbrev pub Changes : List Change → List ℕ → List ℕ → Type 0
Changes changes old new = (n : ℕ) × InTurn changes n old new
