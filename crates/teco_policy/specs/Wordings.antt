-- Search texts that are looked for in what stands in a line.
use Rattle.std.specs.Prelude.{◌≡◌, ◌⊎◌, ℕ, List, Bool, IsSome, MatchResult}
use Rattle.teco_model.specs.Match.{first_from}
use Rattle.teco_model.specs.Pattern.{pattern}
use Rattle.teco_model.specs.Registers.{empty_registers}
use Rattle.teco_policy.specs.Lines.{EndAlike, body}

-- a search text, and the mode of the search: whether a letter is its own case alone
pub record Wording : Type 0 where
  pub text : List ℕ
  pub exact : Bool

-- what a search text says has a match in a text
abbrev pub IsFoundIn : Wording → List ℕ → Type 0
IsFoundIn wording text =
    MatchResult (pattern empty_registers wording.exact wording.text) (λ said. IsSome (first_from said text 0)) (λ c. ⊥)

-- a line ends as before, and is the same unless the search text is found in what stood in it
abbrev pub IsSameOrFound : Wording → List ℕ → List ℕ → Type 0
IsSameOrFound wording old new = EndAlike old new × ((old ≡ new) ⊎ IsFoundIn wording (body old))
