-- What is found for the bytes of plain search texts.
use Rattle.std.specs.Prelude.{ℕ, List, Bool, false, IsTrue}
use Rattle.teco_model.specs.Match.{is_in}
use Rattle.teco_model.specs.Pattern.{literal}
use Rattle.teco_policy.specs.Subsequences.{is_one_of}
use Rattle.teco_policy.specs.Wordings.{IsFoundIn, Wording}

-- whatever is found for a byte of a plain search text, in either mode, is one of these characters
abbrev pub IsOfEach : List ℕ → ℕ → Type 0
IsOfEach characters b = (exact : Bool) (c : ℕ) → IsTrue (is_in (literal exact b) c) → IsTrue (is_one_of characters c)

-- what is found in either case is found as this search text is looked for
abbrev pub IsInEitherCase : Wording → Type 0
IsInEitherCase wording =
    (text : List ℕ) → IsFoundIn (record { text = wording.text; exact = false }) text → IsFoundIn wording text
