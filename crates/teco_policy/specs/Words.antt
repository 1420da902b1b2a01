-- The words of the command line that ask for policies.
use Rattle.std.specs.Prelude.{◌≡◌, ◌≢◌, ℕ, ◌+◌, ◌*◌, ◌-◌, List, [], ◌++◌, codes, Bool, All, IsTrue, Result, Ok, Err}
use Rattle.std.specs.List.{fold}
use Rattle.teco_base.specs.Bytes.{is_digit}
use Rattle.teco_policy.specs.declared.policy.Policy.{Policy}
use Rattle.teco_policy.specs.declared.policy.Policy.TheVariants as policy
use Rattle.teco_policy.specs.declared.refusal.PolicyRefusal.{PolicyRefusal}
use Rattle.teco_policy.specs.declared.refusal.PolicyRefusal.TheVariants as refusal
use Rattle.teco_policy.specs.declared.words.PolicyOption.{PolicyOption}
use Rattle.teco_policy.specs.declared.words.PolicyOption.TheVariants as option

-- the number that decimal digits are
abbrev pub number_of : List ℕ → ℕ
number_of digits = fold (λ n b. n * 10 + (b - 48)) 0 digits

-- digits, one at least, are a number
pub record IsNumber (n : ℕ) (digits : List ℕ) : Type 0 where
  pub some : digits ≢ []
  pub each : All (λ b. IsTrue (is_digit b)) digits
  pub value : n ≡ number_of digits

-- the option that a policy stands behind
abbrev pub option_of : Policy → PolicyOption
option_of policy.KeepText = option.Keep
option_of policy.KeepSize = option.Keep
option_of policy.KeepLines = option.Keep
option_of (policy.KeepOthers wording) = option.Keep
option_of policy.AddNothing = option.Add
option_of (policy.AddOnly characters) = option.Add
option_of (policy.TakeOnly characters) = option.Take
option_of (policy.Most n) = option.Most
option_of (policy.MostPercent n) = option.Most

-- a word, in a mode of searches, asks for a policy
abbrev pub AsksFor : Bool → List ℕ → Policy → Type 0
AsksFor exact word policy.KeepText = word ≡ codes "text"
AsksFor exact word policy.KeepSize = word ≡ codes "size"
AsksFor exact word policy.KeepLines = word ≡ codes "lines"
AsksFor exact word (policy.KeepOthers wording) = (word ≡ codes "others=" ++ wording.text) × (wording.exact ≡ exact)
AsksFor exact word policy.AddNothing = word ≡ codes "nothing"
AsksFor exact word (policy.AddOnly characters) = word ≡ codes "only=" ++ characters.items
AsksFor exact word (policy.TakeOnly characters) = word ≡ codes "only=" ++ characters.items
AsksFor exact word (policy.Most n) = IsNumber n word
AsksFor exact word (policy.MostPercent n) = (digits : List ℕ) × (word ≡ digits ++ codes "%") × IsNumber n digits

-- a policy that a word behind an option asks for
pub record IsAskedFor (behind : PolicyOption) (exact : Bool) (word : List ℕ) (asked : Policy) : Type 0 where
  pub stands : option_of asked ≡ behind
  pub says : AsksFor exact word asked

-- What is read asks for that policy; a word that is refused as none asks for no policy.
abbrev pub IsRead : PolicyOption → Bool → List ℕ → Result Policy PolicyRefusal → Type 0
IsRead behind exact word (Ok asked) = IsAskedFor behind exact word asked
IsRead behind exact word (Err refusal.Word) = (asked : Policy) → IsAskedFor behind exact word asked → ⊥
IsRead behind exact word (Err other) = Unit {0}
