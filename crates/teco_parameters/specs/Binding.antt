-- The texts that words of the command line give to parameters.
use Rattle.std.specs.Prelude.{◌≡◌, ℕ, ◌<◌, List, [], ◌∷◌, length, map, Bool, false, not, ◌==◌, ◌||◌, nat_lt}
use Rattle.std.specs.Prelude.{Option, Some, None, option_map, Result, Ok, Err, slice_get, Vec}
use Rattle.std.specs.List.{count_by, find, list_any, position}
use Rattle.std.specs.Option.{option_or}
use Rattle.std.specs.Str.{bytes_eq}
use Rattle.std.specs.declared.alloc.Global.{Global}
use Rattle.teco_base.specs.Register.{register_of}
use Rattle.teco_parameters.specs.declared.binding.BindingFault.{BindingFault}
use Rattle.teco_parameters.specs.declared.binding.BindingFault.TheVariants as fault
use Rattle.teco_parameters.specs.declared.binding.Given.{Given}
use Rattle.teco_parameters.specs.declared.parameter.Parameter.{Parameter}

-- is it this register?
abbrev pub is_register : ℕ → Option ℕ → Bool
is_register register (Some named) = named == register
is_register register None = false

-- is a key the name of a register, a letter in either case or a digit?
abbrev pub names_register : ℕ → List ℕ → Bool
names_register register (letter ∷ []) = is_register register (register_of letter)
names_register register other = false

-- is a key the name of a parameter, or that of its register?
abbrev pub names : Parameter → List ℕ → Bool
names parameter key = bytes_eq key parameter.name.items || names_register parameter.register key

-- does a word name a parameter?
abbrev pub is_for : Parameter → Given → Bool
is_for parameter word = names parameter word.key.now

-- does a word name one of the parameters?
abbrev pub is_known : List Parameter → Given → Bool
is_known parameters word = list_any (λ parameter. is_for parameter word) parameters

-- how many words name a parameter
abbrev pub uses : List Given → Parameter → ℕ
uses given parameter = count_by (is_for parameter) given

-- the text of a parameter: that of a word that names it, or else its default
abbrev pub text_of : List Given → Parameter → Option (List ℕ)
text_of given parameter =
    option_or (option_map (λ word. word.text.now) (find (is_for parameter) given))
    (option_map (λ text. text.items) parameter.default)

-- the place of the first word that names no parameter
abbrev pub first_unknown : List Parameter → List Given → Option ℕ
first_unknown parameters given = position (λ word. not (is_known parameters word)) given

-- the place of the first parameter that two words name
abbrev pub first_used_twice : List Parameter → List Given → Option ℕ
first_used_twice parameters given = position (λ parameter. nat_lt 1 (uses given parameter)) parameters

-- Each word names a parameter, no two the same, and each parameter has its text.
pub record IsBinding (parameters : List Parameter) (given : List Given) (texts : List (Vec ℕ Global)) : Type 0 where
  pub known : first_unknown parameters given ≡ None
  pub once : first_used_twice parameters given ≡ None
  pub each : map (λ text. Some text.items) texts ≡ map (text_of given) parameters

-- a parameter has no text
pub record IsMissing (parameters : List Parameter) (given : List Given) (i : ℕ) : Type 0 where
  pub within : i < length parameters
  pub none : (parameter : Parameter) → slice_get parameters i ≡ Some parameter → text_of given parameter ≡ None

-- a fault tells which word or parameter is to blame
abbrev pub IsFault : List Parameter → List Given → BindingFault → Type 0
IsFault parameters given (fault.Unknown k) = first_unknown parameters given ≡ Some k
IsFault parameters given (fault.Twice i) = first_used_twice parameters given ≡ Some i
IsFault parameters given (fault.Missing i) = IsMissing parameters given i
IsFault parameters given fault.Memory = Unit {0}

-- texts in the order of the parameters, or why there are none
abbrev pub AreTexts : List Parameter → List Given → Result (Vec (Vec ℕ Global) Global) BindingFault → Type 0
AreTexts parameters given (Ok texts) = map (λ text. Some text.items) texts.items ≡ map (text_of given) parameters
AreTexts parameters given (Err fault) = IsFault parameters given fault

-- the texts of all parameters, or why there are none
abbrev pub Binds : List Parameter → List Given → Result (Vec (Vec ℕ Global) Global) BindingFault → Type 0
Binds parameters given (Ok texts) = IsBinding parameters given texts.items
Binds parameters given (Err fault) = IsFault parameters given fault
