-- The register that an element names is one of the 36.
use Rattle.teco_law_facts.proofs.Prelude.{◌≡◌, ℕ, ◌<◌, ◌≤◌, arith, List, [], ◌∷◌, Option, Some, None, option_map}
use Rattle.teco_law_facts.proofs.Prelude.{IfSome, Result, IfOk, Bool, true, false, cond, nat_le, ◌&&◌, ⊤, nat_tests}
use Rattle.teco_law_facts.proofs.Prelude.{REGISTERS, Code, letters, Kind, IsNamed}
use Rattle.std.specs.Option.{option_or}
use Rattle.std.specs.Prelude.{codes, option_and_then}
use Rattle.teco_base.specs.Bytes.{is_among, to_upper, control}
use Rattle.teco_base.specs.Register.{register_of}
use Rattle.teco_model.specs.Form.{kind_on}
use Rattle.teco_model.specs.Letters as letter
use Rattle.teco_model.specs.declared.head.Head.{Head}
use Rattle.teco_model.specs.declared.head.Head.TheVariants as head
use Rattle.teco_model.specs.declared.head.OnRegister.{OnRegister}
use Rattle.teco_model.specs.declared.head.OnRegister.TheVariants as on_register
use Rattle.teco_model.proofs.Standing.{IsOfHead, found_read}
use Rattle.teco_model.proofs.Bytes.{of_either}
use Rattle.teco_law_facts.specs.SoundSteps.{ElementsAreNamed}

-- ---- heads
abbrev IsPlain : Head → Type 0
IsPlain (head.Kind k) = IsNamed k
IsPlain (head.OnRegister c) = ⊤

mapped_so : {X : Type 0} (f : X → Head) → ((x : X) → IsPlain (f x)) → (o : Option X) → IfSome (option_map f o) IsPlain
mapped_so f k None = tt
mapped_so f k (Some x) = k x

kinds_so : (o : Option Kind) → IfSome o IsNamed → IfSome (option_map head.Kind o) IsPlain
kinds_so None h = tt
kinds_so (Some k) h = h

or_so : (o other : Option Head) → IfSome o IsPlain → IfSome other IsPlain → IfSome (option_or o other) IsPlain
or_so None other h i = i
or_so (Some x) other h i = h

in_range : (a b name place : ℕ) (x y : Bool) (other : Option ℕ) → nat_le a name ≡ x → nat_le name b ≡ y
    → (a ≤ name → name ≤ b → place < REGISTERS) → IfSome other (λ r. r < REGISTERS)
    → IfSome (cond (x && y) (Some place) other) (λ r. r < REGISTERS)
in_range a b name place true true other e f k h = k (grind (arith, nat_tests)) (grind (arith, nat_tests))
in_range a b name place true false other e f k h = h
in_range a b name place false y other e f k h = h

register_small : (name : ℕ) → IfSome (register_of name) (λ r. r < REGISTERS)
register_small name = search (in_range, arith)

named_on : (c : OnRegister) (r : ℕ) → r < REGISTERS → IsNamed (kind_on c r)
named_on on_register.Call r l = tt
named_on c r l = l

-- ---- letters
plain_or : (b : Bool) (h : Head) (other : Option Head) → IsPlain h → IfSome other IsPlain
    → IfSome (cond b (Some h) other) IsPlain
plain_or true h other p i = p
plain_or false h other p i = i

control_so : (b : ℕ) → IfSome (letter.control_command b) IsPlain
control_so b = search (plain_or, tt) depth 12

command_so : (b : ℕ) → IfSome (letter.command_sign b) IsPlain
command_so b = search (plain_or, tt) depth 14

to_m_so : (b : ℕ) → IfSome (letter.letter_to_m b) IsPlain
to_m_so b = search (plain_or, tt) depth 14

from_n_so : (b : ℕ) → IfSome (letter.letter_from_n b) IsPlain
from_n_so b = search (plain_or, tt) depth 14

kind_or : (b : Bool) (k : Kind) (other : Option Kind) → IsNamed k → IfSome other IsNamed
    → IfSome (cond b (Some k) other) IsNamed
kind_or true k other p i = p
kind_or false k other p i = i

argument_so : (b : ℕ) → IfSome (letter.argument_sign b) IsNamed
argument_so b = search (kind_or, tt) depth 14

one_so : (b : ℕ) → IfSome (letter.one_byte b) IsPlain
one_so b = search (or_so, kinds_so, argument_so, command_so, to_m_so, from_n_so, control_so) depth 8

head_so : (o : Option Head) (n : ℕ) → IfSome o IsPlain → IfOk (letter.head_of o n) (λ h. IsPlain h.0)
head_so None n h = tt
head_so (Some x) n h = h

second_so : (names : ℕ → Option Head) → ((b : ℕ) → IfSome (names b) IsPlain) → (bytes : List ℕ)
    → IfOk (letter.second_byte names bytes) (λ h. IsPlain h.0)
second_so names k [] = tt
second_so names k (b ∷ rest) = head_so (names (to_upper b)) 2 (k (to_upper b))

caret_so : (bytes : List ℕ) → IfOk (letter.caret bytes) (λ h. IsPlain h.0)
caret_so [] = tt
caret_so (c ∷ rest) = head_so _ 2 (by (control c)) where
  by : (o : Option ℕ) → IfSome (option_and_then letter.control_command o) IsPlain
  by None = tt
  by (Some b) = control_so b

page_so : (bytes : List ℕ) → IsPlain (letter.page_letters bytes).0
page_so [] = tt
page_so (b ∷ rest) = of_either (λ (h : Head × ℕ). IsPlain h.0) (is_among (to_upper b) (codes "W")) _ _ tt tt

replace_so : (b : ℕ) → IfSome (letter.replace_or_flow b) IsPlain
replace_so b = search (or_so, mapped_so, tt) depth 6

abbrev AreSo : Result (Head × ℕ) Code → Type 0
AreSo r = IfOk r (λ (h : Head × ℕ). IsPlain h.0)

either_so : (b : Bool) (x y : Result (Head × ℕ) Code) → AreSo x → AreSo y → AreSo (cond b x y)
either_so true x y h i = h
either_so false x y h i = i

letters_so : (bytes : List ℕ) → AreSo (letters bytes)
unfolding letters
letters_so [] = tt
letters_so (b ∷ rest) = search (
  either_so,
  second_so,
  mapped_so,
  replace_so,
  caret_so,
  page_so,
  head_so,
  one_so,
  tt,
) depth 14

kind_so : (h : Head) (k : Kind) → IsPlain h → IsOfHead h k → IsNamed k
kind_so (head.Kind k) kind p is = rw is p
kind_so (head.OnRegister c) kind p is =
    let small : is.register < REGISTERS = rw is.named at (register_small is.name) in
    rw is.is (named_on c is.register small)

pub elements_are_named : ElementsAreNamed
elements_are_named text at e h =
    let r = found_read text at e h in
    let plain : IsPlain r.head = rw r.named at (letters_so r.behind) in
    kind_so r.head e.kind plain r.kind
