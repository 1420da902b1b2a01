-- What a result comes to, and the codes of reading and of search texts.
use Rattle.teco_model.proofs.Prelude.{ℕ, zero, suc, ◌+◌, List, [], ◌∷◌, drop, take, Bool, true, false, ◌≡◌, refl}
use Rattle.teco_model.proofs.Prelude.{if◌then◌else◌, Option, Some, None, Result, Ok, Err, Code, ◌>>=◌, Element}
use Rattle.teco_model.proofs.Prelude.{Registers, IsOfStep, Head, TextShape, Itself, EndedBy, Two, NoText}
use Rattle.std.specs.Option.{ok_or}
use Rattle.teco_base.specs.declared.code.Code.TheVariants as code
use Rattle.teco_model.specs.Element as element
use Rattle.teco_model.specs.Letters as letters
use Rattle.teco_model.specs.Pattern as pattern
use Rattle.teco_model.specs.declared.head.Head.TheVariants as head
use Rattle.teco_model.specs.declared.pattern.Class.{Class}

-- if it is a code, it is one that a step may be
abbrev pub Coded : {X : Type 0} → Result X Code → Type 0
Coded (Ok x) = Unit {0}
Coded (Err c) = IsOfStep c

pub after : {X Y : Type 0} (r : Result X Code) (f : X → Result Y Code) → Coded r → ((x : X) → Coded (f x))
    → Coded (r >>= f)
after (Ok x) f h k = k x
after (Err c) f h k = h

-- if it is Ok, then Q; if it is a code, it is one that a step may be
abbrev pub Yields : {X : Type 0} → (X → Type 0) → Result X Code → Type 0
Yields Q (Ok x) = Q x
Yields Q (Err c) = IsOfStep c

pub yields_then : {X Y : Type 0} (P : X → Type 0) (Q : Y → Type 0) (r : Result X Code) (f : X → Result Y Code)
    → Yields P r → ((x : X) → P x → Yields Q (f x)) → Yields Q (r >>= f)
yields_then P Q (Ok x) f h k = k x h
yields_then P Q (Err c) f h k = h

pub yields_any : {X Y : Type 0} (Q : Y → Type 0) (r : Result X Code) (f : X → Result Y Code) → Coded r
    → ((x : X) → Yields Q (f x)) → Yields Q (r >>= f)
yields_any Q (Ok x) f h k = k x
yields_any Q (Err c) f h k = h

pub yields_if : {X : Type 0} (Q : X → Type 0) (b : Bool) (x : X) (c : Code) → IsOfStep c → (b ≡ true → Q x)
    → Yields Q (if b then Ok x else Err c)
yields_if Q true x c h k = k refl
yields_if Q false x c h k = h

pub some : {X : Type 0} (o : Option X) (c : Code) → IsOfStep c → Coded (ok_or o c)
some None c h = h
some (Some x) c h = tt

pub either : {X : Type 0} (b : Bool) (r s : Result X Code) → Coded r → Coded s → Coded (if b then r else s)
either true r s h k = h
either false r s h k = k

-- letters
second_byte : (names : ℕ → Option Head) (bytes : List ℕ) → Coded (letters.second_byte names bytes)
second_byte names [] = tt
second_byte names (b ∷ rest) = search (after, some)

caret : (bytes : List ℕ) → Coded (letters.caret bytes)
caret [] = tt
caret (c ∷ rest) = search (after, some)

letters_coded : (bytes : List ℕ) → Coded (letters.letters bytes)
unfolding letters.letters
letters_coded [] = tt
letters_coded (b ∷ rest) = search (either, second_byte, caret, after, some) depth 12

-- elements
modifiers : (h : Head) (bytes : List ℕ) → Coded (element.modifiers_refused h bytes)
modifiers h bytes = search either

kind_read : (h : Head) (bytes : List ℕ) → Coded (element.kind_read h bytes)
kind_read (head.Kind kind) bytes = tt
kind_read (head.OnRegister c) [] = tt
kind_read (head.OnRegister c) (name ∷ rest) = search (after, some)

ending : (at : Bool) (byte : ℕ) (bytes : List ℕ) → Coded (element.ending at byte bytes)
ending false byte bytes = tt
ending true byte [] = tt
ending true byte (delimiter ∷ rest) = tt

text_up_to : (byte : ℕ) (bytes : List ℕ) → Coded (element.text_up_to byte bytes)
text_up_to byte bytes = found _
  where
    found : (o : Option ℕ) → Coded {X = List ℕ × List ℕ}
        (elim o [ None ↦ Err code.Utc | Some n ↦ Ok (take n bytes, drop (n + 1) bytes) ])
    found None = tt
    found (Some n) = tt

texts : (t : TextShape) (at : Bool) (own bytes : List ℕ) → Coded (element.texts t at own bytes)
texts Itself at own bytes = tt
texts (EndedBy byte) at own bytes = search (after, ending, text_up_to)
texts Two at own bytes = search (after, ending, text_up_to)
texts NoText at own bytes = tt

element_from : (text : List ℕ) (place : ℕ) → Coded (element.element_from text place)
unfolding element.element_from
element_from text place = search (after, letters_coded, modifiers, kind_read, texts)

pub element_at : (text : List ℕ) (place : ℕ) → Coded (element.element_at text place)
unfolding element.element_at
element_at text place = by _ _ (element_from text _)
  where
    by : (b : Bool) (r : Result Element Code) → Coded r
        → Coded {X = Option Element} (elim b [ true ↦ Ok None | false ↦ r >>= (λ e. Ok (Some e)) ])
    by true r h = tt
    by false r h = after r _ h (λ e. tt)

-- search texts
byte : (text : List ℕ) → Coded (pattern.byte text)
byte [] = tt
byte (b ∷ rest) = tt

control : (text : List ℕ) → Coded (pattern.caret text)
control text = search (after, byte, some)

sign : (text : List ℕ) → Coded (pattern.sign text)
sign text = search (after, byte, either, control)

quoted : (text : List ℕ) → Coded (pattern.quoted text)
quoted text = search (after, byte)

lettered : (text : List ℕ) → Coded (pattern.lettered text)
lettered text = search (after, byte, some)

class_from : (b : ℕ) (rest : List ℕ) → Coded (pattern.class_from b rest)
class_from b rest = search (either, quoted, lettered) depth 8

positive : (read : Result (Class × List ℕ) Code) → Coded read → Coded (pattern.positive read)
positive read h = after read _ h (λ c. tt)

negated : (text : List ℕ) → Coded (pattern.negated text)
negated text = after _ _ (sign text) (λ b. after _ _ (class_from b.0 b.1) (λ c. tt))

register_text : (text : List ℕ) → Coded (pattern.register_text text)
register_text text = search (after, byte, some)

extended : (text : List ℕ) → Coded (pattern.extended text)
extended text = search (after, byte, either, register_text, positive, lettered)

part_from : (b : ℕ) (rest : List ℕ) → Coded (pattern.part_from b rest)
part_from b rest = search (either, negated, extended, positive, class_from)

part_at : (text : List ℕ) → Coded (pattern.part_at text)
unfolding pattern.part_at
part_at text = after _ _ (sign text) (λ b. part_from b.0 b.1)

parts_within : (most : ℕ) (text : List ℕ) → Coded (pattern.parts_within most text)
unfolding pattern.parts_within
parts_within zero text = tt
parts_within (suc most) [] = tt
parts_within (suc most) (b ∷ text) =
    after _ _ (part_at (b ∷ text)) (λ first. after _ _ (parts_within most first.1) (λ others. tt))

pub pattern_coded : (registers : Registers) (exact : Bool) (text : List ℕ)
    → Coded (pattern.pattern registers exact text)
unfolding pattern.parts
pattern_coded registers exact text = after _ _ (parts_within _ text) (λ ps. tt)
