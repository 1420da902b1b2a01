-- The parts of a search text, one after another.
use Rattle.teco_find.proofs.Prelude.{◌≡◌, ℕ, zero, suc, ◌+◌, ◌<◌, ◌≤◌, Bool, true, false, cond, List, [], ◌∷◌, length}
use Rattle.teco_find.proofs.Prelude.{Option, Some, None, Result, Ok, Err, ap, refl, arith, IfOk, fold, Code, ◌>>=◌}
use Rattle.teco_find.proofs.Prelude.{Part}
use Rattle.std.specs.Prelude.{ok_or, ◌==◌}
use Rattle.teco_base.specs.Bytes.{to_upper, control}
use Rattle.teco_base.specs.Register.{register_of}
use Rattle.teco_base.specs.declared.code.Code.TheVariants as code
use Rattle.teco_model.specs.Pattern as model
use Rattle.teco_model.specs.declared.pattern.Class.{Class}
use Rattle.teco_model.specs.declared.pattern.Class.TheVariants as class
use Rattle.teco_model.specs.declared.pattern.Item.TheVariants as item
use Rattle.teco_model.specs.declared.pattern.Part.TheVariants as part

-- at least k of n bytes are read
abbrev Takes : {X : Type 0} → ℕ → ℕ → Result (X × List ℕ) Code → Type 0
Takes k n r = IfOk r (λ x. length x.1 + k ≤ n)

fewer : {X : Type 0} (n : ℕ) (r : Result (X × List ℕ) Code) → Takes 1 n r → Takes 0 n r
fewer n (Ok x) h = omega arith
fewer n (Err c) h = tt

then_more : {Y : Type 0} (k n m : ℕ) (s : Result (Y × List ℕ) Code) → m + k ≤ n → Takes 0 m s → Takes k n s
then_more k n m (Ok y) h g = omega arith
then_more k n m (Err c) h g = tt

both : {X Y : Type 0} (k n : ℕ) (r : Result (X × List ℕ) Code) (f : X × List ℕ → Result (Y × List ℕ) Code) → Takes k n r
    → ((x : X × List ℕ) → Takes 0 (length x.1) (f x)) → Takes k n (r >>= f)
both k n (Ok x) f h g = then_more k n (length x.1) (f x) h (g x)
both k n (Err c) f h g = tt

either : {X : Type 0} (k n : ℕ) (b : Bool) (r s : Result (X × List ℕ) Code) → Takes k n r → Takes k n s
    → Takes k n (cond b r s)
either k n true r s h g = h
either k n false r s h g = g

given : {X Y : Type 0} (o : Option X) (c : Code) (view : X → Y) (rest : List ℕ)
    → Takes 0 (length rest) (ok_or o c >>= (λ x. Ok (view x, rest)))
given None c view rest = tt
given (Some x) c view rest = omega arith

byte_takes : (text : List ℕ) → Takes 1 (length text) (model.byte text)
byte_takes [] = tt
byte_takes (b ∷ text) = omega arith

caret_takes : (text : List ℕ) → Takes 1 (length text) (model.caret text)
caret_takes text = both 1 (length text) (model.byte text) (λ c. ok_or (control c.0) code.Ice >>= (λ b. Ok (b, c.1)))
    (byte_takes text) (λ c. given (control c.0) code.Ice (λ b. b) c.1)

sign_takes : (text : List ℕ) → Takes 1 (length text) (model.sign text)
sign_takes text =
    both 1 (length text) (model.byte text) (λ b. cond (b.0 == 94) (model.caret b.1) (Ok b)) (byte_takes text)
    (λ b. either 0 (length b.1) (b.0 == 94) (model.caret b.1) (Ok b)
    (fewer (length b.1) (model.caret b.1) (caret_takes b.1)) (omega arith))

quoted_takes : (text : List ℕ) → Takes 1 (length text) (model.quoted text)
quoted_takes text = both 1 (length text) (model.byte text) (λ b. Ok (class.Literal b.0, b.1)) (byte_takes text)
    (λ b. omega arith)

lettered_takes : (text : List ℕ) → Takes 1 (length text) (model.lettered text)
lettered_takes text =
    both 1 (length text) (model.byte text) (λ b. ok_or (model.letter_class (to_upper b.0)) code.Ice
    >>= (λ c. Ok (c, b.1))) (byte_takes text)
    (λ b. given (model.letter_class (to_upper b.0)) code.Ice (λ c. c) b.1)

class_takes : (b : ℕ) (text : List ℕ) → Takes 0 (length text) (model.class_from b text)
class_takes b text =
    let n = length text in
    let literal : Result (Class × List ℕ) Code = Ok (class.Literal b, text) in
    let no_n : Result (Class × List ℕ) Code = cond (b == 14) (Err code.Ice) literal in
    let no_e : Result (Class × List ℕ) Code = cond (b == 5) (model.lettered text) no_n in
    let no_q : Result (Class × List ℕ) Code = cond (b == 17) (model.quoted text) no_e in
    let no_s : Result (Class × List ℕ) Code = cond (b == 19) (Ok (class.Separator, text)) no_q in
    either 0 n (b == 24) (Ok (class.Any, text)) no_s (omega arith)
    (either 0 n (b == 19) (Ok (class.Separator, text)) no_q (omega arith)
    (either 0 n (b == 17) (model.quoted text) no_e (fewer n (model.quoted text) (quoted_takes text))
    (either 0 n (b == 5) (model.lettered text) no_n (fewer n (model.lettered text) (lettered_takes text))
    (either 0 n (b == 14) (Err code.Ice) literal tt (omega arith)))))

positive_takes : (k n : ℕ) (r : Result (Class × List ℕ) Code) → Takes k n r → Takes k n (model.positive r)
positive_takes k n r h = both k n r (λ c. Ok (part.Item (item.Is c.0), c.1)) h (λ c. omega arith)

negated_takes : (text : List ℕ) → Takes 1 (length text) (model.negated text)
negated_takes text =
    both 1 (length text) (model.sign text) (λ b. model.class_from b.0 b.1
    >>= (λ c. Ok (part.Item (item.IsNot c.0), c.1))) (sign_takes text)
    (λ b. both 0 (length b.1) (model.class_from b.0 b.1) (λ c. Ok (part.Item (item.IsNot c.0), c.1))
    (class_takes b.0 b.1) (λ c. omega arith))

register_takes : (text : List ℕ) → Takes 1 (length text) (model.register_text text)
register_takes text =
    both 1 (length text) (model.byte text) (λ b. ok_or (register_of b.0) code.Iqn >>= (λ r. Ok (part.Register r, b.1)))
    (byte_takes text)
    (λ b. given (register_of b.0) code.Iqn part.Register b.1)

extended_takes : (text : List ℕ) → Takes 0 (length text) (model.extended text)
extended_takes [] = tt
extended_takes (b ∷ text) =
    let n = length (b ∷ text) in
    let classed : Result (Part × List ℕ) Code = model.positive (model.lettered (b ∷ text)) in
    let no_q : Result (Part × List ℕ) Code = cond (to_upper b == 83) (Ok (part.Item item.Blanks, text)) classed in
    either 0 n (to_upper b == 81) (model.register_text text) no_q
    (then_more 0 n (length text) (model.register_text text) (omega arith)
    (fewer (length text) (model.register_text text) (register_takes text)))
    (either 0 n (to_upper b == 83) (Ok (part.Item item.Blanks, text)) classed (omega arith)
    (fewer n classed (positive_takes 1 n (model.lettered (b ∷ text)) (lettered_takes (b ∷ text)))))

from_takes : (b : ℕ) (text : List ℕ) → Takes 0 (length text) (model.part_from b text)
from_takes b text =
    let n = length text in
    let classed : Result (Part × List ℕ) Code = model.positive (model.class_from b text) in
    let no_n : Result (Part × List ℕ) Code = cond (b == 5) (model.extended text) classed in
    either 0 n (b == 14) (model.negated text) no_n (fewer n (model.negated text) (negated_takes text))
    (either 0 n (b == 5) (model.extended text) classed (extended_takes text)
    (positive_takes 0 n (model.class_from b text) (class_takes b text)))

part_takes : (text : List ℕ) → Takes 1 (length text) (model.part_at text)
unfolding model.part_at
part_takes text = both 1 (length text) (model.sign text) (λ b. model.part_from b.0 b.1) (sign_takes text)
    (λ b. from_takes b.0 b.1)

-- a part takes a byte
pub shorter : (text rest : List ℕ) (p : Part) → model.part_at text ≡ Ok (p, rest) → length rest < length text
shorter text rest p e = let h = rw e at (part_takes text) in omega (arith, h)

-- the parts that a number of steps read are all, where there are bytes for no more
listed : (r : Result (Part × List ℕ) Code) (f g : List ℕ → Result (List Part) Code) → IfOk r (λ x. f x.1 ≡ g x.1)
    → (r >>= (λ x. f x.1 >>= (λ ps. Ok (x.0 ∷ ps)))) ≡ (r >>= (λ x. g x.1 >>= (λ ps. Ok (x.0 ∷ ps))))
listed (Ok x) f g h = ap (λ s. s >>= (λ ps. Ok (x.0 ∷ ps))) h
listed (Err c) f g h = refl

along : (r : Result (Part × List ℕ) Code) (P : List ℕ → Type 0) (n : ℕ) → Takes 1 (suc n) r
    → ((rest : List ℕ) → length rest ≤ n → P rest) → IfOk r (λ x. P x.1)
along (Ok x) P n h all = all x.1 (omega arith)
along (Err c) P n h all = tt

enough : (m k : ℕ) (text : List ℕ) → length text ≤ m → length text ≤ k
    → model.parts_within m text ≡ model.parts_within k text
unfolding model.parts_within
enough zero zero text f g = refl
enough zero (suc k) [] f g = refl
enough zero (suc k) (b ∷ text) f g = absurd (omega arith)
enough (suc m) zero [] f g = refl
enough (suc m) zero (b ∷ text) f g = absurd (omega arith)
enough (suc m) (suc k) [] f g = refl
enough (suc m) (suc k) (b ∷ text) f g =
    listed (model.part_at (b ∷ text)) (model.parts_within m) (model.parts_within k)
    (along (model.part_at (b ∷ text)) (λ rest. model.parts_within m rest ≡ model.parts_within k rest) (length text)
    (part_takes (b ∷ text)) (λ rest h. enough m k rest (omega arith) (omega arith)))

pub no_parts : (text : List ℕ) → length text ≡ 0 → model.parts text ≡ Ok []
unfolding model.parts model.parts_within
no_parts [] e = refl
no_parts (b ∷ text) e = absurd (omega arith)

pub parts_fault : (text : List ℕ) (c : Code) → 0 < length text → model.part_at text ≡ Err c → model.parts text ≡ Err c
unfolding model.parts model.parts_within
parts_fault [] c some e = absurd (omega arith)
parts_fault (b ∷ text) c some e = rw e refl

pub parts_more : (text rest : List ℕ) (p : Part) → 0 < length text → model.part_at text ≡ Ok (p, rest)
    → model.parts text ≡ (model.parts rest >>= (λ ps. Ok (p ∷ ps)))
unfolding model.parts model.parts_within
parts_more [] rest p some e = absurd (omega arith)
parts_more (b ∷ text) rest p some e =
    let less = shorter (b ∷ text) rest p e in
    rw e (ap (λ r. r >>= (λ ps. Ok (p ∷ ps))) (enough (length text) (length rest) rest (omega arith) (omega arith)))

-- an empty text has a least length, 0
pub minimum_none : (text : List ℕ) → length text ≡ 0 → model.minimum text ≡ Ok (Some 0)
minimum_none text none = ap (λ r. r >>= (λ ps. Ok (fold model.with_part (Some 0) ps))) (no_parts text none)

-- what reading a part needs
pub ruleset reading = (no_parts, parts_fault, parts_more, shorter)
