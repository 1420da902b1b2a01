-- What a quoted text says.
use Rattle.std.proofs.Common.{◌≡◌, ℕ, zero, suc, ◌<◌, ◌≤◌, ◌==◌, Bool, true, false, cond, List, [], ◌∷◌, ◌++◌}
use Rattle.std.proofs.Common.{length, refl, ap, arith, length-append}
use Rattle.std.proofs.lemmas.Bool.{or_parts}
use Rattle.std.specs.Prelude.{map, flat_map, Ok}
use Rattle.teco_model.specs.Pattern as model
use Rattle.teco_model.specs.Registers.{Registers}
use Rattle.teco_model.specs.declared.pattern.Class.TheVariants as class
use Rattle.teco_model.specs.declared.pattern.Item.TheVariants as item
use Rattle.teco_model.specs.declared.pattern.Part.{Part}
use Rattle.teco_model.specs.declared.pattern.Part.TheVariants as part
use Rattle.teco_parameters.specs.Quoting.{begins_control, quotation, Says}

-- a byte that stands for itself, as a part
abbrev byte_part : ℕ → Part
byte_part b = part.Item (item.Is (class.Literal b))

-- the part at the front of a byte that begins no control
plain : (b : ℕ) (rest : List ℕ) → (b == 5) ≡ false → (b == 14) ≡ false → (b == 17) ≡ false → (b == 19) ≡ false
    → (b == 24) ≡ false → (b == 94) ≡ false → model.part_at (b ∷ rest) ≡ Ok (byte_part b, rest)
unfolding model.part_at
plain b rest e n q s x caret = rw caret (rw n (rw e (rw x (rw s (rw q refl)))))

quoted_first : (b : ℕ) (rest : List ℕ) → model.part_at (17 ∷ b ∷ rest) ≡ Ok (byte_part b, rest)
unfolding model.part_at
quoted_first b rest = refl

either_first : (t : Bool) (b : ℕ) (rest : List ℕ) → begins_control b ≡ t
    → model.part_at (cond t (17 ∷ b ∷ []) (b ∷ []) ++ rest) ≡ Ok (byte_part b, rest)
either_first true b rest h = quoted_first b rest
either_first false b rest h =
    let e = or_parts (b == 5) _ h in
    let n = or_parts (b == 14) _ e.1 in
    let q = or_parts (b == 17) _ n.1 in
    let s = or_parts (b == 19) _ q.1 in
    let x = or_parts (b == 24) _ s.1 in
    plain b rest e.0 n.0 q.0 s.0 x.0 x.1

-- the part at the front of a quoted byte
first : (b : ℕ) (rest : List ℕ) → model.part_at (quotation b ++ rest) ≡ Ok (byte_part b, rest)
first b rest = either_first (begins_control b) b rest refl

either_some : (t : Bool) (b : ℕ) → 0 < length (cond t (17 ∷ b ∷ []) (b ∷ []))
either_some true b = omega arith
either_some false b = omega arith

-- a part before those that any number of steps reads
part_before : (front rest : List ℕ) (p : Part) (most : ℕ) (ps : List Part)
    → model.part_at (front ++ rest) ≡ Ok (p, rest) → 0 < length front → length (front ++ rest) ≤ most
    → ((m : ℕ) → length rest ≤ m → model.parts_within m rest ≡ Ok ps)
    → model.parts_within most (front ++ rest) ≡ Ok (p ∷ ps)
unfolding model.parts_within
part_before [] rest p most ps e some h others = absurd (omega arith)
part_before (x ∷ front) rest p zero ps e some h others = absurd (omega arith)
part_before (x ∷ front) rest p (suc most) ps e some h others =
    let long = length-append front rest in
    rw e (rw (others most (omega arith)) refl)

nothing : (most : ℕ) → model.parts_within most [] ≡ Ok []
unfolding model.parts_within
nothing zero = refl
nothing (suc most) = refl

within : (text : List ℕ) (most : ℕ) → length (flat_map quotation text) ≤ most
    → model.parts_within most (flat_map quotation text) ≡ Ok (map byte_part text)
within [] most h = nothing most
within (b ∷ text) most h =
    part_before (quotation b) (flat_map quotation text) (byte_part b) most (map byte_part text)
    (first b (flat_map quotation text)) (either_some (begins_control b) b) h (within text)

parts : (text : List ℕ) → model.parts (flat_map quotation text) ≡ Ok (map byte_part text)
unfolding model.parts
parts text = within text (length (flat_map quotation text)) (omega arith)

items : (registers : Registers) (exact : Bool) (text : List ℕ)
    → flat_map (model.items_of registers exact) (map byte_part text) ≡ model.literals exact text
items registers exact [] = refl
items registers exact (b ∷ text) = ap (λ l. item.Is (model.literal exact b) ∷ l) (items registers exact text)

pub says : (quoted text : List ℕ) → quoted ≡ flat_map quotation text → Says quoted text
says quoted text is registers exact = rw is (rw (parts text) (ap Ok (items registers exact text)))
