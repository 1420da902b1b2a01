-- What is spelled at the front of a text.
use Rattle.std.proofs.Common.{◌≡◌, ◌≢◌, ◌∙◌, ℕ, ◌<◌, List, [], ◌∷◌, ◌++◌, length, refl, sym, ap, subst, arith, Some}
use Rattle.std.proofs.Common.{length-append}
use Rattle.std.proofs.lemmas.List.{append-nil, append_assoc}
use Rattle.teco_parameters.specs.Spelling.{AreDigits, Begins, IsSpelling, Spells, byte_of}

pub by_itself : (text behind : List ℕ) (b : ℕ) → text ≡ b ∷ behind → b ≢ 92 → Begins text b behind
by_itself text behind b is plain = record { piece = b ∷ []; spells = (plain, refl); written = is }

pub by_letter : (text behind : List ℕ) (letter b : ℕ) → text ≡ letter ∷ behind → byte_of letter ≡ Some b
    → Begins (92 ∷ text) b behind
by_letter text behind letter b is e =
    record { piece = 92 ∷ letter ∷ []; spells = (refl, e); written = ap (λ l. 92 ∷ l) is }

pub by_digits : (text rest behind : List ℕ) (high low b : ℕ) → text ≡ high ∷ rest → rest ≡ low ∷ behind
    → AreDigits high low b → Begins (92 ∷ 120 ∷ text) b behind
by_digits text rest behind high low b is more digits =
    record {
      piece = 92 ∷ 120 ∷ high ∷ low ∷ [];
      spells = (refl, refl, digits);
      written = ap (λ l. 92 ∷ 120 ∷ l) (is ∙ ap (λ l. high ∷ l) more);
    }

some : (piece : List ℕ) (b : ℕ) → IsSpelling piece b → 0 < length piece
some [] b h = absurd h
some (x ∷ piece) b h = omega arith

pub shorter : (text behind : List ℕ) (b : ℕ) → Begins text b behind → length behind < length text
shorter text behind b h =
    let least = some h.piece b h.spells in
    let long = ap length h.written ∙ length-append h.piece behind in
    omega (arith, least, long)

-- one more byte is spelled
pub one_more : (text rest behind before items : List ℕ) (b : ℕ)
    → ((more : List ℕ) → Spells rest more → Spells text (before ++ more)) → Begins rest b behind
    → items ≡ before ++ b ∷ [] → (more : List ℕ) → Spells behind more → Spells text (items ++ more)
one_more text rest behind before items b all begins e more h =
    subst (λ l. Spells text l) (sym (ap (λ l. l ++ more) e ∙ append_assoc before (b ∷ []) more))
    (all (b ∷ more) (behind, begins, h))

-- where nothing is left, all is spelled
pub ended : (text rest bytes : List ℕ) → ((more : List ℕ) → Spells rest more → Spells text (bytes ++ more))
    → rest ≡ [] → Spells text bytes
ended text rest bytes all e = subst (λ l. Spells text l) (append-nil bytes) (all [] e)
