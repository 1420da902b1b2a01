-- Terms, claims and cut points in a text, one behind the other.
use Rattle.teco_claims.proofs.Prelude.{◌≡◌, ℕ, List, [], ◌∷◌, ◌++◌, flat_map, sym, ◌∙◌, refl, arith, append_assoc}
use Rattle.teco_claims.proofs.Prelude.{Option, decimal, codes, ◌≢◌, LF, ClaimTerm, EndsTerm, EndsClaims, line}
use Rattle.teco_claims.proofs.Prelude.{first_sign, body_text, next_text, terms_text, claim_line, cut_words, cut_text}
use Rattle.teco_claims.proofs.Prelude.{AtCut, Claimed, Polynomial}
use Rattle.teco_claims.proofs.Parts.{first_byte}

-- a text that begins with another byte than a word does not begin with the word
pub other_byte : (text word rest : List ℕ) (c d : ℕ) → text ≡ c ∷ rest → (c ≡ d → ⊥) → (behind : List ℕ)
    → text ≢ (d ∷ word) ++ behind
other_byte text word rest c d e other behind f = other (first_byte (sym e ∙ f))

-- a space or the line's end stands behind a term
pub ends_next : (ts : List ClaimTerm) (rest : List ℕ) → EndsTerm (flat_map next_text ts ++ LF ∷ rest)
ends_next [] rest = refl
ends_next (t ∷ ts) rest = refl

pub claims_apart : (rest : List ℕ) → EndsClaims rest → (words : List ℕ) → rest ≢ codes "0 <=" ++ words
claims_apart [] ends words e = absurd (cc)
claims_apart (c ∷ rest) ends words e = ends (first_byte e)

pub ends_cuts : (cs : List AtCut) → EndsClaims (flat_map cut_text cs ++ line (codes "end"))
ends_cuts [] = λ (same : 101 ≡ 48). omega arith
ends_cuts (c ∷ cs) = λ (same : 99 ≡ 48). omega arith

-- the parts of a claim and of a cut point one after another
pub parts_of_claim : (t : ClaimTerm) (ts : List ClaimTerm) (rest : List ℕ)
    → line (terms_text (t ∷ ts)) ++ rest
    ≡ codes " " ++ (first_sign t.is_negative ++ (body_text t ++ (flat_map next_text ts ++ LF ∷ rest)))
parts_of_claim t ts rest = simp append_assoc

pub parts_of_cut : (cut : AtCut) (rest : List ℕ)
    → cut_words cut ++ rest ≡ decimal cut.point ++ (LF ∷ (flat_map claim_line cut.claims ++ rest))
parts_of_cut cut rest = simp append_assoc

pub same_cut : (cut : AtCut) {point : ℕ} {claims : List (List ClaimTerm)} → point ≡ cut.point → claims ≡ cut.claims
    → record { point = point; claims = claims } ≡ cut
same_cut cut p q = rw (p, q) refl

pub same_claimed : (claimed : Claimed) {commands size : Polynomial} {grows types : Option Polynomial}
    {cuts : List AtCut}
    → commands ≡ claimed.commands → size ≡ claimed.size → grows ≡ claimed.grows → types ≡ claimed.types
    → cuts ≡ claimed.cuts
    → record { commands = commands; size = size; grows = grows; types = types; cuts = cuts } ≡ claimed
same_claimed claimed c s g t q = rw (c, s, g, t, q) refl
