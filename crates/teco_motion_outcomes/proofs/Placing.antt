-- Numbers that are places in the buffer.
use Rattle.teco_motion_outcomes.proofs.Prelude.{◌≡◌, ℕ, ℤ, pos, negsuc, ◌-ℤ◌, ◌≤ℤ◌, List, [], ◌∷◌, length, refl, subst}
use Rattle.teco_motion_outcomes.proofs.Prelude.{arith, ints, All-head, All, Term, Valuation, value, IsPlace}
use Rattle.std.proofs.lemmas.List.Elements.{All-tail}
use Rattle.teco_linear.specs.Implied as linear

-- conditions say that a number is a place
place_of : (text : List ℕ) (x : ℤ) → pos 0 ≤ℤ x → pos 0 ≤ℤ (pos (length text) -ℤ x) → IsPlace text x
place_of text (pos k) h l = (k, refl, omega (arith, ints))
place_of text (negsuc k) h l = absurd (omega (arith, ints))

pub placed : (text : List ℕ) (n : ℕ) (v : Valuation) (place a b : List Term) (conditions : List (List Term))
    → conditions ≡ a ∷ b ∷ [] → value a n v ≡ value place n v → value b n v ≡ pos (length text) -ℤ value place n v
    → All (linear.Holds n v) conditions → IsPlace text (value place n v)
placed text n v place a b conditions e f g holds =
    let P = linear.Holds n v in
    let all = subst (All P) e holds in
    place_of text (value place n v) (subst (λ x. pos 0 ≤ℤ x) f (All-head P a (b ∷ []) all))
    (subst (λ x. pos 0 ≤ℤ x) g (All-head P b [] (All-tail P a (b ∷ []) all)))

pub placed_both : (text : List ℕ) (n : ℕ) (v : Valuation) (first second a b c d : List Term)
    (conditions : List (List Term)) → conditions ≡ a ∷ b ∷ c ∷ d ∷ [] → value a n v ≡ value first n v
    → value b n v ≡ pos (length text) -ℤ value first n v → value c n v ≡ value second n v
    → value d n v ≡ pos (length text) -ℤ value second n v → All (linear.Holds n v) conditions
    → IsPlace text (value first n v) × IsPlace text (value second n v)
placed_both text n v first second a b c d conditions e f g h i holds =
    let P = linear.Holds n v in
    let all = subst (All P) e holds in
    let rest = All-tail P a (b ∷ c ∷ d ∷ []) all in
    let others = All-tail P b (c ∷ d ∷ []) rest in
    let last = All-tail P c (d ∷ []) others in (
      place_of text (value first n v) (subst (λ x. pos 0 ≤ℤ x) f (All-head P a (b ∷ c ∷ d ∷ []) all))
          (subst (λ x. pos 0 ≤ℤ x) g (All-head P b (c ∷ d ∷ []) rest)),
      place_of text (value second n v) (subst (λ x. pos 0 ≤ℤ x) h (All-head P c (d ∷ []) others))
          (subst (λ x. pos 0 ≤ℤ x) i (All-head P d [] last)),
    )
