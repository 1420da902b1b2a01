-- A string ends where a pair of ESC stands: at the meeting of two pieces, or within one.
use Rattle.teco_session.proofs.Prelude.{◌≡◌, ℕ, ◌+◌, ◌-◌, List, [], ◌∷◌, ◌++◌, length, Option, Some, None, Bool, true}
use Rattle.teco_session.proofs.Prelude.{false, ◌<◌, take, refl, sym, ap, ◌∙◌, arith, ◌⊎◌, inl, inr, string_end}
use Rattle.std.proofs.Common.{zero, suc}
use Rattle.std.proofs.Common.{◌&&◌, ◌==◌, nat_lt, slice_index}
use Rattle.std.proofs.lemmas.Bool.{lt-ltb, eqb-true, false≢true}
use Rattle.std.proofs.lemmas.List.{length-append, length_push, length-take-le}
use Rattle.std.specs.Option.{option_map}
use Rattle.memchr.specs.Find.{FindsNeedle, OccursAt}
use Rattle.teco_session.specs.Strings.{last_is_esc, first_is_esc, IsEnded}

-- whether the last byte is an ESC, from the front
abbrev pub esc_last : List ℕ → Bool
esc_last [] = false
esc_last (a ∷ []) = a == 27
esc_last (a ∷ b ∷ bytes) = esc_last (b ∷ bytes)

-- the end of a string whose first two bytes are a pair, or none
abbrev pub end_at_front : Bool → Option ℕ → Option ℕ
end_at_front true later = Some 2
end_at_front false later = option_map (λ n. 1 + n) later

string_end-cons : (a b : ℕ) (bytes : List ℕ)
    → string_end (a ∷ b ∷ bytes) ≡ end_at_front (a == 27 && b == 27) (string_end (b ∷ bytes))
unfolding string_end
string_end-cons a b bytes = by_test (a == 27 && b == 27) where
  by_test : (t : Bool)
      → (elim t as (λ _. Option ℕ) [ true ↦ Some 2 | false ↦ option_map (λ n. 1 + n) (string_end (b ∷ bytes)) ])
      ≡ end_at_front t (string_end (b ∷ bytes))
  by_test true = refl
  by_test false = refl

string_end-one : (b : ℕ) → string_end (b ∷ []) ≡ None
unfolding string_end
string_end-one b = refl

pub string_end-nil : string_end [] ≡ None
unfolding string_end
string_end-nil = refl

-- two bytes at the front of a string without an end are no pair, and the rest has no end
front_apart : (t : Bool) (later : Option ℕ) → end_at_front t later ≡ None → (t ≡ false) × (later ≡ None)
front_apart true later h = cc
front_apart false None h = (refl, refl)
front_apart false (Some n) h = cc

-- the last byte by its place
last_at : (bytes : List ℕ) (i : ℕ) → length bytes ≡ suc i → last_is_esc bytes ≡ (slice_index bytes i == 27)
last_at bytes i len =
    let last : length bytes - 1 ≡ i = omega arith in
    let some : nat_lt 0 (length bytes) ≡ true = lt-ltb _ _ (omega arith) in
    rw (some, last) refl

pub last_is_esc-value : (s : List ℕ) → last_is_esc s ≡ esc_last s
last_is_esc-value [] = refl
last_is_esc-value (a ∷ []) = refl
last_is_esc-value (a ∷ c ∷ rest) = last_at (a ∷ c ∷ rest) (suc (length rest)) refl
    ∙ sym (last_at (c ∷ rest) (length rest) refl) ∙ last_is_esc-value (c ∷ rest)

map_zero : (r : Option ℕ) → option_map (λ n. 0 + n) r ≡ r
map_zero None = refl
map_zero (Some n) = ap Some (omega arith)

map_suc : (k : ℕ) (r : Option ℕ) → option_map (λ n. 1 + n) (option_map (λ n. k + n) r) ≡ option_map (λ n. suc k + n) r
map_suc k None = refl
map_suc k (Some n) = ap Some (omega arith)

-- behind a string without an end, where no pair stands at the meeting, the end is that of the other
pub string_end-append : (s t : List ℕ) → string_end s ≡ None → (esc_last s && first_is_esc t) ≡ false
    → string_end (s ++ t) ≡ option_map (λ n. length s + n) (string_end t)
string_end-append [] t none apart = sym (map_zero (string_end t))
string_end-append (a ∷ []) [] none apart = string_end-one a ∙ rw string_end-nil refl
string_end-append (a ∷ []) (b ∷ rest) none apart =
    string_end-cons a b rest ∙ ap (λ t. end_at_front t (string_end (b ∷ rest))) apart
string_end-append (a ∷ c ∷ rest) t none apart =
    let front = front_apart (a == 27 && c == 27) (string_end (c ∷ rest)) (sym (string_end-cons a c rest) ∙ none) in
    string_end-cons a c (rest ++ t) ∙ ap (λ f. end_at_front f (string_end (c ∷ (rest ++ t)))) front.0
    ∙ ap (option_map (λ n. 1 + n)) (string_end-append (c ∷ rest) t front.1 apart)
    ∙ map_suc (length (c ∷ rest)) (string_end t)

-- where one stands there, the end is behind its second byte
pub string_end-meeting : (s : List ℕ) (b : ℕ) (t : List ℕ) → string_end s ≡ None → esc_last s ≡ true → b ≡ 27
    → string_end (s ++ b ∷ t) ≡ Some (length s + 1)
string_end-meeting [] b t none last is = cc
string_end-meeting (a ∷ []) b t none last is =
    let pair : (a == 27 && b == 27) ≡ true = rw (last, is) refl in
    string_end-cons a b t ∙ ap (λ f. end_at_front f (string_end (b ∷ t))) pair
string_end-meeting (a ∷ c ∷ rest) b t none last is =
    let front = front_apart (a == 27 && c == 27) (string_end (c ∷ rest)) (sym (string_end-cons a c rest) ∙ none) in
    string_end-cons a c (rest ++ b ∷ t) ∙ ap (λ f. end_at_front f (string_end (c ∷ (rest ++ b ∷ t)))) front.0
    ∙ ap (option_map (λ n. 1 + n)) (string_end-meeting (c ∷ rest) b t front.1 last is) ∙ ap Some (omega arith)

-- a pair of ESC
abbrev pub pair : List ℕ
pair = 27 ∷ 27 ∷ []

-- one byte in front moves each place by one
past_one : (a : ℕ) (t : List ℕ) (k j : ℕ) → slice_index (a ∷ t) (suc k + j) ≡ slice_index t (k + j)
past_one a t k j =
    let next : suc k + j ≡ suc (k + j) = omega arith in
    ap (λ i. slice_index (a ∷ t) i) next

occurs_behind : (a : ℕ) (t : List ℕ) (k : ℕ) → OccursAt t pair k → OccursAt (a ∷ t) pair (suc k)
occurs_behind a t k o = record { fits = omega (arith, o.fits); reads = λ j less. past_one a t k j ∙ o.reads j less }

occurs_within : (a : ℕ) (t : List ℕ) (k : ℕ) → OccursAt (a ∷ t) pair (suc k) → OccursAt t pair k
occurs_within a t k o = record {
  fits = omega (arith, o.fits);
  reads = λ j less. sym (past_one a t k j)
      ∙ o.reads j less;
}

both_are : (a b : ℕ) → (a == 27 && b == 27) ≡ true → (a ≡ 27) × (b ≡ 27)
both_are a b h = grind (arith, h, eqb-true a 27, eqb-true b 27)

occurs_at_front : (a b : ℕ) (t : List ℕ) → (a == 27 && b == 27) ≡ true → OccursAt (a ∷ b ∷ t) pair 0
occurs_at_front a b t h =
    let is = both_are a b h in
    record { fits = omega arith; reads = reads_of is.0 is.1 } where
      reads_of : a ≡ 27 → b ≡ 27 → (j : ℕ) → j < 2 → slice_index (a ∷ b ∷ t) (0 + j) ≡ slice_index pair j
      reads_of x y zero h = x
      reads_of x y (suc zero) h = y
      reads_of x y (suc (suc j)) h = absurd (omega (arith, h))

front_occurs : (a b : ℕ) (t : List ℕ) → OccursAt (a ∷ b ∷ t) pair 0 → (a == 27 && b == 27) ≡ true
front_occurs a b t o =
    let first : a ≡ 27 = o.reads 0 (omega arith) in
    let second : b ≡ 27 = o.reads 1 (omega arith) in
    rw (first, second) refl

pub string_end-nowhere : (t : List ℕ) → ((k : ℕ) → OccursAt t pair k → ⊥) → string_end t ≡ None
string_end-nowhere [] none = string_end-nil
string_end-nowhere (a ∷ []) none = string_end-one a
string_end-nowhere (a ∷ b ∷ rest) none =
    string_end-cons a b rest
    ∙ ap (λ f. end_at_front f (string_end (b ∷ rest))) (apart (a == 27 && b == 27) refl)
    ∙ ap (option_map (λ n. 1 + n)) (string_end-nowhere (b ∷ rest)
    (λ k o. none (suc k) (occurs_behind a (b ∷ rest) k o))) where
      apart : (f : Bool) → (a == 27 && b == 27) ≡ f → f ≡ false
      apart true h = absurd (none 0 (occurs_at_front a b rest h))
      apart false h = refl

pub string_end-first : (t : List ℕ) (k : ℕ) → OccursAt t pair k → ((j : ℕ) → j < k → OccursAt t pair j → ⊥)
    → string_end t ≡ Some (k + 2)
string_end-first [] k o none = absurd (omega (arith, o.fits))
string_end-first (a ∷ []) k o none = absurd (omega (arith, o.fits))
string_end-first (a ∷ b ∷ rest) zero o none =
    string_end-cons a b rest ∙ ap (λ f. end_at_front f (string_end (b ∷ rest))) (front_occurs a b rest o)
string_end-first (a ∷ b ∷ rest) (suc k) o none =
    string_end-cons a b rest
    ∙ ap (λ f. end_at_front f (string_end (b ∷ rest))) (apart (a == 27 && b == 27) refl)
    ∙ ap (option_map (λ n. 1 + n)) (string_end-first (b ∷ rest) k (occurs_within a (b ∷ rest) k o)
    (λ j less p. none (suc j) (omega (arith, less)) (occurs_behind a (b ∷ rest) j p)))
    ∙ ap Some (omega arith) where
      apart : (f : Bool) → (a == 27 && b == 27) ≡ f → f ≡ false
      apart true h = absurd (none 0 (omega arith) (occurs_at_front a b rest h))
      apart false h = refl

-- the front of a string up to its first pair ends with it
ended_front : (t : List ℕ) (k : ℕ) → OccursAt t pair k → ((j : ℕ) → j < k → OccursAt t pair j → ⊥)
    → string_end (take (k + 2) t) ≡ Some (k + 2)
ended_front [] k o none = absurd (omega (arith, o.fits))
ended_front (a ∷ []) k o none = absurd (omega (arith, o.fits))
ended_front (a ∷ b ∷ rest) zero o none = string_end-cons a b [] ∙ ap (λ f. end_at_front f (string_end (b ∷ [])))
    (front_occurs a b rest o)
ended_front (a ∷ b ∷ rest) (suc k) o none =
    let one : suc k + 2 ≡ suc (k + 2) = omega arith in
    let two : k + 2 ≡ suc (k + 1) = omega arith in
    let front : take (suc k + 2) (a ∷ b ∷ rest) ≡ a ∷ take (k + 2) (b ∷ rest) = ap (λ n. take n (a ∷ b ∷ rest)) one in
    let second : take (k + 2) (b ∷ rest) ≡ b ∷ take (k + 1) rest = ap (λ n. take n (b ∷ rest)) two in
    ap string_end (front ∙ ap (λ l. a ∷ l) second)
    ∙ string_end-cons a b (take (k + 1) rest)
    ∙ ap (λ f. end_at_front f (string_end (b ∷ take (k + 1) rest))) (apart (a == 27 && b == 27) refl)
    ∙ ap (option_map (λ n. 1 + n)) (ap string_end (sym second)
    ∙ ended_front (b ∷ rest) k (occurs_within a (b ∷ rest) k o)
    (λ j less p. none (suc j) (omega (arith, less)) (occurs_behind a (b ∷ rest) j p)))
    ∙ ap Some (omega arith) where
      apart : (f : Bool) → (a == 27 && b == 27) ≡ f → f ≡ false
      apart true h = absurd (none 0 (omega arith) (occurs_at_front a b rest h))
      apart false h = refl

-- a front that is not empty has the first byte
first_of_front : (t : List ℕ) (k : ℕ) → first_is_esc (take (k + 2) t) ≡ first_is_esc t
first_of_front [] k =
    let one : k + 2 ≡ suc (k + 1) = omega arith in
    ap (λ n. first_is_esc (take n [])) one
first_of_front (a ∷ t) k =
    let one : k + 2 ≡ suc (k + 1) = omega arith in
    ap (λ n. first_is_esc (take n (a ∷ t))) one

-- no pair stands where the two meet
abbrev pub AreApart : List ℕ → List ℕ → Type 0
AreApart s t = (last_is_esc s && first_is_esc t) ≡ false

apart_of : (last first : Bool) → (last ≡ false) ⊎ (first ≡ false) → (last && first) ≡ false
apart_of false first either = refl
apart_of true false either = refl
apart_of true true (inl no_esc) = cc
apart_of true true (inr no_esc) = cc

pub apart_by_last : (s t : List ℕ) → last_is_esc s ≡ false → AreApart s t
apart_by_last s t no_esc = apart_of (last_is_esc s) (first_is_esc t) (inl no_esc)

pub apart_by_first : (s t : List ℕ) → first_is_esc t ≡ false → AreApart s t
apart_by_first s t no_esc = apart_of (last_is_esc s) (first_is_esc t) (inr no_esc)

-- a string goes on to the first pair behind it
pub ended_within : (s t : List ℕ) (k : ℕ) → string_end s ≡ None → AreApart s t → FindsNeedle t pair 0 (Some k)
    → IsEnded (s ++ take (k + 2) t)
ended_within s t k endless apart found =
    let meet : (esc_last s && first_is_esc (take (k + 2) t)) ≡ false =
    rw (first_of_front t k, sym (last_is_esc-value s)) apart in
    let front = ended_front t k found.1 (λ j less. found.0.before j (omega arith) less) in
    let long : length (s ++ take (k + 2) t) ≡ length s + (k + 2) =
    length-append s (take (k + 2) t) ∙ ap (λ n. length s + n) (length-take-le (k + 2) t found.1.fits) in
    string_end-append s (take (k + 2) t) endless meet ∙ ap (option_map (λ n. length s + n)) front ∙ ap Some (sym long)

-- behind it there is none
pub endless_behind : (s t : List ℕ) → string_end s ≡ None → AreApart s t → FindsNeedle t pair 0 None
    → string_end (s ++ t) ≡ None
endless_behind s t endless apart nowhere =
    let meet : (esc_last s && first_is_esc t) ≡ false = rw (sym (last_is_esc-value s)) apart in
    string_end-append s t endless meet
    ∙ ap (option_map (λ n. length s + n))
    (string_end-nowhere t (λ k o. nowhere k (omega arith) (omega (arith, o.fits)) o))

-- a string goes on to the second byte of a pair that stands where the two meet
pub ended_at_meeting : (s t : List ℕ) → string_end s ≡ None → last_is_esc s ≡ true → first_is_esc t ≡ true
    → IsEnded (s ++ take 1 t)
ended_at_meeting s [] endless last first = absurd (false≢true first)
ended_at_meeting s (b ∷ t) endless last first =
    string_end-meeting s b [] endless (sym (last_is_esc-value s) ∙ last) (eqb-true b 27 first)
    ∙ ap Some (sym (length_push s b))
