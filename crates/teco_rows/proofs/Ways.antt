-- The ways of a command.
use Rattle.teco_rows.proofs.Prelude.{◌≡◌, ℕ, zero, suc, ◌+◌, ◌<◌, ◌≤◌, ℤ, Option, List, [], ◌∷◌, ◌++◌, length, take}
use Rattle.teco_rows.proofs.Prelude.{get_or, slice_get, slice_index_or, Some, None, Bool, true, false, ◌&&◌}
use Rattle.teco_rows.proofs.Prelude.{if◌then◌else◌, refl, sym, ap, subst, ◌∙◌, arith, length-append, ◌⊎◌, inl, inr}
use Rattle.teco_rows.proofs.Prelude.{take_more, take_all, get_or_append_left, get_or-append_seam, Term, Valuation}
use Rattle.teco_rows.proofs.Prelude.{value, Kept, Case, Outcomes, Places, Single, Steps, Pointer, Size, Held, LineEnd}
use Rattle.teco_rows.proofs.Prelude.{LineStart, LastLength, CodeHere, CodeBefore, Typed, EntryHeld, Number, Length}
use Rattle.teco_rows.proofs.Prelude.{Turns}
use Rattle.teco_rows.proofs.Prelude.{PushedNumber, PushedLength, First, Value, Measure, One, Each, Mark, Clause, Sets}
use Rattle.teco_rows.proofs.Prelude.{Drops, Wants, Before, AreMet, changed, is_at, total, Point, IsTrueOf, each, single}
use Rattle.teco_rows.proofs.Prelude.{measures_of, Describe, AreCommanded, IsCommanded, Leads, commanded, row_of}
use Rattle.teco_rows.specs.declared.commands.Way.{Way}
use Rattle.teco_rows.specs.declared.row.Mark.TheVariants as mark
use Rattle.teco_rows.proofs.Applying.{changed-append}
use Rattle.teco_rows.proofs.Commanding.{answered, read_at}
use Rattle.teco_rows.proofs.Leading.{leaves, left_alone, left_of, right_of}
use Rattle.teco_rows.proofs.Pending.{level_same}

module _ (case : Case) (given : List (List Term)) (here : Places) where
  -- one way more, as a list of ways that ends with it
  pushed : (ways : List Way) (cases : List Case) (way : Way) (after : Case) → AreCommanded case ways given here cases
      → IsCommanded case (row_of way) given here after
      → AreCommanded case (ways ++ way ∷ []) given here (cases ++ after ∷ [])
  pushed ways cases way after are is = record {
    count = omega (arith, are.count, length-append ways (way ∷ []), length-append cases (after ∷ []));
    commanded = λ i w d h. here_or_before i w d h (split i (omega (arith, length-append ways (way ∷ []))));
  } where
    split : (i : ℕ) → i < length ways + 1 → (i < length ways) ⊎ (i ≡ length ways)
    split i h = elim (above_or_not i (length ways)) [ inl k ↦ inl k | inr k ↦ inr (omega arith) ] where
      above_or_not : (a b : ℕ) → (a < b) ⊎ (b ≤ a)
      above_or_not zero zero = inr (omega arith)
      above_or_not zero (suc b) = inl (omega arith)
      above_or_not (suc a) zero = inr (omega arith)
      above_or_not (suc a) (suc b) = elim (above_or_not a b) [ inl k ↦ inl (omega arith) | inr k ↦ inr (omega arith) ]

    here_or_before : (i : ℕ) (w : Way) (d : Case) → i < length (ways ++ way ∷ [])
        → ((i < length ways) ⊎ (i ≡ length ways))
        → IsCommanded case (row_of (slice_index_or (ways ++ way ∷ []) i w)) given here
        (slice_index_or (cases ++ after ∷ []) i d)
    here_or_before i w d h (inl k) =
        let q : i < length cases = omega (arith, are.count) in
        subst (λ r. IsCommanded case (row_of r) given here (slice_index_or (cases ++ after ∷ []) i d))
        (sym (get_or_append_left ways (way ∷ []) w i k))
        (subst (IsCommanded case (row_of (slice_index_or ways i w)) given here)
        (sym (get_or_append_left cases (after ∷ []) d i q)) (are.commanded i w d k))
    here_or_before i w d h (inr k) =
        let at : slice_index_or (ways ++ way ∷ []) i w ≡ way =
        ap (λ j. slice_index_or (ways ++ way ∷ []) j w) k ∙ get_or-append_seam ways way [] w in
        let q : i ≡ length cases = k ∙ sym are.count in
        let there : slice_index_or (cases ++ after ∷ []) i d ≡ after =
        ap (λ j. slice_index_or (cases ++ after ∷ []) j d) q ∙ get_or-append_seam cases after [] d in
        subst (λ r. IsCommanded case (row_of r) given here (slice_index_or (cases ++ after ∷ []) i d)) (sym at)
        (subst (IsCommanded case (row_of way) given here) (sym there) is)

  pub commanded_more : (ways : List Way) (i : ℕ) (d : Way) (cases more : List Case) (after : Case) → i < length ways
      → more ≡ cases ++ after ∷ [] → AreCommanded case (take i ways) given here cases
      → IsCommanded case (row_of (get_or ways i d)) given here after
      → AreCommanded case (take (i + 1) ways) given here more
  commanded_more ways i d cases more after h e are is =
      subst (λ w. AreCommanded case w given here more) (sym (take_more ways i d h))
      (subst (AreCommanded case (take i ways ++ get_or ways i d ∷ []) given here) (sym e)
      (pushed (take i ways) cases (get_or ways i d) after are is))

  pub commanded_all : (ways : List Way) (i : ℕ) (cases : List Case) → length ways ≤ i
      → AreCommanded case (take i ways) given here cases → AreCommanded case ways given here cases
  commanded_all ways i cases h are = subst (λ w. AreCommanded case w given here cases) (take_all i ways h) are

same_there : {X : Type 0} (xs : List X) (i : ℕ) (d e : X) → i < length xs → get_or xs i d ≡ get_or xs i e
same_there [] i d e h = absurd (omega arith)
same_there (x ∷ xs) zero d e h = refl
same_there (x ∷ xs) (suc i) d e h = same_there xs i d e (omega arith)

-- where the row of one of the ways leads there, one of the cases describes the state behind
pub by_way : (n : ℕ) (v : Valuation) (case : Case) (ways : List Way) (given : List (List Term)) (here : Places)
    (all : Outcomes) (i : ℕ) (way : Way) (s : Point) (kept : Kept) (answer : Option ℤ) (unknown : ℕ → ℤ)
    → AreCommanded case ways given here all.cases.items → i < length ways → IsTrueOf n v case s
    → Leads (row_of (slice_index_or ways i way)) (read_at s here (λ i. value (slice_index_or given i []) n v) unknown) s
    kept answer
    → Describe n all (commanded s kept answer)
by_way n v case ways given here all i way s kept answer unknown are h true_of leads =
    let there : i < length all.cases.items = omega (arith, are.count) in (
      i,
      slice_index_or all.cases.items i case,
      there,
      same_there all.cases.items i _ case there,
      are.commanded i way case h n v s kept answer unknown true_of leads,
    )

-- a way at a place has this row
abbrev pub IsWay : List Way → ℕ → List Clause → Type 0
IsWay ways i row = (way : Way) × (slice_get ways i ≡ Some way) × (row_of way ≡ row)

got : (ways : List Way) (i : ℕ) (way : Way) → slice_get ways i ≡ Some way
    → (i < length ways) × (slice_index_or ways i way ≡ way)
got [] i way e = absurd cc
got (w ∷ ways) zero way e = (omega arith, cc)
got (w ∷ ways) (suc i) way e = let h = got ways i way e in (omega (arith, h.0), h.1)

pub by : (n : ℕ) (v : Valuation) (case : Case) (ways : List Way) (given : List (List Term)) (here : Places)
    (all : Outcomes) (i : ℕ) (row : List Clause) (s : Point) (kept : Kept) (answer : Option ℤ) (unknown : ℕ → ℤ)
    → AreCommanded case ways given here all.cases.items → IsWay ways i row → IsTrueOf n v case s
    → Leads row (read_at s here (λ i. value (slice_index_or given i []) n v) unknown) s kept answer
    → Describe n all (commanded s kept answer)
by n v case ways given here all i row s kept answer unknown are is true_of leads =
    let g = got ways i is.0 is.1 in
    by_way n v case ways given here all i is.0 s kept answer unknown are g.0 true_of
    (subst (λ r. Leads r (read_at s here (λ i. value (slice_index_or given i []) n v) unknown) s kept answer)
    (sym (ap row_of g.1 ∙ is.2)) leads)

-- ---- a row with an answer before it
abbrev pub is_family : Mark → Bool
is_family (mark.One single) = false
is_family (mark.Here f) = true

abbrev pub leaves_singles : List Clause → Bool
leaves_singles [] = true
leaves_singles (Sets m constant parts ∷ row) = is_family m && leaves_singles row
leaves_singles (Drops m ∷ row) = is_family m && leaves_singles row
leaves_singles (Wants constant parts ∷ row) = leaves_singles row

not_single : (here : Places) (m : Mark) (which : Single) → is_family m ≡ true → is_at here m (One which) ≡ false
not_single here (mark.One s) which e = absurd cc
not_single here (mark.Here f) which e = refl

pub single_alone : (row : List Clause) (b : Before) (which : Single) (x : Option ℤ) → leaves_singles row ≡ true
    → changed row b (One which) x ≡ x
single_alone [] b which x e = refl
single_alone (Sets m constant parts ∷ row) b which x e =
    ap (λ t. changed row b (One which) (if t then Some (total b constant parts) else x))
    (not_single b.here m which (left_of (is_family m) (leaves_singles row) e))
    ∙ single_alone row b which x (right_of (is_family m) (leaves_singles row) e)
single_alone (Drops m ∷ row) b which x e =
    ap (λ t. changed row b (One which) (if t then None else x))
    (not_single b.here m which (left_of (is_family m) (leaves_singles row) e))
    ∙ single_alone row b which x (right_of (is_family m) (leaves_singles row) e)
single_alone (Wants constant parts ∷ row) b which x e = single_alone row b which x e

pub met_both : (r t : List Clause) (b : Before) → AreMet r b → AreMet t b → AreMet (r ++ t) b
met_both [] t b h k = k
met_both (Sets mark constant parts ∷ r) t b h k = met_both r t b h k
met_both (Drops mark ∷ r) t b h k = met_both r t b h k
met_both (Wants constant parts ∷ r) t b h k = (h.0, met_both r t b h.1 k)

module _ (a row : List Clause) (b : Before) (s : Point) (kept : Kept) (x : ℤ) (lead : Leads row b s kept None)
    (met : AreMet a b) (singles : leaves_singles a ≡ true) (n : leaves Number a ≡ true) (l : leaves Length a ≡ true)
    (t : leaves Turns a ≡ true) (pn : leaves PushedNumber a ≡ true) (pl : leaves PushedLength a ≡ true)
    (f : leaves First a ≡ true) (value_left : leaves Value row ≡ true)
    (values : (i : ℕ) → each (commanded s kept (Some x)) Value i
    ≡ changed a b (Each Value i) (each (commanded s s.kept None) Value i)) where
  -- what is not the value is as without the answer
  same : (which : Single) → Some (single (commanded s kept (Some x)) which)
      ≡ Some (single (commanded s kept None) which)
  same Steps = refl
  same Pointer = refl
  same Size = refl
  same Held = refl
  same LineEnd = refl
  same LineStart = refl
  same LastLength = refl
  same CodeHere = refl
  same CodeBefore = refl
  same Typed = refl
  same EntryHeld = refl

  through : (m : Measure) (y z : Option ℤ) → z ≡ changed row b m y → changed a b m y ≡ y
      → z ≡ changed (a ++ row) b m y
  through m y z e u = e ∙ ap (changed row b m) (sym u) ∙ sym (changed-append a row b m y)

  becomes : (m : Measure)
      → measures_of (commanded s kept (Some x)) m ≡ changed (a ++ row) b m (measures_of (commanded s s.kept None) m)
  becomes (One which) =
      same which ∙ through (One which) _ _ (lead.becomes (One which)) (single_alone a b which _ singles)
  becomes (Each Number i) =
      through (Each Number i) _ _ (lead.becomes (Each Number i)) (sym (left_alone a b Number i _ n))
  becomes (Each Length i) =
      through (Each Length i) _ _ (lead.becomes (Each Length i)) (sym (left_alone a b Length i _ l))
  becomes (Each Turns i) = through (Each Turns i) _ _ (lead.becomes (Each Turns i)) (sym (left_alone a b Turns i _ t))
  becomes (Each PushedNumber i) =
      through (Each PushedNumber i) _ _ (lead.becomes (Each PushedNumber i)) (sym (left_alone a b PushedNumber i _ pn))
  becomes (Each PushedLength i) =
      through (Each PushedLength i) _ _ (lead.becomes (Each PushedLength i)) (sym (left_alone a b PushedLength i _ pl))
  becomes (Each First i) =
      level_same (answered None) (answered (Some x)) s.arguments.outer i (λ y. y.first) refl
      ∙ through (Each First i) _ _ (lead.becomes (Each First i)) (sym (left_alone a b First i _ f))
  becomes (Each Value i) =
      values i ∙ left_alone row b Value i _ value_left ∙ sym (changed-append a row b (Each Value i) _)

  pub answering : Leads (a ++ row) b s kept (Some x)
  answering = record { met = met_both a row b met lead.met; becomes = becomes; pushes = lead.pushes }
