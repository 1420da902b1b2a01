-- How a row leads to the state behind a command.
use Rattle.teco_rows.proofs.Prelude.{◌≡◌, ℕ, ◌+◌, ◌==◌, ◌&&◌, ℤ, List, [], ◌∷◌, ◌++◌, length, Result, Ok}
use Rattle.teco_rows.proofs.Prelude.{slice_index_or, Bool, true, false, Option, Some, None, if◌then◌else◌, slice_get}
use Rattle.teco_rows.proofs.Prelude.{refl, sym, ap, subst, ◌∙◌, Code, Term, Valuation, value, Kept, Case, Outcomes}
use Rattle.teco_rows.proofs.Prelude.{Single, Family, Number, Length, Turns, PushedNumber, PushedLength, First, Value}
use Rattle.teco_rows.proofs.Prelude.{Measure, One, Each, Mark, Clause, Sets, Drops, Wants, Places, family_code, Before}
use Rattle.teco_rows.proofs.Prelude.{AreMet, changed, is_at, index_at, total, Point, IsTrueOf, each, single, number_of}
use Rattle.teco_rows.proofs.Prelude.{length_of, from_end, measures_of, IsCommanded, Leads, commanded, Describe}
use Rattle.teco_rows.proofs.Prelude.{Succeeds}
use Rattle.std.proofs.Common.{not}
use Rattle.teco_model.specs.Effect.{Effect}
use Rattle.teco_rows.specs.declared.row.Mark.TheVariants as mark
use Rattle.teco_rows.proofs.Describing.{among}
use Rattle.teco_rows.proofs.Commanding.{answered, read_at}
use Rattle.teco_rows.proofs.Pending.{level_at, level_same}

-- a mark is not of a family
abbrev pub is_other : Family → Mark → Bool
is_other f (mark.One single) = true
is_other f (mark.Here g) = not (family_code g == family_code f)

-- a row says nothing of a family
abbrev pub leaves : Family → List Clause → Bool
leaves f [] = true
leaves f (Sets m constant parts ∷ row) = is_other f m && leaves f row
leaves f (Drops m ∷ row) = is_other f m && leaves f row
leaves f (Wants constant parts ∷ row) = leaves f row

pub left_of : (a b : Bool) → (a && b) ≡ true → a ≡ true
left_of true b e = refl
left_of false b e = absurd cc

pub right_of : (a b : Bool) → (a && b) ≡ true → b ≡ true
right_of true b e = e
right_of false b e = absurd cc

elsewhere : (here : Places) (m : Mark) (f : Family) (i : ℕ) → is_other f m ≡ true → is_at here m (Each f i) ≡ false
elsewhere here (mark.One s) f i e = refl
elsewhere here (mark.Here g) f i e = apart (family_code g == family_code f) e where
  apart : (b : Bool) → not b ≡ true → (b && (index_at here g == i)) ≡ false
  apart true h = absurd cc
  apart false h = refl

pub left_alone : (row : List Clause) (b : Before) (f : Family) (i : ℕ) (x : Option ℤ) → leaves f row ≡ true
    → x ≡ changed row b (Each f i) x
left_alone [] b f i x e = refl
left_alone (Sets m constant parts ∷ row) b f i x e =
    left_alone row b f i x (right_of (is_other f m) (leaves f row) e)
    ∙ ap (λ t. changed row b (Each f i) (if t then Some (total b constant parts) else x))
    (sym (elsewhere b.here m f i (left_of (is_other f m) (leaves f row) e)))
left_alone (Drops m ∷ row) b f i x e =
    left_alone row b f i x (right_of (is_other f m) (leaves f row) e)
    ∙ ap (λ t. changed row b (Each f i) (if t then None else x))
    (sym (elsewhere b.here m f i (left_of (is_other f m) (leaves f row) e)))
left_alone (Wants constant parts ∷ row) b f i x e = left_alone row b f i x e

-- the parts of what a command does
pub record Parts (row : List Clause) (b : Before) (s : Point) (kept : Kept) (answer : Option ℤ) : Type 0 where
  pub met : AreMet row b
  pub singles : (which : Single)
      → Some (single (commanded s kept answer) which)
      ≡ changed row b (One which) (Some (single (commanded s s.kept None) which))
  pub numbers : (i : ℕ)
      → number_of (slice_get kept.registers.pairs i)
      ≡ changed row b (Each Number i) (number_of (slice_get s.kept.registers.pairs i))
  pub lengths : (i : ℕ)
      → length_of (slice_get kept.registers.pairs i)
      ≡ changed row b (Each Length i) (length_of (slice_get s.kept.registers.pairs i))
  pub values : (i : ℕ)
      → each (commanded s kept answer) Value i ≡ changed row b (Each Value i) (each (commanded s s.kept None) Value i)
  pub stack : kept.registers.stack ≡ s.kept.registers.stack

-- a row leads where its parts do, if it says nothing of iterations, pushes and first values
pub leads : (row : List Clause) (b : Before) (s : Point) (kept : Kept) (answer : Option ℤ) → leaves Turns row ≡ true
    → leaves PushedNumber row ≡ true → leaves PushedLength row ≡ true → leaves First row ≡ true
    → Parts row b s kept answer → Leads row b s kept answer
leads row b s kept answer turns numbers lengths firsts parts = record {
  met = parts.met;
  becomes = becomes;
  pushes = ap length parts.stack;
} where
  becomes : (m : Measure)
      → measures_of (commanded s kept answer) m ≡ changed row b m (measures_of (commanded s s.kept None) m)
  becomes (One which) = parts.singles which
  becomes (Each Number i) = parts.numbers i
  becomes (Each Length i) = parts.lengths i
  becomes (Each Turns i) = left_alone row b Turns i _ turns
  becomes (Each PushedNumber i) =
      ap (λ stack. number_of (from_end stack (s.origin.pushes + i))) parts.stack
      ∙ left_alone row b PushedNumber i _ numbers
  becomes (Each PushedLength i) =
      ap (λ stack. length_of (from_end stack (s.origin.pushes + i))) parts.stack
      ∙ left_alone row b PushedLength i _ lengths
  becomes (Each First i) = firsts_stay answer ∙ left_alone row b First i _ firsts where
    firsts_stay : (x : Option ℤ) → each (commanded s kept x) First i ≡ each (commanded s s.kept None) First i
    firsts_stay None = refl
    firsts_stay (Some y) = level_same (answered None) (answered (Some y)) s.arguments.outer i (λ l. l.first) refl
  becomes (Each Value i) = parts.values i

-- a row says nothing but of what a state has once
abbrev pub is_of_singles : List Clause → Bool
is_of_singles row =
    (leaves Number row && leaves Length row) && ((leaves Turns row && leaves First row)
    && (leaves Value row && (leaves PushedNumber row && leaves PushedLength row)))

-- such a row leads where these do, and registers stay
pub leads_singles : (row : List Clause) (b : Before) (s : Point) (kept : Kept) → kept.registers ≡ s.kept.registers
    → is_of_singles row ≡ true → AreMet row b
    → ((which : Single) → Some (single (commanded s kept None) which)
    ≡ changed row b (One which) (Some (single (commanded s s.kept None) which)))
    → Leads row b s kept None
leads_singles row b s kept same of met singles =
    let texts = left_of (leaves Number row && leaves Length row) _ of in
    let others = right_of (leaves Number row && leaves Length row) _ of in
    let levels = left_of (leaves Turns row && leaves First row) _ others in
    let rest = right_of (leaves Turns row && leaves First row) _ others in
    let pushes = right_of (leaves Value row) _ rest in
    leads row b s kept None (left_of (leaves Turns row) _ levels) (left_of (leaves PushedNumber row) _ pushes)
    (right_of (leaves PushedNumber row) _ pushes) (right_of (leaves Turns row) _ levels) (record {
      met = met;
      singles = singles;
      numbers = λ i.
          ap (λ r. number_of (slice_get r.pairs i)) same
          ∙ left_alone row b Number i _ (left_of (leaves Number row) _ texts);
      lengths = λ i.
          ap (λ r. length_of (slice_get r.pairs i)) same
          ∙ left_alone row b Length i _ (right_of (leaves Number row) _ texts);
      values = λ i. left_alone row b Value i _ (left_of (leaves Value row) _ rest);
      stack = ap (λ r. r.stack) same;
    })

-- what an answer is
pub answers : (s : Point) (kept : Kept) (here : Places) (i : ℕ) (x : ℤ) (y : Option ℤ)
    → here.level ≡ length s.arguments.outer → Some x ≡ y
    → each (commanded s kept (Some x)) Value i
    ≡ (if here.level == i then y else each (commanded s s.kept None) Value i)
answers s kept here i x y at e =
    level_at (answered None) (answered (Some x)) s.arguments.outer here.level i (λ l. l.value) y at e

-- what is done comes to an effect, and one of the cases describes the state behind
pub performed : (n : ℕ) (all : Outcomes) (s : Point) (done : Result Effect Code) (effect : Effect) → done ≡ Ok effect
    → Describe n all (commanded s effect.kept effect.answer)
    → Succeeds (λ effect. Describe n all (commanded s effect.kept effect.answer)) done
performed n all s done effect e d =
    subst (Succeeds (λ effect. Describe n all (commanded s effect.kept effect.answer))) (sym e) d

-- a row that leads there is that of one of the cases
pub by_row : (n : ℕ) (v : Valuation) (case after : Case) (row : List Clause) (given : List (List Term)) (here : Places)
    (all : Outcomes) (front back : List Case) (s : Point) (kept : Kept) (answer : Option ℤ) (unknown : ℕ → ℤ)
    → IsCommanded case row given here after → all.cases.items ≡ front ++ after ∷ back → IsTrueOf n v case s
    → Leads row (read_at s here (λ i. value (slice_index_or given i []) n v) unknown) s kept answer
    → Describe n all (commanded s kept answer)
by_row n v case after row given here all front back s kept answer unknown led place true_of h =
    among n all after front back (commanded s kept answer) place (led n v s kept answer unknown true_of h)
