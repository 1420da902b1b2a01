-- What a row says of the measures before an element and behind it.
use Rattle.std.specs.Prelude.{◌≡◌, ℕ, ℤ, pos, ◌+ℤ◌, ◌*ℤ◌, ◌≤ℤ◌, List, [], ◌∷◌, Bool, false, ◌==◌, ◌&&◌, Option, Some}
use Rattle.std.specs.Prelude.{None, unwrap_or, ⊤, if◌then◌else◌}
use Rattle.teco_rows.specs.declared.measure.Family.{Family}
use Rattle.teco_rows.specs.declared.measure.Family.TheVariants.{Number, Length, Turns, PushedNumber, PushedLength}
use Rattle.teco_rows.specs.declared.measure.Family.TheVariants.{First, Value}
use Rattle.teco_rows.specs.declared.measure.Measure.{Measure}
use Rattle.teco_rows.specs.declared.measure.Measure.TheVariants as measure
use Rattle.teco_rows.specs.declared.row.Mark.{Mark}
use Rattle.teco_rows.specs.declared.row.Mark.TheVariants.{One, Here}
use Rattle.teco_rows.specs.declared.row.Of.{Of}
use Rattle.teco_rows.specs.declared.row.Of.TheVariants.{Was, Given, Unknown}
use Rattle.teco_rows.specs.declared.row.Clause.{Clause}
use Rattle.teco_rows.specs.declared.row.Clause.TheVariants.{Sets, Drops, Wants}
use Rattle.teco_rows.specs.declared.row.Places.{Places}
use Rattle.teco_rows.specs.Measures.{single_code, family_code}

-- which one of a family an element is about
abbrev pub index_at : Places → Family → ℕ
index_at here Number = here.register
index_at here Length = here.register
index_at here Turns = here.iteration
index_at here PushedNumber = here.push
index_at here PushedLength = here.push
index_at here First = here.level
index_at here Value = here.level

-- the measure that a mark is
abbrev pub measure_at : Places → Mark → Measure
measure_at here (One single) = measure.One single
measure_at here (Here family) = measure.Each family (index_at here family)

-- is a mark this measure?
abbrev pub is_at : Places → Mark → Measure → Bool
is_at here (One a) (measure.One b) = single_code a == single_code b
is_at here (Here f) (measure.Each g index) = (family_code f == family_code g) && (index_at here f == index)
is_at here mark m = false

-- What a state may have: for each measure a whole number, if the measure is there.
abbrev pub Measures : Type 0
Measures = Measure → Option ℤ

-- What a row is read with: the places of its marks, the measures before, and the numbers that are given and unknown.
pub record Before : Type 0 where
  pub here : Places
  pub measures : Measures
  pub given : ℕ → ℤ
  pub unknown : ℕ → ℤ

-- what a multiple is taken of; an absent measure counts 0
abbrev pub weight : Before → Of → ℤ
weight before (Was mark) = unwrap_or (before.measures (measure_at before.here mark)) (pos 0)
weight before (Given i) = before.given i
weight before (Unknown i) = before.unknown i

-- The multiples of a clause.
abbrev pub Multiples : Type 0
Multiples = (ℤ × Of) × (ℤ × Of) × (ℤ × Of) × (ℤ × Of)

-- the sum of multiples
abbrev pub sum_of : Before → List (ℤ × Of) → ℤ
sum_of before [] = pos 0
sum_of before (part ∷ parts) = part.0 *ℤ weight before part.1 +ℤ sum_of before parts

-- a constant and the multiples of a clause
abbrev pub total : Before → ℤ → Multiples → ℤ
total before constant parts = constant +ℤ sum_of before (parts.0 ∷ parts.1 ∷ parts.2 ∷ parts.3 ∷ [])

-- what a row makes of a measure that has this value: the last clause that names it decides
abbrev pub changed : List Clause → Before → Measure → Option ℤ → Option ℤ
changed [] before m x = x
changed (Sets mark constant parts ∷ row) before m x =
    changed row before m (if is_at before.here mark m then Some (total before constant parts) else x)
changed (Drops mark ∷ row) before m x = changed row before m (if is_at before.here mark m then None else x)
changed (Wants constant parts ∷ row) before m x = changed row before m x

-- what a row wants to be at least 0 is so
abbrev pub AreMet : List Clause → Before → Type 0
AreMet [] before = ⊤
AreMet (Sets mark constant parts ∷ row) before = AreMet row before
AreMet (Drops mark ∷ row) before = AreMet row before
AreMet (Wants constant parts ∷ row) before = (pos 0 ≤ℤ total before constant parts) × AreMet row before

-- A row holds of the measures before and behind: what it wants is so, and each measure is what it makes of it.
pub record Holds (row : List Clause) (before : Before) (after : Measures) : Type 0 where
  pub met : AreMet row before
  pub becomes : (m : Measure) → after m ≡ changed row before m (before.measures m)
