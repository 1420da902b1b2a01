-- What is known of a case besides.
use Rattle.teco_paths.proofs.Prelude.{◌≡◌, ◌⊎◌, inl, inr, ℕ, ◌+◌, ◌<◌, ◌≤◌, arith, List, length, pos, ◌-ℤ◌}
use Rattle.teco_paths.proofs.Prelude.{◌≤ℤ◌, cases_order, ints, Term, Valuation, value, Implies, Case, Pointer, Size}
use Rattle.teco_paths.proofs.Prelude.{LineEnd, Point, IsTrueOf, single, line_end, IsSharper, IsWith}
use Rattle.teco_base.specs.Lines.{line_place}
use Rattle.teco_rows.specs.declared.measure.Single.{Single}
use Rattle.teco_rows.proofs.Lines.{IsEnd}

-- a form is how far a measure that a state has once is beyond the pointer, less 1
abbrev IsBeyond : Case → Single → List Term → Type 0
IsBeyond case which form =
    (n : ℕ) (v : Valuation) (s : Point)
    → IsTrueOf n v case s → value form n v ≡ single s which -ℤ single s Pointer -ℤ pos 1

-- in front of the end of the buffer a line goes on
ends_behind : (text : List ℕ) (p e : ℕ) → IsEnd text p e → p + 1 ≤ length text → p + 1 ≤ e
ends_behind text p e is before = by (cases_order e (length text))
  where
    by : (e ≡ length text) ⊎ ((e < length text) ⊎ (length text < e)) → p + 1 ≤ e
    by (inl same) = omega (arith, same, before)
    by (inr (inl less)) = omega (arith, is.more less)
    by (inr (inr more)) = omega (arith, is.within, more)

pub sharper : (case : Case) (ahead more : List Term) → IsBeyond case Size ahead → IsBeyond case LineEnd more
    → Implies case.constraints.items ahead → (sharp : Case) → IsWith case more sharp → IsSharper case sharp
sharper case ahead more ahead_is more_is implied sharp with n s whole d =
    let v = d.0 in
    let room : pos 0 ≤ℤ value ahead n v = implied n v d.1.fits.constraints in
    let before : s.kept.pointer + 1 ≤ length s.kept.text = omega (arith, ints, room, ahead_is n v s d.1) in
    let line = ends_behind s.kept.text s.kept.pointer (line_place s.kept.text s.kept.pointer (pos 1))
    (line_end s.kept.text s.kept.pointer whole.inside) before in
    (v, with n v s d.1 (omega (arith, ints, line, more_is n v s d.1)))

-- what is implied may be said
pub implied_sharper : (case : Case) (form : List Term) → Implies case.constraints.items form → (more : Case)
    → IsWith case form more → IsSharper case more
implied_sharper case form implied more with n s whole d =
    let v = d.0 in (v, with n v s d.1 (implied n v d.1.fits.constraints))

-- from case to case
pub sharper_still : (case more most : Case) → IsSharper case more → IsSharper more most → IsSharper case most
sharper_still case more most first second n s whole d = second n s whole (first n s whole d)
