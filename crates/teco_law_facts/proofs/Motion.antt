-- C, R, J and L.
use Rattle.teco_law_facts.proofs.Prelude.{◌≡◌, ℕ, zero, suc, ◌+◌, ◌-◌, ◌≤◌, arith, refl, ℤ, pos, negsuc, ◌+ℤ◌, ◌-ℤ◌}
use Rattle.teco_law_facts.proofs.Prelude.{◌≤ℤ◌, int_le, int_lt, min, length, Option, Some, None, Result, Ok, Err}
use Rattle.teco_law_facts.proofs.Prelude.{IfSome, IfOk, Bool, true, false, ◌||◌, cond, nat_le, unwrap_or, ints}
use Rattle.teco_law_facts.proofs.Prelude.{nat_tests, LIMIT, Element, place_in, Kept, Taken, ok_then, KnownTaken, Run}
use Rattle.teco_law_facts.proofs.Prelude.{IsWhole, Holds, IsTaken, IsOptional, fore_of, back_of, Facts, nowhere, Shift}
use Rattle.teco_law_facts.proofs.Prelude.{moving, IsIn, IsWithin, IsPlaceIf, single, size, minus, least, IsValue}
use Rattle.teco_law_facts.proofs.Prelude.{value_in, RefusalReason, Distances, Interval, Value, number}
use Rattle.std.proofs.Common.{unsigned_abs, is_ok}
use Rattle.teco_base.specs.Lines.{line_place}
use Rattle.teco_model.specs.Effect.{with_answer}
use Rattle.teco_model.specs.Motion as model
use Rattle.teco_model.specs.declared.kind.Motion.{Motion}
use Rattle.teco_model.specs.declared.kind.Motion.TheVariants.{Forward, Backward, To, Lines}
use Rattle.teco_model.proofs.Lines.{on_within, none_within, back_within}
use Rattle.teco_law_facts.proofs.Numbers.{AreLeast, least_in, plus_in, minus_in, interval_of_in}
use Rattle.teco_law_facts.proofs.Near.{distances}
use Rattle.teco_law_facts.proofs.Shapes.{Shifts, Moves, IsDone, Foretells, shift_leads}
use Rattle.teco_law_facts.proofs.Leading.{leads_given}
use Rattle.teco_verifier.specs.facts.Motions as row
use Rattle.teco_verifier.specs.facts.Shifts as shifts
use Rattle.teco_verifier.specs.facts.Values.{pointer}
use Rattle.teco_verifier.specs.facts.Values.{distance_of}
use Rattle.teco_verifier.specs.declared.refusal.RefusalReason.TheVariants as refusal

-- ---- what may be absent
pub or_single : (fore back : ℕ) (o : Option Value) (v : Option ℤ) (d : ℤ) → IsOptional (IsValue fore back) o v
    → IsIn (unwrap_or o (single d)) fore back (unwrap_or v d)
or_single fore back None None d h = record { low = omega (arith, ints); high = omega (arith, ints) }
or_single fore back (Some s) (Some v) d h = h.is
or_single fore back None (Some v) d h = absurd h
or_single fore back (Some s) None d h = absurd h

-- ---- least distances
known_if : (b : Bool) (why : RefusalReason) (m v : ℤ) → int_lt m (pos 0) ≡ b → m ≤ℤ v
    → IfOk (shifts.known_distance why (cond b None (Some (min (unsigned_abs m) LIMIT)))) (λ m. pos m ≤ℤ v)
known_if true why m v e h = tt
known_if false why (pos m) v e h = omega (arith, ints)
known_if false why (negsuc m) v e h = absurd (omega (arith, ints))

known_at : (why : RefusalReason) (o : Option ℤ) (v : ℤ) → IfSome o (λ m. m ≤ℤ v)
    → IfOk (shifts.known_distance why (distance_of o)) (λ m. pos m ≤ℤ v)
known_at why None v h = tt
known_at why (Some m) v h = known_if _ why m v refl h

pub distance_at : (why : RefusalReason) (s : Value) (distances : Distances) (fore back : ℕ) (v : ℤ)
    → AreLeast distances fore back → IsIn s fore back v → IfOk (shifts.distance why s distances) (λ m. pos m ≤ℤ v)
distance_at why s distances fore back v b h = known_at why (least s distances) v (least_in s distances fore back v b h)

module _ (run : Run) (facts : Facts) (unread : ℕ) (kept : Kept) (whole : IsWhole kept)
    (h : Holds run facts unread kept) where
  -- what a shift to the place z says
  pub record IsPlaced (z : ℤ) (shift : Shift) : Type 0 where
    pub begin : pos shift.distances.back ≤ℤ z
    pub end : (pos shift.distances.fore +ℤ z) ≤ℤ pos (length kept.text)
    pub fall : IfSome shift.fall (λ v. (v +ℤ pos kept.pointer) ≤ℤ z)
    pub growth : shift.growth ≡ number 0

  fall_to : (o : Option ℤ) (z : ℤ) → IfSome o (λ v. v ≤ℤ (z -ℤ pos kept.pointer))
      → IfSome o (λ v. (v +ℤ pos kept.pointer) ≤ℤ z)
  fall_to None z i = tt
  fall_to (Some v) z i = omega (arith, ints)

  pub size_in : IsIn size (fore_of kept) (back_of kept) (pos (length kept.text))
  size_in = record { low = omega (arith, ints, whole.inside); high = omega (arith, ints, whole.inside) }

  pub pointer_in : IsIn pointer (fore_of kept) (back_of kept) (pos kept.pointer)
  pointer_in = record { low = omega (arith, ints); high = omega (arith, ints) }

  pub placed_is : (p : Value) (z : ℤ) → IsIn p (fore_of kept) (back_of kept) z
      → IfOk (shifts.shift_to p facts.position.distances) (IsPlaced z)
  placed_is p z i =
      let b = (distances run facts unread kept whole h).least in
      let from_end = minus_in size p (fore_of kept) (back_of kept) (pos (length kept.text)) z size_in i in
      let from_here = minus_in p pointer (fore_of kept) (back_of kept) z (pos kept.pointer) i pointer_in in
      ok_then (λ m. pos m ≤ℤ z) (IsPlaced z) _ _ (distance_at refusal.Place p facts.position.distances (fore_of kept)
      (back_of kept) z b i) (λ back low.
      ok_then (λ m. pos m ≤ℤ (pos (length kept.text) -ℤ z)) (IsPlaced z) _ _
      (distance_at refusal.Place (minus size p) facts.position.distances (fore_of kept) (back_of kept) _ b from_end)
      (λ fore high.
      record {
        begin = low;
        end = omega (arith, ints, high);
        fall = fall_to _ z (least_in (minus p pointer) facts.position.distances (fore_of kept)
            (back_of kept) _ b from_here);
        growth = refl;
      }))

  -- a saved place is one of the buffer
  placed_or_saved : (b : Bool) (r : Result Shift RefusalReason) (z : ℤ) → IfOk r (IsPlaced z)
      → IsPlaceIf b (fore_of kept) (back_of kept) z → IfOk (row.shift_or_saved b r) (IsPlaced z)
  placed_or_saved b (Ok shift) z p i = p
  placed_or_saved true (Err why) z p i = record {
    begin = i.0;
    end = omega (arith, ints, i.1, whole.inside);
    fall = tt;
    growth = refl;
  }
  placed_or_saved false (Err why) z p i = tt

  -- and so is what is known as a place
  pub place_known : (s : Value) (z : ℤ) → IsValue (fore_of kept) (back_of kept) s z
      → IsPlaceIf (shifts.is_place s facts.position.distances) (fore_of kept) (back_of kept) z
  place_known s z i = known_place s.saved _ i.saved (placed_is s z i.is) where
    known_place : (b : Bool) (r : Result Shift RefusalReason) → IsPlaceIf b (fore_of kept) (back_of kept) z
        → IfOk r (IsPlaced z) → IsPlaceIf (b || is_ok r) (fore_of kept) (back_of kept) z
    known_place true r q p = q
    known_place false (Ok shift) q p = (omega (arith, ints, p.begin), omega (arith, ints, p.end, whole.inside))
    known_place false (Err why) q p = tt

  fallen_to : (o : Option ℤ) (m : ℕ) → m ≤ length kept.text → IfSome o (λ v. (v +ℤ pos kept.pointer) ≤ℤ pos m)
      → IfSome o (λ v. (pos (length kept.text - m) +ℤ v) ≤ℤ pos (fore_of kept))
  fallen_to None m w i = tt
  fallen_to (Some v) m w i = omega (arith, ints, whole.inside)

  -- the shape of all that moves the pointer
  pub pointer_at : (shift : Shift) (m : ℕ) → shift.distances.back ≤ m → shift.distances.fore + m ≤ length kept.text
      → IfSome shift.fall (λ v. (pos (length kept.text - m) +ℤ v) ≤ℤ pos (fore_of kept))
      → Shifts run.n shift kept (record kept { pointer = m })
  pointer_at shift m behind ahead fallen =
      record {
        registers = refl;
        behind = behind;
        ahead = ahead;
        grown = omega arith;
        fallen = fallen;
        wider = λ e. omega (arith, whole.inside);
      }

  answer_in : (fore back : ℕ) (v : ℤ) → negsuc 0 ≤ℤ v → v ≤ℤ pos 0 → IsValue fore back (value_in row.success) v
  answer_in fore back v l u = record {
    is = record { low = omega (arith, ints); high = omega (arith, ints) };
    fits = omega (arith, ints);
    saved = tt;
  }

  at_place : (shift : Shift) (m : ℕ) (b : Bool) → nat_le m (length kept.text) ≡ b → IsPlaced (pos m) shift
      → Moves run.n shift kept None (model.motion_to 0 (cond b (Some m) None) kept)
  at_place shift m false e p = absurd (grind (arith, ints, nat_tests, p.end))
  at_place shift m true e p =
      let w : m ≤ length kept.text = grind (arith, nat_tests) in (
        pointer_at shift m (omega (arith, ints, p.begin)) (omega (arith, ints, p.end))
            (fallen_to shift.fall m w p.fall),
        tt,
      )

  pub place_moves : (shift : Shift) (z : ℤ) → IsPlaced z shift
      → Moves run.n shift kept None (model.motion_to 0 (place_in kept.text z) kept)
  place_moves shift (pos m) p = at_place shift m _ refl p
  place_moves shift (negsuc m) p = absurd (omega (arith, ints, p.begin))

  -- with a colon it may go anywhere
  stays : (on : Bool) → Moves run.n (row.perhaps_forward on) kept (Some (value_in row.success))
      (Ok (with_answer (pos 0) kept))
  stays true = (
    pointer_at (row.perhaps_forward true) kept.pointer (omega arith) (omega (arith, whole.inside))
        (omega (arith, ints)),
    answer_in _ _ (pos 0) (omega (arith, ints)) (omega (arith, ints)),
  )
  stays false = (
    pointer_at (row.perhaps_forward false) kept.pointer (omega arith) (omega (arith, whole.inside)) tt,
    answer_in _ _ (pos 0) (omega (arith, ints)) (omega (arith, ints)),
  )

  goes : (on : Bool) (m : ℕ) → m ≤ length kept.text → (on ≡ true → pos kept.pointer ≤ℤ pos m)
      → Shifts run.n (row.perhaps_forward on) kept (record kept { pointer = m })
  goes true m w o = pointer_at (row.perhaps_forward true) m (omega arith) (omega arith)
      (omega (arith, ints, o refl, whole.inside))
  goes false m w o = pointer_at (row.perhaps_forward false) m (omega arith) (omega arith) tt

  perhaps_moves : (on : Bool) (m colons : ℕ) (b : Bool) → nat_le m (length kept.text) ≡ b
      → (on ≡ true → pos kept.pointer ≤ℤ pos m)
      → Moves run.n (row.perhaps_forward on) kept (Some (value_in row.success))
      (model.motion_to (suc colons) (cond b (Some m) None) kept)
  perhaps_moves on m colons true e o =
      (goes on m (grind (arith, nat_tests)) o, answer_in _ _ (negsuc 0) (omega (arith, ints)) (omega (arith, ints)))
  perhaps_moves on m colons false e o = stays on

  pub colon_moves : (on : Bool) (z : ℤ) (colons : ℕ) → (on ≡ true → pos kept.pointer ≤ℤ z)
      → Moves run.n (row.perhaps_forward on) kept (Some (value_in row.success))
      (model.motion_to (suc colons) (place_in kept.text z) kept)
  colon_moves on (pos m) colons o = perhaps_moves on m colons _ refl o
  colon_moves on (negsuc m) colons o = stays on

  goes_on_is : (m : Motion) (r : Interval) (v : Option ℤ) → IsWithin r (unwrap_or v (pos 1))
      → row.goes_forward m r ≡ true → pos kept.pointer ≤ℤ model.target m kept.pointer v
  goes_on_is Forward r v i e = omega (arith, ints)
  goes_on_is Backward r v i e = omega (arith, ints)
  goes_on_is m r v i e = absurd (grind arith)

  -- L
  pub line_within : (v : ℤ) → line_place kept.text kept.pointer v ≤ length kept.text
  line_within (pos (suc m)) = (on_within kept.text kept.pointer whole.inside m).1
  line_within (pos zero) = omega (arith, none_within kept.text kept.pointer whole.inside, whole.inside)
  line_within (negsuc m) = omega (arith, back_within kept.text kept.pointer whole.inside m, whole.inside)

  pub line_on : (v : ℤ) → pos 1 ≤ℤ v → kept.pointer ≤ line_place kept.text kept.pointer v
  line_on (pos (suc m)) p = (on_within kept.text kept.pointer whole.inside m).0
  line_on v p = absurd (grind arith)

  pub line_back : (v : ℤ) → v ≤ℤ pos 0 → line_place kept.text kept.pointer v ≤ kept.pointer
  line_back (pos (suc m)) p = absurd (omega (arith, ints))
  line_back (pos zero) p = none_within kept.text kept.pointer whole.inside
  line_back (negsuc m) p = back_within kept.text kept.pointer whole.inside m

  lined_moves : (x y : Bool) (r : Interval) (v : ℤ) → int_le (pos 1) r.lo ≡ x → int_le r.hi (pos 0) ≡ y → IsWithin r v
      → Moves run.n (cond x (moving (record facts.position.distances { fore = 0 }) (Some (pos 0)))
      (cond y (moving (record facts.position.distances { back = 0 }) None) (moving nowhere None))) kept None
      (Ok (model.line_motion v kept))
  lined_moves true y r v e f i = let w = line_within v in let o = line_on v (omega (arith, ints)) in (
    pointer_at _ _ (omega (arith, h.position.begin, o)) (omega (arith, w)) (omega (arith, ints, o, w, whole.inside)),
    tt,
  )
  lined_moves false true r v e f i = let w = line_within v in let o = line_back v (omega (arith, ints)) in
      (pointer_at _ _ (omega arith) (omega (arith, h.position.end, o, whole.inside)) tt, tt)
  lined_moves false false r v e f i = let w = line_within v in (pointer_at _ _ (omega arith) (omega (arith, w)) tt, tt)

  target_in : (m : Motion) (o : Option Value) (v : Option ℤ) → IsOptional (IsValue (fore_of kept) (back_of kept)) o v
      → IsIn (row.target m o) (fore_of kept) (back_of kept) (model.target m kept.pointer v)
  target_in Forward o v i = plus_in pointer _ (fore_of kept) (back_of kept) _ _ pointer_in
      (or_single (fore_of kept) (back_of kept) o v (pos 1) i)
  target_in Backward o v i = minus_in pointer _ (fore_of kept) (back_of kept) _ _ pointer_in
      (or_single (fore_of kept) (back_of kept) o v (pos 1) i)
  target_in To o v i = or_single (fore_of kept) (back_of kept) o v (pos 0) i
  target_in Lines o v i = pointer_in

  pub count_within : (o : Option Value) (v : Option ℤ) → IsOptional (IsValue (fore_of kept) (back_of kept)) o v
      → IsWithin (row.count_of o facts.position.distances) (unwrap_or v (pos 1))
  count_within o v i =
      let d = distances run facts unread kept whole h in
      interval_of_in _ facts.position.distances (fore_of kept) (back_of kept) _ d.least (omega (arith, d.within))
      (omega (arith, d.within)) (or_single (fore_of kept) (back_of kept) o v (pos 1) i)

  saved_in : (m : Motion) (o : Option Value) (v : Option ℤ) → IsOptional (IsValue (fore_of kept) (back_of kept)) o v
      → IsPlaceIf (row.goes_to_saved m o) (fore_of kept) (back_of kept) (model.target m kept.pointer v)
  saved_in To (Some s) (Some v) i = i.saved
  saved_in To (Some s) None i = absurd i
  saved_in To None v i = tt
  saved_in m o v i = tt

  motion_to_foretold : (m : Motion) (colons : ℕ) (o : Option Value) (v : Option ℤ)
      → IsOptional (IsValue (fore_of kept) (back_of kept)) o v
      → Foretells run facts unread kept (row.motion_to m colons o facts)
      (model.motion_to colons (place_in kept.text (model.target m kept.pointer v)) kept)
  motion_to_foretold m zero o v i =
      leads_given (IsPlaced (model.target m kept.pointer v)) _ (IsDone run facts unread kept) _ _ _
      (placed_or_saved _ _ _ (placed_is _ _ (target_in m o v i)) (saved_in m o v i)) (λ shift p.
      shift_leads run facts unread kept whole h shift None _ (λ l. place_moves shift _ p))
  motion_to_foretold m (suc colons) o v i =
      shift_leads run facts unread kept whole h _ (Some (value_in row.success)) _
      (λ l. colon_moves _ (model.target m kept.pointer v) colons (goes_on_is m _ v (count_within o v i)))

  pub motion_foretold : (m : Motion) (e : Element) (known : KnownTaken) (taken : Taken)
      → IsTaken (fore_of kept) (back_of kept) known taken
      → Foretells run facts unread kept (row.motion m e.colons known facts) (model.motion m e taken kept)
  motion_foretold Forward e known taken i = motion_to_foretold Forward e.colons known.value taken.value i.value
  motion_foretold Backward e known taken i = motion_to_foretold Backward e.colons known.value taken.value i.value
  motion_foretold To e known taken i = motion_to_foretold To e.colons known.value taken.value i.value
  motion_foretold Lines e known taken i =
      shift_leads run facts unread kept whole h _ None _
      (λ l. lined_moves _ _ (row.count_of known.value facts.position.distances) (unwrap_or taken.value (pos 1)) refl
      refl (count_within known.value taken.value i.value))
