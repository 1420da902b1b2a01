-- D and K.
use Rattle.teco_law_facts.proofs.Prelude.{◌≡◌, ℕ, suc, ◌+◌, ◌-◌, ◌≤◌, min, arith, refl, ◌∙◌, ℤ, pos, negsuc, neg_ℤ}
use Rattle.teco_law_facts.proofs.Prelude.{◌+ℤ◌, ◌≤ℤ◌, int_le, drop, length, length-append, length-take, length-drop}
use Rattle.teco_law_facts.proofs.Prelude.{Option, Some, None, Ok, Err, IfSome, IfOk, Bool, true, false, ◌&&◌, cond}
use Rattle.teco_law_facts.proofs.Prelude.{nat_le, sym, subst, unwrap_or, ints, clamps, nat_tests, Kept, Taken, ok_then}
use Rattle.teco_law_facts.proofs.Prelude.{KnownTaken, ◌>>=◌, Run, IsWhole, Holds, IsTaken, IsOptional, fore_of, back_of}
use Rattle.teco_law_facts.proofs.Prelude.{Facts, nowhere, count_of, Shift, moving, ending, silent_behind, IsWithin}
use Rattle.teco_law_facts.proofs.Prelude.{IsValue, IsIn, Interval, Value}
use Rattle.std.proofs.Common.{max}
use Rattle.std.proofs.Common.{take}
use Rattle.teco_base.specs.declared.code.Code.TheVariants as code
use Rattle.teco_base.specs.Text.{text_after_deletion}
use Rattle.teco_model.specs.Deletion as model
use Rattle.teco_model.specs.Places.{line_span}
use Rattle.teco_model.specs.declared.kind.Unit.{Unit as Counted}
use Rattle.teco_model.specs.declared.kind.Unit.TheVariants.{Characters, Lines}
use Rattle.teco_law_facts.proofs.Motion.{IsPlaced, count_within, line_within, line_on, line_back, placed_is}
use Rattle.teco_law_facts.proofs.Shapes.{Shifts, Moves, IsDone, Foretells, shift_leads}
use Rattle.teco_law_facts.proofs.Leading.{leads_given}
use Rattle.teco_verifier.specs.facts.Deletions as row
use Rattle.teco_verifier.specs.facts.Motions.{shift_by_lines}
use Rattle.teco_verifier.specs.declared.refusal.RefusalReason.TheVariants as refusal
use Rattle.teco_law_facts.proofs.Parts.{in_text, within_text}

-- the positive part keeps the order
positive_more : (z w : ℤ) → z ≤ℤ w → row.positive z ≤ row.positive w
positive_more (pos a) (pos b) h = omega (arith, ints)
positive_more (pos a) (negsuc b) h = absurd (omega (arith, ints))
positive_more (negsuc a) w h = omega arith

module _ (run : Run) (facts : Facts) (unread : ℕ) (kept : Kept) (whole : IsWhole kept)
    (h : Holds run facts unread kept) where
  -- the shape of all that deletes
  cut_at : (shift : Shift) (a b : ℕ) → a ≤ b → b ≤ length kept.text → shift.distances.back ≤ a
      → shift.distances.fore + b ≤ length kept.text
      → IfSome shift.fall (λ v. (pos (length kept.text - b) +ℤ v) ≤ℤ pos (fore_of kept))
      → Shifts run.n (ending shift) kept (record kept { text = text_after_deletion kept.text a b; pointer = a })
  cut_at shift a b ordered inside behind ahead fallen =
      let len : length (text_after_deletion kept.text a b) ≡ a + (length kept.text - b) =
      length-append (take a kept.text) (drop b kept.text) ∙ omega (
        arith,
        length-take a kept.text,
        length-drop b kept.text,
      ) in
      let fore : length (text_after_deletion kept.text a b) - a ≡ length kept.text - b = omega arith in
      record {
        registers = refl;
        behind = behind;
        ahead = omega arith;
        grown = omega arith;
        fallen = subst (λ m. IfSome shift.fall (λ v. (pos m +ℤ v) ≤ℤ pos (fore_of kept))) (sym fore) fallen;
        wider = λ e. absurd (cc);
      }

  -- nD
  on_cut : (r : Interval) (m : ℕ) (b : Bool) → IsWithin r (pos m) → row.positive r.hi ≤ facts.position.distances.fore
      → nat_le (kept.pointer + m) (length kept.text) ≡ b
      → Moves run.n (ending (row.shift_by_characters facts.position.distances r)) kept None
      (cond b (Ok (model.deletion_between kept.pointer (kept.pointer + m) kept)) (Err code.Dtb))
  on_cut r m true i f e =
      let low = positive_more r.lo (pos m) i.low in
      let high = positive_more (pos m) r.hi i.high in (
        cut_at (row.shift_by_characters facts.position.distances r) kept.pointer (kept.pointer + m) (omega arith)
            (omega (arith, h.position.end, whole.inside)) (omega (arith, h.position.begin))
            (omega (arith, h.position.end, whole.inside))
            (omega (arith, ints, h.position.end, whole.inside, low, high)),
        tt,
      )
  on_cut r m false i f e = search (positive_more, nat_tests, arith)

  back_cut : (r : Interval) (m : ℕ) (b : Bool) → IsWithin r (negsuc m)
      → row.positive (neg_ℤ r.lo) ≤ facts.position.distances.back → nat_le (suc m) kept.pointer ≡ b
      → Moves run.n (ending (row.shift_by_characters facts.position.distances r)) kept None
      (cond b (Ok (model.deletion_between (kept.pointer - suc m) kept.pointer kept)) (Err code.Dtb))
  back_cut r m true i f e =
      let low = positive_more r.lo (negsuc m) i.low in
      let high = positive_more (pos (suc m)) (neg_ℤ r.lo) (omega (arith, ints, i.low)) in (
        cut_at (row.shift_by_characters facts.position.distances r) (kept.pointer - suc m) kept.pointer
            (omega arith) whole.inside (omega (arith, h.position.begin)) (omega (arith, h.position.end, whole.inside))
            (omega (arith, ints, low)),
        tt,
      )
  back_cut r m false i f e = search (positive_more, nat_tests, arith, ints)

  characters_cut : (r : Interval) (v : ℤ) → IsWithin r v → row.positive r.hi ≤ facts.position.distances.fore
      → row.positive (neg_ℤ r.lo) ≤ facts.position.distances.back
      → Moves run.n (ending (row.shift_by_characters facts.position.distances r)) kept None
      (model.character_deletion v kept)
  characters_cut r (pos m) i f b = on_cut r m _ i f refl
  characters_cut r (negsuc m) i f b = back_cut r m _ i b refl

  characters_foretold : (x y : Bool) (r : Interval) (v : ℤ) → IsWithin r v
      → nat_le (row.positive r.hi) facts.position.distances.fore ≡ x
      → nat_le (row.positive (neg_ℤ r.lo)) facts.position.distances.back ≡ y
      → Foretells run facts unread kept (cond (x && y) (Ok (row.shift_by_characters facts.position.distances r))
      (Err refusal.Deletion) >>= λ shift. silent_behind (ending shift) facts) (model.character_deletion v kept)
  characters_foretold true true r v i p q =
      shift_leads run facts unread kept whole h _ None _
      (λ l. characters_cut r v i (grind (arith, nat_tests)) (grind (arith, nat_tests)))
  characters_foretold true false r v i p q = tt
  characters_foretold false y r v i p q = tt

  -- nK
  lines_cut : (x y : Bool) (r : Interval) (v : ℤ) → int_le (pos 1) r.lo ≡ x → int_le r.hi (pos 0) ≡ y → IsWithin r v
      → Moves run.n (ending (cond x (moving (record facts.position.distances { fore = 0 }) (Some (pos 0)))
      (cond y (moving (record facts.position.distances { back = 0 }) (Some (pos 0))) (moving nowhere (Some (pos 0))))))
      kept None (Ok (model.deletion_between (line_span kept.text kept.pointer v).start
      (line_span kept.text kept.pointer v).end kept))
  lines_cut true y r v e f i = let w = line_within run facts unread kept whole h v in let o =
      line_on run facts unread kept whole h v (omega (arith, ints)) in (
        cut_at (moving (record facts.position.distances { fore = 0 }) (Some (pos 0))) _ _ (omega arith)
            (omega (arith, whole.inside)) (omega (arith, h.position.begin)) (omega (arith, whole.inside))
            (omega (arith, ints, whole.inside)),
        tt,
      )
  lines_cut false true r v e f i = let w = line_within run facts unread kept whole h v in let o =
      line_back run facts unread kept whole h v (omega (arith, ints)) in (
        cut_at (moving (record facts.position.distances { back = 0 }) (Some (pos 0))) _ _ (omega arith)
            (omega (arith, whole.inside)) (omega arith) (omega (arith, h.position.end, whole.inside))
            (omega (arith, ints, whole.inside)),
        tt,
      )
  lines_cut false false r v e f i = let w = line_within run facts unread kept whole h v in (
    cut_at (moving nowhere (Some (pos 0))) _ _ (omega arith) (omega (arith, whole.inside)) (omega arith)
        (omega (arith, whole.inside)) (omega (arith, ints, whole.inside)),
    tt,
  )

  -- m,nK
  greater_fall : (a b : ℕ) (o p : Option ℤ) → a ≤ length kept.text → b ≤ length kept.text
      → IfSome o (λ v. (v +ℤ pos kept.pointer) ≤ℤ pos a) → IfSome p (λ v. (v +ℤ pos kept.pointer) ≤ℤ pos b)
      → IfSome (row.greater_known o p) (λ v. (pos (length kept.text - max a b) +ℤ v) ≤ℤ pos (fore_of kept))
  greater_fall a b (Some v) (Some w) k l i j = omega (arith, ints, clamps, whole.inside)
  greater_fall a b None (Some w) k l i j = omega (arith, ints, whole.inside)
  greater_fall a b (Some v) None k l i j = omega (arith, ints, whole.inside)
  greater_fall a b None None k l i j = tt

  part_cut : (v w : ℤ) (from to : Shift) → IsPlaced run facts unread kept whole h v from
      → IsPlaced run facts unread kept whole h w to
      → Moves run.n (ending (row.nearer from to)) kept None (model.part_deletion (Some v) (Some w) kept)
  part_cut (pos a) (pos b) from to p q =
      let k = within_text run facts unread kept whole h a from p in
      let l = within_text run facts unread kept whole h b to q in
      rw (in_text kept a k, in_text kept b l) (
        cut_at (row.nearer from to) (min a b) (max a b) (omega arith) (omega arith)
            (omega (arith, ints, p.begin, q.begin)) (omega (arith, ints, p.end, q.end))
            (greater_fall a b from.fall to.fall k l p.fall q.fall),
        tt,
      )
  part_cut (negsuc a) w from to p q = absurd (omega (arith, ints, p.begin))
  part_cut (pos a) (negsuc b) from to p q = absurd (omega (arith, ints, q.begin))

  part_known : (s t : Value) (v w : ℤ) → IsIn s (fore_of kept) (back_of kept) v → IsIn t (fore_of kept) (back_of kept) w
      → IfOk (row.range_deletion s t facts.position.distances)
      (λ shift. Moves run.n (ending shift) kept None (model.part_deletion (Some v) (Some w) kept))
  part_known s t v w i j =
      ok_then (IsPlaced run facts unread kept whole h v)
      (λ shift. Moves run.n (ending shift) kept None (model.part_deletion (Some v) (Some w) kept)) _ _
      (placed_is run facts unread kept whole h s v i) (λ from p.
      ok_then (IsPlaced run facts unread kept whole h w)
      (λ shift. Moves run.n (ending shift) kept None (model.part_deletion (Some v) (Some w) kept)) _ _
      (placed_is run facts unread kept whole h t w j) (λ to q. part_cut v w from to p q))

  part_foretold : (s t : Value) (v w : ℤ) → IsIn s (fore_of kept) (back_of kept) v
      → IsIn t (fore_of kept) (back_of kept) w
      → Foretells run facts unread kept (row.part_deletion (Some s) (Some t) facts)
      (model.part_deletion (Some v) (Some w) kept)
  part_foretold s t v w i j =
      leads_given (λ shift. Moves run.n (ending shift) kept None (model.part_deletion (Some v) (Some w) kept)) _
      (IsDone run facts unread kept) _ _ _ (part_known s t v w i j)
      (λ shift m. shift_leads run facts unread kept whole h (ending shift) None _ (λ l. m))

  lines_foretold : (o : Option Value) (v : Option ℤ) → IsOptional (IsValue (fore_of kept) (back_of kept)) o v
      → Foretells run facts unread kept (row.part_deletion None o facts)
      (Ok (model.deletion_between (line_span kept.text kept.pointer (unwrap_or v (pos 1))).start
      (line_span kept.text kept.pointer (unwrap_or v (pos 1))).end kept))
  lines_foretold o v i = shift_leads run facts unread kept whole h
      (ending (shift_by_lines (Some (pos 0)) facts.position.distances (count_of o facts.position.distances))) None _
      (λ l. lines_cut _ _ (count_of o facts.position.distances) (unwrap_or v (pos 1)) refl refl
      (count_within run facts unread kept whole h o v i))

  range_foretold : (f o : Option Value) (m v : Option ℤ) → IsOptional (IsValue (fore_of kept) (back_of kept)) f m
      → IsOptional (IsValue (fore_of kept) (back_of kept)) o v
      → Foretells run facts unread kept (row.part_deletion f o facts) (model.part_deletion m v kept)
  range_foretold (Some s) (Some t) (Some v) (Some w) i j = part_foretold s t v w i.is j.is
  range_foretold None o None v i j = lines_foretold o v j
  range_foretold (Some s) None (Some v) None i j = lines_foretold None None tt
  range_foretold f o m v i j = absurd (grind arith)

  characters_known : (o : Option Value) (v : Option ℤ) → IsOptional (IsValue (fore_of kept) (back_of kept)) o v
      → Foretells run facts unread kept
      (row.character_deletion facts.position.distances (count_of o facts.position.distances) >>= λ shift.
      silent_behind (ending shift) facts) (model.character_deletion (unwrap_or v (pos 1)) kept)
  characters_known o v i = characters_foretold _ _ (count_of o facts.position.distances) (unwrap_or v (pos 1))
      (count_within run facts unread kept whole h o v i) refl refl

  deletion_known : (unit : Counted) (f o : Option Value) (m v : Option ℤ)
      → IsOptional (IsValue (fore_of kept) (back_of kept)) f m → IsOptional (IsValue (fore_of kept) (back_of kept)) o v
      → Foretells run facts unread kept (row.deletion_of unit f o facts) (model.deletion_of unit m v kept)
  deletion_known Lines f o m v i j = range_foretold f o m v i j
  deletion_known Characters (Some s) (Some t) (Some v) (Some w) i j = part_foretold s t v w i.is j.is
  deletion_known Characters None o None v i j = characters_known o v j
  deletion_known Characters (Some s) None (Some v) None i j = characters_known None None tt
  deletion_known unit f o m v i j = absurd (grind arith)

  pub deletion_foretold : (unit : Counted) (known : KnownTaken) (taken : Taken)
      → IsTaken (fore_of kept) (back_of kept) known taken
      → Foretells run facts unread kept (row.deletion unit known facts) (model.deletion unit taken kept)
  deletion_foretold unit known taken i =
      deletion_known unit known.first known.value taken.first taken.value i.first i.value
