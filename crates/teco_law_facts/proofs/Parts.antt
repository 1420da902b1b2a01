-- Parts of the buffer that are named.
use Rattle.teco_law_facts.proofs.Prelude.{◌≡◌, ℕ, ◌≤◌, arith, ap, ℤ, pos, negsuc, length, Option, Some, None, Result}
use Rattle.teco_law_facts.proofs.Prelude.{Ok, Err, IfOk, true, cond, nat_le, ⊤, ints, nat_tests, Code, Effect, place_in}
use Rattle.teco_law_facts.proofs.Prelude.{part_named, Kept, Part, ok_then, ◌>>=◌, Run, IsWhole, Holds, IsOptional}
use Rattle.teco_law_facts.proofs.Prelude.{fore_of, back_of, Facts, Foreseen, Shift, IsValue, IsIn, RefusalReason, Value}
use Rattle.teco_law_facts.proofs.Motion.{IsPlaced, placed_is}
use Rattle.teco_law_facts.proofs.Shapes.{IsDone, Foretells}
use Rattle.teco_law_facts.proofs.Leading.{leads_given}
use Rattle.teco_verifier.specs.facts.Typings as typings

nat_le_true : (a b : ℕ) → a ≤ b → nat_le a b ≡ true
nat_le_true a b h = grind (arith, nat_tests)

pub in_text : (kept : Kept) (m : ℕ) → m ≤ length kept.text → place_in kept.text (pos m) ≡ Some m
in_text kept m w = ap (λ b. cond b (Some m) None) (nat_le_true m (length kept.text) w)

-- there is something
abbrev pub Comes : {X : Type 0} → Result X Code → Type 0
Comes (Ok x) = ⊤
Comes (Err c) = ⊥

module _ (run : Run) (facts : Facts) (unread : ℕ) (kept : Kept) (whole : IsWhole kept)
    (h : Holds run facts unread kept) where
  -- a place that is known lies in the text
  pub within_text : (m : ℕ) (shift : Shift) → IsPlaced run facts unread kept whole h (pos m) shift
      → m ≤ length kept.text
  within_text m shift p = omega (arith, ints, p.end)

  both_in : (v w : ℤ) (from to : Shift) → IsPlaced run facts unread kept whole h v from
      → IsPlaced run facts unread kept whole h w to → Comes (part_named (Some v) (Some w) kept)
  both_in (pos a) (pos b) from to p q =
      rw (in_text kept a (within_text a from p), in_text kept b (within_text b to q)) tt
  both_in (negsuc a) w from to p q = absurd (omega (arith, ints, p.begin))
  both_in (pos a) (negsuc b) from to p q = absurd (omega (arith, ints, q.begin))

  pub both_named : (s t : Value) (v w : ℤ) → IsIn s (fore_of kept) (back_of kept) v
      → IsIn t (fore_of kept) (back_of kept) w → IfOk (typings.part_named (Some s) (Some t) facts.position.distances)
      (λ u. Comes (part_named (Some v) (Some w) kept))
  both_named s t v w i j =
      ok_then (IsPlaced run facts unread kept whole h v) (λ u. Comes (part_named (Some v) (Some w) kept)) _ _
      (placed_is run facts unread kept whole h s v i) (λ from p.
      ok_then (IsPlaced run facts unread kept whole h w) (λ u. Comes (part_named (Some v) (Some w) kept)) _ _
      (placed_is run facts unread kept whole h t w j) (λ to q. both_in v w from to p q))

  part_leads : (known : Result Foreseen RefusalReason) (go_on : Part → Result Effect Code)
      → ((part : Part) → Foretells run facts unread kept known (go_on part)) → (part : Result Part Code) → Comes part
      → Foretells run facts unread kept known (part >>= go_on)
  part_leads known go_on k (Ok part) c = k part
  part_leads known go_on k (Err e) c = absurd c

  -- a part that is named leads on
  pub parts_lead : (f o : Option Value) (m v : Option ℤ) → IsOptional (IsValue (fore_of kept) (back_of kept)) f m
      → IsOptional (IsValue (fore_of kept) (back_of kept)) o v
      → (known : Result Foreseen RefusalReason) (go_on : Part → Result Effect Code)
      → ((part : Part) → Foretells run facts unread kept known (go_on part))
      → Foretells run facts unread kept (typings.part_named f o facts.position.distances >>= λ named. known)
      (part_named m v kept >>= go_on)
  parts_lead (Some s) (Some t) (Some v) (Some w) i j known go_on k =
      leads_given (λ u. Comes (part_named (Some v) (Some w) kept)) _ (IsDone run facts unread kept) _ _ _
      (both_named s t v w i.is j.is) (λ u ok. part_leads known go_on k _ ok)
  parts_lead None o None v i j known go_on k = k _
  parts_lead (Some s) None (Some v) None i j known go_on k = k _
  parts_lead f o m v i j known go_on k = absurd (grind arith)
