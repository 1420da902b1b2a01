-- I and TAB, and all that puts a text in the place of another.
use Rattle.teco_law_facts.proofs.Prelude.{◌≡◌, ℕ, ◌+◌, ◌-◌, ◌≤◌, arith, refl, ℤ, pos, ◌+ℤ◌, ◌≤ℤ◌, List, [], ◌∷◌, length}
use Rattle.teco_law_facts.proofs.Prelude.{length-append, length-take, length-drop, Option, Some, None, Ok, Err, IfSome}
use Rattle.teco_law_facts.proofs.Prelude.{Bool, true, false, cond, nat_le, sym, subst, ints, nat_tests, LIMIT}
use Rattle.teco_law_facts.proofs.Prelude.{text_after_replacement, no_answer, Element, Kept, Taken, Polynomial, value}
use Rattle.teco_law_facts.proofs.Prelude.{number, KnownTaken, Run, IsWhole, Holds, IsTaken, IsOptional, fore_of}
use Rattle.teco_law_facts.proofs.Prelude.{back_of, Facts, Shift, silent_behind, IsValue, Value}
use Rattle.teco_base.specs.declared.code.Code.TheVariants as code
use Rattle.teco_base.specs.Arithmetic.{byte_of}
use Rattle.teco_base.specs.declared.bytes.TheConstants.{TAB}
use Rattle.teco_base.specs.Text.{text_after_insertion}
use Rattle.teco_model.specs.Insertion as model_insertion
use Rattle.teco_model.specs.declared.kind.Insertion.{Insertion}
use Rattle.teco_model.specs.declared.kind.Insertion.TheVariants.{Text, Tab}
use Rattle.teco_law_facts.proofs.Shapes.{Shifts, Moves, Foretells, shift_leads, value-number}
use Rattle.teco_verifier.specs.facts.Insertions as insertions

module _ (run : Run) (facts : Facts) (unread : ℕ) (kept : Kept) (whole : IsWhole kept)
    (h : Holds run facts unread kept) where
  -- the shape of all that puts a text in the place of the characters from a up to b
  pub replaced_at : (shift : Shift) (a b : ℕ) (new : List ℕ) → a ≤ b → b ≤ length kept.text
      → shift.distances.back ≤ a + length new → shift.distances.fore + b ≤ length kept.text
      → length new ≤ b - a + value shift.growth run.n
      → IfSome shift.fall (λ v. (pos (length kept.text - b) +ℤ v) ≤ℤ pos (fore_of kept))
      → (shift.ends ≡ false → b - a ≤ length new)
      → Shifts run.n shift kept (record kept {
        text = text_after_replacement kept.text a b new;
        pointer = a + length new;
        last_length = length new;
      })
  replaced_at shift a b new ordered inside behind ahead grown fallen longer =
      let len : length (text_after_replacement kept.text a b new) ≡ a + (length new + (length kept.text - b)) =
      omega (arith, length-append {A = ℕ}, length-take a kept.text, length-drop b kept.text) in
      let fore : length (text_after_replacement kept.text a b new) - (a + length new) ≡ length kept.text - b =
      omega arith in
      record {
        registers = refl;
        behind = behind;
        ahead = omega arith;
        grown = omega arith;
        fallen = subst (λ m. IfSome shift.fall (λ v. (pos m +ℤ v) ≤ℤ pos (fore_of kept))) (sym fore) fallen;
        wider = λ e. omega (arith, whole.inside, longer e);
      }

  -- such a text fits where what is held does
  pub replaced_within : (a b growth : ℕ) (new : List ℕ) → a ≤ b → b ≤ length kept.text → length new ≤ b - a + growth
      → value facts.held run.n + growth ≤ LIMIT → length (text_after_replacement kept.text a b new) ≤ LIMIT
  replaced_within a b growth new ordered inside grown f = search (length-append, length-take, length-drop, arith)

  put_at : (m : ℕ) (growth : Polynomial) (new : List ℕ) (b : Bool)
      → nat_le (length (text_after_insertion kept.text kept.pointer new)) LIMIT ≡ b → m ≤ length new
      → length new ≤ value growth run.n → value facts.held run.n + value growth run.n ≤ LIMIT
      → Moves run.n (insertions.insertion_of m growth facts.position.distances) kept None
      (cond b (Ok (no_answer (record kept {
        text = text_after_insertion kept.text kept.pointer new;
        pointer = kept.pointer + length new;
        last_length = length new;
      }))) (Err code.Ful))
  put_at m growth new true e k l f = (
    replaced_at (insertions.insertion_of m growth facts.position.distances) kept.pointer kept.pointer new
        (omega arith) whole.inside (omega (arith, h.position.begin)) (omega (arith, h.position.end, whole.inside))
        (omega arith) (omega (arith, ints)) (λ e. omega arith),
    tt,
  )
  put_at m growth new false e k l f =
      let within = replaced_within kept.pointer kept.pointer (value growth run.n) new (omega arith) whole.inside
      (omega arith) f in
      absurd (grind (arith, nat_tests, within))

  pub inserted_foretold : (m : ℕ) (growth : Polynomial) (new : List ℕ) → m ≤ length new
      → length new ≤ value growth run.n
      → Foretells run facts unread kept
      (silent_behind (insertions.insertion_of m growth facts.position.distances) facts)
      (model_insertion.insertion_of new kept)
  inserted_foretold m growth new k l =
      shift_leads run facts unread kept whole h (insertions.insertion_of m growth facts.position.distances) None _
      (λ f. put_at m growth new _ refl k l f)

  -- of as many as are known
  length_foretold : (new : List ℕ) → Foretells run facts unread kept (insertions.insertion_of_length (length new) facts)
      (model_insertion.insertion_of new kept)
  length_foretold new = inserted_foretold (length new) (number (length new)) new (omega arith)
      (omega (arith, value-number (length new) run.n))

  insertion_known : (i : Insertion) (text : List ℕ) (o : Option Value) (v : Option ℤ)
      → IsOptional (IsValue (fore_of kept) (back_of kept)) o v
      → Foretells run facts unread kept (insertions.insertion_with i text o facts)
      (model_insertion.insertion_with i text v kept)
  insertion_known Text text None None j = length_foretold text
  insertion_known Text [] (Some s) (Some v) j = length_foretold (byte_of v ∷ [])
  insertion_known Text (c ∷ text) (Some s) (Some v) j = tt
  insertion_known Tab text None None j = length_foretold (TAB ∷ text)
  insertion_known Tab text (Some s) (Some v) j = tt
  insertion_known i text o v j = absurd (grind arith)

  pub insertion_foretold : (i : Insertion) (e : Element) (known : KnownTaken) (taken : Taken)
      → IsTaken (fore_of kept) (back_of kept) known taken
      → Foretells run facts unread kept (insertions.insertion i e.text known facts)
      (model_insertion.insertion i e taken kept)
  insertion_foretold i e known taken j = insertion_known i e.text known.value taken.value j.value
