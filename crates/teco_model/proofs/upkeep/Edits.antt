-- What motions, deletions, insertions and typing leave is upheld.
use Rattle.teco_model.proofs.Prelude.{◌≡◌, ℕ, zero, suc, ◌+◌, ◌-◌, ◌≤◌, arith, refl, ℤ, pos, negsuc, List, [], ◌∷◌}
use Rattle.teco_model.proofs.Prelude.{take, drop, length, length-append, length-take, length-drop, Option, Some, None}
use Rattle.teco_model.proofs.Prelude.{IfSome, ok_or, Result, Bool, true, false, cond, nat_le, unwrap_or, ints}
use Rattle.teco_model.proofs.Prelude.{nat_tests, byte_of, line_place, text_after_replacement, LIMIT, Code, Effect}
use Rattle.teco_model.proofs.Prelude.{Element, with_kept, Kept, World, Taken, Kind, Span, Upkeep, IsUpheld, AreBytes}
use Rattle.teco_model.proofs.Prelude.{IsWhole}
use Rattle.teco_base.specs.Text.{text_after_deletion}
use Rattle.teco_base.specs.declared.bytes.TheConstants.{TAB}
use Rattle.teco_base.specs.declared.code.Code.TheVariants as code
use Rattle.teco_model.proofs.Bytes.{IsByte, all_taken, all_dropped, all_joined, replaced_bytes, byte_small}
use Rattle.teco_model.proofs.Coded.{Yields, yields_then, yields_any, yields_if, some}
use Rattle.teco_model.proofs.Lines.{on_within, none_within, back_within}
use Rattle.teco_model.proofs.upkeep.Levels.{FitsIfSome}
use Rattle.teco_model.specs.Deletion as deletion
use Rattle.teco_model.specs.Effect.{no_answer}
use Rattle.teco_model.specs.Insertion as insertion
use Rattle.teco_model.specs.Motion as motion
use Rattle.teco_model.specs.Places.{place_in, span_between, part_named}
use Rattle.teco_model.specs.Typing as typing
use Rattle.teco_model.specs.declared.kind.Unit.{Unit as Counted}
use Rattle.teco_model.specs.declared.kind.Unit.TheVariants as counted
use Rattle.teco_model.specs.declared.kind.Insertion.{Insertion}
use Rattle.teco_model.specs.declared.kind.Insertion.TheVariants as insertion_kind
use Rattle.teco_model.specs.declared.kind.Motion.{Motion}
use Rattle.teco_model.specs.declared.kind.Motion.TheVariants as motion_kind
use Rattle.teco_model.specs.declared.kind.Typing.{Typing}
use Rattle.teco_model.specs.declared.kind.Typing.TheVariants as typing_kind

-- What a walk goes by: the kind of the element, what is assumed, and a property that such elements keep.
pub record Ground : Type 1 where
  pub kind : Kind
  pub assumed : Type 0
  pub property : World → Type 0
  pub upkeep : Upkeep kind property

-- a world has the property, and is whole where so much is assumed
abbrev pub Upheld : Ground → World → Type 0
Upheld g world = IsUpheld g.assumed g.property world

-- what stays, with this kept
abbrev pub Leaves : Ground → World → Kept → Type 0
Leaves g world kept = Upheld g (with_kept kept world)

-- what a command leaves of the editor, and answers
pub record IsUpheldEffect (g : Ground) (before : World) (effect : Effect) : Type 0 where
  pub kept : Leaves g before effect.kept
  pub answer : FitsIfSome g.assumed effect.answer

-- and what it comes to, with a code that a step may be
abbrev pub Does : Ground → World → Result Effect Code → Type 0
Does g world r = Yields (IsUpheldEffect g world) r

-- a part of a text
pub record IsPart (text : List ℕ) (part : Span) : Type 0 where
  pub ordered : part.start ≤ part.end
  pub within : part.end ≤ length text

-- where the buffer is whole
abbrev pub Part : Ground → World → Span → Type 0
Part g world part = g.assumed → IsPart world.kept.text part

-- what may change where registers and search mode stay
pub record IsEdited (new : Kept) : Type 0 where
  pub inside : new.pointer ≤ length new.text
  pub within : length new.text ≤ LIMIT
  pub bytes : AreBytes new.text
  pub last : new.last_length ≤ LIMIT

-- ---- places
place_if : (text : List ℕ) (n : ℕ) (b : Bool) → nat_le n (length text) ≡ b
    → IfSome (cond b (Some n) None) (λ p. p ≤ length text)
place_if text n true e = grind (arith, nat_tests)
place_if text n false e = tt

place_within : (text : List ℕ) (z : ℤ) → IfSome (place_in text z) (λ p. p ≤ length text)
place_within text (pos n) = place_if text n _ refl
place_within text (negsuc n) = tt

place_ok : (text : List ℕ) (o : Option ℕ) → IfSome o (λ p. p ≤ length text)
    → Yields (λ p. p ≤ length text) (ok_or o code.Pop)
place_ok text None h = tt
place_ok text (Some p) h = h

line_within : (text : List ℕ) (pointer : ℕ) → pointer ≤ length text → (z : ℤ) → line_place text pointer z ≤ length text
line_within text pointer i (pos (suc n)) = (on_within text pointer i n).1
line_within text pointer i (pos zero) = omega (arith, none_within text pointer i)
line_within text pointer i (negsuc n) = omega (arith, back_within text pointer i n)

between_part : (text : List ℕ) (a b : ℕ) → a ≤ length text → b ≤ length text → IsPart text (span_between a b)
between_part text a b h i = record { ordered = omega arith; within = omega arith }

-- what is put in the place of a part
pub replaced : (kept : Kept) → IsWhole kept → (part : Span) → IsPart kept.text part → (new : List ℕ) → AreBytes new
    → length (text_after_replacement kept.text part.start part.end new) ≤ LIMIT → (search_text : List ℕ)
    → IsEdited (record kept {
      text = text_after_replacement kept.text part.start part.end new;
      pointer = part.start + length new;
      last_length = length new;
      search_text = search_text;
    })
replaced kept w part p new h f last = record {
  inside = search (length-append, length-take, length-drop, p.ordered, p.within, arith);
  within = f;
  bytes = replaced_bytes kept.text part.start part.end new w.bytes h;
  last = search (length-append, length-take, length-drop, p.ordered, p.within, f, arith);
}

deleted_part : (kept : Kept) → IsWhole kept → (a b : ℕ) → a ≤ b → b ≤ length kept.text
    → IsEdited (deletion.deletion_between a b kept).kept
deleted_part kept w a b o i =
    let l : length (text_after_deletion kept.text a b) ≡ a + (length kept.text - b) =
    omega (
      arith,
      length-append (take a kept.text) (drop b kept.text),
      length-take a kept.text,
      length-drop b kept.text,
    ) in record {
      inside = omega arith;
      within = omega (arith, w.within);
      bytes = all_joined IsByte (take a kept.text) (drop b kept.text) (all_taken IsByte a kept.text w.bytes)
          (all_dropped IsByte b kept.text w.bytes);
      last = w.last;
    }

-- ---- commands of the buffer
module _ (g : Ground) (world : World) (u : Upheld g world) where
  pub edited : (new : Kept) → new.registers ≡ world.kept.registers → new.mode ≡ world.kept.mode
      → (g.assumed → IsWhole world.kept → IsEdited new) → Leaves g world new
  edited new r m p = record {
    whole = λ h. let w = (u.whole h).kept in
        let q = p h w in record {
          kept = record {
            inside = q.inside;
            within = q.within;
            bytes = q.bytes;
            count = rw r w.count;
            pairs = rw r w.pairs;
            stack = rw r w.stack;
            last = q.last;
            mode = rw m w.mode;
          };
          files = (u.whole h).files;
        };
    kept = g.upkeep.edited world (with_kept new world) r m refl u.kept;
  }

  pub moved : (p : ℕ) → (IsWhole world.kept → p ≤ length world.kept.text)
      → Leaves g world (record world.kept { pointer = p })
  moved p i = edited _ refl refl (λ h w. record { inside = i w; within = w.within; bytes = w.bytes; last = w.last })

  pub typed : (bytes : List ℕ) → Leaves g world (record world.kept { typed = bytes })
  typed bytes = edited _ refl refl
      (λ h w. record { inside = w.inside; within = w.within; bytes = w.bytes; last = w.last })

  pub sought : (last : List ℕ) → Leaves g world (record world.kept { search_text = last })
  sought last = edited _ refl refl
      (λ h w. record { inside = w.inside; within = w.within; bytes = w.bytes; last = w.last })

  pub silent : (new : Kept) → Leaves g world new → IsUpheldEffect g world (no_answer new)
  silent new l = record { kept = l; answer = λ h. tt }

  pub types : (bytes : List ℕ) → IsUpheldEffect g world (typing.typing_of bytes world.kept)
  types bytes = silent _ (typed _)

  -- motions
  motion_to_does : (colons : ℕ) (o : Option ℕ) → IfSome o (λ p. p ≤ length world.kept.text)
      → Does g world (motion.motion_to colons o world.kept)
  motion_to_does zero None i = tt
  motion_to_does zero (Some p) i = silent _ (moved p (λ w. i))
  motion_to_does (suc n) None i = record { kept = u; answer = λ h. omega (arith, ints) }
  motion_to_does (suc n) (Some p) i = record { kept = moved p (λ w. i); answer = λ h. omega (arith, ints) }

  pub motion_does : (m : Motion) (e : Element) (taken : Taken) → Does g world (motion.motion m e taken world.kept)
  motion_does motion_kind.Lines e taken =
      silent _ (moved _ (λ w. line_within world.kept.text world.kept.pointer w.inside _))
  motion_does m e taken = motion_to_does e.colons _ (place_within world.kept.text _)

  -- parts
  pub part_found : (first value : Option ℤ) → Yields (Part g world) (part_named first value world.kept)
  part_found (Some m) (Some n) = yields_then (λ p. p ≤ length world.kept.text) (Part g world) _ _
      (place_ok world.kept.text _ (place_within world.kept.text m))
      (λ a i. yields_then (λ p. p ≤ length world.kept.text) (Part g world) _ _
      (place_ok world.kept.text _ (place_within world.kept.text n))
      (λ b j h. between_part world.kept.text a b i j))
  part_found None value = λ h. let w = (u.whole h).kept in
      between_part world.kept.text world.kept.pointer _ w.inside
      (line_within world.kept.text world.kept.pointer w.inside (unwrap_or value (pos 1)))
  part_found (Some m) None = λ h. let w = (u.whole h).kept in
      between_part world.kept.text world.kept.pointer _ w.inside
      (line_within world.kept.text world.kept.pointer w.inside (pos 1))

  -- deletions
  deleted : (a b : ℕ) → (g.assumed → IsWhole world.kept → (a ≤ b) × (b ≤ length world.kept.text))
      → IsUpheldEffect g world (deletion.deletion_between a b world.kept)
  deleted a b p = silent _ (edited _ refl refl (λ h w. deleted_part world.kept w a b (p h w).0 (p h w).1))

  characters_deleted : (z : ℤ) → Does g world (deletion.character_deletion z world.kept)
  characters_deleted (pos n) = yields_if (IsUpheldEffect g world)
      (nat_le (world.kept.pointer + n) (length world.kept.text)) _ _ tt
      (λ t. deleted _ _ (λ h w. (omega arith, grind (arith, nat_tests))))
  characters_deleted (negsuc n) = yields_if (IsUpheldEffect g world) (nat_le (suc n) world.kept.pointer) _ _ tt
      (λ t. deleted _ _ (λ h w. (omega arith, w.inside)))

  part_deleted : (first value : Option ℤ) → Does g world (deletion.part_deletion first value world.kept)
  part_deleted first value = yields_then (Part g world) (IsUpheldEffect g world) _ _ (part_found first value)
      (λ part p. deleted part.start part.end (λ h w. ((p h).ordered, (p h).within)))

  pub deletion_does : (c : Counted) (first value : Option ℤ)
      → Does g world (deletion.deletion_of c first value world.kept)
  deletion_does counted.Characters (Some m) (Some n) = part_deleted (Some m) (Some n)
  deletion_does counted.Characters None value = characters_deleted (unwrap_or value (pos 1))
  deletion_does counted.Characters (Some m) None = characters_deleted (pos 1)
  deletion_does counted.Lines first value = part_deleted first value

  -- insertions
  pub inserted : (new : List ℕ) → (g.assumed → AreBytes new) → Does g world (insertion.insertion_of new world.kept)
  inserted new b = yields_if (IsUpheldEffect g world)
      (nat_le (length (text_after_replacement world.kept.text world.kept.pointer world.kept.pointer new)) LIMIT) _ _ tt
      (λ t. silent _ (edited _ refl refl (λ h w. replaced world.kept w
      (record { start = world.kept.pointer; end = world.kept.pointer })
      (record { ordered = omega arith; within = w.inside }) new (b h) (grind (arith, nat_tests))
      world.kept.search_text)))

  pub insertion_does : (i : Insertion) (text : List ℕ) (value : Option ℤ) → (g.assumed → AreBytes text)
      → Does g world (insertion.insertion_with i text value world.kept)
  insertion_does insertion_kind.Text text None b = inserted text b
  insertion_does insertion_kind.Text [] (Some n) b = inserted (byte_of n ∷ []) (λ h. (byte_small n, tt))
  insertion_does insertion_kind.Text (c ∷ text) (Some n) b = tt
  insertion_does insertion_kind.Tab text None b = inserted (TAB ∷ text) (λ h. (omega arith, b h))
  insertion_does insertion_kind.Tab text (Some n) b = tt

  -- typing
  pub typing_does : (t : Typing) (e : Element) (taken : Taken) → Does g world (typing.typing t e taken world.kept)
  typing_does typing_kind.Part e taken =
      yields_then (Part g world) (IsUpheldEffect g world) _ _ (part_found taken.first taken.value) (λ part p. types _)
  typing_does typing_kind.View e taken = types _
  typing_does typing_kind.Message e taken = types _
  typing_does typing_kind.Byte e taken =
      yields_any (IsUpheldEffect g world) _ _ (some taken.value code.Arg tt) (λ n. types _)
  typing_does (typing_kind.Number radix) e taken =
      yields_any (IsUpheldEffect g world) _ _ (some taken.value code.Arg tt) (λ n. types _)
