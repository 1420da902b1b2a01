-- U, %, X, ^U, G, the push-down list, and what types.
use Rattle.teco_law_facts.proofs.Prelude.{◌≡◌, ℕ, zero, suc, ◌+◌, ◌-◌, ◌≤◌, arith, w32, refl, ℤ, pos, ◌+ℤ◌, List, []}
use Rattle.teco_law_facts.proofs.Prelude.{length, drop, length-take, length-drop, length-append, ◌++◌, ◌<◌, get_or, set}
use Rattle.teco_law_facts.proofs.Prelude.{Bool, true, false, cond, nat_le, IfOk, Option, Some, None, Result, Ok, Err}
use Rattle.teco_law_facts.proofs.Prelude.{unwrap_or, ints, SFits-int_wrap, nat_tests, LIMIT, REGISTERS, Code, Effect}
use Rattle.teco_law_facts.proofs.Prelude.{no_answer, needed_value, Element, Pair, empty_pair, Kept, Taken, Part}
use Rattle.teco_law_facts.proofs.Prelude.{Polynomial, value, KnownTaken, ◌>>=◌, Run, IsWhole, Holds, IsAt, ArePushed}
use Rattle.teco_law_facts.proofs.Prelude.{IsTaken, IsOptional, fore_of, back_of, Facts, Pushed, number_of, count_of}
use Rattle.teco_law_facts.proofs.Prelude.{Foreseen, silent, Succeeds, Fits, IsWithin, IsPlaceIf, any_number}
use Rattle.teco_law_facts.proofs.Prelude.{interval_of, interval_sum, kept_in_32_bits, IsValue, value_in, RefusalReason}
use Rattle.teco_law_facts.proofs.Prelude.{Interval, Value}
use Rattle.teco_base.specs.declared.code.Code.TheVariants as code
use Rattle.teco_model.specs.Places.{characters_of}
use Rattle.teco_model.specs.Registers.{with_pair, with_text}
use Rattle.teco_model.specs.Storage as model
use Rattle.teco_model.specs.Typing as model_typing
use Rattle.teco_model.specs.declared.kind.Storage.{Storage}
use Rattle.teco_model.specs.declared.kind.Storage.TheVariants.{SetNumber, Add, Copy, SetText, Get}
use Rattle.teco_model.specs.declared.kind.Typing.{Typing}
use Rattle.teco_model.specs.declared.kind.Typing.TheVariants as typing_kind
use Rattle.teco_law_facts.proofs.Saved.{IsSaved, saved_at}
use Rattle.teco_law_facts.proofs.Each.{IsNumber, IsText, each_at, each_set, each_kept, each_length, all_set}
use Rattle.teco_law_facts.proofs.Insertion.{inserted_foretold}
use Rattle.teco_law_facts.proofs.Parts.{parts_lead}
use Rattle.teco_law_facts.proofs.Motion.{place_known, count_within}
use Rattle.teco_law_facts.proofs.Numbers.{interval_of_in, value_in_in, kept_in_32_bits_in}
use Rattle.teco_law_facts.proofs.Near.{distances}
use Rattle.teco_law_facts.proofs.Shapes.{IsDone, Foretells, value-sum_of, value-number, done_with}
use Rattle.teco_verifier.specs.facts.Arguments as known
use Rattle.teco_law_facts.specs.Describes.{AreRegisters, IsPushed}
use Rattle.teco_verifier.specs.facts.Facts.{text_of}
use Rattle.teco_verifier.specs.facts.Shifts.{is_place}
use Rattle.teco_law_facts.specs.SoundElements.{IsNamedByStorage}
use Rattle.teco_verifier.specs.facts.Storages as row
use Rattle.teco_verifier.specs.facts.Typings as typings

zero_within : IsWithin any_number (pos 0)
zero_within = record { low = omega (arith, ints); high = omega (arith, ints) }

-- a part of the buffer is no longer than it
pub part_short : (part : Part) (kept : Kept) → length (characters_of part kept) ≤ length kept.text
part_short part kept = omega (
  arith,
  length-take (part.end - part.start) (drop part.start kept.text),
  length-drop part.start kept.text,
)

module _ (run : Run) (numbers : List Interval) (texts : List Polynomial) (pairs : List Pair)
    (h : AreRegisters run numbers texts pairs) where
  -- what is known at a place
  pub number_at : (r : ℕ) → IsWithin (get_or numbers r any_number) (get_or pairs r empty_pair).number
  number_at r = each_at IsNumber numbers pairs any_number empty_pair h.numbers zero_within r

  pub text_at : (r : ℕ) → length (get_or pairs r empty_pair).text ≤ value (get_or texts r []) run.n
  text_at r = each_at (IsText run.n) texts pairs [] empty_pair h.texts (omega arith) r

  -- a pair, its number or its text is set
  pub pair_set : (r : ℕ) (i : Interval) (most : Polynomial) (pair : Pair) → IsWithin i pair.number
      → length pair.text ≤ value most run.n → AreRegisters run (set numbers r i) (set texts r most) (set pairs r pair)
  pair_set r i most pair p q = record {
    numbers = each_set IsNumber numbers pairs r i pair h.numbers p;
    texts = each_set (IsText run.n) texts pairs r most pair h.texts q;
  }

  pub number_set : (r : ℕ) (i : Interval) (v : ℤ) → IsWithin i v
      → AreRegisters run (set numbers r i) texts (set pairs r (record (get_or pairs r empty_pair) { number = v }))
  number_set r i v p = record {
    numbers = each_set IsNumber numbers pairs r i _ h.numbers p;
    texts = each_kept (IsText run.n) texts pairs [] r _ h.texts (text_at r);
  }

  pub text_set : (r : ℕ) (most : Polynomial) (text : List ℕ) → length text ≤ value most run.n
      → AreRegisters run numbers (set texts r most) (set pairs r (record (get_or pairs r empty_pair) { text = text }))
  text_set r most text q = record {
    numbers = each_kept IsNumber numbers pairs any_number r _ h.numbers (number_at r);
    texts = each_set (IsText run.n) texts pairs r most _ h.texts q;
  }

module _ (run : Run) (facts : Facts) (unread : ℕ) (kept : Kept) (whole : IsWhole kept)
    (h : Holds run facts unread kept) where
  -- the shape of all that types, or sets the search mode
  pub untouched : (mode : ℤ) (typed : List ℕ)
      → IsDone run facts unread kept (silent facts) (no_answer (record kept { mode = mode; typed = typed }))
  untouched mode typed = done_with run facts unread kept whole h facts _ None
      (record { position = h.position; held = h.held; registers = h.registers; pushed = h.pushed }) refl refl refl refl
      tt

  -- the position where a number is set, saved or not
  renumbered : (r : ℕ) (saved : Bool) (pair : Pair) → IsPlaceIf saved (fore_of kept) (back_of kept) pair.number
      → IsAt run (record facts.position { saved = set facts.position.saved r saved }) (fore_of kept)
      (back_of kept) unread (set kept.registers.pairs r pair)
  renumbered r saved pair p = let i = h.position in
      record {
        begin = i.begin;
        end = i.end;
        fallen = i.fallen;
        ahead = i.ahead;
        saved = each_set (IsSaved (fore_of kept) (back_of kept)) facts.position.saved kept.registers.pairs r saved pair
            i.saved p;
      }

  with_number : (r : ℕ) (i : Interval) (saved : Bool) (v : ℤ) → IsWithin i v
      → IsPlaceIf saved (fore_of kept) (back_of kept) v
      → Holds run (row.with_number r i saved facts) unread (model.kept_with_number r v kept)
  with_number r i saved v p q = record {
    position = renumbered r saved _ q;
    held = h.held;
    registers = number_set run facts.numbers facts.texts kept.registers.pairs h.registers r i v p;
    pushed = h.pushed;
  }

  of_value : (s : Value) (v : ℤ) → IsValue (fore_of kept) (back_of kept) s v
      → IsWithin (interval_of facts.position.distances s) v
  of_value s v i =
      let d = distances run facts unread kept whole h in
      interval_of_in s facts.position.distances (fore_of kept) (back_of kept) v d.least (omega (arith, d.within))
      (omega (arith, d.within)) i.is

  -- U and %
  set_foretold : (r : ℕ) (o : Option Value) (v : Option ℤ) → IsOptional (IsValue (fore_of kept) (back_of kept)) o v
      → Foretells run facts unread kept (known.needed_value o >>= λ n.
      Ok (silent (row.with_number r (interval_of facts.position.distances n) (is_place n facts.position.distances)
      facts))) (needed_value v >>= λ n. Ok (no_answer (model.kept_with_number r n kept)))
  set_foretold r None None i = tt
  set_foretold r (Some s) (Some v) i =
      λ l. done_with run facts unread kept whole h _ _ None
      (with_number r _ _ v (of_value s v i) (place_known run facts unread kept whole h s v i)) refl refl refl refl tt
  set_foretold r o v i = absurd (grind arith)

  added : (r : ℕ) (o : Option Value) (v : Option ℤ) → IsOptional (IsValue (fore_of kept) (back_of kept)) o v
      → IsDone run facts unread kept (row.addition r o facts) (model.addition r (unwrap_or v (pos 1)) kept)
  added r o v i =
      let now = number_at run facts.numbers facts.texts kept.registers.pairs h.registers r in
      let more = count_within run facts unread kept whole h o v i in
      let new = kept_in_32_bits_in (interval_sum (number_of r facts) (count_of o facts.position.distances))
      (model.number_in r kept +ℤ unwrap_or v (pos 1))
      (record { low = omega (arith, ints, now, more); high = omega (arith, ints, now, more) }) in
      done_with run facts unread kept whole h _ _
      (Some (value_in (kept_in_32_bits (interval_sum (number_of r facts) (count_of o facts.position.distances)))))
      (with_number r _ false _ new tt) refl refl refl refl
      (record { is = value_in_in _ (fore_of kept) (back_of kept) _ new; fits = SFits-int_wrap w32 _; saved = tt })

  -- the position where a text is set
  retexted : (r : ℕ) (text : List ℕ)
      → IsAt run facts.position (fore_of kept) (back_of kept) unread (with_text r text kept.registers).pairs
  retexted r text = let i = h.position in record {
    begin = i.begin;
    end = i.end;
    fallen = i.fallen;
    ahead = i.ahead;
    saved = each_kept (IsSaved (fore_of kept) (back_of kept)) facts.position.saved kept.registers.pairs false r _
        i.saved (saved_at (fore_of kept) (back_of kept) facts.position.saved kept.registers.pairs i.saved r);
  }

  -- the shape of all that stores a text
  stored_at : (r : ℕ) (most : Polynomial) (text : List ℕ) (b : Bool) → nat_le (length text) LIMIT ≡ b → r < REGISTERS
      → length text ≤ value most run.n → Fits run.n (row.with_text r most facts)
      → Succeeds (IsDone run facts unread kept (silent (row.with_text r most facts)))
      (cond b (Ok (no_answer (record kept { registers = with_text r text kept.registers }))) (Err code.Ful))
  stored_at r most text true e w l f =
      done_with run facts unread kept whole h _ _ None
      (record {
        position = retexted r text;
        held = h.held;
        registers = text_set run facts.numbers facts.texts kept.registers.pairs h.registers r most text l;
        pushed =
            h.pushed;
      }) refl refl refl refl tt
  stored_at r most text false e w l f =
      let count = each_length (IsText run.n) facts.texts kept.registers.pairs h.registers.texts in
      let fits = all_set (λ most. value most run.n ≤ LIMIT) facts.texts r most (omega (arith, whole.count)) f.texts in
      absurd (grind (arith, nat_tests))

  appended : (r : ℕ) (most : Polynomial) (text : List ℕ) (sum : Result Polynomial RefusalReason)
      → IfOk sum (λ p. value p run.n ≡ value (text_of r facts) run.n + value most run.n) → r < REGISTERS
      → length text ≤ value most run.n
      → Foretells run facts unread kept (sum >>= λ p. Ok (silent (row.with_text r p facts)))
      (model.text_setting r (model.text_in r kept ++ text) kept)
  appended r most text (Ok p) e w l =
      λ f. stored_at r p (model.text_in r kept ++ text) _ refl w
      (omega (
        arith,
        length-append (model.text_in r kept) text,
        e,
        l,
        text_at run facts.numbers facts.texts kept.registers.pairs h.registers r,
      )) f
  appended r most text (Err e) p w l = tt

  stored : (colons r : ℕ) (most : Polynomial) (text : List ℕ) → r < REGISTERS → length text ≤ value most run.n
      → Foretells run facts unread kept (row.text_storage colons r most facts) (model.text_storage colons r text kept)
  stored zero r most text w l = λ f. stored_at r most text _ refl w l f
  stored (suc colons) r most text w l = appended r most text _ (value-sum_of run.n (text_of r facts) most) w l

  -- a text of the library is refused
  unless_library : (library : Bool) (known : Result Foreseen RefusalReason) (effect : Result Effect Code)
      → Foretells run facts unread kept known effect
      → Foretells run facts unread kept (row.not_of_library library >>= λ free. known) effect
  unless_library true known effect f = tt
  unless_library false known effect f = f

  own_text_foretold : (library : Bool) (colons r : ℕ) (text : List ℕ) (o : Option Value) (v : Option ℤ) → r < REGISTERS
      → IsOptional (IsValue (fore_of kept) (back_of kept)) o v
      → Foretells run facts unread kept (row.own_text_storage library colons r text o facts)
      (model.own_text_storage colons r text v kept)
  own_text_foretold library colons r text None None w i =
      unless_library library _ _ (stored colons r _ text w (omega (arith, value-number (length text) run.n)))
  own_text_foretold library colons r text (Some s) (Some v) w i = tt
  own_text_foretold library colons r text None (Some v) w i = absurd i
  own_text_foretold library colons r text (Some s) None w i = absurd i

  retrieval_foretold : (colons r : ℕ)
      → Foretells run facts unread kept (row.retrieval colons r facts) (model.retrieval colons r kept)
  retrieval_foretold zero r = inserted_foretold run facts unread kept whole h 0 (text_of r facts) (model.text_in r kept)
      (omega arith) (text_at run facts.numbers facts.texts kept.registers.pairs h.registers r)
  retrieval_foretold (suc colons) r = λ l. untouched _ _

  pub storage_foretold : (s : Storage) (library : Bool) (e : Element) (taking : KnownTaken) (taken : Taken)
      → IsNamedByStorage s → IsTaken (fore_of kept) (back_of kept) taking taken
      → Foretells run facts unread kept (row.storage s library e.colons e.text taking facts)
      (model.storage s e taken kept)
  storage_foretold (SetNumber r) library e taking taken w i = set_foretold r taking.value taken.value i.value
  storage_foretold (Add r) library e taking taken w i = λ l. added r taking.value taken.value i.value
  storage_foretold (Get r) library e taking taken w i = retrieval_foretold e.colons r
  storage_foretold (Copy r) library e taking taken w i =
      parts_lead run facts unread kept whole h taking.first taking.value taken.first taken.value i.first i.value _
      (λ part. model.text_storage e.colons r (characters_of part kept) kept)
      (λ part. unless_library library _ _
      (stored e.colons r facts.held (characters_of part kept) w (omega (arith, part_short part kept, h.held))))
  storage_foretold (SetText r) library e taking taken w i =
      own_text_foretold library e.colons r e.text taking.value taken.value w i.value

  -- ---- T, V, ^A, ^T and =
  number_foretold : (o : Option Value) (v : Option ℤ) (c : ℤ → Kept)
      → ((n : ℤ) → IsDone run facts unread kept (silent facts) (no_answer (c n)))
      → IsOptional (IsValue (fore_of kept) (back_of kept)) o v
      → Foretells run facts unread kept (known.needed_value o >>= λ s. Ok (silent facts))
      (needed_value v >>= λ n. Ok (no_answer (c n)))
  number_foretold None None c d i = tt
  number_foretold (Some s) (Some v) c d i = λ l. d v
  number_foretold o v c d i = absurd (grind arith)

  pub typing_foretold : (t : Typing) (e : Element) (taking : KnownTaken) (taken : Taken)
      → IsTaken (fore_of kept) (back_of kept) taking taken
      → Foretells run facts unread kept (typings.typing t taking facts) (model_typing.typing t e taken kept)
  typing_foretold typing_kind.Part e taking taken i =
      parts_lead run facts unread kept whole h taking.first taking.value taken.first taken.value i.first i.value _
      (λ part. Ok (model_typing.typing_of (characters_of part kept) kept)) (λ part l. untouched _ _)
  typing_foretold typing_kind.View e taking taken i = λ l. untouched _ _
  typing_foretold typing_kind.Message e taking taken i = λ l. untouched _ _
  typing_foretold typing_kind.Byte e taking taken i =
      number_foretold taking.value taken.value _ (λ v. untouched _ _) i.value
  typing_foretold (typing_kind.Number radix) e taking taken i =
      number_foretold taking.value taken.value _ (λ v. untouched _ _) i.value

  -- ---- [ and ]
  pub pushed_holds : (r : ℕ) → Holds run (row.push r facts) unread (model.push r kept)
  pushed_holds r = record {
    position = h.position;
    held = h.held;
    registers = h.registers;
    pushed = (
      record {
        number = number_at run facts.numbers facts.texts kept.registers.pairs h.registers r;
        text = text_at run facts.numbers facts.texts kept.registers.pairs h.registers r;
      },
      h.pushed,
    );
  }

  pub popped_holds : (r : ℕ) (s : Pushed) (pushes : List Pushed) (pair : Pair) (rest : List Pair)
      → IsPushed run.n s pair → ArePushed run.n run.below pushes rest
      → Holds run (record (row.with_text r s.text (row.with_number r s.number false facts)) { pushes = pushes }) unread
      (record kept { registers = record (with_pair r pair kept.registers) { stack = rest } })
  popped_holds r s pushes pair rest i p =
      record {
        position = renumbered r false pair tt;
        held = h.held;
        registers = pair_set run facts.numbers facts.texts kept.registers.pairs h.registers r s.number s.text pair
            i.number i.text;
        pushed = p;
      }
