-- S and FS: what is known of both outcomes is true.
use Rattle.teco_law_facts.proofs.Prelude.{◌≡◌, ℕ, zero, suc, ◌+◌, ◌≤◌, arith, refl, sym, ap, ◌∙◌, ℤ, pos, negsuc, ◌≤ℤ◌}
use Rattle.teco_law_facts.proofs.Prelude.{int_le, int_lt, List, [], ◌∷◌, map, length, Bool, true, false, cond, nat_le}
use Rattle.teco_law_facts.proofs.Prelude.{◌&&◌, Option, Some, None, Result, Ok, Err, IfOk, IfSome, ◌-◌, unwrap_or, ints}
use Rattle.teco_law_facts.proofs.Prelude.{length-map, nat_tests, LIMIT, REGISTERS, Code, text_after_replacement}
use Rattle.teco_law_facts.proofs.Prelude.{is_zero, Element, IsMatch, Pattern, minimum, Finding, Found, Missed, Kept}
use Rattle.teco_law_facts.proofs.Prelude.{after, answer_where, IsInBuffer, MissArrives, SearchArrives, finding, Taken}
use Rattle.teco_law_facts.proofs.Prelude.{Search, Find, Replace, FindInPages, ReplaceInPages, Span, Polynomial, value}
use Rattle.teco_law_facts.proofs.Prelude.{KnownTaken, ◌>>=◌, Run, run_behind, IsWhole, Holds, IsAt, Describes, IsTaken}
use Rattle.teco_law_facts.proofs.Prelude.{IsOptional, ArePending, fore_of, back_of, Position, Facts, at_position, Edges}
use Rattle.teco_law_facts.proofs.Prelude.{leaving, facts_taken, count_of, Shift, shifted, facts_behind, saved_after}
use Rattle.teco_law_facts.proofs.Prelude.{fall_after, Succeeds, Leads, Arrives, FitsOn, ArrivesOn, Placed}
use Rattle.teco_law_facts.proofs.Prelude.{IsValue, IsWithin, RefusalReason, Interval, Value}
use Rattle.std.specs.Prelude.{not}
use Rattle.teco_base.specs.declared.code.Code.TheVariants as code
use Rattle.teco_model.specs.Arguments as model
use Rattle.teco_model.specs.Search as searching
use Rattle.teco_model.specs.Searching.{kept_by_miss, at_start}
use Rattle.teco_law_facts.specs.SoundSearches.{SearchesAreSound}
use Rattle.teco_law_facts.proofs.Insertion.{replaced_at, replaced_within}
use Rattle.teco_law_facts.proofs.Flowing.{leaves_described, taken_are}
use Rattle.teco_law_facts.proofs.Matching.{HasPattern, pattern_with, LiesAhead, match_lies}
use Rattle.teco_law_facts.proofs.Meeting.{IsJoin, position_joined}
use Rattle.teco_law_facts.proofs.Motion.{or_single}
use Rattle.teco_law_facts.proofs.Numbers.{AreDistances, interval_of_in}
use Rattle.teco_law_facts.proofs.Pending.{settled_are, taken_covers}
use Rattle.teco_law_facts.proofs.Near.{distances}
use Rattle.teco_law_facts.proofs.Outcomes.{answered, found_described, missed_described}
use Rattle.teco_law_facts.proofs.Saved.{Widens, saved_count, length_after}
use Rattle.teco_law_facts.proofs.Shapes.{Shifts, shifted_at, shifted_holds, value-sum_of, value-number}
use Rattle.teco_law_facts.proofs.Steps.{by_kind, Covers}
use Rattle.teco_law_facts.proofs.Transfers.{without_answer, pending_again}
use Rattle.teco_verifier.specs.facts.Arguments as known
use Rattle.teco_verifier.specs.facts.Searches as row
use Rattle.teco_verifier.specs.facts.Shifts.{position_after}
use Rattle.teco_verifier.specs.facts.Transfer as transfers
use Rattle.teco_verifier.specs.declared.refusal.RefusalReason.TheVariants as refusal

-- ---- the count is at least 1
abbrev pub Counts : Option ℤ → Option ℤ → Type 0
Counts first value = (m : ℕ) × (searching.count_of first value ≡ Ok (pos (suc m)))

positive_count : (value : Option ℤ) (v : ℤ) → unwrap_or value (pos 1) ≡ v → pos 1 ≤ℤ v → Counts None value
positive_count value (pos (suc m)) e h = (m, ap searching.nonzero e)
positive_count value v e h = absurd (grind arith)

in_buffer : (x y z : Bool) (i : Interval) (value : Option ℤ) → int_le i.lo (pos 0) ≡ x → int_le (pos 0) i.hi ≡ y
    → int_lt i.lo (pos 1) ≡ z → IsWithin i (unwrap_or value (pos 1))
    → IfOk (cond (x && y) (Err refusal.Argument) (cond z (Err refusal.Unverified) (Ok tt)))
    (λ (u : Unit {0}). Counts None value)
in_buffer true true z i value e f g h = tt
in_buffer true false true i value e f g h = tt
in_buffer false y true i value e f g h = tt
in_buffer true false false i value e f g h = positive_count value _ refl (omega (arith, ints))
in_buffer false y false i value e f g h = positive_count value _ refl (omega (arith, ints))

in_pages : (z : Bool) (i : Interval) (value : Option ℤ) → int_lt i.lo (pos 1) ≡ z → IsWithin i (unwrap_or value (pos 1))
    → IfOk (cond z (Err refusal.Argument) (Ok tt)) (λ (u : Unit {0}). Counts None value)
in_pages true i value g h = tt
in_pages false i value g h = positive_count value _ refl (omega (arith, ints))

allowed_count : (s : Search) (i : Interval) (value : Option ℤ) → IsWithin i (unwrap_or value (pos 1))
    → IfOk (row.count_allowed s i) (λ u. Counts None value)
allowed_count Find i value h = in_buffer _ _ _ i value refl refl refl h
allowed_count Replace i value h = in_buffer _ _ _ i value refl refl refl h
allowed_count FindInPages i value h = in_pages _ i value refl h
allowed_count ReplaceInPages i value h = in_pages _ i value refl h

-- ---- what a search leaves
module _ (run : Run) (facts : Facts) (unread : ℕ) (kept : Kept) (whole : IsWhole kept)
    (h : Holds run facts unread kept) where
  pub of_count : (o : Option Value) (v : Option ℤ) → IsOptional (IsValue (fore_of kept) (back_of kept)) o v
      → IsWithin (count_of o facts.position.distances) (unwrap_or v (pos 1))
  of_count o v i =
      let d = distances run facts unread kept whole h in
      interval_of_in _ facts.position.distances (fore_of kept) (back_of kept) _ d.least (omega (arith, d.within))
      (omega (arith, d.within)) (or_single (fore_of kept) (back_of kept) o v (pos 1) i)

  pub counted : (s : Search) (f o : Option Value) (m v : Option ℤ)
      → IsOptional (IsValue (fore_of kept) (back_of kept)) f m → IsOptional (IsValue (fore_of kept) (back_of kept)) o v
      → IfOk (row.count_checked s f o facts.position.distances) (λ u. Counts m v)
  counted s None o None v i j = allowed_count s (count_of o facts.position.distances) v (of_count o v j)
  counted s (Some f) o m v i j = tt
  counted s None o (Some m) v i j = absurd i

  -- what is found
  found_at : (s : Search) → IsInBuffer s → (e : Element) (least : ℕ) (span : Span) (last : List ℕ)
      → LiesAhead kept.text kept.pointer least span
      → value facts.held run.n + value (row.shift_found s least (length e.second) facts.position.distances).growth
      run.n ≤ LIMIT
      → Succeeds (λ new. Shifts run.n (row.shift_found s least (length e.second) facts.position.distances) kept new)
      (searching.kept_after s e span (record kept { search_text = last }))
  found_at Find b e least span last l f =
      record {
        registers = refl;
        behind = omega (arith, h.position.begin, l.ahead, l.long);
        ahead = omega (arith, l.within);
        grown = omega arith;
        fallen =
            omega (arith, ints, l.ahead, l.long, l.within, whole.inside);
        wider = λ e. omega (arith, l.within, whole.inside);
      }
  found_at Replace b e least span last l f = put_at _ refl
    where
      within : length (text_after_replacement kept.text span.start span.end e.second) ≤ LIMIT
      within = replaced_within run facts unread kept whole h span.start span.end (length e.second) e.second
          (omega (arith, l.long)) l.within (omega arith) (omega (arith, f, value-number (length e.second) run.n))

      shifts : Shifts run.n (row.shift_found Replace least (length e.second) facts.position.distances) kept
          (record kept {
            text = text_after_replacement kept.text span.start span.end e.second;
            pointer = span.start + length e.second;
            last_length = length e.second;
          })
      shifts = replaced_at run facts unread kept whole h
          (row.shift_found Replace least (length e.second) facts.position.distances) span.start span.end e.second
          (omega (arith, l.long)) l.within (omega (arith, h.position.begin, l.ahead)) (omega (arith, l.within))
          (omega (arith, value-number (length e.second) run.n))
          (omega (arith, ints, l.ahead, l.long, l.within, whole.inside)) (λ e. absurd (cc))

      put_at : (b : Bool) → nat_le (length (text_after_replacement kept.text span.start span.end e.second)) LIMIT ≡ b
          → Succeeds (λ new. Shifts run.n (row.shift_found Replace least (length e.second) facts.position.distances)
          kept new)
          (cond b (Ok (record kept {
            text = text_after_replacement kept.text span.start span.end e.second;
            pointer = span.start + length e.second;
            last_length = length e.second;
            search_text = last;
          })) (Err code.Ful))
      put_at true p = record {
        registers = refl;
        behind = shifts.behind;
        ahead = shifts.ahead;
        grown = shifts.grown;
        fallen = shifts.fallen;
        wider = shifts.wider;
      }
      put_at false p = absurd (grind (arith, nat_tests, within))
  found_at s b e least span last l f = absurd (grind arith)

  -- and what is missed
  to_begin : Shifts run.n (row.shift_to_begin facts.position.distances) kept (record kept { pointer = 0 })
  to_begin = record {
    registers = refl;
    behind = omega arith;
    ahead = omega (arith, h.position.begin, h.position.end, whole.inside);
    grown = omega arith;
    fallen = tt;
    wider =
        λ e. omega (arith, whole.inside);
  }

  failed_at_begin : IsAt run (position_after (row.shift_to_begin facts.position.distances) facts.held facts.position)
      (length kept.text - 0) 0 unread kept.registers.pairs
  failed_at_begin = shifted_at run facts unread kept whole h (row.shift_to_begin facts.position.distances)
      (record kept { pointer = 0 }) facts.held to_begin h.held

  failed_in : (colons : ℕ) (last : List ℕ) → let new = kept_by_miss colons (record kept { search_text = last }) in
      IsAt run (row.position_failed_in colons facts) (fore_of new) (back_of new) unread new.registers.pairs
  failed_in zero last = failed_at_begin
  failed_in (suc zero) last = failed_at_begin
  failed_in (suc (suc colons)) last = h.position

  failed_at : (s : Search) → IsInBuffer s → (colons : ℕ) (last : List ℕ) → let new =
      kept_by_miss colons (record kept { search_text = last }) in
      IsAt run (row.position_failed s colons facts) (fore_of new) (back_of new) unread new.registers.pairs
  failed_at Find b colons last = failed_in colons last
  failed_at Replace b colons last = failed_in colons last
  failed_at s b colons last = absurd (grind arith)

  falls_alike : (s : Search) → IsInBuffer s → (colons : ℕ) (v : Option ℤ)
      → length (map (fall_after v) facts.position.falls) ≡ length (row.position_failed s colons facts).falls
  falls_alike Find b zero v = omega (
    arith,
    length-map facts.position.falls (fall_after v),
    length-map facts.position.falls (fall_after None),
  )
  falls_alike Find b (suc zero) v =
      omega (arith, length-map facts.position.falls (fall_after v), length-map facts.position.falls (fall_after None))
  falls_alike Find b (suc (suc colons)) v = omega (arith, length-map facts.position.falls (fall_after v))
  falls_alike Replace b zero v = omega (
    arith,
    length-map facts.position.falls (fall_after v),
    length-map facts.position.falls (fall_after None),
  )
  falls_alike Replace b (suc zero) v =
      omega (arith, length-map facts.position.falls (fall_after v), length-map facts.position.falls (fall_after None))
  falls_alike Replace b (suc (suc colons)) v = omega (arith, length-map facts.position.falls (fall_after v))
  falls_alike FindInPages b colons v = absurd b
  falls_alike ReplaceInPages b colons v = absurd b

  -- a miss leaves the buffer as it is
  missed_wider : (colons : ℕ) (last : List ℕ) → let new = kept_by_miss colons (record kept { search_text = last }) in
      fore_of kept + back_of kept ≤ fore_of new + back_of new
  missed_wider zero last = omega (arith, whole.inside)
  missed_wider (suc zero) last = omega (arith, whole.inside)
  missed_wider (suc (suc colons)) last = omega arith

  -- and what was saved
  missed_saved : (s : Search) → IsInBuffer s → (colons : ℕ)
      → (row.position_failed s colons facts).saved ≡ facts.position.saved
  missed_saved Find b zero = refl
  missed_saved Find b (suc zero) = refl
  missed_saved Find b (suc (suc colons)) = refl
  missed_saved Replace b zero = refl
  missed_saved Replace b (suc zero) = refl
  missed_saved Replace b (suc (suc colons)) = refl
  missed_saved s b colons = absurd (grind arith)

  saved_alike : (s : Search) → IsInBuffer s → (colons : ℕ) (ends : Bool)
      → length (saved_after ends facts.position.saved) ≡ length (row.position_failed s colons facts).saved
  saved_alike s b colons ends =
      let l : length facts.position.saved ≡ REGISTERS =
      saved_count (fore_of kept) (back_of kept) facts.position.saved kept.registers.pairs h.position.saved
      ∙ whole.count in
      length_after ends facts.position.saved l ∙ (sym l ∙ sym (ap length (missed_saved s b colons)))

-- ---- steps
pub succeeds_then : {X Y : Type 0} (P : X → Type 0) (Q : Y → Type 0) (r : Result X Code) (f : X → Y)
    → ((x : X) → P x → Q (f x)) → Succeeds P r → Succeeds Q (r >>= λ x. Ok (f x))
succeeds_then P Q (Ok x) f k h = k x h
succeeds_then P Q (Err c) f k h = h

-- a search text of a known minimum length says a pattern of at least that length
minimum_known : {Y Z : Type 0} (L : Y → Type 0) (Q : Y → Z → Type 0) (kept : Kept) (c : ℕ) (text : List ℕ)
    (o : Result (Option ℕ) Code) (f : ℕ → Result Facts RefusalReason) (g : Facts → Result Y RefusalReason) (k : Pattern
    → Result Z Code) → minimum (c ∷ text) ≡ o
    → ((least : ℕ) (has : HasPattern kept.registers (not (is_zero kept.mode)) (c ∷ text) least)
    → Leads L Q (f least >>= g) (k has.it))
    → Leads L Q ((row.known_minimum o >>= f) >>= g) (searching.pattern_of (c ∷ text) kept >>= k)
minimum_known L Q kept c text (Err e) f g k m h = tt
minimum_known L Q kept c text (Ok None) f g k m h = tt
minimum_known L Q kept c text (Ok (Some least)) f g k m h = let has =
    pattern_with kept.registers (not (is_zero kept.mode)) (c ∷ text) least m in rw has.is (h least has)

-- what a pattern's matches are long at least
abbrev IsLong : Pattern → List ℕ → ℕ → Type 0
IsLong p buffer least = (span : Span) → IsMatch p buffer span → span.start + least ≤ span.end

minimum_leads : {Y Z : Type 0} (L : Y → Type 0) (Q : Y → Z → Type 0) (kept : Kept) (text : List ℕ) (f : ℕ
    → Result Facts RefusalReason) (g : Facts → Result Y RefusalReason) (k : Pattern → Result Z Code)
    → ((least : ℕ) (p : Pattern) → IsLong p kept.text least → Leads L Q (f least >>= g) (k p))
    → Leads L Q ((row.minimum_of text >>= f) >>= g)
    (searching.pattern_of (searching.search_text_of text kept) kept >>= k)
minimum_leads L Q kept [] f g k h = tt
minimum_leads L Q kept (c ∷ text) f g k h =
    minimum_known L Q kept c text _ f g k refl (λ least has. h least has.it (has.long kept.text))

-- ---- the law
module _ (run : Run) (facts : Facts) (unread : ℕ) (kept : Kept) (arguments : model.Arguments) (whole : IsWhole kept)
    (d : Describes run facts unread kept arguments) (s : Search) (inside_buffer : IsInBuffer s) (x : Placed)
    (has_colon : x.colon ≡ false → x.element.colons ≡ 0) where
  abbrev taking : Facts
  taking = facts_taken facts

  now : AreDistances facts.position.distances (fore_of kept) (back_of kept)
  now = distances run facts unread kept whole d.state

  taking_holds : Holds run taking unread kept
  taking_holds = pending_again run facts unread kept d.state _

  taking_are : ArePending (fore_of kept) (back_of kept) taking.arguments (model.levels_after_taking arguments)
  taking_are = taken_are run facts unread kept arguments whole d

  -- what is pending at another place
  settled_at : (ends : Bool) (fore back : ℕ) → Widens ends (fore_of kept) (back_of kept) fore back
      → ArePending fore back (known.settled facts.position.distances ends taking.arguments)
      (model.levels_after_taking arguments)
  settled_at ends fore back w = settled_are facts.position.distances ends (fore_of kept)
      (back_of kept) fore back now w taking.arguments (model.levels_after_taking arguments) taking_are

  abbrev failed : Position
  failed = row.position_failed s x.element.colons taking

  module _ (least : ℕ) (held : Polynomial)
      (more : value held run.n ≡ value facts.held run.n + value
      (row.shift_found s least (length x.element.second) facts.position.distances).growth run.n) where
    abbrev shift : Shift
    shift = row.shift_found s least (length x.element.second) facts.position.distances

    abbrev found : Facts
    found = facts_behind shift held taking

    found_holds : (new : Kept) → Shifts run.n shift kept new → Holds run found unread new
    found_holds new sh = shifted_holds run taking unread kept whole taking_holds shift new held sh more

    found_arrives : (new : Kept) → Shifts run.n shift kept new
        → Arrives run facts.held unread kept found (after new (model.levels_after_taking arguments))
    found_arrives new sh =
        record {
          described = record {
            state = found_holds new sh;
            pending = settled_at shift.ends (fore_of new) (back_of new) sh.wider;
            answers = tt;
          };
          grown = omega (arith, more, sh.grown);
        }

    found_answers : (position : Position) → IsJoin run found.position failed position → (new : Kept)
        → Shifts run.n shift kept new → Arrives run facts.held unread kept (answered found failed position)
        (after new (model.levels_after_answer (Some (negsuc 0)) (model.levels_after_taking arguments)))
    found_answers position j new sh = record {
      described = found_described run unread new found failed position j arguments
          (settled_at shift.ends (fore_of new) (back_of new) sh.wider) (found_holds new sh);
      grown = omega (arith, more, sh.grown);
    }

    -- a miss leaves text and registers
    missed_text : (colons : ℕ) (last : List ℕ)
        → (kept_by_miss colons (record kept { search_text = last })).text ≡ kept.text
    missed_text zero last = refl
    missed_text (suc zero) last = refl
    missed_text (suc (suc colons)) last = refl

    missed_registers : (colons : ℕ) (last : List ℕ)
        → (kept_by_miss colons (record kept { search_text = last })).registers ≡ kept.registers
    missed_registers zero last = refl
    missed_registers (suc zero) last = refl
    missed_registers (suc (suc colons)) last = refl

    missed_holds : (last : List ℕ) → Holds run (at_position failed found) unread
        (kept_by_miss x.element.colons (record kept { search_text = last }))
    missed_holds last =
        let text = ap length (missed_text x.element.colons last) in
        record {
          position = failed_at run taking unread kept whole taking_holds s inside_buffer x.element.colons last;
          held = omega (arith, text, more, d.state.held);
          registers =
              let r = d.state.registers in
              rw (missed_registers x.element.colons last) (record { numbers = r.numbers; texts = r.texts });
          pushed = rw (missed_registers x.element.colons last) d.state.pushed;
        }

    missed_answers : (position : Position) → IsJoin run found.position failed position → (last : List ℕ)
        → Arrives run facts.held unread kept (answered found failed position)
        (after (kept_by_miss x.element.colons (record kept { search_text = last }))
        (model.levels_after_answer (Some (pos 0)) (model.levels_after_taking arguments)))
    missed_answers position j last =
        let new : Kept = kept_by_miss x.element.colons (record kept { search_text = last }) in
        let text : length new.text ≡ length kept.text = ap length (missed_text x.element.colons last) in record {
          described = missed_described run unread new found failed position j arguments
              (settled_at shift.ends (fore_of new) (back_of new)
              (λ e. missed_wider run taking unread kept whole taking_holds x.element.colons last)) (missed_holds last);
          grown = omega (arith, text, more);
        }

    missed_leaves : x.element.colons ≡ 0 → (last typed : List ℕ)
        → Arrives (run_behind 1 run) facts.held unread kept (leaving 1 (row.facts_failed s x.element.colons taking))
        (after (record (at_start (record kept { search_text = last })) { typed = typed }) model.no_arguments)
    missed_leaves none last typed = record {
      described = leaves_described run 1 (row.facts_failed s x.element.colons taking) unread
          (record (at_start (record kept { search_text = last })) { typed = typed }) (record {
            position = rw none (failed_at run taking unread kept whole taking_holds s inside_buffer 0 last);
            held = d.state.held;
            registers = let r = d.state.registers in record { numbers = r.numbers; texts = r.texts };
            pushed = d.state.pushed;
          });
      grown = omega arith;
    }

    -- the edges, by whether the search counts as having a colon
    abbrev ArrivesBy : Bool → Edges → Finding → Type 0
    ArrivesBy colon edges (Found new) =
        ArrivesOn run facts.held unread kept edges
        (after new (model.levels_after_answer (answer_where colon (negsuc 0)) (model.levels_after_taking arguments)))
    ArrivesBy colon edges (Missed new) =
        MissArrives colon run facts.held unread kept arguments x.element.colons edges new

    span_found : (span : Span) (last : List ℕ) → LiesAhead kept.text kept.pointer least span → value held run.n ≤ LIMIT
        → (Q : Finding → Type 0) → ((new : Kept) → Shifts run.n shift kept new → Q (Found new))
        → Succeeds Q (searching.finding_of s x.element (Some span) (record kept { search_text = last }))
    span_found span last l fits Q k =
        succeeds_then (λ new. Shifts run.n shift kept new) Q _ Found k
        (found_at run taking unread kept whole taking_holds s inside_buffer x.element least span last l
        (omega (arith, more, fits)))

    answered_by : (r : Result Position RefusalReason) → IfOk r (IsJoin run found.position failed) → (o : Option Span)
        → IfSome o (LiesAhead kept.text kept.pointer least) → (last : List ℕ)
        → Leads (FitsOn run.n) (ArrivesBy true) (transfers.on (r >>= λ position. Ok (answered found failed position)))
        (searching.finding_of s x.element o (record kept { search_text = last }))
    answered_by (Err why) j o l last = tt
    answered_by (Ok position) j None l last = λ fits. missed_answers position j last
    answered_by (Ok position) j (Some span) l last =
        λ fits. span_found span last l fits.buffer
        (ArrivesBy true (record { on = Some (answered found failed position); away = None })) (found_answers position j)

    outcome_leads : (colon : Bool) → (colon ≡ false → x.element.colons ≡ 0) → (o : Option Span)
        → IfSome o (LiesAhead kept.text kept.pointer least) → (last : List ℕ)
        → Leads (FitsOn run.n) (ArrivesBy colon)
        (transfers.search_outcomes colon found (row.facts_failed s x.element.colons taking))
        (searching.finding_of s x.element o (record kept { search_text = last }))
    outcome_leads true c o l last =
        answered_by _ (position_joined run found.position failed
        (falls_alike run taking unread kept whole taking_holds s inside_buffer x.element.colons shift.fall)
        (saved_alike run taking unread kept whole taking_holds s inside_buffer x.element.colons shift.ends)) o l last
    outcome_leads false c None l last = λ fits typed. missed_leaves (c refl) last typed
    outcome_leads false c (Some span) l last =
        λ fits. span_found span last l fits.buffer
        (ArrivesBy false (record {
          on = Some found;
          away = Some (leaving 1 (row.facts_failed s x.element.colons taking));
        })) found_arrives

  -- what is held after what was put in
  grown_leads : (least : ℕ) (r : Result Polynomial RefusalReason)
      → IfOk r (λ held. value held run.n ≡ value facts.held run.n + value
      (row.shift_found s least (length x.element.second) facts.position.distances).growth run.n) → (o : Option Span)
      → IfSome o (LiesAhead kept.text kept.pointer least) → (last : List ℕ)
      → Leads (FitsOn run.n) (SearchArrives run facts.held unread kept arguments x)
      ((r >>= λ held. Ok (facts_behind (row.shift_found s least (length x.element.second) facts.position.distances) held
      taking)) >>= λ found. transfers.search_outcomes x.colon found (row.facts_failed s x.element.colons taking))
      (searching.finding_of s x.element o (record kept { search_text = last }))
  grown_leads least (Err why) e o l last = tt
  grown_leads least (Ok held) e o l last =
      arrives_so x.colon has_colon (outcome_leads least held e x.colon has_colon o l last) where
        arrives_so : (colon : Bool) → (colon ≡ false → x.element.colons ≡ 0)
            → Leads (FitsOn run.n) (ArrivesBy least held e x.colon)
            (transfers.search_outcomes x.colon (found least held e) (row.facts_failed s x.element.colons taking))
            (searching.finding_of s x.element o (record kept { search_text = last }))
            → Leads (FitsOn run.n) (SearchArrives run facts.held unread kept arguments x)
            (transfers.search_outcomes x.colon (found least held e) (row.facts_failed s x.element.colons taking))
            (searching.finding_of s x.element o (record kept { search_text = last }))
        arrives_so colon c h = leads_as _ _ h where
          leads_as : (r : Result Edges RefusalReason) (c : Result Finding Code)
              → Leads (FitsOn run.n) (ArrivesBy least held e x.colon) r c
              → Leads (FitsOn run.n) (SearchArrives run facts.held unread kept arguments x) r c
          leads_as (Err why) c h = tt
          leads_as (Ok edges) (Err c) h = h
          leads_as (Ok edges) (Ok (Found new)) h = h
          leads_as (Ok edges) (Ok (Missed new)) h = h

  searched : (t : Taken) (m : ℕ) → searching.count_of t.first t.value ≡ Ok (pos (suc m))
      → Leads (FitsOn run.n) (SearchArrives run facts.held unread kept arguments x) (row.facts_found s x.element taking
      >>= λ found. transfers.search_outcomes x.colon found (row.facts_failed s x.element.colons taking))
      (searching.search s x.element t kept)
  searched t m e =
      rw e
      (minimum_leads (FitsOn run.n) (SearchArrives run facts.held unread kept arguments x) kept x.element.text
      (λ least. shifted (row.shift_found s least (length x.element.second) facts.position.distances) taking)
      (λ found. transfers.search_outcomes x.colon found (row.facts_failed s x.element.colons taking))
      (λ p. searching.finding_of s x.element
      (searching.match_of p x.element.colons (pos (suc m)) kept.text kept.pointer)
      (record kept { search_text = searching.search_text_of x.element.text kept }))
      (λ least p long. grown_leads least _ (value-sum_of run.n facts.held _) _
      (match_lies p kept.text least long x.element.colons m kept.pointer) _))

  allowed_first : (r : Result (Unit {0}) RefusalReason) (z : Result Edges RefusalReason) (c : Result Finding Code)
      → Leads (FitsOn run.n) (SearchArrives run facts.held unread kept arguments x) z c
      → Leads (FitsOn run.n) (SearchArrives run facts.held unread kept arguments x) (r >>= λ allowed. z) c
  allowed_first (Ok u) z c h = h
  allowed_first (Err why) z c h = tt

  at_search : (r : Result KnownTaken RefusalReason) (c : Result Taken Code)
      → Covers (IsTaken (fore_of kept) (back_of kept)) r c
      → Leads (FitsOn run.n) (SearchArrives run facts.held unread kept arguments x)
      ((r >>= λ known. row.count_checked s known.first known.value facts.position.distances >>= λ u. Ok taking)
      >>= λ taken. transfers.search_allowed x.inside x.colon >>= λ allowed. row.facts_found s x.element taken
      >>= λ found. transfers.search_outcomes x.colon found (row.facts_failed s x.element.colons taken))
      (c >>= λ t. searching.search s x.element t kept)
  at_search (Err why) c h = tt
  at_search (Ok k) (Err c) h = absurd h
  at_search (Ok k) (Ok t) h = by_count _
      (counted run facts unread kept whole d.state s k.first k.value t.first t.value h.first h.value) where
        by_count : (r : Result (Unit {0}) RefusalReason) → IfOk r (λ u. Counts t.first t.value)
            → Leads (FitsOn run.n) (SearchArrives run facts.held unread kept arguments x)
            ((r >>= λ u. Ok taking) >>= λ taken. transfers.search_allowed x.inside x.colon >>= λ allowed.
            row.facts_found s x.element taken >>= λ found. transfers.search_outcomes x.colon found
            (row.facts_failed s x.element.colons taken)) (searching.search s x.element t kept)
        by_count (Err why) n = tt
        by_count (Ok u) (m, e) = allowed_first _ _ _ (searched t m e)

pub searches_are_sound : SearchesAreSound
searches_are_sound run facts unread kept arguments x s whole d e b c =
    let n = without_answer run facts unread kept arguments d in
    by_kind x facts _ (λ r. Leads (FitsOn run.n) (SearchArrives run facts.held unread kept arguments x) r
    (finding s x.element kept arguments)) e
    (at_search run (transfers.without_answer facts) unread kept arguments whole n s b x c _ _
    (taken_covers facts.position.distances (fore_of kept) (back_of kept)
    (distances run facts unread kept whole d.state) facts.arguments.level arguments.level d.pending.level))
