-- N and FN: page after page goes by, and what is known is true where they find, and where no page is left.
use Rattle.teco_law_facts.proofs.Prelude.{◌∙◌, ◌≡◌, ℕ, suc, ◌+◌, ◌-◌, ◌≤◌, arith, refl, sym, subst, ℤ, pos, negsuc}
use Rattle.teco_law_facts.proofs.Prelude.{List, [], ◌∷◌, length, ◌++◌, length-append, length-take, length-drop, map}
use Rattle.teco_law_facts.proofs.Prelude.{Bool, true, false, cond, nat_le, ◌==◌, Option, Some, None, Result, Ok, Err}
use Rattle.teco_law_facts.proofs.Prelude.{IfOk, not, unwrap_or, ints, length-map, nat_tests, LIMIT, REGISTERS, FF, Code}
use Rattle.teco_law_facts.proofs.Prelude.{text_after_replacement, is_zero, Element, Output, behind_form_feed, unread}
use Rattle.teco_law_facts.proofs.Prelude.{Met, unread_of, Turned, minimum, answer_where, Kept, World, Taken, Search}
use Rattle.teco_law_facts.proofs.Prelude.{Find, Replace, FindInPages, ReplaceInPages, Sought, Last, Wanted, Span}
use Rattle.teco_law_facts.proofs.Prelude.{Polynomial, value, number, ok_any, ◌>>=◌, AreSaved, Run}
use Rattle.teco_law_facts.proofs.Prelude.{run_behind, IsWhole, Holds, IsAt, Describes, IsTaken, ArePending, fore_of}
use Rattle.teco_law_facts.proofs.Prelude.{back_of, none_saved, at_position, Position, Facts, Edges, leaving}
use Rattle.teco_law_facts.proofs.Prelude.{facts_taken, steps_of_search, saved_after, Shift, shifted, facts_behind}
use Rattle.teco_law_facts.proofs.Prelude.{fall_after, Succeeds, Leads, FitsOn, ComesTo, Comes, IsInPages, facts_seeking}
use Rattle.teco_law_facts.proofs.Prelude.{IsSeeking, MissComes, LooksOn, Seeks, Placed, RefusalReason, Distances}
use Rattle.teco_base.specs.declared.code.Code.TheVariants as code
use Rattle.teco_model.specs.Arguments as model
use Rattle.teco_model.specs.Files.{with_written}
use Rattle.teco_model.specs.Paging as paging
use Rattle.teco_model.specs.Paging.{MetHere}
use Rattle.teco_model.specs.Search as searching
use Rattle.teco_law_facts.proofs.Saved.{none_are, none_again, saved_count, length_after}
use Rattle.teco_law_facts.proofs.Flowing.{leaves_described, taken_are, taking_is}
use Rattle.teco_law_facts.proofs.Leading.{succeeds_with, taken_lead}
use Rattle.teco_law_facts.proofs.Matching.{pattern_with, LiesAhead, LastLies, sought_lies}
use Rattle.teco_law_facts.proofs.Meeting.{IsJoin, position_joined}
use Rattle.teco_law_facts.proofs.Near.{distances}
use Rattle.teco_law_facts.proofs.Outcomes.{answered, found_described, missed_described}
use Rattle.teco_law_facts.proofs.Paging.{page_short, turned_world, turned_to, again_rest, again_holds}
use Rattle.teco_law_facts.proofs.Pending.{settled_are}
use Rattle.teco_law_facts.proofs.Searching.{Counts, counted, succeeds_then}
use Rattle.teco_law_facts.proofs.Shapes.{Shifts, value-sum_of, value-number, falls_after, more_unread, ahead_most}
use Rattle.teco_law_facts.proofs.Steps.{by_kind}
use Rattle.teco_law_facts.proofs.Transfers.{without_answer}
use Rattle.teco_verifier.specs.facts.Arguments as known
use Rattle.teco_verifier.specs.facts.Searches as row
use Rattle.teco_law_facts.specs.SoundSeeking.{PageSearchesAreSound, SearchStepsAreBounded}
use Rattle.teco_verifier.specs.facts.Transfer as transfers

-- ---- how many are sought
pages_of_count : (v : ℤ) (m : ℕ) → searching.nonzero v ≡ Ok (pos (suc m)) → paging.page_count v ≡ Ok (suc m)
pages_of_count (pos (suc n)) m e = cc
pages_of_count v m e = absurd (grind arith)

match_counted : (first value : Option ℤ) (m : ℕ) → searching.count_of first value ≡ Ok (pos (suc m))
    → paging.match_count first value ≡ Ok (suc m)
match_counted None value m e = pages_of_count (unwrap_or value (pos 1)) m e
match_counted (Some f) value m e = absurd (cc)

-- ---- a search text of a known minimum length is not empty, and becomes the last
record IsMinimum (text : List ℕ) (least : ℕ) : Type 0 where
  is : minimum text ≡ Ok (Some least)
  own : (kept : Kept) → searching.search_text_of text kept ≡ text

minimum_known : (c : ℕ) (text : List ℕ) (o : Result (Option ℕ) Code) → minimum (c ∷ text) ≡ o
    → IfOk (row.known_minimum o) (IsMinimum (c ∷ text))
minimum_known c text (Err why) m = tt
minimum_known c text (Ok None) m = tt
minimum_known c text (Ok (Some least)) m = record { is = m; own = λ kept. refl }

minimum_is : (text : List ℕ) → IfOk (row.minimum_of text) (IsMinimum text)
minimum_is [] = tt
minimum_is (c ∷ text) = minimum_known c text _ refl

-- ---- a page that is turned has a byte at least
shorter_if : (b : Bool) (bytes : List ℕ) → length (cond b bytes (behind_form_feed bytes)) ≤ length bytes
shorter_if true bytes = omega arith
shorter_if false bytes = omega (arith, page_short bytes)

page_shorter : (c : ℕ) (bytes : List ℕ) → length (behind_form_feed (c ∷ bytes)) + 1 ≤ length (c ∷ bytes)
page_shorter c bytes = omega (arith, shorter_if (c == FF) bytes)

-- ---- what a match leaves
module _ (n : ℕ) (kept : Kept) (e : Element) (least : ℕ) (distances : Distances) (span : Span)
    (l : LiesAhead kept.text kept.pointer least span) where
  replaced_length : length (text_after_replacement kept.text span.start span.end e.second) ≡ span.start +
      (length e.second + (length kept.text - span.end))
  replaced_length = omega (
    arith,
    length-append {A = ℕ},
    length-take span.start kept.text,
    length-drop span.end kept.text,
    l.long,
    l.within,
  )

  replaced : Shifts n (row.shift_found ReplaceInPages least (length e.second) distances) kept
      (record kept {
        text = text_after_replacement kept.text span.start span.end e.second;
        pointer = span.start + length e.second;
        last_length = length e.second;
      })
  replaced = let r = replaced_length in record {
    registers = refl;
    behind = omega arith;
    ahead = omega (arith, r);
    grown = omega (arith, r, l.long, l.within, value-number (length e.second) n);
    fallen = omega (arith, ints, r, l.ahead, l.long, l.within);
    wider = λ e. absurd (cc);
  }

  replaced_if : (b : Bool) → nat_le (length (text_after_replacement kept.text span.start span.end e.second)) LIMIT ≡ b
      → length kept.text + length e.second ≤ LIMIT
      → Succeeds (Shifts n (row.shift_found ReplaceInPages least (length e.second) distances) kept)
      (cond b (Ok (record kept {
        text = text_after_replacement kept.text span.start span.end e.second;
        pointer = span.start + length e.second;
        last_length = length e.second;
      })) (Err code.Ful))
  replaced_if true p short = replaced
  replaced_if false p short = let r = replaced_length in
      let s : length (text_after_replacement kept.text span.start span.end e.second) ≤ LIMIT =
      omega (arith, l.long, l.within) in absurd (grind (arith, nat_tests, s))

  found_in : (s : Search) → IsInPages s
      → length kept.text + value (row.shift_found s least (length e.second) distances).growth n ≤ LIMIT
      → Succeeds (Shifts n (row.shift_found s least (length e.second) distances) kept)
      (searching.kept_after s e span kept)
  found_in FindInPages b short = record {
    registers = refl;
    behind = omega (arith, l.long);
    ahead = omega (arith, l.within);
    grown = omega arith;
    fallen = omega (arith, ints, l.ahead, l.long, l.within);
    wider = λ e. absurd (cc);
  }
  found_in ReplaceInPages b short = replaced_if _ refl (omega (arith, short, value-number (length e.second) n))
  found_in Find b short = absurd b
  found_in Replace b short = absurd b

-- ---- steps
met_then : (Q : paging.Looked → Type 0) (P : Kept → Type 0) (now : World) (r : Result Kept Code)
    → ((new : Kept) → P new → Q (Met (record now { kept = new }))) → Succeeds P r
    → Succeeds Q ((r >>= λ met. Ok (MetHere met)) >>= λ here. paging.looked_on here now)
met_then Q P now (Ok new) k h = k new h
met_then Q P now (Err c) k h = h

pub written_out : (bytes : List ℕ) (o : Option Output) (output : Output) → o ≡ Some output
    → (q : Output) × (with_written bytes o ≡ Some q)
written_out bytes None output e = absurd (cc)
written_out bytes (Some q) output e = (record q { written = q.written ++ bytes }, refl)

-- ---- the law, where no answer is pending
module _ (run : Run) (facts : Facts) (world : World) (pending : model.Arguments) (whole : IsWhole world.kept)
    (d : Describes run facts (unread_of world) world.kept pending) (x : Placed) where
  abbrev seeking : Facts
  seeking = facts_seeking facts

  abbrev Seeking : World → Type 0
  Seeking now = IsSeeking run seeking world pending x.element.text now

  -- what is pending at any place
  anywhere : (fore back : ℕ) → ArePending fore back seeking.arguments (model.levels_after_taking pending)
  anywhere fore back = settled_are facts.position.distances true (fore_of world.kept) (back_of world.kept) fore back
      (distances run facts (unread_of world) world.kept whole d.state) (λ e. absurd (cc)) (facts_taken facts).arguments
      (model.levels_after_taking pending) (taken_are run facts (unread_of world) world.kept pending whole d)

  seeks_first : (output : Output) → world.files.output ≡ Some output
      → ((kept : Kept) → searching.search_text_of x.element.text kept ≡ x.element.text)
      → Seeking (paging.world_seeking x.element.text world)
  seeks_first output out own = let h = d.state in record {
    comes = record {
      described = record {
        state = record {
          position = record {
            begin = omega arith;
            end = omega arith;
            fallen = h.position.fallen;
            ahead = h.position.ahead;
            saved =
                none_are (fore_of world.kept) (back_of world.kept) world.kept.registers.pairs whole.count;
          };
          held = h.held;
          registers = record { numbers = h.registers.numbers; texts = h.registers.texts };
          pushed = h.pushed;
        };
        pending = anywhere (fore_of world.kept) (back_of world.kept);
        answers = tt;
      };
      grown = omega arith;
    };
    sought = own world.kept;
    output = (output, out);
  }

  -- a page later
  seeks_again : (now : World) → Seeking now → Seeking (turned_world now)
  seeks_again now k =
      let h = k.comes.described.state in
      let p = page_short (unread now.files) in
      let r = again_rest run seeking now h refl refl in record {
        comes = record {
          described = record {
            state = again_holds run seeking now h refl refl;
            pending = anywhere (fore_of (turned_world now).kept) (back_of (turned_world now).kept);
            answers = tt;
          };
          grown = omega (arith, k.comes.grown);
        };
        sought = k.sought;
        output = written_out _ now.files.output k.output.0 k.output.1;
      }

  seeks_less : (now : World) → Seeking now → (c : ℕ) (bytes : List ℕ) → unread now.files ≡ c ∷ bytes
      → unread_of (turned_world now) + 1 ≤ unread_of now
  seeks_less now k c bytes e = search (again_rest, page_shorter, arith)

  module _ (s : Search) (in_pages : IsInPages s) where
    -- ---- where no page is left, the buffer is empty
    abbrev failed : Position
    failed = row.position_failed FindInPages 0 (facts_taken facts)

    abbrev facts_failed : Facts
    facts_failed = at_position failed (facts_taken facts)

    failed_is : row.position_failed s x.element.colons (facts_taken facts) ≡ failed
    failed_is = by s in_pages where
      by : (s : Search) → IsInPages s → row.position_failed s x.element.colons (facts_taken facts) ≡ failed
      by FindInPages b = refl
      by ReplaceInPages b = refl
      by s b = absurd (grind arith)

    failed_at_end : (now : World) → Seeking now → unread now.files ≡ []
        → IsAt run failed 0 0 (unread_of now) now.kept.registers.pairs
    failed_at_end now k e = let h = k.comes.described.state in record {
      begin = omega arith;
      end = omega arith;
      fallen = falls_after None facts.position.falls run.turns (fore_of now.kept + unread_of now)
          (0 + unread_of now) tt h.position.fallen;
      ahead = omega (arith, h.held);
      saved = none_again (fore_of now.kept) (back_of now.kept) 0 0 none_saved now.kept.registers.pairs refl
          h.position.saved;
    }

    falls_alike : (v : Option ℤ) → length (map (fall_after v) facts.position.falls) ≡ length failed.falls
    falls_alike v =
        omega (arith, length-map facts.position.falls (fall_after v), length-map facts.position.falls (fall_after None))

    -- nothing is saved in either outcome
    saved_alike : (ends : Bool) → length (saved_after ends facts.position.saved) ≡ length failed.saved
    saved_alike ends =
        let all : length facts.position.saved ≡ REGISTERS =
        saved_count (fore_of world.kept) (back_of world.kept) facts.position.saved world.kept.registers.pairs
        d.state.position.saved ∙ whole.count in
        length_after ends facts.position.saved all ∙ sym (length_after true facts.position.saved all)

    ends_found : (least new : ℕ) (distances : Distances) → (row.shift_found s least new distances).ends ≡ true
    ends_found least new distances = by_search s in_pages where
      by_search : (s : Search) → IsInPages s → (row.shift_found s least new distances).ends ≡ true
      by_search FindInPages b = refl
      by_search ReplaceInPages b = refl
      by_search s b = absurd (grind arith)

    module _ (least : ℕ) (minimal : IsMinimum x.element.text least) (held : Polynomial)
        (more : value held run.n ≡ value facts.held run.n + value
        (row.shift_found s least (length x.element.second) facts.position.distances).growth run.n) where
      abbrev shift : Shift
      shift = row.shift_found s least (length x.element.second) facts.position.distances

      abbrev found : Facts
      found = facts_behind shift held (facts_taken facts)

      ends : shift.ends ≡ true
      ends = ends_found least (length x.element.second) facts.position.distances

      found_are : (fore back : ℕ) → ArePending fore back found.arguments (model.levels_after_taking pending)
      found_are fore back =
          subst (λ ends. ArePending fore back
          (known.settled facts.position.distances ends (facts_taken facts).arguments)
          (model.levels_after_taking pending)) (sym ends) (anywhere fore back)

      found_holds : (now : World) → Seeking now → (new : Kept) → Shifts run.n shift now.kept new
          → Holds run found (unread_of now) new
      found_holds now k new sh =
          let h = k.comes.described.state in
          let all : length new.text + unread_of now ≤ value held run.n = omega (arith, more, sh.grown, h.held) in
          let fell = more_unread shift.fall (fore_of now.kept) (fore_of new) (unread_of now) sh.fallen in record {
            position = record {
              begin = omega (arith, sh.behind);
              end = omega (arith, sh.ahead);
              fallen = falls_after shift.fall facts.position.falls run.turns (fore_of now.kept + unread_of now)
                  (fore_of new + unread_of now) fell h.position.fallen;
              ahead = ahead_most shift.fall run.n (fore_of now.kept + unread_of now) (fore_of new + unread_of now) held
                  facts.position.ahead fell h.position.ahead (omega (arith, all));
              saved = rw sh.registers
                  (subst (λ ends. AreSaved (fore_of new) (back_of new) (saved_after ends facts.position.saved)
                  now.kept.registers.pairs) (sym ends)
                  (none_again (fore_of now.kept) (back_of now.kept) (fore_of new)
                  (back_of new) none_saved now.kept.registers.pairs refl h.position.saved));
            };
            held = all;
            registers = rw sh.registers (record { numbers = h.registers.numbers; texts = h.registers.texts });
            pushed = rw sh.registers h.pushed;
          }

      -- what is known where it found
      found_comes : (now : World) → Seeking now → (new : Kept) → Shifts run.n shift now.kept new
          → ComesTo run facts.held world found (model.levels_after_taking pending) (record now { kept = new })
      found_comes now k new sh = record {
        described = record {
          state = found_holds now k new sh;
          pending = found_are (fore_of new) (back_of new);
          answers = tt;
        };
        grown = omega (arith, more, sh.grown, k.comes.grown);
      }

      found_answers : (position : Position) → IsJoin run found.position failed position → (now : World) → Seeking now
          → (new : Kept) → Shifts run.n shift now.kept new
          → ComesTo run facts.held world (answered found failed position)
          (model.levels_after_answer (Some (negsuc 0)) (model.levels_after_taking pending)) (record now { kept = new })
      found_answers position j now k new sh = record {
        described = found_described run (unread_of now) new found failed position j pending
            (found_are (fore_of new) (back_of new)) (found_holds now k new sh);
        grown = omega (arith, more, sh.grown, k.comes.grown);
      }

      -- and where it missed
      missed_answers : (position : Position) → IsJoin run found.position failed position → (now : World) → Seeking now
          → unread now.files ≡ [] → ComesTo run facts.held world (answered found failed position)
          (model.levels_after_answer (Some (pos 0)) (model.levels_after_taking pending)) (paging.looked_through now)
      missed_answers position j now k e = let h = k.comes.described.state in record {
        described = missed_described run (unread_of now) (paging.looked_through now).kept found failed position j
            pending (found_are 0 0) (record {
              position = failed_at_end now k e;
              held = omega (arith, more, h.held);
              registers = record { numbers = h.registers.numbers; texts = h.registers.texts };
              pushed = h.pushed;
            });
        grown = omega (arith, more, k.comes.grown);
      }

      missed_leaves : (now : World) → Seeking now → unread now.files ≡ [] → (typed : List ℕ)
          → ComesTo (run_behind 1 run) facts.held world (leaving 1 facts_failed) model.no_arguments
          (let last = paging.looked_through now in record last { kept = record last.kept { typed = typed } })
      missed_leaves now k e typed = let h = k.comes.described.state in record {
        described = leaves_described run 1 facts_failed (unread_of now)
            (record (paging.looked_through now).kept { typed = typed }) (record {
              position = failed_at_end now k e;
              held = omega (arith, h.held);
              registers = record { numbers = h.registers.numbers; texts = h.registers.texts };
              pushed = h.pushed;
            });
        grown = omega (arith, k.comes.grown);
      }

      -- ---- a step, by what is true along the edges
      record Along (edges : Edges) : Type 0 where
        met : (now : World) → Seeking now → (new : Kept) → Shifts run.n shift now.kept new
            → Comes run facts.held world (model.levels_after_answer (answer_where x.colon (negsuc 0))
            (model.levels_after_taking pending)) edges (record now { kept = new })
        missed : (now : World) → Seeking now → unread now.files ≡ []
            → MissComes x.colon run facts.held world pending edges (paging.looked_through now)

      module _ (fits : value held run.n ≤ LIMIT) (edges : Edges) (along : Along edges) (now : World)
          (k : Seeking now) where
        page_on : (n : ℕ) (bytes : List ℕ) → unread now.files ≡ bytes
            → Succeeds (LooksOn run seeking world pending x edges now) (paging.page_looked_for bytes n now)
        page_on n [] e = along.missed now k e
        page_on n (c ∷ bytes) e =
            let h = k.comes.described.state in
            let p = page_short (unread now.files) in
            succeeds_then (λ new. Seeking new × (unread_of new + 1 ≤ unread_of now))
            (LooksOn run seeking world pending x edges now) (paging.page_turned now) (Turned n) (λ new i. i)
            (turned_to now _ refl (omega (arith, h.held, fits, more))
            (λ new. Seeking new × (unread_of new + 1 ≤ unread_of now)) (
              seeks_again now k,
              seeks_less now k c bytes e,
            ))

        here_on : (r : Sought) → LastLies now.kept.text least now.kept.pointer r
            → Succeeds (LooksOn run seeking world pending x edges now)
            (paging.here_of s x.element now.kept r >>= λ here. paging.looked_on here now)
        here_on (Last span) l = met_then (LooksOn run seeking world pending x edges now)
            (Shifts run.n shift now.kept) now _ (along.met now k)
            (found_in run.n now.kept x.element least facts.position.distances span l s in_pages
            (omega (arith, k.comes.described.state.held, fits, more)))
        here_on (Wanted n) l = succeeds_with (LooksOn run seeking world pending x edges now) now.files.output k.output.0
            _ _ k.output.1 (λ q. page_on n _ refl)

        looks_on : (n : ℕ) → Succeeds (LooksOn run seeking world pending x edges now)
            (paging.look_for s x.element n now)
        looks_on n =
            let has = pattern_with now.kept.registers (not (is_zero now.kept.mode)) now.kept.search_text least
            (subst (λ text. minimum text ≡ Ok (Some least)) (sym k.sought) minimal.is) in
            rw has.is (here_on _ (sought_lies has.it now.kept.text least (has.long now.kept.text) n now.kept.pointer))

      seeks : value held run.n ≤ LIMIT → (edges : Edges) → Along edges → (output : Output)
          → world.files.output ≡ Some output → (t : Taken) → Counts t.first t.value
          → Seeks run seeking world pending x s edges t
      seeks fits edges along output out t (m, e) = record {
        begins = rw (match_counted t.first t.value m e)
            (looks_on fits edges along (paging.world_seeking x.element.text world) (seeks_first output out minimal.own)
            (suc m));
        more = λ now n k. looks_on fits edges along now k n;
      }

      -- the edges, by whether the search counts as having a colon
      abbrev SeeksWith : Output → Taken → Edges → Type 0
      SeeksWith output t edges = FitsOn run.n edges → Seeks run seeking world pending x s edges t

      module _ (output : Output) (out : world.files.output ≡ Some output) (t : Taken) (c : Counts t.first t.value) where
        answers_seek : x.colon ≡ true → (r : Result Position RefusalReason) → IfOk r (IsJoin run found.position failed)
            → IfOk (transfers.on (r >>= λ position. Ok (answered found failed position))) (SeeksWith output t)
        answers_seek b (Err why) j = tt
        answers_seek b (Ok position) j =
            λ l. seeks l.buffer _ (record {
              met = rw b (found_answers position j);
              missed = rw b (missed_answers position j);
            }) output out t c

        leaves_seek : x.colon ≡ false →
            IfOk (transfers.search_outcomes false found facts_failed) (SeeksWith output t)
        leaves_seek b = λ l. seeks l.buffer _ (record { met = rw b found_comes; missed = rw b missed_leaves }) output
            out t c

        outcomes_seek : (colon : Bool) → x.colon ≡ colon
            → IfOk (transfers.search_outcomes colon found facts_failed) (SeeksWith output t)
        outcomes_seek true b = answers_seek b _ (position_joined run found.position failed (falls_alike shift.fall)
            (saved_alike shift.ends))
        outcomes_seek false b = leaves_seek b

    -- ---- through what is checked first
    module _ (output : Output) (out : world.files.output ≡ Some output) (t : Taken) where
      abbrev Seek : Edges → Type 0
      Seek edges = FitsOn run.n edges → Seeks run seeking world pending x s edges t

      abbrev SeekThen : Result Facts RefusalReason → Type 0
      SeekThen r = IfOk (r >>= λ found. transfers.search_outcomes x.colon found
          (row.facts_failed s x.element.colons (facts_taken facts))) Seek

      held_seek : Counts t.first t.value → (least : ℕ) → IsMinimum x.element.text least
          → (r : Result Polynomial RefusalReason) → let shift =
          row.shift_found s least (length x.element.second) facts.position.distances in
          IfOk r (λ held. value held run.n ≡ value facts.held run.n + value shift.growth run.n)
          → SeekThen (r >>= λ held. Ok (facts_behind shift held (facts_taken facts)))
      held_seek c least m (Err why) e = tt
      held_seek c least m (Ok held) e = rw failed_is (outcomes_seek least m held e output out t c x.colon refl)

      found_seek : Counts t.first t.value → (r : Result ℕ RefusalReason) → IfOk r (IsMinimum x.element.text)
          → SeekThen (r >>= λ least. shifted
          (row.shift_found s least (length x.element.second) facts.position.distances) (facts_taken facts))
      found_seek c (Err why) m = tt
      found_seek c (Ok least) m = held_seek c least m _ (value-sum_of run.n facts.held _)

      counted_seek : (r : Result (Unit {0}) RefusalReason) → IfOk r (λ u. Counts t.first t.value)
          → IfOk ((r >>= λ u. Ok (facts_taken facts)) >>= λ taken. transfers.search_allowed x.inside x.colon
          >>= λ allowed. row.facts_found s x.element taken >>= λ found. transfers.search_outcomes x.colon found
          (row.facts_failed s x.element.colons taken)) Seek
      counted_seek (Err why) c = tt
      counted_seek (Ok u) c = ok_any Seek (transfers.search_allowed x.inside x.colon) _
          (λ u. found_seek c _ (minimum_is x.element.text))

pub page_searches_are_sound : PageSearchesAreSound
page_searches_are_sound run facts world pending x s output whole d e b out =
    let plain = transfers.without_answer facts in
    let n = without_answer run facts (unread_of world) world.kept pending d in
    by_kind x facts _ (λ r. Leads (FitsOn run.n) (Seeks run (facts_seeking facts) world pending x s) r
    (model.arguments_of pending.level)) e
    (taken_lead (FitsOn run.n) (Seeks run (facts_seeking facts) world pending x s)
    (IsTaken (fore_of world.kept) (back_of world.kept)) _ _ _ _
    (taking_is run plain (unread_of world) world.kept pending whole n) (λ k t i.
    counted_seek run plain world pending whole n x s b output out t _
    (counted run plain (unread_of world) world.kept whole n.state s k.first k.value t.first t.value i.first i.value)))

-- ---- steps
one_more : (run : Run) (facts : Facts) (u : ℕ) (kept : Kept) → Holds run facts u kept
    → IfOk (steps_of_search FindInPages facts) (λ most. u + 1 ≤ value most run.n)
one_more run facts u kept h = by_sum _ (value-sum_of run.n facts.position.ahead (number 1)) where
  by_sum : (r : Result Polynomial RefusalReason)
      → IfOk r (λ most. value most run.n ≡ value facts.position.ahead run.n + value (number 1) run.n)
      → IfOk r (λ most. u + 1 ≤ value most run.n)
  by_sum (Err why) e = tt
  by_sum (Ok most) e = omega (arith, e, h.position.ahead, value-number 1 run.n)

pub search_steps_are_bounded : SearchStepsAreBounded
search_steps_are_bounded run facts unread kept pending FindInPages d = one_more run facts unread kept d.state
search_steps_are_bounded run facts unread kept pending ReplaceInPages d = one_more run facts unread kept d.state
search_steps_are_bounded run facts unread kept pending Find d = omega (arith, value-number 1 run.n)
search_steps_are_bounded run facts unread kept pending Replace d = omega (arith, value-number 1 run.n)
