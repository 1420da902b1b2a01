-- A, P and PW.
use Rattle.teco_law_facts.proofs.Prelude.{◌≡◌, ℕ, suc, ◌+◌, ◌-◌, ◌≤◌, arith, refl, sym, subst, ap, ℤ, pos, ◌≤ℤ◌, int_le}
use Rattle.teco_law_facts.proofs.Prelude.{List, [], ◌∷◌, ◌++◌, length, length-append, Bool, true, false, cond, nat_le}
use Rattle.teco_law_facts.proofs.Prelude.{◌==◌, Option, Some, None, option_map, Result, Ok, Err, IfOk, MatchOption}
use Rattle.teco_law_facts.proofs.Prelude.{ok_or, unwrap_or, option_map_or, ints, nat_tests, LIMIT, REGISTERS, FF, Code}
use Rattle.teco_law_facts.proofs.Prelude.{Taken, part_named, Part, Placed, transfer, Page, after, KnownTaken, ◌>>=◌}
use Rattle.teco_law_facts.proofs.Prelude.{count_of, IsWithin, IsValue, Value, Edges, facts_taken, RefusalReason, Input}
use Rattle.teco_law_facts.proofs.Prelude.{Output, behind_form_feed, first_page, unread, unread_of, Kept, World}
use Rattle.teco_law_facts.proofs.Prelude.{Polynomial, value, number, Run, IsWhole, Holds, Describes, IsTaken}
use Rattle.teco_law_facts.proofs.Prelude.{IsOptional, ArePending, fore_of, back_of, Facts, nowhere, none_saved, moving}
use Rattle.teco_law_facts.proofs.Prelude.{ending, facts_behind, Foreseen, facts_answered, silent, Succeeds, Leads}
use Rattle.teco_law_facts.proofs.Prelude.{FitsOn, Arrives, ComesTo, Comes, TurnsPages, Appends, Distances}
use Rattle.teco_base.specs.declared.code.Code.TheVariants as code
use Rattle.teco_model.specs.Arguments as arguments
use Rattle.teco_law_facts.proofs.Steps.{by_kind}
use Rattle.teco_law_facts.proofs.Parts as Parts
use Rattle.teco_law_facts.proofs.Searching.{succeeds_then, of_count}
use Rattle.teco_verifier.specs.facts.Pages as row
use Rattle.teco_verifier.specs.facts.Typings as typings
use Rattle.teco_model.specs.declared.kind.Page.TheVariants as page
use Rattle.teco_model.specs.declared.kind.Kind.TheVariants as kind
use Rattle.teco_model.specs.Character.{character}
use Rattle.teco_law_facts.proofs.Flowing.{taken_are, taking_is}
use Rattle.teco_law_facts.proofs.Near.{distances}
use Rattle.teco_law_facts.proofs.Pending.{settled_are}
use Rattle.teco_law_facts.proofs.Leading.{taken_lead, succeeds_with}
use Rattle.teco_law_facts.proofs.Transfers.{pending_again, without_answer}
use Rattle.teco_verifier.specs.facts.Arguments as known
use Rattle.teco_verifier.specs.declared.refusal.RefusalReason.TheVariants as refusal
use Rattle.teco_verifier.specs.facts.Transfer as transfers
use Rattle.teco_model.specs.Files.{Files}
use Rattle.teco_model.specs.Pages.{before_form_feed, behind_first_page, written_page}
use Rattle.teco_model.specs.Paging as model
use Rattle.teco_law_facts.proofs.Saved.{Widens, none_again, saved_after_are}
use Rattle.teco_law_facts.proofs.Shapes.{ahead_most, value-sum_of, falls_after}
use Rattle.teco_law_facts.specs.SoundPages.{AppendsAreSound, PageTurnsAreSound}
use Rattle.teco_law_facts.specs.SoundPages.{PageWritesAreSound}
use Rattle.teco_law_facts.proofs.Asking.{code_value}
use Rattle.teco_law_facts.proofs.Bodies.{falls_carried}

-- ---- pages of the unread input
page_if : (b : Bool) (c : ℕ) (bytes : List ℕ)
    → length (before_form_feed bytes) + length (behind_form_feed bytes) ≤ length bytes
    → length (cond b [] (c ∷ before_form_feed bytes)) + length (cond b bytes (behind_form_feed bytes)) ≤ length
    (c ∷ bytes)
page_if true c bytes h = omega arith
page_if false c bytes h = omega (arith, h)

pub page_short : (bytes : List ℕ) → length (before_form_feed bytes) + length (behind_form_feed bytes) ≤ length bytes
page_short [] = omega arith
page_short (c ∷ bytes) = page_if (c == FF) c bytes (page_short bytes)

-- what is unread behind a page
pub rest_of : (files : Files) → unread (model.files_behind_page files) ≡ behind_form_feed (unread files)
rest_of files = by_input files.input where
  by_input : (o : Option Input) → option_map_or (λ (input : Input). input.unread)
      (option_map (λ (input : Input). record input { unread = behind_first_page input.unread }) o) [] ≡ behind_form_feed
      (option_map_or (λ (input : Input). input.unread) o [])
  by_input None = refl
  by_input (Some input) = refl

-- ---- what holds where pages went by
module _ (run : Run) (facts : Facts) (u : ℕ) (kept : Kept) (h : Holds run facts u kept) where
  pub paged_holds : (d : Distances) (ends : Bool) (held : Polynomial) (new : Kept) (v : ℕ)
      → length kept.registers.pairs ≡ REGISTERS → Widens ends (fore_of kept) (back_of kept) (fore_of new) (back_of new)
      → new.registers ≡ kept.registers → d.back ≤ new.pointer → d.fore + new.pointer ≤ length new.text
      → fore_of new + v ≤ fore_of kept + u → length new.text + v ≤ length kept.text + u
      → value held run.n ≡ value facts.held run.n + value (number 0) run.n
      → Holds run (facts_behind (record (moving d (Some (pos 0))) { ends = ends }) held facts) v new
  paged_holds d ends held new v count wider r back fore ahead most e =
      let all : length new.text + v ≤ value held run.n = omega (arith, e, most, h.held) in record {
        position = record {
          begin = omega (arith, back);
          end = omega (arith, fore);
          fallen = falls_after (Some (pos 0)) facts.position.falls run.turns (fore_of kept + u) (fore_of new + v)
              (omega (arith, ints, ahead)) h.position.fallen;
          ahead = ahead_most (Some (pos 0)) run.n (fore_of kept + u) (fore_of new + v) held facts.position.ahead
              (omega (arith, ints, ahead)) h.position.ahead (omega (arith, all));
          saved = rw r (saved_after_are ends (fore_of kept) (back_of kept) (fore_of new)
              (back_of new) facts.position.saved kept.registers.pairs count wider h.position.saved);
        };
        held = all;
        registers = rw r h.registers;
        pushed = rw r h.pushed;
      }

-- ---- a page that is turned
abbrev pub turned_world : World → World
turned_world world = model.world_after_writing (written_page (model.page_of_buffer world.kept))
    (record {
      kept = model.kept_with_page (first_page (unread world.files)) world.kept;
      files = model.files_behind_page world.files;
    })

pub turned_to : (world : World) (b : Bool) → nat_le (length (before_form_feed (unread world.files))) LIMIT ≡ b
    → length (before_form_feed (unread world.files)) ≤ LIMIT → (P : World → Type 0) → P (turned_world world)
    → Succeeds P
    (((cond b (Ok (before_form_feed (unread world.files))) (Err code.Ful) >>= λ text.
    Ok (model.kept_with_page (first_page (unread world.files)) world.kept)) >>= λ kept.
    Ok (record { kept = kept; files = model.files_behind_page world.files })) >>= λ turned.
    Ok (model.world_after_writing (written_page (model.page_of_buffer world.kept)) turned))
turned_to world true e short P h = h
turned_to world false e short P h = absurd (grind (arith, nat_tests))

module _ (run : Run) (facts : Facts) (world : World) (h : Holds run facts (unread_of world) world.kept)
    (held : Polynomial) (e : value held run.n ≡ value facts.held run.n + value (number 0) run.n) where
  rest : unread_of (turned_world world) ≡ length (behind_form_feed (unread world.files))
  rest = ap length (rest_of world.files)

  turned_holds : length world.kept.registers.pairs ≡ REGISTERS
      → Holds run (facts_behind (ending (moving nowhere (Some (pos 0)))) held facts) (unread_of (turned_world world))
      (turned_world world).kept
  turned_holds count =
      let p = page_short (unread world.files) in
      let r = rest in
      paged_holds run facts (unread_of world) world.kept h nowhere true held (turned_world world).kept
      (unread_of (turned_world world)) count (λ e. absurd (cc)) refl (omega arith) (omega arith) (omega arith)
      (omega arith) e

  turned_less : length (turned_world world).kept.text + unread_of
      (turned_world world) ≤ length world.kept.text + unread_of world
  turned_less = let p = page_short (unread world.files) in let r = rest in omega arith

  turned_short : value held run.n ≤ LIMIT → length (before_form_feed (unread world.files)) ≤ LIMIT
  turned_short f = let p = page_short (unread world.files) in omega (arith, e, h.held)

-- ---- further pages
module _ (run : Run) (facts : Facts) (world : World) (h : Holds run facts (unread_of world) world.kept)
    (here : facts.position.distances ≡ nowhere) (none : facts.position.saved ≡ none_saved) where
  pub again_rest : unread_of (turned_world world) ≡ length (behind_form_feed (unread world.files))
  again_rest = ap length (rest_of world.files)

  pub again_holds : Holds run facts (unread_of (turned_world world)) (turned_world world).kept
  again_holds =
      let p = page_short (unread world.files) in
      let r = again_rest in record {
        position = record {
          begin = rw here (omega arith);
          end = rw here (omega arith);
          fallen = falls_carried (fore_of (turned_world world).kept + unread_of (turned_world world))
              (fore_of world.kept + unread_of world) facts.position.falls run.turns (omega arith) h.position.fallen;
          ahead = omega (arith, h.position.ahead);
          saved = none_again (fore_of world.kept) (back_of world.kept) (fore_of (turned_world world).kept)
              (back_of (turned_world world).kept) facts.position.saved world.kept.registers.pairs none h.position.saved;
        };
        held = omega (arith, h.held);
        registers = record { numbers = h.registers.numbers; texts = h.registers.texts };
        pushed = h.pushed;
      }

-- ---- the laws
module _ (run : Run) (facts : Facts) (world : World) (pending : arguments.Arguments) (whole : IsWhole world.kept)
    (d : Describes run facts (unread_of world) world.kept pending) where
  abbrev taking : Facts
  taking = facts_taken facts

  taking_holds : Holds run taking (unread_of world) world.kept
  taking_holds = pending_again run facts (unread_of world) world.kept d.state _

  own_is : ArePending (fore_of world.kept) (back_of world.kept) taking.arguments (arguments.levels_after_taking pending)
  own_is = taken_are run facts (unread_of world) world.kept pending whole d

  settled_at : (ends : Bool) (fore back : ℕ) → Widens ends (fore_of world.kept) (back_of world.kept) fore back
      → ArePending fore back (known.settled facts.position.distances ends taking.arguments)
      (arguments.levels_after_taking pending)
  settled_at ends fore back w = settled_are facts.position.distances ends (fore_of world.kept)
      (back_of world.kept) fore back (distances run facts (unread_of world) world.kept whole d.state) w taking.arguments
      (arguments.levels_after_taking pending) own_is

  -- what is known describes a world behind the element
  abbrev Behind : Facts → World → Type 0
  Behind next now = ComesTo run facts.held world next (arguments.levels_after_taking pending) now

  abbrev DoneBehind : Facts → model.Progress → Type 0
  DoneBehind next done = Behind next done.world

  -- a page that is turned, and what is known behind it
  abbrev page_behind : Polynomial → Facts
  page_behind held = facts_answered (silent (facts_behind (ending (moving nowhere (Some (pos 0)))) held taking))

  module _ (held : Polynomial) (e : value held run.n ≡ value facts.held run.n + value (number 0) run.n)
      (fits : value held run.n ≤ LIMIT) where
    page_succeeds : Succeeds (Behind (page_behind held)) (model.page_turned world)
    page_succeeds = turned_to world _ refl (turned_short run taking world taking_holds held e fits)
        (Behind (page_behind held)) (record {
          described = record {
            state = pending_again run _ _ _ (turned_holds run taking world taking_holds held e whole.count) _;
            pending = settled_at true (fore_of (turned_world world).kept) (back_of (turned_world world).kept)
                (λ e. absurd (cc));
            answers = tt;
          };
          grown = let t = turned_less run taking world taking_holds held e in omega (arith, e);
        })

    -- each page that follows
    page_again : (later : World) → Behind (page_behind held) later
        → Succeeds (Behind (page_behind held)) (model.page_turned later)
    page_again later c =
        let h = c.described.state in
        let p = page_short (unread later.files) in
        let r = again_rest run (page_behind held) later h refl refl in
        turned_to later _ refl (omega (arith, p, h.held, fits)) (Behind (page_behind held)) (record {
          described = record {
            state = again_holds run (page_behind held) later h refl refl;
            pending = settled_at true (fore_of (turned_world later).kept) (back_of (turned_world later).kept)
                (λ e. absurd (cc));
            answers = tt;
          };
          grown = omega (arith, c.grown);
        })

  some_known : (b : Bool) (o : Option Value) (v : Option ℤ)
      → int_le (pos 1) (count_of o facts.position.distances).lo ≡ b
      → IsWithin (count_of o facts.position.distances) (unwrap_or v (pos 1))
      → IfOk (cond b (Ok tt) (Err refusal.Argument)) (λ (u : Unit {0}). pos 1 ≤ℤ unwrap_or v (pos 1))
  some_known true o v e w = omega (arith, ints)
  some_known false o v e w = tt

  -- what is true where the facts behind an element fit
  abbrev FitsThen : (Edges → Type 0) → Result Foreseen RefusalReason → Type 0
  FitsThen P known = IfOk (transfers.on (known >>= λ known. Ok (facts_answered known)))
      (λ edges. FitsOn run.n edges → P edges)

  -- what is checked first
  checked_then : (Q : Edges → Type 0) (P : Type 0) (r : Result (Unit {0}) RefusalReason)
      (known : Result Foreseen RefusalReason)
      → IfOk r (λ u. P) → (P → FitsThen Q known) → FitsThen Q (r >>= λ u. known)
  checked_then Q P (Ok u) known h k = k h
  checked_then Q P (Err why) known h k = tt

  -- nothing is changed
  abbrev unchanged : Facts
  unchanged = facts_answered (silent taking)

  stays : (files : Files) → unread files ≡ unread world.files
      → Behind unchanged (record { kept = world.kept; files = files })
  stays files e = let l : length (unread files) ≡ unread_of world = ap length e in record {
    described = subst (λ u. Describes run unchanged u world.kept (arguments.levels_after_taking pending)) (sym l)
        (record {
          state = pending_again run taking (unread_of world) world.kept taking_holds _;
          pending = own_is;
          answers = tt;
        });
    grown = omega arith;
  }

  abbrev IsGiven : Option Value → Option ℤ → Type 0
  IsGiven o v = IsOptional (IsValue (fore_of world.kept) (back_of world.kept)) o v

  -- P and PW
  module _ (output : Output) (out : world.files.output ≡ Some output) where
    -- a part is written
    part_done : (page : World → Result World Code) (v w : ℤ) (r : Result Part Code)
        → part_named (Some v) (Some w) world.kept ≡ r → Parts.Comes r
        → Succeeds (DoneBehind unchanged) (model.pages page (record { first = Some v; value = Some w }) world)
    part_done page v w (Ok part) e c =
        succeeds_with (DoneBehind unchanged) world.files.output output _ _ out (λ q. rw e (stays _ refl))
    part_done page v w (Err why) e c = absurd c

    -- of some pages the first is done
    pages_done : (page : World → Result World Code) (m v : Option ℤ)
        → model.pages_of page m v world ≡ (model.page_count (unwrap_or v (pos 1)) >>= λ n.
        model.one_page_of page n world) → pos 1 ≤ℤ unwrap_or v (pos 1) → (next : Facts)
        → Succeeds (Behind next) (page world)
        → Succeeds (DoneBehind next) (model.pages page (record { first = m; value = v }) world)
    pages_done page m v e l next h =
        succeeds_with (DoneBehind next) world.files.output output _ _ out
        (λ q. rw e (counted (unwrap_or v (pos 1)) l)) where
          counted : (z : ℤ) → pos 1 ≤ℤ z
              → Succeeds (DoneBehind next) (model.page_count z >>= λ n. model.one_page_of page n world)
          counted (pos (suc n)) l = succeeds_with (DoneBehind next) world.files.output output _ _ out
              (λ q. succeeds_then (Behind next) (DoneBehind next) (page world)
              (λ done. record { world = done; left = suc n - 1 })
              (λ w c. c) h)
          counted z l = absurd (grind arith)

    abbrev Turns : Option ℤ → Option ℤ → Edges → Type 0
    Turns m v edges = TurnsPages run facts.held world pending edges m v

    abbrev Writes : Option ℤ → Option ℤ → Edges → Type 0
    Writes m v edges = Succeeds
        (λ (p : model.Progress). Comes run facts.held world (arguments.levels_after_taking pending) edges p.world)
        (model.pages model.page_written (record { first = m; value = v }) world)

    by_part : (Q : Edges → Type 0) (s t : Value) (v w : ℤ) → IsValue (fore_of world.kept) (back_of world.kept) s v
        → IsValue (fore_of world.kept) (back_of world.kept) t w
        → (Parts.Comes (part_named (Some v) (Some w) world.kept) → FitsThen Q (Ok (silent taking)))
        → FitsThen Q (typings.part_named (Some s) (Some t) facts.position.distances >>= λ named. Ok (silent taking))
    by_part Q s t v w i j = checked_then Q _ _ _
        (Parts.both_named run taking (unread_of world) world.kept whole taking_holds s t v w i.is j.is)

    by_count : (Q : Edges → Type 0) (o : Option Value) (v : Option ℤ) → IsGiven o v
        → (known : Result Foreseen RefusalReason) → (pos 1 ≤ℤ unwrap_or v (pos 1) → FitsThen Q known)
        → FitsThen Q (row.some_pages (count_of o facts.position.distances) >>= λ some. known)
    by_count Q o v i known = checked_then Q _ _ known
        (some_known _ o v refl (of_count run taking (unread_of world) world.kept whole taking_holds o v i))

    -- P
    turned_if : (m v : Option ℤ)
        → model.pages_of model.page_turned m v world ≡ (model.page_count (unwrap_or v (pos 1)) >>= λ n.
        model.one_page_of model.page_turned n world) → (sum : Result Polynomial RefusalReason)
        → IfOk sum (λ held. value held run.n ≡ value facts.held run.n + value (number 0) run.n)
        → pos 1 ≤ℤ unwrap_or v (pos 1) → FitsThen (Turns m v)
        ((sum >>= λ held. Ok (facts_behind (ending (moving nowhere (Some (pos 0)))) held taking)) >>= λ known.
        Ok (silent known))
    turned_if m v counted (Err why) e l = tt
    turned_if m v counted (Ok held) e l = λ f. record {
      begins = pages_done model.page_turned m v counted l (page_behind held) (page_succeeds held e f.buffer);
      more = λ later none c. page_again held e f.buffer later c;
    }

    turning_turns : (f o : Option Value) (m v : Option ℤ) → IsGiven f m → IsGiven o v
        → FitsThen (Turns m v) (row.turning f o taking)
    turning_turns (Some s) (Some t) (Some v) (Some w) i j = by_part (Turns (Some v) (Some w)) s t v w i j
        (λ c l. record { begins = part_done model.page_turned v w _ refl c; more = λ later none c. absurd (cc) })
    turning_turns None o None v i j = by_count (Turns None v) o v j _
        (turned_if None v refl _ (value-sum_of run.n facts.held (number 0)))
    turning_turns (Some s) None (Some v) None i j = by_count (Turns (Some v) None) None None tt _
        (turned_if (Some v) None refl _ (value-sum_of run.n facts.held (number 0)))
    turning_turns f o m v i j = absurd (grind arith)

    -- PW
    writing_writes : (f o : Option Value) (m v : Option ℤ) → IsGiven f m → IsGiven o v
        → FitsThen (Writes m v) (row.writing f o taking)
    writing_writes (Some s) (Some t) (Some v) (Some w) i j = by_part (Writes (Some v) (Some w)) s t v w i j
        (λ c l. part_done model.page_written v w _ refl c)
    writing_writes None o None v i j = by_count (Writes None v) o v j _
        (λ l f. pages_done model.page_written None v refl l unchanged (stays _ refl))
    writing_writes (Some s) None (Some v) None i j = by_count (Writes (Some v) None) None None tt _
        (λ l f. pages_done model.page_written (Some v) None refl l unchanged (stays _ refl))
    writing_writes f o m v i j = absurd (grind arith)

  -- A
  abbrev grown_behind : Polynomial → Facts
  grown_behind held = facts_answered
      (silent (facts_behind (moving facts.position.distances (Some (pos 0))) held taking))

  abbrev grown_world : World
  grown_world = record {
    kept = record world.kept {
      text = world.kept.text ++ before_form_feed (unread world.files);
      form_feed = (first_page (unread world.files)).ff;
    };
    files = model.files_behind_page world.files;
  }

  module _ (held : Polynomial) (e : value held run.n ≡ value facts.held run.n + value (number 0) run.n)
      (fits : value held run.n ≤ LIMIT) where
    grown_comes : Behind (grown_behind held) grown_world
    grown_comes =
        let p = page_short (unread world.files) in
        let r : unread_of grown_world ≡ length (behind_form_feed (unread world.files)) =
        ap length (rest_of world.files) in
        let l = length-append world.kept.text (before_form_feed (unread world.files)) in
        let h = d.state in record {
          described = record {
            state = pending_again run _ _ _
                (paged_holds run taking (unread_of world) world.kept taking_holds facts.position.distances false held
                grown_world.kept (unread_of grown_world) whole.count (λ e. omega (arith, l, whole.inside)) refl
                h.position.begin (omega (arith, h.position.end, whole.inside)) (omega (arith, whole.inside))
                (omega arith) e) _;
            pending = settled_at false (fore_of grown_world.kept) (back_of grown_world.kept)
                (λ e. omega (arith, l, whole.inside));
            answers = tt;
          };
          grown = omega (arith, e);
        }

    ended_comes : Behind (grown_behind held) world
    ended_comes = let h = d.state in record {
      described = record {
        state = pending_again run _ _ _
            (paged_holds run taking (unread_of world) world.kept taking_holds facts.position.distances false held
            world.kept (unread_of world) whole.count (λ e. omega arith) refl h.position.begin
            (omega (arith, h.position.end, whole.inside)) (omega arith) (omega arith) e) _;
        pending = settled_at false (fore_of world.kept) (back_of world.kept) (λ e. omega arith);
        answers = tt;
      };
      grown = omega (arith, e);
    }

    fitted : (b : Bool) (text : List ℕ) (kept : Kept) (files : Files) (P : World → Type 0)
        → nat_le (length text) LIMIT ≡ b → length text ≤ LIMIT → P (record { kept = kept; files = files })
        → Succeeds P ((cond b (Ok text) (Err code.Ful) >>= λ t. Ok kept) >>= λ k.
        Ok (record { kept = k; files = files }))
    fitted true text kept files P q short h = h
    fitted false text kept files P q short h = absurd (grind (arith, nat_tests))

    appended_comes : (bytes : List ℕ) → unread world.files ≡ bytes
        → Succeeds (Behind (grown_behind held))
        (model.appended bytes world)
    appended_comes [] q = ended_comes
    appended_comes (c ∷ bytes) q =
        let p = page_short (unread world.files) in
        let l = length-append world.kept.text (before_form_feed (unread world.files)) in
        subst (λ bytes. Succeeds (Behind (grown_behind held))
        ((model.page_added (first_page bytes) world.kept) >>= λ kept.
        Ok (record { kept = kept; files = model.files_behind_page world.files }))) q
        (fitted _ (world.kept.text ++ before_form_feed (unread world.files)) _ _
        (Behind (grown_behind held)) refl
        (omega (arith, d.state.held, e)) grown_comes)

  with_input : (held : Polynomial) (e : value held run.n ≡ value facts.held run.n + value (number 0) run.n)
      (fits : value held run.n ≤ LIMIT) (input : Input) (o : Option Input) → world.files.input ≡ o → o ≡ Some input
      → Succeeds (Behind (grown_behind held))
      (ok_or o code.Nfi >>= λ i. model.appended i.unread world)
  with_input held e fits input None q o = absurd (cc)
  with_input held e fits input (Some i) q o =
      appended_comes held e fits i.unread (ap (λ o. option_map_or (λ (input : Input). input.unread) o []) q)

  abbrev AppendsBy : Option ℤ → Edges → Type 0
  AppendsBy v edges = MatchOption v ((input : Input) → world.files.input ≡ Some input
      → Succeeds (Comes run facts.held world (arguments.levels_after_taking pending) edges) (model.append world))
      (λ n. MatchOption edges.on ⊥ (λ next. Arrives run facts.held (unread_of world) world.kept next
      (after world.kept (arguments.levels_after_answer (Some (character n world.kept))
      (arguments.levels_after_taking pending)))))

  page_added : (sum : Result Polynomial RefusalReason)
      → IfOk sum (λ held. value held run.n ≡ value facts.held run.n + value (number 0) run.n)
      → FitsThen (AppendsBy None)
      ((sum >>= λ held. Ok (facts_behind (moving facts.position.distances (Some (pos 0))) held taking)) >>= λ known.
      Ok (silent known))
  page_added (Err why) e = tt
  page_added (Ok held) e = λ l input q. with_input held e l.buffer input world.files.input refl q

  appends : (o : Option Value) (v : Option ℤ) → IsGiven o v → FitsThen (AppendsBy v) (row.append o taking)
  appends None None i = page_added _ (value-sum_of run.n facts.held (number 0))
  appends (Some s) (Some n) i = λ l. record {
    described = record {
      state = pending_again run taking (unread_of world) world.kept taking_holds _;
      pending =
          record {
            level = record {
              first = tt;
              value = code_value (fore_of world.kept) (back_of world.kept) world.kept.text whole.bytes _;
              operator = refl;
            };
            outer = own_is.outer;
          };
      answers = tt;
    };
    grown = omega arith;
  }
  appends None (Some v) i = absurd i
  appends (Some s) None i = absurd i

-- ---- the laws
module _ (run : Run) (facts : Facts) (world : World) (pending : arguments.Arguments) (x : Placed)
    (whole : IsWhole world.kept) (d : Describes run facts (unread_of world) world.kept pending) where
  abbrev plain : Facts
  plain = transfers.without_answer facts

  is_plain : Describes run plain (unread_of world) world.kept pending
  is_plain = without_answer run facts (unread_of world) world.kept pending d

  page_leads : (p : Page) (Q : Edges → Taken → Type 0) → ((k : KnownTaken) (t : Taken)
      → IsTaken (fore_of world.kept) (back_of world.kept) k t
      → FitsThen run plain world pending whole is_plain (λ edges. Q edges t) (row.pages p k (facts_taken plain)))
      → x.element.kind ≡ kind.Page p → Leads (FitsOn run.n) Q (transfer x facts) (arguments.arguments_of pending.level)
  page_leads p Q h e =
      by_kind x facts _ (λ r. Leads (FitsOn run.n) Q r (arguments.arguments_of pending.level)) e
      (taken_lead (FitsOn run.n) Q (IsTaken (fore_of world.kept) (back_of world.kept)) _ _ _ _
      (taking_is run plain (unread_of world) world.kept pending whole is_plain) h)

  appends_lead : x.element.kind ≡ kind.Page page.Append
      → Leads (FitsOn run.n) (Appends run facts.held world pending) (transfer x facts)
      (arguments.arguments_of pending.level)
  appends_lead = page_leads page.Append (Appends run facts.held world pending)
      (λ k t i. appends run plain world pending whole is_plain k.value t.value i.value)

  module _ (output : Output) (out : world.files.output ≡ Some output) where
    abbrev TurnsAll : Edges → Taken → Type 0
    TurnsAll edges taken = Turns run plain world pending whole is_plain output out taken.first taken.value edges

    abbrev WritesAll : Edges → Taken → Type 0
    WritesAll edges taken = Writes run plain world pending whole is_plain output out taken.first taken.value edges

    turns_lead : x.element.kind ≡ kind.Page page.Next
        → Leads (FitsOn run.n) TurnsAll (transfer x facts) (arguments.arguments_of pending.level)
    turns_lead = page_leads page.Next TurnsAll (λ k t i.
        turning_turns run plain world pending whole is_plain output out k.first k.value t.first t.value i.first i.value)

    writes_lead : x.element.kind ≡ kind.Page page.Write
        → Leads (FitsOn run.n) WritesAll (transfer x facts) (arguments.arguments_of pending.level)
    writes_lead = page_leads page.Write WritesAll (λ k t i.
        writing_writes run plain world pending whole is_plain output out k.first k.value t.first t.value i.first
        i.value)

pub appends_are_sound : AppendsAreSound
appends_are_sound run facts world pending x = appends_lead run facts world pending x

pub page_turns_are_sound : PageTurnsAreSound
page_turns_are_sound run facts world pending x output whole d e out =
    turns_lead run facts world pending x whole d output out e

pub page_writes_are_sound : PageWritesAreSound
page_writes_are_sound run facts world pending x output whole d e out =
    writes_lead run facts world pending x whole d output out e
