-- What covers facts that describe a state describes it.
use Rattle.teco_law_facts.proofs.Prelude.{◌≡◌, ℕ, ◌≤◌, arith, ◌∙◌, refl, ℤ, pos, ◌≤ℤ◌, int_le, nat_le, List, [], ◌∷◌}
use Rattle.teco_law_facts.proofs.Prelude.{Bool, true, false, ◌&&◌, Option, Some, None, cond, length, ◌+◌, IsTrue, ints}
use Rattle.teco_law_facts.proofs.Prelude.{nat_tests, Arguments, Pair, Level, Operator, Plus, Minus, Times, Over, And}
use Rattle.teco_law_facts.proofs.Prelude.{Or, values_compare, Polynomial, value, KnownLevel, KnownArguments}
use Rattle.teco_law_facts.proofs.Prelude.{covers_interval, covers_saved, covers_length, Run, IsAt, AreSaved, Answers}
use Rattle.teco_law_facts.proofs.Prelude.{ArePushed, IsLevel, ArePending, IsOptional, AreEach, HasFallen, fore_of}
use Rattle.teco_law_facts.proofs.Prelude.{back_of, Position, Answer, Pushed, IsIn, IsValue, IsWithin, interval_of}
use Rattle.teco_law_facts.proofs.Prelude.{Distances, Interval, Value}
use Rattle.teco_law_facts.proofs.Numbers.{AreDistances, interval_of_in}
use Rattle.teco_law_facts.proofs.Near.{distances}
use Rattle.teco_law_facts.proofs.Saved.{IsSaved, place_covered}
use Rattle.teco_verifier.specs.facts.Covers.{each_covers, both_cover, is_interval, is_same}
use Rattle.teco_verifier.specs.facts.Covers.{covers_value, is_same_operator, covers_level, covers_arguments}
use Rattle.teco_verifier.specs.facts.Covers.{covers_fall, covers_position, covers_answer}
use Rattle.teco_verifier.specs.facts.Covers.{covers_pushed, covers, are_equal}
use Rattle.teco_law_facts.specs.Laws.{CoversAreSound}

-- ---- tests
pub and_both : (x y : Bool) → IsTrue (x && y) → IsTrue x × IsTrue y
and_both true true h = (refl, refl)
and_both x y h = absurd (grind arith)

pub le_holds : (v w : ℤ) → IsTrue (int_le v w) → v ≤ℤ w
le_holds v w h = holds_at _ refl h where
  holds_at : (b : Bool) → int_le v w ≡ b → IsTrue b → v ≤ℤ w
  holds_at true e h = omega (arith, ints)
  holds_at false e h = absurd (cc)

pub nat_le_holds : (m n : ℕ) → IsTrue (nat_le m n) → m ≤ n
nat_le_holds m n h = holds_at _ refl h where
  holds_at : (b : Bool) → nat_le m n ≡ b → IsTrue b → m ≤ n
  holds_at true e h = grind (arith, nat_tests)
  holds_at false e h = absurd (cc)

equal_holds : (v w : ℤ) → IsTrue (are_equal v w) → v ≡ w
equal_holds v w h = let p = and_both _ _ h in omega (arith, ints, le_holds v w p.0, le_holds w v p.1)

-- of each of two lists: what is covered of one is true of the other
pub each_covered : {X Y : Type 0} (covers : X → X → Bool) (P Q : X → Y → Type 0)
    → ((x e : X) (y : Y) → IsTrue (covers x e) → P e y → Q x y) → (xs es : List X) (ys : List Y)
    → IsTrue (each_covers covers xs es) → AreEach P es ys → AreEach Q xs ys
each_covered covers P Q k [] [] [] c h = tt
each_covered covers P Q k (x ∷ xs) (e ∷ es) (y ∷ ys) c h = let p = and_both _ _ c in
    (k x e y p.0 h.0, each_covered covers P Q k xs es ys p.1 h.1)
each_covered covers P Q k xs es ys c h = absurd (grind arith)

-- ---- values
pub interval_covered : (i j : Interval) (v : ℤ) → IsTrue (covers_interval i j) → IsWithin j v → IsWithin i v
interval_covered i j v c h = let p = and_both _ _ c in
    record {
      low = omega (arith, ints, le_holds i.lo j.lo p.0, h);
      high = omega (arith, ints, le_holds j.hi i.hi p.1, h);
    }

module _ (d : Distances) (fore back : ℕ) (b : AreDistances d fore back) where
  value_by : (x : Bool) (s t : Value) (v : ℤ) → is_interval s ≡ x
      → IsTrue (cond x (covers_interval (record { lo = s.lo; hi = s.hi }) (interval_of d t)) (is_same s t))
      → IsIn t fore back v → IsIn s fore back v
  value_by true s t v e c i =
      let p = and_both _ _ e in
      let a : s.ahead ≡ pos 0 = equal_holds s.ahead (pos 0) p.0 in
      let z : s.behind ≡ pos 0 = equal_holds s.behind (pos 0) p.1 in
      let w = interval_covered (record { lo = s.lo; hi = s.hi }) (interval_of d t) v c
      (interval_of_in t d fore back v b.least (omega (arith, b.within)) (omega (arith, b.within)) i) in
      record { low = rw (a, z) (omega (arith, ints, w)); high = rw (a, z) (omega (arith, ints, w)) }
  value_by false s t v e c i =
      let p = and_both _ _ c in
      let q = and_both _ _ p.0 in
      let r = and_both _ _ q.0 in
      let ahead : s.ahead ≡ t.ahead = equal_holds s.ahead t.ahead r.0 in
      let behind : s.behind ≡ t.behind = equal_holds s.behind t.behind r.1 in
      let lo : s.lo ≡ t.lo = equal_holds s.lo t.lo q.1 in
      let hi : s.hi ≡ t.hi = equal_holds s.hi t.hi p.1 in
      record { low = rw (ahead, behind, lo) i.low; high = rw (ahead, behind, hi) i.high }

  value_covered : (s t : Value) (v : ℤ) → IsTrue (covers_value d s t) → IsValue fore back t v → IsValue fore back s v
  value_covered s t v c i = let p = and_both _ _ c in
      record {
        is = value_by _ s t v refl p.1 i.is;
        fits = i.fits;
        saved = place_covered s.saved t.saved fore back v p.0 i.saved;
      }

  optional_covered : (s t : Option Value) (v : Option ℤ) → IsTrue (both_cover (covers_value d) s t)
      → IsOptional (IsValue fore back) t v → IsOptional (IsValue fore back) s v
  optional_covered None None None c i = tt
  optional_covered (Some s) (Some t) (Some v) c i = value_covered s t v c i
  optional_covered s t v c i = absurd (grind arith)

  operator_covered : (o p : Operator) → IsTrue (is_same_operator o p) → o ≡ p
  operator_covered Plus Plus c = refl
  operator_covered Minus Minus c = refl
  operator_covered Times Times c = refl
  operator_covered Over Over c = refl
  operator_covered And And c = refl
  operator_covered Or Or c = refl
  operator_covered o p c = absurd (cc)

  operators_covered : (o p : Option Operator) → IsTrue (both_cover is_same_operator o p) → p ≡ o
  operators_covered None None c = refl
  operators_covered (Some o) (Some p) c = let e = operator_covered o p c in cc
  operators_covered o p c = absurd (grind arith)

  level_covered : (known edge : KnownLevel) (level : Level) → IsTrue (covers_level d known edge)
      → IsLevel fore back edge level → IsLevel fore back known level
  level_covered known edge level c i =
      let p = and_both _ _ c in
      let q = and_both _ _ p.0 in
      record {
        first = optional_covered known.first edge.first level.first q.0 i.first;
        value = optional_covered known.value edge.value level.value q.1 i.value;
        operator =
            i.operator ∙ operators_covered known.operator edge.operator p.1;
      }

  pending_covered : (known edge : KnownArguments) (arguments : Arguments) → IsTrue (covers_arguments d known edge)
      → ArePending fore back edge arguments → ArePending fore back known arguments
  pending_covered known edge arguments c i =
      let p = and_both _ _ c in
      record {
        level = level_covered known.level edge.level arguments.level p.0 i.level;
        outer = each_covered (covers_level d) (IsLevel fore back) (IsLevel fore back) level_covered known.outer
            edge.outer arguments.outer p.1 i.outer;
      }

-- ---- positions
fall_covered : (ahead : ℕ) (fall edge : Option ℤ) (begun : ℕ) → IsTrue (covers_fall fall edge)
    → HasFallen ahead edge begun → HasFallen ahead fall begun
fall_covered ahead None edge begun c h = tt
fall_covered ahead (Some v) (Some w) begun c h = omega (arith, ints, le_holds v w c)
fall_covered ahead (Some v) None begun c h = absurd (cc)

pub saved_covered : (fore back : ℕ) (saved edge : List Bool) (pairs : List Pair)
    → IsTrue (each_covers covers_saved saved edge) → AreSaved fore back edge pairs → AreSaved fore back saved pairs
saved_covered fore back saved edge pairs c h =
    each_covered covers_saved (IsSaved fore back) (IsSaved fore back)
    (λ s e pair. place_covered s e fore back pair.number) saved edge pairs c h

pub position_covered : (run : Run) (position edge : Position) (fore back unread : ℕ) (pairs : List Pair)
    → IsTrue (covers_position position edge) → IsAt run edge fore back unread pairs
    → IsAt run position fore back unread pairs
position_covered run position edge fore back unread pairs c h =
    let o = and_both _ _ c in
    let p = and_both _ _ o.0 in
    let q = and_both _ _ p.0 in
    let r = and_both _ _ q.0 in
    record {
      begin = omega (arith, nat_le_holds position.distances.back edge.distances.back r.0, h.begin);
      end = omega (arith, nat_le_holds position.distances.fore edge.distances.fore r.1, h.end);
      fallen = each_covered covers_fall (HasFallen (fore + unread)) (HasFallen (fore + unread))
          (fall_covered (fore + unread)) position.falls edge.falls run.turns q.1 h.fallen;
      ahead = omega (arith, values_compare edge.ahead position.ahead run.n p.1, h.ahead);
      saved = saved_covered fore back position.saved edge.saved pairs o.1 h.saved;
    }

answers_covered : (run : Run) (answer edge : Option Answer) (fore back unread : ℕ) (pairs : List Pair) (level : Level)
    → IsTrue (covers_answer answer edge) → Answers run edge fore back unread pairs level
    → Answers run answer fore back unread pairs level
answers_covered run None edge fore back unread pairs level c h = tt
answers_covered run (Some answer) (Some edge) fore back unread pairs level c (v, e, i) =
    let p = and_both _ _ c in (
      v,
      e,
      record {
        either = i.either;
        found = λ q. position_covered run answer.found edge.found fore back unread pairs p.0 (i.found q);
        failed =
            λ q. position_covered run answer.failed edge.failed fore back unread pairs p.1 (i.failed q);
      },
    )
answers_covered run (Some answer) None fore back unread pairs level c h = absurd (cc)

-- ---- registers
pub length_covered : (n : ℕ) (most edge : Polynomial) (pair : Pair) → IsTrue (covers_length most edge)
    → length pair.text ≤ value edge n → length pair.text ≤ value most n
length_covered n most edge pair c h = omega (arith, values_compare edge most n c, h)

pub pushed_covered : (n : ℕ) (below : List Pair) (known edge : List Pushed) (stack : List Pair)
    → IsTrue (each_covers covers_pushed known edge) → ArePushed n below edge stack → ArePushed n below known stack
pushed_covered n below [] [] stack c h = h
pushed_covered n below (s ∷ known) (t ∷ edge) (pair ∷ stack) c h =
    let p = and_both _ _ c in
    let q = and_both _ _ p.0 in (
      record {
        number = interval_covered s.number t.number pair.number q.0 h.0.number;
        text = omega (arith, values_compare t.text s.text n q.1, h.0.text);
      },
      pushed_covered n below known edge stack p.1 h.1,
    )
pushed_covered n below known edge stack c h = absurd (grind arith)

pub covers_are_sound : CoversAreSound
covers_are_sound run facts edge unread kept arguments whole c d =
    let p = and_both _ _ c in
    let q = and_both _ _ p.0 in
    let r = and_both _ _ q.0 in
    let s = and_both _ _ r.0 in
    let t = and_both _ _ s.0 in
    let u = and_both _ _ t.0 in
    let v = and_both _ _ u.0 in
    let h = d.state in
    record {
      state = record {
        position = position_covered run facts.position edge.position (fore_of kept)
            (back_of kept) unread kept.registers.pairs u.1 h.position;
        held = omega (arith, values_compare edge.held facts.held run.n s.1, h.held);
        registers = record {
          numbers = each_covered covers_interval (λ i (pair : Pair). IsWithin i pair.number)
              (λ i (pair : Pair). IsWithin i pair.number) (λ i j pair. interval_covered i j pair.number) facts.numbers
              edge.numbers kept.registers.pairs r.1 h.registers.numbers;
          texts = each_covered covers_length (λ most (pair : Pair). length pair.text ≤ value most run.n)
              (λ most (pair : Pair). length pair.text ≤ value most run.n) (length_covered run.n) facts.texts edge.texts
              kept.registers.pairs q.1 h.registers.texts;
        };
        pushed = pushed_covered run.n run.below facts.pushes edge.pushes kept.registers.stack p.1 h.pushed;
      };
      pending = pending_covered edge.position.distances (fore_of kept) (back_of kept)
          (distances run edge unread kept whole h) facts.arguments edge.arguments arguments v.0 d.pending;
      answers = answers_covered run facts.answer edge.answer (fore_of kept) (back_of kept) unread kept.registers.pairs
          arguments.level v.1 d.answers;
    }
