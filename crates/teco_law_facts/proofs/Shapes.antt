-- The shapes of what commands do, and that the facts that they leave are true.
use Rattle.teco_law_facts.proofs.Prelude.{◌≡◌, ℕ, ◌+◌, ◌≤◌, arith, refl, pos, ◌+ℤ◌, ◌≤ℤ◌, [], ◌∷◌, length, Option, Some}
use Rattle.teco_law_facts.proofs.Prelude.{None, Result, Ok, Err, IfSome, IfOk, ok_or, ℤ, negsuc, List, map, ints, LIMIT}
use Rattle.teco_law_facts.proofs.Prelude.{Code, Arguments, Effect, Kept, value_of_sum, values_of_constants, Polynomial}
use Rattle.teco_law_facts.proofs.Prelude.{value, number, add, ◌>>=◌, Run, IsWhole, Holds, IsAt, IsOptional, HasFallen}
use Rattle.teco_law_facts.proofs.Prelude.{ArePending, fore_of, back_of, AreEach, Facts, sum_of, Shift, Foreseen}
use Rattle.teco_law_facts.proofs.Prelude.{shifted, facts_behind, fall_after, Succeeds, Leads, Fits, IsValue}
use Rattle.teco_law_facts.proofs.Prelude.{Value, RefusalReason}
use Rattle.teco_law_facts.proofs.Near.{distances}
use Rattle.teco_law_facts.proofs.Pending.{settled_are}
use Rattle.teco_law_facts.proofs.Saved.{Widens, saved_after_are}
use Rattle.teco_verifier.specs.facts.Shifts.{ahead_after}
use Rattle.teco_verifier.specs.declared.refusal.RefusalReason.TheVariants as refusal

-- ---- polynomials
pub value-number : (k n : ℕ) → value (number k) n ≡ k
value-number k n = (values_of_constants n k).0

value-sum_of_at : (p q : Polynomial) (n : ℕ) (o : Option Polynomial) → add p q ≡ o
    → IfOk (ok_or o refusal.Overflow) (λ r. value r n ≡ value p n + value q n)
value-sum_of_at p q n None e = tt
value-sum_of_at p q n (Some r) e = value_of_sum p q r n e

pub value-sum_of : (n : ℕ) (p q : Polynomial) → IfOk (sum_of p q) (λ r. value r n ≡ value p n + value q n)
value-sum_of n p q = value-sum_of_at p q n _ refl

-- ---- falls
fallen_after : (v fall : Option ℤ) (before after begun : ℕ) → IfSome v (λ w. (pos after +ℤ w) ≤ℤ pos before)
    → HasFallen before fall begun → HasFallen after (fall_after v fall) begun
fallen_after (Some v) (Some fall) before after begun h i = omega (arith, ints)
fallen_after None fall before after begun h i = tt
fallen_after (Some v) None before after begun h i = tt

pub falls_after : (v : Option ℤ) (falls : List (Option ℤ)) (turns : List ℕ) (before after : ℕ)
    → IfSome v (λ w. (pos after +ℤ w) ≤ℤ pos before) → AreEach (HasFallen before) falls turns
    → AreEach (HasFallen after) (map (fall_after v) falls) turns
falls_after v [] [] before after h i = tt
falls_after v (fall ∷ falls) (begun ∷ turns) before after h i =
    (fallen_after v fall before after begun h i.0, falls_after v falls turns before after h i.1)
falls_after v [] (begun ∷ turns) before after h i = absurd i
falls_after v (fall ∷ falls) [] before after h i = absurd i

pub more_unread : (v : Option ℤ) (before after unread : ℕ) → IfSome v (λ w. (pos after +ℤ w) ≤ℤ pos before)
    → IfSome v (λ w. (pos (after + unread) +ℤ w) ≤ℤ pos (before + unread))
more_unread None before after unread h = tt
more_unread (Some v) before after unread h = omega (arith, ints)

-- ahead is at most what was ahead, or what is held
pub ahead_most : (v : Option ℤ) (n before after : ℕ) (held ahead : Polynomial)
    → IfSome v (λ w. (pos after +ℤ w) ≤ℤ pos before) → before ≤ value ahead n → after ≤ value held n
    → after ≤ value (ahead_after v held ahead) n
ahead_most (Some (pos v)) n before after held ahead h i j = omega (arith, ints)
ahead_most (Some (negsuc v)) n before after held ahead h i j = j
ahead_most None n before after held ahead h i j = j

-- the state is one that the shift speaks of
pub record Shifts (n : ℕ) (shift : Shift) (old new : Kept) : Type 0 where
  pub registers : new.registers ≡ old.registers
  pub behind : shift.distances.back ≤ new.pointer
  pub ahead : shift.distances.fore + new.pointer ≤ length new.text
  pub grown : length new.text ≤ length old.text + value shift.growth n
  pub fallen : IfSome shift.fall (λ v. (pos (fore_of new) +ℤ v) ≤ℤ pos (fore_of old))
  pub wider : Widens shift.ends (fore_of old) (back_of old) (fore_of new) (back_of new)

-- a command that comes to its end does what is known of it
pub record IsDone (run : Run) (facts : Facts) (unread : ℕ) (kept : Kept) (known : Foreseen) (effect : Effect) :
    Type 0 where
  pub state : Holds run known.facts unread effect.kept
  pub pending : (arguments : Arguments) → ArePending (fore_of kept) (back_of kept) facts.arguments arguments
      → ArePending (fore_of effect.kept) (back_of effect.kept) known.facts.arguments arguments
  pub answer : IsOptional (IsValue (fore_of effect.kept) (back_of effect.kept)) known.answer effect.answer
  pub grown : length effect.kept.text + value facts.held run.n ≤ length kept.text + value known.facts.held run.n

-- a command that comes to an end that the shift and the answer speak of
abbrev pub Moves : ℕ → Shift → Kept → Option Value → Result Effect Code → Type 0
Moves n shift kept answer = Succeeds (λ (effect : Effect). Shifts n shift kept effect.kept
    × IsOptional (IsValue (fore_of effect.kept) (back_of effect.kept)) answer effect.answer)

-- what is known of a command leads to what it does
abbrev pub Foretells : Run → Facts → ℕ → Kept → Result Foreseen RefusalReason → Result Effect Code → Type 0
Foretells run facts unread kept = Leads (λ (known : Foreseen). Fits run.n known.facts) (IsDone run facts unread kept)

module _ (run : Run) (facts : Facts) (unread : ℕ) (kept : Kept) (w : IsWhole kept)
    (h : Holds run facts unread kept) where
  -- the position behind a shift
  pub shifted_at : (shift : Shift) (new : Kept) (held : Polynomial) → Shifts run.n shift kept new
      → length new.text + unread ≤ value held run.n
      → IsAt run (facts_behind shift held facts).position (fore_of new) (back_of new) unread new.registers.pairs
  shifted_at shift new held s held_now =
      let unread_too = more_unread shift.fall (fore_of kept) (fore_of new) unread s.fallen in
      record {
        begin = omega (arith, s.behind);
        end = omega (arith, s.ahead);
        fallen = falls_after shift.fall facts.position.falls run.turns (fore_of kept + unread)
            (fore_of new + unread) unread_too h.position.fallen;
        ahead = ahead_most shift.fall run.n (fore_of kept + unread) (fore_of new + unread) held facts.position.ahead
            unread_too h.position.ahead (omega (arith, held_now));
        saved = rw s.registers (saved_after_are shift.ends (fore_of kept) (back_of kept) (fore_of new)
            (back_of new) facts.position.saved kept.registers.pairs w.count s.wider h.position.saved);
      }

  -- what holds behind it
  pub shifted_holds : (shift : Shift) (new : Kept) (held : Polynomial) → Shifts run.n shift kept new
      → value held run.n ≡ value facts.held run.n + value shift.growth run.n
      → Holds run (facts_behind shift held facts) unread new
  shifted_holds shift new held s e =
      let held_now : length new.text + unread ≤ value held run.n = omega (arith, e, s.grown, h.held) in
      record {
        position = shifted_at shift new held s held_now;
        held = held_now;
        registers = rw s.registers h.registers;
        pushed = rw s.registers h.pushed;
      }

  done_after : (shift : Shift) (effect : Effect) (answer : Option Value) (held : Polynomial)
      → Shifts run.n shift kept effect.kept
      → IsOptional (IsValue (fore_of effect.kept) (back_of effect.kept)) answer effect.answer
      → value held run.n ≡ value facts.held run.n + value shift.growth run.n
      → IsDone run facts unread kept (record { facts = facts_behind shift held facts; answer = answer }) effect
  done_after shift effect answer held s i e = record {
    state = shifted_holds shift effect.kept held s e;
    pending = λ arguments p. settled_are facts.position.distances shift.ends (fore_of kept) (back_of kept)
        (fore_of effect.kept) (back_of effect.kept) (distances run facts unread kept w h) s.wider facts.arguments
        arguments p;
    answer = i;
    grown = omega (arith, s.grown, e);
  }

  -- A command that moves or edits: its state is one of the shift's.
  lead_on : (shift : Shift) (answer : Option Value) (changed : Result Polynomial RefusalReason)
      (effect : Result Effect Code)
      → IfOk changed (λ held. value held run.n ≡ value facts.held run.n + value shift.growth run.n)
      → (value facts.held run.n + value shift.growth run.n ≤ LIMIT → Moves run.n shift kept answer effect)
      → Foretells run facts unread kept ((changed >>= λ held. Ok (facts_behind shift held facts)) >>= λ known.
      Ok (record { facts = known; answer = answer })) effect
  lead_on shift answer (Err e) effect h s = tt
  lead_on shift answer (Ok held) (Ok effect) h s = λ l. let t = s (omega (arith, h, l)) in
      done_after shift effect answer held t.0 t.1 h
  lead_on shift answer (Ok held) (Err c) h s = λ l. s (omega (arith, h, l))

  pub shift_leads : (shift : Shift) (answer : Option Value) (effect : Result Effect Code)
      → (value facts.held run.n + value shift.growth run.n ≤ LIMIT → Moves run.n shift kept answer effect)
      → Foretells run facts unread kept (shifted shift facts >>= λ known.
      Ok (record { facts = known; answer = answer })) effect
  shift_leads shift answer effect s =
      lead_on shift answer (sum_of facts.held shift.growth) effect (value-sum_of run.n facts.held shift.growth) s

  -- a command that leaves position and size as they are
  pub done_with : (known : Facts) (effect : Effect) (answer : Option Value) → Holds run known unread effect.kept
      → known.arguments ≡ facts.arguments → effect.kept.text ≡ kept.text → effect.kept.pointer ≡ kept.pointer
      → known.held ≡ facts.held → IsOptional (IsValue (fore_of effect.kept) (back_of effect.kept)) answer effect.answer
      → IsDone run facts unread kept (record { facts = known; answer = answer }) effect
  done_with known effect answer state a t p l i = record {
    state = state;
    pending = λ arguments q. rw (a, t, p) q;
    answer = i;
    grown = rw (t, l) (omega arith);
  }
