-- The entry, the start of a body, and its turns.
use Rattle.teco_law_facts.proofs.Prelude.{◌≡◌, ℕ, zero, suc, ◌+◌, ◌-◌, ◌≤◌, arith, refl, sym, subst, ℤ, pos, List, []}
use Rattle.teco_law_facts.proofs.Prelude.{◌∷◌, drop, map, length, Bool, true, false, cond, Option, Some, None, ok_or}
use Rattle.teco_law_facts.proofs.Prelude.{get_or, replicate, int_le, IsTrue, AllByRecursion, ints, REGISTERS, Pair}
use Rattle.teco_law_facts.proofs.Prelude.{empty_pair, Kept, values_compare, value_of_sum, values_of_constants}
use Rattle.teco_law_facts.proofs.Prelude.{Polynomial, value, add, all_at, empty_whole, ◌>>=◌, covers_interval}
use Rattle.teco_law_facts.proofs.Prelude.{covers_length, IsWhole, IsWholePair, AreEach, HasFallen, Holds, fore_of}
use Rattle.teco_law_facts.proofs.Prelude.{back_of, Position, Facts, sum_of, entering, IsWithin, any_number, Interval}
use Rattle.teco_law_facts.proofs.Prelude.{option_map_or}
use Rattle.std.proofs.Common.{◌*◌}
use Rattle.std.proofs.Math.Nat.{mul-le-mul}
use Rattle.teco_poly.proofs.Lawful.{value_of_difference, value_of_product, value_of_one_less}
use Rattle.teco_poly.specs.Polynomial.{variable, sub, mul, one_less}
use Rattle.teco_law_facts.proofs.Asking.{interval_value}
use Rattle.teco_law_facts.proofs.Numbers.{any_within}
use Rattle.teco_law_facts.proofs.Covering.{and_both, each_covered, interval_covered, length_covered, pushed_covered}
use Rattle.teco_law_facts.proofs.Covering.{saved_covered, le_holds}
use Rattle.teco_law_facts.proofs.Each.{each_length}
use Rattle.teco_law_facts.proofs.Saved.{none_are, saved_after_are, unsaved_are}
use Rattle.teco_model.specs.Macros.{ArgumentRange, IsInRange}
use Rattle.teco_verifier.specs.facts.Bodies.{Choice, unknown_where, keeps, held_last, is_within, fall_if, has_own_fall}
use Rattle.teco_verifier.specs.facts.Bodies.{own_fall}
use Rattle.teco_verifier.specs.facts.Facts.{entry_facts}
use Rattle.teco_law_facts.specs.Laws.{BodyStartsAreSound, IsCarried, ReturnsAreSound, TurnsFall, HasRoom, RoomIsSound}
use Rattle.teco_law_facts.specs.Laws.{EntryIsSound}
use Rattle.teco_law_runs.specs.Ready.{IsEntry}
use Rattle.teco_verifier.specs.declared.refusal.RefusalReason.TheVariants as refusal

-- ---- numbers that are written are unknown
unknown_one : (b : Bool) (i : Interval) (pair : Pair) → IsWholePair pair → IsWithin i pair.number
    → IsWithin (cond b any_number i) pair.number
unknown_one true i pair w h = any_within pair.number w.number
unknown_one false i pair w h = h

unknown_are : (written : List Bool) (numbers : List Interval) (pairs : List Pair) → AllByRecursion IsWholePair pairs
    → AreEach (λ i (pair : Pair). IsWithin i pair.number) numbers pairs
    → AreEach (λ i (pair : Pair). IsWithin i pair.number) (unknown_where written numbers) pairs
unknown_are [] numbers pairs w h = h
unknown_are (b ∷ written) [] pairs w h = h
unknown_are (b ∷ written) (i ∷ numbers) (pair ∷ pairs) w h =
    (unknown_one b i pair w.0 h.0, unknown_are written numbers pairs w.1 h.1)
unknown_are (b ∷ written) (i ∷ numbers) [] w h = absurd h

-- ---- falls at the start
falls_if : (b : Bool) (ahead : ℕ) (falls : List (Option ℤ)) (turns : List ℕ) → length falls ≡ length turns
    → (b ≡ true → AreEach (HasFallen ahead) falls turns) → AreEach (HasFallen ahead) (map (fall_if b) falls) turns
falls_if b ahead [] [] l h = tt
falls_if true ahead (fall ∷ falls) (begun ∷ turns) l h = let i = h refl in
    (i.0, falls_if true ahead falls turns (omega arith) (λ e. i.1))
falls_if false ahead (fall ∷ falls) (begun ∷ turns) l h =
    (tt, falls_if false ahead falls turns (omega arith) (λ e. absurd (cc)))
falls_if b ahead [] (begun ∷ turns) l h = absurd (omega arith)
falls_if b ahead (fall ∷ falls) [] l h = absurd (omega arith)

ahead_if : (b : Bool) (n ahead : ℕ) (p held : Polynomial) → (b ≡ true → ahead ≤ value p n) → ahead ≤ value held n
    → ahead ≤ value (cond b p held) n
ahead_if true n ahead p held h i = h refl
ahead_if false n ahead p held h i = i

pub body_starts_are_sound : BodyStartsAreSound
body_starts_are_sound run facts unread kept arguments choice changes counted whole b d =
    let p = and_both _ _ b in
    let h = d.state in
    let held = values_compare facts.held choice.held run.n p.0 in record {
      state = record {
        position = record {
          begin = omega arith;
          end = omega arith;
          fallen = (
            omega (arith, ints),
            falls_if choice.kept (fore_of kept + unread) facts.position.falls run.turns
                (each_length (HasFallen (fore_of kept + unread)) facts.position.falls run.turns h.position.fallen.1)
                (λ e. h.position.fallen.1),
          );
          ahead = ahead_if choice.kept run.n _ facts.position.ahead choice.held (λ e. h.position.ahead)
              (omega (arith, held, h.held));
          saved = saved_after_are changes.ends (fore_of kept) (back_of kept) (fore_of kept)
              (back_of kept) _ kept.registers.pairs whole.count (λ e. omega arith)
              (unsaved_are (fore_of kept) (back_of kept) changes.written facts.position.saved kept.registers.pairs
              h.position.saved);
        };
        held = omega (arith, held, h.held);
        registers = record {
          numbers = unknown_are changes.written facts.numbers kept.registers.pairs whole.pairs h.registers.numbers;
          texts = each_covered covers_length (λ most (pair : Pair). length pair.text ≤ value most run.n)
              (λ most (pair : Pair). length pair.text ≤ value most run.n) (length_covered run.n) choice.texts
              facts.texts kept.registers.pairs p.1 h.registers.texts;
        };
        pushed = h.pushed;
      };
      pending = d.pending;
      answers = d.answers;
    }

-- ---- own falls
falls_by : (n : ℕ) (o : Option ℤ) (ahead begun : ℕ) → IsTrue (option_map_or (λ fall. int_le (pos n) fall) o false)
    → HasFallen ahead o begun → ahead + n ≤ begun
falls_by n None ahead begun t h = absurd (cc)
falls_by n (Some v) ahead begun t h = omega (arith, ints, le_holds (pos n) v t)

own_falls : (n : ℕ) (position : Position) (ahead begun : ℕ) (outer : List ℕ) → IsTrue (has_own_fall n position)
    → AreEach (HasFallen ahead) position.falls (begun ∷ outer) → ahead + n ≤ begun
own_falls n position ahead begun outer t h = own_of position.falls t h where
  own_of : (falls : List (Option ℤ)) → IsTrue (option_map_or (λ fall. int_le (pos n) fall) (own_fall falls) false)
      → AreEach (HasFallen ahead) falls (begun ∷ outer) → ahead + n ≤ begun
  own_of [] t h = absurd h
  own_of (own ∷ falls) t h = falls_by n own ahead begun t h.0

kept_falls : (b : Bool) (position : Position) (ahead begun : ℕ) (outer : List ℕ) → IsTrue (keeps b position)
    → AreEach (HasFallen ahead) position.falls (begun ∷ outer) → b ≡ true → ahead ≤ begun
kept_falls true position ahead begun outer t h e = omega (arith, own_falls 0 position ahead begun outer t h)
kept_falls false position ahead begun outer t h e = absurd (cc)

pub turns_fall : TurnsFall
turns_fall run end unread kept arguments choice changes turns entering begun outer c d e =
    let p = and_both _ _ c in
    let q = and_both _ _ p.0 in
    let r = and_both _ _ q.0 in
    own_falls 1 end.position (fore_of kept + unread) begun outer r.0
    (subst (λ turns. AreEach (HasFallen (fore_of kept + unread)) end.position.falls turns) e
    d.state.position.fallen)

-- a fall since the begin of a turn is one since then, too
pub falls_carried : (ahead begun : ℕ) (falls : List (Option ℤ)) (outer : List ℕ) → ahead ≤ begun
    → AreEach (HasFallen begun) falls outer → AreEach (HasFallen ahead) falls outer
falls_carried ahead begun [] [] l h = tt
falls_carried ahead begun (None ∷ falls) (start ∷ outer) l h = (tt, falls_carried ahead begun falls outer l h.1)
falls_carried ahead begun (Some v ∷ falls) (start ∷ outer) l h =
    (omega (arith, ints, h.0), falls_carried ahead begun falls outer l h.1)
falls_carried ahead begun [] (start ∷ outer) l h = absurd h
falls_carried ahead begun (fall ∷ falls) [] l h = absurd h

pub returns_are_sound : ReturnsAreSound
returns_are_sound run facts end unread kept arguments choice changes counted turns begun outer whole c d e l room
    carried =
    let p = and_both _ _ c in
    let q = and_both _ _ p.0 in
    let r = and_both _ _ q.0 in
    let o = and_both _ _ p.1 in
    let s = and_both _ _ o.0 in
    let t = and_both _ _ s.0 in
    let h = d.state in
    let fallen = subst (λ turns. AreEach (HasFallen (fore_of kept + unread)) end.position.falls turns) e
    h.position.fallen in
    let less : choice.kept ≡ true → fore_of kept + unread ≤ begun =
    kept_falls choice.kept end.position (fore_of kept + unread) begun outer r.1 fallen in
    let again : choice.kept ≡ true → IsCarried run facts (fore_of kept + unread) outer = λ k. let i = carried k in
    record {
      ahead = omega (arith, less k, i.ahead);
      falls = falls_carried _ begun facts.position.falls outer (less k) i.falls;
    } in
    record {
      described = record {
        state = record {
          position = record {
            begin = omega arith;
            end = omega arith;
            fallen = subst (λ turns. AreEach (HasFallen (fore_of kept + unread))
                (Some (pos 0) ∷ map (fall_if choice.kept) facts.position.falls)
                ((fore_of kept + unread) ∷ drop 1 turns)) (sym e) (
                  omega (arith, ints),
                  falls_if choice.kept (fore_of kept + unread) facts.position.falls outer l (λ k. (again k).falls),
                );
            ahead = ahead_if choice.kept run.n _ facts.position.ahead choice.held (λ k. (again k).ahead)
                (omega (arith, room));
            saved = saved_covered (fore_of kept) (back_of kept) _ end.position.saved kept.registers.pairs o.1
                h.position.saved;
          };
          held = room;
          registers = record {
            numbers = each_covered covers_interval (λ i (pair : Pair). IsWithin i pair.number)
                (λ i (pair : Pair). IsWithin i pair.number) (λ i j pair. interval_covered i j pair.number)
                (unknown_where changes.written facts.numbers) end.numbers kept.registers.pairs t.0 h.registers.numbers;
            texts = each_covered covers_length (λ most (pair : Pair). length pair.text ≤ value most run.n)
                (λ most (pair : Pair). length pair.text ≤ value most run.n) (length_covered run.n) choice.texts
                end.texts kept.registers.pairs t.1 h.registers.texts;
          };
          pushed = pushed_covered run.n run.below facts.pushes end.pushes kept.registers.stack s.1 h.pushed;
        };
        pending = record { level = record { first = tt; value = tt; operator = refl }; outer = tt };
        answers = tt;
      };
      carried = again;
    }

-- ---- room
module _ (n : ℕ) (choice : Choice) (turns : Polynomial) (entering end : Facts) where
  summed : (growth product : Polynomial) (o : Option Polynomial) → add entering.held product ≡ o
      → IsTrue (is_within choice.held (ok_or o refusal.Overflow))
      → value product n ≡ value (one_less turns) n * value growth n
      → value entering.held n + (value turns n - 1) * value growth n ≤ value choice.held n
  summed growth product None e t m = absurd (cc)
  summed growth product (Some p) e t m =
      let sum = value_of_sum entering.held product p n e in
      let most = values_compare p choice.held n t in
      let less : (value turns n - 1) * value growth n ≤ value (one_less turns) n * value growth n =
      mul-le-mul (omega (arith, value_of_one_less turns n)) (le_self (value growth n)) in
      omega (arith, sum, most, less, m)
    where
      le_self : (k : ℕ) → k ≤ k
      le_self k = omega arith

  multiplied : (growth : Polynomial) (o : Option Polynomial) → mul (one_less turns) growth ≡ o
      → IsTrue (is_within choice.held (ok_or o refusal.Overflow >>= λ grown. sum_of entering.held grown))
      → value entering.held n + (value turns n - 1) * value growth n ≤ value choice.held n
  multiplied growth None e t = absurd (cc)
  multiplied growth (Some product) e t =
      summed growth product _ refl t (value_of_product (one_less turns) growth product n e)

  grown : (o : Option Polynomial) → sub end.held choice.held ≡ o
      → IsTrue (is_within choice.held (ok_or o refusal.Bound >>= held_last entering.held turns))
      → HasRoom n choice turns entering end
  grown None e t = absurd (cc)
  grown (Some growth) e t = record {
    growth = value growth n;
    grows = omega (arith, value_of_difference end.held choice.held growth n e);
    room = multiplied growth _ refl t;
  }

pub room_is_sound : RoomIsSound
room_is_sound n choice turns entering end t = grown n choice turns entering end _ refl t

-- ---- the entry
each_replicated : {X : Type 0} (P : X → Pair → Type 0) (k : ℕ) (x : X) (pairs : List Pair) → length pairs ≡ k
    → ((pair : Pair) → (r : ℕ) → get_or pairs r empty_pair ≡ pair → P x pair) → AreEach P (replicate k x) pairs
each_replicated P zero x [] l h = tt
each_replicated P (suc k) x (pair ∷ pairs) l h =
    (h pair 0 refl, each_replicated P k x pairs (omega arith) (λ p r e. h p (suc r) e))
each_replicated P k x pairs l h = absurd (grind arith)

entry_holds : (n unread : ℕ) (kept : Kept) → IsWhole kept → IsEntry n unread kept
    → Holds (record { n = n; turns = []; below = kept.registers.stack }) entry_facts unread kept
entry_holds n unread kept whole i =
    let all = (values_of_constants n 0).1 in record {
      position = record {
        begin = omega arith;
        end = omega arith;
        fallen = tt;
        ahead = omega (arith, all, i.held, whole.inside);
        saved =
            none_are (fore_of kept) (back_of kept) kept.registers.pairs whole.count;
      };
      held = omega (arith, all, i.held);
      registers = record {
        numbers = each_replicated (λ i (pair : Pair). IsWithin i pair.number) REGISTERS any_number kept.registers.pairs
            whole.count (λ pair r e. subst (λ (p : Pair). IsWithin any_number p.number) e
            (any_within _ (all_at IsWholePair kept.registers.pairs empty_pair whole.pairs empty_whole r).number));
        texts = each_replicated (λ most (pair : Pair). length pair.text ≤ value most n) REGISTERS variable
            kept.registers.pairs whole.count (λ pair r e. subst (λ (p : Pair). length p.text ≤ value variable n) e
            (omega (arith, all, i.texts r)));
      };
      pushed = refl;
    }

-- the argument, where one is given
argument_within : (range : ArgumentRange) (n : ℕ) → IsInRange range n
    → IsWithin (record { lo = pos range.low; hi = pos range.high }) (pos n)
argument_within range n i = record { low = omega (arith, ints, i.low); high = omega (arith, ints, i.high) }

pub entry_is_sound : EntryIsSound
entry_is_sound n unread kept None None whole i asked = record {
  state = entry_holds n unread kept whole i;
  pending = record { level = record { first = tt; value = tt; operator = refl }; outer = tt };
  answers = tt;
}
entry_is_sound n unread kept (Some range) (Some given) whole i asked = record {
  state = let h = entry_holds n unread kept whole i in
      record { position = h.position; held = h.held; registers = h.registers; pushed = h.pushed };
  pending = record {
    level = record {
      first = tt;
      value = interval_value (fore_of kept) (back_of kept) _ (pos given) (argument_within range given asked)
          (omega (arith, ints, asked.small));
      operator = refl;
    };
    outer = tt;
  };
  answers = tt;
}
entry_is_sound n unread kept None (Some given) whole i asked = absurd (asked)
entry_is_sound n unread kept (Some range) None whole i asked = absurd (asked)
