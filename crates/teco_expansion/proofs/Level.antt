-- As many texts wait as registers are open, and as many iterations are open as the texts have; so there is room for
-- one more.
use Rattle.teco_expansion.proofs.Prelude.{◌≡◌, ℕ, ◌≤◌, List, [], ◌∷◌, ◌++◌, map, drop, length, Bool, true, false, not}
use Rattle.teco_expansion.proofs.Prelude.{Option, Some, None, Ok, refl, sym, ap, ◌∙◌, nat_le, ◌&&◌, length-append}
use Rattle.teco_expansion.proofs.Prelude.{length-drop, arith, length-map, Kind, Element, Visit, is_within, next_visit}
use Rattle.teco_expansion.proofs.Prelude.{Library, macro, Stand, Position, starts_in, depth, Reason, TooLarge, unless}
use Rattle.teco_expansion.proofs.Prelude.{listed, HasRoom, spot_seen, visit_seen, Texts}
use Rattle.std.proofs.Common.{subst}
use Rattle.std.proofs.lemmas.Bool.{leb-true}
use Rattle.teco_model.specs.declared.kind.Flow.TheVariants as flow
use Rattle.teco_model.specs.declared.kind.Kind.TheVariants as kind
use Rattle.teco_verifier.specs.expansion.Expansion.{MOST_OPEN, first_visit, open_behind_kind, visit_behind}
use Rattle.teco_verifier.specs.expansion.Expansion.{is_recursion}
use Rattle.teco_verifier.specs.expansion.Order.{position_in_text, position_behind_call, stand_behind_kind}
use Rattle.teco_verifier.specs.expansion.Overlap.{overlaps}
use Rattle.teco_verifier.specs.expansion.Position.{Spot}
use Rattle.teco_verifier.specs.expansion.Refusal.{Unpaired, Recursion}
use Rattle.teco_verifier.specs.expansion.Ways.{read_at, end_ways, flow_ways, return_ways, call_ways, element_ways}
use Rattle.teco_verifier.specs.expansion.Ways.{ways_at}
use Rattle.teco_model.proofs.Chains.{bound, ok}
use Rattle.teco_expansion.specs.declared.visit.Visit as declared

-- as many as
pub record IsEven (s : Stand) (registers : List ℕ) : Type 0 where
  pub calls : length s.position.callers ≡ length registers
  pub starts : depth s.position ≡ length s.iterations

pub record IsLevel (v : Visit) : Type 0 where
  pub even : IsEven v.stand v.registers
  pub registers : length v.registers ≤ MOST_OPEN
  pub iterations : length v.stand.iterations ≤ MOST_OPEN

pub level_first : (entry : ℕ) → IsLevel (first_visit entry)
level_first entry = record {
  even = record { calls = refl; starts = refl };
  registers = omega arith;
  iterations = omega arith;
}

-- one fewer
fewer : {X Y : Type 0} (xs : List X) (ys : List Y) (x : X) → length (x ∷ xs) ≡ length ys
    → length xs ≡ length (drop 1 ys)
fewer xs [] x h = absurd (omega (arith, h))
fewer xs (y ∷ ys) x h = omega (arith, h)

called_even : (text : Option (List ℕ)) (e : Element) (s : Stand) (registers : List ℕ) (r : ℕ) (ways : List Position)
    → call_ways text e s.position ≡ Ok ways → IsEven s registers
    → IsEven (record s { position = position_in_text text e s.position }) (r ∷ registers)
called_even None e s registers r ways w even = absurd (cc)
called_even (Some text) e s registers r ways w even =
    record { calls = omega (arith, even.calls); starts = even.starts }

ended_even : (e : Element) (p : Position) (starts : List ℕ) (rest : List ℕ) (iterations : List ℕ) (ways : List Position)
    → end_ways starts e p ≡ Ok ways → length (starts ++ rest) ≡ length iterations
    → length (drop 1 starts ++ rest) ≡ length (drop 1 iterations)
ended_even e p [] rest iterations ways w h = absurd (cc)
ended_even e p (start ∷ outer) rest iterations ways w h = fewer (outer ++ rest) iterations start h

kind_even : (library : Library) (number : ℕ) (k : Kind) (e : Element) (s : Stand) (registers : List ℕ)
    (ways : List Position) → element_ways library k e s.position ≡ Ok ways → IsEven s registers
    → IsEven (stand_behind_kind library number k e s) (open_behind_kind k registers)
unfolding flow_ways
kind_even library number (kind.Call c) e s registers ways w even =
    called_even (macro library c.register) e s registers c.register ways w even
kind_even library number (kind.Flow flow.Iterate) e s registers ways w even =
    record { calls = even.calls; starts = omega (arith, even.starts) }
kind_even library number (kind.Flow flow.EndTurn) e s registers ways w even = record {
  calls = even.calls;
  starts = ended_even e s.position s.position.running.starts (starts_in s.position.callers) s.iterations ways w
      even.starts;
}
kind_even library number k e s registers ways w even = record { calls = even.calls; starts = even.starts }

returned_even : (starts : List ℕ) (callers : List Spot) (s : Stand) (registers : List ℕ) (ways : List Position)
    → s.position.running.starts ≡ starts → s.position.callers ≡ callers → return_ways starts callers ≡ Ok ways
    → IsEven s registers → IsEven (record s { position = position_behind_call callers s.position }) (drop 1 registers)
returned_even (start ∷ outer) callers s registers ways p q w even = absurd (cc)
returned_even [] [] s registers ways p q w even =
    let none : length registers ≡ 0 = sym even.calls ∙ ap length q in
    let one : length (drop 1 registers) ≡ 0 = omega (arith, length-drop 1 registers, none) in
    record { calls = ap length q ∙ sym one; starts = even.starts }
returned_even [] (caller ∷ callers) s registers ways p q w even = record {
  calls = fewer callers registers caller (sym (ap length q) ∙ even.calls);
  starts = sym (ap (λ callers. length (starts_in callers)) q)
      ∙ sym (ap (λ starts. length (starts ++ starts_in s.position.callers)) p) ∙ even.starts;
}

read_even : (library : Library) (number : ℕ) (read : Option Element) (v : Visit) (ways : List Position)
    → ways_at library read v.stand.position ≡ Ok ways → IsEven v.stand v.registers
    → IsEven (visit_behind library number read v).stand (visit_behind library number read v).registers
unfolding ways_at
read_even library number None v ways w even =
    returned_even v.stand.position.running.starts v.stand.position.callers v.stand v.registers ways refl refl w even
read_even library number (Some e) v ways w even = kind_even library number e.kind e v.stand v.registers ways w even

not_refused : (b : Bool) (c : Reason) (u : Unit {0}) → unless (not b) c ≡ Ok u → b ≡ true
not_refused true c u h = refl
not_refused false c u h = absurd (cc)

both : (a b : Bool) → (a && b) ≡ true → (a ≡ true) × (b ≡ true)
both true b h = (refl, h)
both false b h = absurd (cc)

few_within : (number : ℕ) (v : Visit) → IsEven v.stand v.registers → is_within number v ≡ true → IsLevel v
few_within number v even h =
    let first = both (nat_le number 4096 && nat_le (length v.registers) MOST_OPEN)
    (nat_le (length v.stand.iterations) MOST_OPEN) h in
    let second = both (nat_le number 4096) (nat_le (length v.registers) MOST_OPEN) first.0 in
    record {
      even = even;
      registers = leb-true (length v.registers) MOST_OPEN second.1;
      iterations = leb-true (length v.stand.iterations) MOST_OPEN first.1;
    }

pub level_next : (library : Library) (number : ℕ) (v next : Visit) → next_visit library number v ≡ Ok next → IsLevel v
    → IsLevel next
unfolding next_visit
level_next library number v next h level =
    let a = bound (read_at v.stand.position) _ next h in
    let b = bound (ways_at library a.before v.stand.position) _ next a.gives in
    let apart = bound (unless (overlaps a.before b.before v.stand.position) Unpaired) _ next b.gives in
    let c = bound (unless (is_recursion a.before v.registers) Recursion) _ next apart.gives in
    let d = bound (unless (not (is_within number (visit_behind library number a.before v))) TooLarge) _ next c.gives in
    let is = ok (visit_behind library number a.before v) next d.gives in
    let within = not_refused (is_within number (visit_behind library number a.before v)) TooLarge d.before d.was in
    let even = read_even library number a.before v b.before b.was level.even in
    subst IsLevel is (few_within number (visit_behind library number a.before v) even within)

-- there is room for one more
pub level-room : (texts : Texts) (v : declared.Visit) → IsLevel (visit_seen texts v) → HasRoom v
level-room texts v level =
    let spots = listed v.stand.position.callers in
    let starts = listed v.stand.position.running.starts in
    record {
      starts = omega (
        arith,
        level.even.starts,
        level.iterations,
        length-append starts (starts_in (map (spot_seen texts) spots)),
      );
      calls = omega (arith, level.even.calls, level.registers, length-map spots (spot_seen texts));
      iterations = omega (arith, level.iterations);
      registers = omega (arith, level.registers);
    }
