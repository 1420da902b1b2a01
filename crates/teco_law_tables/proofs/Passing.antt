-- The numbers of the open iterations behind a way that begins no turn.
use Rattle.teco_law_tables.proofs.Prelude.{◌≡◌, ℕ, zero, suc, ◌+◌, ◌-◌, ◌≤◌, ◌<◌, ◌==◌, refl, sym, ap, ◌∙◌, arith, pos}
use Rattle.teco_law_tables.proofs.Prelude.{ℤ, List, [], ◌∷◌, map, take, drop, length, nat_lt, Bool, true, false}
use Rattle.teco_law_tables.proofs.Prelude.{if◌then◌else◌, Option, Some, None, eqb-true, length-append, length-drop}
use Rattle.teco_law_tables.proofs.Prelude.{AllByRecursion, ltb-true, ltb-false, OpenLoop, still_open, FallFollows, Loop}
use Rattle.teco_law_tables.proofs.Prelude.{Flow, Kind, Element, Frame, State, Descend, AreOpenIn, LeadsByKind, LeadsBy}
use Rattle.teco_law_tables.proofs.Prelude.{Node, Spot, start_of, turns_by_flow, turns_by_kind, begins_turn, OpenTurn}
use Rattle.teco_law_tables.proofs.Prelude.{begun_of, loops_in, open_loops, AreOpened, loops_of, left_by_flow}
use Rattle.teco_law_tables.proofs.Prelude.{left_by_kind, left_along, Table}
use Rattle.teco_model.specs.declared.kind.Flow.TheVariants as flow
use Rattle.teco_model.specs.declared.kind.Kind.TheVariants as kind
use Rattle.teco_law_runs.specs.Iterations.{AreOpen}
use Rattle.teco_law_runs.specs.Leading.{Place, LeadsByFlow}
use Rattle.teco_verifier.specs.expansion.Position.{spot_of, starts_in}

-- ---- a way that begins no turn leads ahead, and leaves some iterations
abbrev pub Ahead : ℕ → Place → Place → Type 0
Ahead left from to = (from.number < to.number) × (to.iterations ≡ drop left from.iterations)

drop_all : (left : ℕ) (xs : List ℕ) → drop left xs ≡ drop (length xs - length (drop left xs)) xs
drop_all zero xs = let z : length xs - length xs ≡ 0 = omega arith in rw z refl
drop_all (suc left) [] = refl
drop_all (suc left) (x ∷ xs) =
    let z : length (x ∷ xs) - length (drop left xs) ≡ suc (length xs - length (drop left xs)) =
    omega (arith, length-drop left xs) in
    drop_all left xs ∙ ap (λ n. drop n (x ∷ xs)) (sym z)

module _ (from to : Place) (between : ℕ) where
  ahead_flow : (f : Flow) (way : ℕ) → (way ≡ 0 → between ≡ length from.iterations - length to.iterations)
      → LeadsByFlow f way from to → turns_by_flow f way ≡ false → Ahead (left_by_flow f way between) from to
  ahead_flow flow.Iterate (suc zero) b l t = l
  ahead_flow flow.EndTurn (suc zero) b l t = (omega (arith, l.number), sym (ap (drop 1) l.innermost))
  ahead_flow flow.Leave zero b l t = (omega (arith, l.0), l.1)
  ahead_flow flow.Leave (suc zero) b l t = l
  ahead_flow (flow.Test test) zero b l t = (omega (arith, l.0), l.1)
  ahead_flow (flow.Test test) (suc zero) b l t = l
  ahead_flow flow.Otherwise zero b l t = l
  ahead_flow flow.EndTest zero b l t = (omega (arith, l.0), l.1)
  ahead_flow flow.GoTo zero b l t = (
    l.1.0,
    l.1.1 ∙ (drop_all l.0 from.iterations
        ∙ (ap (λ (ls : List ℕ). drop (length from.iterations - length ls) from.iterations) (sym l.1.1)
        ∙ ap (λ n. drop n from.iterations) (sym (b refl)))),
  )
  ahead_flow flow.Comment zero b l t = (omega (arith, l.0), l.1)
  ahead_flow (flow.GoAhead g) zero b l t = l
  ahead_flow f way b l t = absurd (grind arith)

  ahead_kind : (k : Kind) (way : ℕ) → (way ≡ 0 → between ≡ length from.iterations - length to.iterations)
      → LeadsByKind k way from to → turns_by_kind k way ≡ false → Ahead (left_by_kind k way between) from to
  ahead_kind (kind.Flow f) way b l t = ahead_flow f way b l t
  ahead_kind (kind.Search s) zero b l t = (omega (arith, l.0), l.1)
  ahead_kind (kind.Search s) (suc zero) b l t = l
  ahead_kind k zero b l t = (omega (arith, l.0), l.1)
  ahead_kind k way b l t = absurd (grind arith)

  pub ahead : (read : Option Element) (way : ℕ) → (way ≡ 0 → between ≡ length from.iterations - length to.iterations)
      → LeadsBy read way from to → begins_turn read way ≡ false → Ahead (left_along read way between) from to
  ahead None zero b l t = (omega (arith, l.0), l.1)
  ahead None (suc way) b l t = absurd l
  ahead (Some e) way b l t = ahead_kind e.kind way b l t

-- ---- how many are open
pub frames_starts : (frames : List Frame) → length (starts_in (map spot_of frames)) ≡ length (loops_in frames)
frames_starts [] = refl
frames_starts (frame ∷ frames) =
    let mapped : length (map start_of frame.loops) ≡ length frame.loops = starts frame.loops in
    omega (
      arith,
      mapped,
      frames_starts frames,
      length-append (map start_of frame.loops) (starts_in (map spot_of frames)),
      length-append frame.loops (loops_in frames),
    )
  where
    starts : (loops : List Loop) → length (map start_of loops) ≡ length loops
    starts [] = refl
    starts (loop ∷ loops) = ap suc (starts loops)

open_in_length : (nodes : List Node) (entry below : ℕ) (text : List ℕ) (callers : List Spot) (Rest : List ℕ → Type 0)
    (m : ℕ) → ((numbers : List ℕ) → Rest numbers → m ≡ length numbers) → (starts numbers : List ℕ)
    → AreOpenIn nodes entry below text callers Rest starts numbers → length starts + m ≡ length numbers
open_in_length nodes entry below text callers Rest m f [] numbers are = omega (arith, f numbers are)
open_in_length nodes entry below text callers Rest m f (start ∷ outer) [] are = absurd are
open_in_length nodes entry below text callers Rest m f (start ∷ outer) (number ∷ numbers) are =
    omega (arith, open_in_length nodes entry below text callers Rest m f outer numbers are.1)

open_length : (nodes : List Node) (entry below : ℕ) (spots : List Spot) (numbers : List ℕ)
    → AreOpen nodes entry below spots numbers → length (starts_in spots) ≡ length numbers
open_length nodes entry below [] numbers are = sym (ap length are)
open_length nodes entry below (spot ∷ spots) numbers are =
    let rest : (numbers : List ℕ) → AreOpen nodes entry below spots numbers
    → length (starts_in spots) ≡ length numbers = λ numbers h. open_length nodes entry below spots numbers h in
    length-append spot.starts (starts_in spots) ∙ open_in_length nodes entry below spot.text spots
    (AreOpen nodes entry below spots) (length (starts_in spots)) rest spot.starts numbers are

pub loops_length : (nodes : List Node) (entry below : ℕ) (s : State) (numbers : List ℕ)
    → AreOpen nodes entry below (spot_of s.frames.running ∷ map spot_of s.frames.callers) numbers
    → length (open_loops s) ≡ length numbers
loops_length nodes entry below s numbers are =
    sym (frames_starts (s.frames.running ∷ s.frames.callers))
    ∙ open_length nodes entry below (spot_of s.frames.running ∷ map spot_of s.frames.callers) numbers are

pub opened_length : (table : Table) (n : ℕ) (begins : List ℕ) (loops : List Loop) (turns : List OpenTurn)
    → AreOpened table n begins loops turns → (length begins ≡ length loops) × (length begins ≡ length turns)
opened_length table n [] [] [] h = (refl, refl)
opened_length table n (b ∷ begins) (l ∷ loops) (t ∷ turns) h = let i =
    opened_length table n begins loops turns h.1 in (ap suc i.0, ap suc i.1)
opened_length table n begins loops turns h = absurd (grind arith)

pub opened_dropped : (table : Table) (n left : ℕ) (begins : List ℕ) (loops : List Loop) (turns : List OpenTurn)
    → AreOpened table n begins loops turns → AreOpened table n (drop left begins) (drop left loops) (drop left turns)
opened_dropped table n zero begins loops turns h = h
opened_dropped table n (suc left) [] [] [] h = tt
opened_dropped table n (suc left) (b ∷ begins) (l ∷ loops) (t ∷ turns) h =
    opened_dropped table n left begins loops turns h.1
opened_dropped table n left begins loops turns h = absurd (grind arith)

pub begun_dropped : (left : ℕ) (turns : List OpenTurn) → drop left (map begun_of turns) ≡ map begun_of (drop left turns)
begun_dropped zero turns = refl
begun_dropped (suc left) [] = refl
begun_dropped (suc left) (t ∷ turns) = begun_dropped left turns

-- ---- those that ended before a number are left, and the others are still open
pub below_is : (m n : ℕ) → m < n → nat_lt m n ≡ true
below_is m n l = by_test _ refl
  where
    by_test : (b : Bool) → nat_lt m n ≡ b → nat_lt m n ≡ true
    by_test true e = e
    by_test false e = absurd (omega (arith, l, ltb-false m n e))

not_below_is : (m n : ℕ) → n ≤ m → nat_lt m n ≡ false
not_below_is m n l = by_test _ refl
  where
    by_test : (b : Bool) → nat_lt m n ≡ b → nat_lt m n ≡ false
    by_test false e = e
    by_test true e = absurd (omega (arith, l, ltb-true m n e))

module _ (end : ℕ → ℕ) (number : ℕ) where
  pub numbers_still : (left : ℕ) (begins : List ℕ) → AllByRecursion (λ b. end b < number) (take left begins)
      → AllByRecursion (λ b. number ≤ end b) (drop left begins) → drop left begins ≡ still_open end number begins
  numbers_still zero [] h g = refl
  numbers_still (suc left) [] h g = refl
  numbers_still zero (b ∷ begins) h g =
      sym (ap (λ t. if t then still_open end number begins else b ∷ begins) (not_below_is (end b) number g.0))
  numbers_still (suc left) (b ∷ begins) h g =
      numbers_still left begins h.1 g
      ∙ sym (ap (λ t. if t then still_open end number begins else b ∷ begins) (below_is (end b) number h.0))

  pub loops_still : (left : ℕ) (begins : List ℕ) (turns : List OpenTurn) → length begins ≡ length turns
      → AllByRecursion (λ b. end b < number) (take left begins)
      → AllByRecursion (λ b. number ≤ end b) (drop left begins)
      → loops_of (drop left begins) (drop left turns) ≡ still_open (λ (o : OpenLoop). end o.begin) number
      (loops_of begins turns)
  loops_still zero [] turns l h g = refl
  loops_still (suc left) [] turns l h g = refl
  loops_still left (b ∷ begins) [] l h g = absurd (omega arith)
  loops_still zero (b ∷ begins) (t ∷ turns) l h g =
      sym (ap (λ x. if x then still_open (λ (o : OpenLoop). end o.begin) number
      (loops_of begins turns) else record { begin = b; more = Some t.more } ∷ loops_of begins turns)
      (not_below_is (end b) number g.0))
  loops_still (suc left) (b ∷ begins) (t ∷ turns) l h g =
      loops_still left begins turns (omega (arith, l)) h.1 g
      ∙ sym (ap (λ x. if x then still_open (λ (o : OpenLoop). end o.begin) number
      (loops_of begins turns) else record { begin = b; more = Some t.more } ∷ loops_of begins turns)
      (below_is (end b) number h.0))

-- ---- no fall is told along a way that begins no turn
no_fall : (before : Option ℤ) (held new : ℕ) (b : Bool) → b ≡ false
    → FallFollows before (if b then Some (pos 0) else None) held new
no_fall before held new true e = absurd (cc)
no_fall before held new false e = tt

not_there : (target begin : ℕ) → suc begin < target → (target == suc begin) ≡ false
not_there target begin l = by_test _ refl
  where
    by_test : (b : Bool) → (target == suc begin) ≡ b → (target == suc begin) ≡ false
    by_test false e = e
    by_test true e = absurd (omega (arith, l, eqb-true target (suc begin) e))

pub no_falls : (fall : ℕ → Option ℤ) (target held new bound : ℕ) (begins : List ℕ) → bound < target
    → Descend bound begins → AllByRecursion
    (λ b. FallFollows (fall b) (if target == suc b then Some (pos 0) else None) held new) begins
no_falls fall target held new bound [] l d = tt
no_falls fall target held new bound (b ∷ begins) l d = (
  no_fall (fall b) held new (target == suc b) (not_there target b (omega (arith, d.0, l))),
  no_falls fall target held new b begins (omega (arith, d.0, l)) d.1,
)

pub descend_dropped : (left bound : ℕ) (begins : List ℕ) → Descend bound begins → Descend bound (drop left begins)
descend_dropped zero bound begins d = d
descend_dropped (suc left) bound [] d = tt
descend_dropped (suc left) bound (b ∷ begins) d =
    lower (drop left begins) b bound (omega (arith, d.0)) (descend_dropped left b begins d.1)
  where
    lower : (ls : List ℕ) (m k : ℕ) → m ≤ k → Descend m ls → Descend k ls
    lower [] m k le d = tt
    lower (x ∷ ls) m k le d = (omega (arith, d.0, le), d.1)
