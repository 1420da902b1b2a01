-- A run takes at most the printed number of steps.
use Rattle.std.proofs.Common.{◌≡◌, ℕ, zero, suc, ◌+◌, ◌-◌, ◌<◌, ◌≤◌, ⊎_elim, Bool, true, false, cond, ltb, List, []}
use Rattle.std.proofs.Common.{◌∷◌, ◌++◌, map, length, Option, Some, None, MatchOption, sym, ap, refl, ◌∙◌, subst}
use Rattle.std.proofs.Common.{arith}
use Rattle.std.proofs.lemmas.Bool.{ltb-false}
use Rattle.std.proofs.lemmas.List.{length-map}
use Rattle.std.specs.Option.{option_and_then}
use Rattle.teco_law_turns.specs.Table.{Table, IsClosed, behind, commands}
use Rattle.teco_law_turns.specs.Moves.{OpenLoop, State, Move, Forward, Into, Back, Goes, Enters, Returns, RunTakes}
use Rattle.teco_law_turns.specs.Moves.{IsStart, CountsDown, still_open, RunsAreBounded}
use Rattle.teco_law_turns.specs.Machines.{after_steps, Covers, Follows, MachinesEnd}
use Rattle.teco_law_turns.proofs.Left.{Turn, begin_of, begins_of, end_of, left, Chain, all_left, past_own, further}
use Rattle.teco_law_turns.proofs.Left.{enter, return}
use Rattle.teco_law_turns.proofs.Standing.{Stand, most_of, carry, unwind, first, again}

map-still_open : {X Y : Type 0} (f : X → Y) (end : Y → ℕ) (j : ℕ) (xs : List X)
    → map f (still_open (λ x. end (f x)) j xs) ≡ still_open end j (map f xs)
map-still_open f end j [] = refl
map-still_open {X} {Y} f end j (x ∷ xs) =
    elim (ltb (end (f x)) j) as (λ b. map f (cond b (still_open (λ x. end (f x)) j xs) (x ∷ xs)) ≡ cond b
    (still_open end j (map f xs)) (f x ∷ map f xs)) [ true ↦ map-still_open f end j xs | false ↦ refl ]

-- those that are left stand before those that are still open
gone : {X : Type 0} (end : X → ℕ) (j : ℕ) (xs : List X) → (left : List X) × (xs ≡ left ++ still_open end j xs)
gone end j [] = ([], refl)
gone {X} end j (x ∷ xs) =
    let deeper = gone end j xs in
    elim (ltb (end x) j) as (λ b. (left : List X) × (x ∷ xs ≡ left ++ cond b (still_open end j xs) (x ∷ xs)))
    [ true ↦ (x ∷ deeper.0, ap (λ ys. x ∷ ys) deeper.1) | false ↦ ([], refl) ]

module _ (t : Table) where
  -- what is left of a chain is a chain, and holds the node
  chain_still_open : (j : ℕ) (ls : List ℕ) → Chain t ls → Chain t (still_open t.end j ls)
  chain_still_open j [] chain = chain
  chain_still_open j (l ∷ ls) chain =
      let deeper = chain_still_open j ls chain.3 in
      elim (ltb (t.end l) j) as (λ b. Chain t (cond b (still_open t.end j ls) (l ∷ ls)))
      [ true ↦ deeper | false ↦ chain ]

  within_still_open : (j : ℕ) (ls : List ℕ) → j < t.size → j < behind t (still_open t.end j ls)
  within_still_open j [] size = size
  within_still_open j (l ∷ ls) size = by_end (ltb (t.end l) j) refl (within_still_open j ls size)
    where
      by_end : (b : Bool) → ltb (t.end l) j ≡ b → j < behind t (still_open t.end j ls)
          → j < behind t (cond b (still_open t.end j ls) (l ∷ ls))
      by_end true e deeper = deeper
      by_end false e deeper = omega (arith, ltb-false (t.end l) j e)

  -- a state with the turns that have begun
  pub record Good (s : State) (us : List Turn) : Type 0 where
    pub opened : map (λ u. u.loop) us ≡ s.opened
    pub loops : begins_of us ≡ t.loops s.node
    pub within : s.node < behind t (begins_of us)
    pub chain : Chain t (begins_of us)
    pub stand : Stand t s.node s.held s.ahead us
    pub reached : t.reached s.node ≡ true

  -- what a move does to the open turns: it leaves some, or begins one of a loop that it enters, or a further one of the
  -- innermost loop
  abbrev pub Changes : (s new : State) → Move t s new → List Turn → List Turn → Type 0
  Changes s new (Forward go) us vs = (gone : List Turn) × (us ≡ gone ++ vs)
  Changes s new (Into enter) us vs = (u : Turn) × (vs ≡ u ∷ us) × (suc u.rest ≡ t.turns s.node)
  Changes s new (Back return) us vs = (u v : Turn) × (outer : List Turn) × (us ≡ u ∷ outer) × (vs ≡ v ∷ outer)
      × (u.rest ≡ suc v.rest)

  -- a state that a move leads to
  abbrev pub Onward : (s : State) → List Turn → (new : State) → Move t s new → Type 0
  Onward s us new move = (vs : List Turn) × Good new vs × (t.own s.node + left t new.node vs ≤ left t s.node us)
      × Changes s new move us vs

  deep : (s : State) (us : List Turn) → Good s us → length (t.loops s.node) ≡ length us
  deep s us good = ap length (sym good.loops) ∙ length-map us begin_of

  goes : (s new : State) (us : List Turn) (move : Goes t s new) → Good s us → Onward s us new (Forward move)
  goes s new us move good =
      let vs = still_open (end_of t) new.node us in
      let begins : begins_of vs ≡ still_open t.end new.node (begins_of us) =
      map-still_open begin_of t.end new.node us in
      let loops : begins_of vs ≡ t.loops new.node = begins ∙ ap (still_open t.end new.node) good.loops
      ∙ sym move.loops in (
        vs,
        record {
          reached = move.reached;
          opened = map-still_open (λ u. u.loop) (λ o. t.end o.begin) new.node us
              ∙ ap (still_open (λ o. t.end o.begin) new.node) good.opened ∙ sym move.opened;
          loops = loops;
          within = rw begins (within_still_open new.node (begins_of us) move.inside);
          chain = rw begins (chain_still_open new.node (begins_of us) good.chain);
          stand = carry t s.node new.node s.held s.ahead new.held new.ahead vs move.held move.ahead
              (rw loops move.falls) (unwind t s.node s.held s.ahead new.node us good.stand);
        },
        omega (
          arith,
          past_own t s.node us (deep s us good) good.within,
          further t (suc s.node) new.node us move.later (omega (arith, move.inside)) good.chain,
        ),
        gone (end_of t) new.node us,
      )

  -- the turns after the first are so many
  turns_after : (more : Option ℕ) (new most turns : ℕ) → new ≤ most → MatchOption more (most < turns) (λ c. c < turns)
      → (suc (turns - 1) ≡ turns) × MatchOption more (new ≤ turns - 1) (λ c. c ≤ turns - 1)
  turns_after None new most turns low h = (omega arith, omega arith)
  turns_after (Some c) new most turns low h = (omega arith, omega arith)

  enters : IsClosed t → (s new : State) (us : List Turn) (move : Enters t s new) → Good s us
      → Onward s us new (Into move)
  enters closed s new us move good =
      let loop = closed.loop s.node move.is_loop in
      let opened : OpenLoop = record { begin = s.node; more = move.more } in
      let u : Turn = record { loop = opened; rest = t.turns s.node - 1; held = new.held; ahead = new.ahead } in
      let most = most_of t s.node s.held s.ahead us good.stand in
      let low : new.ahead ≤ t.ahead_most s.node = omega (arith, move.begins.ahead, most) in
      let turns = turns_after move.more new.ahead (t.ahead_most s.node) (t.turns s.node) low move.turns in
      let low_end : t.end s.node < behind t (begins_of us) = rw good.loops loop.nested.inside in (
        u ∷ us,
        record {
          reached = move.reached;
          opened = ap (λ os. opened ∷ os) good.opened ∙ sym move.opened;
          loops = rw move.node (ap (λ ls. s.node ∷ ls) good.loops ∙ sym loop.nested.first);
          within = omega (arith, move.node, move.is_loop);
          chain = (move.is_loop, low_end, sym good.loops, good.chain);
          stand = subst (λ i. Stand t i new.held new.ahead (u ∷ us)) (sym move.node)
              (first t s.held s.ahead u us loop good.loops move.begins.held move.begins.ahead move.begins.within turns.1
              refl good.stand);
        },
        rw move.node (omega (
          arith,
          past_own t s.node us (deep s us good) good.within,
          enter t s.node us (deep s us good) (t.turns s.node - 1) opened new.held new.ahead refl turns.0 move.is_loop
              low_end loop.nested.body,
        )),
        (u, refl, turns.0),
      )

  returns : IsClosed t → (s new : State) (us : List Turn) (move : Returns t s new) → Good s us
      → Onward s us new (Back move)
  returns closed s new [] move good = absurd (no_turn (good.opened ∙ move.old_opened))
    where
      no_turn : ◌≡◌ {A = List OpenLoop} [] (record { begin = move.begin; more = move.more } ∷ move.outer) → ⊥
      no_turn e = cc
  returns closed s new (u ∷ us) move good =
      let opened : OpenLoop = record { begin = move.begin; more = move.left } in
      let v : Turn = record { loop = opened; rest = u.rest - 1; held = new.held; ahead = new.ahead } in
      let tops : u.loop ∷ map (λ u. u.loop) us ≡ record { begin = move.begin; more = move.more } ∷ move.outer =
      good.opened ∙ move.old_opened in
      let top : u.loop ≡ record { begin = move.begin; more = move.more } = cc in
      let below : map (λ u. u.loop) us ≡ move.outer = cc in
      let same : u.loop.begin ≡ move.begin = ap (λ o. o.begin) top in
      let is_loop : move.begin < t.end move.begin = rw same at good.chain.0 in
      let loop = closed.loop move.begin is_loop in
      let outer : begins_of us ≡ t.loops move.begin = sym (rw same at good.chain.2) in
      let stood : Stand t (t.end move.begin) s.held s.ahead (u ∷ us) =
      subst (λ i. Stand t i s.held s.ahead (u ∷ us)) move.at_end good.stand in
      let counts : CountsDown u.loop.more move.left (t.fall (t.end move.begin) move.begin) =
      subst (λ o. CountsDown o move.left (t.fall (t.end move.begin) move.begin))
      (sym (ap (λ o. o.more) top)) move.counts in
      let further_turn = again t s.held s.ahead u v us loop outer same move.begins.held move.begins.ahead
      move.begins.within refl counts stood in
      let on : left t new.node (v ∷ us) ≡ left t (suc s.node) (u ∷ us) = ap (λ i. left t i (v ∷ us)) move.node
      ∙ return t u v us same further_turn.0 ∙ ap (λ i. left t (suc i) (u ∷ us)) (ap t.end same ∙ sym move.at_end) in (
        v ∷ us,
        record {
          reached = move.reached;
          opened = ap (λ os. opened ∷ os) below ∙ sym move.new_opened;
          loops = rw move.node (ap (λ ls. move.begin ∷ ls) outer ∙ sym loop.nested.first);
          within = omega (arith, move.node, is_loop);
          chain = (is_loop, rw same at good.chain.1, sym outer, good.chain.3);
          stand = subst (λ i. Stand t i new.held new.ahead (v ∷ us)) (sym move.node) further_turn.1;
        },
        omega (arith, on, past_own t s.node (u ∷ us) (deep s (u ∷ us) good) good.within),
        (u, v, us, refl, refl, further_turn.0),
      )

  pub moves : IsClosed t → (s new : State) (us : List Turn) (move : Move t s new) → Good s us → Onward s us new move
  moves closed s new us (Forward go) good = goes s new us go good
  moves closed s new us (Into en) good = enters closed s new us en good
  moves closed s new us (Back re) good = returns closed s new us re good

  -- the table covers such a state
  pub covers : (s : State) (us : List Turn) → Good s us → Covers t s
  covers s us good =
      let most = most_of t s.node s.held s.ahead us good.stand in
      record {
        reached = good.reached;
        loops = ap (map (λ o. o.begin)) (sym good.opened) ∙ map-map us ∙ good.loops;
        held = most.0;
        ahead = most.1;
      }
    where
      map-map : (us : List Turn) → map (λ o. o.begin) (map (λ u. u.loop) us) ≡ begins_of us
      map-map [] = refl
      map-map (u ∷ us) = ap (λ ls. u.loop.begin ∷ ls) (map-map us)

  -- what a run takes is no more than what is left
  runs : IsClosed t → (m : ℕ) (s : State) (us : List Turn) (n : ℕ) → Good s us → RunTakes t m s n
      → n ≤ left t s.node us
  runs closed zero s us n good takes = omega (arith, past_own t s.node us (deep s us good) good.within)
  runs closed (suc m) s us n good takes =
      let onward = moves closed s takes.0 us takes.3 good in
      let rest = runs closed m takes.0 onward.0 takes.2 onward.1 takes.5 in
      omega (arith, onward.2, rest, takes.4, takes.6)

module _ (t : Table) (s : State) (start : IsStart t s) where
  pub good_start : Good t s []
  good_start = record {
    reached = rw start.node start.reached;
    opened = sym start.opened;
    loops = rw start.node (sym start.loops);
    within = omega (arith, start.node, start.some);
    chain = tt;
    stand = rw start.node (start.held, start.ahead);
  }

  at_start : left t s.node [] ≡ commands t
  at_start = ap (λ i. left t i []) start.node ∙ all
    where
      all : left t 0 [] ≡ commands t
      all = omega (arith, all_left t)

pub runs_are_bounded : RunsAreBounded
runs_are_bounded t s m n closed start takes =
    omega (arith, at_start t s start, runs t closed m s [] n (good_start t s start) takes)

-- steps one after another
after-add : {M : Type 0} (step : M → Option M) (k n : ℕ) (x : M)
    → after_steps step (k + n) x ≡ option_and_then (after_steps step n) (after_steps step k x)
after-add step k zero x = let e : k + 0 ≡ k = omega arith in rw e (same (after_steps step k x))
  where
    same : (o : Option _) → o ≡ option_and_then (after_steps step 0) o
    same None = refl
    same (Some y) = refl
after-add step k (suc n) x =
    let e : k + suc n ≡ suc (k + n) = omega arith in
    rw e (ap (option_and_then step) (after-add step k n x) ∙ same (after_steps step k x))
  where
    same : (o : Option _) → option_and_then step (option_and_then (after_steps step n) o) ≡ option_and_then
        (after_steps step (suc n)) o
    same None = refl
    same (Some y) = refl

-- n steps from where k have led
after_from : {M : Type 0} (step : M → Option M) (k n : ℕ) (x : M) (o : Option M) → k ≤ n → after_steps step k x ≡ o
    → after_steps step n x ≡ option_and_then (after_steps step (n - k)) o
after_from step k n x o le e =
    let split : n ≡ k + (n - k) = omega arith in
    ap (λ m. after_steps step m x) split ∙ after-add step k (n - k) x
    ∙ ap (option_and_then (after_steps step (n - k))) e

module _ {M : Type 0} (step : M → Option M) (shown : M → Option State) (t : Table) (closed : IsClosed t)
    (follows : Follows step shown t) where
  ends : (b : ℕ) (x : M) (s : State) (us : List Turn) → shown x ≡ Some s → Good t s us → left t s.node us ≤ b
      → (n : ℕ) → left t s.node us ≤ n → after_steps step n x ≡ None
  ends zero x s us shows good low n enough =
      let element = follows x s shows (covers t s us good) in
      absurd (omega (arith, element.1, element.2, past_own t s.node us (deep t s us good) good.within))
  ends (suc b) x s us shows good low n enough =
      let element = follows x s shows (covers t s us good) in
      let within = past_own t s.node us (deep t s us good) good.within in
      ⊎_elim
      (λ (over : after_steps step element.0 x ≡ None). after_from step element.0 n x None
      (omega (arith, element.2, within)) over)
      (λ (on : (y : M) × (new : State) × (after_steps step element.0 x ≡ Some y) × (shown y ≡ Some new) × Move t s new).
      let onward = moves t closed s on.1 us on.4 good in
      after_from step element.0 n x (Some on.0) (omega (arith, element.2, within)) on.2
      ∙ ends b on.0 on.1 onward.0 on.3 onward.1 (omega (arith, element.1, element.2, onward.2)) (n - element.0)
      (omega (arith, element.1, element.2, onward.2)))
      element.3

pub machines_end : (M : Type 0) → MachinesEnd M
machines_end M step shown t x s closed follows shows start =
    let all = at_start t s start in
    ends step shown t closed follows (commands t) x s [] shows (good_start t s start) (omega (arith, all))
    (commands t) (omega (arith, all))
