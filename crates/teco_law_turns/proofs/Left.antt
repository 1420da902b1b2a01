-- What may still be left to do, as a number that each move lowers by the steps of its element.
use Rattle.std.proofs.Common.{◌≡◌, ℕ, suc, ◌+◌, ◌-◌, ◌*◌, ◌<◌, ◌≤◌, Bool, true, false, cond, ltb, List, [], ◌∷◌, ◌++◌}
use Rattle.std.proofs.Common.{map, length, take, sym, ap, refl, ◌∙◌, arith, length-append, append_assoc}
use Rattle.std.proofs.lemmas.Bool.{ltb-true, ltb-false}
use Rattle.std.proofs.lemmas.List.{take_at, take_all}
use Rattle.std.specs.Prelude.{⊤}
use Rattle.teco_law_turns.specs.Table.{Table, sum_below, product_by, behind, commands}
use Rattle.teco_law_turns.specs.Moves.{OpenLoop, still_open}
use Rattle.teco_law_turns.proofs.Sums.{sum_below-le, sum_below-times, sum_below-same, product_by-append}

-- a turn that has begun: its loop, the turns that may come after it, and what was held and ahead at its start
pub record Turn : Type 0 where
  pub loop : OpenLoop
  pub rest : ℕ
  pub held : ℕ
  pub ahead : ℕ

abbrev pub begin_of : Turn → ℕ
begin_of u = u.loop.begin

abbrev pub begins_of : List Turn → List ℕ
begins_of us = map begin_of us

abbrev pub end_of : Table → Turn → ℕ
end_of t u = t.end u.loop.begin

-- what a node weighs inside of d loops
pub weight : Table → ℕ → ℕ → ℕ
weight t d i = t.own i * product_by t.turns (take (length (t.loops i) - d) (t.loops i))

-- what the nodes before a node weigh there
abbrev pub before : Table → ℕ → ℕ → ℕ
before t d i = sum_below (weight t d) i

-- the rest of this turn, the turns that may come after it, and what is left behind the loop
abbrev pub left : Table → ℕ → List Turn → ℕ
left t i [] = before t 0 t.size - before t 0 i
left t i (u ∷ us) =
    (before t (suc (length us)) (suc (t.end u.loop.begin)) - before t (suc (length us)) i)
    + u.rest * (before t (suc (length us)) (suc (t.end u.loop.begin)) - before t (suc (length us)) (suc u.loop.begin))
    + left t (suc (t.end u.loop.begin)) us

-- loops that lie in one another
abbrev pub Chain : Table → List ℕ → Type 0
Chain t [] = ⊤
Chain t (l ∷ ls) = (l < t.end l) × (t.end l < behind t ls) × (t.loops l ≡ ls) × Chain t ls

-- the sums of a first turn and further ones, and of one of those
entered : (x y p k r : ℕ) → y + suc r * p ≡ x + suc r * (p + k) → k + r * k ≡ y - x
entered x y p k r e = omega arith

returned : (b r n : ℕ) → r ≡ suc n → b + n * b ≡ r * b
returned b r n e = rw e (omega arith)

module _ (t : Table) where
  own_weight : (d i : ℕ) → length (t.loops i) ≡ d → weight t d i ≡ t.own i
  unfolding weight
  own_weight d i e = search arith

  -- at the start all is left
  pub all_left : before t 0 t.size ≡ commands t
  unfolding weight
  all_left = sum_below-same (weight t 0) (λ i. t.own i * product_by t.turns (t.loops i)) t.size same
    where
      same : (i : ℕ) → weight t 0 i ≡ t.own i * product_by t.turns (t.loops i)
      same i = ap (λ ls. t.own i * product_by t.turns ls) (take_all (length (t.loops i) - 0) (t.loops i) (omega arith))

  -- past one element
  pub past_own : (i : ℕ) (us : List Turn) → length (t.loops i) ≡ length us → i < behind t (begins_of us)
      → t.own i + left t (suc i) us ≡ left t i us
  past_own i [] deep within = omega (arith, own_weight 0 i deep, sum_below-le (weight t 0) (suc i) t.size within)
  past_own i (u ∷ us) deep within =
      omega (
        arith,
        own_weight (suc (length us)) i deep,
        sum_below-le (weight t (suc (length us))) (suc i) (suc (t.end u.loop.begin)) within,
      )

  -- further on, out of what is left behind
  pub further : (i j : ℕ) (us : List Turn) → i ≤ j → j ≤ t.size → Chain t (begins_of us)
      → left t j (still_open (end_of t) j us) ≤ left t i us
  further i j [] le size chain = omega (arith, sum_below-le (weight t 0) i j le)
  further i j (u ∷ us) le size chain =
      let deeper : suc (t.end u.loop.begin) ≤ j
      → left t j (still_open (end_of t) j us) ≤ left t (suc (t.end u.loop.begin)) us =
      λ p. further (suc (t.end u.loop.begin)) j us p size chain.3 in
      by_end (ltb (end_of t u) j) refl deeper
    where
      by_end : (b : Bool) → ltb (end_of t u) j ≡ b
          → (suc (end_of t u) ≤ j → left t j (still_open (end_of t) j us) ≤ left t (suc (end_of t u)) us)
          → left t j (cond b (still_open (end_of t) j us) (u ∷ us)) ≤ left t i (u ∷ us)
      by_end true e deeper = omega (arith, deeper (ltb-true (end_of t u) j e))
      by_end false e deeper = omega (
        arith,
        ltb-false (end_of t u) j e,
        sum_below-le (weight t (suc (length us))) i j le,
      )

  -- a stretch inside the innermost loop
  stretch : (i j : ℕ) (us : List Turn) → i ≤ j → j ≤ behind t (begins_of us)
      → left t i us ≡ (before t (length us) j - before t (length us) i) + left t j us
  stretch i j [] le within = omega (arith, sum_below-le (weight t 0) i j le, sum_below-le (weight t 0) j t.size within)
  stretch i j (u ∷ us) le within =
      omega (
        arith,
        sum_below-le (weight t (suc (length us))) i j le,
        sum_below-le (weight t (suc (length us))) j (suc (end_of t u)) within,
      )

  -- entering a loop changes nothing
  module _ (l : ℕ) (us : List Turn) (e : length (t.loops l) ≡ length us) where
    inside_weight : (j : ℕ) (inner : List ℕ) → t.loops j ≡ inner ++ l ∷ t.loops l
        → weight t (length us) j ≡ t.turns l * weight t (suc (length us)) j
    unfolding weight
    inside_weight j inner at =
        let long : length (t.loops j) ≡ length inner + suc (length us) =
        ap length at ∙ length-append inner (l ∷ t.loops l) ∙ ap (λ n. length inner + suc n) e in
        let outer_part : take (length (t.loops j) - length us) (t.loops j) ≡ inner ++ l ∷ [] =
        ap (take (length (t.loops j) - length us)) (at ∙ sym (append_assoc inner (l ∷ []) (t.loops l)))
        ∙ take_at (inner ++ l ∷ []) (t.loops l) (length (t.loops j) - length us)
        (omega (arith, length-append inner (l ∷ []))) in
        let inner_part : take (length (t.loops j) - suc (length us)) (t.loops j) ≡ inner =
        ap (take (length (t.loops j) - suc (length us))) at
        ∙ take_at inner (l ∷ t.loops l) (length (t.loops j) - suc (length us)) (omega arith) in
        let split = product_by-append t.turns inner (l ∷ []) in
        rw (outer_part, inner_part, split) (omega arith)

    -- its first turn, and as many more as it may take less one
    pub enter : (r : ℕ) (o : OpenLoop) (held ahead : ℕ) → o.begin ≡ l → suc r ≡ t.turns l → l < t.end l
        → t.end l < behind t (begins_of us)
        → ((j : ℕ) → l < j → j ≤ t.end l → (inner : List ℕ) × (t.loops j ≡ inner ++ l ∷ t.loops l))
        → left t (suc l) (record { loop = o; rest = r; held = held; ahead = ahead } ∷ us) ≡ left t (suc l) us
    enter r o held ahead begins many some low body =
        let x = before t (length us) in
        let y = before t (suc (length us)) in
        let grows : y (suc l) ≤ y (suc (t.end l)) =
        sum_below-le (weight t (suc (length us))) (suc l) (suc (t.end l)) (omega arith) in
        let each : (j : ℕ) → suc l ≤ j → j < suc (t.end l)
        → weight t (length us) j ≡ t.turns l * weight t (suc (length us)) j = λ j from to. let at =
        body j from (omega arith) in inside_weight j at.0 at.1 in
        let times = sum_below-times (weight t (length us)) (weight t (suc (length us))) (t.turns l) (suc l)
        (suc (t.end l)) (omega arith) each in
        let turns = entered (x (suc l)) (x (suc (t.end l))) (y (suc l)) (y (suc (t.end l)) - y (suc l)) r
        (let e : y (suc l) + (y (suc (t.end l)) - y (suc l)) ≡ y (suc (t.end l)) = omega arith in
        rw (many, e) times) in
        rw begins (omega (arith, turns, stretch (suc l) (suc (t.end l)) us (omega arith) low))

  -- a further turn is one of those that may come
  pub return : (u v : Turn) (us : List Turn) → u.loop.begin ≡ v.loop.begin → u.rest ≡ suc v.rest
      → left t (suc v.loop.begin) (v ∷ us) ≡ left t (suc (end_of t u)) (u ∷ us)
  return u v us same more = search (returned, arith)
