-- Where runs come to, and how many turns of a loop they begin.
use Rattle.std.proofs.Common.{◌≡◌, ℕ, zero, suc, ◌+◌, ◌<◌, ◌≤◌, Bool, true, false, List, [], ◌∷◌, ◌++◌, length, sym}
use Rattle.std.proofs.Common.{ap, refl, ◌∙◌, subst, arith, length-append}
use Rattle.std.proofs.lemmas.Bool.{ne_eqb}
use Rattle.std.proofs.lemmas.List.{length-map}
use Rattle.std.specs.Prelude.{◌==◌, if◌then◌else◌}
use Rattle.teco_law_turns.specs.Table.{Table, IsClosed}
use Rattle.teco_law_turns.specs.Moves.{State, Move, Forward, Into, Back, Returns}
use Rattle.teco_law_turns.specs.Turns.{Lead, RunsAreCovered, Repeats, turns_begun, TurnsAreBounded}
use Rattle.teco_law_turns.proofs.Left.{Turn}
use Rattle.teco_law_turns.proofs.Runs.{Good, Onward, moves, covers, good_start}

-- what is left of turns has one of them still, where it is as many
keeps_turn : (gone vs inner outer : List Turn) (u : Turn) → gone ++ vs ≡ inner ++ u ∷ outer → length outer < length vs
    → (left : List Turn) × (vs ≡ left ++ u ∷ outer)
keeps_turn [] vs inner outer u e long = (inner, e)
keeps_turn (x ∷ gone) vs [] outer u e long =
    let tails : gone ++ vs ≡ outer = (cc) in absurd (omega (arith, ap length tails, length-append gone vs))
keeps_turn (x ∷ gone) vs (y ∷ inner) outer u e long =
    let tails : gone ++ vs ≡ inner ++ u ∷ outer = (cc) in keeps_turn gone vs inner outer u tails long

module _ (t : Table) (closed : IsClosed t) where
  -- where moves lead, the turns that have begun are told
  leads : (m : ℕ) (s last : State) (us : List Turn) → Good t s us → Lead t m s last → (vs : List Turn) × Good t last vs
  leads zero s last us good e = (us, subst (λ x. Good t x us) e good)
  leads (suc m) s last us good lead =
      let onward = moves t closed s lead.0 us lead.1 good in leads m lead.0 last onward.0 onward.1 lead.2

  opened_length : (s : State) (us : List Turn) → Good t s us → length s.opened ≡ length us
  opened_length s us good = ap length (sym good.opened) ∙ length-map us (λ u. u.loop)

  begun_most : (depth : ℕ) (s new : State) (move : Returns t s new) → turns_begun depth t s new (Back move) ≤ 1
  begun_most depth s new move = by_test (length new.opened == depth)
    where
      by_test : (b : Bool) → (if b then 1 else 0) ≤ 1
      by_test true = omega arith
      by_test false = omega arith

  begun_none : (depth : ℕ) (s new : State) (move : Returns t s new) → depth < length new.opened
      → turns_begun depth t s new (Back move) ≡ 0
  begun_none depth s new move deeper =
      let other : (length new.opened == depth) ≡ false = ne_eqb (length new.opened) depth (λ e. omega arith) in
      rw other refl

  -- a move begins no more turns of a loop that stays open than it takes from those that may come
  one_move : (depth n rest : ℕ) (s new : State) (us inner outer : List Turn) (u : Turn) (move : Move t s new)
      → Onward t s us new move → us ≡ inner ++ u ∷ outer → depth ≡ suc (length outer) → depth ≤ length new.opened
      → n ≡ turns_begun depth t s new move + rest
      → ((vs left : List Turn) (v : Turn) → Good t new vs → vs ≡ left ++ v ∷ outer → rest ≤ v.rest) → n ≤ u.rest
  one_move depth n rest s new us inner outer u (Forward go) onward is deep stays e later =
      let kept = keeps_turn onward.3.0 onward.0 inner outer u (sym onward.3.1 ∙ is)
      (omega (arith, opened_length new onward.0 onward.1)) in
      omega (arith, e, later onward.0 kept.0 u onward.1 kept.1)
  one_move depth n rest s new us inner outer u (Into enter) onward is deep stays e later =
      omega (arith, e, later onward.0 (onward.3.0 ∷ inner) u onward.1 (onward.3.1 ∙ ap (λ vs. onward.3.0 ∷ vs) is))
  one_move depth n rest s new us [] outer u (Back return) onward is deep stays e later =
      let heads : onward.3.0 ∷ onward.3.2 ≡ u ∷ outer = sym onward.3.3 ∙ is in
      let top : onward.3.0 ≡ u = (cc) in
      let below : onward.3.2 ≡ outer = (cc) in
      let after = later onward.0 [] onward.3.1 onward.1 (onward.3.4 ∙ ap (λ vs. onward.3.1 ∷ vs) below) in
      omega (arith, e, begun_most depth s new return, after, onward.3.5, ap (λ v. v.rest) top)
  one_move depth n rest s new us (x ∷ inner) outer u (Back return) onward is deep stays e later =
      let tails : onward.3.2 ≡ inner ++ u ∷ outer = tail (sym onward.3.3 ∙ is) in
      let long = opened_length new onward.0 onward.1 ∙ ap length (onward.3.4 ∙ ap (λ vs. onward.3.1 ∷ vs) tails) in
      let none = begun_none depth s new return (omega (arith, long, length-append inner (u ∷ outer))) in
      omega (
        arith,
        e,
        none,
        later onward.0 (onward.3.1 ∷ inner) u onward.1
            (onward.3.4 ∙ ap (λ vs. onward.3.1 ∷ vs) tails),
      )
    where
      tail : {a b : Turn} {r q : List Turn} → a ∷ r ≡ b ∷ q → r ≡ q
      tail h = cc

  repeats : (depth m n : ℕ) (s : State) (us inner outer : List Turn) (u : Turn) → Good t s us → us ≡ inner ++ u ∷ outer
      → depth ≡ suc (length outer) → Repeats t depth m s n → n ≤ u.rest
  repeats depth zero n s us inner outer u good is deep none = omega (arith, none)
  repeats depth (suc m) n s us inner outer u good is deep run =
      one_move depth n run.2 s run.0 us inner outer u run.1 (moves t closed s run.0 us run.1 good) is deep run.3 run.5
      (λ vs left v good_new at. repeats depth m run.2 run.0 vs left outer v good_new at deep run.4)

pub runs_are_covered : RunsAreCovered
runs_are_covered t s last m closed start lead =
    let there = leads t closed m s last [] (good_start t s start) lead in covers t last there.0 there.1

pub turns_are_bounded : TurnsAreBounded
turns_are_bounded t start s new before m n closed is_start lead enter repeated =
    let there = leads t closed before start s [] (good_start t start is_start) lead in
    let onward = moves t closed s new there.0 (Into enter) there.1 in
    let deep = opened_length t closed new onward.0 onward.1 ∙ ap length onward.3.1 in
    omega (
      arith,
      onward.3.2,
      repeats t closed (length new.opened) m n new onward.0 [] there.0 onward.3.0 onward.1
          onward.3.1 deep repeated,
    )
