-- The nodes in a loop have the loop and those round it behind their own.
use Rattle.std.proofs.Common.{◌≡◌, ℕ, zero, suc, ◌<◌, ◌≤◌, ⊎_elim, List, [], ◌∷◌, ◌++◌, ap, refl, ◌∙◌, subst, arith}
use Rattle.std.proofs.lemmas.Bool.{cases_lt}
use Rattle.std.specs.List.{AllByRecursion}
use Rattle.teco_law_turns.specs.Table.{Table, behind}
use Rattle.teco_law_turns.specs.Nests.{LoopMark, Begin, End, Plain, onward, EndsInnermost, IsPassed, NodesNest}

module _ (t : Table) (mark : ℕ → LoopMark) (nested : IsPassed t mark) where
  pub first : (l : ℕ) → l < t.end l → t.loops (suc l) ≡ l ∷ t.loops l
  first l some = search arith

  -- one node further
  further : (l j : ℕ) (m : LoopMark) (inner : List ℕ) → mark j ≡ m → suc j ≤ t.end l → t.end l < t.size
      → t.loops j ≡ inner ++ l ∷ t.loops l → (deeper : List ℕ) × (t.loops (suc j) ≡ deeper ++ l ∷ t.loops l)
  further l j m inner is to within at =
      on m inner (nested.next j (omega arith) ∙ ap (λ m. onward m j (t.loops j)) is ∙ ap (onward m j) at)
      (subst (λ ls. EndsInnermost t m j ls) at
      (subst (λ m. EndsInnermost t m j (t.loops j)) is (nested.ends j (omega arith))))
    where
      on : (m : LoopMark) (inner : List ℕ) → t.loops (suc j) ≡ onward m j (inner ++ l ∷ t.loops l)
          → EndsInnermost t m j (inner ++ l ∷ t.loops l)
          → (deeper : List ℕ) × (t.loops (suc j) ≡ deeper ++ l ∷ t.loops l)
      on Begin inner e ends = (j ∷ inner, e)
      on Plain inner e ends = (inner, e)
      on End [] e ends = absurd (omega arith)
      on End (x ∷ inner) e ends = (inner, e)

  pub body : (l j : ℕ) → l < t.end l → l < j → j ≤ t.end l → (inner : List ℕ) × (t.loops j ≡ inner ++ l ∷ t.loops l)
  body l zero some from to = absurd (omega arith)
  body l (suc j) some from to =
      let deeper : l < j → (inner : List ℕ) × (t.loops j ≡ inner ++ l ∷ t.loops l) =
      λ lt. body l j some lt (omega arith) in
      ⊎_elim
      (λ (lt : l < j). let at = deeper lt in further l j (mark j) at.0 refl to (nested.begins l some).1 at.1)
      (λ (ge : j ≤ l). let e : j ≡ l = omega arith in ([], ap (λ i. t.loops (suc i)) e ∙ first l some))
      (cases_lt l j)

  all_behind : (P : ℕ → Type 0) (inner ls : List ℕ) → AllByRecursion P (inner ++ ls) → AllByRecursion P ls
  all_behind P [] ls each = each
  all_behind P (x ∷ inner) ls each = all_behind P inner ls each.1

  -- a loop that ended behind the one round it would have nodes with that one round them, behind its end
  not_over : (l m : ℕ) (ls : List ℕ) → l < t.end l → t.loops l ≡ m ∷ ls → t.end m < t.end l → ⊥
  not_over l m ls some e over =
      let size = (nested.begins l some).1 in
      let open_at : l ≤ t.end m = (subst (AllByRecursion (λ o. l ≤ t.end o)) e (nested.within l (omega arith))).0 in
      let at = body l (suc (t.end m)) some (omega arith) over in
      let each = subst (AllByRecursion (λ o. suc (t.end m) ≤ t.end o)) at.1
      (nested.within (suc (t.end m)) (omega arith)) in
      let outside = subst (AllByRecursion (λ o. suc (t.end m) ≤ t.end o)) e
      (all_behind (λ o. suc (t.end m) ≤ t.end o) at.0 (l ∷ t.loops l) each).1 in
      omega (arith, outside.0)

  pub inside : (l : ℕ) → l < t.end l → t.end l < behind t (t.loops l)
  inside l some = by_loops (t.loops l) refl
    where
      by_loops : (ls : List ℕ) → t.loops l ≡ ls → t.end l < behind t ls
      by_loops [] e = (nested.begins l some).1
      by_loops (m ∷ ls) e =
          ⊎_elim (λ (lt : t.end m < t.end l). absurd (not_over l m ls some e lt))
          (λ (ge : t.end l ≤ t.end m). omega arith) (cases_lt (t.end m) (t.end l))

pub nodes_nest : NodesNest
nodes_nest t mark nested l some = record {
  inside = inside t mark nested l some;
  first = first t mark nested l some;
  body = λ j from to. body t mark nested l j some from to;
}
