-- What holds of each change of a list holds of the list.
use Rattle.std.proofs.Common.{ℕ, zero, suc, List, subst}
use Rattle.std.proofs.lemmas.List.Elements.{All-contains}
use Rattle.std.specs.Prelude.{All}
use Rattle.teco_changes.specs.Changes.{Changes, InTurn, IsChange, IsChangeOf}
use Rattle.teco_changes.specs.declared.change.Change.{Change}

module _ (R : List ℕ → List ℕ → Type 0) (same : (a : List ℕ) → R a a)
    (joins : (a b c : List ℕ) → R a b → R b c → R a c) (Is : Change → Type 0)
    (one : (change : Change) → Is change → (a b : List ℕ) → IsChange change a b → R a b)
    (changes : List Change) (each : All Is changes)
  where
    of_list : (a b : List ℕ) → IsChangeOf changes a b → R a b
    of_list a b h = one h.change (All-contains Is changes h.change each h.listed) a b h.does

    in_turn : (n : ℕ) (a b : List ℕ) → InTurn changes n a b → R a b
    in_turn zero a b e = subst (λ t. R a t) e (same a)
    in_turn (suc n) a b h = joins a h.0 b (of_list a h.0 h.1) (in_turn n h.0 b h.2)

    pub by_changes : (a b : List ℕ) → Changes changes a b → R a b
    by_changes a b h = in_turn h.0 a b h.1
