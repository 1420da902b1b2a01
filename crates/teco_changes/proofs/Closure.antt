-- Changes one after another, within a longer text, and of a longer list.
use Rattle.std.proofs.Common.{◌≡◌, ℕ, zero, suc, List, ◌++◌, sym, subst, ap, ◌∙◌}
use Rattle.std.proofs.lemmas.List.{append_assoc}
use Rattle.std.proofs.lemmas.List.Elements.{All-contains}
use Rattle.std.specs.Prelude.{All, Contains}
use Rattle.teco_changes.specs.Changes.{Changes, InTurn, IsChangeOf}
use Rattle.teco_changes.specs.Laws.{ChangesAreAmong, ChangesFollow, ChangesStandAnywhere}
use Rattle.teco_changes.specs.declared.change.Change.{Change}

one_before : (changes : List Change) (old between new : List ℕ) → IsChangeOf changes old between
    → Changes changes between new → Changes changes old new
one_before changes old between new first h = (suc h.0, (between, first, h.1))

turns_follow : (changes : List Change) (n : ℕ) (old between new : List ℕ) → InTurn changes n old between
    → Changes changes between new → Changes changes old new
turns_follow changes zero old between new e h = subst (λ t. Changes changes t new) (sym e) h
turns_follow changes (suc n) old between new first h =
    one_before changes old first.0 new first.1 (turns_follow changes n first.0 between new first.2 h)

pub changes_follow : ChangesFollow
changes_follow changes old between new first h = turns_follow changes first.0 old between new first.1 h

-- a piece within a text within a longer one
deeper : (f front piece back b : List ℕ)
    → f ++ ((front ++ (piece ++ back)) ++ b) ≡ (f ++ front) ++ (piece ++ (back ++ b))
deeper f front piece back b =
    ap (λ l. f ++ l) (append_assoc front (piece ++ back) b)
    ∙ ap (λ l. f ++ (front ++ l)) (append_assoc piece back b)
    ∙ sym (append_assoc f front (piece ++ (back ++ b)))

module _ (changes : List Change) (front back : List ℕ) where
  abbrev within : List ℕ → List ℕ
  within text = front ++ (text ++ back)

  one_within : (old new : List ℕ) → IsChangeOf changes old new → IsChangeOf changes (within old) (within new)
  one_within old new h =
      let does = h.does in
      record {
        change = h.change;
        listed = h.listed;
        does = record {
          front = front ++ does.front;
          taken = does.taken;
          put = does.put;
          back = does.back ++ back;
          old_is = ap (λ l. within l) does.old_is ∙ deeper front does.front does.taken does.back back;
          new_is = ap (λ l. within l) does.new_is ∙ deeper front does.front does.put does.back back;
          takes = does.takes;
          puts = does.puts;
        };
      }

  turns_within : (n : ℕ) (old new : List ℕ) → InTurn changes n old new → InTurn changes n (within old) (within new)
  turns_within zero old new e = ap (λ l. within l) e
  turns_within (suc n) old new h = (within h.0, one_within old h.0 h.1, turns_within n h.0 new h.2)

pub changes_stand_anywhere : ChangesStandAnywhere
changes_stand_anywhere changes front back old new h = (h.0, turns_within changes front back h.0 old new h.1)

among : (some changes : List Change) → All (Contains changes) some → (n : ℕ) (old new : List ℕ)
    → InTurn some n old new → InTurn changes n old new
among some changes each zero old new e = e
among some changes each (suc n) old new h = (
  h.0,
  record {
    change = h.1.change;
    listed = All-contains (Contains changes) some h.1.change each h.1.listed;
    does = h.1.does;
  },
  among some changes each n h.0 new h.2,
)

pub changes_are_among : ChangesAreAmong
changes_are_among some changes old new each h = (h.0, among some changes each h.0 old new h.1)
