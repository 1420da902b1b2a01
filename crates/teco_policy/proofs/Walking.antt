-- Lists of lines, gone through as long as their lines are alike.
use Rattle.std.proofs.Common.{◌≡◌, ◌⊎◌, inl, inr, ◌↔◌, Bool, true, false, ℕ, zero, suc, ◌+◌, ◌-◌, ◌<◌, ◌≤◌, List}
use Rattle.std.proofs.Common.{[], ◌∷◌, ◌++◌, length, take, drop}
use Rattle.std.proofs.Common.{refl, sym, subst, ap, ◌∙◌, arith}
use Rattle.std.proofs.lemmas.List.{length-drop, take_all}
use Rattle.std.proofs.lemmas.List.Elements.{AllZip-push}
use Rattle.std.specs.List.{AllZip}
use Rattle.teco_policy.specs.Lines.{IsFirstUnlike, lines}
use Rattle.teco_policy.specs.Walks.{BeginAlike, DoNotBeginAlike, HasWalked, HasWalkedAll, IsFirstOf}
use Rattle.teco_policy.proofs.Lasts.{lines_some}

record IsAt (all : List (List ℕ)) (k : ℕ) (x : List ℕ) (rest : List (List ℕ)) : Type 0 where
  within : k < length all
  front : take (suc k) all ≡ take k all ++ x ∷ []
  behind : drop (suc k) all ≡ rest

is_at : (all : List (List ℕ)) (k : ℕ) (x : List ℕ) (rest : List (List ℕ)) → drop k all ≡ x ∷ rest → IsAt all k x rest
is_at [] zero x rest e = cc
is_at [] (suc k) x rest e = cc
is_at (a ∷ all) zero x rest e = record { within = omega arith; front = cc; behind = cc }
is_at (a ∷ all) (suc k) x rest e =
    let later = is_at all k x rest e in
    record {
      within = let within = later.within in omega arith;
      front = ap (λ l. a ∷ l) later.front;
      behind = later.behind;
    }

-- what a test decides does not hold where the test fails
pub refuted : (t : Bool) (P : Type 0) → ((t ≡ true) ↔ P) → t ≡ false → P → ⊥
refuted t P decides fails holds = let passes = decides.1 holds in cc

no_text : (text : List ℕ) → length text ≡ 0 → lines text ≡ []
no_text [] e = refl
no_text (b ∷ text) e = absurd (omega arith)

no_lines : (text : List ℕ) → lines text ≡ [] → length text ≡ 0
no_lines [] e = refl
no_lines (b ∷ text) e = absurd (lines_some b text e)

module _ (R : List ℕ → List ℕ → Type 0) where
  pub begun : (old new : List (List ℕ)) → HasWalked R old new 0 old new
  begun old new = record {
    old_within = omega arith;
    new_within = omega arith;
    front = tt;
    old_left = refl;
    new_left = refl;
  }

  pub goes_on : (old new : List (List ℕ)) (k : ℕ) (a b a' b' : List (List ℕ)) → HasWalked R old new k a b
      → BeginAlike R a b a' b' → HasWalked R old new (k + 1) a' b'
  goes_on old new k a b a' b' w next =
      let x = is_at old k next.first a' (sym w.old_left ∙ next.old_is) in
      let y = is_at new k next.other b' (sym w.new_left ∙ next.new_is) in
      let more = AllZip-push R (take k old) (take k new) next.first next.other w.front next.alike in
      let half = subst (λ l. AllZip R l (take k new ++ next.other ∷ [])) (sym x.front) more in
      let both = subst (λ l. AllZip R (take (suc k) old) l) (sym y.front) half in
      let one : suc k ≡ k + 1 = omega arith in
      record {
        old_within = let within = x.within in omega arith;
        new_within = let within = y.within in omega arith;
        front = subst (λ n. AllZip R (take n old) (take n new)) one both;
        old_left = sym x.behind ∙ ap (λ n. drop n old) one;
        new_left = sym y.behind ∙ ap (λ n. drop n new) one;
      }

  pub all_alike : (old new : List (List ℕ)) (k : ℕ) → HasWalked R old new k [] [] → AllZip R old new
  all_alike old new k w =
      let a = length-drop k old in
      let b = length-drop k new in
      let a_left = ap (λ l. length l) w.old_left in
      let b_left = ap (λ l. length l) w.new_left in
      let half = subst (λ l. AllZip R l (take k new)) (take_all k old (omega arith)) w.front in
      subst (λ l. AllZip R old l) (take_all k new (omega arith)) half

  begin : (old new : List (List ℕ)) (k : ℕ) → AllZip R (take (suc k) old) (take (suc k) new) → k ≤ length old
      → k ≤ length new → (drop k old ≡ [] → drop k new ≡ [] → ⊥)
      → BeginAlike R (drop k old) (drop k new) (drop (suc k) old) (drop (suc k) new)
  begin [] [] zero h l m some = absurd (some refl refl)
  begin [] (b ∷ new) zero h l m some = absurd h
  begin (a ∷ old) [] zero h l m some = absurd h
  begin (a ∷ old) (b ∷ new) zero h l m some =
      record { first = a; other = b; old_is = refl; new_is = refl; alike = h.0 }
  begin [] new (suc k) h l m some = absurd (omega arith)
  begin (a ∷ old) [] (suc k) h l m some = absurd (omega arith)
  begin (a ∷ old) (b ∷ new) (suc k) h l m some = begin old new k h.1 (omega arith) (omega arith) some

  pub unlike : (old new : List (List ℕ)) (k : ℕ) (a b : List (List ℕ)) → HasWalkedAll R old new k a b
      → (a ≡ [] → b ≡ [] → ⊥) → IsFirstUnlike R old new (k + 1)
  unlike old new k a b w some =
      let one : k + 1 ≡ suc k = omega arith in
      let walked = w.walked in
      record {
        numbered = omega arith;
        front =
            let same : k ≡ k + 1 - 1 = omega arith in
            subst (λ n. AllZip R (take n old) (take n new)) same walked.front;
        breaks = λ h.
            let all = subst (λ n. AllZip R (take n old) (take n new)) one h in
            let next =
            begin old new k all walked.old_within walked.new_within
            (λ e f. some (walked.old_left ∙ e) (walked.new_left ∙ f)) in
            w.ends (drop (suc k) old) (drop (suc k) new) (record {
              first = next.first;
              other = next.other;
              old_is = walked.old_left ∙ next.old_is;
              new_is = walked.new_left ∙ next.new_is;
              alike = next.alike;
            });
      }

  fronts_alike : (n : ℕ) (old new : List (List ℕ)) → AllZip R old new → AllZip R (take n old) (take n new)
  fronts_alike zero old new h = tt
  fronts_alike (suc n) [] [] h = tt
  fronts_alike (suc n) [] (b ∷ new) h = absurd h
  fronts_alike (suc n) (a ∷ old) [] h = absurd h
  fronts_alike (suc n) (a ∷ old) (b ∷ new) h = (h.0, fronts_alike n old new h.1)

  -- where there is a first line that is unlike, not all are alike
  pub not_all_alike : (old new : List (List ℕ)) (line : ℕ) → IsFirstUnlike R old new line → AllZip R old new → ⊥
  not_all_alike old new line first h = first.breaks (fronts_alike line old new h)

  pub begin_from : (old new a e rest b f rest' : List ℕ) → IsFirstOf old a e rest → IsFirstOf new b f rest'
      → R (a ++ e) (b ++ f) → BeginAlike R (lines old) (lines new) (lines rest) (lines rest')
  begin_from old new a e rest b f rest' x y r =
      record { first = a ++ e; other = b ++ f; old_is = x.is; new_is = y.is; alike = r }

  pub no_begin : (old new a e rest b f rest' : List ℕ) → IsFirstOf old a e rest → IsFirstOf new b f rest'
      → (R (a ++ e) (b ++ f) → ⊥) → DoNotBeginAlike R (lines old) (lines new)
  no_begin old new a e rest b f rest' x y not_alike = λ l m begins.
      let x_is = x.is in
      let y_is = y.is in
      let old_is = begins.old_is in
      let new_is = begins.new_is in
      let first : begins.first ≡ a ++ e = cc in
      let other : begins.other ≡ b ++ f = cc in
      not_alike (subst (λ l. R l (b ++ f)) first (subst (λ l. R begins.first l) other begins.alike))

  pub none_begin : (old new : List (List ℕ)) → (old ≡ []) ⊎ (new ≡ []) → DoNotBeginAlike R old new
  none_begin old new none = λ l m begins.
      let old_is = begins.old_is in
      let new_is = begins.new_is in
      elim none [ inl e ↦ cc | inr e ↦ cc ]

  pub all_walked : (old new : List (List ℕ)) (k : ℕ) (x y : List ℕ) → HasWalkedAll R old new k (lines x) (lines y)
      → (length x ≡ 0) × (length y ≡ 0) → AllZip R old new
  all_walked old new k x y w none =
      let walked = w.walked in
      let half = subst (λ l. HasWalked R old new k l (lines y)) (no_text x none.0) walked in
      all_alike old new k (subst (λ l. HasWalked R old new k [] l) (no_text y none.1) half)

  pub first_walked : (old new : List (List ℕ)) (k : ℕ) (x y : List ℕ) → HasWalkedAll R old new k (lines x) (lines y)
      → ((length x ≡ 0) × (length y ≡ 0) → ⊥) → IsFirstUnlike R old new (k + 1)
  first_walked old new k x y w some =
      unlike old new k (lines x) (lines y) w (λ e f. some (no_lines x e, no_lines y f))

pub ruleset beginning = (begin_from, no_begin, none_begin)
