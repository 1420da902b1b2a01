-- How many lines are changed: at their places, or between a common front and a common end.
use Rattle.std.proofs.Common.{◌≡◌, ◌≢◌, ◌⊎◌, inl, inr, ◌↔◌, ℕ, ◌+◌, ◌-◌, ◌<◌, ◌≤◌, List, [], ◌∷◌, ◌++◌}
use Rattle.std.proofs.Common.{length, length-append, refl, sym, subst, ap, ◌∙◌, arith, get_or, take, drop}
use Rattle.std.proofs.Math.ListN.{get_or-append}
use Rattle.std.proofs.Math.Seq.{get_or-append_right}
use Rattle.std.proofs.lemmas.Bool.{cases_lt}
use Rattle.std.proofs.lemmas.List.{append-nil, append_assoc, take-append-drop}
use Rattle.std.proofs.lemmas.List.Elements.{same_from_all_zip}
use Rattle.teco_policy.specs.Lines.{ChangesAtMost, DifferAtMost, StandBetween, lines}
use Rattle.teco_policy.specs.Walks.{Counts, DoNotBeginAlike, EndTheSame, EndUnlike, HaveCommonEnd}
use Rattle.teco_policy.specs.Walks.{HasWalkedAll, IsFirstOf, IsLastOf, IsWithoutEnd}

-- lines that are the same
abbrev pub Same : List ℕ → List ℕ → Type 0
Same a b = a ≡ b

-- where at most m differ, at most n do
differ_weaker : (m n : ℕ) (old new : List (List ℕ)) → m ≤ n → DifferAtMost m old new → DifferAtMost n old new
differ_weaker m n [] [] l h = tt
differ_weaker m n [] (b ∷ new) l h = h
differ_weaker m n (a ∷ old) [] l h = h
differ_weaker m n (a ∷ old) (b ∷ new) l h =
    elim h [
      | inl x ↦ inl (x.0, differ_weaker m n old new l x.1)
      | inr y ↦ inr (omega (arith, y.0), differ_weaker (m - 1) (n - 1) old new (omega arith) y.1)
    ]

pub counts_none : (a b : List ℕ) → a ≡ b → Counts a b 0
counts_none a b same = λ n old new. (
  λ h. elim h [
    | inl x ↦ (omega arith, differ_weaker n (n - 0) old new (omega arith) x.1)
    | inr y ↦ (omega arith, differ_weaker (n - 1) (n - 0) old new (omega arith) y.1)
  ],
  λ h. inl (same, differ_weaker (n - 0) n old new (omega arith) h.1),
)

pub counts_one : (a b : List ℕ) → (a ≡ b → ⊥) → Counts a b 1
counts_one a b other = λ n old new. (
  λ h. elim h [ inl x ↦ absurd (other x.0) | inr y ↦ y ],
  λ h. inr h,
)

-- so many places differ, and what is left is compared next
abbrev pub CountsUpTo : List (List ℕ) → List (List ℕ) → ℕ → List (List ℕ) → List (List ℕ) → Type 0
CountsUpTo old new count a b = (n : ℕ) → DifferAtMost n old new ↔ ((count ≤ n) × DifferAtMost (n - count) a b)

pub count_begun : (old new : List (List ℕ)) → CountsUpTo old new 0 old new
count_begun old new = λ n. (
  λ h. (omega arith, differ_weaker n (n - 0) old new (omega arith) h),
  λ h. differ_weaker (n - 0) n old new (omega arith) h.1,
)

pub count_more : (old new : List (List ℕ)) (count more : ℕ) (x y : List ℕ) (a b : List (List ℕ))
    → CountsUpTo old new count (x ∷ a) (y ∷ b) → Counts x y more → CountsUpTo old new (count + more) a b
count_more old new count more x y a b so_far next = λ n. (
  λ h.
      let first = (so_far n).0 h in
      let second = (next (n - count) a b).0 first.1 in
      let later = differ_weaker (n - count - more) (n - (count + more)) a b (omega arith) second.1 in
      (omega (arith, first.0, second.0), later),
  λ h.
      let least = h.0 in
      let later = differ_weaker (n - (count + more)) (n - count - more) a b (omega arith) h.1 in
      (so_far n).1 (omega arith, (next (n - count) a b).1 (omega arith, later)),
)

-- the same behind the first lines of two texts
pub count_on : (old new : List (List ℕ)) (count more size : ℕ) (text other a e rest b f rest' : List ℕ)
    → CountsUpTo old new count (lines text) (lines other) → length (lines text) ≡ length (lines other)
    → count + length text ≤ size → IsFirstOf text a e rest → IsFirstOf other b f rest' → Counts (a ++ e) (b ++ f) more
    → more ≤ 1
    → CountsUpTo old new (count + more) (lines rest) (lines rest') × (length (lines rest) ≡ length (lines rest'))
    × (count + more + length rest ≤ size)
count_on old new count more size text other a e rest b f rest' so_far same within x y counts few =
    let half = subst (λ l. CountsUpTo old new count l (lines other)) x.is so_far in
    let both = subst (λ l. CountsUpTo old new count ((a ++ e) ∷ lines rest) l) y.is half in
    let text_long = ap (λ l. length l) x.is in
    let other_long = ap (λ l. length l) y.is in
    let shorter = x.shorter in (
      count_more old new count more (a ++ e) (b ++ f) (lines rest) (lines rest') both counts,
      omega arith,
      omega arith,
    )

no_lines : (l : List (List ℕ)) → length l ≡ 0 → l ≡ []
no_lines [] e = refl
no_lines (x ∷ l) e = absurd (omega arith)

pub count_all : (old new : List (List ℕ)) (count : ℕ) (a b : List (List ℕ)) → CountsUpTo old new count a b
    → length a ≡ length b → (a ≡ []) ⊎ (b ≡ []) → (n : ℕ) → DifferAtMost n old new ↔ count ≤ n
count_all old new count a b all same ends n =
    let none : length a ≡ 0 = elim ends [ inl e ↦ ap (λ l. length l) e | inr e ↦ same ∙ ap (λ l. length l) e ] in
    let a_none = no_lines a none in
    let b_none = no_lines b (sym same ∙ none) in
    let at_end : DifferAtMost (n - count) a b =
    subst (λ l. DifferAtMost (n - count) l b) (sym a_none)
    (subst (λ l. DifferAtMost (n - count) [] l) (sym b_none) tt) in (
      λ h. ((all n).0 h).0,
      λ h. (all n).1 (h, at_end),
    )

-- the common front is the longest
front_most : (shared front a b c d : List (List ℕ)) → shared ++ a ≡ front ++ c → shared ++ b ≡ front ++ d
    → DoNotBeginAlike Same a b → length front ≤ length shared
front_most shared [] a b c d e f unlike = omega arith
front_most [] (x ∷ front) a b c d e f unlike =
    absurd (unlike (front ++ c) (front ++ d) (record { first = x; other = x; old_is = e; new_is = f; alike = refl }))
front_most (y ∷ shared) (x ∷ front) a b c d e f unlike =
    let less = front_most shared front a b c d (cc) (cc) unlike in omega arith

-- where two lists end with different lines, what they have in common with others' ends is no more than what follows
back_most : (a b shared c d back : List (List ℕ)) → a ++ shared ≡ c ++ back → b ++ shared ≡ d ++ back
    → 0 < length a → 0 < length b → get_or a (length a - 1) [] ≢ get_or b (length b - 1) []
    → length back ≤ length shared
back_most a b shared c d back e f some other unlike =
    let long = ap (λ l. length l) e in
    let long' = ap (λ l. length l) f in
    let a_long = length-append a shared in
    let b_long = length-append b shared in
    let c_long = length-append c back in
    let d_long = length-append d back in
    elim (cases_lt (length shared) (length back)) [
      | inl more ↦
          let place : length a - 1 - length c ≡ length b - 1 - length d = omega arith in
          let here : get_or a (length a - 1) [] ≡ get_or back (length a - 1 - length c) [] =
          sym (get_or-append a shared [] (length a - 1) (omega arith))
          ∙ ap (λ l. get_or l (length a - 1) []) e
          ∙ get_or-append_right c back (length a - 1) [] (omega arith) in
          let there : get_or b (length b - 1) [] ≡ get_or back (length b - 1 - length d) [] =
          sym (get_or-append b shared [] (length b - 1) (omega arith))
          ∙ ap (λ l. get_or l (length b - 1) []) f
          ∙ get_or-append_right d back (length b - 1) [] (omega arith) in
          absurd (unlike (here ∙ ap (λ n. get_or back n []) place ∙ sym there))
      | inr least ↦ least
    ]

-- the last of what follows is the last of all
last_behind : (front l : List (List ℕ)) → 0 < length l
    → get_or (front ++ l) (length (front ++ l) - 1) [] ≡ get_or l (length l - 1) []
last_behind front l some =
    let long = length-append front l in
    let place : length (front ++ l) - 1 - length front ≡ length l - 1 = omega arith in
    get_or-append_right front l (length (front ++ l) - 1) [] (omega arith) ∙ ap (λ n. get_or l n []) place

-- two lists of lines as a common front, what stands between, and a common end
pub record Split (old new shared left other back : List (List ℕ)) : Type 0 where
  pub old_is : old ≡ shared ++ (left ++ back)
  pub new_is : new ≡ shared ++ (other ++ back)
  pub begin : DoNotBeginAlike Same (left ++ back) (other ++ back)
  pub end : EndUnlike left other

module _ (old new shared left other back : List (List ℕ)) (split : Split old new shared left other back) (n : ℕ) where
  pub stands : length left ≤ n → StandBetween n old new
  stands few = record {
    front = shared;
    taken = left;
    put = other;
    back = back;
    old_is = split.old_is ∙ sym (append_assoc shared left back);
    new_is = split.new_is ∙ sym (append_assoc shared other back);
    few = few;
  }

  -- what is left is the least that can stand between
  pub least : StandBetween n old new → length left ≤ n
  least between =
      let before = between.front in
      let taken = between.taken in
      let put = between.put in
      let behind = between.back in
      let olds : shared ++ (left ++ back) ≡ before ++ (taken ++ behind) =
      sym split.old_is ∙ between.old_is ∙ append_assoc before taken behind in
      let news : shared ++ (other ++ back) ≡ before ++ (put ++ behind) =
      sym split.new_is ∙ between.new_is ∙ append_assoc before put behind in
      let front = front_most shared before (left ++ back) (other ++ back) (taken ++ behind) (put ++ behind) olds news
      split.begin in
      let old_long : length shared + (length left + length back) ≡ length before + (length taken + length behind) =
      sym (lengths shared left back) ∙ ap (λ l. length l) olds ∙ lengths before taken behind in
      let new_long : length shared + (length other + length back) ≡ length before + (length put + length behind) =
      sym (lengths shared other back) ∙ ap (λ l. length l) news ∙ lengths before put behind in
      let few = between.few in
      elim (cases_lt 0 (length left)) [
        | inr none ↦ omega arith
        | inl some ↦ elim (cases_lt 0 (length other)) [
          | inr none ↦ omega arith
          | inl more ↦
              let back_least = ends some more in omega arith
        ]
      ]
    where
      lengths : (a b c : List (List ℕ)) → length (a ++ (b ++ c)) ≡ length a + (length b + length c)
      lengths a b c = length-append a (b ++ c) ∙ ap (λ k. length a + k) (length-append b c)

      ends : 0 < length left → 0 < length other → length between.back ≤ length back
      ends some more =
          let left_long = length-append shared left in
          let other_long = length-append shared other in
          back_most (shared ++ left) (shared ++ other) back (between.front ++ between.taken)
          (between.front ++ between.put) between.back
          (append_assoc shared left back ∙ sym split.old_is ∙ between.old_is)
          (append_assoc shared other back ∙ sym split.new_is ∙ between.new_is) (omega arith) (omega arith)
          (λ e. split.end some more (sym (last_behind shared left some) ∙ e ∙ last_behind shared other more))

-- what is left of two lists behind their common front, and then without their common end, stands between
split_of : (old new : List (List ℕ)) (k : ℕ) (a b : List (List ℕ)) → HasWalkedAll Same old new k a b → (count : ℕ)
    → (rest : IsWithoutEnd a b count) → Split old new (take k old) rest.left rest.other rest.common.back
split_of old new k a b w count rest =
    let walked = w.walked in
    let common = rest.common in
    let same : take k new ≡ take k old =
    same_from_all_zip Same (take k old) (take k new) walked.front (λ x y e. sym e) in
    record {
      old_is =
          sym (take-append-drop k old) ∙ ap (λ l. take k old ++ l) (sym walked.old_left ∙ common.old_is);
      new_is =
          sym (take-append-drop k new) ∙ ap (λ l. l ++ drop k new) same
          ∙ ap (λ l. take k old ++ l) (sym walked.new_left ∙ common.new_is);
      begin =
          subst (λ l. DoNotBeginAlike Same l (rest.other ++ common.back)) common.old_is
          (subst (λ l. DoNotBeginAlike Same a l) common.new_is w.ends);
      end = rest.ends;
    }

pub between_counted : (old new : List (List ℕ)) (k : ℕ) (a b : List (List ℕ)) → HasWalkedAll Same old new k a b
    → (count : ℕ) → IsWithoutEnd a b count → (n : ℕ) → StandBetween n old new ↔ count ≤ n
between_counted old new k a b w count rest n =
    let split = split_of old new k a b w count rest in
    let counts = rest.counts in (
      λ h.
          let few = least old new (take k old) rest.left rest.other rest.common.back split n h in omega arith,
      λ h. stands old new (take k old) rest.left rest.other rest.common.back split n (omega arith),
    )

-- a common end, one line longer
pub common_begun : (old new : List (List ℕ)) → HaveCommonEnd old new old new
common_begun old new = record { back = []; old_is = sym (append-nil old); new_is = sym (append-nil new) }

pub common_more : (old new a b c d : List (List ℕ)) → HaveCommonEnd old new a b → EndTheSame a b c d
    → HaveCommonEnd old new c d
common_more old new a b c d common next = record {
  back = next.last ∷ common.back;
  old_is = common.old_is ∙ ap (λ l. l ++ common.back) next.old_is ∙ append_assoc c (next.last ∷ []) common.back;
  new_is = common.new_is ∙ ap (λ l. l ++ common.back) next.new_is ∙ append_assoc d (next.last ∷ []) common.back;
}

-- lists that end with different lines
pub ends_unlike : (old new a b : List (List ℕ)) (x y : List ℕ) → old ≡ a ++ x ∷ [] → new ≡ b ++ y ∷ [] → x ≢ y
    → EndUnlike old new
ends_unlike old new a b x y e f other = λ some more same. other (sym (last_of old a x e) ∙ same ∙ last_of new b y f)
  where
    last_of : (l front : List (List ℕ)) (z : List ℕ) → l ≡ front ++ z ∷ [] → get_or l (length l - 1) [] ≡ z
    last_of l front z is =
        ap (λ k. get_or k (length k - 1) []) is ∙ last_behind front (z ∷ []) (omega arith)

-- the same of the last lines of two texts
pub end_unlike : (old new front line front' line' : List ℕ) → IsLastOf old front line → IsLastOf new front' line'
    → (line ≡ line' → ⊥) → EndUnlike (lines old) (lines new)
end_unlike old new front line front' line' a b other =
    ends_unlike (lines old) (lines new) (lines front) (lines front') line line' a.is b.is other

pub end_same : (old new front line front' line' : List ℕ) → IsLastOf old front line → IsLastOf new front' line'
    → line ≡ line' → EndTheSame (lines old) (lines new) (lines front) (lines front')
end_same old new front line front' line' a b same =
    record { last = line; old_is = a.is; new_is = b.is ∙ ap (λ l. lines front' ++ l ∷ []) (sym same) }

pub without_end : (old new a b : List (List ℕ)) (count : ℕ) → HaveCommonEnd old new a b → EndUnlike a b
    → count ≡ length a → IsWithoutEnd old new count
without_end old new a b count common ends counts =
    record { left = a; other = b; common = common; ends = ends; counts = counts }

empty_ends : (old new : List (List ℕ)) → (old ≡ []) ⊎ (new ≡ []) → EndUnlike old new
empty_ends old new none = λ some more.
    absurd (elim none [
      | inl e ↦ let long = ap (λ l. length l) e in omega arith
      | inr e ↦ let long = ap (λ l. length l) e in omega arith
    ])

-- where a text is empty, there is no last line
pub no_end : (old new : List ℕ) → (old ≡ []) ⊎ (new ≡ []) → EndUnlike (lines old) (lines new)
no_end old new none =
    empty_ends (lines old) (lines new)
    (elim none [ inl e ↦ inl (ap (λ l. lines l) e) | inr e ↦ inr (ap (λ l. lines l) e) ])

-- what is counted at their places, or between, is what is changed
pub changes_at_places : (old new : List (List ℕ)) (count : ℕ) → length old ≡ length new
    → ((n : ℕ) → DifferAtMost n old new ↔ count ≤ n) → (n : ℕ) → ChangesAtMost n old new ↔ count ≤ n
changes_at_places old new count same counts n = (
  λ h. (counts n).0 (h.at_places same),
  λ h. record { at_places = λ e. (counts n).1 h; between = λ other. absurd (other same) },
)

pub changes_between : (old new : List (List ℕ)) (count : ℕ) → length old ≢ length new
    → ((n : ℕ) → StandBetween n old new ↔ count ≤ n) → (n : ℕ) → ChangesAtMost n old new ↔ count ≤ n
changes_between old new count other counts n = (
  λ h. (counts n).0 (h.between other),
  λ h. record { at_places = λ e. absurd (other e); between = λ unlike. (counts n).1 h },
)

pub ruleset counting = (count_begun, count_more, count_all)

pub ruleset ending = (end_unlike, end_same, no_end)

pub ruleset common = (common_begun, common_more, without_end)
