-- Where the line places of 1 and of 0 lie, character by character.
use Rattle.teco_rows.proofs.Prelude.{◌≡◌, ℕ, zero, suc, ◌+◌, ◌≤◌, ◌<◌, ◌⊎◌, inl, inr, ◌∙◌, arith, refl, sym, ap, subst}
use Rattle.teco_rows.proofs.Prelude.{List, [], ◌∷◌, ◌++◌, ◌-◌, length, get_or, Bool, true, false, pos, negsuc, nat_lt}
use Rattle.teco_rows.proofs.Prelude.{nat_tests, is_line_end}
use Rattle.std.proofs.Common.{filter, reverse, cond}
use Rattle.std.proofs.Common.{nat_le}
use Rattle.std.proofs.lemmas.List.{reverse-append}
use Rattle.teco_base.specs.Lines.{line_places_from, line_places, line_place, places_back}

-- does a line end stand at a place?
abbrev pub ends : List ℕ → ℕ → Bool
ends text i = is_line_end (get_or text i 0)

-- ---- the first place after one that is above p, in a text whose first character is at a place
record First (at p : ℕ) (text : List ℕ) (e : ℕ) : Type 0 where
  within : e ≤ at + length text
  after : p ≤ at + length text → p ≤ e
  none : (i : ℕ) → p ≤ at + i → at + i + 1 < e → ends text i ≡ false
  lower : e < at + length text → (p < e) × (at < e)
  one : (k : ℕ) → at + k + 1 ≡ e → e < at + length text → ends text k ≡ true

-- it is the place after the first character, or one of the rest
first_here : (at p b : ℕ) (text : List ℕ) → is_line_end b ≡ true → p < at + 1 → First at p (b ∷ text) (at + 1)
first_here at p b text x y = record {
  within = omega arith;
  after = λ h. omega arith;
  none =
      λ i h k. absurd (omega arith);
  lower = λ h. (omega arith, omega arith);
  one = ends_at;
} where
  ends_at : (k : ℕ) → at + k + 1 ≡ at + 1 → at + 1 < at + length (b ∷ text) → ends (b ∷ text) k ≡ true
  ends_at zero h l = x
  ends_at (suc k) h l = absurd (omega arith)

first_later : (at p b : ℕ) (text : List ℕ) (e : ℕ) → (is_line_end b ≡ false) ⊎ (at + 1 ≤ p)
    → First (at + 1) p text e → First at p (b ∷ text) e
first_later at p b text e o f = record {
  within = omega (arith, f.within);
  after = λ h. f.after (omega arith);
  none =
      none_at;
  lower = λ h. let l = f.lower (omega arith) in (l.0, omega (arith, l.1));
  one = ends_at;
} where
  free : (is_line_end b ≡ false) ⊎ (at + 1 ≤ p) → p ≤ at → is_line_end b ≡ false
  free (inl x) h = x
  free (inr y) h = absurd (omega arith)

  none_at : (i : ℕ) → p ≤ at + i → at + i + 1 < e → ends (b ∷ text) i ≡ false
  none_at zero h k = free o (omega arith)
  none_at (suc i) h k = f.none i (omega arith) (omega arith)

  ends_at : (k : ℕ) → at + k + 1 ≡ e → e < at + length (b ∷ text) → ends (b ∷ text) k ≡ true
  ends_at zero h l = absurd (omega (arith, f.lower (omega arith)))
  ends_at (suc k) h l = f.one k (omega arith) (omega arith)

not_above : (p n : ℕ) → nat_lt p n ≡ false → n ≤ p
not_above p n h = grind (arith, nat_tests)

above : (p n : ℕ) → nat_lt p n ≡ true → p < n
above p n h = grind (arith, nat_tests)

first_if : (x y : Bool) (at p m b : ℕ) (text : List ℕ) → is_line_end b ≡ x → nat_lt p (at + 1) ≡ y
    → First (at + 1) p text (get_or (filter (λ q. nat_lt p q) (line_places_from (at + 1) text)) 0 m)
    → First at p (b ∷ text) (get_or (cond x (cond y ((at + 1) ∷ filter (λ q. nat_lt p q) (line_places_from
    (at + 1) text)) (filter (λ q. nat_lt p q) (line_places_from (at + 1) text))) (filter (λ q. nat_lt p q)
    (line_places_from (at + 1) text))) 0 m)
first_if true true at p m b text x y f = first_here at p b text x (above p (at + 1) y)
first_if true false at p m b text x y f = first_later at p b text _ (inr (not_above p (at + 1) y)) f
first_if false y at p m b text x z f = first_later at p b text _ (inl x) f

filter_if : (test : ℕ → Bool) (x : Bool) (q : ℕ) (places : List ℕ)
    → cond x (cond (test q) (q ∷ filter test places) (filter test places)) (filter test places) ≡ filter test
    (cond x (q ∷ places) places)
filter_if test true q places = refl
filter_if test false q places = refl

first : (text : List ℕ) (at p m : ℕ) → m ≡ at + length text
    → First at p text (get_or (filter (λ q. nat_lt p q) (line_places_from at text)) 0 m)
first [] at p m h = record {
  within = omega arith;
  after = λ k. omega arith;
  none =
      λ i k l. absurd (omega arith);
  lower = λ k. absurd (omega arith);
  one = λ k l n. absurd (omega arith);
}
first (b ∷ text) at p m h =
    subst (λ places. First at p (b ∷ text) (get_or places 0 m)) (filter_if (λ q. nat_lt p q) (is_line_end b)
    (at + 1) (line_places_from (at + 1) text)) (first_if (is_line_end b) (nat_lt p
    (at + 1)) at p m b text refl refl (first text (at + 1) p m (omega arith)))

-- ---- the last place that is not above p, or d
record Last (at p d : ℕ) (text : List ℕ) (s : ℕ) : Type 0 where
  apart : (s ≡ d) ⊎ (at < s)
  low : d ≤ s
  high : d ≤ p → s ≤ p
  none : (i : ℕ) → s ≤ at + i → at + i < p → ends text i ≡ false
  one : (k : ℕ) → at + k + 1 ≡ s → d < s → ends text k ≡ true

last_here : (at p d b : ℕ) (text : List ℕ) (s : ℕ) → d ≤ at → is_line_end b ≡ true → at + 1 ≤ p
    → Last (at + 1) p (at + 1) text s → Last at p d (b ∷ text) s
last_here at p d b text s w x y f = record {
  apart = inr (omega (arith, f.low));
  low = omega (arith, f.low);
  high =
      λ h. f.high y;
  none = none_at;
  one = ends_at;
} where
  none_at : (i : ℕ) → s ≤ at + i → at + i < p → ends (b ∷ text) i ≡ false
  none_at zero h k = absurd (omega (arith, f.low))
  none_at (suc i) h k = f.none i (omega arith) (omega arith)

  ends_at : (k : ℕ) → at + k + 1 ≡ s → d < s → ends (b ∷ text) k ≡ true
  ends_at zero h l = x
  ends_at (suc k) h l = f.one k (omega arith) (omega arith)

last_later : (at p d b : ℕ) (text : List ℕ) (s : ℕ) → d ≤ at → (is_line_end b ≡ false) ⊎ (p ≤ at)
    → Last (at + 1) p d text s → Last at p d (b ∷ text) s
last_later at p d b text s w o f = record {
  apart = nearer f.apart;
  low = f.low;
  high = f.high;
  none = none_at;
  one =
      ends_at;
} where
  nearer : (s ≡ d) ⊎ (at + 1 < s) → (s ≡ d) ⊎ (at < s)
  nearer (inl x) = inl x
  nearer (inr y) = inr (omega arith)

  free : (is_line_end b ≡ false) ⊎ (p ≤ at) → at < p → is_line_end b ≡ false
  free (inl x) h = x
  free (inr y) h = absurd (omega arith)

  none_at : (i : ℕ) → s ≤ at + i → at + i < p → ends (b ∷ text) i ≡ false
  none_at zero h k = free o (omega arith)
  none_at (suc i) h k = f.none i (omega arith) (omega arith)

  ends_at : (k : ℕ) → at + k + 1 ≡ s → d < s → ends (b ∷ text) k ≡ true
  ends_at zero h l = absurd (omega (arith, f.apart))
  ends_at (suc k) h l = f.one k (omega arith) l

abbrev last_or : List ℕ → ℕ → ℕ
last_or [] d = d
last_or (x ∷ xs) d = last_or xs x

up_to : (p n : ℕ) → nat_le n p ≡ true → n ≤ p
up_to p n h = grind (arith, nat_tests)

beyond : (p n : ℕ) → nat_le (n + 1) p ≡ false → p ≤ n
beyond p n h = grind (arith, nat_tests)

last_if : (x y : Bool) (at p d b : ℕ) (text : List ℕ) → d ≤ at → is_line_end b ≡ x → nat_le (at + 1) p ≡ y
    → ((d : ℕ) → d ≤ at + 1
    → Last (at + 1) p d text (last_or (filter (λ q. nat_le q p) (line_places_from (at + 1) text)) d))
    → Last at p d (b ∷ text) (last_or (cond x (cond y ((at + 1) ∷ filter (λ q. nat_le q p) (line_places_from
    (at + 1) text)) (filter (λ q. nat_le q p) (line_places_from (at + 1) text))) (filter
    (λ q. nat_le q p) (line_places_from (at + 1) text))) d)
last_if true true at p d b text w x y f = last_here at p d b text _ w x (up_to p (at + 1) y) (f (at + 1) (omega arith))
last_if true false at p d b text w x y f = last_later at p d b text _ w (inr (beyond p at y)) (f d (omega arith))
last_if false y at p d b text w x z f = last_later at p d b text _ w (inl x) (f d (omega arith))

last : (text : List ℕ) (at p d : ℕ) → d ≤ at
    → Last at p d text (last_or (filter (λ q. nat_le q p) (line_places_from at text)) d)
last [] at p d h = record {
  apart = inl refl;
  low = omega arith;
  high = λ k. k;
  none = λ i k l. refl;
  one =
      λ k l n. absurd (omega arith);
}
last (b ∷ text) at p d h =
    subst (λ places. Last at p d (b ∷ text) (last_or places d)) (filter_if (λ q. nat_le q p) (is_line_end b)
    (at + 1) (line_places_from (at + 1) text)) (last_if (is_line_end b) (nat_le
    (at + 1) p) at p d b text h refl refl (λ d. last text (at + 1) p d))

-- the head of what is turned round
head_joined : (x d : ℕ) (xs : List ℕ) → get_or (xs ++ x ∷ []) 0 d ≡ get_or xs 0 x
head_joined x d [] = refl
head_joined x d (y ∷ xs) = refl

head_reversed : (xs : List ℕ) (d : ℕ) → last_or xs d ≡ get_or (reverse xs) 0 d
head_reversed [] d = refl
head_reversed (x ∷ xs) d = head_reversed xs x ∙ sym (head_joined x d (reverse xs))
    ∙ ap (λ ys. get_or ys 0 d) (sym (reverse-append (x ∷ []) xs))

-- ---- the two line places
pub record IsEnd (text : List ℕ) (p e : ℕ) : Type 0 where
  pub after : p ≤ e
  pub within : e ≤ length text
  pub more : e < length text → p < e
  pub none : (i : ℕ) → p ≤ i → i + 1 < e → ends text i ≡ false
  pub one : (k : ℕ) → k + 1 ≡ e → e < length text → ends text k ≡ true

pub record IsBegin (text : List ℕ) (p s : ℕ) : Type 0 where
  pub before : s ≤ p
  pub none : (i : ℕ) → s ≤ i → i < p → ends text i ≡ false
  pub one : (k : ℕ) → k + 1 ≡ s → ends text k ≡ true

pub line_end : (text : List ℕ) (p : ℕ) → p ≤ length text → IsEnd text p (line_place text p (pos 1))
line_end text p h = let f = first text 0 p (length text) (omega arith) in record {
  after =
      f.after (omega arith);
  within = omega (arith, f.within);
  more = λ l. (f.lower (omega arith)).0;
  none =
      λ i a b. f.none i (omega arith) (omega arith);
  one = λ k a b. f.one k (omega arith) (omega arith);
}

pub line_begin : (text : List ℕ) (p : ℕ) → IsBegin text p (line_place text p (pos 0))
line_begin text p =
    subst (IsBegin text p) (head_reversed (filter (λ q. nat_le q p) (line_places text)) 0) (begun _ (last text 0 p 0
    (omega arith))) where
      begun : (s : ℕ) → Last 0 p 0 text s → IsBegin text p s
      begun s f = record {
        before = f.high (omega arith);
        none = λ i a b. f.none i (omega arith) (omega arith);
        one =
            λ k a. f.one k (omega arith) (omega arith);
      }

-- ---- how they lie to each other
pub clash : (b : Bool) → b ≡ true → b ≡ false → ⊥
clash true h k = grind arith
clash false h k = grind arith

pub above_or : (a b : ℕ) → (a ≤ b) ⊎ (b < a)
above_or a b = grind arith

-- no line end is between the pointer and the end of its line, and none between its begin and the pointer
pub end_least : (text : List ℕ) (p e k : ℕ) → IsEnd text p e → p ≤ k → ends text k ≡ true → e ≤ k + 1
end_least text p e k h l t = elim (above_or e (k + 1)) as (λ x. e ≤ k + 1) [
  | inl w ↦ w
  | inr w ↦ absurd (clash _ t (h.none k l w))
]

pub begin_most : (text : List ℕ) (p s k : ℕ) → IsBegin text p s → k < p → ends text k ≡ true → k + 1 ≤ s
begin_most text p s k h l t = elim (above_or s k) as (λ x. k + 1 ≤ s) [
  | inl w ↦ absurd (clash _ t (h.none k w l))
  | inr w ↦ omega arith
]

-- an end in a text is not before one in the same or another text, where its last character is none of the line
pub end_before : (text : List ℕ) (p q e f : ℕ) → IsEnd text p e → IsEnd text q f → (f < length text → p < f) → e ≤ f
end_before text p q e zero a b h = elim (above_or (length text) 0) as (λ x. e ≤ 0) [
  | inl w ↦ omega (arith, a.within)
  | inr w ↦ absurd (omega (arith, h w))
]
end_before text p q e (suc k) a b h = elim (above_or (length text) (suc k)) as (λ x. e ≤ suc k) [
  | inl w ↦ omega (arith, a.within)
  | inr w ↦ omega (arith, end_least text p e k a (omega (arith, h w)) (b.one k (omega arith) w))
]

pub begin_before : (text : List ℕ) (p q s t : ℕ) → IsBegin text p s → IsBegin text q t → s ≤ q → s ≤ t
begin_before text p q zero t a b h = omega arith
begin_before text p q (suc k) t a b h = omega (arith, begin_most text q t k b (omega arith) (a.one k (omega arith)))

pub one_end : (text : List ℕ) (p e f : ℕ) → IsEnd text p e → IsEnd text p f → e ≡ f
one_end text p e f a b = omega (arith, end_before text p p e f a b b.more, end_before text p p f e b a a.more)

pub one_begin : (text : List ℕ) (p s t : ℕ) → IsBegin text p s → IsBegin text p t → s ≡ t
one_begin text p s t a b = omega (arith, begin_before text p p s t a b a.before, begin_before text p p t s b a b.before)

-- a place between the begin of the line and the pointer is in the same line
pub end_inside : (text : List ℕ) (p x s e f : ℕ) → IsBegin text p s → IsEnd text p e → IsEnd text x f → s ≤ x
    → x ≤ p → e ≤ f
end_inside text p x s e f b a c v w = end_before text p x e f a c (later f c) where
  later : (f : ℕ) → IsEnd text x f → f < length text → p < f
  later zero c l = absurd (omega (arith, c.more l))
  later (suc k) c l = elim (above_or p k) as (λ y. p < suc k) [
    | inl i ↦ omega arith
    | inr i ↦ absurd (omega (arith, c.more l, begin_most text p s k b i (c.one k (omega arith) l)))
  ]

-- ---- the lines before
-- no line place is up to where the text begins
none_if : (x y : Bool) (at p : ℕ) (places : List ℕ) → nat_le (at + 1) p ≡ y → p ≤ at → places ≡ []
    → cond x (cond y ((at + 1) ∷ places) places) places ≡ []
none_if true true at p places e h k = absurd (omega (arith, up_to p (at + 1) e))
none_if true false at p places e h k = k
none_if false y at p places e h k = k

none_up_to : (text : List ℕ) (at p : ℕ) → p ≤ at → filter (λ q. nat_le q p) (line_places_from at text) ≡ []
none_up_to [] at p h = refl
none_up_to (b ∷ text) at p h =
    subst (λ places. places ≡ []) (filter_if (λ q. nat_le q p) (is_line_end b) (at + 1)
    (line_places_from (at + 1) text)) (none_if (is_line_end b) (nat_le (at + 1) p) at p _ refl h
    (none_up_to text (at + 1) p (omega arith)))

-- there is none where the last one is what stands for none
no_last_if : (x y : Bool) (at p d : ℕ) (places : List ℕ) → d ≤ at → at + 1 ≤ last_or places (at + 1)
    → last_or (cond x (cond y ((at + 1) ∷ places) places) places) d ≡ d → (last_or places d ≡ d → places ≡ [])
    → cond x (cond y ((at + 1) ∷ places) places) places ≡ []
no_last_if true true at p d places h low e f = absurd (omega arith)
no_last_if true false at p d places h low e f = f e
no_last_if false y at p d places h low e f = f e

no_last : (text : List ℕ) (at p d : ℕ) → d ≤ at → last_or (filter (λ q. nat_le q p) (line_places_from at text)) d ≡ d
    → filter (λ q. nat_le q p) (line_places_from at text) ≡ []
no_last [] at p d h e = refl
no_last (b ∷ text) at p d h e =
    let joined = filter_if (λ q. nat_le q p) (is_line_end b) (at + 1) (line_places_from (at + 1) text) in
    subst (λ places. places ≡ []) joined (no_last_if (is_line_end b) (nat_le (at + 1) p) at p d _ h
    (last text (at + 1) p (at + 1) (omega arith)).low (subst (λ places. last_or places d ≡ d) (sym joined) e)
    (no_last text (at + 1) p d (omega arith)))

-- those up to a place are those before the last of them, and that
more_if : (x y z : Bool) (at p d s : ℕ) (upper lower : List ℕ) → d ≤ at → d < s → nat_le (at + 1) p ≡ y
    → nat_le (at + 1) (s - 1) ≡ z → last_or (cond x (cond y ((at + 1) ∷ upper) upper) upper) d ≡ s
    → at + 1 ≤ last_or upper (at + 1) → (p ≤ at → upper ≡ []) → (s ≤ at + 1 → lower ≡ [])
    → (last_or upper (at + 1) ≡ at + 1 → upper ≡ [])
    → ((c : ℕ) → c ≤ at + 1 → c < s → last_or upper c ≡ s → upper ≡ lower ++ s ∷ [])
    → cond x (cond y ((at + 1) ∷ upper) upper) upper ≡ cond x (cond z ((at + 1) ∷ lower) lower) lower ++ s ∷ []
more_if true true true at p d s upper lower h k y z e low none others empty more =
    ap (λ places. (at + 1) ∷ places) (more (at + 1) (omega arith) (omega (arith, up_to (s - 1) (at + 1) z)) e)
more_if true true false at p d s upper lower h k y z e low none others empty more =
    let near : s ≤ at + 1 = omega (arith, beyond (s - 1) at z) in
    let same : s ≡ at + 1 = omega arith in
    ap (λ places. (at + 1) ∷ places) (empty (e ∙ same)) ∙ ap (λ q. q ∷ []) (sym same)
    ∙ sym (ap (λ places. places ++ s ∷ []) (others near))
more_if true false z at p d s upper lower h k y w e low none others empty more =
    absurd (omega (arith, sym e, ap (λ places. last_or places d) (none (beyond p at y))))
more_if false y z at p d s upper lower h k u w e low none others empty more = more d (omega arith) k e

more_up_to : (text : List ℕ) (at p d s : ℕ) → d ≤ at → d < s
    → last_or (filter (λ q. nat_le q p) (line_places_from at text)) d ≡ s
    → filter (λ q. nat_le q p) (line_places_from at text)
    ≡ filter (λ q. nat_le q (s - 1)) (line_places_from at text) ++ s ∷ []
more_up_to [] at p d s h k e = absurd (omega arith)
more_up_to (b ∷ text) at p d s h k e =
    let places = line_places_from (at + 1) text in
    let joined = filter_if (λ q. nat_le q p) (is_line_end b) (at + 1) places in
    sym joined
    ∙ more_if (is_line_end b) (nat_le (at + 1) p) (nat_le (at + 1) (s - 1)) at p d s _ _ h k refl refl
    (ap (λ qs. last_or qs d) joined ∙ e) (last text (at + 1) p (at + 1) (omega arith)).low
    (λ l. none_up_to text (at + 1) p (omega arith)) (λ l. none_up_to text (at + 1) (s - 1) (omega arith))
    (no_last text (at + 1) p (at + 1) (omega arith))
    (λ c l m f. more_up_to text (at + 1) p c s l m f)
    ∙ ap (λ qs. qs ++ s ∷ []) (filter_if (λ q. nat_le q (s - 1)) (is_line_end b) (at + 1) places)

last_place : (text : List ℕ) (p : ℕ)
    → last_or (filter (λ q. nat_le q p) (line_places text)) 0 ≡ line_place text p (pos 0)
last_place text p = head_reversed (filter (λ q. nat_le q p) (line_places text)) 0

-- the lines back are the line of the pointer, and those back from the end of the line before
pub back_more : (text : List ℕ) (p : ℕ) → 1 ≤ line_place text p (pos 0)
    → places_back text p ≡ line_place text p (pos 0) ∷ places_back text (line_place text p (pos 0) - 1)
back_more text p h =
    let s = line_place text p (pos 0) in
    ap reverse (more_up_to text 0 p 0 s (omega arith) (omega arith) (last_place text p))
    ∙ reverse-append (filter (λ q. nat_le q (s - 1)) (line_places text)) (s ∷ [])

pub line_above : (text : List ℕ) (p m : ℕ) → 1 ≤ line_place text p (pos 0)
    → line_place text p (negsuc m) ≡ get_or (places_back text (line_place text p (pos 0) - 1)) m 0
line_above text p m h = ap (λ places. get_or places (suc m) 0) (back_more text p h)

-- in the first line none is back
pub top_line : (text : List ℕ) (p m : ℕ) → line_place text p (pos 0) ≡ 0 → line_place text p (negsuc m) ≡ 0
top_line text p m e =
    ap (λ places. get_or (reverse places) (suc m) 0) (no_last text 0 p 0 (omega arith) (last_place text p ∙ e))
