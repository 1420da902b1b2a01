-- Matches and searches: what the definition finds is what the relations say.
use Rattle.teco_model.proofs.Prelude.{◌≡◌, ℕ, zero, suc, ◌+◌, ◌-◌, ◌<◌, ◌≤◌, Bool, true, false, cond, List, [], ◌∷◌}
use Rattle.teco_model.proofs.Prelude.{length, drop, Option, Some, None, MatchOption, ap, sym, subst, refl, ◌∙◌, arith}
use Rattle.teco_model.proofs.Prelude.{slice_get_within, slice_get, HasAt, Matches, InTurn, IsMatch, IsFirstFrom}
use Rattle.teco_model.proofs.Prelude.{IsLastBefore, IsNth, Code, ◌>>=◌, Pattern, parts, Registers, Item, Span}
use Rattle.std.proofs.Common.{⊎_elim}
use Rattle.std.proofs.Math.Nat.{eq-or-lt_of_le, le_antisymm}
use Rattle.std.proofs.lemmas.Bool.{cases_order}
use Rattle.std.proofs.lemmas.List.{length-drop}
use Rattle.std.specs.Option.{option_or}
use Rattle.std.specs.Prelude.{not, option_map, option_and_then, fold, flat_map, Result, Ok, Err}
use Rattle.teco_model.specs.Match as model
use Rattle.teco_model.specs.laws.Matching.{IsOne, IsRun, IsMatchAt}
use Rattle.teco_model.specs.laws.Matching.{HasNoneFrom, HasNoneBefore, Finds, OneEnd, HereFinds}
use Rattle.teco_model.specs.laws.Matching.{FirstFinds, LastFinds, ForwardFinds, BackwardFinds, NoneIsShorter}
use Rattle.teco_model.specs.Pattern.{with_part, items_of}
use Rattle.teco_model.specs.declared.pattern.Part.{Part}
use Rattle.teco_model.specs.declared.pattern.Part.TheVariants as part
use Rattle.teco_model.specs.declared.pattern.Item.TheVariants as item

-- what stands at a place is at the front of the text from there on
front_none : (text : List ℕ) (at : ℕ) → drop at text ≡ [] → slice_get text at ≡ None
front_none [] at e = refl
front_none (c ∷ text) zero e = cc
front_none (c ∷ text) (suc at) e = front_none text at e

front_some : (text : List ℕ) (at c : ℕ) (rest : List ℕ) → drop at text ≡ c ∷ rest
    → (slice_get text at ≡ Some c) × (drop (suc at) text ≡ rest)
front_some [] zero c rest e = cc
front_some [] (suc at) c rest e = cc
front_some (b ∷ text) zero c rest e = (cc, cc)
front_some (b ∷ text) (suc at) c rest e = front_some text at c rest e

-- one character, and a run of them
module _ (passes : ℕ → Bool) (text : List ℕ) where
  one_finds : (at : ℕ) (front : List ℕ) → drop at text ≡ front
      → MatchOption (model.one_rest passes front) (HasAt passes text at → ⊥)
      (λ rest. HasAt passes text at × (drop (at + 1) text ≡ rest))
  one_finds at [] e = λ h. let none = front_none text at e in cc
  one_finds at (c ∷ rest) e = by_test (passes c) refl
    where
      there : (slice_get text at ≡ Some c) × (drop (suc at) text ≡ rest)
      there = front_some text at c rest e

      by_test : (b : Bool) → passes c ≡ b
          → MatchOption (cond b (Some rest) None) (HasAt passes text at → ⊥)
          (λ rest. HasAt passes text at × (drop (at + 1) text ≡ rest))
      by_test true passed = let next : at + 1 ≡ suc at = omega arith in
          ((c, there.0, passed), ap (λ n. drop n text) next ∙ there.1)
      by_test false fails = λ h. let found = there.0 in cc

  -- where a run that may be empty ends
  record RunsTo (at : ℕ) (rest : List ℕ) : Type 0 where
    end : ℕ
    ahead : at ≤ end
    each : (i : ℕ) → at ≤ i → i < end → HasAt passes text i
    longest : HasAt passes text end → ⊥
    leaves : drop end text ≡ rest

  run_finds : (front : List ℕ) (at : ℕ) → drop at text ≡ front → RunsTo at (model.run_rest passes front)
  run_finds [] at e = record {
    end = at;
    ahead = omega arith;
    each = λ i from below. absurd (omega arith);
    longest = λ h. let none = front_none text at e in cc;
    leaves = e;
  }
  run_finds (c ∷ rest) at e = by_test (passes c) refl
      (run_finds rest (at + 1) (let next : at + 1 ≡ suc at = omega arith in
      ap (λ n. drop n text) next ∙ (front_some text at c rest e).1))
    where
      there : slice_get text at ≡ Some c
      there = (front_some text at c rest e).0

      by_test : (b : Bool) → passes c ≡ b → RunsTo (at + 1) (model.run_rest passes rest)
          → RunsTo at (cond b (model.run_rest passes rest) (c ∷ rest))
      by_test true passed more = record {
        end = more.end;
        ahead = omega arith;
        each = λ i from below. ⊎_elim (λ (same : at ≡ i). subst (HasAt passes text) same (c, there, passed))
            (λ (later : at < i). more.each i (omega arith) below) (eq-or-lt_of_le from);
        longest = more.longest;
        leaves = more.leaves;
      }
      by_test false fails more = record {
        end = at;
        ahead = omega arith;
        each = λ i from below. absurd (omega arith);
        longest = λ h. let found = there in cc;
        leaves = e;
      }

  one_run : (at a b : ℕ) → IsRun passes text at a → IsRun passes text at b → a ≡ b
  one_run at a b r s = ⊎_elim (λ e. e)
      (λ o. ⊎_elim (λ (less : a < b). absurd (r.longest (s.each a (let some = r.some in omega arith) less)))
      (λ (less : b < a). absurd (s.longest (r.each b (let some = s.some in omega arith) less))) o) (cases_order a b)

  has_within : (at : ℕ) → HasAt passes text at → at < length text
  has_within at h = slice_get_within text at h.0 h.1

  -- the answers that are such
  is_one : (at : ℕ) (o : Option (List ℕ))
      → MatchOption o (HasAt passes text at → ⊥) (λ rest. HasAt passes text at × (drop (at + 1) text ≡ rest))
      → MatchOption o ((end : ℕ) → IsOne passes text at end → ⊥) (λ rest. (end : ℕ) × IsOne passes text at end
      × (drop end text ≡ rest))
  is_one at None h = λ end m. h m.has
  is_one at (Some rest) h = (at + 1, record { has = h.0; ends = refl }, h.1)

  is_run : (at : ℕ) (o : Option (List ℕ))
      → MatchOption o (HasAt passes text at → ⊥) (λ rest. HasAt passes text at × (drop (at + 1) text ≡ rest))
      → MatchOption (option_map (model.run_rest passes) o) ((end : ℕ) → IsRun passes text at end → ⊥)
      (λ rest. (end : ℕ) × IsRun passes text at end × (drop end text ≡ rest))
  is_run at None h = λ end m. h (m.each at (omega arith) m.some)
  is_run at (Some rest) h =
      let run = run_finds rest (at + 1) h.1 in (
        run.end,
        record {
          some = omega arith;
          each = λ i from below. ⊎_elim (λ (same : at ≡ i). subst (HasAt passes text) same h.0)
              (λ (later : at < i). run.each i (omega arith) below) (eq-or-lt_of_le from);
          longest = run.longest;
        },
        run.leaves,
      )

-- an element at a place
item_finds : (i : Item) (text : List ℕ) (at : ℕ)
    → MatchOption (model.item_rest i (drop at text)) ((end : ℕ) → Matches i text at end → ⊥)
    (λ rest. (end : ℕ) × Matches i text at end × (drop end text ≡ rest))
item_finds (item.Is c) text at = is_one (model.is_in c) text at (model.one_rest (model.is_in c) (drop at text))
    (one_finds (model.is_in c) text at (drop at text) refl)
item_finds (item.IsNot c) text at =
    is_one (λ b. not (model.is_in c b)) text at (model.one_rest (λ b. not (model.is_in c b)) (drop at text))
    (one_finds (λ b. not (model.is_in c b)) text at (drop at text) refl)
item_finds item.Blanks text at =
    is_run model.is_space_or_tab text at (model.one_rest model.is_space_or_tab (drop at text))
    (one_finds model.is_space_or_tab text at (drop at text) refl)

one_item : (i : Item) (text : List ℕ) (at a b : ℕ) → Matches i text at a → Matches i text at b → a ≡ b
one_item (item.Is c) text at a b m n = m.ends ∙ sym n.ends
one_item (item.IsNot c) text at a b m n = m.ends ∙ sym n.ends
one_item item.Blanks text at a b m n = one_run model.is_space_or_tab text at a b m n

item_within : (i : Item) (text : List ℕ) (at end : ℕ) → Matches i text at end → (at < end) × (end ≤ length text)
item_within (item.Is c) text at end m = let within = has_within (model.is_in c) text at m.has in let e = m.ends in
    (omega arith, omega arith)
item_within (item.IsNot c) text at end m = let within = has_within (λ b. not (model.is_in c b)) text at m.has in let e =
    m.ends in (omega arith, omega arith)
item_within item.Blanks text at end m =
    let some : at < end = m.some in
    let within = has_within model.is_space_or_tab text (end - 1) (m.each (end - 1) (omega arith) (omega arith)) in
    (some, omega arith)

-- elements in turn
later_finds : (i : Item) (items : List Item) (text : List ℕ) (at middle : ℕ) → Matches i text at middle
    → (o : Option (List ℕ)) → MatchOption o ((end : ℕ) → InTurn items text middle end → ⊥)
    (λ rest. (end : ℕ) × InTurn items text middle end × (drop end text ≡ rest))
    → MatchOption o ((end : ℕ) → InTurn (i ∷ items) text at end → ⊥) (λ rest. (end : ℕ) × InTurn (i ∷ items) text at end
    × (drop end text ≡ rest))
later_finds i items text at middle first None h =
    λ end m. h end (subst (λ k. InTurn items text k end) (one_item i text at m.0 middle m.1 first) m.2)
later_finds i items text at middle first (Some rest) h = (h.0, (middle, first, h.1), h.2)

turn_finds : (items : List Item) (text : List ℕ) (at : ℕ)
    → MatchOption (model.match_rest items (drop at text)) ((end : ℕ) → InTurn items text at end → ⊥)
    (λ rest. (end : ℕ) × InTurn items text at end × (drop end text ≡ rest))
turn_finds [] text at = (at, refl, refl)
turn_finds (i ∷ items) text at =
    by_first (model.item_rest i (drop at text)) (item_finds i text at) (turn_finds items text)
  where
    by_first : (o : Option (List ℕ))
        → MatchOption o ((end : ℕ) → Matches i text at end → ⊥) (λ rest. (end : ℕ) × Matches i text at end
        × (drop end text ≡ rest)) → ((middle : ℕ) → MatchOption (model.match_rest items (drop middle text)) ((end : ℕ)
        → InTurn items text middle end → ⊥) (λ rest. (end : ℕ) × InTurn items text middle end × (drop end text ≡ rest)))
        → MatchOption (option_and_then (model.match_rest items) o) ((end : ℕ) → InTurn (i ∷ items) text at end → ⊥)
        (λ rest. (end : ℕ) × InTurn (i ∷ items) text at end × (drop end text ≡ rest))
    by_first None h more = λ end m. h m.0 m.1
    by_first (Some rest) h more = later_finds i items text at h.0 h.1 (model.match_rest items rest)
        (subst (λ front. MatchOption (model.match_rest items front) ((end : ℕ) → InTurn items text h.0 end → ⊥)
        (λ rest. (end : ℕ) × InTurn items text h.0 end × (drop end text ≡ rest))) h.2 (more h.0))

one_turn : (items : List Item) (text : List ℕ) (at a b : ℕ) → InTurn items text at a → InTurn items text at b → a ≡ b
one_turn [] text at a b m n = sym m ∙ n
one_turn (i ∷ items) text at a b m n =
    one_turn items text n.0 a b (subst (λ k. InTurn items text k a) (one_item i text at m.0 n.0 m.1 n.1) m.2) n.2

turn_within : (items : List Item) (text : List ℕ) (at end : ℕ) → at ≤ length text → InTurn items text at end
    → (at ≤ end) × (end ≤ length text)
turn_within [] text at end within m = (omega arith, omega arith)
turn_within (i ∷ items) text at end within m =
    let first = item_within i text at m.0 m.1 in
    let later = turn_within items text m.0 end first.1 m.2 in
    (omega arith, omega arith)

-- a match has a character
match_within : (pattern : Pattern) (text : List ℕ) (span : Span) → IsMatch pattern text span
    → (span.start < span.end) × (span.end ≤ length text)
match_within [] text span m = absurd m
match_within (i ∷ items) text span m =
    let first = item_within i text span.start m.0 m.1 in
    let later = turn_within items text m.0 span.end first.1 m.2 in
    (omega arith, omega arith)

pub one_end : OneEnd
one_end [] text a b m n e = absurd m
one_end (i ∷ items) text a b m n e =
    one_turn (i ∷ items) text b.start a.end b.end (subst (λ s. InTurn (i ∷ items) text s a.end) e m) n

pub here_finds : HereFinds
unfolding model.here
here_finds [] text at = λ span m. m.matches
here_finds (i ∷ items) text at = by_rest (model.match_rest (i ∷ items) (drop at text)) (turn_finds (i ∷ items) text at)
  where
    by_rest : (o : Option (List ℕ))
        → MatchOption o ((end : ℕ) → InTurn (i ∷ items) text at end → ⊥)
        (λ rest. (end : ℕ) × InTurn (i ∷ items) text at end × (drop end text ≡ rest))
        → Finds (IsMatchAt (i ∷ items) text at)
        (option_map (λ rest. record { start = at; end = length text - length rest }) o)
    by_rest None h = λ span m. h span.end (subst (λ s. InTurn (i ∷ items) text s span.end) m.starts m.matches)
    by_rest (Some rest) h =
        let within = match_within (i ∷ items) text (record { start = at; end = h.0 }) h.1 in
        let left = ap length h.2 in
        let e : h.0 ≡ length text - length rest = omega (arith, length-drop h.0 text) in
        record { starts = refl; matches = subst (λ end. InTurn (i ∷ items) text at end) e h.1 }

module _ (pattern : Pattern) (text : List ℕ) where
  -- the first of some places
  among_finds : (places at : ℕ) → MatchOption (model.first_among pattern text at places) ((span : Span)
      → IsMatch pattern text span → at ≤ span.start → span.start < at + places → ⊥) (IsFirstFrom pattern text at)
  among_finds zero at = λ span m from below. absurd (omega arith)
  among_finds (suc places) at = by_here (model.here pattern text at) (here_finds pattern text at)
      (model.first_among pattern text (at + 1) places) (among_finds places (at + 1))
    where
      by_here : (o : Option Span) → Finds (IsMatchAt pattern text at) o → (p : Option Span)
          → MatchOption p ((span : Span) → IsMatch pattern text span → at + 1 ≤ span.start
          → span.start < at + 1 + places → ⊥) (IsFirstFrom pattern text (at + 1))
          → MatchOption (option_or o p) ((span : Span) → IsMatch pattern text span → at ≤ span.start
          → span.start < at + suc places → ⊥) (IsFirstFrom pattern text at)
      by_here (Some own) h p more = record {
        from = let e = h.starts in omega arith;
        matches = h.matches;
        least = λ other m from. let e = h.starts in omega arith;
      }
      by_here None h None more = λ span m from below.
          ⊎_elim (λ (same : at ≡ span.start). h span (record { starts = sym same; matches = m }))
          (λ (later : at < span.start). more span m (omega arith) (omega arith)) (eq-or-lt_of_le from)
      by_here None h (Some next) more = record {
        from = let from = more.from in omega arith;
        matches = more.matches;
        least = λ other m from. ⊎_elim (λ (same : at ≡ other.start). absurd
            (h other (record { starts = sym same; matches = m })))
            (λ (later : at < other.start). more.least other m (omega arith)) (eq-or-lt_of_le from);
      }

  first_is : (at : ℕ) → MatchOption (model.first_from pattern text at) (HasNoneFrom pattern text at)
      (IsFirstFrom pattern text at)
  first_is at = by_answer (model.first_from pattern text at) (among_finds (length text - at) at)
    where
      by_answer : (o : Option Span) → MatchOption o ((span : Span) → IsMatch pattern text span → at ≤ span.start
          → span.start < at + (length text - at) → ⊥) (IsFirstFrom pattern text at)
          → MatchOption o (HasNoneFrom pattern text at) (IsFirstFrom pattern text at)
      by_answer None h = λ span m from. let within = match_within pattern text span m in h span m from (omega arith)
      by_answer (Some own) h = h

  one_first : (at : ℕ) (a b : Span) → IsFirstFrom pattern text at a → IsFirstFrom pattern text at b → a.end ≡ b.end
  one_first at a b m n = one_end pattern text a b m.matches n.matches
      (le_antisymm (m.least b n.matches n.from) (n.least a m.matches m.from))

  first_answer : (at : ℕ) → Finds (IsFirstFrom pattern text at) (model.first_from pattern text at)
  first_answer at = by_answer (model.first_from pattern text at) (first_is at)
    where
      by_answer : (o : Option Span) → MatchOption o (HasNoneFrom pattern text at) (IsFirstFrom pattern text at)
          → Finds (IsFirstFrom pattern text at) o
      by_answer None h = λ span m. h span m.matches m.from
      by_answer (Some own) h = h

  -- the last before a place
  last_is : (at : ℕ) → MatchOption (model.last_before pattern text at) (HasNoneBefore pattern text at)
      (IsLastBefore pattern text at)
  last_is zero = λ span m before. absurd (omega arith)
  last_is (suc at) = by_here (model.here pattern text at) (here_finds pattern text at)
      (model.last_before pattern text at) (last_is at)
    where
      by_here : (o : Option Span) → Finds (IsMatchAt pattern text at) o → (p : Option Span)
          → MatchOption p (HasNoneBefore pattern text at) (IsLastBefore pattern text at)
          → MatchOption (option_or o p) (HasNoneBefore pattern text (suc at)) (IsLastBefore pattern text (suc at))
      by_here (Some own) h p more = record {
        before = let e = h.starts in omega arith;
        matches = h.matches;
        greatest = λ other m before. let e = h.starts in omega arith;
      }
      by_here None h None more = λ span m before.
          ⊎_elim (λ (same : span.start ≡ at). h span (record { starts = same; matches = m }))
          (λ (earlier : span.start < at). more span m earlier) (eq-or-lt_of_le (omega arith))
      by_here None h (Some next) more = record {
        before = let before = more.before in omega arith;
        matches = more.matches;
        greatest = λ other m before. ⊎_elim
            (λ (same : other.start ≡ at). absurd (h other (record { starts = same; matches = m })))
            (λ (earlier : other.start < at). more.greatest other m earlier) (eq-or-lt_of_le (omega arith));
      }

  one_last : (at : ℕ) (a b : Span) → IsLastBefore pattern text at a → IsLastBefore pattern text at b → a.start ≡ b.start
  one_last at a b m n = le_antisymm (n.greatest a m.matches m.before) (m.greatest b n.matches n.before)

  last_answer : (at : ℕ) → Finds (IsLastBefore pattern text at) (model.last_before pattern text at)
  last_answer at = by_answer (model.last_before pattern text at) (last_is at)
    where
      by_answer : (o : Option Span) → MatchOption o (HasNoneBefore pattern text at) (IsLastBefore pattern text at)
          → Finds (IsLastBefore pattern text at) o
      by_answer None h = λ span m. h span m.matches m.before
      by_answer (Some own) h = h

-- the nth, where all that are such from a place lead to one place
module _ (search : ℕ → Option Span) (onward : Span → ℕ) (Such : ℕ → Span → Type 0) (finds : (at : ℕ)
    → Finds (Such at) (search at)) (one : (at : ℕ) (a b : Span) → Such at a → Such at b → onward a ≡ onward b) where
  later_is : (at n : ℕ) (own : Span) → Such at own → (o : Option Span)
      → Finds (IsNth Such onward (onward own) (suc n)) o → Finds (IsNth Such onward at (suc (suc n))) o
  later_is at n own such None h =
      λ span m. h span (subst (λ from. IsNth Such onward from (suc n) span) (one at m.0 own m.1 such) m.2)
  later_is at n own such (Some span) h = (own, such, h)

  nth_is : (n at : ℕ) → Finds (IsNth Such onward at n) (model.nth_match search onward at n)
  nth_is zero at = λ span m. m
  nth_is (suc zero) at = finds at
  nth_is (suc (suc n)) at = by_own (search at) (finds at) (nth_is (suc n))
    where
      by_own : (o : Option Span) → Finds (Such at) o
          → ((from : ℕ) → Finds (IsNth Such onward from (suc n)) (model.nth_match search onward from (suc n)))
          → Finds (IsNth Such onward at (suc (suc n)))
          (option_and_then (λ last. model.nth_match search onward (onward last) (suc n)) o)
      by_own None h more = λ span m. h m.0 m.1
      by_own (Some own) h more = later_is at n own h (model.nth_match search onward (onward own) (suc n))
          (more (onward own))

pub first_finds : FirstFinds
first_finds pattern text at = first_is pattern text at

pub last_finds : LastFinds
last_finds pattern text at = last_is pattern text at

pub forward_finds : ForwardFinds
forward_finds pattern text at n = nth_is (model.first_from pattern text) (λ last. last.end) (IsFirstFrom pattern text)
    (first_answer pattern text) (one_first pattern text) n at

pub backward_finds : BackwardFinds
backward_finds pattern text at n =
    nth_is (model.last_before pattern text) (λ last. last.start) (IsLastBefore pattern text) (last_answer pattern text)
    (one_last pattern text) n at

-- a match has a character for each element
turn_long : (items : List Item) (text : List ℕ) (at end : ℕ) → InTurn items text at end → at + length items ≤ end
turn_long [] text at end m = omega arith
turn_long (i ∷ items) text at end m =
    let first = item_within i text at m.0 m.1 in
    let later = turn_long items text m.0 end m.2 in
    omega arith

match_long : (pattern : Pattern) (text : List ℕ) (span : Span) → IsMatch pattern text span
    → span.start + length pattern ≤ span.end
match_long [] text span m = absurd m
match_long (i ∷ items) text span m = turn_long (i ∷ items) text span.start span.end m

-- a search text that has a least length has as many elements
no_least : (ps : List Part) → fold with_part None ps ≡ None
no_least [] = refl
no_least (part.Item i ∷ ps) = no_least ps
no_least (part.Register r ∷ ps) = no_least ps

module _ (registers : Registers) (exact : Bool) where
  item_count : (ps : List Part) (k n : ℕ) → fold with_part (Some k) ps ≡ Some n
      → length (flat_map (items_of registers exact) ps) + k ≡ n
  item_count [] k n e = let same : k ≡ n = cc in omega arith
  item_count (part.Item i ∷ ps) k n e = let more = item_count ps (k + 1) n e in omega arith
  item_count (part.Register r ∷ ps) k n e = let none = no_least ps in cc

  pattern_count : (r : Result (List Part) Code) (n : ℕ) (p : Pattern)
      → (r >>= (λ ps. Ok (fold with_part (Some 0) ps))) ≡ Ok (Some n)
      → (r >>= (λ ps. Ok (flat_map (items_of registers exact) ps))) ≡ Ok p → length p ≡ n
  pattern_count (Err c) n p e f = cc
  pattern_count (Ok ps) n p e f =
      let least : fold with_part (Some 0) ps ≡ Some n = cc in
      let items : flat_map (items_of registers exact) ps ≡ p = cc in
      let count = item_count ps 0 n least in
      omega (arith, ap length items)

pub none_is_shorter : NoneIsShorter
none_is_shorter registers exact search least p e f text span m =
    let count = pattern_count registers exact (parts search) least p e f in
    let long = match_long p text span m in
    omega arith
