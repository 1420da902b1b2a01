-- Where searches look, and what they answer.
use Rattle.teco_search_outcomes.proofs.Prelude.{◌≡◌, ℕ, zero, suc, ◌+◌, ◌<◌, ◌≤◌, ℤ, pos, negsuc, ◌≤ℤ◌, List, [], ◌∷◌}
use Rattle.teco_search_outcomes.proofs.Prelude.{◌++◌, length, Bool, true, false, is_some, Option, Some, None, Result}
use Rattle.teco_search_outcomes.proofs.Prelude.{Ok, Err, drop, refl, sym, ap, subst, ◌∙◌, arith, inl, inr, ints}
use Rattle.teco_search_outcomes.proofs.Prelude.{nat_tests, All, Any, ok_or, flat_map, is_zero, IsWhole, Code, Term}
use Rattle.teco_search_outcomes.proofs.Prelude.{Valuation, value, Arguments, levels_after_taking, no_arguments, ◌>>=◌}
use Rattle.teco_search_outcomes.proofs.Prelude.{Element, element_at, Pattern, items_of, pattern, parts, kept_after}
use Rattle.teco_search_outcomes.proofs.Prelude.{kept_at, pattern_of, search_text_of, Miss, miss_of, miss_where}
use Rattle.teco_search_outcomes.proofs.Prelude.{search_reply, Kept, World, outcome_at, reply_of, step}
use Rattle.teco_search_outcomes.proofs.Prelude.{text_after_replacement, LIMIT, Search, Part, Span, IsFirstFrom, IsMatch}
use Rattle.teco_search_outcomes.proofs.Prelude.{Case, TakenForms, Guarded, Outcomes, value_if, IsTaken, taken_by}
use Rattle.teco_search_outcomes.proofs.Prelude.{IsGuarded, Succeeds, Point, IsTrueOf, Describes, among, Aim, Direction}
use Rattle.teco_search_outcomes.proofs.Prelude.{IsTold, with_kept, Goes, StepsTo, loops_in, place_away, point_of, Aims}
use Rattle.teco_search_outcomes.proofs.Prelude.{Ends, IsAsked, IsFoundBy, IsMissed, IsOf, IsReplacedBy}
use Rattle.teco_search_outcomes.proofs.Prelude.{IsWarned, warned}
use Rattle.std.specs.Prelude.{IfOk, if◌then◌else◌, nat_le, nat_lt, not, ◌||◌}
use Rattle.teco_base.specs.declared.code.Code.TheVariants as code
use Rattle.teco_linear.specs.Implied as linear
use Rattle.teco_model.specs.Ahead.{Whole, readings}
use Rattle.teco_model.specs.Checked.{◌>>-◌}
use Rattle.teco_model.specs.Flow.{turn_along, turn_to}
use Rattle.teco_model.specs.Going as going
use Rattle.teco_model.specs.Match.{backward, forward}
use Rattle.teco_model.specs.Search.{Finding, Found, Missed, count_of, finding_of, match_of}
use Rattle.teco_model.specs.Search.{replacement, search}
use Rattle.teco_model.specs.Search.{text_or}
use Rattle.teco_model.specs.Searching.{found, found_in_buffer, has_colon, kept_by_miss}
use Rattle.teco_model.specs.Searching.{miss_within}
use Rattle.teco_model.specs.Searching as miss
use Rattle.teco_model.specs.Skip.{route_of, skip_of, skip_on}
use Rattle.teco_model.specs.State.{Frame}
use Rattle.teco_model.specs.declared.flow.Loop.{Loop}
use Rattle.teco_model.specs.declared.kind.Kind.{Kind}
use Rattle.teco_model.specs.declared.kind.Kind.TheVariants as kind
use Rattle.teco_model.specs.declared.skip.Skip.{Skip}
use Rattle.teco_model.specs.laws.Matching.{Finds, IsForward, IsBackward, IsLastBefore, IsMatchAt}
use Rattle.teco_model.specs.laws.Matching.{IsNth}
use Rattle.teco_model.proofs.Searches.{backward_finds, forward_finds, here_finds}
use Rattle.teco_flow_outcomes.specs.declared.ranges.NumberRange.TheVariants as range
use Rattle.teco_flow_outcomes.specs.Flow.{IsLeft, turned}
use Rattle.teco_flow_outcomes.specs.Law.{Law}
use Rattle.teco_search_outcomes.specs.Searches.{Answers, HasMissed, HaveRoom, IsBegun, IsForeseen}
use Rattle.teco_search_outcomes.specs.Searches.{Leaves, Looks}
use Rattle.teco_search_outcomes.specs.Searches.{SearchLaw, Searches, aimed}
use Rattle.teco_search_outcomes.specs.declared.searches.BegunSearch.{BegunSearch}
use Rattle.teco_search_outcomes.proofs.Matching.{match_lies}

-- ---- where a search looks
nth_ahead : (p : Pattern) (text : List ℕ) (n at : ℕ) (span : Span)
    → IsNth (IsFirstFrom p text) (λ last. last.end) at n span → IsMatch p text span × (at ≤ span.start)
nth_ahead p text zero at span m = absurd m
nth_ahead p text (suc zero) at span m = (m.matches, m.from)
nth_ahead p text (suc (suc n)) at span m =
    let last : IsFirstFrom p text at m.0 = m.1 in
    let later = nth_ahead p text (suc n) m.0.end span m.2 in
    (later.0, omega (arith, later.1, last.from, (match_lies p text m.0 last.matches).some))

nth_back : (p : Pattern) (text : List ℕ) (n at : ℕ) (span : Span)
    → IsNth (IsLastBefore p text) (λ last. last.start) at n span → IsMatch p text span × (span.start < at)
nth_back p text zero at span m = absurd m
nth_back p text (suc zero) at span m = (m.matches, m.before)
nth_back p text (suc (suc n)) at span m =
    let last : IsLastBefore p text at m.0 = m.1 in
    let later = nth_back p text (suc n) m.0.start span m.2 in
    (later.0, omega (arith, later.1, last.before))

ahead : (p : Pattern) (text : List ℕ) (at n : ℕ) (span : Span) → forward p text at n ≡ Some span
    → IsMatch p text span × (at ≤ span.start)
ahead p text at n span e =
    nth_ahead p text n at span (subst (λ o. Finds (IsForward p text at n) o) e (forward_finds p text at n))

back : (p : Pattern) (text : List ℕ) (at n : ℕ) (span : Span) → backward p text at n ≡ Some span
    → IsMatch p text span × (span.start < at)
back p text at n span e =
    nth_back p text n at span (subst (λ o. Finds (IsBackward p text at n) o) e (backward_finds p text at n))

pub looks_ahead : (colons n : ℕ) → Looks (aimed false colons) colons (pos n)
looks_ahead zero n p text at span e = ahead p text at n span e
looks_ahead (suc zero) n p text at span e = ahead p text at n span e
looks_ahead (suc (suc colons)) n p text at span e =
    let m : IsMatchAt p text at span = subst (λ o. Finds (IsMatchAt p text at) o) e (here_finds p text at) in
    (m.matches, m.starts)

pub looks_back : (colons n : ℕ) → Looks (aimed true colons) colons (negsuc n)
looks_back zero n p text at span e = back p text at (suc n) span e
looks_back (suc zero) n p text at span e = back p text at (suc n) span e
looks_back (suc (suc colons)) n p text at span e =
    let m : IsMatchAt p text at span = subst (λ o. Finds (IsMatchAt p text at) o) e (here_finds p text at) in
    (m.matches, m.starts)

pub aims_once : (colons : ℕ) (aim : Aim) → aim.direction ≡ aimed false colons → Aims None colons aim
aims_once colons aim towards n v h =
    (pos 1, refl, subst (λ d. Looks d colons (pos 1)) (sym towards) (looks_ahead colons 1))

pub aims_ahead : (form : List Term) (colons : ℕ) (aim : Aim) → aim.direction ≡ aimed false colons
    → ((n : ℕ) (v : Valuation) → All (linear.Holds n v) aim.conditions.items → pos 1 ≤ℤ value form n v)
    → Aims (Some form) colons aim
aims_ahead form colons aim towards least n v h = by (value form n v) (least n v h) where
  by : (x : ℤ) → pos 1 ≤ℤ x → (count : ℤ) × (count_of None (Some x) ≡ Ok count) × Looks aim.direction colons count
  by (pos zero) l = absurd (omega (arith, ints))
  by (pos (suc k)) l =
      (pos (suc k), refl, subst (λ d. Looks d colons (pos (suc k))) (sym towards) (looks_ahead colons (suc k)))
  by (negsuc k) l = absurd (omega (arith, ints))

pub aims_back : (form : List Term) (colons : ℕ) (aim : Aim) → aim.direction ≡ aimed true colons
    → ((n : ℕ) (v : Valuation) → value form n v ≤ℤ negsuc 0) → Aims (Some form) colons aim
aims_back form colons aim towards most n v h = by (value form n v) (most n v) where
  by : (x : ℤ) → x ≤ℤ negsuc 0 → (count : ℤ) × (count_of None (Some x) ≡ Ok count) × Looks aim.direction colons count
  by (pos k) l = absurd (omega (arith, ints))
  by (negsuc k) l =
      (negsuc k, refl, subst (λ d. Looks d colons (negsuc k)) (sym towards) (looks_back colons k))

pub aims_known : (form : List Term) (number : ℤ) (back : Bool) (colons : ℕ) (aim : Aim)
    → aim.direction ≡ aimed back colons → ((n : ℕ) (v : Valuation) → value form n v ≡ number)
    → (back ≡ true → number ≤ℤ negsuc 0) → (back ≡ false → pos 1 ≤ℤ number) → Aims (Some form) colons aim
aims_known form number true colons aim towards is most least =
    aims_back form colons aim towards (λ n v. subst (λ x. x ≤ℤ negsuc 0) (sym (is n v)) (most refl))
aims_known form number false colons aim towards is most least =
    aims_ahead form colons aim towards (λ n v h. subst (λ x. pos 1 ≤ℤ x) (sym (is n v)) (least refl))

-- ---- what is answered
pub answers_both : (behind start good bad : Case) (all : Outcomes) → IsTold behind (Some (negsuc 0)) good
    → IsTold start (Some (pos 0)) bad → all.cases.items ≡ good ∷ bad ∷ [] → Answers behind start all
answers_both behind start good bad all told_good told_bad e = record {
  yes = λ n s d. among n all good [] (bad ∷ []) _ e (told_good n d.0 s d.1);
  no = λ n s d. among n all bad (good ∷ []) [] _ e (told_bad n d.0 s d.1);
}

pub leaves_both : (found missed late behind gone : Case) (form : List Term) (all : Outcomes)
    → IsTold found None behind → IsWarned missed late → IsLeft late range.Any form gone
    → all.cases.items ≡ behind ∷ [] → all.away.items ≡ gone ∷ [] → Leaves found missed all
leaves_both found missed late behind gone form all told warns left e f = record {
  on = λ n s d. among n all behind [] [] _ e (told n d.0 s d.1);
  out = λ n s loop outer d h.
      let w = warns n s d in
      subst (Any (λ made. Describes n made (turned (warned s) no_arguments outer))) (sym f)
      (0, gone, omega arith, refl, left n w.0 (warned s) loop outer w.1 h tt);
}

-- ---- what a search comes to
-- what is kept where it is missed
missed_kept : (colons : ℕ) (kept : Kept) (text : List ℕ)
    → HasMissed colons kept (kept_by_miss colons (record kept { search_text = text }))
missed_kept zero kept text = record { text = refl; pointer = refl; registers = refl; last = refl; typed = refl }
missed_kept (suc zero) kept text = record { text = refl; pointer = refl; registers = refl; last = refl; typed = refl }
missed_kept (suc (suc colons)) kept text =
    record { text = refl; pointer = refl; registers = refl; last = refl; typed = refl }

pub own_text : (text last : List ℕ) → 1 ≤ length text → text_or text last ≡ text
own_text [] last h = absurd (omega arith)
own_text (c ∷ text) last h = refl

-- what is found by a search is kept, and a case describes the state with it
abbrev pub Keeps : Search → Element → List Part → Direction → Case → Case → List Guarded → Type 0
Keeps x e ps direction case behind guarded =
    (n : ℕ) (v : Valuation) (s : Point) (span : Span) (text : List ℕ) → IsTrueOf n v case s → IsWhole s.kept
    → All (IsGuarded n v) guarded → IsOf ps direction s.kept span
    → (kept : Kept) × (kept_after x e span (record s.kept { search_text = text }) ≡ Ok kept)
    × Describes n behind (with_kept s kept)

module _ (x : Search) (answering : Bool) (e : Element) (taken : TakenForms) (case behind start : Case) (all : Outcomes)
    (ps : List Part) (aim : Aim) (first : is_some taken.first ≡ false) (some : 1 ≤ length e.text)
    (read : parts e.text ≡ Ok ps) (aims : Aims taken.value e.colons aim) (missed : IsMissed e.colons case start)
    (keeps : Keeps x e ps aim.direction case behind all.guarded.items)
    (aimed_by : (n : ℕ) (v : Valuation) → All (linear.Holds n v) all.conditions.items
    → All (linear.Holds n v) aim.conditions.items)
    (ends : Ends answering behind start all) where
  -- with what is found, and with nothing
  foreseen_found : (n : ℕ) (s : Point) (kept : Kept) (b : Bool) → Ends b behind start all
      → Describes n behind (with_kept s kept) → IsForeseen b n all e.colons s (Found kept)
  foreseen_found n s kept true h d = h.yes n (with_kept s kept) d
  foreseen_found n s kept false h d = h.on n (with_kept s kept) d

  foreseen_missed : (n : ℕ) (v : Valuation) (s : Point) (text : List ℕ) (b : Bool) → Ends b behind start all
      → IsTrueOf n v case s → IsWhole s.kept
      → IsForeseen b n all e.colons s (Missed (record s.kept { search_text = text }))
  foreseen_missed n v s text true h true_of whole =
      h.no n (with_kept s (kept_by_miss e.colons (record s.kept { search_text = text })))
      (missed n v s (kept_by_miss e.colons (record s.kept { search_text = text })) true_of whole
      (missed_kept e.colons s.kept text))
  foreseen_missed n v s text false h true_of whole = λ loop outer same.
      h.out n (with_kept s (kept_by_miss e.colons (record s.kept { search_text = text }))) loop outer
      (missed n v s (kept_by_miss e.colons (record s.kept { search_text = text })) true_of whole
      (missed_kept e.colons s.kept text)) same

  pub searches : Searches x answering e taken case all
  searches n v s begins = counted (aims n v (aimed_by n v begins.conditions)) where
    P : Result Finding Code → Type 0
    P r = Succeeds (IsForeseen answering n all e.colons s) r

    exact : Bool
    exact = not (is_zero s.kept.mode)

    kept : Kept
    kept = record s.kept { search_text = search_text_of e.text s.kept }

    sought : Pattern
    sought = flat_map (items_of s.kept.registers exact) ps

    by_match : (count : ℤ) → Looks aim.direction e.colons count → (o : Option Span)
        → match_of sought e.colons count s.kept.text s.kept.pointer ≡ o → P (finding_of x e o kept)
    by_match count looks None f =
        foreseen_missed n v s (search_text_of e.text s.kept) answering ends begins.true_of begins.whole
    by_match count looks (Some span) f =
        let l = looks sought s.kept.text s.kept.pointer span f in
        let k = keeps n v s span (search_text_of e.text s.kept) begins.true_of begins.whole begins.guarded
        (record { exact = exact; matches = l.0; lies = l.1 }) in
        subst (λ r. P (r >>= (λ found. Ok (Found found)))) (sym k.1) (foreseen_found n s k.0 answering ends k.2)

    pattern_is : pattern_of (search_text_of e.text s.kept) s.kept ≡ Ok sought
    pattern_is =
        ap (λ t. pattern s.kept.registers exact t) (own_text e.text s.kept.search_text some)
        ∙ ap (λ r. r >>= (λ qs. Ok (flat_map (items_of s.kept.registers exact) qs))) read

    first_none : (o : Option (List Term)) → is_some o ≡ false → value_if o n v ≡ None
    first_none None h = refl
    first_none (Some form) h = absurd cc

    counted : ((count : ℤ) × (count_of None (value_if taken.value n v) ≡ Ok count)
        × Looks aim.direction e.colons count) → P (search x e (taken_by taken n v) s.kept)
    counted c =
        let count_is : count_of (value_if taken.first n v) (value_if taken.value n v) ≡ Ok c.0 =
        ap (λ o. count_of o (value_if taken.value n v)) (first_none taken.first first) ∙ c.1 in
        subst P (sym (ap (λ r. r >>= (λ count. pattern_of (search_text_of e.text s.kept) s.kept >>= (λ p.
        finding_of x e (match_of p e.colons count s.kept.text s.kept.pointer) kept))) count_is
        ∙ ap (λ r. r >>= (λ p. finding_of x e (match_of p e.colons c.0 s.kept.text s.kept.pointer) kept)) pattern_is))
        (by_match c.0 c.2 (match_of sought e.colons c.0 s.kept.text s.kept.pointer) refl)

pub keeps_found : (x : Search) (e : Element) (case behind : Case) (ps : List Part) (direction : Direction)
    (guarded : List Guarded) → ((span : Span) (kept : Kept) → kept_after x e span kept ≡ Ok (kept_at span kept))
    → IsFoundBy ps direction case behind → Keeps x e ps direction case behind guarded
keeps_found x e case behind ps direction guarded same by n v s span text true_of whole holds of =
    let kept = kept_at span (record s.kept { search_text = text }) in (
      kept,
      same span (record s.kept { search_text = text }),
      by n v s span kept true_of whole of
          (record { text = refl; pointer = refl; registers = refl; last = refl; typed = refl }),
    )

pub keeps_replaced : (x : Search) (e : Element) (case behind : Case) (ps : List Part) (direction : Direction)
    (guarded : List Guarded)
    → ((span : Span) (kept : Kept) → kept_after x e span kept ≡ replacement span e.second kept)
    → IsReplacedBy ps direction e.second case behind → HaveRoom case behind guarded
    → Keeps x e ps direction case behind guarded
keeps_replaced x e case behind ps direction guarded same by room n v s span text true_of whole holds of =
    let new = text_after_replacement s.kept.text span.start span.end e.second in
    let kept = record s.kept {
      search_text = text;
      text = new;
      pointer = span.start + length e.second;
      last_length = length e.second;
    } in
    let d = by n v s span kept true_of whole of
    (record { text = refl; pointer = refl; registers = refl; last = refl; typed = refl })
    in
    let short : length new ≤ LIMIT = room n v (with_kept s kept) d holds in
    let fits : nat_le (length new) LIMIT ≡ true = grind (arith, nat_tests) in (
      kept,
      same span (record s.kept { search_text = text }) ∙ ap (λ b. if b then Ok kept else Err code.Ful) fits,
      (d.0, d.2),
    )

-- ---- the law
leaves_one : (x : Search) (e : Element) (text : List ℕ) → e.kind ≡ kind.Search x
    → (skip_of text (Whole e)).leaves ≡ 1
leaves_one x e text is = ap (λ (k : Kind). (skip_on (route_of k) e.text (readings text e.next)).leaves) is

-- where a search leaves its iteration, it goes there
pub left_by : (x : Search) (e : Element) (frame : Frame) (loop : Loop) (inner : List Loop) (there : ℕ)
    → e.kind ≡ kind.Search x → has_colon e frame ≡ false → frame.loops ≡ loop ∷ inner
    → (skip_of frame.text (Whole e)).to ≡ Some there
    → miss_of e frame ≡ miss.Leaves (turn_to no_arguments there inner frame)
left_by x e frame loop inner there is colon loops to =
    ap (λ b. miss_where b e frame) colon ∙ ap (λ ls. miss_within ls e frame) loops
    ∙ ap miss.leaving_by (along (skip_of frame.text (Whole e)) to (leaves_one x e frame.text is)) where
      along : (skip : Skip) → skip.to ≡ Some there → skip.leaves ≡ 1
          → turn_along code.Utc skip no_arguments frame ≡ Ok (turn_to no_arguments there inner frame)
      along skip f g =
          ap (λ o. ok_or o code.Utc >>= (λ place. Ok (turn_to no_arguments place
          (drop skip.leaves frame.loops) frame))) f
          ∙ ap (λ k. Ok (turn_to no_arguments there (drop k frame.loops) frame)) g
          ∙ ap (λ ls. Ok (turn_to no_arguments there (drop 1 ls) frame)) loops

pub nonempty : {X : Type 0} (xs : List X) → 1 ≤ length xs → (x : X) × (rest : List X) × (xs ≡ x ∷ rest)
nonempty [] h = absurd (omega arith)
nonempty (x ∷ xs) h = (x, xs, refl)

-- S and FS do as they are foretold, where they are read
pub search_law : (x : Search) (answering : Bool) (e : Element) (case : Case) (taken : TakenForms) (all : Outcomes)
    → ((m : Miss) (left : Option ℕ) (arguments : Arguments) (world : World)
    → search_reply x e m left arguments world ≡ found_in_buffer x e m left arguments world)
    → e.kind ≡ kind.Search x → IsTaken case taken → Searches x answering e taken case all
    → SearchLaw answering e case all
unfolding step reply_of
search_law x answering e case taken all replies is takes foretold n v s steps origin reads asked begins =
    let point = point_of steps origin s in
    let m = miss_of e s.frames.running in
    let r = search x e (taken_by taken n v) s.world.kept in
    subst (StepsTo (Goes n all e steps origin s))
    (sym (ap (outcome_at s) reads ∙ ap (λ k. going.settle e s (reply_of k e s)) is
    ∙ ap (going.settle e s) (replies m s.left s.arguments s.world)
    ∙ ap (λ a. going.settle e s (a >>= (λ taken. search x e taken s.world.kept >>- found e m s.left
    (levels_after_taking s.arguments) s.world))) (takes n v point begins.true_of)))
    (by answering asked r (foretold n v point begins)) where
      by : (b : Bool) → IsAsked b e s.frames.running → (r : Result Finding Code)
          → Succeeds (IsForeseen b n all e.colons (point_of steps origin s)) r
          → StepsTo (Goes n all e steps origin s)
          (going.settle e s (r >>- found e (miss_of e s.frames.running) s.left
          (levels_after_taking s.arguments) s.world))
      by b a (Err c) d = absurd d
      by true a (Ok (Found kept)) d =
          subst (λ m. StepsTo (Goes n all e steps origin s) (going.settle e s (Ok (found e m s.left
          (levels_after_taking s.arguments) s.world (Found kept))))) (sym (ap (λ b. miss_where b e s.frames.running) a))
          (inl (record { described = d; there = refl; left = refl }))
      by true a (Ok (Missed kept)) d =
          subst (λ m. StepsTo (Goes n all e steps origin s) (going.settle e s (Ok (found e m s.left
          (levels_after_taking s.arguments) s.world (Missed kept))))) (sym (ap
          (λ b. miss_where b e s.frames.running) a))
          (inl (record { described = d; there = refl; left = refl }))
      by false a (Ok (Found kept)) d =
          let l = nonempty s.frames.running.loops a.1 in
          subst (λ m. StepsTo (Goes n all e steps origin s) (going.settle e s (Ok (found e m s.left
          (levels_after_taking s.arguments) s.world (Found kept)))))
          (sym (left_by x e s.frames.running l.0 l.1 a.2 is a.0 l.2 a.3))
          (inl (record { described = d; there = refl; left = refl }))
      by false a (Ok (Missed kept)) d =
          let l = nonempty s.frames.running.loops a.1 in
          subst (λ m. StepsTo (Goes n all e steps origin s) (going.settle e s (Ok (found e m s.left
          (levels_after_taking s.arguments) s.world (Missed kept)))))
          (sym (left_by x e s.frames.running l.0 l.1 a.2 is a.0 l.2 a.3))
          (inr (
            a.2,
            ap (λ k. place_away k e s.frames.running) is ∙ a.3,
            record {
              described = d l.0 (l.1 ++ loops_in s.frames.callers)
                  (ap (λ ls. ls ++ loops_in s.frames.callers) l.2);
              there = refl;
              left = refl;
            },
          ))

-- with a colon a search answers
pub colon_law : (e : Element) (case : Case) (all : Outcomes) → 1 ≤ e.colons → SearchLaw true e case all
    → Law e case all
colon_law e case all h law n v s steps origin stands begins =
    let colon : nat_lt 0 e.colons ≡ true = grind (arith, nat_tests) in
    law n v s steps origin stands.reads
    (ap (λ b. b || miss.is_leave (element_at s.frames.running.text e.next)) colon) begins

-- the law of a search that begins so and finds this
pub begun_law : (x : Search) (answering : Bool) (e : Element) (case : Case) (begun : BegunSearch) (behind : Case)
    (guarded : List Guarded) (all : Outcomes)
    → ((m : Miss) (left : Option ℕ) (arguments : Arguments) (world : World)
    → search_reply x e m left arguments world ≡ found_in_buffer x e m left arguments world)
    → e.kind ≡ kind.Search x → IsBegun e case begun
    → Keeps x e begun.parts.items begun.aim.direction case behind guarded
    → all.conditions.items ≡ begun.aim.conditions.items → all.guarded.items ≡ guarded
    → Ends answering behind begun.start all → SearchLaw answering e case all
begun_law x answering e case begun behind guarded all replies is b keeps conditions same ends =
    let taken : TakenForms = record { first = None; value = b.number } in
    search_law x answering e case taken all replies is b.takes
    (searches x answering e taken case behind begun.start all begun.parts.items begun.aim refl b.some b.read b.aims
    b.misses (subst (Keeps x e begun.parts.items begun.aim.direction case behind) (sym same) keeps)
    (λ n v h. subst (All (linear.Holds n v)) conditions h) ends)

-- what three clauses say of what a call gives
pub if_three : {X Y : Type 0} (r : Result X Y) (P Q R S : X → Type 0) → ((x : X) → P x → Q x → R x → S x)
    → IfOk r P → IfOk r Q → IfOk r R → IfOk r S
if_three (Ok x) P Q R S f a b c = f x a b c
if_three (Err y) P Q R S f a b c = tt
