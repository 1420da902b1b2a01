-- What a jump past a pair crosses, by the ends of the iterations that are open where it begins and where it leads.
use Rattle.std.proofs.Common.{◌≡◌, ℕ, zero, suc, ◌+◌, ◌-◌, ◌<◌, ◌≤◌, List, [], ◌∷◌, ◌++◌, length, drop, reverse, Bool}
use Rattle.std.proofs.Common.{true, false, ◌&&◌, ◌||◌, not, nat_lt, Option, Some, None, option_map, refl, sym, ap}
use Rattle.std.proofs.Common.{◌∙◌, slice_get, ⊎_elim, arith, append_assoc, length-drop}
use Rattle.std.proofs.Math.Seq.{drop-nil}
use Rattle.std.proofs.lemmas.Bool.{le-leb, lt-leb, lt-ltb, le-ltb, eqb-true, cases_lt}
use Rattle.std.proofs.lemmas.List.{append-nil, drop_all, reverse-append, length-reverse}
use Rattle.teco_model.specs.declared.kind.Flow.TheVariants as flow
use Rattle.teco_model.specs.declared.kind.Goal.TheVariants as goal
use Rattle.teco_model.specs.declared.kind.Kind.{Kind}
use Rattle.teco_model.specs.declared.kind.Kind.TheVariants as kind
use Rattle.teco_model.specs.declared.skip.Bracket.{Bracket}
use Rattle.teco_model.specs.declared.skip.Bracket.TheVariants.{Opens, Closes, Stops, Passes}
use Rattle.teco_model.specs.declared.skip.Pairs.{Pairs}
use Rattle.teco_model.specs.declared.skip.Pairs.TheVariants.{Iterations, Branches, Tests}
use Rattle.teco_model.specs.declared.skip.Route.TheVariants.{Past}
use Rattle.teco_model.specs.Ahead.{Reading, Whole, Faulty, place_of, next_of, reading_at, reading_of, readings}
use Rattle.teco_model.specs.Element.{Element, element_at, blank_end}
use Rattle.teco_model.specs.Skip.{bracket, inner_behind, pair_end, route_of, skip_of}
use Rattle.teco_model.proofs.Ahead.{Ascends, readings-some, readings-none, readings-ascend, reading_at-advances}
use Rattle.teco_model.proofs.Ahead.{blank_end-again, element_at-again, followed}
use Rattle.teco_verifier.specs.expansion.Overlap.{Crossed, not_crossed, behind_bracket, crossed_to, crossed}
use Rattle.teco_verifier.specs.expansion.Overlap.{is_branch, parts_on}
use Rattle.teco_verifier.specs.expansion.Position.{Spot}
use Rattle.teco_scan.specs.Ends.{ends_before as ends_before_bracket, outer}
use Rattle.teco_scan.specs.Skips.{iteration_ends, crossing}
use Rattle.teco_expansion.specs.Crossed.{ends_before, ends_from, crosses, lands}

-- of each number
abbrev pub Each : (ℕ → Type 0) → List ℕ → Type 0
Each P [] = Unit {0}
Each P (x ∷ xs) = P x × Each P xs

each-append : (P : ℕ → Type 0) (xs ys : List ℕ) → Each P xs → Each P ys → Each P (xs ++ ys)
each-append P [] ys h g = g
each-append P (x ∷ xs) ys h g = (h.0, each-append P xs ys h.1 g)

each-reverse : (P : ℕ → Type 0) (xs : List ℕ) → Each P xs → Each P (reverse xs)
each-reverse P [] h = tt
each-reverse P (x ∷ xs) h = rw (reverse-append (x ∷ []) xs)
    (each-append P (reverse xs) (x ∷ []) (each-reverse P xs h.1) (h.0, tt))

each-drop : (P : ℕ → Type 0) (n : ℕ) (xs : List ℕ) → Each P xs → Each P (drop n xs)
each-drop P zero xs h = h
each-drop P (suc n) [] h = tt
each-drop P (suc n) (x ∷ xs) h = each-drop P n xs h.1

lt-next : (a b : ℕ) → nat_lt (a + 1) (suc b) ≡ nat_lt a b
lt-next a b = ⊎_elim
    (λ (l : a < b). lt-ltb (a + 1) (suc b) (omega arith) ∙ sym (lt-ltb a b l))
    (λ (g : b ≤ a). le-ltb (a + 1) (suc b) (omega arith) ∙ sym (le-ltb a b g))
    (cases_lt a b)

lt-suc : (a b : ℕ) → nat_lt (suc a) (suc b) ≡ nat_lt a b
lt-suc a b = let one : suc a ≡ a + 1 = omega arith in ap (λ n. nat_lt n (suc b)) one ∙ lt-next a b

or-false : (d : Bool) → d ≡ (d || false)
or-false true = refl
or-false false = refl

or-true : (d : Bool) → true ≡ (d || true)
or-true true = refl
or-true false = refl

outer-drop : (n : ℕ) (xs : List ℕ) → outer (drop n xs) ≡ drop (suc n) xs
outer-drop zero [] = refl
outer-drop zero (x ∷ xs) = refl
outer-drop (suc n) [] = refl
outer-drop (suc n) (x ∷ xs) = outer-drop n xs

-- The ends that are open before a way are those on it, and behind them those that are open where it leads, but for as
-- many as begin on it.
record Splits (to begun : ℕ) (ended : Bool) (from rest : List ℕ) (after : Crossed) : Type 0 where
  on_way : List ℕ
  more : ℕ
  below : Each (λ p. p < to) on_way
  ends : from ≡ on_way ++ drop more rest
  has_begun : after.begun ≡ more + (begun - length on_way)
  has_ended : after.ended ≡ (ended || nat_lt begun (length on_way))

opening : (to begun : ℕ) (ended : Bool) (from rest : List ℕ) (after : Crossed)
    → Splits to (begun + 1) ended from rest after → Splits to begun ended (outer from) rest after
opening to begun ended from rest after s = among s.on_way s.below s.ends s.has_begun s.has_ended
  where
    among : (u : List ℕ) → Each (λ p. p < to) u → from ≡ u ++ drop s.more rest
        → after.begun ≡ s.more + (begun + 1 - length u) →
        after.ended ≡ (ended || nat_lt (begun + 1) (length u)) → Splits to begun ended (outer from) rest after
    among [] all e b d = record {
      on_way = [];
      more = suc s.more;
      below = tt;
      ends = ap outer e ∙ outer-drop s.more rest;
      has_begun = omega (arith, b);
      has_ended = d ∙ ap (λ t. ended || t) (le-ltb (begun + 1) 0 (omega arith) ∙ sym (le-ltb begun 0 (omega arith)));
    }
    among (x ∷ u) all e b d = record {
      on_way = u;
      more = s.more;
      below = all.1;
      ends = ap outer e;
      has_begun = omega (arith, b);
      has_ended = d ∙ ap (λ t. ended || t) (lt-next begun (length u));
    }

closing : (to place : ℕ) → place < to → (begun : ℕ) (ended : Bool) (from rest : List ℕ) (after : ℕ → Bool → Crossed)
    → ((b : ℕ) (d : Bool) → Splits to b d from rest (after b d)) →
    (behind : Crossed) → behind ≡ behind_bracket Closes (record { begun = begun; ended = ended })
    → Splits to begun ended (place ∷ from) rest (after behind.begun behind.ended)
closing to place l zero ended from rest after f behind h =
    let s = f 0 true in
    let b : behind.begun ≡ 0 = ap (λ (c : Crossed). c.begun) h in
    let d : behind.ended ≡ true = ap (λ (c : Crossed). c.ended) h in
    rw (b, d) (record {
      on_way = place ∷ s.on_way;
      more = s.more;
      below = (l, s.below);
      ends = ap (λ ends. place ∷ ends) s.ends;
      has_begun = omega (arith, s.has_begun);
      has_ended = s.has_ended ∙ or-true ended
          ∙ ap (λ t. ended || t) (sym (lt-ltb 0 (suc (length s.on_way)) (omega arith)));
    })
closing to place l (suc outside) ended from rest after f behind h =
    let s = f outside ended in
    let b : behind.begun ≡ outside = ap (λ (c : Crossed). c.begun) h in
    let d : behind.ended ≡ ended = ap (λ (c : Crossed). c.ended) h in
    rw (b, d) (record {
      on_way = place ∷ s.on_way;
      more = s.more;
      below = (l, s.below);
      ends = ap (λ ends. place ∷ ends) s.ends;
      has_begun = omega (arith, s.has_begun);
      has_ended = s.has_ended ∙ ap (λ t. ended || t) (sym (lt-suc outside (length s.on_way)));
    })

no-stop : (k : Kind) → bracket Iterations k ≡ Stops → ⊥
no-stop k h = absurd (grind arith)

-- the first so many stand before a place
abbrev pub Precede : ℕ → ℕ → List Reading → Type 0
Precede to zero rs = Unit {0}
Precede to (suc m) [] = Unit {0}
Precede to (suc m) (r ∷ rs) = (place_of r < to) × Precede to m rs

-- by numbers, what is crossed up to a place
abbrev across : ℕ → List Reading → ℕ → Bool → Crossed
across to rs begun ended = crossed_to to (record { begun = begun; ended = ended }) rs

nothing : (to begun : ℕ) (ended : Bool) (rest : List Reading) → ((c : Crossed) → crossed_to to c rest ≡ c) →
    Splits to begun ended (iteration_ends rest) (iteration_ends rest) (across to rest begun ended)
nothing to begun ended rest stop = rw (stop (record { begun = begun; ended = ended })) (record {
  on_way = [];
  more = 0;
  below = tt;
  ends = refl;
  has_begun = omega arith;
  has_ended = or-false ended ∙ ap (λ t. ended || t) (sym (le-ltb begun 0 (omega arith)));
})

splits : (to : ℕ) (rest : List Reading) → ((c : Crossed) → crossed_to to c rest ≡ c) → (m : ℕ) (rs : List Reading)
    → drop m rs ≡ rest → Precede to m rs →
    (begun : ℕ) (ended : Bool) → Splits to begun ended (iteration_ends rs) (iteration_ends rest)
    (across to rs begun ended)
splits to rest stop zero rs e h begun ended = rw e (nothing to begun ended rest stop)
splits to rest stop (suc m) [] e h begun ended =
    let none : rest ≡ [] = sym e in
    rw none (nothing to begun ended [] (λ c. refl))
splits to rest stop (suc m) (Faulty c place next ∷ rs) e h begun ended = splits to rest stop m rs e h.1 begun ended
splits to rest stop (suc m) (Whole x ∷ rs) e h begun ended =
    rw (lt-leb to x.place h.0) (among (splits to rest stop m rs e h.1) (bracket Iterations x.kind) (no-stop x.kind))
  where
    among : ((b : ℕ) (d : Bool) → Splits to b d (iteration_ends rs) (iteration_ends rest) (across to rs b d))
        → (k : Bracket) → (k ≡ Stops → ⊥) →
        Splits to begun ended (ends_before_bracket k x.place (iteration_ends rs)) (iteration_ends rest)
        (crossed_to to (behind_bracket k (record { begun = begun; ended = ended })) rs)
    among inner Opens n = opening to begun ended _ _ _ (inner (begun + 1) ended)
    among inner Closes n = closing to x.place h.0 begun ended _ _ (across to rs) inner
        (behind_bracket Closes (record { begun = begun; ended = ended })) refl
    among inner Stops n = absurd (n refl)
    among inner Passes n = inner begun ended

-- at a place and behind it nothing is crossed on the way there
stays : (to low : ℕ) (rs : List Reading) → to ≤ low → Ascends low rs → (c : Crossed) → crossed_to to c rs ≡ c
stays to low [] l a c = refl
stays to low (Faulty code place next ∷ rs) l a c = stays to next rs (omega (arith, a.0, a.1)) a.2 c
stays to low (Whole e ∷ rs) l a c = rw (le-leb to e.place (omega (arith, a.0))) refl

at-least : (to low : ℕ) (rs : List Reading) → to ≤ low → Ascends low rs → Each (λ p. to ≤ p) (iteration_ends rs)
at-least to low [] l a = tt
at-least to low (Faulty code place next ∷ rs) l a = at-least to next rs (omega (arith, a.0, a.1)) a.2
at-least to low (Whole e ∷ rs) l a =
    among (bracket Iterations e.kind) (iteration_ends rs) (at-least to e.next rs (omega (arith, a.0, a.1)) a.2)
  where
    here : to ≤ e.place
    here = omega (arith, a.0)

    among : (k : Bracket) (ends : List ℕ) → Each (λ p. to ≤ p) ends
        → Each (λ p. to ≤ p) (ends_before_bracket k e.place ends)
    among Opens [] h = tt
    among Opens (x ∷ ends) h = h.1
    among Closes ends h = (here, h)
    among Stops [] h = (here, tt)
    among Stops (x ∷ ends) h = (here, h.1)
    among Passes ends h = h

-- what is read at a place stands behind the blanks there
ascends-behind : (text : List ℕ) (at : ℕ) → Ascends (blank_end text at) (readings text at)
ascends-behind text at = among (reading_at text at) refl
  where
    among : (o : Option Reading) → reading_at text at ≡ o → Ascends (blank_end text at) (readings text at)
    among None h = rw (readings-none text at h) tt
    among (Some r) h =
        let a = reading_at-advances text at r h in
        rw (readings-some text at r h) (omega (arith, a.stands), a.on, readings-ascend text (next_of r))

reading-again : (text : List ℕ) (at : ℕ) → reading_at text (blank_end text at) ≡ reading_at text at
unfolding reading_at
reading-again text at =
    ap (λ read. reading_of read (blank_end text (blank_end text at)) text) (element_at-again text at)
    ∙ ap (λ place. reading_of (element_at text at) place text) (blank_end-again text at)

readings-again : (text : List ℕ) (at : ℕ) → readings text (blank_end text at) ≡ readings text at
readings-again text at = among (reading_at text at) refl
  where
    among : (o : Option Reading) → reading_at text at ≡ o → readings text (blank_end text at) ≡ readings text at
    among None h = readings-none text (blank_end text at) (reading-again text at ∙ h) ∙ sym (readings-none text at h)
    among (Some r) h = readings-some text (blank_end text at) r (reading-again text at ∙ h)
        ∙ sym (readings-some text at r h)

-- what ends a pair is among what is read
record Found (t : Element) (rs : List Reading) : Type 0 where
  number : ℕ
  rest : List Reading
  is : drop number rs ≡ Whole t ∷ rest

found : (pairs : Pairs) (inner : ℕ) (rs : List Reading) (t : Element) → pair_end pairs inner rs ≡ Some t → Found t rs
found pairs inner [] t h = absurd (cc)
found pairs inner (Faulty c place next ∷ rs) t h =
    let f = found pairs inner rs t h in record { number = suc f.number; rest = f.rest; is = f.is }
found pairs inner (Whole e ∷ rs) t h = among (inner_behind (bracket pairs e.kind) inner) (λ n. found pairs n rs t) h
  where
    among : (o : Option ℕ) → ((n : ℕ) → pair_end pairs n rs ≡ Some t → Found t rs) →
        Path (Option Element) (elim o [ None ↦ Some e | Some behind ↦ pair_end pairs behind rs ]) (Some t)
        → Found t (Whole e ∷ rs)
    among None f h = let same : e ≡ t = cc in record { number = 0; rest = rs; is = ap (λ x. Whole x ∷ rs) same }
    among (Some n) f h = let inner = f n h in record { number = suc inner.number; rest = inner.rest; is = inner.is }

drop-next : (n : ℕ) (rs : List Reading) (r : Reading) (rest : List Reading) → drop n rs ≡ r ∷ rest
    → drop (suc n) rs ≡ rest
drop-next zero (q ∷ rs) r rest h = cc
drop-next (suc n) (q ∷ rs) r rest h = drop-next n rs r rest h
drop-next n rs r rest h = absurd (grind arith)

passed : (low n : ℕ) (rs : List Reading) (r : Reading) (rest : List Reading) → Ascends low rs → drop n rs ≡ r ∷ rest
    → low < next_of r
passed low zero (q ∷ rs) r rest a h = let same : q ≡ r = cc in omega (arith, a.0, a.1, ap next_of same)
passed low (suc n) (q ∷ rs) r rest a h = omega (arith, a.0, a.1, passed (next_of q) n rs r rest a.2 h)
passed low n rs r rest a h = absurd (grind arith)

precede : (to low n : ℕ) (rs : List Reading) (r : Reading) (rest : List Reading) → Ascends low rs → drop n rs ≡ r ∷ rest
    → next_of r ≤ to → Precede to (suc n) rs
precede to low zero (q ∷ rs) r rest a h l = let same : q ≡ r = cc in (omega (arith, a.1, ap next_of same), tt)
precede to low (suc n) (q ∷ rs) r rest a h l =
    (omega (arith, a.1, passed (next_of q) n rs r rest a.2 h), precede to (next_of q) n rs r rest a.2 h l)
precede to low n rs r rest a h l = absurd (grind arith)

-- all that is read stands before the end
inside : (text : List ℕ) (at : ℕ) (rs : List Reading) (i : ℕ) → drop i (readings text at) ≡ rs
    → Precede (length text) (length rs) rs
inside text at [] i h = tt
inside text at (r ∷ rs) i h =
    let f = followed text i at r rs h in
    let a = reading_at-advances text (place_of r) r f.reads in
    (omega (arith, a.on, a.within), inside text at rs (suc i) (drop-next i _ r rs h))

-- on the way to the end an iteration ends if one is open that ends
whole : (text : List ℕ) (at : ℕ)
    → (crossed text at (length text)).ended ≡ nat_lt 0 (length (iteration_ends (readings text at)))
whole text at =
    let rs = readings text at in
    let s = splits (length text) [] (λ c. refl) (length rs) rs (drop_all (length rs) rs (omega arith))
    (inside text at rs 0 refl) 0 false in
    let size : length (iteration_ends rs) ≡ length s.on_way =
    ap length s.ends ∙ ap (λ xs. length (s.on_way ++ xs)) (drop-nil s.more) ∙ ap length (append-nil s.on_way) in
    s.has_ended ∙ ap (nat_lt 0) (sym size)

-- looking up, from the one end or from the other
get-below : (to : ℕ) (xs : List ℕ) (k : ℕ) → Each (λ p. p < to) xs → ends_from (slice_get xs k) to ≡ false
get-below to [] zero h = refl
get-below to [] (suc k) h = refl
get-below to (x ∷ xs) zero h = lt-leb to x h.0
get-below to (x ∷ xs) (suc k) h = get-below to xs k h.1

get-first : (to : ℕ) (xs : List ℕ) → Each (λ p. to ≤ p) xs → ends_before (slice_get xs 0) to ≡ false
get-first to [] h = refl
get-first to (x ∷ xs) h = le-ltb x to h.0

get-beyond : (xs ys : List ℕ) (k : ℕ) → length xs ≤ k → slice_get (xs ++ ys) k ≡ slice_get ys (k - length xs)
get-beyond [] ys k l = let same : k ≡ k - 0 = omega arith in ap (slice_get ys) same
get-beyond (x ∷ xs) ys zero l = absurd (omega (arith, l))
get-beyond (x ∷ xs) ys (suc k) l =
    let same : k - length xs ≡ suc k - suc (length xs) = omega arith in
    get-beyond xs ys k (omega (arith, l)) ∙ ap (slice_get ys) same

get-here : (xs : List ℕ) (y : ℕ) (ys : List ℕ) → slice_get (xs ++ y ∷ ys) (length xs) ≡ Some y
get-here [] y ys = refl
get-here (x ∷ xs) y ys = get-here xs y ys

and-false : (d : Bool) → false ≡ (d && false)
and-false true = refl
and-false false = refl

-- whether an iteration ends on the way is told by the innermost that is open before it
ended-told : (to : ℕ) (u : List ℕ) (v : ℕ) (ends : List ℕ) → Each (λ p. p < to) u → Each (λ p. to ≤ p) ends
    → ends_before (slice_get (u ++ drop v ends) 0) to ≡ nat_lt 0 (length u)
ended-told to [] v ends h g = get-first to (drop v ends) (each-drop (λ p. to ≤ p) v ends g)
    ∙ sym (le-ltb 0 0 (omega arith))
ended-told to (x ∷ u) v ends h g = lt-ltb x to h.0 ∙ sym (lt-ltb 0 (suc (length u)) (omega arith))

-- and whether one begins that ends behind it, by as many as are open there, counted from the outermost
begun-told : (to : ℕ) (u : List ℕ) (v : ℕ) (ends : List ℕ) → Each (λ p. p < to) u → Each (λ p. to ≤ p) ends →
    (nat_lt 0 (length ends) && not (ends_from (slice_get (reverse (u ++ drop v ends)) (length ends - 1)) to)) ≡
    (nat_lt 0 v && nat_lt 0 (length ends))
begun-told to u v [] h g = rw (le-ltb 0 0 (omega arith)) (and-false (nat_lt 0 v))
begun-told to u zero (e ∷ ends) h g =
    let last : suc (length ends) - 1 ≡ length (reverse ends) = omega (arith, length-reverse ends) in
    let turned : reverse (u ++ e ∷ ends) ≡ reverse ends ++ e ∷ reverse u =
    reverse-append u (e ∷ ends) ∙ ap (λ xs. xs ++ reverse u) (reverse-append (e ∷ []) ends)
    ∙ append_assoc (reverse ends) (e ∷ []) (reverse u) in
    let is : slice_get (reverse (u ++ e ∷ ends)) (suc (length ends) - 1) ≡ Some e =
    ap (slice_get (reverse (u ++ e ∷ ends))) last ∙ ap (λ xs. slice_get xs (length (reverse ends))) turned
    ∙ get-here (reverse ends) e (reverse u) in
    rw (is, le-leb to e g.0, lt-ltb 0 (suc (length ends)) (omega arith), le-ltb 0 0 (omega arith)) refl
begun-told to u (suc v) (e ∷ ends) h g =
    let turned : reverse (u ++ drop v ends) ≡ reverse (drop v ends) ++ reverse u = reverse-append u (drop v ends) in
    let few : length (reverse (drop v ends)) ≤ suc (length ends) - 1 =
    omega (arith, length-reverse (drop v ends), length-drop v ends) in
    let is : ends_from (slice_get (reverse (u ++ drop v ends)) (suc (length ends) - 1)) to ≡ false =
    ap (λ xs. ends_from (slice_get xs (suc (length ends) - 1)) to) turned
    ∙ ap (λ o. ends_from o to) (get-beyond (reverse (drop v ends)) (reverse u) (suc (length ends) - 1) few)
    ∙ get-below to (reverse u) _ (each-reverse (λ p. p < to) u h) in
    rw (is, lt-ltb 0 (suc (length ends)) (omega arith), lt-ltb 0 (suc v) (omega arith)) refl

-- what is kept of a jump past a pair tells whether it leads where other iterations are open
crosses-told : (spot : Spot) (from : ℕ) (pairs : Pairs) (t : Element)
    → pair_end pairs 0 (readings spot.text from) ≡ Some t →
    let to = blank_end spot.text t.next in
    crosses (crossing spot.text pairs from) (length spot.starts) to ≡ parts_on spot from to
crosses-told spot from pairs t h =
    let text = spot.text in
    let rs = readings text from in
    let rest = readings text t.next in
    let to = blank_end text t.next in
    let f = found pairs 0 rs t h in
    let others : rest ≡ f.rest = (followed text f.number from (Whole t) f.rest f.is).others in
    let is : drop (suc f.number) rs ≡ rest = drop-next f.number rs (Whole t) f.rest f.is ∙ sym others in
    let ascends = ascends-behind text t.next in
    let same : to ≤ to = omega arith in
    let before : Precede to (suc f.number) rs =
    precede to from f.number rs (Whole t) f.rest (readings-ascend text from) f.is (omega arith) in
    let s = splits to rest (stays to to rest same ascends) (suc f.number) rs is before 0 false in
    let ends = iteration_ends rest in
    let least : Each (λ p. to ≤ p) ends = at-least to to rest same ascends in
    let way = crossed text from to in
    let leaves : ends_before (slice_get (iteration_ends rs) 0) to ≡ way.ended =
    ap (λ xs. ends_before (slice_get xs 0) to) s.ends ∙ ended-told to s.on_way s.more ends s.below least
    ∙ sym s.has_ended in
    let begun : way.begun ≡ s.more = omega (arith, s.has_begun) in
    let behind : (crossed text to (length text)).ended ≡ nat_lt 0 (length ends) =
    whole text to ∙ ap (λ rs. nat_lt 0 (length (iteration_ends rs))) (readings-again text t.next) in
    let enters : (nat_lt 0 (length ends)
    && not (ends_from (slice_get (reverse (iteration_ends rs)) (length ends - 1)) to)) ≡
    (nat_lt 0 way.begun && (crossed text to (length text)).ended) =
    ap (λ xs. nat_lt 0 (length ends) && not (ends_from (slice_get (reverse xs) (length ends - 1)) to)) s.ends
    ∙ begun-told to s.on_way s.more ends s.below least
    ∙ ap (λ n. nat_lt 0 n && nat_lt 0 (length ends)) (sym begun)
    ∙ ap (λ t. nat_lt 0 way.begun && t) (sym behind) in
    rw h (ap (λ t. (t && nat_lt 0 (length spot.starts))
    || (nat_lt 0 (length ends) && not (ends_from (slice_get (reverse (iteration_ends rs)) (length ends - 1)) to)))
    leaves
    ∙ ap (λ t. (way.ended && nat_lt 0 (length spot.starts)) || t) enters)

-- where nothing stands between, nothing is crossed
pub nothing_between : (spot : Spot) (from to : ℕ) → to ≤ blank_end spot.text from → false ≡ parts_on spot from to
nothing_between spot from to l =
    let none : crossed spot.text from to ≡ not_crossed =
    stays to (blank_end spot.text from) (readings spot.text from) l (ascends-behind spot.text from) not_crossed in
    let behind = crossed spot.text to (length spot.text) in
    rw (none, le-ltb 0 0 (omega arith)) refl

-- conditionals, and what goes to their branches and ends, jump past a pair
pub branch-route : (k : Kind) → is_branch k ≡ true → (pairs : Pairs) × (route_of k ≡ Past pairs 0)
branch-route (kind.Flow (flow.Test t)) h = (Branches, refl)
branch-route (kind.Flow flow.Otherwise) h = (Tests, refl)
branch-route (kind.Flow (flow.GoAhead goal.EndTest)) h = (Tests, refl)
branch-route (kind.Flow (flow.GoAhead goal.Otherwise)) h = (Branches, refl)
branch-route k h = absurd (cc)

pub jump-told : (spot : Spot) (e : Element) (pairs : Pairs) (to : ℕ) → route_of e.kind ≡ Past pairs 0
    → lands spot.text (skip_of spot.text (Whole e)).to to ≡ true →
    crosses (crossing spot.text pairs e.next) (length spot.starts) to ≡ parts_on spot e.next to
jump-told spot e pairs to route h =
    among (pair_end pairs 0 (readings spot.text e.next)) refl (rw route at h)
  where
    among : (o : Option Element) → pair_end pairs 0 (readings spot.text e.next) ≡ o
        → lands spot.text (option_map (λ (t : Element). t.next) o) to ≡ true →
        crosses (crossing spot.text pairs e.next) (length spot.starts) to ≡ parts_on spot e.next to
    among None was l = absurd (cc)
    among (Some t) was l =
        let there : blank_end spot.text t.next ≡ to = eqb-true (blank_end spot.text t.next) to l in
        rw (← there) (crosses-told spot e.next pairs t was)
