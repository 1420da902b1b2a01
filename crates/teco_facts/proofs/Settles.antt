-- Levels that settle once more, and levels that stay as they are.
use Rattle.teco_facts.proofs.Prelude.{◌≡◌, refl, ap, ◌∙◌, ℤ, pos, ◌+ℤ◌, ◌*ℤ◌, Bool, true, false, ◌&&◌, List, [], ◌∷◌}
use Rattle.teco_facts.proofs.Prelude.{map, Option, Some, None, if◌then◌else◌, LIMIT, covers_level, interval_of}
use Rattle.teco_facts.proofs.Prelude.{Interval, Value, Distances}
use Rattle.std.proofs.Common.{◌||◌, is_none}
use Rattle.std.proofs.Math.IntN.{*ℤ-zero, +ℤ_idl}
use Rattle.teco_model.specs.declared.arguments.Operator.{Operator}
use Rattle.teco_verifier.specs.facts.Arguments.{KnownLevel, empty_level, settled_value, settled_level}
use Rattle.teco_verifier.specs.facts.Joins.{is_empty_level}
use Rattle.teco_verifier.specs.facts.Values.{value_in}
use Rattle.teco_facts.specs.Settled.{SettlesAgain, SettlesBoth, settled_by, settled_since}
use Rattle.teco_facts.specs.declared.settling.Settling.{Settling}

nothing_added : (x y k : ℤ) → x *ℤ pos 0 +ℤ y *ℤ pos 0 +ℤ k ≡ k
nothing_added x y k = ap (λ z. z +ℤ y *ℤ pos 0 +ℤ k) (*ℤ-zero x) ∙ (ap (λ z. pos 0 +ℤ z +ℤ k) (*ℤ-zero y) ∙ +ℤ_idl k)

interval : ℤ → ℤ → Interval
interval lo hi = record { lo = lo; hi = hi }

-- an interval is one wherever the pointer is
interval_stays : (d : Distances) (s : Value) → s.ahead ≡ pos 0 → s.behind ≡ pos 0
    → interval_of d s ≡ record { lo = s.lo; hi = s.hi }
unfolding interval
interval_stays d s a b =
    let low : pos d.fore *ℤ pos 0 +ℤ pos d.back *ℤ pos 0 +ℤ s.lo ≡ s.lo =
    nothing_added (pos d.fore) (pos d.back) s.lo in
    let high : pos LIMIT *ℤ pos 0 +ℤ pos LIMIT *ℤ pos 0 +ℤ s.hi ≡ s.hi = nothing_added (pos LIMIT) (pos LIMIT) s.hi in
    rw (a, b) (ap (λ lo. interval lo (pos LIMIT *ℤ pos 0 +ℤ pos LIMIT *ℤ pos 0 +ℤ s.hi)) low ∙ ap (interval s.lo) high)

settled_interval : (d : Distances) (f : Bool) (i : Interval) (saved : Bool)
    → settled_value d f (Some (record (value_in i) { saved = saved })) ≡ Some
    (record (value_in i) { saved = if f then false else saved })
settled_interval d f i saved = ap (λ j. Some (record (value_in j) { saved = if f then false else saved }))
    (interval_stays d (record (value_in i) { saved = saved }) refl refl)

ends_again : (e f saved : Bool)
    → (if f then false else (if e then false else saved)) ≡ (if e || f then false else saved)
ends_again true true saved = refl
ends_again true false saved = refl
ends_again false true saved = refl
ends_again false false saved = refl

value_again : (m d : Distances) (e f : Bool) (v : Option Value)
    → settled_value d f (settled_value m e v) ≡ settled_value m (e || f) v
value_again m d e f None = refl
value_again m d e f (Some s) =
    settled_interval d f (interval_of m s) (if e then false else s.saved)
    ∙ ap (λ saved. Some (record (value_in (interval_of m s)) { saved = saved })) (ends_again e f s.saved)

level_again : (m d : Distances) (e f : Bool) (level : KnownLevel)
    → settled_level d f (settled_level m e level) ≡ settled_level m (e || f) level
level_again m d e f level = rw (value_again m d e f level.first, value_again m d e f level.value) refl

pub settles_first : (d : Distances) (f : Bool) → SettlesAgain None d f (record { margins = d; ends = f })
settles_first d f [] = refl
settles_first d f (level ∷ levels) = ap (λ rest. settled_level d f level ∷ rest) (settles_first d f levels)

more_settles : (m d : Distances) (e f : Bool) (levels : List KnownLevel)
    → map (settled_level d f) (map (settled_level m e) levels) ≡ map (settled_level m (e || f)) levels
more_settles m d e f [] = refl
more_settles m d e f (level ∷ levels) = rw (level_again m d e f level, more_settles m d e f levels) refl

-- the levels settled by one that came first
by_first : (settling : Settling) (levels : List KnownLevel)
    → settled_since (Some settling) levels ≡ map (settled_level settling.margins settling.ends) levels
by_first settling [] = refl
by_first settling (level ∷ levels) = ap (λ rest. settled_level settling.margins settling.ends level ∷ rest)
    (by_first settling levels)

pub settles_more : (earlier : Settling) (d : Distances) (f both : Bool) → both ≡ (earlier.ends || f)
    → SettlesAgain (Some earlier) d f (record { margins = earlier.margins; ends = both })
settles_more earlier d f both e levels =
    rw (
      by_first earlier levels,
      by_first (record { margins = earlier.margins; ends = both }) levels,
      e,
    ) (more_settles earlier.margins d earlier.ends f levels)

-- nothing settles levels that were opened last
pub as_opened : (levels : List KnownLevel) → settled_since None levels ≡ levels
as_opened [] = refl
as_opened (level ∷ levels) = ap (λ rest. level ∷ rest) (as_opened levels)

-- nothing has settled them since
pub settles_none : (earlier : Option Settling) → SettlesBoth earlier None earlier
settles_none earlier levels = as_opened (settled_since earlier levels)

pub settles_both : (earlier : Option Settling) (later both : Settling)
    → SettlesAgain earlier later.margins later.ends both → SettlesBoth earlier (Some later) (Some both)
settles_both earlier later both again levels = by_first later (settled_since earlier levels) ∙ again levels

-- a level by its parts
abbrev level_of : Option Value → Option Value → Option Operator → KnownLevel
level_of first value operator = record { first = first; value = value; operator = operator }

-- an empty level stays empty, and covers another
parts_empty : (first value : Option Value) (operator : Option Operator)
    → (is_none first && is_none value && is_none operator) ≡ true → level_of first value operator ≡ empty_level
parts_empty None None None e = refl
parts_empty None None (Some o) e = cc
parts_empty None (Some s) operator e = cc
parts_empty (Some s) value operator e = cc

empty_covers : (m : Distances) (s t : Option Settling)
    → true ≡ covers_level m (settled_by s empty_level) (settled_by t empty_level)
empty_covers m None None = refl
empty_covers m None (Some t) = refl
empty_covers m (Some s) None = refl
empty_covers m (Some s) (Some t) = refl

pub empty_settled : (m : Distances) (s t : Option Settling) (one edge : KnownLevel) → is_empty_level one ≡ true
    → is_empty_level edge ≡ true → true ≡ covers_level m (settled_by s one) (settled_by t edge)
empty_settled m s t one edge e f =
    rw (parts_empty one.first one.value one.operator e, parts_empty edge.first edge.value edge.operator f)
    (empty_covers m s t)
