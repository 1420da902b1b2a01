-- Where ways meet: what is known on both.
use Rattle.std.specs.Prelude.{ℤ, min, List, [], ◌∷◌, Bool, true, false, is_none, ◌&&◌, if◌then◌else◌, Option, Some}
use Rattle.std.specs.Prelude.{None, Result, Ok, Err}
use Rattle.std.specs.Int.{int_min, int_max}
use Rattle.teco_poly.specs.Polynomial.{Polynomial}
use Rattle.teco_verifier.specs.declared.values.Interval.{Interval}
use Rattle.teco_verifier.specs.declared.values.Distances.{Distances}
use Rattle.teco_verifier.specs.declared.refusal.RefusalReason.{RefusalReason}
use Rattle.teco_verifier.specs.declared.refusal.RefusalReason.TheVariants as refusal
use Rattle.teco_verifier.specs.facts.Arguments.{KnownLevel, KnownArguments}
use Rattle.teco_verifier.specs.facts.Attempt.{◌>>=◌}
use Rattle.teco_verifier.specs.facts.Facts.{Position, Pushed, Facts, join_of, without_arguments}

-- the smaller distances, the hull of intervals
abbrev pub nearer_of : Distances → Distances → Distances
nearer_of d e = record { back = min d.back e.back; fore = min d.fore e.fore }

abbrev pub hull : Interval → Interval → Interval
hull i j = record { lo = int_min i.lo j.lo; hi = int_max i.hi j.hi }

-- the smaller fall, of which an unknown one is the smallest
abbrev pub smaller_fall : Option ℤ → Option ℤ → Option ℤ
smaller_fall (Some v) (Some w) = Some (int_min v w)
smaller_fall None fall = None
smaller_fall (Some v) None = None

abbrev pub smaller_falls : List (Option ℤ) → List (Option ℤ) → List (Option ℤ)
smaller_falls (v ∷ falls) (w ∷ others) = smaller_fall v w ∷ smaller_falls falls others
smaller_falls [] others = []
smaller_falls (v ∷ falls) [] = []

-- a register that is saved on both
abbrev pub joined_saved : List Bool → List Bool → List Bool
joined_saved (s ∷ saved) (t ∷ others) = (s && t) ∷ joined_saved saved others
joined_saved [] others = []
joined_saved (s ∷ saved) [] = []

-- two positions
abbrev pub joined_position : Position → Position → Result Position RefusalReason
joined_position p q = do
  ahead ← join_of p.ahead q.ahead
  Ok (record {
    distances = nearer_of p.distances q.distances;
    falls = smaller_falls p.falls q.falls;
    ahead = ahead;
    saved = joined_saved p.saved q.saved;
  })

-- of each register
abbrev pub hulls : List Interval → List Interval → List Interval
hulls (i ∷ is) (j ∷ js) = hull i j ∷ hulls is js
hulls [] js = []
hulls (i ∷ is) [] = []

abbrev pub joined_lengths : List Polynomial → List Polynomial → Result (List Polynomial) RefusalReason
joined_lengths (p ∷ ps) (q ∷ qs) = do
  join ← join_of p q
  joins ← joined_lengths ps qs
  Ok (join ∷ joins)
joined_lengths [] qs = Ok []
joined_lengths (p ∷ ps) [] = Ok []

-- of each push; ways meet with as many pushes
abbrev pub joined_pair : Pushed → Pushed → Result Pushed RefusalReason
joined_pair s t = do
  text ← join_of s.text t.text
  Ok (record { number = hull s.number t.number; text = text })

abbrev pub joined_pushes : List Pushed → List Pushed → Result (List Pushed) RefusalReason
joined_pushes [] [] = Ok []
joined_pushes (s ∷ ss) (t ∷ ts) = do
  pair ← joined_pair s t
  pairs ← joined_pushes ss ts
  Ok (pair ∷ pairs)
joined_pushes [] (t ∷ ts) = Err refusal.Pop
joined_pushes (s ∷ ss) [] = Err refusal.Pop

abbrev pub is_empty : List KnownLevel → Bool
is_empty [] = true
is_empty (level ∷ outer) = false

-- nothing is pending: there is one level, and it is empty
abbrev pub is_empty_level : KnownLevel → Bool
is_empty_level level = is_none level.first && is_none level.value && is_none level.operator

abbrev pub none_pending : KnownArguments → Result (Unit {0}) RefusalReason
none_pending arguments =
    if is_empty_level arguments.level && is_empty arguments.outer then Ok tt else Err refusal.Pending

-- Ways meet with nothing pending, and in the same iterations.
abbrev pub joined : Facts → Facts → Result Facts RefusalReason
joined facts others = do
  one ← none_pending facts.arguments
  two ← none_pending others.arguments
  pushes ← joined_pushes facts.pushes others.pushes
  position ← joined_position facts.position others.position
  held ← join_of facts.held others.held
  texts ← joined_lengths facts.texts others.texts
  Ok (record (without_arguments facts) {
    position = position;
    held = held;
    numbers = hulls facts.numbers others.numbers;
    texts = texts;
    pushes = pushes;
  })
