-- How flow elements go.
use Rattle.teco_flow_outcomes.proofs.Prelude.{◌≡◌, ℕ, suc, zero, ◌≤◌, ℤ, pos, negsuc, ◌≤ℤ◌, List, [], ◌∷◌, ◌++◌, length}
use Rattle.teco_flow_outcomes.proofs.Prelude.{drop, Bool, true, ◌⊎◌, false, Option, Some, None, option_map, Result, Ok}
use Rattle.teco_flow_outcomes.proofs.Prelude.{inl, inr, refl, sym, ap, subst, ◌∙◌, arith, ints, Any, ok_or, Code, Term}
use Rattle.teco_flow_outcomes.proofs.Prelude.{Valuation, value, Arguments, levels_after_taking, ◌>>=◌, holds, leaves}
use Rattle.teco_flow_outcomes.proofs.Prelude.{Loop, Test, Case, Outcomes, NumberRange, Ranges, value_if, Counts}
use Rattle.teco_flow_outcomes.proofs.Prelude.{IsAgain, IsCounted, IsEnded, IsLeft, IsDropped, IsUncounted, IsInnermost}
use Rattle.teco_flow_outcomes.proofs.Prelude.{IsLater, turned, Succeeds, IsOutermost, with_arguments, AreBehindIn, IsIn}
use Rattle.teco_flow_outcomes.proofs.Prelude.{IsInOne, Point, IsTrueOf, Describes, measures_of, Turns, Each}
use Rattle.std.proofs.Common.{is_some}
use Rattle.teco_base.specs.declared.code.Code.TheVariants as code
use Rattle.teco_model.specs.Ahead.{Whole, readings}
use Rattle.teco_model.specs.Arguments.{no_arguments}
use Rattle.teco_model.specs.Effect.{needed_value}
use Rattle.teco_model.specs.Element.{Element}
use Rattle.teco_model.specs.Flow.{Turn, conditional, to_turn_end, iteration, jump, leaving, leaving_where}
use Rattle.teco_model.specs.Flow.{next_turn, without_value}
use Rattle.teco_model.specs.Flow.{turn_end, turn_of, turn_past, turn_to}
use Rattle.teco_model.specs.Going.{with_taken}
use Rattle.teco_model.specs.Skip.{route_of, skip_of, skip_on}
use Rattle.teco_model.specs.State.{Frame}
use Rattle.teco_model.specs.declared.arguments.Taken as model
use Rattle.teco_model.specs.declared.kind.Flow.{Flow}
use Rattle.teco_model.specs.declared.kind.Flow.TheVariants as flow
use Rattle.teco_model.specs.declared.kind.Goal.{Goal}
use Rattle.teco_model.specs.declared.kind.Goal.TheVariants as goal
use Rattle.teco_model.specs.declared.kind.Kind.{Kind}
use Rattle.teco_model.specs.declared.kind.Kind.TheVariants as kind
use Rattle.teco_rows.specs.declared.commands.TakenForms.{TakenForms}
use Rattle.teco_rows.specs.Commands.{IsTaken}
use Rattle.teco_flow_outcomes.specs.Flow as outcome
use Rattle.teco_flow_outcomes.specs.Flow.{AreLater, Enters, IsTurnOf}
use Rattle.teco_flow_outcomes.specs.Flow.{JumpsOut}
use Rattle.teco_flow_outcomes.specs.Flow.{Returns}
use Rattle.teco_flow_outcomes.specs.Law.{IsMatched, IsOfIteration, LeadsOn, place_away}
use Rattle.teco_flow_outcomes.specs.declared.ranges.NumberRange.TheVariants as range
use Rattle.teco_flow_outcomes.proofs.Turning.{read_left}

-- one of a list of one
pub any_one : {X : Type 0} (P : X → Type 0) (xs : List X) (x : X) → xs ≡ x ∷ [] → P x → Any P xs
any_one P xs x e p = subst (Any P) (sym e) (0, x, omega arith, refl, p)

-- ---- jumps
-- a skip leads somewhere, and leaves so many iterations
pub record Skips (e : Element) (frame : Frame) (left : ℕ) : Type 0 where
  pub place : ℕ
  pub leads : (skip_of frame.text (Whole e)).to ≡ Some place
  pub leaves : (skip_of frame.text (Whole e)).leaves ≡ left

jump_is : (c : Code) (e : Element) (arguments : Arguments) (frame : Frame) (left : ℕ) (k : Skips e frame left)
    → jump c e arguments frame ≡ Ok (turn_to arguments k.place (drop left frame.loops) frame)
jump_is c e arguments frame left k =
    ap (λ o. ok_or o c >>= (λ place. Ok (turn_to arguments place (drop (skip_of frame.text
    (Whole e)).leaves frame.loops)
    frame))) k.leads
    ∙ ap (λ n. Ok (turn_to arguments k.place (drop n frame.loops) frame)) k.leaves

-- by the kind of what skips
skips : (e : Element) (frame : Frame) (f : Flow) → e.kind ≡ kind.Flow f → IsMatched e frame
    → LeadsOn (route_of (kind.Flow f)) (skip_of frame.text (Whole e)).to
skips e frame f is matched =
    subst (λ k. LeadsOn (route_of k) (skip_of frame.text (Whole e)).to) is matched.leads

leaves_by : (e : Element) (frame : Frame) (f : Flow) → e.kind ≡ kind.Flow f
    → (skip_of frame.text (Whole e)).leaves
    ≡ (skip_on (route_of (kind.Flow f)) e.text (readings frame.text e.next)).leaves
leaves_by e frame f is = ap (λ k. (skip_on (route_of k) e.text (readings frame.text e.next)).leaves) is

away_by : (e : Element) (frame : Frame) (f : Flow) → e.kind ≡ kind.Flow f
    → place_away e.kind e frame ≡ place_away (kind.Flow f) e frame
away_by e frame f is = ap (λ k. place_away k e frame) is

-- ---- how a turn is shown
module _ (n : ℕ) (cases away : List Case) (e : Element) (frame : Frame) (outer : List Loop) (s : Point) where
  abbrev Shows : Result Turn Code → Type 0
  Shows turn = Succeeds (IsTurnOf n cases away e frame outer s) turn

  -- behind the element
  pub behind_it : (arguments : Arguments) (loops : List Loop)
      → Any (λ case. Describes n case (turned s arguments (loops ++ outer))) cases
      → IsTurnOf n cases away e frame outer s (turn_to arguments e.next loops frame)
  behind_it arguments loops d = inl (record { described = d; there = refl })

  -- or elsewhere
  pub away_from : (place : ℕ) (arguments : Arguments) (loops : List Loop) → place_away e.kind e frame ≡ Some place
      → Any (λ case. Describes n case (turned s arguments (loops ++ outer))) away
      → IsTurnOf n cases away e frame outer s (turn_to arguments place loops frame)
  away_from place arguments loops leads d = inr (place, leads, record { described = d; there = refl })

  -- by a jump
  pub jumped : (c : Code) (f : Flow) (left : ℕ) (arguments : Arguments) → e.kind ≡ kind.Flow f → Skips e frame left
      → place_away (kind.Flow f) e frame ≡ (skip_of frame.text (Whole e)).to
      → Any (λ case. Describes n case (turned s arguments (drop left frame.loops ++ outer))) away
      → Shows (jump c e arguments frame)
  jumped c f left arguments is k same d =
      subst Shows (sym (jump_is c e arguments frame left k))
      (away_from k.place arguments (drop left frame.loops) (away_by e frame f is ∙ same ∙ k.leads) d)

-- the iterations are those of the text and of its callers
with_loops : (n : ℕ) (cases : List Case) (s : Point) (arguments : Arguments) (loops : List Loop) → s.loops ≡ loops
    → Any (λ case. Describes n case (turned s arguments s.loops)) cases
    → Any (λ case. Describes n case (turned s arguments loops)) cases
with_loops n cases s arguments loops e d =
    subst (λ ls. Any (λ case. Describes n case (turned s arguments ls)) cases) e d

-- ---- a number is taken
needs : (f : Arguments → ℤ → Result Turn Code) (case : Case) (taken : TakenForms) (form : List Term) (n : ℕ)
    (v : Valuation)
    (s : Point) → IsTaken case taken → taken.value ≡ Some form → IsTrueOf n v case s
    → with_taken s.arguments (λ taken rest. needed_value taken.value >>= (λ x. f rest x))
    ≡ f (levels_after_taking s.arguments) (value form n v)
needs f case taken form n v s is value_is true_of =
    ap (λ r. r >>= (λ (taken : model.Taken). needed_value taken.value >>= (λ x. f (levels_after_taking s.arguments) x)))
    (is n v s true_of)
    ∙ ap (λ o. needed_value (value_if o n v) >>= (λ x. f (levels_after_taking s.arguments) x)) value_is

-- ---- conditionals
pub tests : (case : Case) (test : Test) (taken : TakenForms) (form : List Term) (true_in false_in : Ranges)
    (all : Outcomes)
    → IsTaken case taken → taken.value ≡ Some form → ((x : ℤ) → holds test x ≡ true → IsInOne true_in x)
    → ((x : ℤ) → holds test x ≡ false → IsInOne false_in x) → AreBehindIn case true_in form all.cases.items
    → AreBehindIn case false_in form all.away.items → (colons : ℕ) → outcome.Turns (flow.Test test) colons case all
tests case test taken form true_in false_in all is value_is holding failing cases away colons e frame outer n v s
    kind_is
    same matched loops begins =
    let x = value form n v in
    let rest = levels_after_taking s.arguments in
    subst (Succeeds (IsTurnOf n all.cases.items all.away.items e frame outer s))
    (sym (needs (λ rest y. conditional (holds test y) e rest frame) case taken form n v s is value_is begins.true_of))
    (by (holds test x) refl) where
      by : (b : Bool) → holds test (value form n v) ≡ b
          → Succeeds (IsTurnOf n all.cases.items all.away.items e frame outer s) (conditional b e
          (levels_after_taking s.arguments) frame)
      by true h =
          behind_it n all.cases.items all.away.items e frame outer s (levels_after_taking s.arguments) frame.loops
          (with_loops n all.cases.items s (levels_after_taking s.arguments) (frame.loops ++ outer) loops
          (cases n v s begins.true_of (holding (value form n v) h)))
      by false h =
          let lead = skips e frame (flow.Test test) kind_is matched in
          jumped n all.cases.items all.away.items e frame outer s code.Utc (flow.Test test) 0
          (levels_after_taking s.arguments) kind_is
          (record { place = lead.0; leads = lead.1; leaves = leaves_by e frame (flow.Test test) kind_is }) refl
          (with_loops n all.away.items s (levels_after_taking s.arguments) (frame.loops ++ outer) loops
          (away n v s begins.true_of (failing (value form n v) h)))

-- ---- ;
inside_of : (e : Element) (frame : Frame) (f : Flow) → e.kind ≡ kind.Flow f → IsMatched e frame
    → IsOfIteration (kind.Flow f) frame.loops
inside_of e frame f is matched = subst (λ k. IsOfIteration k frame.loops) is matched.inside

opened : (loops : List Loop) → 1 ≤ length loops → (loop : Loop) × (rest : List Loop) × (loops ≡ loop ∷ rest)
opened [] h = absurd (omega arith)
opened (loop ∷ rest) h = (loop, rest, refl)

pub leaves_by_number : (case left : Case) (colons : ℕ) (taken : TakenForms) (form : List Term) (staying : Ranges)
    (leaving_in : NumberRange)
    (all : Outcomes) → IsTaken case taken → taken.value ≡ Some form
    → ((x : ℤ) → leaves colons x ≡ false → IsInOne staying x) → ((x : ℤ) → leaves colons x ≡ true → IsIn leaving_in x)
    → AreBehindIn case staying form all.cases.items → IsLeft case leaving_in form left → all.away.items ≡ left ∷ []
    → outcome.Turns flow.Leave colons case all
leaves_by_number case left colons taken form staying leaving_in all is value_is stays goes cases is_left away e frame
    outer n v s kind_is same matched loops begins =
    let o = opened frame.loops (inside_of e frame flow.Leave kind_is matched) in
    let x = value form n v in
    subst (Succeeds (IsTurnOf n all.cases.items all.away.items e frame outer s))
    (sym (ap (λ ls. leaving e ls s.arguments frame) o.2
    ∙ needs (λ rest y. leaving_where (leaves e.colons y) e rest frame) case taken form n v s is value_is
    begins.true_of))
    (subst (λ c. Succeeds (IsTurnOf n all.cases.items all.away.items e frame outer s) (leaving_where (leaves c x) e
    (levels_after_taking s.arguments)
    frame)) (sym same) (by o.0 o.1 o.2 (leaves colons x) refl)) where
      by : (loop : Loop) (rest : List Loop) → frame.loops ≡ loop ∷ rest → (b : Bool) → leaves colons (value form n v)
          ≡ b
          → Succeeds (IsTurnOf n all.cases.items all.away.items e frame outer s) (leaving_where b e
          (levels_after_taking s.arguments) frame)
      by loop rest f false h =
          behind_it n all.cases.items all.away.items e frame outer s (levels_after_taking s.arguments) frame.loops
          (with_loops n all.cases.items s (levels_after_taking s.arguments) (frame.loops ++ outer) loops
          (cases n v s begins.true_of (stays (value form n v) h)))
      by loop rest f true h =
          let lead = skips e frame flow.Leave kind_is matched in
          jumped n all.cases.items all.away.items e frame outer s code.Utc flow.Leave 1 no_arguments kind_is
          (record { place = lead.0; leads = lead.1; leaves = leaves_by e frame flow.Leave kind_is }) refl
          (subst (λ ls. Any (λ case. Describes n case (turned s no_arguments (drop 1 ls ++ outer))) all.away.items)
          (sym f)
          (any_one (λ case. Describes n case (turned s no_arguments (rest ++ outer))) all.away.items left away
          (is_left n v s loop (rest ++ outer) begins.true_of (loops ∙ ap (λ ls. ls ++ outer) f)
          (goes (value form n v) h))))

-- ---- <
pub enters_uncounted : (case body : Case) (cases away : List Case) → IsUncounted case body → cases ≡ body ∷ []
    → Enters case None cases away
enters_uncounted case body cases away is one e frame outer n v s kind_is matched loops true_of =
    behind_it n cases away e frame outer s (levels_after_taking s.arguments)
    (record { start = e.next; turns = None } ∷ frame.loops)
    (any_one (λ case. Describes n case (turned s (levels_after_taking s.arguments)
    (record { start = e.next; turns = None } ∷ (frame.loops ++ outer)))) cases body one
    (subst (λ ls. Describes n body (turned s (levels_after_taking s.arguments)
    (record { start = e.next; turns = None } ∷ ls))) loops (is n v s e.next true_of)))

pub enters_counted : (case body : Case) (form : List Term) (past : Ranges) (cases away : List Case)
    → IsCounted case form body
    → cases ≡ body ∷ [] → ((x : ℤ) → x ≤ℤ pos 0 → IsInOne past x)
    → AreBehindIn case past form away → Enters case (Some form) cases away
enters_counted case body form past cases away is one none beyond e frame outer n v s kind_is matched loops true_of =
    by (value form n v) refl where
      passed : value form n v ≤ℤ pos 0
          → Succeeds (IsTurnOf n cases away e frame outer s) (jump code.Utc e (levels_after_taking s.arguments) frame)
      passed h =
          let lead = skips e frame flow.Iterate kind_is matched in
          jumped n cases away e frame outer s code.Utc flow.Iterate 0 (levels_after_taking s.arguments) kind_is
          (record { place = lead.0; leads = lead.1; leaves = leaves_by e frame flow.Iterate kind_is }) refl
          (with_loops n away s (levels_after_taking s.arguments) (frame.loops ++ outer) loops
          (beyond n v s true_of (none (value form n v) h)))

      by : (x : ℤ) → value form n v ≡ x
          → Succeeds (IsTurnOf n cases away e frame outer s) (iteration e (Some x)
          (levels_after_taking s.arguments) frame)
      by (pos zero) h = passed (omega (arith, ints))
      by (negsuc k) h = passed (omega (arith, ints))
      by (pos (suc k)) h =
          behind_it n cases away e frame outer s (levels_after_taking s.arguments)
          (record { start = e.next; turns = Some k } ∷ frame.loops)
          (any_one (λ case. Describes n case (turned s (levels_after_taking s.arguments)
          (record { start = e.next; turns = Some k } ∷ (frame.loops ++ outer)))) cases body one
          (subst (λ ls. Describes n body (turned s (levels_after_taking s.arguments)
          (record { start = e.next; turns = Some k } ∷ ls))) loops (is n v s e.next k true_of h)))

pub iterates : (case : Case) (taken : TakenForms) (number : Option (List Term)) (all : Outcomes) → IsTaken case taken
    → taken.value ≡ number → Enters case number all.cases.items all.away.items → (colons : ℕ)
    → outcome.Turns flow.Iterate colons case all
iterates case taken number all is value_is enters colons e frame outer n v s kind_is same matched loops begins =
    let rest = levels_after_taking s.arguments in
    subst (Succeeds (IsTurnOf n all.cases.items all.away.items e frame outer s))
    (sym (ap (λ r. r >>= (λ (taken : model.Taken). iteration e taken.value rest frame)) (is n v s begins.true_of)
    ∙ ap (λ o. iteration e (value_if o n v) rest frame) value_is))
    (enters e frame outer n v s kind_is matched loops begins.true_of)

-- ---- >
back_at : (e : Element) (frame : Frame) (loop : Loop) (inner : List Loop) → e.kind ≡ kind.Flow flow.EndTurn
    → frame.loops ≡ loop ∷ inner → place_away e.kind e frame ≡ Some loop.start
back_at e frame loop inner is f =
    away_by e frame flow.EndTurn is ∙ ap (λ ls. place_away (kind.Flow flow.EndTurn) e (record frame { loops = ls })) f

-- what > does, by the turns left
abbrev next_by : Option ℕ → Element → Loop → List Loop → Frame → Turn
next_by None e loop outer frame = turn_to no_arguments loop.start (loop ∷ outer) frame
next_by (Some zero) e loop outer frame = turn_to no_arguments e.next outer frame
next_by (Some (suc k)) e loop outer frame =
    turn_to no_arguments loop.start (record loop { turns = Some k } ∷ outer) frame

next_of : (start : ℕ) (turns : Option ℕ) (e : Element) (outer : List Loop) (frame : Frame)
    → next_turn e (record { start = start; turns = turns }) outer frame
    ≡ next_by turns e (record { start = start; turns = turns }) outer frame
next_of start None e outer frame = refl
next_of start (Some zero) e outer frame = refl
next_of start (Some (suc k)) e outer frame = refl

next_is : (turns : Option ℕ) (e : Element) (loop : Loop) (outer : List Loop) (frame : Frame) → loop.turns ≡ turns
    → next_turn e loop outer frame ≡ next_by turns e loop outer frame
next_is turns e loop outer frame h =
    next_of loop.start loop.turns e outer frame ∙ ap (λ t. next_by t e loop outer frame) h

-- with one level, none is left when the arguments are taken
none_left : (arguments : Arguments) → arguments.outer ≡ [] → levels_after_taking arguments ≡ no_arguments
none_left arguments e = ap (λ outer. record no_arguments { outer = outer }) e

pub returns_counted : (case last first : Case) (cases away : List Case) → IsEnded case last → IsAgain case first
    → cases ≡ last ∷ [] → away ≡ first ∷ [] → Returns true case cases away
returns_counted case last first cases away ended again lasts firsts e frame loop inner outer n v s kind_is f loops
    counted single true_of =
    by loop.turns refl where
      by : (turns : Option ℕ) → loop.turns ≡ turns → IsTurnOf n cases away e frame outer s
          (next_turn e loop inner frame)
      by None h = absurd cc
      by (Some zero) h =
          subst (IsTurnOf n cases away e frame outer s) (sym (next_is (Some zero) e loop inner frame h))
          (behind_it n cases away e frame outer s no_arguments inner
          (any_one (λ case. Describes n case (turned s no_arguments (inner ++ outer))) cases last lasts
          (subst (λ a. Describes n last (turned s a (inner ++ outer))) (none_left s.arguments single)
          (ended n v s loop (inner ++ outer) true_of loops h))))
      by (Some (suc k)) h =
          subst (IsTurnOf n cases away e frame outer s) (sym (next_is (Some (suc k)) e loop inner frame h))
          (away_from n cases away e frame outer s loop.start no_arguments (record loop { turns = Some k } ∷ inner)
          (back_at e frame loop inner kind_is f)
          (any_one (λ case. Describes n case (turned s no_arguments (record loop { turns = Some k } ∷
          (inner ++ outer))))
          away first firsts
          (subst (λ a. Describes n first (turned s a (record loop { turns = Some k } ∷ (inner ++ outer))))
          (none_left s.arguments single) (again n v s loop (inner ++ outer) k true_of loops h))))

pub returns_uncounted : (case : Case) (any_in : Ranges) (form : List Term) (cases away : List Case)
    → ((x : ℤ) → IsInOne any_in x) → AreBehindIn case any_in form away → Returns false case cases away
returns_uncounted case any_in form cases away anywhere behind e frame loop inner outer n v s kind_is f loops uncounted
    single true_of =
    by loop.turns refl where
      by : (turns : Option ℕ) → loop.turns ≡ turns → IsTurnOf n cases away e frame outer s
          (next_turn e loop inner frame)
      by (Some k) h = absurd cc
      by None h =
          subst (IsTurnOf n cases away e frame outer s) (sym (next_is None e loop inner frame h))
          (away_from n cases away e frame outer s loop.start no_arguments (loop ∷ inner)
          (back_at e frame loop inner kind_is f)
          (with_loops n away s no_arguments (loop ∷ (inner ++ outer)) loops
          (subst (λ a. Any (λ case. Describes n case (turned s a s.loops)) away) (none_left s.arguments single)
          (behind n v s true_of (anywhere (value form n v))))))

-- what the arguments were before does not show behind a turn
turned_alike : (n : ℕ) (cases away : List Case) (e : Element) (frame : Frame) (outer : List Loop) (s : Point)
    (arguments : Arguments) (turn : Turn) → IsTurnOf n cases away e frame outer (with_arguments s arguments) turn
    → IsTurnOf n cases away e frame outer s turn
turned_alike n cases away e frame outer s arguments turn (inl h) =
    inl (record { described = h.described; there = h.there })
turned_alike n cases away e frame outer s arguments turn (inr (place, leads, h)) =
    inr (place, leads, record { described = h.described; there = h.there })

pub ends_turn : (case outermost : Case) (answer : Bool) (all : Outcomes) → IsOutermost case outermost
    → Counts answer outermost → Returns answer outermost all.cases.items all.away.items → (colons : ℕ)
    → outcome.Turns flow.EndTurn colons case all
ends_turn case outermost answer all out counts returns colons e frame outer n v s kind_is same matched loops begins =
    let o = opened frame.loops (inside_of e frame flow.EndTurn kind_is matched) in
    let level = out n v s begins.true_of in
    let t = with_arguments s (record { level = level.0; outer = [] }) in
    let there : s.loops ≡ o.0 ∷ (o.1 ++ outer) = loops ∙ ap (λ ls. ls ++ outer) o.2 in
    subst (Succeeds (IsTurnOf n all.cases.items all.away.items e frame outer s)) (sym (ap
    (λ ls. turn_end e ls frame) o.2))
    (turned_alike n all.cases.items all.away.items e frame outer s (record { level = level.0; outer = [] })
    (next_turn e o.0 o.1 frame)
    (returns e frame o.0 o.1 outer n v t kind_is o.2 there (counts n v t o.0
    (o.1 ++ outer) level.1 there) refl level.1))

-- ---- what goes on behind itself, or elsewhere
pub goes_past : (case : Case) (f : Flow) (all : Outcomes)
    → ((e : Element) (arguments : Arguments) (frame : Frame) → turn_of f e arguments frame ≡ Ok
    (turn_past e arguments frame))
    → AreLater case all.cases.items → (colons : ℕ) → outcome.Turns f colons case all
goes_past case f all past later colons e frame outer n v s kind_is same matched loops begins =
    subst (Succeeds (IsTurnOf n all.cases.items all.away.items e frame outer s)) (sym (past e s.arguments frame))
    (behind_it n all.cases.items all.away.items e frame outer s s.arguments frame.loops
    (with_loops n all.cases.items s s.arguments (frame.loops ++ outer) loops (later n v s begins.true_of)))

-- what jumps over its own pairs alone
pub goes_away : (case : Case) (f : Flow) (all : Outcomes)
    → ((e : Element) (arguments : Arguments) (frame : Frame) → e.kind ≡ kind.Flow f → IsMatched e frame
    → turn_of f e arguments frame ≡ jump code.Utc e arguments frame)
    → ((e : Element) (frame : Frame) → e.kind ≡ kind.Flow f → IsMatched e frame → Skips e frame 0)
    → ((e : Element) (frame : Frame) → place_away (kind.Flow f) e frame ≡ (skip_of frame.text (Whole e)).to)
    → AreLater case all.away.items → (colons : ℕ) → outcome.Turns f colons case all
goes_away case f all jumps skip away later colons e frame outer n v s kind_is same matched loops begins =
    subst (Succeeds (IsTurnOf n all.cases.items all.away.items e frame outer s)) (sym
    (jumps e s.arguments frame kind_is matched))
    (jumped n all.cases.items all.away.items e frame outer s code.Utc f 0 s.arguments kind_is
    (skip e frame kind_is matched) (away e frame)
    (with_loops n all.away.items s s.arguments (frame.loops ++ outer) loops (later n v s begins.true_of)))

skips_none : (e : Element) (frame : Frame) (f : Flow) → e.kind ≡ kind.Flow f
    → (there : (place : ℕ) × ((skip_of frame.text (Whole e)).to ≡ Some place))
    → (skip_on (route_of (kind.Flow f)) e.text (readings frame.text e.next)).leaves ≡ 0 → Skips e frame 0
skips_none e frame f is there none = record {
  place = there.0;
  leads = there.1;
  leaves = leaves_by e frame f is ∙ none;
}

pub otherwise : (case : Case) (all : Outcomes) → AreLater case all.away.items → (colons : ℕ)
    → outcome.Turns flow.Otherwise colons case all
otherwise case all later =
    goes_away case flow.Otherwise all (λ e arguments frame is matched. refl)
    (λ e frame is matched. skips_none e frame flow.Otherwise is (skips e frame flow.Otherwise is matched) refl)
    (λ e frame. refl) later

pub goes_ahead : (case : Case) (g : Goal) (all : Outcomes) → AreLater case all.away.items → (colons : ℕ)
    → outcome.Turns (flow.GoAhead g) colons case all
goes_ahead case goal.EndTest all later =
    goes_away case (flow.GoAhead goal.EndTest) all (λ e arguments frame is matched. refl)
    (λ e frame is matched. skips_none e frame (flow.GoAhead goal.EndTest) is
    (skips e frame (flow.GoAhead goal.EndTest) is matched) refl)
    (λ e frame. refl) later
goes_ahead case goal.Otherwise all later =
    goes_away case (flow.GoAhead goal.Otherwise) all (λ e arguments frame is matched. refl)
    (λ e frame is matched. skips_none e frame (flow.GoAhead goal.Otherwise) is
    (skips e frame (flow.GoAhead goal.Otherwise) is matched) refl)
    (λ e frame. refl) later
goes_ahead case goal.EndTurn all later =
    goes_away case (flow.GoAhead goal.EndTurn) all to_end
    (λ e frame is matched. skips_none e frame (flow.GoAhead goal.EndTurn) is
    (skips e frame (flow.GoAhead goal.EndTurn) is matched) refl)
    (λ e frame. refl) later where
      to_end : (e : Element) (arguments : Arguments) (frame : Frame) → e.kind ≡ kind.Flow (flow.GoAhead goal.EndTurn)
          → IsMatched e frame
          → turn_of (flow.GoAhead goal.EndTurn) e arguments frame ≡ jump code.Utc e arguments frame
      to_end e arguments frame is matched =
          let o = opened frame.loops (inside_of e frame (flow.GoAhead goal.EndTurn) is matched) in
          ap (λ ls. to_turn_end e ls arguments frame) o.2

pub are_later : (case made : Case) (cases : List Case) → cases ≡ made ∷ [] → IsLater case made → AreLater case cases
are_later case made cases one later n v s true_of =
    any_one (λ case. Describes n case (turned s s.arguments s.loops)) cases made one (later n v s true_of)

-- whether turns are counted, as the form of them is there
pub counts : (case : Case) (number : ℕ) (form : Option (List Term)) (answer : Bool) → answer ≡ is_some form
    → IsInnermost number case
    → ((n : ℕ) (v : Valuation) (s : Point) → IsTrueOf n v case s → value_if form n v ≡ measures_of s
    (Each Turns number))
    → Counts answer case
counts case number form answer e inner is n v s loop outer true_of loops =
    both loop.turns (value_if form n v) form
    (sym (read_left s loop outer number loops (inner s loop outer true_of.shape loops)) ∙ sym (is n v s true_of)) refl
    ∙ sym e where
      both : (turns : Option ℕ) (x : Option ℤ) (f : Option (List Term)) → option_map pos turns ≡ x
          → value_if f n v ≡ x → is_some turns ≡ is_some f
      both None x None a b = refl
      both (Some k) x (Some f) a b = refl
      both None x (Some f) a b = cc
      both (Some k) x None a b = cc

-- ---- O
-- at most one iteration is left where no more are open
choose : (inner outer : List Loop) (left : ℕ) → length (inner ++ outer) ≤ 1
    → (inner ++ outer ≡ drop left inner ++ outer)
    ⊎ ((loop : Loop) × (inner ++ outer ≡ loop ∷ []) × ([] ≡ drop left inner ++ outer))
choose [] outer zero h = inl refl
choose [] outer (suc left) h = inl refl
choose (loop ∷ inner) outer zero h = inl refl
choose (loop ∷ []) [] (suc zero) h = inr (loop, refl, refl)
choose (loop ∷ []) [] (suc (suc left)) h = inr (loop, refl, refl)
choose (loop ∷ []) (x ∷ outer) (suc left) h = absurd (omega arith)
choose (loop ∷ x ∷ inner) outer (suc left) h = absurd (omega arith)

pub jumps_inside : (case stays : Case) (away : List Case) → case.shape.iterations ≡ 0 → IsDropped case stays
    → away ≡ stays ∷ [] → JumpsOut case away
jumps_inside case stays away none dropped is n v s inner outer left true_of loops =
    let long : length (inner ++ outer) ≡ 0 = sym (ap length loops) ∙ sym true_of.shape.iterations ∙ none in
    subst (Any (λ made. Describes n made (turned s no_arguments (drop left inner ++ outer)))) (sym is)
    (elim (choose inner outer left (omega (arith, long))) [
      | inl e ↦ (
        0,
        stays,
        omega arith,
        refl,
        subst (λ ls. Describes n stays (turned s no_arguments ls)) (loops ∙ e)
            (dropped n v s true_of),
      )
      | inr e ↦ absurd (omega (arith, long, ap length e.1))
    ])

pub jumps_out : (case stays gone : Case) (form : List Term) (away : List Case) → case.shape.iterations ≤ 1
    → IsDropped case stays → IsLeft case range.Any form gone → away ≡ stays ∷ gone ∷ [] → JumpsOut case away
jumps_out case stays gone form away few dropped leaves is n v s inner outer left true_of loops =
    let long : length (inner ++ outer) ≡ case.shape.iterations =
    sym (ap length loops) ∙ sym true_of.shape.iterations in
    subst (Any (λ made. Describes n made (turned s no_arguments (drop left inner ++ outer)))) (sym is)
    (elim (choose inner outer left (omega (arith, long, few))) [
      | inl e ↦ (
        0,
        stays,
        omega arith,
        refl,
        subst (λ ls. Describes n stays (turned s no_arguments ls)) (loops ∙ e)
            (dropped n v s true_of),
      )
      | inr e ↦ (
        1,
        gone,
        omega arith,
        refl,
        subst (λ ls. Describes n gone (turned s no_arguments ls)) e.2
            (leaves n v s e.0 [] true_of (loops ∙ e.1) tt),
      )
    ])

pub goes_to : (case : Case) (taken : TakenForms) (all : Outcomes) → IsTaken case taken → is_some taken.value ≡ false
    → JumpsOut case all.away.items → (colons : ℕ) → outcome.Turns flow.GoTo colons case all
goes_to case taken all takes none jumps colons e frame outer n v s kind_is same matched loops begins =
    let h = skips e frame flow.GoTo kind_is matched in
    let left = (skip_of frame.text (Whole e)).leaves in
    let turn = turn_to no_arguments h.0 (drop left frame.loops) frame in
    subst (Succeeds (IsTurnOf n all.cases.items all.away.items e frame outer s))
    (sym (ap (λ r. r >>= (λ taken. jump code.Tag e no_arguments frame >>= (λ turn. without_value taken.value turn)))
    (takes n v s begins.true_of)
    ∙ ap (λ r. r >>= (λ turn. without_value (value_if taken.value n v) turn))
    (jump_is code.Tag e no_arguments frame left (record { place = h.0; leads = h.1; leaves = refl }))
    ∙ ap (λ o. without_value o turn) (no_value taken.value none)))
    (inr (
      h.0,
      ap (λ (k : Kind). place_away k e frame) kind_is ∙ h.1,
      record { described = jumps n v s frame.loops outer left begins.true_of loops; there = refl },
    )) where
      no_value : (o : Option (List Term)) → is_some o ≡ false → value_if o n v ≡ None
      no_value None k = refl
      no_value (Some form) k = absurd cc
