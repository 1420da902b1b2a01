-- What is asked of searches in the buffer.
use Rattle.std.specs.Prelude.{◌≡◌, ℕ, suc, ◌+◌, ◌-◌, ◌≤◌, ◌<◌, ℤ, pos, negsuc, List, [], ◌∷◌, ◌++◌, length}
use Rattle.std.specs.Prelude.{Bool, true, false, if◌then◌else◌, flat_map, Option, Some, None, Ok}
use Rattle.std.specs.List.{All, Any}
use Rattle.teco_base.specs.Text.{text_after_replacement}
use Rattle.teco_base.specs.declared.TheConstants.{LIMIT}
use Rattle.teco_linear.specs.declared.term.Term.{Term}
use Rattle.teco_linear.specs.Form.{Valuation}
use Rattle.teco_linear.specs.Implied.{Holds}
use Rattle.teco_model.specs.Ahead.{Whole}
use Rattle.teco_model.specs.Arguments.{no_arguments}
use Rattle.teco_model.specs.Element.{Element, element_at}
use Rattle.teco_model.specs.Pattern.{Pattern, items_of, parts}
use Rattle.teco_model.specs.Search.{Finding, Found, Missed, count_of, match_of, search}
use Rattle.teco_model.specs.Searching.{has_colon, kept_by_miss, search_message}
use Rattle.teco_model.specs.Skip.{skip_of}
use Rattle.teco_model.specs.State.{Frame, Kept, State}
use Rattle.teco_model.specs.Step.{step}
use Rattle.teco_model.specs.Typing.{typing_of}
use Rattle.teco_model.specs.declared.flow.Loop.{Loop}
use Rattle.teco_model.specs.declared.kind.Search.{Search}
use Rattle.teco_model.specs.declared.pattern.Part.{Part}
use Rattle.teco_model.specs.declared.pattern.Span.{Span}
use Rattle.teco_model.specs.laws.Matching.{IsMatch}
use Rattle.teco_model.specs.laws.Whole.{IsWhole}
use Rattle.teco_rows.specs.declared.case.Case.{Case}
use Rattle.teco_rows.specs.declared.commands.TakenForms.{TakenForms}
use Rattle.teco_rows.specs.declared.outcomes.Guarded.{Guarded}
use Rattle.teco_rows.specs.declared.outcomes.Outcomes.{Outcomes}
use Rattle.teco_rows.specs.declared.row.Clause.{Clause}
use Rattle.teco_rows.specs.Cases.{value_if}
use Rattle.teco_rows.specs.Commands.{IsTaken, commanded, taken_by}
use Rattle.teco_rows.specs.Foretold.{Begins, Describe, IsGuarded, Succeeds}
use Rattle.teco_rows.specs.States.{Origin, Point, IsTrueOf, Describes}
use Rattle.teco_search_outcomes.specs.declared.searches.Aim.{Aim}
use Rattle.teco_search_outcomes.specs.declared.searches.BegunSearch.{BegunSearch}
use Rattle.teco_search_outcomes.specs.declared.searches.Direction.{Direction}
use Rattle.teco_search_outcomes.specs.declared.searches.Direction.TheVariants.{Ahead, Back, Here}
use Rattle.teco_search_outcomes.specs.declared.searches.KnownMatch.{KnownMatch}
use Rattle.teco_search_outcomes.specs.declared.searches.TheConstants as rows
use Rattle.teco_motion_outcomes.specs.Changes.{DescribesFrom, with_kept}
use Rattle.teco_flow_outcomes.specs.Flow.{turned}
use Rattle.teco_flow_outcomes.specs.Law.{Goes, StepsTo, point_of}
use Rattle.teco_search_outcomes.specs.Patterns.{EndsLine, IsSingle, StaysInLine}

-- ---- where a search looks
-- a match lies so to a place
abbrev pub LiesTo : Direction → ℕ → Span → Type 0
LiesTo Ahead p span = p ≤ span.start
LiesTo Back p span = span.start < p
LiesTo Here p span = span.start ≡ p

-- the match that is sought, so many with so many colons, is one, and lies so to the pointer
abbrev pub Looks : Direction → ℕ → ℤ → Type 0
Looks direction colons count =
    (pattern : Pattern) (text : List ℕ) (pointer : ℕ) (span : Span)
    → match_of pattern colons count text pointer ≡ Some span
    → IsMatch pattern text span × LiesTo direction pointer span

-- the direction of a search back or ahead; with two colons it looks at the pointer alone
abbrev pub aimed : Bool → ℕ → Direction
aimed back (suc (suc colons)) = Here
aimed true colons = Back
aimed false colons = Ahead

-- under the conditions, so many matches can be sought, and the direction is that in which they are
abbrev pub Aims : Option (List Term) → ℕ → Aim → Type 0
Aims number colons aim =
    (n : ℕ) (v : Valuation)
    → All (Holds n v) aim.conditions.items
    → (count : ℤ) × (count_of None (value_if number n v) ≡ Ok count) × Looks aim.direction colons count

-- a command takes no pair of arguments, but the number that a form is, or none
abbrev pub TakesNumber : Case → Option (List Term) → Type 0
TakesNumber case number = IsTaken case (record { first = None; value = number })

-- ---- what is known of a match
-- what is said to be known of a match of parts is so
pub record IsKnown (parts : List Part) (direction : Direction) (known : KnownMatch) : Type 0 where
  pub towards : known.direction ≡ direction
  pub exact : known.is_exact ≡ true → All IsSingle parts
  pub ends : known.ends_line ≡ true → EndsLine parts
  pub stays : known.stays_in_line ≡ true → All StaysInLine parts

abbrev pub direction_clauses : Direction → List Clause
direction_clauses Ahead = rows.AHEAD
direction_clauses Back = rows.BACK
direction_clauses Here = rows.HERE

-- the clauses of what is known
abbrev pub extra_clauses : KnownMatch → List Clause
extra_clauses known =
    (((rows.LIES ++ direction_clauses known.direction) ++ (if known.is_exact then rows.EXACT else []))
    ++ (if known.ends_line then rows.NEW_LINE else []))
    ++ (if known.stays_in_line then rows.SAME_LINE else [])

-- ---- what is found
-- a match of parts is in a text, with the registers of now, and lies so to the pointer
pub record IsOf (parts : List Part) (direction : Direction) (kept : Kept) (span : Span) : Type 0 where
  pub exact : Bool
  pub matches : IsMatch (flat_map (items_of kept.registers exact) parts) kept.text span
  pub lies : LiesTo direction kept.pointer span

-- no match of parts begins at the pointer
abbrev pub BeginsLater : List Part → Direction → Case → Type 0
BeginsLater parts direction case =
    (n : ℕ) (v : Valuation) (s : Point) (span : Span)
    → IsTrueOf n v case s → IsWhole s.kept → IsOf parts direction s.kept span → s.kept.pointer < span.start

-- S keeps this
pub record HasFound (span : Span) (old new : Kept) : Type 0 where
  pub text : new.text ≡ old.text
  pub pointer : new.pointer ≡ span.end
  pub registers : new.registers ≡ old.registers
  pub last : new.last_length ≡ span.end - span.start
  pub typed : new.typed ≡ old.typed

-- FS keeps this
pub record HasReplaced (span : Span) (other : List ℕ) (old new : Kept) : Type 0 where
  pub text : new.text ≡ text_after_replacement old.text span.start span.end other
  pub pointer : new.pointer ≡ span.start + length other
  pub registers : new.registers ≡ old.registers
  pub last : new.last_length ≡ length other
  pub typed : new.typed ≡ old.typed

-- with two colons the pointer stays, and else it goes to the start
abbrev pub IsMissedPlace : ℕ → ℕ → ℕ → Type 0
IsMissedPlace (suc (suc colons)) old new = new ≡ old
IsMissedPlace colons old new = new ≡ 0

-- a search that misses keeps this
pub record HasMissed (colons : ℕ) (old new : Kept) : Type 0 where
  pub text : new.text ≡ old.text
  pub pointer : IsMissedPlace colons old.pointer new.pointer
  pub registers : new.registers ≡ old.registers
  pub last : new.last_length ≡ old.last_length
  pub typed : new.typed ≡ old.typed

abbrev pub IsFoundBy : List Part → Direction → Case → Case → Type 0
IsFoundBy parts direction case made =
    (n : ℕ) (v : Valuation) (s : Point) (span : Span) (kept : Kept)
    → IsTrueOf n v case s → IsWhole s.kept → IsOf parts direction s.kept span → HasFound span s.kept kept
    → Describes n made (with_kept s kept)

abbrev pub IsReplacedBy : List Part → Direction → List ℕ → Case → Case → Type 0
IsReplacedBy parts direction text case made =
    (n : ℕ) (v : Valuation) (s : Point) (span : Span) (kept : Kept)
    → IsTrueOf n v case s → IsWhole s.kept → IsOf parts direction s.kept span → HasReplaced span text s.kept kept
    → DescribesFrom n case v made (with_kept s kept)

abbrev pub IsMissed : ℕ → Case → Case → Type 0
IsMissed colons case made =
    (n : ℕ) (v : Valuation) (s : Point) (kept : Kept)
    → IsTrueOf n v case s → IsWhole s.kept → HasMissed colons s.kept kept → Describes n made (with_kept s kept)

-- where a guarded condition holds, and a case made of another describes a state, the buffer of that is not too long
abbrev pub HasRoom : Case → Case → Guarded → Type 0
HasRoom case made guarded =
    (n : ℕ) (v : Valuation) (s : Point)
    → DescribesFrom n case v made s → IsGuarded n v guarded → length s.kept.text ≤ LIMIT

-- where the guarded conditions hold, and a case made of another describes a state, the buffer of that is not too long
abbrev pub HaveRoom : Case → Case → List Guarded → Type 0
HaveRoom case made guarded =
    (n : ℕ) (v : Valuation) (s : Point)
    → DescribesFrom n case v made s → All (IsGuarded n v) guarded → length s.kept.text ≤ LIMIT

-- ---- what a search begins with
-- it takes one number or none, and has a text; with these it looks for the parts of that
pub record IsBegun (e : Element) (case : Case) (begun : BegunSearch) : Type 0 where
  pub number : Option (List Term)
  pub takes : TakesNumber case number
  pub some : 1 ≤ length e.text
  pub read : parts e.text ≡ Ok begun.parts.items
  pub aims : Aims number e.colons begun.aim
  pub misses : IsMissed e.colons case begun.start

-- ---- what is answered
-- what is found and what is missed is answered
pub record Answers (found missed : Case) (all : Outcomes) : Type 0 where
  pub yes : (n : ℕ) (s : Point) → Describes n found s → Describe n all (commanded s s.kept (Some (negsuc 0)))
  pub no : (n : ℕ) (s : Point) → Describes n missed s → Describe n all (commanded s s.kept (Some (pos 0)))

-- a state in which the message of a search was typed that leaves its iteration
abbrev pub warned : Point → Point
warned s = with_kept s (typing_of search_message s.kept).kept

-- a case describes that where another describes the state before
abbrev pub IsWarned : Case → Case → Type 0
IsWarned case made = (n : ℕ) (s : Point) → Describes n case s → Describes n made (warned s)

-- what is found goes on, and what is missed leaves its iteration, with a message
pub record Leaves (found missed : Case) (all : Outcomes) : Type 0 where
  pub on : (n : ℕ) (s : Point) → Describes n found s → Describe n all (commanded s s.kept None)
  pub out : (n : ℕ) (s : Point) (loop : Loop) (outer : List Loop)
      → Describes n missed s → s.loops ≡ loop ∷ outer
      → Any (λ made. Describes n made (turned (warned s) no_arguments outer)) all.away.items

abbrev pub Ends : Bool → Case → Case → Outcomes → Type 0
Ends true found missed all = Answers found missed all
Ends false found missed all = Leaves found missed all

-- ---- the law
-- what a search keeps that misses and leaves its iteration, with a message
abbrev pub kept_by_leaving : ℕ → Kept → Kept
kept_by_leaving colons kept = (typing_of search_message (kept_by_miss colons kept)).kept

-- what a search comes to is foretold, where it answers or does not
abbrev pub IsForeseen : Bool → ℕ → Outcomes → ℕ → Point → Finding → Type 0
IsForeseen true n all colons s (Found kept) = Describe n all (commanded s kept (Some (negsuc 0)))
IsForeseen true n all colons s (Missed kept) =
    Describe n all (commanded s (kept_by_miss colons kept) (Some (pos 0)))
IsForeseen false n all colons s (Found kept) = Describe n all (commanded s kept None)
IsForeseen false n all colons s (Missed kept) =
    (loop : Loop) (outer : List Loop)
    → s.loops ≡ loop ∷ outer
    → Any (λ made. Describes n made (turned (with_kept s (kept_by_leaving colons kept)) no_arguments outer))
    all.away.items

-- Where it begins so, a search of these texts comes to no code, and what it comes to is foretold.
abbrev pub Searches : Search → Bool → Element → TakenForms → Case → Outcomes → Type 0
Searches kind answers e taken case all =
    (n : ℕ) (v : Valuation) (s : Point)
    → Begins n v case all s
    → Succeeds (IsForeseen answers n all e.colons s) (search kind e (taken_by taken n v) s.kept)

-- A search answers where it has a colon, or ; is behind it; else it is of an iteration that has its end.
abbrev pub IsAsked : Bool → Element → Frame → Type 0
IsAsked true e frame = has_colon e frame ≡ true
IsAsked false e frame =
    (has_colon e frame ≡ false) × (1 ≤ length frame.loops)
    × (there : ℕ) × ((skip_of frame.text (Whole e)).to ≡ Some there)

-- The law of an element, for a search that answers, or does not.
abbrev pub SearchLaw : Bool → Element → Case → Outcomes → Type 0
SearchLaw answers e case all =
    (n : ℕ) (v : Valuation) (s : State) (steps : ℕ) (origin : Origin)
    → element_at s.frames.running.text s.frames.running.place ≡ Ok (Some e)
    → IsAsked answers e s.frames.running → Begins n v case all (point_of steps origin s)
    → StepsTo (Goes n all e steps origin s) (step s)
