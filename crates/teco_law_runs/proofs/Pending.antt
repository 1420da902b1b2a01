-- A run that begins with an argument's digits ends as one where it is pending already.
use Rattle.teco_law_runs.proofs.Prelude.{◌≡◌, ℕ, ◌+◌, ◌<◌, refl, sym, ap, ◌∙◌, subst, arith, false, Option, Some, None}
use Rattle.teco_law_runs.proofs.Prelude.{Element, World, State, Outcome, Next, End, start, ◌^◌, option_map}
use Rattle.teco_law_runs.proofs.Prelude.{option_map_or, ints, REGISTERS, Ends, AreOutcomesAlike, AreAlike}
use Rattle.teco_law_runs.proofs.Prelude.{StepsAreAlike, RunsAreAlike, ReadingsAreAlike, start_pending}
use Rattle.teco_law_runs.proofs.Prelude.{NumbersArePending, EndsWithin, is_of_files, changes_files, NoFileCommands}
use Rattle.teco_model.specs.Macros.{ArgumentRange, IsAsked}
use Rattle.teco_law_runs.specs.Alike.{kind_of}
use Rattle.teco_law_runs.specs.Given.{call_given, BeginsPending}
use Rattle.teco_verifier.specs.facts.Argument.{arguments_given}
use Rattle.teco_law_runs.specs.Wholeness.{AreWholeArguments}
use Rattle.teco_law_runs.proofs.Walking.{none_more, none_on, none_yet, one_step, reads_none, reaches_here, reaches_on}

pub record CallLaws : Type 0 where
  pub steps : StepsAreAlike
  pub runs : RunsAreAlike
  pub readings : ReadingsAreAlike
  pub pending : NumbersArePending

-- ---- an argument that is asked for is whole
pub argument_whole : (argument : Option ArgumentRange) (given : Option ℕ) → IsAsked argument given
    → AreWholeArguments (arguments_given given)
argument_whole None None asked = record { level = record { first = tt; value = tt }; outer = tt }
argument_whole (Some range) (Some n) asked =
    record { level = record { first = tt; value = omega (arith, ints, asked.small) }; outer = tt }
argument_whole argument given asked = absurd (grind arith)

-- ---- outcomes that are alike
record NextAlike (one : Outcome) (last : State) : Type 0 where
  state : State
  is : one ≡ Next state
  alike : AreAlike state last

next_alike : (one other : Outcome) (last : State) → AreOutcomesAlike one other → other ≡ Next last → NextAlike one last
next_alike (Next s) (Next t) last a e =
    let same : t ≡ last = cc in
    record { state = s; is = refl; alike = subst (AreAlike s) same a }
next_alike one other last a e = absurd (grind arith)

end_alike : (one other : Outcome) (new : World) → AreOutcomesAlike one other → other ≡ End new → one ≡ End new
end_alike (End w) (End v) new a e = ap End a ∙ e
end_alike one other new a e = absurd (grind arith)

-- and the other way round
pub record OtherNext (other : Outcome) (first : State) : Type 0 where
  pub state : State
  pub is : other ≡ Next state
  pub alike : AreAlike first state

pub other_next : (one other : Outcome) (first : State) → AreOutcomesAlike one other → one ≡ Next first
    → OtherNext other first
other_next (Next s) (Next t) first a e =
    let same : s ≡ first = cc in
    record { state = t; is = refl; alike = subst (λ s. AreAlike s t) same a }
other_next one other first a e = absurd (grind arith)

-- ---- runs that are alike
files_by : (read : Option Element) → changes_files read ≡ option_map_or is_of_files (option_map kind_of read) false
files_by None = refl
files_by (Some e) = refl

same_files : (read other : Option Element) → option_map kind_of read ≡ option_map kind_of other
    → changes_files read ≡ changes_files other
same_files read other kinds = files_by read ∙ (ap (λ k. option_map_or is_of_files k false) kinds ∙ sym (files_by other))

module _ (laws : CallLaws) (s t : State) (alike : AreAlike s t) where
  none_alike : (steps : ℕ) → NoFileCommands t steps → NoFileCommands s steps
  none_alike steps none k u less came read reads =
      let there = other_next _ _ u (laws.runs k s t alike) came in
      let other = laws.readings u there.state read there.alike reads in
      same_files read other.other other.kinds ∙ none k there.state less there.is other.other other.reads

  ends_alike : (steps : ℕ) (new : World) → Ends t steps new → Ends s steps new
  ends_alike steps new ends =
      let there = next_alike _ _ ends.last (laws.runs steps s t alike) ends.steps in
      record {
        last = there.state;
        steps = there.is;
        end = end_alike _ _ new (laws.steps there.state ends.last there.alike) ends.end;
      }

-- ---- the step of the digits
module _ (laws : CallLaws) (entry n : ℕ) (world : World) (named : entry < REGISTERS) (small : n < 2 ^ 31) where
  abbrev first : State
  first = start (call_given entry (Some n)) world

  digits : BeginsPending entry n world
  digits = laws.pending entry n world named small

  none_first : NoFileCommands first 1
  none_first = none_more 0 first first (none_yet first) (reaches_here first)
      (reads_none first (Some digits.digits) digits.reads (ap is_of_files digits.are_digits))

  pub none_given : (steps : ℕ) → NoFileCommands (start_pending entry n world) steps → NoFileCommands first (1 + steps)
  none_given steps none =
      none_on 1 steps first digits.behind none_first (one_step first digits.behind digits.goes)
      (none_alike laws digits.behind (start_pending entry n world) digits.alike steps none)

  pub ends_given : (steps : ℕ) (new : World) → Ends (start_pending entry n world) steps new → Ends first (1 + steps) new
  ends_given steps new ends =
      let later = ends_alike laws digits.behind (start_pending entry n world) digits.alike steps new ends in
      let goes = one_step first digits.behind digits.goes in
      record {
        last = later.last;
        steps = reaches_on 1 steps first digits.behind later.last goes later.steps;
        end = later.end;
      }

  pub given_ends : (steps : ℕ) → EndsWithin (start_pending entry n world) steps → EndsWithin first (1 + steps)
  given_ends steps ends = record {
    steps = 1 + ends.steps;
    new = ends.new;
    few = omega (arith, ends.few);
    none = none_given ends.steps ends.none;
    ends = ends_given ends.steps ends.new ends.ends;
  }
