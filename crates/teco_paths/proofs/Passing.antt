-- A step that changes nothing but the text that is executed.
use Rattle.teco_paths.proofs.Prelude.{◌⊎◌, inl, inr, refl, sym, subst, List, [], ◌++◌, false, Result, Ok, Err, IfOk}
use Rattle.teco_paths.proofs.Prelude.{Any, Element, Frame, Case, Outcomes, turned, Point, Describes, Passes}
use Rattle.std.proofs.lemmas.List.{append-nil}
use Rattle.teco_model.specs.declared.kind.Flow.TheVariants as flow
use Rattle.teco_model.specs.declared.kind.Kind.TheVariants as kind
use Rattle.teco_model.specs.Flow.{turn_past}
use Rattle.teco_rows.specs.declared.fault.RowFault.{RowFault}
use Rattle.teco_flow_outcomes.specs.Flow.{IsTurnOf, Turns}
use Rattle.teco_flow_outcomes.specs.Law.{IsMatched}

abbrev here : Element
here = record { kind = kind.Flow flow.EndTest; colons = 0; at = false; text = []; second = []; place = 0; next = 0 }

abbrev in_text : Point → Frame
in_text s = record { text = []; place = 0; loops = s.loops }

matched : (s : Point) → IsMatched here (in_text s)
matched s = record { leads = tt; inside = tt }

pub passes : (case : Case) (all : Outcomes) → Turns flow.EndTest 0 case all → Passes case all
passes case all turns n v s begins =
    by (turns here (in_text s) [] n v s refl refl (matched s) (sym (append-nil s.loops)) begins)
  where
    same : (made : List Case) → Any (λ m. Describes n m (turned s s.arguments (s.loops ++ []))) made
        → Any (λ m. Describes n m (turned s s.arguments s.loops)) made
    same made h = subst (λ loops. Any (λ m. Describes n m (turned s s.arguments loops)) made) (append-nil s.loops) h

    by : IsTurnOf n all.cases.items all.away.items here (in_text s) [] s (turn_past here s.arguments (in_text s))
        → Any (λ m. Describes n m (turned s s.arguments s.loops)) all.cases.items
        ⊎ Any (λ m. Describes n m (turned s s.arguments s.loops)) all.away.items
    by (inl t) = inl (same all.cases.items t.described)
    by (inr a) = inr (same all.away.items a.2.described)

pub passes_if : (case : Case) (r : Result Outcomes RowFault) → IfOk r (λ all. Turns flow.EndTest 0 case all)
    → IfOk r (λ all. Passes case all)
passes_if case (Ok all) h = passes case all h
passes_if case (Err e) h = tt
