-- The codes that a search can tell only when it has its pattern.
use Rattle.std.proofs.Common.{◌≡◌, inl, inr, ℕ, ℤ, Bool, true, false, Result, Ok, Err, Option, Some, None, length}
use Rattle.std.proofs.Common.{nat_le, refl}
use Rattle.std.specs.Prelude.{IsOk, if◌then◌else◌}
use Rattle.teco_base.specs.Does.{Does, FailsWith, IsDoneOrFull, memory_where}
use Rattle.teco_base.specs.Text.{text_after_replacement}
use Rattle.teco_base.specs.declared.TheConstants.{LIMIT}
use Rattle.teco_base.specs.declared.code.Code.{Code}
use Rattle.teco_base.specs.declared.code.Code.TheVariants as code
use Rattle.teco_find.specs.Reading.{pattern_cause}
use Rattle.teco_find.specs.declared.fault.FindFault.{FindFault}
use Rattle.teco_find.specs.declared.fault.FindFault.TheVariants as fault
use Rattle.teco_model.specs.Checked.{◌>>=◌}
use Rattle.teco_model.specs.Element.{Element}
use Rattle.teco_model.specs.Paging.{MetHere, here_of, look_here}
use Rattle.teco_model.specs.Pattern.{Pattern}
use Rattle.teco_model.specs.Search as model
use Rattle.teco_model.specs.State.{Kept}
use Rattle.teco_model.specs.declared.arguments.Taken.{Taken}
use Rattle.teco_model.specs.declared.kind.Search.{Search}
use Rattle.teco_model.specs.declared.kind.Search.TheVariants as search_kind
use Rattle.teco_model.specs.declared.pattern.Sought.{Sought}
use Rattle.teco_model.specs.declared.pattern.Sought.TheVariants.{Last, Wanted}
use Rattle.teco_model.specs.declared.pattern.Span.{Span}
use Rattle.teco_editor.specs.Commands.{stuck_cause}
use Rattle.teco_editor.specs.Searches.{finding_seen, here_seen, stuck_by_pattern}

either-late : {X : Type 0} (fits : Bool) (x : X) → IsDoneOrFull (if fits then Ok x else Err code.Ful)
either-late true x = inl refl
either-late false x = inr refl

pub kept_after-late : (s : Search) (e : Element) (span : Span) (kept : Kept)
    → IsDoneOrFull (model.kept_after s e span kept)
kept_after-late search_kind.Find e span kept = inl refl
kept_after-late search_kind.FindInPages e span kept = inl refl
kept_after-late search_kind.Replace e span kept =
    either-late (nat_le (length (text_after_replacement kept.text span.start span.end e.second)) LIMIT) _
kept_after-late search_kind.ReplaceInPages e span kept =
    either-late (nat_le (length (text_after_replacement kept.text span.start span.end e.second)) LIMIT) _

found-late : (r : Result Kept Code) → IsDoneOrFull r → IsDoneOrFull (r >>= (λ found. Ok (model.Found found)))
found-late (Ok kept) h = inl refl
found-late (Err c) (inl h) = cc
found-late (Err c) (inr h) = inr (cc)

pub finding-late : (s : Search) (e : Element) (span : Option Span) (kept : Kept)
    → IsDoneOrFull (model.finding_of s e span kept)
finding-late s e None kept = inl refl
finding-late s e (Some span) kept = found-late (model.kept_after s e span kept) (kept_after-late s e span kept)

module _ (s : Search) (e : Element) (taken : Taken) (kept : Kept) (n : ℤ)
    (counted : model.count_of taken.first taken.value ≡ Ok n) where
  -- with its pattern a search is done, or FUL
  late_by : (read : Result Pattern Code) → model.pattern_of (model.search_text_of e.text kept) kept ≡ read → IsOk read
      → IsDoneOrFull (model.search s e taken kept)
  late_by (Ok pattern) said h = rw (counted, said) (finding-late s e _ _)
  late_by (Err c) said h = cc

  pub search-late : IsOk (model.pattern_of (model.search_text_of e.text kept) kept)
      → IsDoneOrFull (model.search s e taken kept)
  search-late h = late_by (model.pattern_of (model.search_text_of e.text kept) kept) refl h

  -- a search text that is refused
  pub search-refused : (fault : FindFault)
      → FailsWith (memory_where IsOk) (model.pattern_of (model.search_text_of e.text kept) kept) (pattern_cause fault)
      → Does stuck_cause (memory_where IsDoneOrFull) (finding_seen e.text kept) kept kept (model.search s e taken kept)
      (Err (stuck_by_pattern fault))
  search-refused fault.Ice h = (rw (counted, h) refl, refl)
  search-refused fault.Iqn h = (rw (counted, h) refl, refl)
  search-refused fault.Memory h = (search-late h, refl)

-- a look with its pattern is done, or FUL
here-late : (r : Result Kept Code) → IsDoneOrFull r → IsDoneOrFull (r >>= (λ met. Ok (MetHere met)))
here-late (Ok kept) h = inl refl
here-late (Err c) (inl h) = cc
here-late (Err c) (inr h) = inr (cc)

here_of-late : (s : Search) (e : Element) (kept : Kept) (sought : Sought) → IsDoneOrFull (here_of s e kept sought)
here_of-late s e kept (Last span) = here-late (model.kept_after s e span kept) (kept_after-late s e span kept)
here_of-late s e kept (Wanted n) = inl refl

module _ (s : Search) (e : Element) (n : ℕ) (kept : Kept) where
  look_late_by : (read : Result Pattern Code) → model.pattern_of kept.search_text kept ≡ read → IsOk read
      → IsDoneOrFull (look_here s e n kept)
  look_late_by (Ok pattern) said h = rw said (here_of-late s e kept _)
  look_late_by (Err c) said h = cc

  pub look-refused : (old : Kept) (fault : FindFault)
      → FailsWith (memory_where IsOk) (model.pattern_of kept.search_text kept) (pattern_cause fault)
      → Does stuck_cause (memory_where IsDoneOrFull) here_seen old old (look_here s e n kept)
      (Err (stuck_by_pattern fault))
  look-refused old fault.Ice h = (rw h refl, refl)
  look-refused old fault.Iqn h = (rw h refl, refl)
  look-refused old fault.Memory h = (look_late_by (model.pattern_of kept.search_text kept) refl h, refl)

-- what a refusal leaves open
pub ruleset late = (kept_after-late)
