-- What is printed of an element: how many steps it takes at most, and which files it needs.
use Rattle.std.specs.Prelude.{true, false, Option, Some, None, Result, Ok}
use Rattle.teco_model.specs.declared.kind.Kind.{Kind}
use Rattle.teco_model.specs.declared.kind.Kind.TheVariants as kind
use Rattle.teco_model.specs.declared.kind.Page.{Page}
use Rattle.teco_model.specs.declared.kind.Page.TheVariants as page
use Rattle.teco_model.specs.declared.kind.Search.{Search}
use Rattle.teco_model.specs.declared.kind.Search.TheVariants as search
use Rattle.teco_model.specs.Macros.{Needs}
use Rattle.teco_poly.specs.Polynomial.{Polynomial, number}
use Rattle.teco_verifier.specs.declared.values.Value.{Value}
use Rattle.teco_verifier.specs.declared.refusal.RefusalReason.{RefusalReason}
use Rattle.teco_verifier.specs.facts.Arguments.{KnownTaken, arguments_of}
use Rattle.teco_verifier.specs.facts.Attempt.{◌>>=◌}
use Rattle.teco_verifier.specs.facts.Facts.{Facts, sum_of}
use Rattle.teco_verifier.specs.facts.Flows.{bound_of}
use Rattle.teco_verifier.specs.facts.Motions.{or_one}

-- nP and nPW take a step for each page, m,nP and m,nPW one
abbrev pub steps_of_pages : Option Value → Option Value → Facts → Result Polynomial RefusalReason
steps_of_pages (Some m) (Some n) facts = Ok (number 1)
steps_of_pages first n facts = bound_of (or_one n) facts

abbrev pub steps_of_page : Page → KnownTaken → Facts → Result Polynomial RefusalReason
steps_of_page page.Next taken facts = steps_of_pages taken.first taken.value facts
steps_of_page page.Write taken facts = steps_of_pages taken.first taken.value facts
steps_of_page p taken facts = Ok (number 1)

-- N and FN take one for each page that is ahead, and one more
abbrev pub steps_of_search : Search → Facts → Result Polynomial RefusalReason
steps_of_search search.FindInPages facts = sum_of facts.position.ahead (number 1)
steps_of_search search.ReplaceInPages facts = sum_of facts.position.ahead (number 1)
steps_of_search s facts = Ok (number 1)

-- the most steps that an element takes
abbrev pub steps : Kind → Facts → Result Polynomial RefusalReason
steps (kind.Page p) facts = do
  taken ← arguments_of facts.arguments.level
  steps_of_page p taken facts
steps (kind.Search s) facts = steps_of_search s facts
steps k facts = Ok (number 1)

abbrev pub no_needs : Needs
no_needs = record { input = false; output = false }

-- A without n reads the input; P, PW, N and FN write to the output
abbrev pub needs_of_page : Page → Option Value → Needs
needs_of_page page.Append None = record { input = true; output = false }
needs_of_page page.Append (Some n) = no_needs
needs_of_page p value = record { input = false; output = true }

abbrev pub needs_of_search : Search → Needs
needs_of_search search.FindInPages = record { input = false; output = true }
needs_of_search search.ReplaceInPages = record { input = false; output = true }
needs_of_search s = no_needs

abbrev pub needs : Kind → Facts → Result Needs RefusalReason
needs (kind.Page p) facts = do
  taken ← arguments_of facts.arguments.level
  Ok (needs_of_page p taken.value)
needs (kind.Search s) facts = Ok (needs_of_search s)
needs k facts = Ok no_needs
