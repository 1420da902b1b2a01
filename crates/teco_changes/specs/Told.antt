-- The table of elements is true of the machine: what its commands do to the buffer is told.
use Rattle.std.specs.Prelude.{◌≡◌, ℤ, ◌<◌, ◌^◌, nat_abs, Ok}
use Rattle.teco_changes.specs.Changes.{Changes}
use Rattle.teco_changes.specs.Elements.{asked, commanded, swapped}
use Rattle.teco_model.specs.declared.arguments.Taken.{Taken}
use Rattle.teco_model.specs.Effect.{Effect}
use Rattle.teco_model.specs.Element.{Element}
use Rattle.teco_model.specs.Query.{query_with}
use Rattle.teco_model.specs.Search.{Found, search}
use Rattle.teco_model.specs.State.{Kept}
use Rattle.teco_model.specs.Step.{execution}
use Rattle.teco_model.specs.declared.kind.Command.{Command}
use Rattle.teco_model.specs.declared.kind.Query.{Query}
use Rattle.teco_model.specs.declared.kind.Search.TheVariants as search_kind

-- each command: those that put and take, and those that leave the text as it is
abbrev pub CommandsAreTold : Type 0
CommandsAreTold =
    (c : Command) (element : Element) (taken : Taken) (kept : Kept) (effect : Effect)
    → execution c element taken kept ≡ Ok effect → Changes (commanded c element) kept.text effect.kept.text

-- FS, where it finds
abbrev pub ReplacementsAreTold : Type 0
ReplacementsAreTold =
    (element : Element) (taken : Taken) (kept after : Kept)
    → search search_kind.Replace element taken kept ≡ Ok (Found after)
    → Changes (swapped element.text element.second) kept.text after.text

-- Q, ^X and \ with a value, which fits 64 bits
abbrev pub QueriesAreTold : Type 0
QueriesAreTold =
    (q : Query) (n : ℤ) (kept : Kept) (effect : Effect) → nat_abs n < 2 ^ 64 → query_with q n kept ≡ Ok effect
    → Changes (asked q) kept.text effect.kept.text
