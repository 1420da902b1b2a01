-- The law of N and FN: page after page goes by, and what is known is true where they find, and where no page is left.
use Rattle.std.specs.Prelude.{◌≡◌, ℕ, pos, negsuc, ◌+◌, ◌≤◌, ⊤, List, Bool, true, false, Some, MatchOption, IfOk}
use Rattle.teco_model.specs.Arguments.{Arguments, arguments_of, levels_after_taking, levels_after_answer}
use Rattle.teco_model.specs.Arguments.{no_arguments}
use Rattle.teco_model.specs.Files.{Output}
use Rattle.teco_model.specs.Paging.{Looked, Met, Turned, Through, look_first, look_for, looked_through, unread_of}
use Rattle.teco_law_facts.specs.SoundSearches.{answer_where}
use Rattle.teco_model.specs.State.{Kept, World}
use Rattle.teco_model.specs.declared.arguments.Taken.{Taken}
use Rattle.teco_model.specs.declared.kind.Kind.TheVariants as kind
use Rattle.teco_model.specs.declared.kind.Search.{Search}
use Rattle.teco_model.specs.declared.kind.Search.TheVariants.{Find, Replace, FindInPages, ReplaceInPages}
use Rattle.teco_poly.specs.Polynomial.{Polynomial, value}
use Rattle.teco_verifier.specs.facts.Arguments.{settled}
use Rattle.teco_law_facts.specs.Describes.{Run, IsWhole, Describes, run_behind}
use Rattle.teco_verifier.specs.facts.Facts.{Facts, nowhere, none_saved}
use Rattle.teco_verifier.specs.facts.Flows.{Edges, facts_taken}
use Rattle.teco_verifier.specs.facts.Printed.{steps}
use Rattle.teco_law_facts.specs.SoundElements.{Leads, Succeeds, FitsOn}
use Rattle.teco_law_facts.specs.SoundPages.{ComesTo, Comes}
use Rattle.teco_verifier.specs.facts.Transfer.{Placed, transfer}

-- N and FN look on from page to page
abbrev pub IsInPages : Search → Type 0
IsInPages Find = ⊥
IsInPages Replace = ⊥
IsInPages FindInPages = ⊤
IsInPages ReplaceInPages = ⊤

-- What is known while pages go by: the pointer may be anywhere, nothing is saved, and no more is held or ahead than was
-- before the element.
abbrev pub facts_seeking : Facts → Facts
facts_seeking facts = record (facts_taken facts) {
  arguments = settled facts.position.distances true (facts_taken facts).arguments;
  position = record facts.position { distances = nowhere; saved = none_saved };
}

-- The element sought so far: that is known, its text is the last search text, and an output is open.
pub record IsSeeking
    (run : Run) (known : Facts) (old : World) (pending : Arguments) (text : List ℕ) (now : World) :
    Type 0 where
  pub comes : ComesTo run known.held old known (levels_after_taking pending) now
  pub sought : now.kept.search_text ≡ text
  pub output : (output : Output) × (now.files.output ≡ Some output)

-- along the edge that goes away, with no arguments, and whatever is typed
abbrev pub ComesAway : Run → Polynomial → World → Edges → World → Type 0
ComesAway run held old edges new =
    MatchOption edges.away ⊥
    (λ next. (typed : List ℕ)
    → ComesTo run held old next no_arguments (record new { kept = record new.kept { typed = typed } }))

-- A miss with a colon answers 0; any other leaves its iteration.
abbrev pub MissComes : Bool → Run → Polynomial → World → Arguments → Edges → World → Type 0
MissComes true run held old pending edges new =
    Comes run held old (levels_after_answer (Some (pos 0)) (levels_after_taking pending)) edges new
MissComes false run held old pending edges new = ComesAway (run_behind 1 run) held old edges new

-- A step that turns a page seeks on, with less unread; one that finds, or finds no page, goes along an edge.
abbrev pub LooksOn : Run → Facts → World → Arguments → Placed → Edges → World → Looked → Type 0
LooksOn run known old pending x edges now (Met new) =
    Comes run known.held old
    (levels_after_answer (answer_where x.colon (negsuc 0)) (levels_after_taking pending)) edges
    new
LooksOn run known old pending x edges now (Turned n new) =
    IsSeeking run known old pending x.element.text new × (unread_of new + 1 ≤ unread_of now)
LooksOn run known old pending x edges now (Through last) =
    MissComes x.colon run known.held old pending edges (looked_through last)

-- the first step of N and FN, and each that follows
pub record Seeks
    (run : Run) (known : Facts) (world : World) (pending : Arguments) (x : Placed) (s : Search)
    (edges : Edges)
    (taken : Taken) : Type 0 where
  pub begins :
      Succeeds (LooksOn run known world pending x edges world) (look_first s x.element taken world)
  pub more :
      (now : World) (n : ℕ)
      → IsSeeking run known world pending x.element.text now
      → Succeeds (LooksOn run known world pending x edges now) (look_for s x.element n now)

abbrev pub PageSearchesAreSound : Type 0
PageSearchesAreSound =
    (run : Run) (facts : Facts) (world : World) (pending : Arguments) (x : Placed) (s : Search)
    (output : Output)
    → IsWhole world.kept → Describes run facts (unread_of world) world.kept pending
    → x.element.kind ≡ kind.Search s → IsInPages s → world.files.output ≡ Some output
    → Leads (FitsOn run.n) (Seeks run (facts_seeking facts) world pending x s) (transfer x facts)
    (arguments_of pending.level)

-- Since less is unread behind each page, N and FN take at most one step more than there is unread; S and FS take one.
abbrev pub SearchesAtMost : Search → ℕ → ℕ → Type 0
SearchesAtMost Find unread most = 1 ≤ most
SearchesAtMost Replace unread most = 1 ≤ most
SearchesAtMost FindInPages unread most = unread + 1 ≤ most
SearchesAtMost ReplaceInPages unread most = unread + 1 ≤ most

abbrev pub SearchStepsAreBounded : Type 0
SearchStepsAreBounded =
    (run : Run) (facts : Facts) (unread : ℕ) (kept : Kept) (pending : Arguments) (s : Search)
    → Describes run facts unread kept pending
    → IfOk (steps (kind.Search s) facts) (λ most. SearchesAtMost s unread (value most run.n))
