-- The laws of A, P and PW: where the transfer gives facts that fit, and the files that are needed are open, the pages
-- go by without a code, and the facts describe what they leave.
use Rattle.std.specs.Prelude.{◌≡◌, ℕ, ℤ, pos, unwrap_or, ◌≤ℤ◌, ⊤, ◌+◌, ◌≤◌, length, Option, Some, None, MatchOption}
use Rattle.teco_model.specs.Arguments.{Arguments, arguments_of, levels_after_taking, levels_after_answer}
use Rattle.teco_model.specs.Character.{character}
use Rattle.teco_model.specs.Files.{Input, Output}
use Rattle.teco_model.specs.Paging.{Progress, append, pages, page_turned, page_written, unread_of}
use Rattle.teco_model.specs.State.{Kept, World}
use Rattle.teco_model.specs.Going.{after}
use Rattle.teco_model.specs.declared.arguments.Taken.{Taken}
use Rattle.teco_model.specs.declared.kind.Kind.TheVariants as kind
use Rattle.teco_model.specs.declared.kind.Page.{Page}
use Rattle.teco_model.specs.declared.kind.Page.TheVariants as page
use Rattle.teco_poly.specs.Polynomial.{Polynomial, value}
use Rattle.teco_law_facts.specs.Describes.{Run, IsWhole, Describes}
use Rattle.teco_verifier.specs.facts.Facts.{Facts}
use Rattle.teco_verifier.specs.facts.Flows.{Edges}
use Rattle.teco_verifier.specs.facts.Printed.{steps}
use Rattle.teco_law_facts.specs.SoundFlow.{Tells}
use Rattle.teco_law_facts.specs.SoundElements.{Leads, Succeeds, Arrives, FitsOn}
use Rattle.teco_verifier.specs.facts.Transfer.{Placed, transfer}

-- The facts describe what a world comes to, and what is held grew by no more than they say.
pub record ComesTo
    (run : Run) (held : Polynomial) (old : World) (next : Facts) (arguments : Arguments)
    (new : World) : Type 0 where
  pub described : Describes run next (unread_of new) new.kept arguments
  pub grown :
      length new.kept.text + unread_of new + value held run.n
      ≤ length old.kept.text + unread_of old + value next.held run.n

abbrev pub Comes : Run → Polynomial → World → Arguments → Edges → World → Type 0
Comes run held old arguments edges new =
    MatchOption edges.on ⊥ (λ next. ComesTo run held old next arguments new)

-- A adds a page of an open input behind the buffer; nA answers.
abbrev pub Appends : Run → Polynomial → World → Arguments → Edges → Taken → Type 0
Appends run held world arguments edges taken =
    MatchOption taken.value
    ((input : Input) → world.files.input ≡ Some input
    → Succeeds (Comes run held world (levels_after_taking arguments) edges) (append world))
    (λ n. MatchOption edges.on ⊥ (λ next. Arrives run held (unread_of world) world.kept next
    (after world.kept (levels_after_answer (Some (character n world.kept)) (levels_after_taking arguments)))))

abbrev pub AppendsAreSound : Type 0
AppendsAreSound =
    (run : Run) (facts : Facts) (world : World) (arguments : Arguments) (x : Placed)
    → IsWhole world.kept → Describes run facts (unread_of world) world.kept arguments
    → x.element.kind ≡ kind.Page page.Append
    → Leads (FitsOn run.n) (Appends run facts.held world arguments) (transfer x facts) (arguments_of arguments.level)

-- The first page of nP, and m,nP; and each page that follows.
pub record TurnsPages
    (run : Run) (held : Polynomial) (world : World) (arguments : Arguments) (edges : Edges)
    (first value : Option ℤ) : Type 0 where
  pub begins :
      Succeeds (λ (p : Progress). Comes run held world (levels_after_taking arguments) edges p.world)
      (pages page_turned (record { first = first; value = value }) world)
  pub more :
      (later : World)
      → first ≡ None → Comes run held world (levels_after_taking arguments) edges later
      → Succeeds (Comes run held world (levels_after_taking arguments) edges) (page_turned later)

abbrev pub PageTurnsAreSound : Type 0
PageTurnsAreSound =
    (run : Run) (facts : Facts) (world : World) (arguments : Arguments) (x : Placed) (output : Output)
    → IsWhole world.kept → Describes run facts (unread_of world) world.kept arguments
    → x.element.kind ≡ kind.Page page.Next → world.files.output ≡ Some output
    → Leads (FitsOn run.n)
    (λ edges (taken : Taken). TurnsPages run facts.held world arguments edges taken.first taken.value)
    (transfer x facts) (arguments_of arguments.level)

-- PW writes and leaves what is kept.
abbrev pub PageWritesAreSound : Type 0
PageWritesAreSound =
    (run : Run) (facts : Facts) (world : World) (arguments : Arguments) (x : Placed) (output : Output)
    → IsWhole world.kept → Describes run facts (unread_of world) world.kept arguments
    → x.element.kind ≡ kind.Page page.Write → world.files.output ≡ Some output
    → Leads (FitsOn run.n)
    (λ edges (taken : Taken). Succeeds
    (λ (p : Progress). Comes run facts.held world (levels_after_taking arguments) edges p.world)
    (pages page_written (record { first = taken.first; value = taken.value }) world))
    (transfer x facts) (arguments_of arguments.level)

-- nP and nPW take as many steps as pages, at most as many as are known; m,nP and m,nPW take one.
abbrev pub PagesAtMost : ℕ → Option ℤ → Option ℤ → Type 0
PagesAtMost most (Some m) (Some n) = 1 ≤ most
PagesAtMost most first n = unwrap_or n (pos 1) ≤ℤ pos most

abbrev pub IsTurnOrWrite : Page → Type 0
IsTurnOrWrite page.Next = ⊤
IsTurnOrWrite page.Write = ⊤
IsTurnOrWrite p = ⊥

abbrev pub PageStepsAreBounded : Type 0
PageStepsAreBounded =
    (run : Run) (facts : Facts) (unread : ℕ) (kept : Kept) (arguments : Arguments) (p : Page)
    → IsWhole kept → Describes run facts unread kept arguments → IsTurnOrWrite p
    → Tells (λ most (taken : Taken). PagesAtMost (value most run.n) taken.first taken.value)
    (steps (kind.Page p) facts) (arguments_of arguments.level)
