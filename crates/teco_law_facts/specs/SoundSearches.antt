-- The law of searches in the buffer: what is known where they found, and where they failed.
use Rattle.std.specs.Prelude.{◌≡◌, ℕ, ℤ, pos, negsuc, ⊤, List, Bool, true, false, Option, Some, None, MatchOption}
use Rattle.std.specs.Prelude.{Result}
use Rattle.teco_base.specs.declared.code.Code.{Code}
use Rattle.teco_model.specs.Arguments.{Arguments, arguments_of, levels_after_taking, levels_after_answer}
use Rattle.teco_model.specs.Arguments.{no_arguments}
use Rattle.teco_model.specs.Checked.{◌>>=◌}
use Rattle.teco_model.specs.Element.{Element}
use Rattle.teco_model.specs.Search.{Finding, Found, Missed, search}
use Rattle.teco_model.specs.State.{Kept}
use Rattle.teco_model.specs.Going.{After, after}
use Rattle.teco_model.specs.Searching.{kept_by_miss, at_start}
use Rattle.teco_model.specs.declared.kind.Kind.TheVariants as kind
use Rattle.teco_model.specs.declared.kind.Search.{Search}
use Rattle.teco_model.specs.declared.kind.Search.TheVariants.{Find, Replace, FindInPages, ReplaceInPages}
use Rattle.teco_poly.specs.Polynomial.{Polynomial}
use Rattle.teco_law_facts.specs.Describes.{Run, IsWhole, Describes, run_behind}
use Rattle.teco_verifier.specs.facts.Facts.{Facts}
use Rattle.teco_verifier.specs.facts.Flows.{Edges}
use Rattle.teco_law_facts.specs.SoundElements.{Leads, Arrives, FitsOn, ArrivesOn}
use Rattle.teco_verifier.specs.facts.Transfer.{Placed, transfer}

-- S and FS stay in the buffer
abbrev pub IsInBuffer : Search → Type 0
IsInBuffer Find = ⊤
IsInBuffer Replace = ⊤
IsInBuffer FindInPages = ⊥
IsInBuffer ReplaceInPages = ⊥

-- the search of an element that takes its arguments
abbrev pub finding : Search → Element → Kept → Arguments → Result Finding Code
finding s e kept arguments = do
  taken ← arguments_of arguments.level
  search s e taken kept

-- along the edge that goes away
abbrev pub ArrivesAway : Run → Polynomial → ℕ → Kept → Edges → After → Type 0
ArrivesAway run held unread kept edges done =
    MatchOption edges.away ⊥ (λ next. Arrives run held unread kept next done)

-- A miss with a colon answers 0; any other goes to the begin, and leaves its iteration with whatever it types.
abbrev pub MissArrives : Bool → Run → Polynomial → ℕ → Kept → Arguments → ℕ → Edges → Kept → Type 0
MissArrives true run held unread kept arguments colons edges missed =
    ArrivesOn run held unread kept edges
    (after (kept_by_miss colons missed) (levels_after_answer (Some (pos 0)) (levels_after_taking arguments)))
MissArrives false run held unread kept arguments colons edges missed =
    (typed : List ℕ) → ArrivesAway (run_behind 1 run) held unread kept edges
    (after (record (at_start missed) { typed = typed }) no_arguments)

-- with a colon it answers
abbrev pub answer_where : Bool → ℤ → Option ℤ
answer_where true n = Some n
answer_where false n = None

-- What is found is answered where the search counts as having a colon.
abbrev pub SearchArrives : Run → Polynomial → ℕ → Kept → Arguments → Placed → Edges → Finding → Type 0
SearchArrives run held unread kept arguments x edges (Found found) =
    ArrivesOn run held unread kept edges
    (after found (levels_after_answer (answer_where x.colon (negsuc 0)) (levels_after_taking arguments)))
SearchArrives run held unread kept arguments x edges (Missed missed) =
    MissArrives x.colon run held unread kept arguments x.element.colons edges missed

-- Whatever stands behind it, a search that is written with a colon has one.
abbrev pub SearchesAreSound : Type 0
SearchesAreSound =
    (run : Run) (facts : Facts) (unread : ℕ) (kept : Kept) (arguments : Arguments) (x : Placed) (s : Search)
    → IsWhole kept → Describes run facts unread kept arguments → x.element.kind ≡ kind.Search s → IsInBuffer s
    → (x.colon ≡ false → x.element.colons ≡ 0)
    → Leads (FitsOn run.n) (SearchArrives run facts.held unread kept arguments x) (transfer x facts)
    (finding s x.element kept arguments)
