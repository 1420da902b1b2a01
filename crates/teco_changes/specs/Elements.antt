-- What each element of a macro can do to a text at most. The text of a world is what is written to the output, then the
-- page in the buffer, then what is unread.
use Rattle.std.specs.Prelude.{ℕ, ℤ, zero, ◌&&◌, nat_abs, List, [], ◌∷◌, Bool, true, false, if◌then◌else◌, Option, Some}
use Rattle.std.specs.Prelude.{None}
use Rattle.teco_base.specs.Arithmetic.{byte_of}
use Rattle.teco_base.specs.declared.bytes.TheConstants.{FF, TAB}
use Rattle.teco_changes.specs.Nearby.{Found, Known, Nearby, Surely, Unreached}
use Rattle.teco_changes.specs.Plain.{matches_have}
use Rattle.teco_changes.specs.declared.argument.NumericArgument.{NumericArgument}
use Rattle.teco_changes.specs.declared.argument.NumericArgument.TheVariants as known
use Rattle.teco_changes.specs.declared.argument.Pending.{Pending}
use Rattle.teco_changes.specs.declared.argument.Pending.TheVariants.{Empty, Length, Negative, Number, Place}
use Rattle.teco_changes.specs.declared.change.Change.{Change}
use Rattle.teco_changes.specs.declared.change.Change.TheVariants as change
use Rattle.teco_changes.specs.declared.change.Characters.{Characters as Near}
use Rattle.teco_changes.specs.declared.change.Range.{Range}
use Rattle.teco_model.specs.Condition.{is_negative}
use Rattle.teco_model.specs.Element.{Element}
use Rattle.teco_model.specs.declared.kind.Command.{Command}
use Rattle.teco_model.specs.declared.kind.Command.TheVariants as command
use Rattle.teco_model.specs.declared.kind.Insertion.{Insertion}
use Rattle.teco_model.specs.declared.kind.Insertion.TheVariants as insertion
use Rattle.teco_model.specs.declared.kind.Kind.{Kind}
use Rattle.teco_model.specs.declared.kind.Kind.TheVariants as kind
use Rattle.teco_model.specs.declared.kind.Page.{Page}
use Rattle.teco_model.specs.declared.kind.Page.TheVariants as page
use Rattle.teco_model.specs.declared.kind.Query.{Query}
use Rattle.teco_model.specs.declared.kind.Query.TheVariants as query
use Rattle.teco_model.specs.declared.kind.Search.{Search}
use Rattle.teco_model.specs.declared.kind.Search.TheVariants as search
use Rattle.teco_model.specs.declared.kind.Storage.{Storage}
use Rattle.teco_model.specs.declared.kind.Storage.TheVariants as storage
use Rattle.teco_model.specs.declared.kind.Unit.{Unit as Counted}
use Rattle.teco_model.specs.declared.kind.Unit.TheVariants.{Characters, Lines}

-- I puts its text; without one, nI puts a character. TAB puts itself and its text.
abbrev pub inserted : Insertion → List ℕ → List Change
inserted insertion.Text [] = change.PutsByte ∷ []
inserted insertion.Text (b ∷ text) = change.Puts (b ∷ text) ∷ []
inserted insertion.Tab text = change.Puts (TAB ∷ text) ∷ []

-- G puts the text of a register; with a colon it types that. The others change registers alone.
abbrev pub stored : Storage → ℕ → List Change
stored (storage.Get register) zero = change.PutsText register ∷ []
stored s colons = []

-- D and K take any piece
abbrev pub commanded : Command → Element → List Change
commanded (command.Insertion i) element = inserted i element.text
commanded (command.Deletion unit) element = change.TakesAny ∷ []
commanded (command.Storage s) element = stored s element.colons
commanded c element = []

-- n\ puts a number
abbrev pub asked : Query → List Change
asked query.Conversion = change.PutsNumber ∷ []
asked q = []

-- FS and FN put their second text in the stead of a match of the first. Without a first, it is not known of which.
abbrev pub swapped : List ℕ → List ℕ → List Change
swapped [] put = change.TakesAny ∷ change.Puts put ∷ []
swapped (b ∷ wanted) put = change.Swaps (b ∷ wanted) put ∷ []

abbrev pub sought : Search → Element → List Change
sought search.Replace element = swapped element.text element.second
sought search.ReplaceInPages element = swapped element.text element.second
sought s element = []

-- A may take the form feed that ended the page. P leaves the text as it is, unless it writes a range of the buffer; of
-- that, and of Y and PW, nothing is told.
abbrev pub turned : Page → Bool → Option (List Change)
turned page.Append ranged = Some (change.Takes (record { first = FF; last = FF } ∷ []) ∷ [])
turned page.Next false = Some []
turned p ranged = None

-- What an element can do, behind two arguments or not; none where nothing is told, as of files.
abbrev pub changes_told : Kind → Element → Bool → Option (List Change)
changes_told (kind.Query q) element ranged = Some (asked q)
changes_told (kind.Command c) element ranged = Some (commanded c element)
changes_told (kind.Search s) element ranged = Some (sought s element)
changes_told (kind.Page p) element ranged = turned p ranged
changes_told (kind.File f) element ranged = None
changes_told k element ranged = Some []

abbrev pub changes_of : Element → Bool → Option (List Change)
changes_of element ranged = changes_told element.kind element ranged

-- nA gives a character, and leaves the text as it is. nI puts the character n.
abbrev pub told_with : Kind → List ℕ → NumericArgument → Option (List Change)
told_with (kind.Page page.Append) text known.Number = Some []
told_with (kind.Page page.Append) text known.Value = Some []
told_with (kind.Page page.Append) text (known.Exactly n) = Some []
told_with (kind.Command (command.Insertion insertion.Text)) [] (known.Exactly n) =
    Some (change.Puts (byte_of n ∷ []) ∷ [])
told_with k text before = None

abbrev pub either_told : Option (List Change) → Option (List Change) → Option (List Change)
either_told None other = other
either_told (Some changes) other = Some changes

-- have matches as many characters as a number is below 0?
abbrev pub matches_below : ℤ → List ℕ → Bool
matches_below n wanted = is_negative n && matches_have (nat_abs n) wanted

-- Is the last text taken, which is a match of a search text? By its place, its length, or as many characters before the
-- pointer as each match has.
abbrev pub takes_last : Counted → Bool → List ℕ → Pending → Bool
takes_last unit ranged wanted Place = true
takes_last Characters false wanted Length = true
takes_last Characters false wanted Negative = matches_have 1 wanted
takes_last Characters false wanted (Number n) = matches_below n wanted
takes_last unit ranged wanted pending = false

-- D and K take what was just found, if they are known to take the last text.
abbrev pub deleted_last : Counted → Bool → Found → Pending → Option (List Change)
deleted_last unit ranged (Surely wanted) pending =
    if takes_last unit ranged wanted pending then Some (change.TakesMatch wanted ∷ []) else None
deleted_last unit ranged found pending = None

abbrev pub taken_of : Option Range → Option (List Change)
taken_of None = None
taken_of (Some range) = Some (change.Takes (range ∷ []) ∷ [])

-- D takes the character at the pointer, and -D that before it.
abbrev pub deleted_character : Counted → Bool → Pending → Near → Option (List Change)
deleted_character Characters false Empty characters = taken_of characters.at
deleted_character Characters false Negative characters = taken_of characters.before
deleted_character unit ranged pending characters = None

abbrev pub deleted_near : Counted → Bool → Nearby → Option (List Change)
deleted_near unit ranged Unreached = None
deleted_near unit ranged (Known found pending characters) =
    either_told (deleted_last unit ranged found pending) (deleted_character unit ranged pending characters)

abbrev pub told_near : Kind → Bool → Nearby → Option (List Change)
told_near (kind.Command (command.Deletion unit)) ranged near = deleted_near unit ranged near
told_near k ranged near = None

-- What an element can do where so much is known of the argument before it, and of what is near.
abbrev pub changes_with : Element → Bool → NumericArgument → Nearby → Option (List Change)
changes_with element ranged before near =
    either_told (told_near element.kind ranged near)
    (either_told (told_with element.kind element.text before) (changes_of element ranged))
