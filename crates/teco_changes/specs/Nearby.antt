-- What is known before an element of the text before the pointer, of what is pending and of the characters there; and
-- what is known behind it, by the way that a run goes on.
use Rattle.std.specs.Prelude.{◌≡◌, ◌≢◌, ℕ, ℤ, pos, negsuc, neg_ℤ, zero, suc, ◌+◌, List, [], ◌∷◌, ◌++◌, length, Bool}
use Rattle.std.specs.Prelude.{true}
use Rattle.std.specs.Prelude.{false, Option, Some, None, ⊤}
use Rattle.teco_base.specs.Arithmetic.{add, sub}
use Rattle.teco_changes.specs.Changes.{IsMatch}
use Rattle.teco_changes.specs.Characters.{AreWithin, code_there, narrowed, range_asked, unknown}
use Rattle.teco_changes.specs.declared.argument.NumericArgument.{NumericArgument}
use Rattle.teco_changes.specs.declared.argument.NumericArgument.TheVariants as known
use Rattle.teco_changes.specs.declared.argument.Pending.{Pending}
use Rattle.teco_changes.specs.declared.argument.Pending.TheVariants.{Anything, Asked, AskedLess, AskedMinus, Empty}
use Rattle.teco_changes.specs.declared.argument.Pending.TheVariants.{Length, Negative, Number, Place}
use Rattle.teco_changes.specs.declared.argument.Side.TheVariants.{At, Before}
use Rattle.teco_changes.specs.declared.change.Characters.{Characters}
use Rattle.teco_model.specs.Arguments.{run_value}
use Rattle.teco_model.specs.Element.{Element}
use Rattle.teco_model.specs.State.{Kept}
use Rattle.teco_model.specs.declared.arguments.Level.{Level}
use Rattle.teco_model.specs.declared.arguments.Operator.TheVariants.{Minus}
use Rattle.teco_model.specs.declared.kind.Argument.{Argument}
use Rattle.teco_model.specs.declared.kind.Argument.TheVariants as argument
use Rattle.teco_model.specs.declared.kind.Command.{Command}
use Rattle.teco_model.specs.declared.kind.Command.TheVariants as command
use Rattle.teco_model.specs.declared.kind.Flow.{Flow}
use Rattle.teco_model.specs.declared.kind.Flow.TheVariants as flow
use Rattle.teco_model.specs.declared.kind.Kind.{Kind}
use Rattle.teco_model.specs.declared.kind.Kind.TheVariants as kind
use Rattle.teco_model.specs.declared.kind.MachineValue.{MachineValue}
use Rattle.teco_model.specs.declared.kind.MachineValue.TheVariants.{LastLength, LastText}
use Rattle.teco_model.specs.declared.kind.Page.{Page}
use Rattle.teco_model.specs.declared.kind.Page.TheVariants as page
use Rattle.teco_model.specs.declared.kind.Query.{Query}
use Rattle.teco_model.specs.declared.kind.Query.TheVariants as query
use Rattle.teco_model.specs.declared.kind.Search.{Search}
use Rattle.teco_model.specs.declared.kind.Search.TheVariants as search
use Rattle.teco_model.specs.declared.kind.Storage.{Storage}
use Rattle.teco_model.specs.declared.kind.Storage.TheVariants as storage
use Rattle.teco_model.specs.declared.kind.Test.{Test}
use Rattle.teco_model.specs.declared.kind.Test.TheVariants as test

-- whether the text before the pointer is a match of a search text: nothing is known, or it is so unless the pending
-- value is 0, or it is so
pub data Found : Type 0 where
  Nothing : Found
  Perhaps : List ℕ → Found
  Surely : List ℕ → Found

-- that, what is pending, and which characters stand at the pointer and before it; or no run comes there
pub data Nearby : Type 0 where
  Unreached : Nearby
  Known : Found → Pending → Characters → Nearby

-- nothing is known
abbrev pub anything : Nearby
anything = Known Nothing Anything unknown

-- the last text stands before the pointer, and is a match
pub record JustFound (wanted : List ℕ) (kept : Kept) : Type 0 where
  pub front : List ℕ
  pub piece : List ℕ
  pub back : List ℕ
  pub is : kept.text ≡ front ++ (piece ++ back)
  pub ends : kept.pointer ≡ length front + length piece
  pub long : kept.last_length ≡ length piece
  pub matches : IsMatch wanted piece

-- a value is pending, with no operator behind it
abbrev pub HasValue : ℤ → Level → Type 0
HasValue n level = (level.operator ≡ None) × (level.value ≡ Some n)

abbrev pub IsFound : Found → Level → Kept → Type 0
IsFound Nothing level kept = ⊤
IsFound (Perhaps wanted) level kept = (n : ℤ) × HasValue n level × (n ≢ pos 0 → JustFound wanted kept)
IsFound (Surely wanted) level kept = JustFound wanted kept

abbrev pub last_begin : Kept → ℤ
last_begin kept = add (pos kept.pointer) (neg_ℤ (pos kept.last_length))

abbrev pub IsPending : Pending → Level → Kept → Type 0
IsPending Anything level kept = ⊤
IsPending Empty level kept = (level.operator ≡ None) × (level.value ≡ None)
IsPending Negative level kept = (level.operator ≡ Some Minus) × (level.value ≡ None)
IsPending (Number n) level kept = HasValue n level
IsPending Length level kept = HasValue (neg_ℤ (pos kept.last_length)) level
IsPending (Asked side) level kept = HasValue (code_there side kept) level
IsPending (AskedMinus side) level kept =
    (level.operator ≡ Some Minus) × (level.value ≡ Some (code_there side kept))
IsPending (AskedLess side n) level kept = HasValue (sub (code_there side kept) n) level
IsPending Place level kept = HasValue (pos kept.pointer) level × (level.first ≡ Some (last_begin kept))

-- what is known is so of the pending level and of what is kept
abbrev pub IsNear : Nearby → Level → Kept → Type 0
IsNear Unreached level kept = ⊥
IsNear (Known found pending characters) level kept =
    IsFound found level kept × IsPending pending level kept × AreWithin characters kept

-- all that is known of one is known of the other
abbrev pub ImpliesNear : Nearby → Nearby → Type 0
ImpliesNear one other = (level : Level) (kept : Kept) → IsNear one level kept → IsNear other level kept

-- ---- what is pending behind an element
-- behind a minus alone digits are a number below 0, and behind a code and a minus they are taken from it
abbrev pub pending_digits : ℤ → Pending → Pending
pending_digits n Empty = Number n
pending_digits n Negative = Number (sub (pos 0) n)
pending_digits n (AskedMinus side) = AskedLess side n
pending_digits n before = Anything

abbrev pub pending_minus : Pending → Pending
pending_minus Empty = Negative
pending_minus (Asked side) = AskedMinus side
pending_minus before = Anything

abbrev pub pending_argument : Argument → List ℕ → Pending → Pending
pending_argument argument.Digits digits before = pending_digits (run_value digits) before
pending_argument (argument.Operate Minus) digits before = pending_minus before
pending_argument argument.DropAll digits before = Empty
pending_argument a digits before = Anything

abbrev pub pending_value : MachineValue → Pending → Pending
pending_value LastLength Empty = Length
pending_value LastText Empty = Place
pending_value v before = Anything

-- | and ', what goes ahead to them, and comments leave what is pending; the other flow elements take it
abbrev pub pending_flow : Flow → Pending → Pending
pending_flow flow.Otherwise before = before
pending_flow flow.EndTest before = before
pending_flow flow.Comment before = before
pending_flow (flow.GoAhead goal) before = before
pending_flow f before = Empty

-- S without a colon takes it, and does not answer
abbrev pub pending_search : Search → Bool → Pending
pending_search search.Find false = Empty
pending_search s colon = Anything

-- so do commands; but a motion with a colon, and %, answer
abbrev pub pending_command : Command → ℕ → Pending
pending_command (command.Motion m) (suc colons) = Anything
pending_command (command.Storage (storage.Add register)) colons = Anything
pending_command c colons = Empty

-- 0A gives the code of the character at the pointer, and -A or -1A of that before it
abbrev pub pending_number : ℤ → Pending
pending_number (pos zero) = Asked At
pending_number (negsuc zero) = Asked Before
pending_number n = Anything

abbrev pub pending_append : Pending → Pending
pending_append (Number n) = pending_number n
pending_append Negative = Asked Before
pending_append before = Anything

abbrev pub pending_page : Page → Pending → Pending
pending_page page.Append before = pending_append before
pending_page p before = Anything

abbrev pub pending_behind : Element → Kind → Bool → Pending → Pending
pending_behind e (kind.Argument a) colon before = pending_argument a e.text before
pending_behind e (kind.Value v) colon before = pending_value v before
pending_behind e (kind.Stack s) colon before = before
pending_behind e (kind.Call c) colon before = before
pending_behind e (kind.Flow f) colon before = pending_flow f before
pending_behind e (kind.Command c) colon before = pending_command c e.colons
pending_behind e (kind.Page p) colon before = pending_page p before
pending_behind e (kind.Search s) colon before = pending_search s colon
pending_behind e k colon before = Anything

-- ---- what is found behind an element
-- an element that leaves the buffer, but perhaps not what is pending
abbrev pub still : Found → Found
still (Surely wanted) = Surely wanted
still found = Nothing

-- the value was not 0
abbrev pub settled : Found → Found
settled Nothing = Nothing
settled (Perhaps wanted) = Surely wanted
settled (Surely wanted) = Surely wanted

-- is the value of a test other than 0 on this way? The first is that on which it holds.
abbrev pub is_nonzero_by : Test → ℕ → Bool
is_nonzero_by test.Negative zero = true
is_nonzero_by test.Positive zero = true
is_nonzero_by test.NotZero zero = true
is_nonzero_by test.Zero (suc way) = true
is_nonzero_by t way = false

-- ; goes on where the value is below 0, and :; leaves
abbrev pub is_nonzero_leaving : ℕ → ℕ → Bool
is_nonzero_leaving zero zero = true
is_nonzero_leaving (suc colons) (suc way) = true
is_nonzero_leaving colons way = false

abbrev pub settled_where : Bool → Found → Found
settled_where true before = settled before
settled_where false before = still before

abbrev pub found_flow : Flow → ℕ → ℕ → Found → Found
found_flow flow.Otherwise colons way before = before
found_flow flow.EndTest colons way before = before
found_flow flow.Comment colons way before = before
found_flow (flow.GoAhead goal) colons way before = before
found_flow (flow.Test t) colons way before = settled_where (is_nonzero_by t way) before
found_flow flow.Leave colons way before = settled_where (is_nonzero_leaving colons way) before
found_flow f colons way before = still before

-- S and N find on their first way, or with a colon answer 0; of an empty text it is not known what is looked for
abbrev pub found_text : Bool → ℕ → List ℕ → Found
found_text colon (suc way) text = Nothing
found_text colon zero [] = Nothing
found_text true zero (b ∷ text) = Perhaps (b ∷ text)
found_text false zero (b ∷ text) = Surely (b ∷ text)

abbrev pub found_search : Search → Bool → ℕ → List ℕ → Found
found_search search.Find colon way text = found_text colon way text
found_search search.FindInPages colon way text = found_text colon way text
found_search s colon way text = Nothing

-- G puts a text, unless it has a colon
abbrev pub found_storage : Storage → ℕ → Found → Found
found_storage (storage.Get register) zero before = Nothing
found_storage s colons before = still before

abbrev pub found_command : Command → ℕ → Found → Found
found_command (command.Typing t) colons before = still before
found_command (command.Storage s) colons before = found_storage s colons before
found_command c colons before = Nothing

abbrev pub found_query : Query → Found → Found
found_query query.Conversion before = Nothing
found_query q before = still before

-- nA gives a character
abbrev pub found_page : Page → NumericArgument → Found → Found
found_page page.Append known.Number before = still before
found_page page.Append known.Value before = still before
found_page page.Append (known.Exactly n) before = still before
found_page p argument before = Nothing

abbrev pub found_behind : Element → Kind → Bool → ℕ → NumericArgument → Found → Found
found_behind e (kind.Argument a) colon way argument before = still before
found_behind e (kind.Value v) colon way argument before = still before
found_behind e (kind.Query q) colon way argument before = found_query q before
found_behind e (kind.Stack s) colon way argument before = before
found_behind e (kind.Call c) colon way argument before = before
found_behind e (kind.Flow f) colon way argument before = found_flow f e.colons way before
found_behind e (kind.Command c) colon way argument before = found_command c e.colons before
found_behind e (kind.Page p) colon way argument before = found_page p argument before
found_behind e (kind.Search s) colon way argument before = found_search s colon way e.text
found_behind e (kind.File f) colon way argument before = Nothing

-- ---- which characters stand near the pointer behind an element
abbrev pub is_no_text : Storage → ℕ → Bool
is_no_text (storage.Get register) zero = false
is_no_text s colons = true

-- does an element leave the buffer and the pointer?
abbrev pub leaves_command : Command → ℕ → Bool
leaves_command (command.Typing t) colons = true
leaves_command (command.Storage s) colons = is_no_text s colons
leaves_command c colons = false

abbrev pub leaves_query : Query → Bool
leaves_query query.Conversion = false
leaves_query q = true

abbrev pub leaves_page : Page → NumericArgument → Bool
leaves_page page.Append known.Number = true
leaves_page page.Append known.Value = true
leaves_page page.Append (known.Exactly n) = true
leaves_page p argument = false

abbrev pub leaves_buffer : Kind → ℕ → NumericArgument → Bool
leaves_buffer (kind.Query q) colons argument = leaves_query q
leaves_buffer (kind.Command c) colons argument = leaves_command c colons
leaves_buffer (kind.Page p) colons argument = leaves_page p argument
leaves_buffer (kind.Search s) colons argument = false
leaves_buffer (kind.File f) colons argument = false
leaves_buffer k colons argument = true

abbrev pub kept_where : Bool → Characters → Characters
kept_where true characters = characters
kept_where false characters = unknown

abbrev pub characters_behind : Element → Kind → ℕ → NumericArgument → Pending → Characters → Characters
characters_behind e (kind.Flow f) way argument pending characters =
    narrowed pending (range_asked f e.colons way pending) characters
characters_behind e k way argument pending characters = kept_where (leaves_buffer k e.colons argument) characters

-- ---- all of it; the end of a text leaves it. Whether a search counts as having a colon is told.
abbrev pub near_behind : Option Element → Bool → ℕ → NumericArgument → Nearby → Nearby
near_behind read colon way argument Unreached = Unreached
near_behind None colon way argument near = near
near_behind (Some e) colon way argument (Known found pending characters) =
    Known (found_behind e e.kind colon way argument found) (pending_behind e e.kind colon pending)
    (characters_behind e e.kind way argument pending characters)
