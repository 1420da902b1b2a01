-- Pages of an input: a page ends at a form feed, which is remembered and not kept, or at the end of the input.
use Rattle.std.specs.Prelude.{ℕ, List, [], ◌∷◌, ◌++◌, Bool, true, false, ◌==◌, if◌then◌else◌}
use Rattle.teco_base.specs.declared.bytes.TheConstants.{FF}

-- the characters of a page, and whether a form feed ended it
pub record Page : Type 0 where
  pub text : List ℕ
  pub ff : Bool

-- what stands before the first form feed, or all where there is none
abbrev pub before_form_feed : List ℕ → List ℕ
before_form_feed [] = []
before_form_feed (b ∷ bytes) = if b == FF then [] else b ∷ before_form_feed bytes

-- is there a form feed?
abbrev pub has_form_feed : List ℕ → Bool
has_form_feed [] = false
has_form_feed (b ∷ bytes) = if b == FF then true else has_form_feed bytes

-- what stands behind the first form feed; nothing where there is none
abbrev pub behind_form_feed : List ℕ → List ℕ
behind_form_feed [] = []
behind_form_feed (b ∷ bytes) = if b == FF then bytes else behind_form_feed bytes

-- the page that comes first of unread bytes: an empty one at their end
abbrev pub first_page : List ℕ → Page
first_page unread = record { text = before_form_feed unread; ff = has_form_feed unread }

-- what is unread behind it
abbrev pub behind_first_page : List ℕ → List ℕ
behind_first_page unread = behind_form_feed unread

-- a page as it stands in a file: its characters, and the form feed if one ended it
abbrev pub written_page : Page → List ℕ
written_page page = page.text ++ (if page.ff then FF ∷ [] else [])
