-- What is held of an input that is read in pages, and what of it is unread.
use Rattle.std.specs.Prelude.{ℕ, ◌≡◌, ◌≢◌, ◌≤◌, List, [], ◌++◌, length, Bool, true, false, Option, Some, None}
use Rattle.std.specs.Prelude.{option_map, IfSome, Vec}
use Rattle.std.specs.declared.alloc.Global.{Global}
use Rattle.teco_base.specs.declared.TheConstants.{LIMIT}
use Rattle.teco_model.specs.Files.{Files, Input}
use Rattle.teco_model.specs.Pages.{Page, written_page, has_form_feed}
use Rattle.teco_model.specs.laws.Whole.{AreBytes}
use Rattle.teco_hosts.specs.HostFiles.{HostFiles}

-- The name of the open input, the page of it that is ready, the bytes that were read behind that page, and whether
-- nothing is to be read behind those; the name of the open output.
pub record Held : Type 0 where
  pub input : Option (List ℕ)
  pub ready : Option Page
  pub ahead : List ℕ
  pub end : Bool
  pub output : Option (List ℕ)

-- nothing is open
abbrev pub nothing_held : Held
nothing_held = record { input = None; ready = None; ahead = []; end = true; output = None }

-- an input of this name was opened
abbrev pub with_input : List ℕ → Held → Held
with_input name held = record held { input = Some name; ready = None; ahead = []; end = false }

-- all of the input was read and accepted
abbrev pub with_all_read : Held → Held
with_all_read held = record held { ready = None; ahead = []; end = true }

-- the input was closed
abbrev pub without_input : Held → Held
without_input held = record held { input = None; ready = None; ahead = []; end = true }

-- the page that was ready is accepted
abbrev pub without_page : Held → Held
without_page held = record held { ready = None }

-- a page as it stands in a file, if there is one
abbrev pub written_if_any : Option Page → List ℕ
written_if_any None = []
written_if_any (Some page) = written_page page

-- what a host has behind the bytes that are held
abbrev pub behind_held : Bool → List ℕ → List ℕ
behind_held true unread = []
behind_held false unread = unread

-- what is unread of the input: the bytes that are held, and those that the host has behind them
abbrev pub unread_bytes : Held → HostFiles → List ℕ
unread_bytes held files = (written_if_any held.ready ++ held.ahead) ++ behind_held held.end files.unread

-- the open input
abbrev pub input_of : Held → HostFiles → Option Input
input_of held files = option_map (λ name. record { name = name; unread = unread_bytes held files }) held.input

-- the files of one who holds this of a host that has these
abbrev pub files_of : Held → HostFiles → Files
files_of held files = record { named = files.named; input = input_of held files; output = files.output }

-- the host has the output open that the holder has open
abbrev pub IsSameOutput : Held → HostFiles → Type 0
IsSameOutput held files = held.output ≡ option_map (λ output. output.name) files.output

-- the bytes that are held of the input are bytes
pub record HoldsBytes (held : Held) : Type 0 where
  pub ready : IfSome held.ready (λ (page : Page). AreBytes page.text)
  pub ahead : AreBytes held.ahead

-- the name that is kept, if one is
abbrev pub name_in : Option (Vec ℕ Global) → Option (List ℕ)
name_in = option_map (λ name. name.items)

-- the page that is ready, if it is known whether a form feed ended it
abbrev pub page_in : List ℕ → Option Bool → Option Page
page_in text = option_map (λ ff. record { text = text; ff = ff })

-- what is behind the page that is ready; what is read of a page that is not is behind none
abbrev pub behind_page_in : List ℕ → Option Bool → List ℕ → List ℕ
behind_page_in text None ahead = text ++ ahead
behind_page_in text (Some ff) ahead = ahead

-- What always holds of a page that is being read or ready: it has no form feed and is not too long; one that no
-- form feed ended is the last; behind the end nothing is held; and where no input is open nothing is.
pub record IsWhole (input : Option (List ℕ)) (text : List ℕ) (ready : Option Bool) (ahead : List ℕ)
    (end : Bool) : Type 0 where
  pub plain : has_form_feed text ≡ false
  pub short : length text ≤ LIMIT
  pub last : ready ≡ Some false → end ≡ true
  pub none : end ≡ true → ahead ≡ []
  pub closed : input ≡ None → end ≡ true
  pub empty : input ≡ None → text ≡ []
  pub named : ready ≡ Some true → input ≢ None
