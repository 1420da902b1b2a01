-- Pages: Y and A read them into the buffer, P and PW write it, and N and FN look on from page to page.
use Rattle.std.specs.Prelude.{ℕ, zero, suc, ℤ, pos, ◌-◌, List, [], ◌∷◌, ◌++◌, length, Option, Some, None, Result, Ok}
use Rattle.std.specs.Prelude.{Err, option_map, nat_le, if◌then◌else◌, unwrap_or}
use Rattle.std.specs.Option.{ok_or, option_map_or}
use Rattle.teco_base.specs.declared.TheConstants.{LIMIT}
use Rattle.teco_base.specs.declared.bytes.TheConstants.{FF}
use Rattle.teco_base.specs.declared.code.Code.{Code}
use Rattle.teco_base.specs.declared.code.Code.TheVariants as code
use Rattle.teco_model.specs.declared.arguments.Taken.{Taken}
use Rattle.teco_model.specs.declared.kind.Search.{Search}
use Rattle.teco_model.specs.declared.pattern.Span.{Span}
use Rattle.teco_model.specs.declared.pattern.Sought.{Sought}
use Rattle.teco_model.specs.declared.pattern.Sought.TheVariants.{Last, Wanted}
use Rattle.teco_model.specs.Checked.{◌>>=◌}
use Rattle.teco_model.specs.Element.{Element}
use Rattle.teco_model.specs.Files.{Input, Output, Files, with_written}
use Rattle.teco_model.specs.Match.{first_from}
use Rattle.teco_model.specs.Pages.{Page, first_page, behind_first_page, written_page}
use Rattle.teco_model.specs.Pattern.{Pattern}
use Rattle.teco_model.specs.Places.{text_between}
use Rattle.teco_model.specs.Search.{pattern_of, search_text_of, kept_after}
use Rattle.teco_model.specs.State.{Kept, World}

-- the bytes that are unread: none where no input is open
abbrev pub unread : Files → List ℕ
unread files = option_map_or (λ (input : Input). input.unread) files.input []

-- how much of the input is unread
abbrev pub unread_of : World → ℕ
unread_of world = length (unread world.files)

-- the input behind its first page
abbrev pub files_behind_page : Files → Files
files_behind_page files = record files {
  input = option_map (λ (input : Input). record input { unread = behind_first_page input.unread })
      files.input;
}

-- bytes go to the output
abbrev pub world_after_writing : List ℕ → World → World
world_after_writing bytes world =
    record world { files = record world.files { output = with_written bytes world.files.output } }

-- a buffer longer than LIMIT is FUL
abbrev pub fitting : List ℕ → Result (List ℕ) Code
fitting text = if nat_le (length text) LIMIT then Ok text else Err code.Ful

-- the buffer as a page, with a form feed where one ended the last page in it
abbrev pub page_of_buffer : Kept → Page
page_of_buffer kept = record { text = kept.text; ff = kept.form_feed }

-- a page in the place of the buffer, with the pointer at its start
abbrev pub kept_with_page : Page → Kept → Kept
kept_with_page page kept = record kept { text = page.text; pointer = 0; form_feed = page.ff }

-- a page becomes the buffer
abbrev pub page_taken : Page → Kept → Result Kept Code
page_taken page kept = do
  text ← fitting page.text
  Ok (kept_with_page page kept)

-- a page comes behind the buffer, whose pointer stays
abbrev pub page_added : Page → Kept → Result Kept Code
page_added page kept = do
  text ← fitting (kept.text ++ page.text)
  Ok (record kept { text = kept.text ++ page.text; form_feed = page.ff })

-- The next page of the input becomes the buffer: an empty one at its end, or where none is open.
abbrev pub world_with_next_page : World → Result World Code
world_with_next_page world = do
  kept ← page_taken (first_page (unread world.files)) world.kept
  Ok (record { kept = kept; files = files_behind_page world.files })

-- a buffer that is not empty is not lost while an output is open: YCA
abbrev pub nothing_lost : List ℕ → Option Output → Result (Unit {0}) Code
nothing_lost (c ∷ text) (Some output) = Err code.Yca
nothing_lost text output = Ok tt

-- Y reads the next page into the buffer, and what was there goes; without an input it is NFI.
abbrev pub yank : World → Result World Code
yank world = do
  input ← ok_or world.files.input code.Nfi
  saved ← nothing_lost world.kept.text world.files.output
  world_with_next_page world

-- A adds the next page at the end of the buffer, and leaves the pointer; at the end of the input it changes nothing.
abbrev pub appended : List ℕ → World → Result World Code
appended [] world = Ok world
appended (c ∷ bytes) world = do
  kept ← page_added (first_page (c ∷ bytes)) world.kept
  Ok (record { kept = kept; files = files_behind_page world.files })

abbrev pub append : World → Result World Code
append world = do
  input ← ok_or world.files.input code.Nfi
  appended input.unread world

-- A page is turned: the next one is read, the buffer written, and the page put in its place.
abbrev pub page_turned : World → Result World Code
page_turned world = do
  turned ← world_with_next_page world
  Ok (world_after_writing (written_page (page_of_buffer world.kept)) turned)

-- PW writes the buffer and a form feed.
abbrev pub page_written : World → Result World Code
page_written world = Ok (world_after_writing (world.kept.text ++ FF ∷ []) world)

-- what is written needs an output, else it is NFO
abbrev pub needed_output : World → Result Output Code
needed_output world = ok_or world.files.output code.Nfo

-- there is one page at least, else it is ARG
abbrev pub page_count : ℤ → Result ℕ Code
page_count (pos (suc n)) = Ok (suc n)
page_count n = Err code.Arg

-- What a step of a long command leaves, and how much it has still to do.
pub record Progress : Type 0 where
  pub world : World
  pub left : ℕ

-- nP turns n pages, and nPW writes n, a step each, which needs an output
abbrev pub one_page_of : (World → Result World Code) → ℕ → World → Result Progress Code
one_page_of page n world = do
  output ← needed_output world
  done ← page world
  Ok (record { world = done; left = n - 1 })

-- m,nP and m,nPW write the range alone
abbrev pub range_written : ℤ → ℤ → World → Result World Code
range_written m n world = do
  text ← text_between m n world.kept
  Ok (world_after_writing text world)

abbrev pub range_done : ℤ → ℤ → World → Result Progress Code
range_done m n world = do
  done ← range_written m n world
  Ok (record { world = done; left = 0 })

-- the first step of P and PW, whose codes are NFO, and then ARG or POP
abbrev pub pages_of : (World → Result World Code) → Option ℤ → Option ℤ → World → Result Progress Code
pages_of page (Some m) (Some n) world = range_done m n world
pages_of page first value world = do
  n ← page_count (unwrap_or value (pos 1))
  one_page_of page n world

abbrev pub pages : (World → Result World Code) → Taken → World → Result Progress Code
pages page taken world = do
  output ← needed_output world
  pages_of page taken.first taken.value world

-- What n matches from a place on come to: the last of them, or how many are still wanted behind the buffer.
abbrev pub sought : Pattern → List ℕ → ℕ → ℕ → Sought
sought pattern text at zero = Wanted 0
sought pattern text at (suc zero) = option_map_or Last (first_from pattern text at) (Wanted 1)
sought pattern text at (suc (suc n)) =
    option_map_or (λ (span : Span). sought pattern text span.end (suc n))
    (first_from pattern text at) (Wanted (suc (suc n)))

-- What a look at the buffer comes to: what is kept at the last match, or how many more are wanted.
pub data Here : Type 0 where
  MetHere : Kept → Here
  WantedYet : ℕ → Here

abbrev pub here_of : Search → Element → Kept → Sought → Result Here Code
here_of s e kept (Last span) = do
  met ← kept_after s e span kept
  Ok (MetHere met)
here_of s e kept (Wanted n) = Ok (WantedYet n)

-- from the pointer on, by the last search text
abbrev pub look_here : Search → Element → ℕ → Kept → Result Here Code
look_here s e n kept = do
  pattern ← pattern_of kept.search_text kept
  here_of s e kept (sought pattern kept.text kept.pointer n)

-- What a step of N and FN comes to: it found the last match, or turned a page and wants so many more; or there is
-- no page left, and nothing is done yet but that the search text is kept.
pub data Looked : Type 0 where
  Met : World → Looked
  Turned : ℕ → World → Looked
  Through : World → Looked

-- Where no input is unread the buffer is written, and empty.
abbrev pub looked_through : World → World
looked_through world =
    let written = world_after_writing (written_page (page_of_buffer world.kept)) world in
    record written { kept = kept_with_page (first_page []) written.kept }

abbrev pub page_looked_for : List ℕ → ℕ → World → Result Looked Code
page_looked_for [] wanted world = Ok (Through world)
page_looked_for (c ∷ bytes) wanted world = do
  turned ← page_turned world
  Ok (Turned wanted turned)

-- a match is met in the buffer; where a page is needed an output is, too
abbrev pub looked_on : Here → World → Result Looked Code
looked_on (MetHere kept) world = Ok (Met (record world { kept = kept }))
looked_on (WantedYet n) world = do
  output ← needed_output world
  page_looked_for (unread world.files) n world

-- a step that wants n matches
abbrev pub look_for : Search → Element → ℕ → World → Result Looked Code
look_for s e n world = do
  here ← look_here s e n world.kept
  looked_on here world

-- how many matches are wanted first: one where nothing is said, else one at least; a first value is ARG
abbrev pub match_count : Option ℤ → Option ℤ → Result ℕ Code
match_count None value = page_count (unwrap_or value (pos 1))
match_count (Some m) value = Err code.Arg

-- the first step of N and FN keeps their search text
abbrev pub world_seeking : List ℕ → World → World
world_seeking text world =
    record world { kept = record world.kept { search_text = search_text_of text world.kept } }

abbrev pub look_first : Search → Element → Taken → World → Result Looked Code
look_first s e taken world = do
  n ← match_count taken.first taken.value
  look_for s e n (world_seeking e.text world)
