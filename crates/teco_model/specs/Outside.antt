-- What the commands of pages and files answer. P and PW take their arguments in their first step, and go on with
-- each page.
use Rattle.std.specs.Prelude.{ℕ, zero, suc, ℤ, List, Option, Some, None, Result, Ok}
use Rattle.teco_base.specs.declared.code.Code.{Code}
use Rattle.teco_model.specs.declared.kind.File.{File}
use Rattle.teco_model.specs.declared.kind.File.TheVariants as file
use Rattle.teco_model.specs.declared.kind.Page.{Page}
use Rattle.teco_model.specs.declared.kind.Page.TheVariants as page
use Rattle.teco_model.specs.Arguments.{Arguments, levels_after_answer}
use Rattle.teco_model.specs.Character.{character}
use Rattle.teco_model.specs.Checked.{◌>>-◌}
use Rattle.teco_model.specs.Filing.{open_input, open_output, close_output, abandon_output, copy_all, exit}
use Rattle.teco_model.specs.Going.{Reply, Behind, Again, Quit, NoFile, replying, with_taken}
use Rattle.teco_model.specs.Paging.{Progress, yank, append, pages, one_page_of, page_turned, page_written}
use Rattle.teco_model.specs.State.{World}

-- a command that changes only what stays goes on behind itself
abbrev pub going_on : Option ℕ → Arguments → Result World Code → Result Reply Code
going_on left arguments done = done >>- replying Behind left arguments

-- P and PW stay at their element while pages are left
abbrev pub while_left : ℕ → Arguments → World → Reply
while_left zero arguments world = replying Behind None arguments world
while_left (suc n) arguments world = replying Again (Some (suc n)) arguments world

abbrev pub in_pages : Arguments → Result Progress Code → Result Reply Code
in_pages arguments done = done >>- (λ progress. while_left progress.left arguments progress.world)

abbrev pub pages_reply : (World → Result World Code) → Option ℕ → Arguments → World → Result Reply Code
pages_reply one_page None arguments world =
    with_taken arguments (λ taken rest. in_pages rest (pages one_page taken world))
pages_reply one_page (Some n) arguments world = in_pages arguments (one_page_of one_page n world)

-- nA answers the code of a character, and A alone appends a page.
abbrev pub append_reply : Option ℤ → Option ℕ → Arguments → World → Result Reply Code
append_reply None left arguments world = going_on left arguments (append world)
append_reply (Some n) left arguments world =
    Ok (replying Behind left (levels_after_answer (Some (character n world.kept)) arguments) world)

-- what a command of pages answers
abbrev pub page_reply : Page → Option ℕ → Arguments → World → Result Reply Code
page_reply page.Yank left arguments world =
    with_taken arguments (λ taken rest. going_on left rest (yank world))
page_reply page.Append left arguments world =
    with_taken arguments (λ taken rest. append_reply taken.value left rest world)
page_reply page.Next left arguments world = pages_reply page_turned left arguments world
page_reply page.Write left arguments world = pages_reply page_written left arguments world

-- Where no file has the name the host is to refuse it.
abbrev pub opened : Option ℕ → Arguments → World → Option World → Reply
opened left arguments world None = replying NoFile left arguments world
opened left arguments world (Some new) = replying Behind left arguments new

-- what a command of files answers, whose arguments are taken
abbrev pub filed : File → List ℕ → Option ℕ → Arguments → World → Result Reply Code
filed file.Read name left arguments world = open_input name world >>- opened left arguments world
filed file.Write name left arguments world = going_on left arguments (open_output name world)
filed file.Close name left arguments world = going_on left arguments (close_output world)
filed file.Abandon name left arguments world =
    Ok (replying Behind left arguments (abandon_output world))
filed file.Copy name left arguments world = going_on left arguments (copy_all world)
filed file.Exit name left arguments world = Ok (replying Quit left arguments (exit world))

abbrev pub file_reply : File → List ℕ → Option ℕ → Arguments → World → Result Reply Code
file_reply f name left arguments world =
    with_taken arguments (λ taken rest. filed f name left rest world)
