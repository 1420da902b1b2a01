-- What a fault of the host leaves. In opening and reading all is as before the step; in writing the output has got
-- a part of what the step writes, from its front; in closing and dropping no output is open; and in EC and EX both
-- files are closed, and the output is abandoned.
use Rattle.std.specs.Prelude.{ℕ, ◌≡◌, ⊤, List, ◌++◌, Bool, true, false, IsTrue, Option, Some, None, Result, Ok, Err}
use Rattle.teco_base.specs.declared.code.Code.{Code}
use Rattle.teco_base.specs.declared.code.Code.TheVariants as code
use Rattle.teco_model.specs.declared.kind.Kind.{Kind}
use Rattle.teco_model.specs.declared.kind.Kind.TheVariants as kind
use Rattle.teco_model.specs.declared.kind.File.TheVariants as file
use Rattle.teco_model.specs.declared.kind.Page.TheVariants as page
use Rattle.teco_model.specs.declared.kind.Search.TheVariants as search_kind
use Rattle.teco_model.specs.declared.stop.HostFault.{HostFault}
use Rattle.teco_model.specs.declared.stop.HostFault.TheVariants.{NoFile, In, Out}
use Rattle.teco_model.specs.Element.{Element, element_at}
use Rattle.teco_model.specs.Files.{with_written}
use Rattle.teco_model.specs.Filing.{abandon_output}
use Rattle.teco_model.specs.Going.{code_of, world_left}
use Rattle.teco_model.specs.Memory.{grows, is_late_in_search, is_late_in_page}
use Rattle.teco_model.specs.Paging.{world_after_writing}
use Rattle.teco_model.specs.State.{World, State}
use Rattle.teco_model.specs.Step.{reply_of}

-- of what a step writes to the output, a part from its front was written, and nothing else done
pub record WritesPart (before after new : World) : Type 0 where
  pub front : List ℕ
  pub rest : List ℕ
  pub whole : after.files.output ≡ with_written (front ++ rest) before.files.output
  pub part : new ≡ world_after_writing front before

-- both files are closed, and the output is abandoned
abbrev pub without_files : World → World
without_files world = record world { files = record world.files { input = None; output = None } }

-- what a fault leaves, by what the element does with the files; A and P read a page if they grow
abbrev pub Breaks : Kind → Bool → HostFault → World → World → World → Type 0
Breaks (kind.Page page.Yank) grows In before after new = new ≡ before
Breaks (kind.Page page.Append) true In before after new = new ≡ before
Breaks (kind.Page page.Next) true In before after new = new ≡ before
Breaks (kind.Page page.Next) grows Out before after new = WritesPart before after new
Breaks (kind.Page page.Write) grows Out before after new = WritesPart before after new
Breaks (kind.Search search_kind.FindInPages) grows In before after new = new ≡ before
Breaks (kind.Search search_kind.FindInPages) grows Out before after new = WritesPart before after new
Breaks (kind.Search search_kind.ReplaceInPages) grows In before after new = new ≡ before
Breaks (kind.Search search_kind.ReplaceInPages) grows Out before after new = WritesPart before after new
Breaks (kind.File file.Read) grows NoFile before after new = new ≡ before
Breaks (kind.File file.Write) grows Out before after new = new ≡ before
Breaks (kind.File file.Close) grows Out before after new = new ≡ abandon_output before
Breaks (kind.File file.Abandon) grows Out before after new = new ≡ abandon_output before
Breaks (kind.File file.Copy) grows In before after new = new ≡ without_files before
Breaks (kind.File file.Copy) grows Out before after new = new ≡ without_files before
Breaks (kind.File file.Exit) grows In before after new = new ≡ without_files before
Breaks (kind.File file.Exit) grows Out before after new = new ≡ without_files before
Breaks k grows fault before after new = ⊥

-- Every code comes whatever the host does, but for those that are only told by reading a page: that it is too long,
-- or that there is none, so that a search fails. The SRH of such a search writes the buffer, too.
abbrev pub is_told_by_page : Code → Bool
is_told_by_page code.Nfo = false
is_told_by_page c = is_late_in_search c

abbrev pub is_srh : Code → Bool
is_srh code.Srh = true
is_srh c = false

abbrev pub is_late_for : HostFault → Kind → Code → Bool
is_late_for In (kind.Page p) c = is_late_in_page p c
is_late_for In (kind.Search s) c = is_told_by_page c
is_late_for Out (kind.Search s) c = is_srh c
is_late_for fault k c = false

-- may a fault of the host come in the place of what an element answers, by the code that it is refused with?
abbrev pub MayBreak : HostFault → Kind → Option Code → Type 0
MayBreak fault k None = ⊤
MayBreak fault k (Some c) = IsTrue (is_late_for fault k c)

-- what stays where the host failed in the step from a state
abbrev pub BreaksAt : State → Result (Option Element) Code → HostFault → World → Type 0
BreaksAt s (Err c) fault new = ⊥
BreaksAt s (Ok None) fault new = ⊥
BreaksAt s (Ok (Some e)) fault new =
    let reply = reply_of e.kind e s in
    MayBreak fault e.kind (code_of reply)
    × Breaks e.kind (grows e.kind s.arguments.level s.left) fault s.world (world_left s.world reply) new

abbrev pub BreaksFrom : State → HostFault → World → Type 0
BreaksFrom s fault new =
    BreaksAt s (element_at s.frames.running.text s.frames.running.place) fault new
