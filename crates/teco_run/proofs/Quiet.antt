-- Steps that touch no file.
use Rattle.teco_run.proofs.Prelude.{◌≡◌, ℕ, List, [], ◌∷◌, Option, Some, None, Result, Ok, Err, refl, ap, Taken, File}
use Rattle.teco_run.proofs.Prelude.{Kind, arguments_of, levels_after_taking, ◌>>=◌, Element, element_at}
use Rattle.teco_run.proofs.Prelude.{Files, Output, settle, filed, Kept, Frames, Outcome, State, World, Next, End}
use Rattle.teco_run.proofs.Prelude.{outcome_at, reply_of, step, Halt, beside, Pending, at, IsQuiet, touched_by_command}
use Rattle.teco_run.proofs.Prelude.{touched_by_element, touched_by_read}
use Rattle.teco_base.specs.declared.code.Code as base
use Rattle.teco_model.specs.declared.kind.File.TheVariants as file
use Rattle.teco_model.specs.declared.kind.Kind.TheVariants as kind
use Rattle.teco_model.specs.Files.{no_files, output_of}
use Rattle.teco_run.proofs.Runs.{settle-no_end}

-- one output is open, and there is no file
one_open : Files
one_open = record no_files { output = Some (output_of []) }

-- the output that is open behind a step
output_after : Outcome → Option Output
output_after (Next s) = s.world.files.output
output_after other = None

-- an element that is done the same way whatever files there are, and leaves them as they are, touches none
module _ (frames to : Frames) (before after : Pending) (old new : Kept) where
  abbrev from : Files → State
  from files = at frames before (beside files old)

  abbrev behind : Files → State
  behind files = at to after (beside files new)

  quiet-file : (e : Element) (f : File) (name : List ℕ) (taken : Result Taken base.Code)
      → ((files : Files) → settle e (from files)
      (taken >>= (λ t. filed f name before.left (levels_after_taking before.arguments) (beside files old))) ≡ Next
      (behind files)) → (output : Option (List ℕ)) → touched_by_command {X = Unit {0}} (Some f) name output (Ok tt) ≡ []
  unfolding one_open output_after
  quiet-file e f name (Err c) h output = absurd (let k = h no_files in cc)
  quiet-file e file.Read [] (Ok t) h output = absurd (let k = h no_files in cc)
  quiet-file e file.Read (c ∷ name) (Ok t) h output = absurd (let k = h no_files in cc)
  quiet-file e file.Write name (Ok t) h output = absurd (let k = h one_open in cc)
  quiet-file e file.Close name (Ok t) h output = absurd (let k = h no_files in cc)
  quiet-file e file.Copy name (Ok t) h output = absurd (let k = h no_files in cc)
  quiet-file e file.Abandon name (Ok t) h output =
      absurd (let gone : Path (Option Output) None (Some (output_of [])) = ap output_after (h one_open) in cc)
  quiet-file e file.Exit name (Ok t) h output = absurd (let k = h no_files in cc)

  quiet-kind : (e : Element) (k : Kind)
      → ((files : Files) → settle e (from files) (reply_of k e (from files)) ≡ Next (behind files))
      → (output : Option (List ℕ)) → touched_by_element {X = Unit {0}} k e.text output (Ok tt) ≡ []
  unfolding reply_of
  quiet-kind e (kind.Argument a) h output = refl
  quiet-kind e (kind.Value v) h output = refl
  quiet-kind e (kind.Query q) h output = refl
  quiet-kind e (kind.Stack s) h output = refl
  quiet-kind e (kind.Call c) h output = refl
  quiet-kind e (kind.Flow f) h output = refl
  quiet-kind e (kind.Command c) h output = refl
  quiet-kind e (kind.Search s) h output = refl
  quiet-kind e (kind.Page p) h output = refl
  quiet-kind e (kind.File f) h output = quiet-file e f e.text (arguments_of before.arguments.level) h output

  quiet-read : (read : Result (Option Element) base.Code)
      → ((files : Files) → outcome_at (from files) read ≡ Next (behind files)) → (output : Option (List ℕ))
      → touched_by_read {X = Unit {0}} read output (Ok tt) ≡ []
  quiet-read (Err c) h output = refl
  quiet-read (Ok None) h output = refl
  quiet-read (Ok (Some e)) h output = quiet-kind e e.kind h output

  pub quiet-at-once : ((files : Files) → step (from files) ≡ Next (behind files)) → IsQuiet frames
  unfolding step
  quiet-at-once h = λ output. quiet-read (element_at frames.running.text frames.running.place) h output

-- no element is the end
quiet-end-read : {X : Type 0} (s : State) (world : World) (read : Result (Option Element) base.Code)
    (output : Option (List ℕ)) (result : Result X Halt) → outcome_at s read ≡ End world
    → touched_by_read read output result ≡ []
quiet-end-read s world (Err c) output result h = refl
quiet-end-read s world (Ok None) output result h = refl
quiet-end-read s world (Ok (Some e)) output result h = absurd (settle-no_end e s (reply_of e.kind e s) world h)

pub quiet-end : {X : Type 0} (s : State) (world : World) (output : Option (List ℕ)) (result : Result X Halt)
    → step s ≡ End world → touched_by_read (element_at s.frames.running.text s.frames.running.place) output result ≡ []
unfolding step
quiet-end s world output result h =
    quiet-end-read s world (element_at s.frames.running.text s.frames.running.place) output result h
