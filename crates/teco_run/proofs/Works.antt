-- What commands of pages and files did to what stays, as the answer of their element.
use Rattle.teco_run.proofs.Prelude.{◌≡◌, inl, inr, Bool, true, false, Option, Some, None, Result, Ok, Err, refl, ap}
use Rattle.teco_run.proofs.Prelude.{◌∙◌, IsTrue, Does, Updates, ◌>>=◌, Breaks, WritesPart, Reply, Behind, replying}
use Rattle.teco_run.proofs.Prelude.{code_by, going_on, World, Frame, Kind, NoFile, In, Out, halt_cause, Halt, Memory}
use Rattle.teco_run.proofs.Prelude.{Host, Pending, Answers, Works, course_by, reply_seen, Course}
use Rattle.teco_base.specs.declared.code.Code as base
use Rattle.teco_base.specs.declared.code.Code.TheVariants as code
use Rattle.teco_model.specs.Faults.{is_late_for}
use Rattle.teco_model.specs.Filing.{abandon_output}
use Rattle.teco_model.specs.Memory.{is_late}
use Rattle.teco_model.specs.Outside.{opened}
use Rattle.teco_model.specs.declared.kind.File.TheVariants as file
use Rattle.teco_model.specs.declared.kind.Kind.TheVariants as kind
use Rattle.teco_filing.specs.Failures as may
use Rattle.teco_filing.specs.declared.halt.Halt.TheVariants.{Code}
use Rattle.teco_run.specs.declared.course.Course.TheVariants as course

module _ (k : Kind) (old new : World) where
  -- a page is turned
  pub turning : IsTrue (is_late k code.Ful) → IsTrue (is_late_for In k code.Ful)
      → ((left : World) → new ≡ old → Breaks k true In old left new)
      → ((left : World) → WritesPart old left new → Breaks k true Out old left new) →
      (d : Result World base.Code) (done : Result (Unit {0}) Halt)
      → Updates halt_cause may.turning old new d done → Works k true d old new done
  turning late told breaks writes d (Ok u) h = h
  turning late told breaks writes d (Err (Code c)) (is, same) = rw is (refl, same)
  turning late told breaks writes (Ok w) (Err Memory) (h, same) = (refl, same)
  turning late told breaks writes (Err c) (Err Memory) (inl h, same) = absurd (cc)
  turning late told breaks writes (Err c) (Err Memory) (inr h, same) = let full : c ≡ code.Ful = cc in
      (rw full late, same)
  turning late told breaks writes d (Err (Host NoFile)) h = absurd h
  turning late told breaks writes (Ok w) (Err (Host In)) (h, same) = (tt, breaks w same)
  turning late told breaks writes (Err c) (Err (Host In)) (inl h, same) = absurd (cc)
  turning late told breaks writes (Err c) (Err (Host In)) (inr h, same) = let full : c ≡ code.Ful = cc in
      (rw full told, breaks old same)
  turning late told breaks writes d (Err (Host Out)) h = rw h.done (tt, writes h.after h.part)

  -- the buffer is written, or a part of it
  pub writing : ((left : World) → WritesPart old left new → Breaks k false Out old left new) →
      (d : Result World base.Code) (done : Result (Unit {0}) Halt)
      → Updates halt_cause may.writing old new d done → Works k false d old new done
  writing writes d (Ok u) h = h
  writing writes d (Err (Code c)) (is, same) = rw is (refl, same)
  writing writes d (Err Memory) h = absurd h.0
  writing writes d (Err (Host NoFile)) h = absurd h
  writing writes d (Err (Host In)) h = absurd h
  writing writes d (Err (Host Out)) h = rw h.done (tt, writes h.after h.part)

  -- an output is closed, or let go
  pub letting_go : ((left : World) → new ≡ abandon_output old → Breaks k false Out old left new) →
      (d : Result World base.Code) (done : Result (Unit {0}) Halt)
      → Updates halt_cause may.letting_go old new d done → Works k false d old new done
  letting_go breaks d (Ok u) h = h
  letting_go breaks d (Err (Code c)) (is, same) = rw is (refl, same)
  letting_go breaks d (Err Memory) h = absurd h.0
  letting_go breaks d (Err (Host NoFile)) h = absurd h
  letting_go breaks d (Err (Host In)) h = absurd h
  letting_go breaks (Ok w) (Err (Host Out)) (h, same) = (tt, breaks w same)
  letting_go breaks (Err c) (Err (Host Out)) (h, same) = absurd (cc)

-- an output is opened
pub opening : (old new : World) (d : Result World base.Code) (done : Result (Unit {0}) Halt)
    → Updates halt_cause may.opening_output old new d done → Works (kind.File file.Write) true d old new done
opening old new d (Ok u) h = h
opening old new d (Err (Code c)) (is, same) = rw is (refl, same)
opening old new (Ok w) (Err Memory) (h, same) = (refl, same)
opening old new (Err c) (Err Memory) (h, same) = absurd (cc)
opening old new d (Err (Host NoFile)) h = absurd h
opening old new d (Err (Host In)) h = absurd h
opening old new (Ok w) (Err (Host Out)) (h, same) = (tt, same)
opening old new (Err c) (Err (Host Out)) (h, same) = absurd (cc)

-- an input is opened, if there is such a file
pub finding : (frame : Frame) (pending : Pending) (old new : World) (d : Result (Option World) base.Code)
    (done : Result (Unit {0}) Halt) → Does halt_cause may.opening_input (λ new u. Some new) old new d done →
    Answers (kind.File file.Read) true frame pending
    (d >>= (λ found. Ok (opened pending.left pending.arguments old found))) old new (course_by course.Behind done)
finding frame pending old new d (Ok u) h = rw h refl
finding frame pending old new d (Err (Code c)) (is, same) = rw is (refl, same)
finding frame pending old new (Ok (Some w)) (Err Memory) (h, same) = (refl, same)
finding frame pending old new (Ok None) (Err Memory) (h, same) = (refl, same)
finding frame pending old new (Err c) (Err Memory) (h, same) = absurd (cc)
finding frame pending old new (Ok (Some w)) (Err (Host NoFile)) (h, same) = (tt, same)
finding frame pending old new (Ok None) (Err (Host NoFile)) (h, same) = (tt, same)
finding frame pending old new (Err c) (Err (Host NoFile)) (h, same) = absurd (cc)
finding frame pending old new d (Err (Host In)) h = absurd h
finding frame pending old new d (Err (Host Out)) h = absurd h

-- A part of an element whose reply is made of what it leaves: a code stays one, and the reply is none.
pub made : (k : Kind) (grows : Bool) (frame : Frame) (after : Pending) (c : Course) (old new : World)
    (F : Result World base.Code → Result Reply base.Code) (reply : World → Reply) →
    ((w : World) → F (Ok w) ≡ Ok (reply w)) → ((c : base.Code) → F (Err c) ≡ Err c)
    → ((w : World) → code_by (reply w).course ≡ None) → ((w : World) → (reply w).world ≡ w)
    → reply new ≡ reply_seen frame after new c →
    (d : Result World base.Code) (done : Result (Unit {0}) Halt) → Works k grows d old new done
    → Answers k grows frame after (F d) old new (course_by c done)
made k grows frame after c old new F reply ok err none stays same d (Ok u) h = rw h (ok new ∙ ap Ok same)
made k grows frame after c old new F reply ok err none stays same (Ok w) (Err why) h = rw (ok w, none w, stays w) h
made k grows frame after c old new F reply ok err none stays same (Err refusal) (Err why) h = rw (err refusal) h

-- the run goes on behind the element
pub gone_on : (k : Kind) (grows : Bool) (frame : Frame) (pending : Pending) (old new : World)
    (d : Result World base.Code) (done : Result (Unit {0}) Halt) → Works k grows d old new done →
    Answers k grows frame pending (going_on pending.left pending.arguments d) old new (course_by course.Behind done)
gone_on k grows frame pending old new =
    made k grows frame pending course.Behind old new (going_on pending.left pending.arguments)
    (replying Behind pending.left pending.arguments) (λ w. refl) (λ c. refl) (λ w. refl) (λ w. refl) refl
