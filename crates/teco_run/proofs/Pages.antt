-- Commands of pages, as the answers of their elements.
use Rattle.teco_run.proofs.Prelude.{◌≡◌, ℕ, zero, suc, ℤ, pos, ◌-◌, ◌⊎◌, inl, inr, Bool, false, Result, Ok, Err, Option}
use Rattle.teco_run.proofs.Prelude.{Some, None, refl, ap, subst, sym, IsSome, unwrap_or, ok_or, Updates, Arguments}
use Rattle.teco_run.proofs.Prelude.{levels_after_answer, ◌>>=◌, Breaks, WritesPart, Output, code_by, reads_page}
use Rattle.teco_run.proofs.Prelude.{append_reply, in_pages, Progress, one_page_of, page_count, pages, pages_of, World}
use Rattle.teco_run.proofs.Prelude.{Frame, Taken, Kind, Out, Telling, halt_cause, Halt, Holdings, Joined, Pending}
use Rattle.teco_run.proofs.Prelude.{Answers, IsNoRange, Leaves, Takes, Works, course_by, reads_one, reply_seen, Course}
use Rattle.teco_base.specs.declared.code.Code as base
use Rattle.teco_base.specs.declared.code.Code.TheVariants as code
use Rattle.teco_model.specs.Character.{character}
use Rattle.teco_model.specs.Memory.{is_range}
use Rattle.teco_model.specs.Outside.{page_reply, while_left}
use Rattle.teco_model.specs.Paging.{needed_output, range_written}
use Rattle.teco_model.specs.declared.kind.Kind.TheVariants as kind
use Rattle.teco_model.specs.declared.kind.Page.{Page}
use Rattle.teco_model.specs.declared.kind.Page.TheVariants as page
use Rattle.teco_filing.specs.Failures as may
use Rattle.teco_filing.specs.declared.halt.Halt.TheVariants as halt
use Rattle.teco_run.proofs.Taking.{taken}
use Rattle.teco_run.proofs.Together.{Joined-open, Joined-refused, Joined-stays, none-open}
use Rattle.teco_run.proofs.Works.{made, writing}
use Rattle.teco_run.specs.Replies.{IsWritten}
use Rattle.teco_run.specs.declared.course.Course.TheVariants as course

-- a page is read but where a range is written
pub reads-more : (p : Page) (n : ℕ) (own : Taken) → IsWritten p → reads_page p (Some n) own ≡ reads_one p
reads-more page.Next n own h = refl
reads-more page.Write n own h = refl
reads-more page.Yank n own h = absurd h
reads-more page.Append n own h = absurd h

pub reads-range : (p : Page) (own : Taken) (m n : ℤ) → IsWritten p → own.first ≡ Some m → own.value ≡ Some n
    → reads_page p None own ≡ false
reads-range page.Next own m n h first value = rw (first, value) refl
reads-range page.Write own m n h first value = refl
reads-range page.Yank own m n h first value = absurd h
reads-range page.Append own m n h first value = absurd h

writes-part : (p : Page) → IsWritten p → (old left new : World) → WritesPart old left new
    → Breaks (kind.Page p) false Out old left new
writes-part page.Next h old left new part = part
writes-part page.Write h old left new part = part
writes-part page.Yank h old left new part = absurd h
writes-part page.Append h old left new part = absurd h

-- so many pages are done where there is no range
no-range : (first value : Option ℤ) → (first ≡ None) ⊎ (value ≡ None) → is_range first value ≡ false
no-range None value h = refl
no-range (Some m) None h = refl
no-range (Some m) (Some n) (inl h) = absurd (cc)
no-range (Some m) (Some n) (inr h) = absurd (cc)

pub reads-counted : (p : Page) (own : Taken) → IsWritten p → IsNoRange own → reads_page p None own ≡ reads_one p
reads-counted page.Next own h none = rw (no-range own.first own.value none) refl
reads-counted page.Write own h none = refl
reads-counted page.Yank own h none = absurd h
reads-counted page.Append own h none = absurd h

pub pages-counted : (one_page : World → Result World base.Code) (first value : Option ℤ) (n : ℕ) (world : World)
    → (first ≡ None) ⊎ (value ≡ None) → page_count (unwrap_or value (pos 1)) ≡ Ok n
    → pages_of one_page first value world ≡ one_page_of one_page n world
pages-counted one_page None value n world h is = rw is refl
pages-counted one_page (Some m) None n world h is = let one : 1 ≡ n = cc in ap (λ n. one_page_of one_page n world) one
pages-counted one_page (Some m) (Some k) n world (inl h) is = absurd (cc)
pages-counted one_page (Some m) (Some k) n world (inr h) is = absurd (cc)

-- what is left to do, as a reply
module _ (arguments : Arguments) where
  unrefused : (n : ℕ) (world : World) → code_by (while_left n arguments world).course ≡ None
  unrefused zero world = refl
  unrefused (suc n) world = refl

  stays : (n : ℕ) (world : World) → (while_left n arguments world).world ≡ world
  stays zero world = refl
  stays (suc n) world = refl

leaves-seen : (frame : Frame) (pending after : Pending) (n : ℕ) (c : Course) (world : World) → Leaves pending after n c
    → while_left n pending.arguments world ≡ reply_seen frame after world c
leaves-seen frame pending after zero c world (same, is) = rw (same, is) refl
leaves-seen frame pending after (suc n) c world (same, is) = rw (same, is) refl

module _ (k : Kind) (grows : Bool) (frame : Frame) (pending after : Pending) (one_page : World
    → Result World base.Code) where
  -- no output is open, in a further step and in the first
  pub page-needs : (n : ℕ) (desk : Holdings) (x : Telling) → desk.held.output ≡ None
      → Joined (λ old new. Answers k grows frame after (in_pages pending.arguments (one_page_of one_page n old)) old new
      (Err (halt.Code code.Nfo))) desk desk x x
  page-needs n desk x none = Joined-refused
      (λ old new. Answers k grows frame after (in_pages pending.arguments (one_page_of one_page n old)) old new
      (Err (halt.Code code.Nfo))) desk x (λ files out. rw (none-open desk.held.output files.output out none) (
        refl,
        refl,
      ))

  pub pages-need : (own : Taken) (desk : Holdings) (x : Telling) → desk.held.output ≡ None
      → Joined (λ old new. Answers k grows frame after (in_pages pending.arguments (pages one_page own old)) old new
      (Err (halt.Code code.Nfo))) desk desk x x
  pages-need own desk x none = Joined-refused
      (λ old new. Answers k grows frame after (in_pages pending.arguments (pages one_page own old)) old new
      (Err (halt.Code code.Nfo))) desk x (λ files out. rw (none-open desk.held.output files.output out none) (
        refl,
        refl,
      ))

  -- an output that is open is not missed
  open-needed : {X : Type 0} (d : Result X base.Code) (o : Option Output) (output : Output) → o ≡ Some output
      → (ok_or o code.Nfo >>= (λ needed. d)) ≡ d
  open-needed d o output is = rw is refl

  with-needed : (d : Result Progress base.Code) (old new : World) (result : Result Course Halt) (output : Output)
      → old.files.output ≡ Some output → Answers k grows frame after (in_pages pending.arguments d) old new result →
      Answers k grows frame after (in_pages pending.arguments (needed_output old >>= (λ needed. d))) old new result
  with-needed d old new result output is =
      subst (λ d. Answers k grows frame after (in_pages pending.arguments d) old new result)
      (sym (open-needed d old.files.output output is))

  -- where one is open, the first step is that of its arguments
  pub pages-open : (own : Taken) (result : Result Course Halt) (a b : Holdings) (x y : Telling) → IsSome a.held.output
      → Joined (λ old new. Answers k grows frame after
      (in_pages pending.arguments (pages_of one_page own.first own.value old)) old new result) a b x y →
      Joined (λ old new. Answers k grows frame after (in_pages pending.arguments (pages one_page own old)) old new
      result) a b x y
  pages-open own result a b x y some =
      Joined-open (λ old new. Answers k grows frame after
      (in_pages pending.arguments (pages_of one_page own.first own.value old)) old new result)
      (λ old new. Answers k grows frame after (in_pages pending.arguments (pages one_page own old)) old new result) a b
      x y some
      (λ old new output kept is. with-needed (pages_of one_page own.first own.value old) old new result output is)

  -- the number of pages is none
  pub pages-uncounted : (own : Taken) (c : base.Code) (desk : Holdings) (x : Telling)
      → ((world : World) → pages_of one_page own.first own.value world ≡ Err c)
      → Joined (λ old new. Answers k grows frame after
      (in_pages pending.arguments (pages_of one_page own.first own.value old)) old new (Err (halt.Code c))) desk desk x
      x
  pages-uncounted own c desk x is =
      Joined-stays (λ old new. Answers k grows frame after
      (in_pages pending.arguments (pages_of one_page own.first own.value old)) old new (Err (halt.Code c))) desk x
      (λ world. rw (is world) (refl, refl))

  -- one page is done
  pub page-answers : (n : ℕ) (c : Course) (done : Result (Unit {0}) Halt) (a b : Holdings) (x y : Telling)
      → Leaves pending after (n - 1) c → IsSome a.held.output
      → Joined (λ old new. Works k grows (one_page old) old new done) a b x y →
      Joined (λ old new. Answers k grows frame after (in_pages pending.arguments (one_page_of one_page n old)) old new
      (course_by c done)) a b x y
  page-answers n c done a b x y leaves some =
      Joined-open (λ old new. Works k grows (one_page old) old new done)
      (λ old new. Answers k grows frame after (in_pages pending.arguments (one_page_of one_page n old)) old new
      (course_by c done)) a b x y some
      (λ old new output kept is works.
      with-needed (one_page old >>= (λ world. Ok (record { world = world; left = n - 1 }))) old new
      (course_by c done) output is
      (made k grows frame after c old new
      (λ d. in_pages pending.arguments (d >>= (λ world. Ok (record { world = world; left = n - 1 }))))
      (while_left (n - 1) pending.arguments) (λ w. refl) (λ c. refl)
      (unrefused pending.arguments (n - 1)) (stays pending.arguments (n - 1))
      (leaves-seen frame pending after (n - 1) c new leaves) (one_page old) done works))

-- a range is written
pub range-answers : (p : Page) (frame : Frame) (pending after : Pending) (m n : ℤ) (c : Course) (old new : World)
    (done : Result (Unit {0}) Halt) → IsWritten p → Leaves pending after 0 c
    → Updates halt_cause may.writing old new (range_written m n old) done →
    Answers (kind.Page p) false frame after
    (in_pages pending.arguments (range_written m n old >>= (λ world. Ok (record { world = world; left = 0 })))) old
    new (course_by c done)
range-answers p frame pending after m n c old new done written leaves writes =
    made (kind.Page p) false frame after c old new
    (λ d. in_pages pending.arguments (d >>= (λ world. Ok (record { world = world; left = 0 }))))
    (while_left 0 pending.arguments) (λ w. refl) (λ c. refl)
    (λ w. refl) (λ w. refl) (leaves-seen frame pending after 0 c new leaves) (range_written m n old) done
    (writing (kind.Page p) old new (λ left part. writes-part p written old left new part)
    (range_written m n old) done writes)

-- the code of a character is the answer
pub character-answers : (grows : Bool) (frame : Frame) (pending mid after : Pending) (own : Taken) (n : ℤ)
    (desk : Holdings) (x : Telling) → Takes pending mid (Ok own) → own.value ≡ Some n
    → after ≡ record mid { arguments = levels_after_answer (Some (character n desk.kept)) mid.arguments } →
    Joined (λ old new. Answers (kind.Page page.Append) grows frame after
    (page_reply page.Append pending.left pending.arguments old) old new (Ok course.Behind)) desk desk x x
character-answers grows frame pending mid after own n desk x takes some same =
    taken (kind.Page page.Append) grows frame pending mid after
    (λ old own p. append_reply own.value p.left p.arguments old) own (Ok course.Behind) desk desk x x takes
    (Joined-refused (λ old new. Answers (kind.Page page.Append) grows frame after
    (append_reply own.value mid.left mid.arguments old) old new (Ok course.Behind)) desk x
    (λ files out. rw (some, same) refl))
