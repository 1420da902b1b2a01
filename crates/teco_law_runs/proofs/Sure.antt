-- A run that comes to its end does nothing else.
use Rattle.teco_law_runs.proofs.Prelude.{◌≡◌, ℕ, zero, suc, ◌+◌, ◌-◌, ◌<◌, ◌≤◌, inl, inr, refl, sym, ap, ◌∙◌, arith}
use Rattle.teco_law_runs.proofs.Prelude.{Bool, true, false, Option, Some, None, Result, Ok, Err, Code, Kind, Search}
use Rattle.teco_law_runs.proofs.Prelude.{Element, element_at, Course, Reply, settled, settle, run, go_on, World, State}
use Rattle.teco_law_runs.proofs.Prelude.{Outcome, Next, End, reply_of, outcome_at, step, ◌⊎◌, cases_order, Page, Stop}
use Rattle.teco_law_runs.proofs.Prelude.{Behind, Ends, Reaches, Exit, Fail, EndsWithin, is_of_files, changes_files}
use Rattle.teco_law_runs.proofs.Prelude.{ReadsNoFileCommand, ComesTo}
use Rattle.teco_model.specs.Going.{world_left}
use Rattle.teco_model.specs.Run.{IsSure, Stops}
use Rattle.teco_model.specs.State.{Frames}
use Rattle.teco_law_runs.specs.Sure.{RunsAreSure, RunsEndOnce}
use Rattle.teco_model.specs.declared.kind.Kind.TheVariants as kind
use Rattle.teco_model.specs.declared.kind.Page.TheVariants as page
use Rattle.teco_model.specs.declared.kind.Search.TheVariants as search
use Rattle.teco_model.specs.declared.stop.HostFault.TheVariants as host_fault
use Rattle.teco_model.specs.declared.stop.Stop.TheVariants as stop
use Rattle.teco_model.specs.Faults.{Breaks, BreaksAt, BreaksFrom}
use Rattle.teco_model.specs.Memory.{grows}
use Rattle.teco_law_runs.proofs.Walking.{same_next}

-- it is no state
abbrev IsOver : Outcome → Type 0
IsOver o = go_on o ≡ o

run-suc : (n : ℕ) (s : State) → run (suc n) s ≡ go_on (run n s)
unfolding run
run-suc n s = refl

-- what is over stays over
over_stays : (s : State) (o : Outcome) → IsOver o → (n : ℕ) → run n s ≡ o → (k : ℕ) → run (k + n) s ≡ o
over_stays s o over n e zero = let none : 0 + n ≡ n = omega arith in ap (λ k. run k s) none ∙ e
over_stays s o over n e (suc k) =
    let more : suc k + n ≡ suc (k + n) = omega arith in
    ap (λ j. run j s) more ∙ run-suc (k + n) s ∙ ap go_on (over_stays s o over n e k) ∙ over

-- the outcome of the step behind a state that a run comes to
behind : (s last : State) (n : ℕ) → Reaches n s last → run (suc n) s ≡ step last
behind s last n r = run-suc n s ∙ ap go_on r

-- later than that a run comes to no state
none_later : (s last other : State) (o : Outcome) (n m : ℕ) → IsOver o → ((t : State) → o ≡ Next t → ⊥)
    → Reaches n s last → step last ≡ o → n < m → Reaches m s other → ⊥
none_later s last other o n m over never r e less q =
    let later : (m - suc n) + suc n ≡ m = omega (arith, less) in
    let stays = over_stays s o over (suc n) (behind s last n r ∙ e) (m - suc n) in
    never other (sym (ap (λ k. run k s) (sym later) ∙ stays) ∙ q)

-- two ways of being over are one, and come at the same time
module _ (s last other : State) (o p : Outcome) (n m : ℕ) (over : IsOver o) (never : (t : State) → o ≡ Next t → ⊥)
    (over' : IsOver p) (never' : (t : State) → p ≡ Next t → ⊥) (r : Reaches n s last) (e : step last ≡ o)
    (q : Reaches m s other) (f : step other ≡ p) where
  same_end : (n ≡ m) × (o ≡ p)
  same_end = by (cases_order n m)
    where
      by : (n ≡ m) ⊎ ((n < m) ⊎ (m < n)) → (n ≡ m) × (o ≡ p)
      by (inl same) = (same, sym e ∙ ap step (same_next last other (sym r ∙ ap (λ k. run k s) same ∙ q)) ∙ f)
      by (inr (inl less)) = absurd (none_later s last other o n m over never r e less q)
      by (inr (inr less)) = absurd (none_later s other last p m n over' never' q f less r)

end_is_none : (w : World) (t : State) → End w ≡ Next t → ⊥
end_is_none w t e = absurd (cc)

-- a state that a run comes to is before its end, or at it
before_or_at : (s : State) (n : ℕ) (end : World) (ends : Ends s n end) (k : ℕ) (t : State) → Reaches k s t
    → (k < n) ⊎ (step t ≡ End end)
before_or_at s n end ends k t reached = by (cases_order n k)
  where
    by : (n ≡ k) ⊎ ((n < k) ⊎ (k < n)) → (k < n) ⊎ (step t ≡ End end)
    by (inl same) =
        inr (ap step (same_next t ends.last (sym reached ∙ (sym (ap (λ k. run k s) same) ∙ ends.steps))) ∙ ends.end)
    by (inr (inl past)) =
        absurd (none_later s ends.last t (End end) n k refl (end_is_none end) ends.steps ends.end past reached)
    by (inr (inr before)) = inl before

one_end : (v w : World) → End v ≡ End w → v ≡ w
one_end v w e = cc

pub runs_end_once : RunsEndOnce
runs_end_once s n limit end (stop.Ended m) new ends small stops =
    let same = same_end s ends.last stops.1.last (End end) (End new) n m refl
    (end_is_none end) refl (end_is_none new) ends.steps ends.end stops.1.steps stops.1.end in
    (sym same.0, sym (one_end end new same.1))
runs_end_once s n limit end (stop.Exit m) new ends small stops =
    let exits = stops.1 in
    let same = same_end s ends.last exits.last (End end) (Exit new) n exits.before refl (end_is_none end) refl
    (λ t e. absurd (cc)) ends.steps ends.end exits.steps exits.exit in
    let not : End end ≡ Exit new = same.1 in absurd (cc)
runs_end_once s n limit end (stop.Error c) new ends small fails =
    let same = same_end s ends.last fails.last (End end) (Fail c new) n fails.steps refl (end_is_none end) refl
    (λ t e. absurd (cc)) ends.steps ends.end fails.reached fails.failed in
    let not : End end ≡ Fail c new = same.1 in absurd (cc)
runs_end_once s n limit end stop.Limit new ends small limited =
    by (before_or_at s n end ends limit limited.last limited.reached)
  where
    by : (limit < n) ⊎ (step limited.last ≡ End end) → ⊥
    by (inl before) = absurd (omega (arith, before, small))
    by (inr at) = limited.unfinished end at
runs_end_once s n limit end stop.Memory new ends small stops = tt
runs_end_once s n limit end (stop.HostFault fault) new ends small broken = tt

-- ---- a command of files alone may find no file
page_reads : (p : Page) (reads : Bool) (before after new : World)
    → Breaks (kind.Page p) reads host_fault.NoFile before after new → ⊥
page_reads page.Yank reads before after new h = h
page_reads page.Append true before after new h = h
page_reads page.Append false before after new h = h
page_reads page.Next true before after new h = h
page_reads page.Next false before after new h = h
page_reads page.Write reads before after new h = h

search_reads : (q : Search) (grows : Bool) (before after new : World)
    → Breaks (kind.Search q) grows host_fault.NoFile before after new → ⊥
search_reads search.Find grows before after new h = h
search_reads q grows before after new h = h

kind_opens : (k : Kind) (grows : Bool) (before after new : World) → is_of_files k ≡ false
    → Breaks k grows host_fault.NoFile before after new → ⊥
kind_opens (kind.File f) grows before after new none h = absurd (cc)
kind_opens (kind.Page p) grows before after new none h = page_reads p grows before after new h
kind_opens (kind.Search q) grows before after new none h = search_reads q grows before after new h
kind_opens k grows before after new none h = h

read_opens : (t : State) (r : Result (Option Element) Code) (new : World)
    → ((read : Option Element) → r ≡ Ok read → changes_files read ≡ false) → BreaksAt t r host_fault.NoFile new → ⊥
read_opens t (Err c) new none h = h
read_opens t (Ok None) new none h = h
read_opens t (Ok (Some e)) new none h =
    kind_opens e.kind (grows e.kind t.arguments.level t.left) t.world (world_left t.world (reply_of e.kind e t)) new
    (none (Some e) refl) h.1

none_opens : (t : State) (new : World) → ReadsNoFileCommand t → BreaksFrom t host_fault.NoFile new → ⊥
none_opens t new none h = read_opens t (element_at t.frames.running.text t.frames.running.place) new none h

-- no element is the end
settled_goes : (e : Element) (frames : Frames) (reply : Reply) (course : Course) (w : World)
    → settled e frames reply course ≡ End w → ⊥
settled_goes e frames reply Behind w h = cc
settled_goes e frames reply course w h = cc

pub settle_goes : (e : Element) (t : State) (r : Result Reply Code) (w : World) → settle e t r ≡ End w → ⊥
settle_goes e t (Err c) w h = cc
settle_goes e t (Ok reply) w h = settled_goes e t.frames reply reply.course w h

-- so nothing fails at the end
read_breaks : (t : State) (r : Result (Option Element) Code) (w new : World) → outcome_at t r ≡ End w
    → BreaksAt t r host_fault.NoFile new → ⊥
read_breaks t (Err c) w new e h = h
read_breaks t (Ok None) w new e h = h
read_breaks t (Ok (Some x)) w new e h = settle_goes x t (reply_of x.kind x t) w e

end_breaks : (t : State) (w new : World) → step t ≡ End w → BreaksFrom t host_fault.NoFile new → ⊥
unfolding step
end_breaks t w new e h = read_breaks t (element_at t.frames.running.text t.frames.running.place) w new e h

-- what comes to that end is sure, where a fault of the host is no file that is not there
sure_if : (n most : ℕ) (end : World) (answer : Stop) (new : World) → n ≤ most
    → (answer ≡ stop.HostFault host_fault.NoFile → ⊥) → ComesTo n end answer new → IsSure most answer
sure_if n most end (stop.Ended m) new few found comes = omega (arith, few, comes.0)
sure_if n most end stop.Memory new few found comes = tt
sure_if n most end (stop.HostFault host_fault.In) new few found comes = tt
sure_if n most end (stop.HostFault host_fault.Out) new few found comes = tt
sure_if n most end (stop.HostFault host_fault.NoFile) new few found comes = found refl
sure_if n most end answer new few found comes = absurd comes

-- none is not there
finds_all : (s : State) (most limit : ℕ) (answer : Stop) (new : World) → EndsWithin s most → Stops s limit answer new
    → answer ≡ stop.HostFault host_fault.NoFile → ⊥
finds_all s most limit (stop.HostFault host_fault.NoFile) new ends broken e =
    by (before_or_at s ends.steps ends.new ends.ends broken.steps broken.last broken.reached)
  where
    by : (broken.steps < ends.steps) ⊎ (step broken.last ≡ End ends.new) → ⊥
    by (inl before) = none_opens broken.last new (ends.none broken.steps broken.last before broken.reached)
        broken.breaks
    by (inr end) = end_breaks broken.last ends.new new end broken.breaks
finds_all s most limit answer new ends stops e = absurd (cc)

pub runs_are_sure : RunsAreSure
runs_are_sure s most limit answer new ends small stops =
    sure_if ends.steps most ends.new answer new ends.few (finds_all s most limit answer new ends stops)
    (runs_end_once s ends.steps limit ends.new answer new ends.ends (omega (arith, ends.few, small)) stops)
