-- Each file that is touched is touched by a step of the definition.
use Rattle.teco_run.proofs.Prelude.{◌≡◌, ℕ, List, [], ◌∷◌, ◌++◌, Option, Some, None, Result, Ok, Err, inl, inr, ◌⊎◌}
use Rattle.teco_run.proofs.Prelude.{refl, sym, ap, subst, ◌∙◌, append-nil, Element, element_at, Frame, State, World}
use Rattle.teco_run.proofs.Prelude.{File, touches-on, Event, Telling, Halt, Holdings, Joined, ComesTo, TouchesBetween}
use Rattle.teco_run.proofs.Prelude.{file_of, touched_by_command, touched_by_read, touched_by_step}
use Rattle.std.specs.List.{AllByRecursion}
use Rattle.teco_base.specs.declared.code.Code as base
use Rattle.teco_model.specs.declared.kind.File.TheVariants as file
use Rattle.teco_filing.specs.declared.halt.Halt.TheVariants as halt
use Rattle.teco_run.specs.Touched.{AreDue, IsDue, IsUnmeasured}

-- none, or one file
abbrev OneAtMost : List Event → Type 0
OneAtMost events = (events ≡ []) ⊎ ((event : Event) × (events ≡ event ∷ []) × IsUnmeasured event)

-- a step touches one file at most
by_command : {X : Type 0} (f : Option File) (text : List ℕ) (output : Option (List ℕ)) (result : Result X Halt)
    → OneAtMost (touched_by_command f text output result)
by_command None text output result = inl refl
by_command (Some file.Read) text output (Ok done) = inr (_, refl, tt)
by_command (Some file.Write) text output (Ok done) = inr (_, refl, tt)
by_command (Some file.Close) text output (Ok done) = inr (_, refl, tt)
by_command (Some file.Copy) text output (Ok done) = inr (_, refl, tt)
by_command (Some file.Abandon) text None (Ok done) = inl refl
by_command (Some file.Abandon) text (Some name) (Ok done) = inr (_, refl, tt)
by_command (Some file.Exit) text None (Ok done) = inl refl
by_command (Some file.Exit) text (Some name) (Ok done) = inr (_, refl, tt)
by_command (Some f) text output (Err (halt.Code c)) = inl refl
by_command (Some f) text output (Err halt.Memory) = inl refl
by_command (Some file.Read) text output (Err (halt.Host fault)) = inl refl
by_command (Some file.Write) text output (Err (halt.Host fault)) = inl refl
by_command (Some file.Close) text output (Err (halt.Host fault)) = inr (_, refl, tt)
by_command (Some file.Copy) text output (Err (halt.Host fault)) = inr (_, refl, tt)
by_command (Some file.Abandon) text output (Err (halt.Host fault)) = inr (_, refl, tt)
by_command (Some file.Exit) text output (Err (halt.Host fault)) = inr (_, refl, tt)

by_read : {X : Type 0} (read : Result (Option Element) base.Code) (output : Option (List ℕ)) (result : Result X Halt)
    → OneAtMost (touched_by_read read output result)
by_read (Err c) output result = inl refl
by_read (Ok None) output result = inl refl
by_read (Ok (Some e)) output result = by_command (file_of e.kind) e.text output result

pub one-at-most : {X : Type 0} (frame : Frame) (output : Option (List ℕ)) (result : Result X Halt)
    → OneAtMost (touched_by_step frame output result)
one-at-most frame output result = by_read (element_at frame.text frame.place) output result

none-measured : (events : List Event) → OneAtMost events → AllByRecursion IsUnmeasured events
none-measured events (inl none) = rw none tt
none-measured events (inr one) = rw (one.1) (one.2, tt)

-- nor is any measured
pub step-unmeasured : {X : Type 0} (frame : Frame) (output : Option (List ℕ)) (result : Result X Halt)
    → AllByRecursion IsUnmeasured (touched_by_step frame output result)
step-unmeasured frame output result =
    none-measured (touched_by_step frame output result) (one-at-most frame output result)

pub unmeasured-on : (a b : List Event) → AllByRecursion IsUnmeasured a → AllByRecursion IsUnmeasured b
    → AllByRecursion IsUnmeasured (a ++ b)
unmeasured-on [] b h i = i
unmeasured-on (e ∷ a) b h i = (h.0, unmeasured-on a b h.1 i)

-- an event of a list that ends with one is before that, or it is that
split-last : (events earlier later : List Event) (last event : Event) → events ++ last ∷ [] ≡ earlier ++ event ∷ later
    → ((rest : List Event) × (events ≡ earlier ++ event ∷ rest) × (later ≡ rest ++ last ∷ []))
    ⊎ ((earlier ≡ events) × (event ≡ last) × (later ≡ []))
split-last [] [] later last event is = inr (refl, (let e : event ≡ last = cc in e), (let l : later ≡ [] = cc in l))
split-last [] (e ∷ []) later last event is = absurd (cc)
split-last [] (e ∷ (f ∷ earlier)) later last event is = absurd (cc)
split-last (e ∷ events) [] later last event is =
    let first : e ≡ event = cc in
    let rest : later ≡ events ++ last ∷ [] = cc in
    inl (events, ap (λ x. x ∷ events) first, rest)
split-last (e ∷ events) (f ∷ earlier) later last event is =
    let first : e ≡ f = cc in
    let rest : events ++ last ∷ [] ≡ earlier ++ event ∷ later = cc in
    by (split-last events earlier later last event rest) where
      by : ((rest : List Event) × (events ≡ earlier ++ event ∷ rest) × (later ≡ rest ++ last ∷ []))
          ⊎ ((earlier ≡ events) × (event ≡ last) × (later ≡ []))
          → ((rest : List Event) × (e ∷ events ≡ f ∷ earlier ++ event ∷ rest) × (later ≡ rest ++ last ∷ []))
          ⊎ ((f ∷ earlier ≡ e ∷ events) × (event ≡ last) × (later ≡ []))
      by (inl s) =
          inl (
            s.0,
            (let both : e ∷ events ≡ f ∷ (earlier ++ event ∷ s.0) = ap (λ x. x ∷ events) (let k : e ≡ f = cc in
                k) ∙ ap (λ l. f ∷ l) s.1 in both),
            s.2,
          )
      by (inr s) =
          inr (
            (let both : f ∷ earlier ≡ e ∷ events = ap (λ x. x ∷ earlier) (let k : f ≡ e = cc in k)
                ∙ ap (λ l. e ∷ l) s.0 in both),
            s.1,
            s.2,
          )

-- nothing is due of nothing
no-more : (earlier later : List Event) (event : Event) → [] ≡ earlier ++ event ∷ later → ⊥
no-more [] later event is = cc
no-more (e ∷ earlier) later event is = cc

module _ (from : World → State) where
  pub due-none : (a b : Holdings) (x y : Telling) → AreDue from [] a b x y
  due-none a b x y = λ earlier event later is. absurd (no-more earlier later event is)

  -- behind what was due, calls touch these
  on : (more : List Event) (a b c : Holdings) (x y z : Telling) (earlier later : List Event) (event : Event)
      → IsDue from earlier event later a b x y → TouchesBetween more b c y z
      → IsDue from earlier event (later ++ more) a c x z
  on more a b c x y z earlier later event was now = record {
    mid = was.mid;
    until = was.until;
    notes = was.notes;
    others = touches-on (event ∷ later) more _ _ _ _ _ _ was.others now;
    comes = was.comes;
  }

  -- behind those that were touched, a step touches these
  pub due-more : (touched more : List Event) (a b c : Holdings) (x y z : Telling) → OneAtMost more
      → TouchesBetween touched a b x y → AreDue from touched a b x y → TouchesBetween more b c y z
      → ((event : Event) → more ≡ event ∷ [] → Joined (λ was is. ComesTo event (from was)) a b x y)
      → AreDue from (touched ++ more) a c x z
  due-more touched more a b c x y z (inl none) notes due now comes = λ earlier event later is.
      let all : touched ≡ earlier ++ event ∷ later = sym (append-nil touched) ∙ ap (λ l. touched ++ l) (sym none)
      ∙ is in
      let still = on more a b c x y z earlier later event (due earlier event later all) now in
      subst (λ l. IsDue from earlier event l a c x z) (ap (λ l. later ++ l) none ∙ append-nil later) still
  due-more touched more a b c x y z (inr one) notes due now comes = λ earlier event later is.
      by earlier event later (split-last touched earlier later one.0 event (ap (λ l. touched ++ l) (sym one.1) ∙ is))
    where
      by : (earlier : List Event) (event : Event) (later : List Event)
          → ((rest : List Event) × (touched ≡ earlier ++ event ∷ rest) × (later ≡ rest ++ one.0 ∷ []))
          ⊎ ((earlier ≡ touched) × (event ≡ one.0) × (later ≡ [])) → IsDue from earlier event later a c x z
      by earlier event later (inl s) =
          let still = on more a b c x y z earlier s.0 event (due earlier event s.0 s.1) now in
          subst (λ l. IsDue from earlier event l a c x z) (ap (λ l. s.0 ++ l) one.1 ∙ sym s.2) still
      by earlier event later (inr s) = rw (s.0, s.1, s.2) (record {
        mid = b;
        until = y;
        notes = notes;
        others = subst (λ l. TouchesBetween l b c y z) one.1 now;
        comes = comes one.0 one.1;
      })

  -- what is held changes, but not whether the input is at its end
  pub due-same : (touched : List Event) (a b c : Holdings) (x y : Telling) → b.held.end ≡ c.held.end
      → AreDue from touched a b x y → AreDue from touched a c x y
  due-same touched a b c x y end due = λ earlier event later is.
      let was = due earlier event later is in
      record {
        mid = was.mid;
        until = was.until;
        notes = was.notes;
        others = rw (← end) was.others;
        comes = was.comes;
      }
