-- A verified macro is sure to end.
use Rattle.teco_apply.proofs.Prelude.{◌≡◌, ℕ, zero, suc, ◌<◌, ◌≤◌, List, [], ◌∷◌, length, Option, Some, None}
use Rattle.teco_apply.proofs.Prelude.{option_map, IsSome, refl, subst, sym, arith, nat_tests, Calls, HasFiles}
use Rattle.teco_apply.proofs.Prelude.{PromisedCall, IsReady, MOST, TakesArgument, call_text, kept_loaded, REGISTERS}
use Rattle.teco_apply.proofs.Prelude.{IsLoaded, Stops, Kept, World, start, Stop, Input, Output, Held, IsSameOutput}
use Rattle.teco_apply.proofs.Prelude.{unread_bytes, told-map, told-whole, HostFiles, AreOfBytes, Telling, world}
use Rattle.teco_apply.proofs.Prelude.{Holdings, Joined}
use Rattle.std.proofs.Common.{ℤ, pos, negsuc, get_or}
use Rattle.std.specs.List.{sum_by}
use Rattle.std.proofs.lemmas.List.Sums.{sum_by-cons}
use Rattle.teco_apply.specs.Sure.{ChangesByElements, GrowsWithin, IsTaken, IsThere, KeepsUnnamed, Runs, TypesWithin}
use Rattle.teco_base.specs.Register.{register_name}
use Rattle.teco_law_runs.specs.Given.{call_given}
use Rattle.teco_model.specs.Macros.{IsAsked, Needs}
use Rattle.teco_poly.specs.Polynomial.{value}
use Rattle.teco_model.specs.Registers.{Pair, empty_pair, held_length_of_pair}
use Rattle.teco_model.specs.Run.{IsSure}
use Rattle.teco_model.specs.laws.Whole.{IsWhole}
use Rattle.teco_model.specs.declared.stop.Stop.TheVariants as stop
use Rattle.teco_hosts.specs.Held.{HoldsBytes, input_of}
use Rattle.teco_hosts.proofs.Bytes.{files_whole}
use Rattle.teco_law_runs.specs.Ready.{IsEntry, AreOpen, n_of}
use Rattle.teco_model.specs.Paging.{unread_of}
use Rattle.teco_law_changes.specs.Runs.{ChangesAsTold}
use Rattle.teco_law_runs.specs.Framing.{LeavesFramed}
use Rattle.teco_law_runs.specs.Keeping.{LeavesOpen, RunsLeaveOpen}
use Rattle.teco_law_runs.specs.Sure.{ComesTo, RunsAreSure, RunsEndOnce}
use Rattle.teco_law_runs.specs.Ready as beginning
use Rattle.teco_promise.specs.Promise.{EachRunEnds, EndsInBounds, IsWithin, Promise, held_of, most_with}

-- ---- N
-- one of some pairs holds no more than all
one_of : (pairs : List Pair) (r : ℕ) → length (get_or pairs r empty_pair).text ≤ sum_by held_length_of_pair pairs
one_of [] r = omega arith
one_of (pair ∷ pairs) zero = omega (arith, sum_by-cons held_length_of_pair pair pairs)
one_of (pair ∷ pairs) (suc r) = omega (arith, one_of pairs r, sum_by-cons held_length_of_pair pair pairs)

-- the entry facts are so at N
pub enters : (now : World) → IsEntry (n_of now) (unread_of now) now.kept
enters now = record {
  held = omega arith;
  texts = λ r. omega (arith, one_of now.kept.registers.pairs r);
}

-- ---- files
opened : (name : Option (List ℕ)) (held : Held) (files : HostFiles) → name ≡ held.input → IsSome name
    → (input : Input) × (input_of held files ≡ Some input)
opened None held files e none = absurd (cc)
opened (Some name) held files e some = (record { name = name; unread = unread_bytes held files }, rw (← e) refl)

named : (name : Option (List ℕ)) (output : Option Output) → name ≡ option_map (λ (o : Output). o.name) output
    → IsSome name → (o : Output) × (output ≡ Some o)
named None output e none = absurd (cc)
named (Some name) None e some = absurd (cc)
named (Some name) (Some output) e some = (output, refl)

-- what a holder has open is open, where the host has the same output open
are_open : (needs : Needs) (kept : Kept) (held : Held) (files : HostFiles) → IsSameOutput held files
    → IsThere needs.input held.input → IsThere needs.output held.output → AreOpen needs (world kept held files).files
are_open needs kept held files same input output = record {
  input = λ needed. opened held.input held files refl (input needed);
  output = λ needed. named held.output files.output same (output needed);
}

-- ---- the run
pub record Laws : Type 0 where
  pub sure : RunsAreSure
  pub leave : RunsLeaveOpen
  pub once : RunsEndOnce

-- where a macro is called, of which this is promised
pub record IsCalled (call : PromisedCall) (kept : Kept) (held : Held) : Type 0 where
  pub sound : EachRunEnds call.promise
  pub loaded : IsLoaded call.promise.library kept
  pub whole : IsWhole kept
  pub bytes : HoldsBytes held
  pub named : call.promise.entry < REGISTERS
  pub files : HasFiles call.promise.needs held
  pub taken : TakesArgument call

-- a register's name is a byte
pub name_small : (r : ℕ) → r < REGISTERS → register_name r < 256
name_small r small = grind (arith, nat_tests)

-- what comes to that end has typed no more
typed_at : (typed : Option ℕ) (n : ℕ) (end : World) (answer : Stop) (new : World)
    → IsWithin typed (length end.kept.typed)
    → ComesTo n end answer new → TypesWithin typed answer new
typed_at typed n end (stop.Ended m) new within comes =
    subst (λ (w : World). IsWithin typed (length w.kept.typed)) (sym comes.1) within
typed_at typed n end answer new within comes = tt

-- and holds no more
grown_at : (held : Option ℕ) (n : ℕ) (end : World) (answer : Stop) (new : World) → IsWithin held (held_of end)
    → ComesTo n end answer new → GrowsWithin held answer new
grown_at held n end (stop.Ended m) new within comes =
    subst (λ (w : World). IsWithin held (held_of w)) (sym comes.1) within
grown_at held n end answer new within comes = tt

-- and leaves what the macro does not name
unnamed_at : (promise : Promise) (sound : EachRunEnds promise) (n : ℕ) (old end : World) (answer : Stop) (new : World)
    → LeavesFramed sound.nodes old.kept end.kept → ComesTo n end answer new → KeepsUnnamed promise answer old new
unnamed_at promise sound n old end (stop.Ended m) new framed comes = record {
  nodes = sound.nodes;
  expanded = sound.expanded;
  framed = subst (λ (w : World). LeavesFramed sound.nodes old.kept w.kept) (sym comes.1) framed;
}
unnamed_at promise sound n old end answer new framed comes = tt

-- and has changed the text by what is told of the macro's elements
changed_at : (promise : Promise) (sound : EachRunEnds promise) (n : ℕ) (old end : World) (answer : Stop) (new : World)
    → ChangesAsTold sound.nodes old end → ComesTo n end answer new → ChangesByElements promise answer old new
changed_at promise sound n old end (stop.Ended m) new changed comes =
    λ changes tells.
    subst (ChangesAsTold sound.nodes old) (sym comes.1) changed changes (tells sound.nodes sound.expanded)
changed_at promise sound n old end answer new changed comes = tt

module _ (laws : Laws) (call : PromisedCall) (kept : Kept) (held : Held) (is : IsCalled call kept held)
    (files : HostFiles)
    (bytes : AreOfBytes files) (same : IsSameOutput held files)
    (ready : IsReady call.promise (world kept held files)) where
  abbrev now : World
  now = world kept held files

  -- where it begins
  entered : beginning.IsReady call.promise.library call.promise.entry call.promise.size (n_of now) now
  entered = record {
    named = is.named;
    loaded = is.loaded;
    whole = record { kept = is.whole; files = files_whole held files is.bytes bytes };
    call = (omega arith, (name_small call.promise.entry is.named, tt));
    begins = enters now;
    small = ready.fits;
  }

  opened_there : AreOpen call.promise.needs now.files
  opened_there = are_open call.promise.needs kept held files same is.files.input is.files.output

  -- with an argument that is asked for
  ends : (given : Option ℕ) → IsAsked call.promise.argument given
      → EndsInBounds is.sound.nodes (start (call_given call.promise.entry given) now)
      (value call.promise.commands (n_of now))
      (most_with call.promise.grows (n_of now) (held_of now))
      (most_with call.promise.types (n_of now) (length kept.typed))
  ends given asked = is.sound.runs given now asked entered opened_there

  pub ends_with : (given : Option ℤ) → IsTaken call.promise.argument given
      → EndsInBounds is.sound.nodes (start (call_text call.promise.entry given) (world kept held files))
      (value call.promise.commands (n_of (world kept held files)))
      (most_with call.promise.grows (n_of (world kept held files)) (held_of (world kept held files)))
      (most_with call.promise.types (n_of (world kept held files)) (length kept.typed))
  ends_with None taken = ends None taken
  ends_with (Some (pos n)) taken = ends (Some n) taken
  ends_with (Some (negsuc n)) taken = absurd taken

  pub is_sure : (answer : Stop) (new : World)
      → Stops (start (call_text call.promise.entry call.given) (world kept held files)) MOST answer new
      → IsSure (value call.promise.commands (n_of (world kept held files))) answer
  is_sure answer new stops =
      laws.sure (start (call_text call.promise.entry call.given) (world kept held files))
      (value call.promise.commands (n_of (world kept held files))) MOST answer new
      (ends_with call.given is.taken).ends ready.counts stops

  pub is_left_open : (answer : Stop) (new : World)
      → Stops (start (call_text call.promise.entry call.given) (world kept held files)) MOST answer new
      → LeavesOpen answer (world kept held files).files new.files
  is_left_open answer new stops =
      laws.leave (start (call_text call.promise.entry call.given) (world kept held files))
      (value call.promise.commands (n_of (world kept held files))) MOST answer new
      (ends_with call.given is.taken).ends ready.counts stops

  pub is_typed : (answer : Stop) (new : World)
      → Stops (start (call_text call.promise.entry call.given) (world kept held files)) MOST answer new
      → TypesWithin (most_with call.promise.types (n_of (world kept held files)) (length kept.typed)) answer new
  is_typed answer new stops =
      let found = ends_with call.given is.taken in
      typed_at _ found.ends.steps found.ends.new answer new found.types
      (laws.once (start (call_text call.promise.entry call.given) (world kept held files)) found.ends.steps MOST
      found.ends.new answer new found.ends.ends (omega (arith, found.ends.few, ready.counts)) stops)

  pub is_grown : (answer : Stop) (new : World)
      → Stops (start (call_text call.promise.entry call.given) (world kept held files)) MOST answer new
      → GrowsWithin (most_with call.promise.grows (n_of (world kept held files)) (held_of (world kept held files)))
      answer new
  is_grown answer new stops =
      let found = ends_with call.given is.taken in
      grown_at _ found.ends.steps found.ends.new answer new found.at_the_end
      (laws.once (start (call_text call.promise.entry call.given) (world kept held files)) found.ends.steps MOST
      found.ends.new answer new found.ends.ends (omega (arith, found.ends.few, ready.counts)) stops)

  pub is_unnamed : (answer : Stop) (new : World)
      → Stops (start (call_text call.promise.entry call.given) (world kept held files)) MOST answer new
      → KeepsUnnamed call.promise answer (world kept held files) new
  is_unnamed answer new stops =
      let found = ends_with call.given is.taken in
      unnamed_at call.promise is.sound found.ends.steps (world kept held files) found.ends.new answer new found.framed
      (laws.once (start (call_text call.promise.entry call.given) (world kept held files)) found.ends.steps MOST
      found.ends.new answer new found.ends.ends (omega (arith, found.ends.few, ready.counts)) stops)

  pub is_changed : (answer : Stop) (new : World)
      → Stops (start (call_text call.promise.entry call.given) (world kept held files)) MOST answer new
      → ChangesByElements call.promise answer (world kept held files) new
  is_changed answer new stops =
      let found = ends_with call.given is.taken in
      changed_at call.promise is.sound found.ends.steps (world kept held files) found.ends.new answer new
      found.changed
      (laws.once (start (call_text call.promise.entry call.given) (world kept held files)) found.ends.steps MOST
      found.ends.new answer new found.ends.ends (omega (arith, found.ends.few, ready.counts)) stops)

surely : Laws → (call : PromisedCall) (kept : Kept) (held : Held) → IsCalled call kept held → (files : HostFiles)
    → AreOfBytes files → (answer : Stop) (new : World) → IsSameOutput held files
    → Stops (start (call_text call.promise.entry call.given) (world kept held files)) MOST answer new
    → Calls call answer (world kept held files) new
surely laws call kept held is files bytes answer new same stops = record {
  taken = is.taken;
  stops = stops;
  sure = λ ready. is_sure laws call kept held is files bytes same ready answer new stops;
  keeps = λ ready. is_left_open laws call kept held is files bytes same ready answer new stops;
  grows = λ ready. is_grown laws call kept held is files bytes same ready answer new stops;
  types = λ ready. is_typed laws call kept held is files bytes same ready answer new stops;
  unnamed = λ ready. is_unnamed laws call kept held is files bytes same ready answer new stops;
  changed = λ ready. is_changed laws call kept held is files bytes same ready answer new stops;
}

pub calls : Laws → (call : PromisedCall) (answer : Stop) (a b : Holdings) (f g : Telling) → IsCalled call a.kept a.held
    → Joined (λ old new. Stops (start (call_text call.promise.entry call.given) old) MOST answer new) a b f g
    → Joined (Calls call answer) a b f g
calls laws call answer a b f g is = told-whole
    (λ files left. IsSameOutput a.held files
    → Stops (start (call_text call.promise.entry call.given) (world a.kept a.held files)) MOST answer
    (world b.kept b.held left) × IsSameOutput b.held left)
    (λ files left. IsSameOutput a.held files → Calls call answer (world a.kept a.held files)
    (world b.kept b.held left) × IsSameOutput b.held left)
    (λ files left bytes behind t same. (
      surely laws call a.kept a.held is files bytes answer _ same (t same).0,
      (t same).1,
    )) f g

-- what is so of a call where the library is loaded is so of a run
pub runs : (call : PromisedCall) (answer : Stop) (a loaded b : Holdings) (f g : Telling)
    → loaded ≡ record a { kept = kept_loaded call.promise.library a.kept }
    → Joined (Calls call answer) loaded b f g → Joined (Runs call answer) a b f g
runs call answer a loaded b f g e t =
    told-map (λ files left. IsSameOutput a.held files
    → Runs call answer (world a.kept a.held files) (world b.kept b.held left) × IsSameOutput b.held left) _
    (λ files left t. t) f g
    (subst (λ l. Joined (Calls call answer) l b f g) e t)
