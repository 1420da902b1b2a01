-- Pages that are written, by what the host did.
use Rattle.teco_filing.proofs.Prelude.{rules, ◌≡◌, ℕ, List, ◌++◌, Option, Some, None, refl, sym, ap, subst, ◌∙◌, IsSome}
use Rattle.teco_filing.proofs.Prelude.{Updates, Output, with_written, Page, written_page, page_of_buffer, unread, Kept}
use Rattle.teco_filing.proofs.Prelude.{told-on, told-same, Held, IsSameOutput, files_of, unread_bytes, HostFiles}
use Rattle.teco_filing.proofs.Prelude.{Telling, Told, after_writing, Fault, writing, halt_cause, halt_of, world}
use Rattle.std.proofs.Common.{◌≤◌, length, true, nat_le, inl}
use Rattle.std.specs.Prelude.{Result, Ok, Err, IfSome, option_map}
use Rattle.teco_base.specs.declared.TheConstants.{LIMIT}
use Rattle.teco_base.specs.declared.code.Code as base
use Rattle.teco_base.specs.Does.{IsDoneOrFull}
use Rattle.teco_model.specs.Files.{Files, Input}
use Rattle.teco_model.specs.Pages.{behind_first_page, first_page}
use Rattle.teco_model.specs.Paging.{files_behind_page, kept_with_page, looked_through, page_turned}
use Rattle.teco_model.specs.Paging.{world_after_writing, world_seeking}
use Rattle.teco_model.specs.Search.{search_text_of}
use Rattle.teco_model.specs.State.{World}
use Rattle.teco_model.specs.declared.stop.HostFault.TheVariants as host_fault
use Rattle.teco_hosts.proofs.Told.{same-files, told-map}
use Rattle.teco_hosts.specs.Held.{behind_held, input_of, written_if_any}
use Rattle.teco_hosts.specs.PageCalls.{MakesReady}
use Rattle.teco_hosts.specs.declared.fault.Fault.TheVariants as fault
use Rattle.teco_filing.specs.Failures.{turning}
use Rattle.teco_filing.specs.Worlds.{PutsOut, Together, with_typed}
use Rattle.teco_filing.specs.declared.halt.Halt.{Halt}
use Rattle.teco_filing.specs.declared.halt.Halt.TheVariants.{Code, Memory, Host}
use Rattle.teco_editor.specs.Turning.{GoesOut}

-- ---- some bytes are written
abbrev Written : Kept → Held → (World → Result World base.Code) → Result (Unit {0}) Halt → HostFiles → HostFiles
    → Type 0
Written kept held defined r files left =
    IsSameOutput held files → Updates halt_cause writing (world kept held files) (world kept held left)
    (defined (world kept held files)) r
    × IsSameOutput held left

-- whatever command defines them
module _ (kept : Kept) (held : Held) (defined : World → Result World base.Code) (bytes : List ℕ)
    (done : (files : HostFiles) → defined (world kept held files) ≡ Ok
    (world_after_writing bytes (world kept held files))) where
  pub is-written : (r : Result (Unit {0}) Halt) (x y : Telling) (f g : ℕ) → PutsOut bytes r x y f g
      → Together (λ old new. Updates halt_cause writing old new (defined old) r) kept held kept held x y
  is-written (Ok u) x y f g p = told-map (λ files left. left ≡ after_writing bytes files)
      (Written kept held defined (Ok u)) (λ files left written. rw (done files) (search rules)) x y p.0
  is-written (Err (Code c)) x y f g p = absurd p
  is-written (Err Memory) x y f g p = absurd p
  is-written (Err (Host host_fault.NoFile)) x y f g p = absurd p
  is-written (Err (Host host_fault.In)) x y f g p = absurd p
  is-written (Err (Host host_fault.Out)) x y f g p =
      told-map (λ files left. left ≡ after_writing (p.0).front files)
      (Written kept held defined (Err (Host host_fault.Out))) (λ files left written. rw (done files) (search rules)) x y
      (p.0).written

-- ---- no input is unread
abbrev Looks : Kept → Held → List ℕ → List ℕ → Result (Unit {0}) Halt → HostFiles → HostFiles → Type 0
Looks kept held text message r files left =
    IsSameOutput held files → Updates halt_cause turning (world kept held files) (world kept held left)
    (Ok (with_typed message (looked_through (world_seeking text (world kept held files))))) r
    × IsSameOutput held left

-- it is not written
pub look-stopped : (kept : Kept) (held : Held) (text message : List ℕ) (e : Fault) (x y : Telling) (f g : ℕ)
    → GoesOut (written_page (page_of_buffer kept)) (Err e) x y f g
    → Told (Looks kept held text message (Err (halt_of e))) x y
look-stopped kept held text message fault.NoFile x y f g w = absurd w
look-stopped kept held text message fault.In x y f g w = absurd w
look-stopped kept held text message fault.Full x y f g w = absurd w
look-stopped kept held text message fault.Memory x y f g w =
    subst (λ t. Told (Looks kept held text message (Err Memory)) x t) (sym w.0)
    (told-same (Looks kept held text message (Err Memory)) (λ files same. ((inl refl, refl), same)) x)
look-stopped kept held text message fault.Out x y f g w =
    told-map (λ files left. left ≡ after_writing (w.0).front files)
    (Looks kept held text message (Err (Host host_fault.Out))) (λ files left written. search rules) x y
    (w.0).written

-- ---- a page is turned
abbrev Turn : Kept → Held → Kept → Held → List ℕ → Result (Unit {0}) Halt → HostFiles → HostFiles → Type 0
Turn kept held kept' held' text r files left =
    IsSameOutput held files → Updates halt_cause turning (world kept held files) (world kept' held' left)
    (page_turned (world_seeking text (world kept held files))) r × IsSameOutput held' left

abbrev beside : Files → Kept → World
beside files kept = record { kept = kept; files = files }

-- what writing leaves open
still_named : (bytes : List ℕ) (output : Option Output)
    → option_map (λ (o : Output). o.name) (with_written bytes output) ≡ option_map (λ (o : Output). o.name) output
still_named bytes None = refl
still_named bytes (Some output) = refl

-- behind some reads and a write
module _ (kept : Kept) (held held' : Held) (files mid left : HostFiles) (bytes : List ℕ)
    (input : held'.input ≡ held.input) (output : held'.output ≡ held.output)
    (made : MakesReady (Ok tt) held held' files mid) (wrote : left ≡ after_writing bytes mid) where
  kept_files : files_of held' mid ≡ files_of held files
  kept_files = same-files held held' files mid input made.unread made.only

  kept_output : mid.output ≡ files.output
  kept_output = ap (λ (k : HostFiles). k.output) made.only

  -- what stays, with the bytes in its output
  wrote_beside : world kept held' left ≡ world_after_writing bytes (world kept held files)
  wrote_beside =
      ap (λ (k : HostFiles). world kept held' k) wrote
      ∙ ap (λ (fs : Files). beside (record fs { output = with_written bytes fs.output }) kept) kept_files

  same_output : IsSameOutput held files → IsSameOutput held' left
  same_output same =
      output ∙ same ∙ ap (option_map (λ (o : Output). o.name)) (sym kept_output) ∙ sym (still_named bytes mid.output)
      ∙ ap (λ (k : HostFiles). option_map (λ (o : Output). o.name) k.output) (sym wrote)

-- what the definition does with a page that fits
page_fits : (kept : Kept) (text : List ℕ) (files : Files) → length (first_page (unread files)).text ≤ LIMIT
    → page_turned (world_seeking text (record { kept = kept; files = files })) ≡ Ok
    (world_after_writing (written_page (page_of_buffer kept))
    (beside (files_behind_page files)
    (kept_with_page (first_page (unread files)) (record kept { search_text = search_text_of text kept }))))
page_fits kept text files short =
    let fits : nat_le (length (first_page (unread files)).text) LIMIT ≡ true = search rules in
    rw fits refl

-- of the input that is open
input_unread : (held : Held) (files : HostFiles) (input : Option (List ℕ)) → input ≡ held.input → IsSome input
    → unread (files_of held files) ≡ unread_bytes held files
input_unread held files None is some = cc
input_unread held files (Some name) is some = rw (← is) refl

-- the two are one where they are had
some_is : (a b : Page) → Path (Option Page) (Some a) (Some b) → a ≡ b
some_is a b e = cc

-- it is read on
behind_input : (name : Option (List ℕ)) (bytes : List ℕ)
    → option_map (λ n. record { name = n; unread = behind_first_page bytes }) name ≡ option_map
    (λ (i : Input). record i { unread = behind_first_page i.unread })
    (option_map (λ n. record { name = n; unread = bytes }) name)
behind_input None bytes = refl
behind_input (Some n) bytes = refl

-- what a page that was made ready comes to
module _ (kept : Kept) (held held' : Held) (text : List ℕ) (input : held'.input ≡ held.input)
    (output : held'.output ≡ held.output)
    (opened : IsSome held.input) (limit : IfSome held'.ready (λ (page : Page). length page.text ≤ LIMIT)) where
  abbrev first : HostFiles → Page
  first files = first_page (unread (files_of held files))

  ready_is : (files mid : HostFiles) → MakesReady (Ok tt) held held' files mid → held'.ready ≡ Some (first files)
  ready_is files mid made = made.page
      ∙ ap (λ u. Some (first_page u)) (sym (input_unread held files held.input refl opened))

  turned_is : (files mid : HostFiles) → MakesReady (Ok tt) held held' files mid
      → page_turned (world_seeking text (world kept held files)) ≡ Ok
      (world_after_writing (written_page (page_of_buffer kept))
      (beside (files_behind_page (files_of held files))
      (kept_with_page (first files) (record kept { search_text = search_text_of text kept }))))
  turned_is files mid made = page_fits kept text (files_of held files)
      (subst (λ r. IfSome r (λ (page : Page). length page.text ≤ LIMIT)) (ready_is files mid made) limit)

  -- it is not written
  pub turn-stopped : (e : Fault) (x y z : Telling) (f g : ℕ) → Told (MakesReady (Ok tt) held held') x y
      → GoesOut (written_page (page_of_buffer kept)) (Err e) y z f g
      → Told (Turn kept held kept held' text (Err (halt_of e))) x z
  turn-stopped fault.NoFile x y z f g r w = absurd w
  turn-stopped fault.In x y z f g r w = absurd w
  turn-stopped fault.Full x y z f g r w = absurd w
  turn-stopped fault.Memory x y z f g r w =
      subst (λ t. Told (Turn kept held kept held' text (Err Memory)) x t) (sym w.0)
      (told-map (MakesReady (Ok tt) held held') (Turn kept held kept held' text (Err Memory)) (λ files left made same.
      let done : IsDoneOrFull (page_turned (world_seeking text (world kept held files))) =
      rw (turned_is files left made) (inl refl) in (
        (done, ap (λ fs. beside fs kept) (same-files held held' files left input made.unread made.only)),
        output ∙ same ∙ ap (λ (k : HostFiles). option_map (λ (o : Output). o.name) k.output) (sym made.only),
      )) x y r)
  turn-stopped fault.Out x y z f g r w =
      told-on (MakesReady (Ok tt) held held') (λ mid left. left ≡ after_writing (w.0).front mid)
      (Turn kept held kept held' text (Err (Host host_fault.Out))) (λ files mid left made wrote same. (
        record {
          after = world_after_writing (written_page (page_of_buffer kept))
              (beside (files_behind_page (files_of held files))
              (kept_with_page (first files) (record kept { search_text = search_text_of text kept })));
          done = turned_is files mid made;
          part = record {
            front = (w.0).front;
            rest = (w.0).left;
            whole = ap (λ b. with_written b files.output) (w.0).whole;
            part = wrote_beside kept held held' files mid left (w.0).front input output made wrote;
          };
        },
        same_output kept held held' files mid left (w.0).front input output made wrote same,
      )) x y z r (w.0).written

  -- it is written, and takes the place of the buffer
  pub turned : (held'' : Held) (page : Page) (x y z : Telling) → held'.ready ≡ Some page → held''.input ≡ held'.input
      → held''.output ≡ held'.output →
      ((files : HostFiles) → unread_bytes held'' files ≡ behind_first_page (unread_bytes held' files))
      → Told (MakesReady (Ok tt) held held') x y
      → Told (λ mid left. left ≡ after_writing (written_page (page_of_buffer kept)) mid) y z
      → Told (Turn kept held (kept_with_page page (record kept { search_text = search_text_of text kept })) held'' text
      (Ok tt)) x z
  turned held'' page x y z ready input'' output'' behind r w =
      told-on (MakesReady (Ok tt) held held')
      (λ mid left. left ≡ after_writing (written_page (page_of_buffer kept)) mid)
      (Turn kept held (kept_with_page page (record kept { search_text = search_text_of text kept })) held'' text
      (Ok tt)) (λ files mid left made wrote same.
      let bytes = written_page (page_of_buffer kept) in
      let left_unread : left.unread ≡ mid.unread = ap (λ (k : HostFiles). k.unread) wrote in
      let rest : unread_bytes held'' left ≡ behind_first_page (unread_bytes held files) =
      behind left ∙ ap (λ u. behind_first_page ((written_if_any held'.ready ++ held'.ahead) ++ behind_held held'.end u))
      left_unread ∙ ap behind_first_page made.unread in
      let read : input_of held'' left ≡ option_map (λ (i : Input). record i { unread = behind_first_page i.unread })
      (input_of held files) =
      ap (λ n. option_map (λ name. record { name = name; unread = unread_bytes held'' left }) n) (input'' ∙ input)
      ∙ ap (λ u. option_map (λ name. record { name = name; unread = u }) held.input) rest
      ∙ behind_input held.input (unread_bytes held files) in
      let all : files_of held'' left ≡ record (files_behind_page (files_of held files))
      { output = with_written bytes files.output } =
      ap (λ i. record { named = left.named; input = i; output = left.output }) read
      ∙ ap (λ (k : HostFiles). record {
        named = k.named;
        input = option_map (λ (i : Input). record i { unread = behind_first_page i.unread }) (input_of held files);
        output = k.output;
      }) (wrote ∙ ap (after_writing bytes) made.only) in (
        turned_is files mid made
            ∙ ap (λ p.
            Ok (world_after_writing bytes (beside (files_behind_page (files_of held files))
            (kept_with_page p (record kept { search_text = search_text_of text kept })))))
            (some_is (first files) page (sym (ready_is files mid made) ∙ ready))
            ∙ ap (λ fs. Ok (beside fs (kept_with_page page (record kept { search_text = search_text_of text kept }))))
            (sym all),
        output'' ∙ same_output kept held held' files mid left bytes input output made wrote same,
      )) x y z r w
