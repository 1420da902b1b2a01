-- What the calls of an edit leave of files, and with their new texts apart.
use Rattle.std.proofs.Common.{◌≡◌, ◌≤◌, ℕ, List, [], ◌∷◌, ◌++◌, drop, length, Bool, true, false, Option, Some, None}
use Rattle.std.proofs.Common.{refl, sym, ap, subst, ◌∙◌, arith}
use Rattle.std.proofs.lemmas.Bool.Decides.{nat_tests}
use Rattle.std.proofs.lemmas.Slice.Eq.{bytes_eq-Decides}
use Rattle.std.specs.Prelude.{bytes_eq, ◌≢◌}
use Rattle.teco_in_place.proofs.Calls.{opens-file, opens-new}
use Rattle.teco_in_place.specs.InPlace.{AreInPlace, FilesAreReplaced, all_beneath, begun_by, beneath, is_new_text}
use Rattle.teco_in_place.specs.InPlace.{new_text, text_behind}
use Rattle.teco_model.specs.Files.{Output, file_named, with_file, with_written}
use Rattle.teco_hosts.proofs.Puts.{named-here, named-put}
use Rattle.teco_hosts.specs.Events.{Event, Happened, Happens, opened_input, gave, ended, opened_output, wrote, closed}
use Rattle.teco_hosts.specs.Events.{dropped, measured}
use Rattle.teco_hosts.specs.HostFiles.{HostFiles, after_closing, after_dropping, after_opening, after_writing}

-- the output, beneath and by the definition: none, or of one text
abbrev written_as : List ℕ → List ℕ → Output
written_as name text = record { name = name; written = text }

data SameOutput (output apart : Option Output) : Type 0 where
  no_output : output ≡ None → apart ≡ None → SameOutput output apart
  one_output : (name text : List ℕ) → output ≡ Some (written_as name text)
      → apart ≡ Some (written_as (new_text name) text) → SameOutput output apart

-- where some calls were made: the files beneath, and those of the definition
record Stands (replaces begun : Bool) (first files apart : HostFiles) : Type 0 where
  in_place : AreInPlace replaces first files apart
  unread : apart.unread ≡ files.unread
  output : SameOutput files.output apart.output
  fresh : begun ≡ false → (files.output ≡ None) × (files.named ≡ first.named) × (apart.named ≡ first.named)

-- a name that is one of a new text
name_of : (name : List ℕ) → is_new_text name ≡ true → name ≡ new_text (drop 1 name)
name_of [] is = absurd (cc)
name_of (byte ∷ name) is = let none : byte ≡ 0 = grind (arith, nat_tests) in ap (λ b. b ∷ name) none

-- ---- one call
module _ (replaces : Bool) (first : HostFiles) where
  abbrev Here : Bool → HostFiles → HostFiles → Type 0
  Here begun files apart = Stands replaces begun first files apart

  -- some is read of the input, or one is opened
  reading : (begun begun' : Bool) (files left apart : HostFiles) → (begun' ≡ false → begun ≡ false)
      → left ≡ record files { unread = left.unread } → Here begun files apart
      → Here begun' left (record apart { unread = left.unread })
  reading begun begun' files left apart before is s =
      subst (λ f. Here begun' f (record apart { unread = left.unread })) (sym is) (record {
        in_place = s.in_place;
        unread = refl;
        output = s.output;
        fresh = λ not_yet. s.fresh (before not_yet);
      })

  opening : (name : List ℕ) (files left apart : HostFiles) → (file_named name files.named ≡ Some left.unread)
      × (left ≡ record files { unread = left.unread }) → Here false files apart
      → (there : HostFiles) × Happens (opened_input name) apart there × Here true left there
  opening name files left apart happens s =
      let fresh = s.fresh refl in
      let found : file_named name apart.named ≡ Some left.unread = ap (file_named name) (fresh.2 ∙ sym fresh.1)
      ∙ happens.0 in (
        record apart { unread = left.unread },
        (found, refl),
        reading false true files left apart (λ e. absurd (cc)) happens.1 s,
      )

  -- a new text is opened
  beginning : (name : List ℕ) (begun : Bool) (files left apart : HostFiles) → is_new_text name ≡ true
      → left ≡ after_opening (drop 1 name) files → Here begun files apart
      → (there : HostFiles) × (there ≡ after_opening name apart) × Here true left there
  beginning name begun files left apart is happens s = (
    after_opening name apart,
    refl,
    rw happens (record {
      in_place = s.in_place;
      unread = s.unread;
      output = SameOutput.one_output (drop 1 name) [] refl (ap (λ n. Some (written_as n [])) (name_of name is));
      fresh = λ e. absurd (cc);
    }),
  )

  -- some is written
  longer : (bytes : List ℕ) (output apart : Option Output) → SameOutput output apart
      → SameOutput (with_written bytes output) (with_written bytes apart)
  longer bytes output apart (SameOutput.no_output o a) = SameOutput.no_output (rw o refl) (rw a refl)
  longer bytes output apart (SameOutput.one_output name text o a) =
      SameOutput.one_output name (text ++ bytes) (rw o refl) (rw a refl)

  writing : (bytes : List ℕ) (begun : Bool) (files left apart : HostFiles) → left ≡ after_writing bytes files
      → Here begun files apart
      → (there : HostFiles) × (there ≡ after_writing bytes apart) × Here begun left there
  writing bytes begun files left apart happens s = (
    after_writing bytes apart,
    refl,
    rw happens (record {
      in_place = s.in_place;
      unread = s.unread;
      output = longer bytes files.output apart.output s.output;
      fresh = λ not_yet. ((rw ((s.fresh not_yet).0) refl), (s.fresh not_yet).1, (s.fresh not_yet).2);
    }),
  )

  -- the output is dropped
  dropping : (begun : Bool) (files left apart : HostFiles) → left ≡ after_dropping files → Here begun files apart
      → (there : HostFiles) × (there ≡ after_dropping apart) × Here begun left there
  dropping begun files left apart happens s = (
    after_dropping apart,
    refl,
    rw happens (record {
      in_place = s.in_place;
      unread = s.unread;
      output = SameOutput.no_output refl refl;
      fresh = λ not_yet. (refl, (s.fresh not_yet).1, (s.fresh not_yet).2);
    }),
  )

-- ---- the output is closed
-- one name is another's, or not
pub same_name : (name other : List ℕ) → (P : Type 0) → (name ≡ other → P) → (name ≢ other → P) → P
same_name name other P is is_not = by (bytes_eq name other) refl where
  by : (t : Bool) → bytes_eq name other ≡ t → P
  by true e = is ((bytes_eq-Decides name other).0 e)
  by false e = is_not (λ same. absurd (let yes = (bytes_eq-Decides name other).1 same in cc))

other_text : (name other : List ℕ) → name ≢ other → new_text name ≢ new_text other
other_text name other away same = away (ap (drop 1) same)

-- it takes the place of its file
put : (first files apart : HostFiles) (name text : List ℕ) → AreInPlace true first files apart → (other : List ℕ)
    → file_named other (with_file name text files.named) ≡ text_behind true
    (file_named (new_text other) (with_file (new_text name) text apart.named)) (file_named other first.named)
put first files apart name text was other = same_name name other _
    (λ is. subst (λ o. file_named o (with_file name text files.named) ≡ text_behind true
    (file_named (new_text o) (with_file (new_text name) text apart.named)) (file_named o first.named)) is
    (named-here name text files.named
    ∙ sym (ap (λ new. text_behind true new (file_named name first.named))
    (named-here (new_text name) text apart.named))))
    (λ away. named-put name text other files.named away ∙ was other
    ∙ sym (ap (λ new. text_behind true new (file_named other first.named))
    (named-put (new_text name) text (new_text other) apart.named (other_text name other away))))

replacing : (first : HostFiles) (begun : Bool) (files left apart : HostFiles) → left ≡ after_closing files
    → Stands true begun first files apart
    → (there : HostFiles) × (there ≡ after_closing apart) × Stands true begun first left there
replacing first begun files left apart happens s = by s.output where
  by : SameOutput files.output apart.output → (there : HostFiles) × (there ≡ after_closing apart)
      × Stands true begun first left there
  by (SameOutput.no_output o a) = (
    after_closing apart,
    refl,
    rw (happens, o, a) (record {
      in_place = s.in_place;
      unread = s.unread;
      output = SameOutput.no_output refl refl;
      fresh = λ not_yet. (refl, (s.fresh not_yet).1, (s.fresh not_yet).2);
    }),
  )
  by (SameOutput.one_output name text o a) = (
    after_closing apart,
    refl,
    rw (happens, o, a) (record {
      in_place = put first files apart name text s.in_place;
      unread = s.unread;
      output = SameOutput.no_output refl refl;
      fresh = λ not_yet. let no = (s.fresh not_yet).0 in absurd (cc);
    }),
  )

-- it is only tried
trying : (first : HostFiles) (begun : Bool) (files left apart : HostFiles) → left ≡ after_dropping files
    → Stands false begun first files apart
    → (there : HostFiles) × (there ≡ after_closing apart) × Stands false begun first left there
trying first begun files left apart happens s = by s.output where
  by : SameOutput files.output apart.output → (there : HostFiles) × (there ≡ after_closing apart)
      × Stands false begun first left there
  by (SameOutput.no_output o a) = (
    after_closing apart,
    refl,
    rw (happens, a) (record {
      in_place = s.in_place;
      unread = s.unread;
      output = SameOutput.no_output refl refl;
      fresh = λ not_yet. (refl, (s.fresh not_yet).1, (s.fresh not_yet).2);
    }),
  )
  by (SameOutput.one_output name text o a) = (
    after_closing apart,
    refl,
    rw (happens, a) (record {
      in_place = s.in_place;
      unread = s.unread;
      output = SameOutput.no_output refl refl;
      fresh = λ not_yet. let no = (s.fresh not_yet).0 in absurd (cc);
    }),
  )

closing : (replaces : Bool) (first : HostFiles) (begun : Bool) (files left apart : HostFiles)
    → Happens (beneath replaces closed) files left → Stands replaces begun first files apart
    → (there : HostFiles) × (there ≡ after_closing apart) × Stands replaces begun first left there
closing true first begun files left apart happens s = replacing first begun files left apart happens s
closing false first begun files left apart happens s = trying first begun files left apart happens s

-- ---- call after call
-- what the definition leaves, and that it is so in place
abbrev Leads : Bool → HostFiles → List Event → HostFiles → HostFiles → Type 0
Leads replaces first events left apart = (there : HostFiles) × Happened events apart there
    × AreInPlace replaces first left there

behind : (replaces : Bool) (first : HostFiles) (event : Event) (events : List Event) (begun : Bool)
    (mid left apart : HostFiles)
    → (there : HostFiles) × Happens event apart there × Stands replaces begun first mid there
    → ((there : HostFiles) → Stands replaces begun first mid there → Leads replaces first events left there)
    → Leads replaces first (event ∷ events) left apart
behind replaces first event events begun mid left apart next more =
    let rest = more next.0 next.2 in
    (rest.0, (next.0, next.1, rest.1), rest.2)

edited : (replaces : Bool) (first : HostFiles) (events : List Event) (begun begun' : Bool)
    (files left apart : HostFiles) → begun_by begun events ≡ Some begun' → Stands replaces begun first files apart
    → Happened (all_beneath replaces events) files left → Leads replaces first events left apart
edited replaces first [] begun begun' files left apart one s is = (apart, refl, rw is s.in_place)
edited replaces first (opened_input name ∷ events) begun begun' files left apart one s is =
    let opens = opens-file begun name events begun' one in
    behind replaces first (opened_input name) events true is.0 left apart
    (opening replaces first name files is.0 apart is.1 (subst (λ b. Stands replaces b first files apart) opens.0 s))
    (λ there next. edited replaces first events true begun' is.0 left there opens.2 next is.2)
edited replaces first (gave bytes ∷ events) begun begun' files left apart one s is =
    behind replaces first (gave bytes) events begun is.0 left apart (
      record apart { unread = is.0.unread },
      (s.unread ∙ is.1.0, refl),
      reading replaces first begun begun files is.0 apart (λ e. e) is.1.1 s,
    )
    (λ there next. edited replaces first events begun begun' is.0 left there one next is.2)
edited replaces first (ended ∷ events) begun begun' files left apart one s is =
    behind replaces first ended events begun is.0 left apart (apart, (s.unread ∙ is.1.0, refl), rw (is.1.1) s)
    (λ there next. edited replaces first events begun begun' is.0 left there one next is.2)
edited replaces first (opened_output name ∷ events) begun begun' files left apart one s is =
    let opens = opens-new begun name events begun' one in
    behind replaces first (opened_output name) events true is.0 left apart
    (beginning replaces first name begun files is.0 apart opens.0 is.1 s)
    (λ there next. edited replaces first events true begun' is.0 left there opens.1 next is.2)
edited replaces first (wrote bytes ∷ events) begun begun' files left apart one s is =
    behind replaces first (wrote bytes) events begun is.0 left apart
    (writing replaces first bytes begun files is.0 apart is.1 s)
    (λ there next. edited replaces first events begun begun' is.0 left there one next is.2)
edited replaces first (closed ∷ events) begun begun' files left apart one s is =
    behind replaces first closed events begun is.0 left apart (closing replaces first begun files is.0 apart is.1 s)
    (λ there next. edited replaces first events begun begun' is.0 left there one next is.2)
edited replaces first (dropped ∷ events) begun begun' files left apart one s is =
    behind replaces first dropped events begun is.0 left apart (dropping replaces first begun files is.0 apart is.1 s)
    (λ there next. edited replaces first events begun begun' is.0 left there one next is.2)
edited replaces first (measured most ∷ events) begun begun' files left apart one s is =
    behind replaces first (measured most) events begun is.0 left apart (
      apart,
      (subst (λ u. length u ≤ most) (sym s.unread) is.1.0, refl),
      rw (is.1.1) s,
    )
    (λ there next. edited replaces first events begun begun' is.0 left there one next is.2)

-- where no new text was closed a file is as it was
as_it_was : (replaces : Bool) (text old : Option (List ℕ)) → text ≡ None → text_behind replaces text old ≡ old
as_it_was true text old is = rw is refl
as_it_was false text old is = refl

pub files_are_replaced : FilesAreReplaced
files_are_replaced replaces events begun files left one ready is =
    edited replaces files events false begun files left files one (record {
      in_place = λ name. sym (as_it_was replaces (file_named (new_text name) files.named) (file_named name files.named)
          (ready.free name));
      unread = refl;
      output = SameOutput.no_output ready.closed ready.closed;
      fresh = λ not_yet. (ready.closed, refl, refl);
    }) is
