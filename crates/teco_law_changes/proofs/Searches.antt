-- What searches do to the text of the world.
use Rattle.std.proofs.Common.{◌≡◌, ℕ, zero, suc, List, [], ◌∷◌, refl, ap, ◌∙◌, subst, Option, Some, None}
use Rattle.std.proofs.Common.{Ok, length, ◌-◌}
use Rattle.std.specs.Prelude.{◌≢◌, IfOk, ⊤, nat_le}
use Rattle.std.specs.Option.{ok_or, option_map_or}
use Rattle.teco_base.specs.Text.{text_after_replacement}
use Rattle.teco_base.specs.declared.TheConstants.{LIMIT}
use Rattle.teco_base.specs.declared.code.Code.TheVariants as code
use Rattle.teco_changes.specs.Changes.{Changes}
use Rattle.teco_changes.specs.Elements.{sought as sought_changes, swapped}
use Rattle.teco_changes.specs.Nearby.{JustFound}
use Rattle.teco_changes.specs.Worlds.{text_of}
use Rattle.teco_changes.proofs.Elements.{no_change}
use Rattle.teco_changes.proofs.Lasts.{just_found}
use Rattle.teco_changes.proofs.Replaced.{IsFound, among, found_at, matched, replaced_text, swap}
use Rattle.teco_law_changes.proofs.Results.{given, of_ok, tested, onward, onward_any}
use Rattle.teco_law_changes.proofs.Worlds.{in_world, passing_keeps, turning_keeps}
use Rattle.teco_model.specs.Element.{Element}
use Rattle.teco_model.specs.Files.{Output}
use Rattle.teco_model.specs.Match.{first_from}
use Rattle.teco_model.specs.Paging.{Here, Looked, Met, MetHere, Through, Turned, WantedYet, here_of, look_first}
use Rattle.teco_model.specs.Paging.{look_for}
use Rattle.teco_model.specs.Paging.{look_here, looked_on, looked_through, needed_output, page_looked_for, page_turned}
use Rattle.teco_model.specs.Paging.{match_count, sought, unread, world_seeking}
use Rattle.teco_model.specs.Pattern.{Pattern}
use Rattle.teco_model.specs.Search.{Finding, Found, Missed, count_of, finding_of, kept_after, kept_at}
use Rattle.teco_model.specs.Search.{match_of, pattern_of, replacement, search, search_text_of, text_or}
use Rattle.teco_model.specs.State.{Kept, World}
use Rattle.teco_model.specs.declared.arguments.Taken.{Taken}
use Rattle.teco_model.specs.declared.kind.Search.{Search}
use Rattle.teco_model.specs.declared.kind.Search.TheVariants as search_kind
use Rattle.teco_model.specs.declared.pattern.Sought.{Sought}
use Rattle.teco_model.specs.declared.pattern.Sought.TheVariants.{Last, Wanted}
use Rattle.teco_model.specs.declared.pattern.Span.{Span}

-- the last of some matches is a match
module _ (p : Pattern) (text : List ℕ) where
  last_or : (o : Option Span) (n : ℕ) (span : Span) → ((s : Span) → o ≡ Some s → IsFound p text s)
      → option_map_or Last o (Wanted n) ≡ Last span → IsFound p text span
  last_or None n span found h = absurd cc
  last_or (Some s) n span found h = let same : s ≡ span = cc in subst (IsFound p text) same (found s refl)

  on_or : (o : Option Span) (n : ℕ) (span : Span) (on : Span → Sought)
      → ((s : Span) → on s ≡ Last span → IsFound p text span)
      → option_map_or on o (Wanted n) ≡ Last span → IsFound p text span
  on_or None n span on found h = absurd cc
  on_or (Some s) n span on found h = found s h

  pub sought_is_found : (n at : ℕ) (span : Span) → sought p text at n ≡ Last span → IsFound p text span
  sought_is_found zero at span h = absurd cc
  sought_is_found (suc zero) at span h =
      last_or (first_from p text at) 1 span (λ s is. among p text at (length text - at) s is) h
  sought_is_found (suc (suc n)) at span h =
      on_or (first_from p text at) (suc (suc n)) span (λ s. sought p text s.end (suc n))
      (λ s. sought_is_found (suc n) s.end span) h

-- what S and N found stands before the pointer
abbrev pub IsSought : Search → Element → Kept → Type 0
IsSought search_kind.Find e kept = e.text ≢ [] → JustFound e.text kept
IsSought search_kind.FindInPages e kept = e.text ≢ [] → JustFound e.text kept
IsSought x e kept = ⊤

-- what is kept where a match was found
abbrev pub Finds : Search → Element → Kept → Kept → Type 0
Finds x e old new =
    (new.form_feed ≡ old.form_feed) × Changes (sought_changes x e) old.text new.text × IsSought x e new

own_text : (text last : List ℕ) → text ≢ [] → text_or text last ≡ text
own_text [] last some = absurd (some refl)
own_text (b ∷ text) last some = refl

module _ (e : Element) (kept : Kept) (p : Pattern) (span : Span)
    (says : pattern_of (text_or e.text kept.search_text) kept ≡ Ok p) (found : IsFound p kept.text span)
  where
    abbrev Replaces : Kept → Type 0
    Replaces new =
        (new.form_feed ≡ kept.form_feed) × Changes (swapped e.text e.second) kept.text new.text × ⊤

    replaced : IfOk (replacement span e.second kept) Replaces
    replaced = given _ (replacement span e.second kept) (λ new is. (
      of_ok (λ (new : Kept). new.form_feed ≡ kept.form_feed) (replacement span e.second kept) new
          (tested (λ (new : Kept). new.form_feed ≡ kept.form_feed)
          (nat_le (length (text_after_replacement kept.text span.start span.end e.second)) LIMIT) _ code.Ful refl) is,
      swap e.second kept p span (found_at p kept.text found.at span found.here_is) new.text
          (replaced_text span e.second kept new is) e.text says,
      tt,
    ))

    sought_is : e.text ≢ [] → JustFound e.text (kept_at span kept)
    sought_is some =
        just_found e.text kept p span (found_at p kept.text found.at span found.here_is)
        (subst (λ text. pattern_of text kept ≡ Ok p) (own_text e.text kept.search_text some) says)

    pub after_is : (x : Search) → IfOk (kept_after x e span kept) (Finds x e kept)
    after_is search_kind.Find = (refl, no_change [] kept.text kept.text refl, sought_is)
    after_is search_kind.FindInPages = (refl, no_change [] kept.text kept.text refl, sought_is)
    after_is search_kind.Replace = replaced
    after_is search_kind.ReplaceInPages = replaced

-- ---- S and FS
abbrev pub FoundTold : Search → Element → Kept → Finding → Type 0
FoundTold x e kept (Found new) = Finds x e kept new
FoundTold x e kept (Missed new) = (new.form_feed ≡ kept.form_feed) × (new.text ≡ kept.text)

module _ (x : Search) (e : Element) (kept : Kept) where
  abbrev looked : Kept
  looked = record kept { search_text = search_text_of e.text kept }

  pub text_again : (text last : List ℕ) → text_or text (text_or text last) ≡ text_or text last
  text_again [] last = refl
  text_again (b ∷ text) last = refl

  by_match : (p : Pattern) (o : Option Span) → pattern_of (search_text_of e.text kept) kept ≡ Ok p
      → ((span : Span) → o ≡ Some span → IsFound p kept.text span)
      → IfOk (finding_of x e o looked) (FoundTold x e kept)
  by_match p None says finds = (refl, refl)
  by_match p (Some span) says finds =
      onward (Finds x e looked) (FoundTold x e kept) (kept_after x e span looked) (λ k. Ok (Found k))
      (after_is e looked p span (ap (λ t. pattern_of t kept) (text_again e.text kept.search_text) ∙ says)
      (finds span refl) x) (λ k is. is)

  pub search_is_told : (taken : Taken) → IfOk (search x e taken kept) (FoundTold x e kept)
  search_is_told taken =
      onward_any (FoundTold x e kept) (count_of taken.first taken.value) _ (λ n counted.
      onward_any (FoundTold x e kept) (pattern_of (search_text_of e.text kept) kept) _ (λ p says.
      by_match p (match_of p e.colons n kept.text kept.pointer) says
      (matched p kept.text e.colons n kept.pointer)))

-- ---- N and FN
abbrev HereTold : Search → Element → Kept → Here → Type 0
HereTold x e kept (MetHere new) = Finds x e kept new
HereTold x e kept (WantedYet n) = ⊤

-- a page was turned: the text is as it was, and the last search text
abbrev pub SameBut : World → World → Type 0
SameBut old new = (text_of new ≡ text_of old) × (new.kept.search_text ≡ old.kept.search_text)

abbrev pub LookTold : Search → Element → World → Looked → Type 0
LookTold x e world (Met new) = Changes (sought_changes x e) (text_of world) (text_of new) × IsSought x e new.kept
LookTold x e world (Turned n new) = SameBut world new
LookTold x e world (Through last) = (text_of last ≡ text_of world) × (text_of (looked_through last) ≡ text_of world)

module _ (x : Search) (e : Element) (world : World)
    (still : search_text_of e.text world.kept ≡ world.kept.search_text)
  where
    by_sought : (p : Pattern) (s : Sought) → pattern_of world.kept.search_text world.kept ≡ Ok p
        → ((span : Span) → s ≡ Last span → IsFound p world.kept.text span)
        → IfOk (here_of x e world.kept s) (HereTold x e world.kept)
    by_sought p (Last span) says finds =
        onward (Finds x e world.kept) (HereTold x e world.kept) (kept_after x e span world.kept) (λ k. Ok (MetHere k))
        (after_is e world.kept p span (ap (λ t. pattern_of t world.kept) still ∙ says) (finds span refl) x)
        (λ k is. is)
    by_sought p (Wanted n) says finds = tt

    here_is_told : (n : ℕ) → IfOk (look_here x e n world.kept) (HereTold x e world.kept)
    here_is_told n =
        onward_any (HereTold x e world.kept) (pattern_of world.kept.search_text world.kept) _ (λ p says.
        by_sought p (sought p world.kept.text world.kept.pointer n) says
        (sought_is_found p world.kept.text n world.kept.pointer))

    output_is : (o : Option Output) (output : Output) → ok_or o code.Nfo ≡ Ok output → o ≡ Some output
    output_is None output h = absurd cc
    output_is (Some other) output h = ap Some (let same : other ≡ output = cc in same)

    by_page : (bytes : List ℕ) (n : ℕ) (output : Output) → world.files.output ≡ Some output
        → IfOk (page_looked_for bytes n world) (LookTold x e world)
    by_page [] n output is = (refl, passing_keeps world output is)
    by_page (b ∷ bytes) n output is =
        onward (SameBut world) (LookTold x e world) (page_turned world) (λ turned. Ok (Turned n turned))
        (turning_keeps world output is) (λ turned same. same)

    on_is_told : (here : Here) → HereTold x e world.kept here → IfOk (looked_on here world) (LookTold x e world)
    on_is_told (MetHere new) told = (in_world (sought_changes x e) world new told.0 told.1, told.2)
    on_is_told (WantedYet n) told =
        onward_any (LookTold x e world) (needed_output world) (λ output. page_looked_for (unread world.files) n world)
        (λ output is. by_page (unread world.files) n output (output_is world.files.output output is))

    pub look_is_told : (n : ℕ) → IfOk (look_for x e n world) (LookTold x e world)
    look_is_told n =
        onward (HereTold x e world.kept) (LookTold x e world) (look_here x e n world.kept)
        (λ here. looked_on here world)
        (here_is_told n) on_is_told

-- the first step keeps the search text first
pub first_look_is_told : (x : Search) (e : Element) (taken : Taken) (world : World)
    → IfOk (look_first x e taken world) (LookTold x e (world_seeking e.text world))
first_look_is_told x e taken world =
    onward_any (LookTold x e (world_seeking e.text world)) (match_count taken.first taken.value)
    (λ n. look_for x e n (world_seeking e.text world)) (λ n counted.
    look_is_told x e (world_seeking e.text world) (text_again x e world.kept e.text world.kept.search_text) n)
