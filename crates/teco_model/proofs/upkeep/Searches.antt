-- Matches are parts of the text, and searches are upheld.
use Rattle.teco_model.proofs.Prelude.{ℕ, zero, suc, ◌-◌, ◌≤◌, ◌<◌, arith, refl, ℤ, pos, negsuc, List, [], ◌∷◌, length}
use Rattle.teco_model.proofs.Prelude.{Option, Some, None, IfSome, MatchOption, Bool, nat_le, option_map_or, ⊤}
use Rattle.teco_model.proofs.Prelude.{unwrap_or, slice_get_within, nat_tests, text_after_replacement, LIMIT, Element}
use Rattle.teco_model.proofs.Prelude.{with_kept, here, HasAt, Matches, InTurn, IsMatch, IsFirstFrom, IsLastBefore}
use Rattle.teco_model.proofs.Prelude.{IsNth, IsOfBytes, Looked, Met, Turned, Through, Pattern, Finding, Found, Missed}
use Rattle.teco_model.proofs.Prelude.{World, Taken, Search, Item, Span}
use Rattle.teco_model.proofs.Coded.{Coded, Yields, either, pattern_coded, yields_then, yields_any, yields_if}
use Rattle.teco_model.proofs.Searches.{here_finds, forward_finds, backward_finds}
use Rattle.teco_model.proofs.upkeep.Edits.{Ground, Upheld, Leaves, IsPart, Part, edited, replaced, sought}
use Rattle.teco_model.proofs.upkeep.Pages.{page_count_coded, output_coded, turned}
use Rattle.teco_model.specs.Match.{forward, backward}
use Rattle.teco_model.specs.Paging as paging
use Rattle.teco_model.specs.Paging.{Here, MetHere, WantedYet}
use Rattle.teco_model.specs.Search as searching
use Rattle.teco_model.specs.declared.kind.Search.TheVariants as search_kind
use Rattle.teco_model.specs.declared.pattern.Item.TheVariants as item
use Rattle.teco_model.specs.declared.pattern.Sought.{Sought}
use Rattle.teco_model.specs.declared.pattern.Sought.TheVariants.{Last, Wanted}

-- ---- a match lies in the text
has_within : (passes : ℕ → Bool) (text : List ℕ) (at : ℕ) → HasAt passes text at → at < length text
has_within passes text at (c, e, p) = slice_get_within text at c e

item_within : (i : Item) (text : List ℕ) (start end : ℕ) → Matches i text start end → end ≤ length text
item_within (item.Is c) text start end m = omega (arith, has_within _ text start m.has, m.ends)
item_within (item.IsNot c) text start end m = omega (arith, has_within _ text start m.has, m.ends)
item_within item.Blanks text start end m =
    omega (
      arith,
      has_within _ text (end - 1) (m.each (end - 1) (omega (arith, m.some)) (omega (arith, m.some))),
      m.some,
    )

turn_within : (items : List Item) (text : List ℕ) (start end : ℕ) → start ≤ length text → InTurn items text start end
    → end ≤ length text
turn_within [] text start end w m = omega (arith, m)
turn_within (i ∷ items) text start end w (middle, m, rest) =
    turn_within items text middle end (item_within i text start middle m) rest

pub match_within : (p : Pattern) (text : List ℕ) (span : Span) → IsMatch p text span → span.end ≤ length text
match_within [] text span m = absurd m
match_within (i ∷ items) text span (middle, m, rest) =
    turn_within items text middle span.end (item_within i text span.start middle m) rest

item_on : (i : Item) (text : List ℕ) (start end : ℕ) → Matches i text start end → start ≤ end
item_on (item.Is c) text start end m = omega (arith, m.ends)
item_on (item.IsNot c) text start end m = omega (arith, m.ends)
item_on item.Blanks text start end m = omega (arith, m.some)

turn_on : (items : List Item) (text : List ℕ) (start end : ℕ) → InTurn items text start end → start ≤ end
turn_on [] text start end m = omega (arith, m)
turn_on (i ∷ items) text start end (middle, m, rest) =
    omega (arith, item_on i text start middle m, turn_on items text middle end rest)

match_part : (p : Pattern) (text : List ℕ) (span : Span) → IsMatch p text span → IsPart text span
match_part [] text span m = absurd m
match_part (i ∷ items) text span m = record {
  ordered = turn_on (i ∷ items) text span.start span.end m;
  within = match_within (i ∷ items) text span m;
}

nth_part : (p : Pattern) (text : List ℕ) (Such : ℕ → Span → Type 0) (onward : Span → ℕ)
    → ((at : ℕ) (span : Span) → Such at span → IsPart text span) → (n at : ℕ) (span : Span)
    → IsNth Such onward at n span → IsPart text span
nth_part p text Such onward h zero at span m = absurd m
nth_part p text Such onward h (suc zero) at span m = h at span m
nth_part p text Such onward h (suc (suc n)) at span (last, first, rest) =
    nth_part p text Such onward h (suc n) (onward last) span rest

found_part : {Such : Span → Type 0} (text : List ℕ) (o : Option Span)
    → MatchOption o ((span : Span) → Such span → ⊥) Such → ((span : Span) → Such span → IsPart text span)
    → IfSome o (IsPart text)
found_part text None f h = tt
found_part text (Some span) f h = h span f

forward_part : (p : Pattern) (text : List ℕ) (at n : ℕ) → IfSome (forward p text at n) (IsPart text)
forward_part p text at n = found_part text (forward p text at n) (forward_finds p text at n)
    (λ span m. nth_part p text (IsFirstFrom p text) (λ last. last.end) (λ at span f. match_part p text span f.matches) n
    at span m)

backward_part : (p : Pattern) (text : List ℕ) (at n : ℕ) → IfSome (backward p text at n) (IsPart text)
backward_part p text at n = found_part text (backward p text at n) (backward_finds p text at n)
    (λ span m. nth_part p text (IsLastBefore p text) (λ last. last.start)
    (λ at span f. match_part p text span f.matches) n at span m)

direction_part : (p : Pattern) (text : List ℕ) (at : ℕ) (n : ℤ)
    → IfSome (searching.match_in_direction p text at n) (IsPart text)
direction_part p text at (pos n) = forward_part p text at n
direction_part p text at (negsuc n) = backward_part p text at (suc n)

search_part : (p : Pattern) (colons : ℕ) (n : ℤ) (text : List ℕ) (at : ℕ)
    → IfSome (searching.match_of p colons n text at) (IsPart text)
search_part p zero n text at = direction_part p text at n
search_part p (suc zero) n text at = direction_part p text at n
search_part p (suc (suc colons)) n text at =
    found_part text (here p text at) (here_finds p text at) (λ span m. match_part p text span m.matches)

abbrev LastPart : List ℕ → Sought → Type 0
LastPart text (Last span) = IsPart text span
LastPart text (Wanted n) = ⊤

sought_part : (p : Pattern) (text : List ℕ) (n at : ℕ) → LastPart text (paging.sought p text at n)
sought_part p text zero at = tt
sought_part p text (suc zero) at = by _ (forward_part p text at 1) where
  by : (o : Option Span) → IfSome o (IsPart text) → LastPart text (option_map_or Last o (Wanted 1))
  by None h = tt
  by (Some span) h = h
sought_part p text (suc (suc n)) at = by _ (λ later. sought_part p text (suc n) later) where
  by : (o : Option Span) → ((later : ℕ) → LastPart text (paging.sought p text later (suc n)))
      → LastPart text (option_map_or (λ (span : Span). paging.sought p text span.end (suc n)) o (Wanted (suc (suc n))))
  by None h = tt
  by (Some span) h = h span.end

-- ---- what a search leaves
count_coded : (first value : Option ℤ) → Coded (searching.count_of first value)
count_coded None value = search either
count_coded (Some m) value = tt

match_count_coded : (first value : Option ℤ) → Coded (paging.match_count first value)
match_count_coded None value = page_count_coded (unwrap_or value (pos 1))
match_count_coded (Some m) value = tt

-- what a search of the buffer finds, what a look at it does, and what a step of a search in pages comes to
abbrev pub IsUpheldFinding : Ground → World → Finding → Type 0
IsUpheldFinding g world (Found kept) = Leaves g world kept
IsUpheldFinding g world (Missed kept) = Leaves g world kept

abbrev IsUpheldHere : Ground → World → Here → Type 0
IsUpheldHere g world (MetHere kept) = Leaves g world kept
IsUpheldHere g world (WantedYet n) = ⊤

abbrev pub IsUpheldLooked : Ground → Looked → Type 0
IsUpheldLooked g (Met world) = Upheld g world
IsUpheldLooked g (Turned n world) = Upheld g world
IsUpheldLooked g (Through world) = Upheld g world

module _ (g : Ground) (s : Search) (e : Element) (b : g.assumed → IsOfBytes e) where
  module _ (world : World) (u : Upheld g world) where
    met : (span : Span) → Part g world span → Leaves g world (searching.kept_at span world.kept)
    met span p = edited g world u _ refl refl (λ h w. record {
      inside = (p h).within;
      within = w.within;
      bytes = w.bytes;
      last = omega (arith, (p h).within, w.within);
    })

    replacement : (span : Span) → Part g world span
        → Yields (Leaves g world) (searching.replacement span e.second world.kept)
    replacement span p = yields_if (Leaves g world)
        (nat_le (length (text_after_replacement world.kept.text span.start span.end e.second)) LIMIT) _ _ tt
        (λ t. edited g world u _ refl refl (λ h w. replaced world.kept w span (p h) e.second (b h).second
        (grind (arith, nat_tests)) world.kept.search_text))

    kept_after : (s : Search) (span : Span) → Part g world span
        → Yields (Leaves g world) (searching.kept_after s e span world.kept)
    kept_after search_kind.Find span p = met span p
    kept_after search_kind.FindInPages span p = met span p
    kept_after search_kind.Replace span p = replacement span p
    kept_after search_kind.ReplaceInPages span p = replacement span p

    finding : (o : Option Span) → IfSome o (IsPart world.kept.text)
        → Yields (IsUpheldFinding g world) (searching.finding_of s e o world.kept)
    finding None p = u
    finding (Some span) p = yields_then (Leaves g world) (IsUpheldFinding g world)
        (searching.kept_after s e span world.kept) _ (kept_after s span (λ h. p)) (λ found k. k)

    here_left : (r : Sought) → LastPart world.kept.text r
        → Yields (IsUpheldHere g world) (paging.here_of s e world.kept r)
    here_left (Last span) p = yields_then (Leaves g world) (IsUpheldHere g world)
        (searching.kept_after s e span world.kept) _ (kept_after s span (λ h. p)) (λ met k. k)
    here_left (Wanted n) p = tt

    page_on : (bytes : List ℕ) (n : ℕ) → Yields (IsUpheldLooked g) (paging.page_looked_for bytes n world)
    page_on [] n = u
    page_on (c ∷ bytes) n = yields_then (Upheld g) (IsUpheldLooked g) (paging.page_turned world) _ (turned g world u)
        (λ t v. v)

    looked_on : (here : Here) → IsUpheldHere g world here → Yields (IsUpheldLooked g) (paging.looked_on here world)
    looked_on (MetHere kept) k = k
    looked_on (WantedYet n) k = yields_any (IsUpheldLooked g) _ _ (output_coded world) (λ output. page_on _ n)

  pub searched : (taken : Taken) (world : World) (u : Upheld g world)
      → Yields (IsUpheldFinding g world) (searching.search s e taken world.kept)
  searched taken world u =
      yields_any (IsUpheldFinding g world) (searching.count_of taken.first taken.value) _
      (count_coded taken.first taken.value)
      (λ n. yields_any (IsUpheldFinding g world)
      (searching.pattern_of (searching.search_text_of e.text world.kept) world.kept) _
      (pattern_coded world.kept.registers _ _)
      (λ p. finding (with_kept (record world.kept {
        search_text = searching.search_text_of e.text world.kept;
      }) world) (sought g world u _) (searching.match_of p e.colons n world.kept.text world.kept.pointer)
      (search_part p e.colons n world.kept.text world.kept.pointer)))

  pub looked_for : (n : ℕ) (world : World) → Upheld g world → Yields (IsUpheldLooked g) (paging.look_for s e n world)
  looked_for n world u = yields_then (IsUpheldHere g world) (IsUpheldLooked g) (paging.look_here s e n world.kept) _
      (yields_any (IsUpheldHere g world) (searching.pattern_of world.kept.search_text world.kept) _
      (pattern_coded world.kept.registers _ _)
      (λ p. here_left world u _ (sought_part p world.kept.text n world.kept.pointer)))
      (looked_on world u)

  pub first_looked : (taken : Taken) (world : World) → Upheld g world
      → Yields (IsUpheldLooked g) (paging.look_first s e taken world)
  first_looked taken world u =
      yields_any (IsUpheldLooked g) (paging.match_count taken.first taken.value) _
      (match_count_coded taken.first taken.value)
      (λ n. looked_for n (paging.world_seeking e.text world) (sought g world u _))
