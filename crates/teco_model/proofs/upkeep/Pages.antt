-- Pages and files are upheld.
use Rattle.teco_model.proofs.Prelude.{◌≡◌, ℕ, arith, refl, ℤ, pos, zero, suc, negsuc, List, [], ◌∷◌, ◌++◌, length}
use Rattle.teco_model.proofs.Prelude.{length-append, Option, Some, None, option_map, IfSome, ok_or, Result, Ok, Err}
use Rattle.teco_model.proofs.Prelude.{Bool, true, false, cond, nat_le, ◌==◌, AllByRecursion, option_map_or, unwrap_or}
use Rattle.teco_model.proofs.Prelude.{nat_tests, LIMIT, Code, ◌>>=◌, with_kept, is_of_files, Kept, World, AreBytes}
use Rattle.teco_model.proofs.Prelude.{IsWhole}
use Rattle.std.specs.Prelude.{bytes_eq}
use Rattle.teco_base.specs.declared.bytes.TheConstants.{FF}
use Rattle.teco_base.specs.declared.code.Code.TheVariants as code
use Rattle.teco_model.proofs.Bytes.{IsByte, of_either, all_joined, range_bytes}
use Rattle.teco_model.proofs.Coded.{Coded, Yields, either, some, yields_then, yields_any}
use Rattle.teco_model.proofs.upkeep.Edits.{Ground, Upheld, Leaves, Part, edited, part_found}
use Rattle.teco_model.specs.Files.{File, Input, Output, Files, file_named, with_file, with_written, with_closed}
use Rattle.teco_model.specs.Filing as filing
use Rattle.teco_model.specs.Pages.{Page, before_form_feed, behind_form_feed, has_form_feed, first_page, written_page}
use Rattle.teco_model.specs.Paging as paging
use Rattle.teco_model.specs.Places.{range_span}
use Rattle.teco_model.specs.laws.Whole.{AreWholeFiles, IsWholeWorld}

-- ---- bytes of pages
before_bytes : (bytes : List ℕ) → AreBytes bytes → AreBytes (before_form_feed bytes)
before_bytes [] h = tt
before_bytes (b ∷ bytes) h = of_either AreBytes (b == FF) [] (b ∷ before_form_feed bytes) tt (
  h.0,
  before_bytes bytes h.1,
)

behind_bytes : (bytes : List ℕ) → AreBytes bytes → AreBytes (behind_form_feed bytes)
behind_bytes [] h = tt
behind_bytes (b ∷ bytes) h = of_either AreBytes (b == FF) bytes (behind_form_feed bytes) h.1 (behind_bytes bytes h.1)

page_bytes : (page : Page) → AreBytes page.text → AreBytes (written_page page)
page_bytes page h = all_joined IsByte page.text (cond page.ff (FF ∷ []) []) h
    (of_either AreBytes page.ff (FF ∷ []) [] (omega arith, tt) tt)

-- ---- bytes of files
unread_bytes : (files : Files) → AreWholeFiles files → AreBytes (paging.unread files)
unread_bytes files h = by files.input h.input where
  by : (o : Option Input) → IfSome o (λ (input : Input). AreBytes input.unread)
      → AreBytes (option_map_or (λ (input : Input). input.unread) o [])
  by None i = tt
  by (Some input) i = i

behind_page : (files : Files) → AreWholeFiles files → AreWholeFiles (paging.files_behind_page files)
behind_page files h = record { named = h.named; input = by files.input h.input; output = h.output } where
  by : (o : Option Input) → IfSome o (λ (input : Input). AreBytes input.unread)
      → IfSome (option_map (λ (input : Input). record input { unread = behind_form_feed input.unread }) o)
      (λ (input : Input). AreBytes input.unread)
  by None i = tt
  by (Some input) i = behind_bytes input.unread i

written_whole : (bytes : List ℕ) (o : Option Output) → AreBytes bytes
    → IfSome o (λ (output : Output). AreBytes output.written)
    → IfSome (with_written bytes o) (λ (output : Output). AreBytes output.written)
written_whole bytes None h i = tt
written_whole bytes (Some output) h i = all_joined IsByte output.written bytes i h

file_put : (name bytes : List ℕ) (named : List File) → AreBytes bytes
    → AllByRecursion (λ (file : File). AreBytes file.bytes) named
    → AllByRecursion (λ (file : File). AreBytes file.bytes) (with_file name bytes named)
file_put name bytes [] h i = (h, tt)
file_put name bytes (file ∷ files) h i =
    of_either (AllByRecursion (λ (file : File). AreBytes file.bytes)) (bytes_eq file.name name)
    (record { name = name; bytes = bytes } ∷ files) (file ∷ with_file name bytes files) (h, i.1) (
      i.0,
      file_put name bytes files h i.1,
    )

named_bytes : (name : List ℕ) (named : List File) → AllByRecursion (λ (file : File). AreBytes file.bytes) named
    → IfSome (file_named name named) AreBytes
named_bytes name [] h = tt
named_bytes name (file ∷ files) h = of_either (λ o. IfSome o AreBytes) (bytes_eq file.name name) (Some file.bytes)
    (file_named name files) h.0 (named_bytes name files h.1)

closed_whole : (files : Files) → AreWholeFiles files → AreWholeFiles (filing.files_closed files)
closed_whole files h = record { named = by files.output h.output; input = h.input; output = tt } where
  by : (o : Option Output) → IfSome o (λ (output : Output). AreBytes output.written)
      → AllByRecursion (λ (file : File). AreBytes file.bytes) (with_closed o files.named)
  by None i = h.named
  by (Some output) i = file_put output.name output.written files.named i h.named

wrote_whole : (world : World) → IsWholeWorld world → (bytes : List ℕ) → AreBytes bytes
    → IsWholeWorld (paging.world_after_writing bytes world)
wrote_whole world w bytes b = record {
  kept = w.kept;
  files = record {
    named = w.files.named;
    input = w.files.input;
    output = written_whole bytes world.files.output b w.files.output;
  };
}

buffer_bytes : (world : World) → IsWholeWorld world → AreBytes (written_page (paging.page_of_buffer world.kept))
buffer_bytes world w = page_bytes (paging.page_of_buffer world.kept) w.kept.bytes

emptied_whole : (kept : Kept) → IsWhole kept → IsWhole (paging.kept_with_page (first_page []) kept)
emptied_whole kept w = record {
  inside = omega arith;
  within = omega arith;
  bytes = tt;
  count = w.count;
  pairs = w.pairs;
  stack = w.stack;
  last = w.last;
  mode = w.mode;
}

copied_whole : (world : World) → IsWholeWorld world → IsWholeWorld (filing.world_copied world)
copied_whole world w =
    let v = wrote_whole world w (written_page (paging.page_of_buffer world.kept) ++ paging.unread world.files)
    (all_joined IsByte _ (paging.unread world.files) (buffer_bytes world w) (unread_bytes world.files w.files)) in
    let c = closed_whole _ v.files in
    record {
      kept = emptied_whole world.kept w.kept;
      files = record { named = c.named; input = tt; output = c.output };
    }

-- ---- codes
nothing_lost_coded : (text : List ℕ) (output : Option Output) → Coded (paging.nothing_lost text output)
nothing_lost_coded [] output = tt
nothing_lost_coded (c ∷ text) None = tt
nothing_lost_coded (c ∷ text) (Some output) = tt

pub page_count_coded : (n : ℤ) → Coded (paging.page_count n)
page_count_coded (pos zero) = tt
page_count_coded (pos (suc n)) = tt
page_count_coded (negsuc n) = tt

name_apart_coded : (other : Option (List ℕ)) (name : List ℕ) → Coded (filing.name_apart_from other name)
name_apart_coded other [] = tt
name_apart_coded None (c ∷ name) = tt
name_apart_coded (Some other) (c ∷ name) = search either

no_output_coded : (output : Option Output) → Coded (filing.no_output output)
no_output_coded None = tt
no_output_coded (Some output) = tt

pub output_coded : (world : World) → Coded (paging.needed_output world)
output_coded world = some world.files.output code.Nfo tt

-- ---- what is read and written
-- what pages and files come to
abbrev pub Works : Ground → Result World Code → Type 0
Works g r = Yields (Upheld g) r

-- a step of a long command
abbrev pub IsProgress : Ground → paging.Progress → Type 0
IsProgress g p = Upheld g p.world

module _ (g : Ground) (world : World) (u : Upheld g world) where
  wrote : (bytes : List ℕ) → (g.assumed → AreBytes bytes) → Upheld g (paging.world_after_writing bytes world)
  wrote bytes b = record {
    whole = λ h. wrote_whole world (u.whole h) bytes (b h);
    kept = g.upkeep.written world bytes u.kept;
  }

  read_on : Upheld g (record world { files = paging.files_behind_page world.files })
  read_on = record {
    whole = λ h. record { kept = (u.whole h).kept; files = behind_page world.files (u.whole h).files };
    kept = g.upkeep.read world u.kept;
  }

  filed : is_of_files g.kind ≡ true → (new : World) → new.kept.registers ≡ world.kept.registers
      → new.kept.mode ≡ world.kept.mode → (IsWholeWorld world → IsWholeWorld new) → Upheld g new
  filed is new r m w = record {
    whole = λ h. w (u.whole h);
    kept = g.upkeep.filed world new is r m u.kept;
  }

  -- Y and A
  taken_if : (b : Bool) → nat_le (length (before_form_feed (paging.unread world.files))) LIMIT ≡ b
      → Yields (Leaves g world) (cond b (Ok (before_form_feed (paging.unread world.files))) (Err code.Ful) >>= λ text.
      Ok (paging.kept_with_page (first_page (paging.unread world.files)) world.kept))
  taken_if true e = edited g world u _ refl refl (λ h w. record {
    inside = omega arith;
    within = grind (arith, nat_tests);
    bytes = before_bytes (paging.unread world.files) (unread_bytes world.files (u.whole h).files);
    last = w.last;
  })
  taken_if false e = tt

  added_if : (c : ℕ) (bytes : List ℕ) → (g.assumed → AreBytes (c ∷ bytes)) → (b : Bool)
      → nat_le (length (world.kept.text ++ before_form_feed (c ∷ bytes))) LIMIT ≡ b
      → Yields (Leaves g world) (cond b (Ok (world.kept.text ++ before_form_feed (c ∷ bytes))) (Err code.Ful)
      >>= λ text. Ok (record world.kept {
        text = world.kept.text ++ before_form_feed (c ∷ bytes);
        form_feed = has_form_feed (c ∷ bytes);
      }))
  added_if c bytes b true e = edited g world u _ refl refl (λ h w. record {
    inside = omega (arith, length-append world.kept.text (before_form_feed (c ∷ bytes)), w.inside);
    within = grind (arith, nat_tests);
    bytes = all_joined IsByte world.kept.text (before_form_feed (c ∷ bytes)) w.bytes (before_bytes (c ∷ bytes) (b h));
    last = w.last;
  })
  added_if c bytes b false e = tt

module _ (g : Ground) (world : World) (u : Upheld g world) where
  next_page : Works g (paging.world_with_next_page world)
  next_page = yields_then (Leaves g world) (Upheld g)
      (paging.page_taken (first_page (paging.unread world.files)) world.kept) _ (taken_if g world u _ refl)
      (λ kept k. read_on g (with_kept kept world) k)

  pub yanked : Works g (paging.yank world)
  yanked = yields_any (Upheld g) (ok_or world.files.input code.Nfi) _ (some world.files.input code.Nfi tt)
      (λ input. yields_any (Upheld g) _ _ (nothing_lost_coded world.kept.text world.files.output) (λ saved. next_page))

  appended : (bytes : List ℕ) → (g.assumed → AreBytes bytes) → Works g (paging.appended bytes world)
  appended [] b = u
  appended (c ∷ bytes) b = yields_then (Leaves g world) (Upheld g)
      (paging.page_added (first_page (c ∷ bytes)) world.kept) _ (added_if g world u c bytes b _ refl)
      (λ kept k. read_on g (with_kept kept world) k)

  pub append_works : Works g (paging.append world)
  append_works = by world.files.input (λ h. (u.whole h).files.input) where
    by : (o : Option Input) → (g.assumed → IfSome o (λ (input : Input). AreBytes input.unread))
        → Works g (ok_or o code.Nfi >>= λ input. paging.appended input.unread world)
    by None b = tt
    by (Some input) b = appended input.unread b

  -- P and PW, and N and FN where no page is left
  pub turned : Works g (paging.page_turned world)
  turned = yields_then (Upheld g) (Upheld g) (paging.world_with_next_page world) _ next_page
      (λ t v. wrote g t v _ (λ h. buffer_bytes world (u.whole h)))

  pub paged : Works g (paging.page_written world)
  paged = wrote g world u _
      (λ h. all_joined IsByte world.kept.text (FF ∷ []) (u.whole h).kept.bytes (omega arith, tt))

  pub through : Upheld g (paging.looked_through world)
  through = edited g _ (wrote g world u _ (λ h. buffer_bytes world (u.whole h))) _ refl refl
      (λ h w. record { inside = omega arith; within = omega arith; bytes = tt; last = w.last })

  pub one_page : (page : World → Result World Code) → Works g (page world) → (n : ℕ)
      → Yields (IsProgress g) (paging.one_page_of page n world)
  one_page page p n = yields_any (IsProgress g) _ _ (output_coded world)
      (λ output. yields_then (Upheld g) (IsProgress g) (page world) _ p (λ done d. d))

  part_wrote : (m n : ℤ) → Yields (IsProgress g) (paging.range_done m n world)
  part_wrote m n = yields_then (Upheld g) (IsProgress g) (paging.range_written m n world) _
      (yields_then (λ text. g.assumed → AreBytes text) (Upheld g) _ _
      (yields_then (Part g world) (λ text. g.assumed → AreBytes text) (range_span world.kept.text m n) _
      (part_found g world u (Some m) (Some n))
      (λ part p h. range_bytes world.kept.text part.start part.end (u.whole h).kept.bytes))
      (λ text b. wrote g world u text b)) (λ done d. d)

  pub pages_work : (page : World → Result World Code) → Works g (page world) → (first value : Option ℤ)
      → Yields (IsProgress g) (paging.pages_of page first value world)
  pages_work page p (Some m) (Some n) = part_wrote m n
  pages_work page p None value = yields_any (IsProgress g) _ _
      (page_count_coded (unwrap_or value (pos 1))) (one_page page p)
  pages_work page p (Some m) None =
      yields_any (IsProgress g) (paging.page_count (pos 1)) _ tt (one_page page p)

  -- ---- ER, EW, EF, EK, EC and EX
  module _ (is : is_of_files g.kind ≡ true) where
    pub opened : (name : List ℕ) → Yields (λ o. IfSome o (Upheld g)) (filing.open_input name world)
    opened name = yields_any (λ o. IfSome o (Upheld g)) _ _ (name_apart_coded _ name)
        (λ apart. by_name _ (λ h. named_bytes name world.files.named (u.whole h).files.named)) where
          by_name : (o : Option (List ℕ)) → (g.assumed → IfSome o AreBytes)
              → IfSome (option_map (filing.with_input name world) o) (Upheld g)
          by_name None b = tt
          by_name (Some bytes) b = record {
            whole = λ h. let w = u.whole h in record {
              kept = w.kept;
              files = record { named = w.files.named; input = b h; output = w.files.output };
            };
            kept = g.upkeep.filed world _ is refl refl u.kept;
          }

    pub opened_output : (name : List ℕ) → Works g (filing.open_output name world)
    opened_output name = yields_any (Upheld g) _ _ (no_output_coded world.files.output)
        (λ alone. yields_any (Upheld g) _ _ (name_apart_coded _ name)
        (λ apart. filed g world u is _ refl refl (λ w. record {
          kept = w.kept;
          files = record { named = w.files.named; input = w.files.input; output = tt };
        })))

    pub output_closed : Works g (filing.close_output world)
    output_closed = yields_any (Upheld g) _ _ (output_coded world) (λ output. filed g world u is _ refl refl
        (λ w. record { kept = w.kept; files = closed_whole world.files w.files }))

    pub abandoned : Upheld g (filing.abandon_output world)
    abandoned = filed g world u is _ refl refl (λ w. record {
      kept = w.kept;
      files = record { named = w.files.named; input = w.files.input; output = tt };
    })

    copied_world : Upheld g (filing.world_copied world)
    copied_world = filed g world u is _ refl refl (copied_whole world)

    pub copied : Works g (filing.copy_all world)
    copied = yields_any (Upheld g) _ _ (output_coded world) (λ output. copied_world)

    pub exited : Upheld g (filing.exit world)
    exited = by world.files.output where
      by : (o : Option Output) → Upheld g (filing.exit_from o world)
      by None = u
      by (Some output) = copied_world
