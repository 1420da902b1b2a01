-- Commands of pages and files worked by hand, as what their rules compute.
use Rattle.std.specs.Prelude.{ℕ, ◌≡◌, List, [], ◌∷◌, ◌++◌, codes, None, Result, Ok, Err}
use Rattle.std.specs.Option.{ok_or}
use Rattle.teco_base.specs.declared.bytes.TheConstants.{FF}
use Rattle.teco_base.specs.declared.code.Code.{Code}
use Rattle.teco_base.specs.declared.code.Code.TheVariants as code
use Rattle.teco_model.specs.Checked.{◌>>=◌}
use Rattle.teco_model.specs.Files.{File, no_files}
use Rattle.teco_model.specs.Filing.{open_input, open_output, close_output, abandon_output, copy_all, exit}
use Rattle.teco_model.specs.Paging.{yank, append, pages, page_turned, page_written}
use Rattle.teco_model.specs.State.{World, kept_of_store}

-- two pages
abbrev pub two_pages : List ℕ
two_pages = codes "ab" ++ FF ∷ codes "cd"

abbrev pub file : List ℕ → List ℕ → File
file name bytes = record { name = name; bytes = bytes }

-- nothing but the file in, of two pages
abbrev pub before : World
before = record {
  kept = kept_of_store [] 0;
  files = record no_files { named = file (codes "in") two_pages ∷ [] };
}

-- an input alone, or with an output
abbrev pub reading : Result World Code
reading = do
  opened ← open_input (codes "in") before
  ok_or opened code.Fnf

abbrev pub both_open : Result World Code
both_open = do
  world ← reading
  open_output (codes "out") world

-- a number of pages, in a step each
abbrev pub one_page : World → Result World Code
one_page world = do
  progress ← pages page_turned (record { first = None; value = None }) world
  Ok progress.world

abbrev pub one_writing : World → Result World Code
one_writing world = do
  progress ← pages page_written (record { first = None; value = None }) world
  Ok progress.world

-- what stays where all is written
abbrev pub copied : List ℕ → World
copied bytes = record {
  kept = kept_of_store [] 0;
  files = record no_files { named = file (codes "in") two_pages ∷ file (codes "out") bytes ∷ [] };
}

-- each row's outcome
pub record FileRows : Type 0 where
  -- ERin$EWout$2PEC, EC alone, and PPWEC
  pub copies : (both_open >>= one_page >>= one_page >>= copy_all) ≡ Ok (copied two_pages)
  pub copies_at_once : (both_open >>= copy_all) ≡ Ok (copied two_pages)
  pub copies_twice : (both_open >>= one_page >>= one_writing >>= copy_all)
      ≡ Ok (copied (codes "ab" ++ FF ∷ two_pages))
  -- ERin$YA
  pub joins : (do
    world ← reading >>= yank >>= append
    Ok world.kept.text) ≡ Ok (codes "abcd")
  -- codes in their order
  pub loses_nothing : (both_open >>= yank >>= yank) ≡ Err code.Yca
  pub one_output : (both_open >>= open_output (codes "b")) ≡ Err code.Ofo
  pub not_the_input : (reading >>= open_output (codes "in")) ≡ Err code.Arg
  pub not_the_output : (open_output (codes "a") before >>= open_input (codes "a")) ≡ Err code.Arg
  pub no_such_file : open_input (codes "no") before ≡ Ok None
  pub nothing_to_close : close_output (abandon_output before) ≡ Err code.Nfo
  pub nothing_to_read : yank before ≡ Err code.Nfi
  pub nothing_to_write : one_page before ≡ Err code.Nfo
  -- EK leaves the file of the name, and EX without an output leaves the input
  pub abandons : (do
    world ← both_open >>= one_page
    Ok (abandon_output world).files.named) ≡ Ok before.files.named
  pub leaves : (do
    world ← reading
    Ok (exit world)) ≡ reading
