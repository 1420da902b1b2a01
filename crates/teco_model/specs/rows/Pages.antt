-- Command strings of pages and files worked by hand, as what the definition of a step computes.
use Rattle.std.specs.Prelude.{ℕ, ◌≡◌, List, [], ◌∷◌, ◌++◌, codes, true, Some, None}
use Rattle.teco_base.specs.declared.bytes.TheConstants.{FF, ESC}
use Rattle.teco_base.specs.declared.code.Code.TheVariants as code
use Rattle.teco_model.specs.rows.Files.{two_pages, file, before, copied}
use Rattle.teco_model.specs.Files.{no_files}
use Rattle.teco_model.specs.rows.Sessions.{line, then}
use Rattle.teco_model.specs.Run.{run, go_on}
use Rattle.teco_model.specs.State.{World, Outcome, End, Exit, Fail, Absent, start, kept_of_store}

-- the outcome of the step after n steps, where the file in has these bytes
abbrev pub after_with : List ℕ → ℕ → List ℕ → Outcome
after_with bytes n command =
    go_on (run n (start (command ++ ESC ∷ ESC ∷ []) (record {
      kept = kept_of_store [] 0;
      files = record no_files { named = file (codes "in") bytes ∷ [] };
    })))

abbrev pub three_pages : List ℕ
three_pages = two_pages ++ FF ∷ codes "ef"

-- both files are open
abbrev pub opened : List ℕ → List ℕ
opened command = then (codes "ERin") (then (codes "EWout") command)

-- what stays where the file in was copied to the end, and this was typed
abbrev pub world_copied_to : List ℕ → List ℕ → List ℕ → World
world_copied_to bytes search_text typed = record {
  kept = record (kept_of_store [] 0) { search_text = search_text; last_length = 0; typed = typed };
  files = record no_files { named = file (codes "in") bytes ∷ file (codes "out") bytes ∷ [] };
}

-- what stays where no input is unread, and these bytes were written to the open output
abbrev pub world_read : List ℕ → List ℕ → World
world_read written search_text = record {
  kept = record (kept_of_store [] 0) { search_text = search_text };
  files = record {
    named = file (codes "in") two_pages ∷ [];
    input = Some (record { name = codes "in"; unread = [] });
    output = Some (record { name = codes "out"; written = written });
  };
}

-- each row's outcome
pub record PageRows : Type 0 where
  -- pages are copied one by one, in several steps of one element, and all at once
  pub edits : after_with two_pages 11 (opened (codes "YHTPHTEC"))
      ≡ End (world_copied_to two_pages [] (codes "abcd"))
  pub turns_two : after_with two_pages 8 (opened (codes "2PEC")) ≡ End (world_copied_to two_pages [] [])
  pub copies : after_with two_pages 5 (opened (codes "EC")) ≡ End (world_copied_to two_pages [] [])
  -- a search goes on from page to page
  pub looks_on : after_with three_pages 13 (opened (then (codes "YNe") (codes ".=HTEC")))
      ≡ End (record (world_copied_to three_pages (codes "e") (line (codes "1") ++ codes "ef")) {
        kept = record (kept_of_store [] 0) {
          search_text = codes "e";
          last_length = 1;
          typed = line (codes "1") ++ codes "ef";
        };
      })
  -- where it finds nothing all is written
  pub looks_through : after_with two_pages 4 (opened (then (codes "Nz") []))
      ≡ Fail code.Srh (world_read two_pages (codes "z"))
  pub answers : after_with two_pages 9 (opened (then (codes ":Nz") (codes "=EC")))
      ≡ End (world_copied_to two_pages (codes "z") (line (codes "0")))
  -- codes
  pub needs_output : after_with two_pages 2 (then (codes "ERin") (then (codes "Y:Nz") []))
      ≡ Fail code.Nfo (record {
        kept = record (kept_of_store (codes "ab") 0) { form_feed = true };
        files = record {
          named = file (codes "in") two_pages ∷ [];
          input = Some (record { name = codes "in"; unread = codes "cd" });
          output = None;
        };
      })
  pub no_pages : after_with two_pages 3 (opened (codes "0P")) ≡ Fail code.Arg (record {
    kept = kept_of_store [] 0;
    files = record {
      named = file (codes "in") two_pages ∷ [];
      input = Some (record { name = codes "in"; unread = two_pages });
      output = Some (record { name = codes "out"; written = [] });
    };
  })
  -- no file has the name
  pub missing : after_with two_pages 0 (then (codes "ERno") []) ≡ Absent before
  -- the session ends, without an output and with one
  pub exits : after_with two_pages 0 (codes "EX1=") ≡ Exit before
  pub exits_with_output : after_with two_pages 2 (opened (codes "EX")) ≡ Exit (copied two_pages)
