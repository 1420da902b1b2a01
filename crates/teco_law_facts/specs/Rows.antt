-- What is known along texts, worked by hand.
use Rattle.std.specs.Prelude.{◌≡◌, ℕ, zero, suc, ℤ, pos, List, [], ◌∷◌, ◌++◌, codes, replicate, Bool, true, false}
use Rattle.std.specs.Prelude.{Some, None, Result, Ok, Err, Option}
use Rattle.teco_poly.specs.declared.coefficients.TheConstants.{COEFFICIENTS}
use Rattle.teco_base.specs.declared.TheConstants.{REGISTERS}
use Rattle.teco_base.specs.declared.bytes.TheConstants.{ESC}
use Rattle.teco_model.specs.Element.{Element, element_at}
use Rattle.teco_model.specs.State.{frame_of}
use Rattle.teco_model.specs.Searching.{has_colon}
use Rattle.teco_poly.specs.Polynomial.{Polynomial, variable, first}
use Rattle.teco_poly.specs.Text.{text}
use Rattle.teco_verifier.specs.facts.Attempt.{◌>>=◌}
use Rattle.teco_verifier.specs.facts.Bodies.{Choice, Changes, body_start, stands}
use Rattle.teco_verifier.specs.facts.Facts.{Iteration, Facts, entry_facts}
use Rattle.teco_verifier.specs.facts.Flows.{Edges, turns}
use Rattle.teco_verifier.specs.facts.Transfer.{Placed, transfer}
use Rattle.teco_verifier.specs.declared.refusal.RefusalReason.{RefusalReason}
use Rattle.teco_verifier.specs.declared.refusal.RefusalReason.TheVariants as refusal
use Rattle.teco_verifier.specs.declared.values.Distances.{Distances}

-- an element of a text that is one of the library's, and whose register is A
abbrev pub is_inside : List Iteration → Bool
is_inside [] = false
is_inside (i ∷ outer) = true

abbrev pub placed : Bool → List ℕ → List Iteration → Element → Placed
placed library text iterations e = record {
  element = e;
  library = library;
  inside = is_inside iterations;
  colon = has_colon e (frame_of text);
  leaves = 0;
}

-- the facts behind so many elements of a text from a place on, along the edges that go on
abbrev pub on_edge : Edges → Result Facts RefusalReason
on_edge edges = elim edges.on [ None ↦ Err refusal.Partner | Some facts ↦ Ok facts ]

abbrev pub behind : ℕ → Bool → List ℕ → ℕ → Facts → Result Facts RefusalReason
behind zero library text at facts = Ok facts
behind (suc n) library text at facts = elim (element_at text at) [
  | Err c ↦ Err refusal.Fault
  | Ok read ↦ elim read [
    | None ↦ Err refusal.Fault
    | Some e ↦ do
      edges ← transfer (placed library text facts.iterations e) facts
      facts ← on_edge edges
      behind n library text e.next facts
  ]
]

-- what a reader looks at
pub record Shown : Type 0 where
  pub distances : Distances
  pub falls : List (Option ℤ)
  pub held : List ℕ
  pub ahead : List ℕ

abbrev pub shown : Result Facts RefusalReason → Result Shown RefusalReason
shown found = do
  facts ← found
  Ok (record {
    distances = facts.position.distances;
    falls = facts.position.falls;
    held = text facts.held;
    ahead = text facts.position.ahead;
  })

-- from the entry of a text that is not written to
abbrev pub from_entry : ℕ → List ℕ → Result Facts RefusalReason
from_entry n commands = behind n false commands 0 entry_facts

-- a body that changes nothing
abbrev pub unchanged : Changes
unchanged = record { written = []; ends = false }

-- the end of a body whose < is the element with so many before it, and whose first element is at a place
abbrev pub start_of_body : Choice → ℕ → List ℕ → Result Facts RefusalReason
start_of_body choice n commands = do
  entering ← from_entry n commands
  Ok (body_start choice unchanged entering)

abbrev pub end_of_body : Choice → ℕ → ℕ → ℕ → List ℕ → Result Facts RefusalReason
end_of_body choice before at n commands = do
  start ← start_of_body choice before commands
  behind n false commands at start

-- does a choice stand, where a number or nothing is the count, for so many turns?
abbrev pub stands_for : Choice → Bool → Polynomial → ℕ → ℕ → ℕ → List ℕ → Result Bool RefusalReason
stands_for choice counted most before at n commands = do
  entering ← from_entry before commands
  end ← end_of_body choice before at n commands
  Ok (stands choice unchanged counted most entering (Some end))

-- a kept choice, with the texts as they were
abbrev pub keeping : Polynomial → Choice
keeping held = record { held = held; kept = true; texts = replicate REGISTERS variable }

abbrev pub multiple : ℕ → ℕ → Polynomial
multiple constant times = first COEFFICIENTS (constant ∷ times ∷ [])

-- a search that puts something behind all that it finds
abbrev pub search_loop : List ℕ
search_loop = codes "J<Sfoo" ++ ESC ∷ codes ";I!" ++ ESC ∷ codes ">"

abbrev pub going_back : List ℕ
going_back = codes "J<Sfoo" ++ ESC ∷ codes ";3R>"

abbrev pub endless : List ℕ
endless = codes "<Ix" ++ ESC ∷ codes ">"

pub record FactRows : Type 0 where
  -- a conditional tells that there is a character, and C goes past it
  pub told :
      shown (from_entry 5 (codes ".-Z\"LC'"))
      ≡ Ok (record {
        distances = record { back = 1; fore = 0 };
        falls = [];
        held = codes "N";
        ahead = codes "N";
      })
  -- before a search loop all may be ahead, and there may be a turn for each character and one more
  pub turned : (from_entry 1 search_loop >>= turns >>= λ most. Ok (text most)) ≡ Ok (codes "1 + N")
  -- a found search fell by what it found, and the insertion grew
  pub searched :
      shown (end_of_body (keeping (multiple 0 2)) 2 2 3 search_loop)
      ≡ Ok (record {
        distances = record { back = 4; fore = 0 };
        falls = Some (pos 3) ∷ [];
        held = codes "1 + 2*N";
        ahead = codes "N";
      })
  -- the choice stands, and one that holds less does not
  pub stands : stands_for (keeping (multiple 0 2)) false (multiple 1 1) 2 2 3 search_loop ≡ Ok true
  pub too_little : stands_for (keeping (multiple 0 1)) false (multiple 1 1) 2 2 3 search_loop ≡ Ok false
  -- going back by what was found, nothing falls
  pub back :
      shown (end_of_body (keeping (multiple 0 1)) 2 2 4 going_back)
      ≡ Ok (record {
        distances = record { back = 0; fore = 3 };
        falls = Some (pos 0) ∷ [];
        held = codes "N";
        ahead = codes "N";
      })
  pub no_fall : stands_for (keeping (multiple 0 1)) false (multiple 1 1) 2 2 4 going_back ≡ Ok false
  pub no_fall_at_all : stands_for (keeping (multiple 0 1)) false (multiple 1 1) 1 1 1 endless ≡ Ok false
  -- a text that grows in each turn has no bound
  pub doubled : stands_for (keeping (multiple 0 1)) true (multiple 3 0) 2 2 3 (codes "3<HXBGB>") ≡ Ok false
  -- J goes to a place that was saved, whatever was inserted, but not past a deletion
  pub saved :
      shown (from_entry 5 (codes ".UBIx" ++ ESC ∷ codes "QBJ"))
      ≡ Ok (record {
        distances = record { back = 0; fore = 0 };
        falls = [];
        held = codes "1 + N";
        ahead = codes "1 + N";
      })
  pub not_saved : from_entry 6 (codes ".UB0KQBJ") ≡ Err refusal.Place
  -- what is refused
  pub outside : from_entry 2 (codes "5C") ≡ Err refusal.Place
  pub too_long : from_entry 1 (codes "D") ≡ Err refusal.Deletion
  pub by_zero : from_entry 3 (codes "1/Z=") ≡ Err refusal.Divisor
  pub alone : from_entry 1 (codes "=") ≡ Err refusal.Argument
  pub below : from_entry 1 (codes "]A") ≡ Err refusal.Pop
  pub library : behind 2 true (codes "[A]A") 0 entry_facts ≡ Err refusal.Written
  pub unanswered : from_entry 1 (codes "Sfoo" ++ ESC ∷ []) ≡ Err refusal.Unverified
  pub no_text : from_entry 1 (codes ":S" ++ ESC ∷ []) ≡ Err refusal.Unverified
  pub pending : from_entry 4 (codes "5+(<") ≡ Err refusal.Pending
