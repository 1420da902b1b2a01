-- Tables worked by hand: what is printed of them, and where they are not closed.
use Rattle.std.specs.Prelude.{◌≡◌, ℕ, List, [], ◌∷◌, codes, Bool, true, false, Some, None, Result, Ok, Err, Option}
use Rattle.teco_poly.specs.declared.coefficients.TheConstants.{COEFFICIENTS}
use Rattle.teco_verifier.specs.expansion.Expansion.{expansion}
use Rattle.teco_model.specs.Macros.{Library, Needs, ArgumentRange}
use Rattle.teco_verifier.specs.expansion.Node.{Node}
use Rattle.teco_verifier.specs.expansion.Refusal.{Refusal as NotExpanded}
use Rattle.teco_law_runs.specs.Rows.{only, then, mark_foo}
use Rattle.teco_poly.specs.Polynomial.{Polynomial, first}
use Rattle.teco_poly.specs.Text.{text}
use Rattle.teco_verifier.specs.declared.refusal.RefusalReason.{RefusalReason}
use Rattle.teco_verifier.specs.declared.refusal.RefusalReason.TheVariants as refusal
use Rattle.teco_verifier.specs.table.Closed.{check}
use Rattle.teco_verifier.specs.table.Choices.{Chosen}
use Rattle.teco_verifier.specs.table.Deriving.{derive}
use Rattle.teco_verifier.specs.table.Printed.{commands, size, needs_in}
use Rattle.teco_verifier.specs.table.Table.{Table}

-- what comes of a library and choices
pub data Verdict : Type 0 where
  Printed : List ℕ → List ℕ → List ℕ → Verdict
  NotClosed : ℕ → Verdict
  Overflows : ℕ → Verdict
  NotDerived : RefusalReason → Verdict
  Unexpanded : NotExpanded → Verdict

abbrev pub letters_of : Bool → Bool → List ℕ
letters_of false false = codes "-"
letters_of true false = codes "I"
letters_of false true = codes "O"
letters_of true true = codes "IO"

abbrev pub printed : Result Polynomial ℕ → Result Polynomial ℕ → Needs → Verdict
printed (Ok steps) (Ok most) need = Printed (text steps) (text most) (letters_of need.input need.output)
printed (Err node) most need = Overflows node
printed steps (Err node) need = Overflows node

abbrev pub verdict_checked : Option ArgumentRange → List Node → Table → Result (Unit {0}) ℕ → Verdict
verdict_checked argument nodes table (Ok closed) =
    printed (commands argument nodes table) (size nodes table) (needs_in nodes table)
verdict_checked argument nodes table (Err node) = NotClosed node

abbrev pub verdict_derived : Option ArgumentRange → List Node → Result Table RefusalReason → Verdict
verdict_derived argument nodes (Ok table) = verdict_checked argument nodes table (check argument nodes table)
verdict_derived argument nodes (Err why) = NotDerived why

abbrev pub verdict_expanded : Option ArgumentRange → List Chosen → Result (List Node) NotExpanded → Verdict
verdict_expanded argument chosen (Ok nodes) = verdict_derived argument nodes (derive argument nodes chosen)
verdict_expanded argument chosen (Err refused) = Unexpanded refused

-- of the macro A of a library
abbrev pub verdict : Library → List Chosen → Verdict
verdict library chosen = verdict_expanded None chosen (expansion library 0)

-- of one that takes an argument
abbrev pub verdict_between : ℕ → ℕ → Library → List Chosen → Verdict
verdict_between low high library chosen =
    verdict_expanded (Some (record { low = low; high = high })) chosen (expansion library 0)

abbrev pub poly : List ℕ → Polynomial
poly coefficients = first COEFFICIENTS coefficients

-- an iteration that is kept, with so much held
abbrev pub kept_with : ℕ → List ℕ → Chosen
kept_with begin held = record { begin = begin; held = poly held; kept = true; longer = [] }

-- one of which nothing is known but that it holds so much
abbrev pub lost_with : ℕ → List ℕ → Chosen
lost_with begin held = record { begin = begin; held = poly held; kept = false; longer = [] }

-- each a becomes bb, and then there is a turn for each character
abbrev pub replace_and_count : Library
replace_and_count = only (then (codes "J<FSa") (then (codes "bb") (codes ";>Z<>")))

-- what is held is copied, and put in twice
abbrev pub copy_twice : Library
copy_twice = only (codes "HXB2<GB>")

-- each occurrence of foo gets a mark, but where one stands
abbrev pub mark_once : Library
mark_once = only (then (codes "J<Sfoo") (then (codes ";0A-33\"EF>'I!") (codes ">")))

-- each occurrence of foo on any page gets a mark
abbrev pub mark_pages : Library
mark_pages = only (then (codes "<Nfoo") (then (codes ";I!") (codes ">")))

pub record WorkedTables : Type 0 where
  pub marks : verdict mark_foo (kept_with 3 (0 ∷ 2 ∷ []) ∷ [])
      ≡ Printed (codes "8 + 4*N") (codes "1 + 2*N") (codes "-")
  pub marks_once :
      verdict mark_once (kept_with 3 (0 ∷ 2 ∷ []) ∷ [])
      ≡ Printed (codes "14 + 10*N") (codes "1 + 2*N") (codes "-")
  -- one that is not kept may stand as well, and so may one that holds more
  pub lost :
      verdict mark_foo (lost_with 3 (0 ∷ 2 ∷ []) ∷ [])
      ≡ Printed (codes "8 + 4*N") (codes "1 + 2*N") (codes "-")
  pub more : verdict mark_foo (kept_with 3 (5 ∷ 2 ∷ []) ∷ [])
      ≡ Printed (codes "8 + 4*N") (codes "6 + 2*N") (codes "-")
  -- with too little held a choice does not stand, and there is none
  pub too_little : verdict mark_foo (kept_with 3 (0 ∷ 1 ∷ []) ∷ []) ≡ NotClosed 3
  pub none_chosen : verdict mark_foo [] ≡ NotClosed 3
  pub counted : verdict (only (codes "3<.=>")) (kept_with 3 (0 ∷ 1 ∷ []) ∷ [])
      ≡ Printed (codes "13") (codes "N") (codes "-")
  -- what falls in no turn has no end
  pub endless : verdict (only (codes "<.=>")) (kept_with 2 (0 ∷ 1 ∷ []) ∷ []) ≡ NotClosed 2
  pub replaced :
      verdict replace_and_count (kept_with 3 (0 ∷ 3 ∷ []) ∷ kept_with 8 (2 ∷ 3 ∷ []) ∷ [])
      ≡ Printed (codes "11 + 6*N") (codes "2 + 3*N") (codes "-")
  pub copied :
      verdict copy_twice (kept_with 5 (0 ∷ 2 ∷ []) ∷ []) ≡ Printed (codes "10") (codes "3*N") (codes "-")
  pub pages :
      verdict mark_pages (kept_with 2 (0 ∷ 2 ∷ []) ∷ [])
      ≡ Printed (codes "7 + 5*N + N^2") (codes "1 + 2*N") (codes "O")
  pub repeated :
      verdict (only (then (codes "10<Ia") (codes ">"))) (kept_with 3 (9 ∷ 1 ∷ []) ∷ [])
      ≡ Printed (codes "24") (codes "10 + N") (codes "-")
  -- an argument counts the turns of an iteration
  pub by_argument :
      verdict_between 1 10 (only (then (codes "<Ia") (codes ">"))) (kept_with 2 (9 ∷ 1 ∷ []) ∷ [])
      ≡ Printed (codes "24") (codes "10 + N") (codes "-")
  pub tested : verdict (only (codes ".-Z\"LC'")) [] ≡ Printed (codes "8") (codes "N") (codes "-")
  pub appended :
      verdict (only (codes "H:XBH:XB")) [] ≡ Printed (codes "6") (codes "3*N") (codes "-")
  pub refused : verdict (only (codes "2D")) [] ≡ NotDerived refusal.Deletion
  -- a place that was saved is one behind an insertion, and in each turn of a body that neither writes its register nor
  -- deletes
  pub returned :
      verdict (only (then (codes ".UBIx") (codes "QBJ"))) [] ≡ Printed (codes "7") (codes "1 + N") (codes "-")
  pub deleted : verdict (only (codes ".UB0KQBJ")) [] ≡ NotDerived refusal.Place
  pub returned_in_turns :
      verdict (only (then (codes ".UB3<QBJIx") (codes ">"))) (lost_with 5 (2 ∷ 1 ∷ []) ∷ [])
      ≡ Printed (codes "18") (codes "3 + N") (codes "-")
  pub deleted_in_turns :
      verdict (only (codes ".UB3<QBJ0K>")) (lost_with 5 (0 ∷ 1 ∷ []) ∷ []) ≡ NotDerived refusal.Place
  pub written_in_turns :
      verdict (only (codes ".UB3<QBJZUB>")) (lost_with 5 (0 ∷ 1 ∷ []) ∷ []) ≡ NotDerived refusal.Place
