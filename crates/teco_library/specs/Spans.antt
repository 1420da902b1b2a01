-- Where the texts of registers stand in a file.
use Rattle.std.specs.Prelude.{◌≡◌, ℕ, ◌-◌, ◌<◌, ◌≤◌, List, length, map, All, slice_range, slice_set, slice_index_or}
use Rattle.std.specs.Prelude.{Bool, true, false, if◌then◌else◌, Option, Some, None, option_map, OnSome, Result, Ok}
use Rattle.std.specs.Prelude.{Err}
use Rattle.std.specs.Option.{ForSome}
use Rattle.teco_model.specs.declared.pattern.Span.{Span}
use Rattle.teco_model.specs.Ahead.{Reading, Whole, Faulty, readings}
use Rattle.teco_model.specs.Element.{Element}
use Rattle.teco_library.specs.declared.fault.LibraryFault.{LibraryFault}
use Rattle.teco_library.specs.declared.fault.LibraryFault.TheVariants.{NotALibrary, Memory}
use Rattle.teco_library.specs.Header.{Declared, Declares, first_comment}
use Rattle.teco_library.specs.Library.{IsLibrary, IsFirstNotAllowed, is_allowed, register_set, texts_of}

abbrev pub part_of : List ℕ → Span → List ℕ
part_of file span = slice_range file span.start span.end

-- the texts that stand there
abbrev pub texts_at : List ℕ → List (Option Span) → List (Option (List ℕ))
texts_at file spans = map (option_map (part_of file)) spans

abbrev pub IsWithin : List ℕ → Option Span → Type 0
IsWithin file span = ForSome span (λ s. (s.start ≤ s.end) × (s.end ≤ length file))

-- The text of a ^U stands before the byte that ends it.
abbrev pub span_of : Element → Span
span_of e = record { start = e.next - 1 - length e.text; end = e.next - 1 }

abbrev pub EndsItsText : Reading → Type 0
EndsItsText (Whole e) = OnSome (register_set e.kind) (length e.text < e.next)
EndsItsText (Faulty c place next) = Unit {0}

-- with the span of a register, if it has none yet
abbrev pub with_span : Option ℕ → Span → List (Option Span) → Option (List (Option Span))
with_span None span spans = Some spans
with_span (Some q) span spans = elim (slice_index_or spans q None) [
  | None ↦ Some (slice_set spans q (Some span))
  | Some earlier ↦ None
]

-- the spans with that of a reading, if a library may have it behind those that they are of
abbrev pub admitted : Reading → List (Option Span) → Option (List (Option Span))
admitted (Whole e) spans =
    if is_allowed (Whole e) then with_span (register_set e.kind) (span_of e) spans else None
admitted (Faulty c place next) spans = None

-- what a function that admits a reading leaves
abbrev pub Admits : Reading → List (Option Span) → List (Option Span) → Bool → Type 0
Admits reading old new true = admitted reading old ≡ Some new
Admits reading old new false = admitted reading old ≡ None

-- what a function that looks for the header of a library finds
abbrev pub FindsHeader : List ℕ → Result (Option Declared) LibraryFault → Type 0
FindsHeader file (Ok declared) = Declares (first_comment (readings file 0)) declared
FindsHeader file (Err (NotALibrary place)) = IsFirstNotAllowed file place
FindsHeader file (Err Memory) = ⊥

-- what a function that looks for the spans of a library finds
abbrev pub Finds : List ℕ → Result (List (Option Span)) LibraryFault → Type 0
Finds file (Ok spans) =
    IsLibrary file × (texts_at file spans ≡ texts_of file) × All (IsWithin file) spans
Finds file (Err (NotALibrary place)) = IsFirstNotAllowed file place
Finds file (Err Memory) = ⊥
