-- Why a macro is refused, and where: for the reason, and at the place, of the definitions of the expansion and of
-- the rules.
use Rattle.std.specs.Prelude.{◌≡◌, ℕ, List, [], nat_lt, false, if◌then◌else◌, Option, Some, None, Result, Ok, Err, ⊤}
use Rattle.std.specs.List.{list_any}
use Rattle.teco_base.specs.declared.TheConstants.{REGISTERS}
use Rattle.teco_verifier.specs.certificate.Fields.{Fields, Finding}
use Rattle.teco_check.specs.declared.derivation.NotDerived.{NotDerived}
use Rattle.teco_check.specs.declared.derivation.NotDerived.TheVariants as underived
use Rattle.teco_check.specs.Derived.{IsRefusedAt}
use Rattle.teco_check.specs.Here.{node_at}
use Rattle.teco_verifier.specs.table.Loops.{begins, loops_of}
use Rattle.teco_verify.specs.declared.unfit.Unfit.{Unfit}
use Rattle.teco_verify.specs.declared.unfit.Unfit.TheVariants as unfits
use Rattle.teco_verifier.specs.expansion.Expansion.{expansion}
use Rattle.teco_verifier.specs.expansion.Node.{Node, place_of}
use Rattle.teco_verifier.specs.expansion.Refusal as expanding
use Rattle.teco_library.specs.Library.{LibraryFile, argument_of}
use Rattle.teco_expansion.specs.declared.refusal.ExpandFault.{ExpandFault}
use Rattle.teco_expansion.specs.declared.refusal.ExpandFault.TheVariants as fault
use Rattle.teco_expansion.specs.Refused.{refusal_seen}
use Rattle.teco_poly.specs.Polynomial.{Polynomial}
use Rattle.teco_model.specs.Macros.{ArgumentRange}
use Rattle.teco_verifier.specs.declared.refusal.RefusalReason as rules
use Rattle.teco_verifier.specs.declared.refusal.RefusalReason.TheVariants as why
use Rattle.teco_verifier.specs.table.Closed.{check}
use Rattle.teco_verifier.specs.table.Deriving.{derive}
use Rattle.teco_verifier.specs.table.Printed.{needs_in, IsPrinted}
use Rattle.teco_verifier.specs.table.Table.{Table}
use Rattle.teco_verify.specs.Certifying.{Overflows}
use Rattle.teco_verify.specs.declared.certifying.CertificateFlaw.{CertificateFlaw}
use Rattle.teco_verify.specs.declared.certifying.CertificateFlaw.TheVariants as flaw
use Rattle.teco_verify.specs.declared.refusal.Refusal.{Refusal}
use Rattle.teco_verify.specs.declared.refusal.Refusal.TheVariants as refusal
use Rattle.teco_verify.specs.Straight.{IsFound}

-- which refusal each reason of an expansion is
abbrev pub why_of : expanding.Reason → rules.RefusalReason
why_of expanding.Fault = why.Fault
why_of expanding.Unpaired = why.Partner
why_of expanding.NoMacro = why.Missing
why_of expanding.Recursion = why.Recursion
why_of expanding.TooLarge = why.Size

-- a register, if there is one of this place
abbrev pub register_of : ℕ → Option ℕ
register_of place = if nat_lt place REGISTERS then Some place else None

-- the refusal of an expansion
abbrev pub refusal_of : expanding.Refusal → Refusal
refusal_of refused = refusal.No (why_of refused.reason) (register_of refused.register) refused.place

-- a refusal at a node: in the register whose text that is, at the place of its element
abbrev pub refusal_at : rules.RefusalReason → Node → Refusal
refusal_at reason node = refusal.No reason (register_of node.register) (place_of node)

-- the refusal of a certificate: it has no place
abbrev pub refusal_of_certificate : Refusal
refusal_of_certificate = refusal.No why.Certificate None 0

-- The answer is this refusal, or memory was refused.
abbrev pub IsRefused : Refusal → Result Finding Refusal → Type 0
IsRefused refused (Ok found) = ⊥
IsRefused refused (Err refusal.Memory) = ⊤
IsRefused refused (Err (refusal.No reason register place)) = refusal.No reason register place ≡ refused

-- Where the library has no expansion from the entry, the refusal is that of the expansion.
abbrev pub RefusedIsExpansions : LibraryFile → ℕ → Result Finding Refusal → Type 0
RefusedIsExpansions library entry result =
    (refused : expanding.Refusal) → expansion library.texts entry ≡ Err refused
    → IsRefused (refusal_of refused) result

-- a refusal by the rules, at the node at which they refuse where nothing is chosen
pub record IsRefusedByRules
    (argument : Option ArgumentRange) (nodes : List Node) (reason : rules.RefusalReason) (refused : Refusal) :
    Type 0 where
  pub number : ℕ
  pub first : IsRefusedAt argument nodes [] number reason
  pub told : refused ≡ refusal_at reason (node_at nodes number)

abbrev pub IsToldByRules : Option ArgumentRange → List Node → rules.RefusalReason → Result Finding Refusal → Type 0
IsToldByRules argument nodes reason (Ok found) = ⊥
IsToldByRules argument nodes reason (Err refusal.Memory) = ⊤
IsToldByRules argument nodes reason (Err (refusal.No other register place)) =
    IsRefusedByRules argument nodes reason (refusal.No other register place)

-- Nothing has to be chosen: the library has an expansion, and no iteration begins in it.
pub record IsPlain (library : LibraryFile) (entry : ℕ) (nodes : List Node) : Type 0 where
  pub expanded : expansion library.texts entry ≡ Ok nodes
  pub none : list_any begins nodes ≡ false

-- There the rules give a table.
pub record IsPlainTable (library : LibraryFile) (entry : ℕ) (nodes : List Node)
    (table : Table) : Type 0 where
  pub plain : IsPlain library entry nodes
  pub derived : derive (argument_of library entry) nodes [] ≡ Ok table

-- Where nothing has to be chosen and the rules refuse, the refusal is theirs, at the node at which they refuse.
abbrev pub RefusedIsDerived : LibraryFile → ℕ → Result Finding Refusal → Type 0
RefusedIsDerived library entry result =
    (nodes : List Node) (reason : rules.RefusalReason)
    → IsPlain library entry nodes → derive (argument_of library entry) nodes [] ≡ Err reason
    → IsToldByRules (argument_of library entry) nodes reason result

-- A table that is not closed is refused for no bound, at the first node at which it is not.
abbrev pub RefusedIsUnclosed : LibraryFile → ℕ → Result Finding Refusal → Type 0
RefusedIsUnclosed library entry result =
    (nodes : List Node) (table : Table) (number : ℕ)
    → IsPlainTable library entry nodes table
    → check (argument_of library entry) nodes table ≡ Err number
    → IsRefused (refusal_at why.Bound (node_at nodes number)) result

-- A number that overflows is refused where it does.
abbrev pub RefusedIsOverflow : LibraryFile → ℕ → Result Finding Refusal → Type 0
RefusedIsOverflow library entry result =
    (nodes : List Node) (table : Table) (number : ℕ)
    → IsPlainTable library entry nodes table
    → Overflows (argument_of library entry) nodes table number
    → IsRefused (refusal_at why.Overflow (node_at nodes number)) result

-- A closed table whose numbers do not overflow is accepted, with what is printed of it.
abbrev pub fields_of : Option ArgumentRange → List Node → Table → ℕ → Polynomial → Polynomial → Fields
fields_of argument nodes table entry steps most = record {
  entry = entry;
  argument = argument;
  needs = needs_in nodes table;
  commands = steps;
  size = most;
  loops = loops_of nodes table;
}

abbrev pub PrintedIsFound : LibraryFile → ℕ → Result Finding Refusal → Type 0
PrintedIsFound library entry result =
    (nodes : List Node) (table : Table) (steps most : Polynomial)
    → IsPlainTable library entry nodes table
    → IsPrinted (argument_of library entry) nodes table steps most
    → IsFound (fields_of (argument_of library entry) nodes table entry steps most) result

-- these four
pub record IsJudged (library : LibraryFile) (entry : ℕ)
    (result : Result Finding Refusal) : Type 0 where
  pub derived : RefusedIsDerived library entry result
  pub unclosed : RefusedIsUnclosed library entry result
  pub overflow : RefusedIsOverflow library entry result
  pub printed : PrintedIsFound library entry result

-- A certificate is refused as such, or memory was refused.
abbrev pub IsOfCertificate : Refusal → Type 0
IsOfCertificate refusal.Memory = ⊤
IsOfCertificate (refusal.No reason register place) = refusal.No reason register place ≡ refusal_of_certificate

-- what the calls below answer, as refusals
abbrev pub refusal_of_fault : ExpandFault → Refusal
refusal_of_fault (fault.Refused refused) = refusal_of (refusal_seen refused)
refusal_of_fault fault.Memory = refusal.Memory

-- where the search gives up, no bound is found
abbrev pub refusal_of_unfit : List Node → Unfit → Refusal
refusal_of_unfit nodes (unfits.Refused reason number) = refusal_at reason (node_at nodes number)
refusal_of_unfit nodes (unfits.GivenUp number) = refusal_at why.Bound (node_at nodes number)
refusal_of_unfit nodes unfits.Memory = refusal.Memory

-- where facts are too large for a table, no bound stands
abbrev pub unfit_of : NotDerived → Unfit
unfit_of (underived.Refused reason number) = unfits.Refused reason number
unfit_of (underived.Large number) = unfits.Refused why.Bound number
unfit_of underived.Memory = unfits.Memory

abbrev pub unfit_by : CertificateFlaw → Unfit
unfit_by (flaw.Open number) = unfits.Refused why.Bound number
unfit_by (flaw.Overflow number) = unfits.Refused why.Overflow number
unfit_by flaw.Memory = unfits.Memory
