-- What is made with choices is found with them, and so is what is made again from its text.
use Rattle.teco_verify.proofs.Prelude.{◌≡◌, refl, ◌⊎◌, inl, inr, sym, ap, ◌∙◌, subst, ℕ, zero, suc, List, [], ◌∷◌, true}
use Rattle.teco_verify.proofs.Prelude.{false, Option, Some, None, Result, Ok, Err, IsOk, ◌<◌, arith, AllByRecursion}
use Rattle.teco_verify.proofs.Prelude.{list_any, IfOk, IfSome, REGISTERS, IsTextOf, Derives, AreKept, RowIsKept}
use Rattle.teco_verify.proofs.Prelude.{NotDerived, BeginsNoIteration, IsAccepted, LibraryFile, argument_of, Polynomial}
use Rattle.teco_verify.proofs.Prelude.{ArgumentRange, Fields, Finding, expansion, Node, Facts, Chosen, check, derive}
use Rattle.teco_verify.proofs.Prelude.{begins, commands, size, Table, AreMadeBy, AreFieldsOf, Certifies, IsJudged}
use Rattle.teco_verify.proofs.Prelude.{IsPlain, fields_of, IsFound, plain_fields, CertificateFlaw, Refusal}
use Rattle.std.proofs.Common.{Bool}
use Rattle.std.proofs.Common.{◌||◌}
use Rattle.teco_certificate.specs.WellFormed.{HasText, IsInOrder}
use Rattle.teco_check.specs.Derived.{AreLarge}
use Rattle.teco_check.specs.declared.derivation.NotDerived.TheVariants as fault
use Rattle.teco_verifier.specs.table.Table.{facts_at}
use Rattle.teco_verify.proofs.Accepted.{all_kept, is_well_formed, no_lines, these}
use Rattle.teco_verify.specs.Accepting.{AcceptedIsChecked, AcceptedIsFound}
use Rattle.teco_verify.specs.Again.{AreMadeAgain, AreMadeFrom, AreMadePlain, IsFoundAgain, PrintedIsAccepted}
use Rattle.teco_verify.specs.declared.certifying.CertificateFlaw.TheVariants as flaw

-- ---- kept facts are not too large
row_not_large : (known : Option Facts) → IfSome known AreKept → AreLarge known → ⊥
row_not_large None kept large = large
row_not_large (Some facts) kept large = large kept

not_large : (table : Table) (number : ℕ) → AllByRecursion RowIsKept table → AreLarge (facts_at table number) → ⊥
not_large table zero all large = large
not_large [] (suc k) all large = large
not_large (row ∷ table) (suc zero) all large = row_not_large row.facts all.0 large
not_large (row ∷ table) (suc (suc k)) all large = not_large table (suc k) all.1 large

-- ---- what is made with choices is found with them, or memory is refused
pub fields_are : (argument : Option ArgumentRange) (nodes : List Node) (table : Table) (entry : ℕ)
    (steps most : Polynomial) (fields : Fields) → AreFieldsOf argument nodes table entry fields
    → fields.commands ≡ steps → fields.size ≡ most
    → fields ≡ fields_of argument nodes table entry steps most
fields_are argument nodes table entry steps most fields f c s =
    rw (← f.entry_is, ← f.argument_is, ← f.needs_are, ← f.loops_are, ← c, ← s) refl

module _ (argument : Option ArgumentRange) (nodes : List Node) (chosen : List Chosen) (entry : ℕ) (fields : Fields)
    (made : AreMadeBy argument nodes chosen entry fields) where
  pub underived_only_memory : (why : NotDerived) → Derives (derive argument nodes chosen) (Err why) → why ≡ fault.Memory
  underived_only_memory (fault.Refused reason number) d =
      let no : Ok made.table ≡ Err reason = sym made.derived ∙ d in absurd (cc)
  underived_only_memory (fault.Large node) d =
      absurd (not_large made.table node made.kept (d made.table made.derived))
  underived_only_memory fault.Memory d = refl

  module _ (table : Table) (derived : derive argument nodes chosen ≡ Ok table) where
    same_table : made.table ≡ table
    same_table = let same : Ok made.table ≡ Ok table = sym made.derived ∙ derived in cc

    closed : check argument nodes table ≡ Ok tt
    closed = subst (λ t. check argument nodes t ≡ Ok tt) same_table made.closed

    printed : AreFieldsOf argument nodes table entry fields
    printed = subst (λ t. AreFieldsOf argument nodes t entry fields) same_table made.printed

    none_overflows : (number : ℕ) → ((commands argument nodes table ≡ Err number)
        ⊎ (IsOk (commands argument nodes table) × (size nodes table ≡ Err number))) → ⊥
    none_overflows number (inl is) = let no : Ok fields.commands ≡ Err number = sym printed.commands_are ∙ is in cc
    none_overflows number (inr is) = let no : Ok fields.size ≡ Err number = sym printed.size_is ∙ is.1 in cc

    pub flawed_only_memory : (why : CertificateFlaw) → Certifies argument nodes table entry (Err why)
        → why ≡ flaw.Memory
    flawed_only_memory (flaw.Open number) f = let no : Ok tt ≡ Err number = sym closed ∙ f in absurd (cc)
    flawed_only_memory (flaw.Overflow number) f = absurd (none_overflows number f.here)
    flawed_only_memory flaw.Memory f = refl

    pub found_same : (found : Fields) → AreFieldsOf argument nodes table entry found → found ≡ fields
    found_same found f =
        let steps : found.commands ≡ fields.commands =
        let e : Ok found.commands ≡ Ok fields.commands = sym f.commands_are ∙ printed.commands_are in cc in
        let most : found.size ≡ fields.size =
        let e : Ok found.size ≡ Ok fields.size = sym f.size_is ∙ printed.size_is in cc in
        fields_are argument nodes table entry fields.commands fields.size found f steps most
        ∙ sym (fields_are argument nodes table entry fields.commands fields.size fields printed refl refl)

-- ---- from a text
pub made_from : (library : LibraryFile) (text : List ℕ) (read : Fields) (entry : ℕ)
    (nodes : List Node) (result : Result Finding Refusal) → IsTextOf read text → read.entry ≡ entry
    → expansion library.texts entry ≡ Ok nodes → IfOk result (λ found. found.fields.entry ≡ entry)
    → IfOk result (λ found. AreMadeBy (argument_of library entry) nodes read.loops entry found.fields)
    → IfOk result (λ found. AreMadeFrom library text found.fields)
made_from library text read entry nodes (Ok found) spelled is expanded there made = record {
  read = read;
  spelled = spelled;
  entry = is ∙ sym there;
  nodes = nodes;
  expanded = subst (λ n. expansion library.texts n ≡ Ok nodes) (sym there) expanded;
  made = subst (λ n. AreMadeBy (argument_of library n) nodes read.loops n found.fields) (sym there)
      made;
}
made_from library text read entry nodes (Err why) spelled is expanded there made = tt

-- what is read of the text and expanded makes them
made_there : (library : LibraryFile) (fields read : Fields) (entry : ℕ) (nodes : List Node)
    (made : AreMadeAgain library fields) → read ≡ made.read → read.entry ≡ entry
    → expansion library.texts entry ≡ Ok nodes
    → AreMadeBy (argument_of library entry) nodes read.loops entry fields
made_there library fields read entry nodes made same is expanded =
    let there : fields.entry ≡ entry = sym made.entry ∙ (ap (λ (f : Fields). f.entry) (sym same) ∙ is) in
    let here : Ok made.nodes ≡ Ok nodes = sym made.expanded ∙ (ap (expansion library.texts) there ∙ expanded) in
    let nodes_are : made.nodes ≡ nodes = cc in
    subst (λ n. AreMadeBy (argument_of library n) nodes read.loops n fields) there
    (subst (λ cs. AreMadeBy (argument_of library fields.entry) nodes cs fields.entry fields)
    (ap (λ (f : Fields). f.loops) (sym same))
    (subst (λ ns. AreMadeBy (argument_of library fields.entry) ns made.read.loops fields.entry fields) nodes_are
    made.made))

-- ---- where nothing has to be chosen
not_either : (a b : Bool) → (a || b) ≡ false → (a ≡ false) × (b ≡ false)
not_either false b h = (refl, h)
not_either true b h = absurd (cc)

none_begins : (nodes : List Node) → list_any begins nodes ≡ false → AllByRecursion BeginsNoIteration nodes
none_begins [] none = tt
none_begins (node ∷ nodes) none =
    let each = not_either (begins node) (list_any begins nodes) none in (each.0, none_begins nodes each.1)

module _ (library : LibraryFile) (entry : ℕ) where
  pub made_plain : (nodes : List Node) (result : Result Finding Refusal) → expansion library.texts entry ≡ Ok nodes
      → (list_any begins nodes ≡ false → IfOk result
      (λ found. AreMadeBy (argument_of library entry) nodes [] entry found.fields))
      → IfOk result (λ found. AreMadePlain library entry found.fields)
  made_plain nodes (Ok found) expanded made = λ others plain.
      let both : Ok nodes ≡ Ok others = sym expanded ∙ plain.expanded in
      let same : nodes ≡ others = cc in
      subst (λ those. AreMadeBy (argument_of library entry) those [] entry found.fields) same
      (made (subst (λ those. list_any begins those ≡ false) (sym same) plain.none))
  made_plain nodes (Err why) expanded made = tt

  module _ (fields : Fields) (there : fields.entry ≡ entry) (plain : AreMadePlain library entry fields) where
    again_plain : (nodes : List Node) → IsPlain library entry nodes → HasText fields
        → AreMadeAgain library fields
    again_plain nodes is parts =
        let made = plain nodes is in
        let nothing : fields.loops ≡ [] =
        made.printed.loops_are ∙ no_lines nodes made.table (none_begins nodes is.none) in
        record {
          read = fields;
          spelled = record {
            well_formed = record {
              parts = parts;
              order = subst IsInOrder (sym nothing)
                  (record { numbers = λ k d h. absurd (omega (arith, h)); registers = tt });
            };
            spelled = refl;
          };
          entry = refl;
          nodes = nodes;
          expanded = subst (λ n. expansion library.texts n ≡ Ok nodes) (sym there) is.expanded;
          made = subst (λ n. AreMadeBy (argument_of library n) nodes fields.loops n fields) (sym there)
              (subst (λ cs. AreMadeBy (argument_of library entry) nodes cs entry fields) (sym nothing) made);
        }

    module _ (result : Result Finding Refusal) (again : IsFoundAgain library fields result) where
      found_plain : (nodes : List Node) → IsPlain library entry nodes → IsFound fields result
      found_plain nodes is = again (again_plain nodes is)

      pub judged_plain : (found : Finding) → found.fields ≡ fields → IsJudged library entry (Ok found)
          → IsJudged library entry result
      judged_plain found same judged = record {
        derived = λ nodes reason is e. absurd (judged.derived nodes reason is e);
        unclosed = λ nodes table number is e. absurd (judged.unclosed nodes table number is e);
        overflow = λ nodes table number is e. absurd (judged.overflow nodes table number is e);
        printed = λ nodes table steps most is e.
            subst (λ f. IsFound f result) (sym same ∙ judged.printed nodes table steps most is e)
            (found_plain nodes is.plain);
      }

-- ---- where a library is accepted with nothing chosen
module _ (library : LibraryFile) (entry : ℕ) (steps most : Polynomial)
    (takes_none : argument_of library entry ≡ None) (accepted : IsAccepted library.texts entry steps most) where
  abbrev plain : Fields
  plain = plain_fields entry steps most

  pub accepted_made : (nodes : List Node) → expansion library.texts entry ≡ Ok nodes
      → AreMadeBy (argument_of library entry) nodes [] entry plain
  accepted_made nodes expanded =
      let here = these library.texts entry steps most accepted nodes expanded in
      subst (λ argument. AreMadeBy argument nodes [] entry plain) (sym takes_none)
      (record {
        table = accepted.table;
        derived = here.derived;
        kept = all_kept accepted.table here.outside;
        closed = here.closed;
        printed = record {
          entry_is = refl;
          argument_is = refl;
          needs_are = sym here.prints.needs_nothing;
          commands_are = here.prints.commands_are;
          size_is = here.prints.size_is;
          loops_are = sym (no_lines nodes accepted.table here.prints.has_no_lines);
        };
      })

  pub accepted_made_again : entry < REGISTERS → AreMadeAgain library plain
  accepted_made_again small = record {
    read = plain;
    spelled = record {
      well_formed = is_well_formed library.texts entry steps most accepted small;
      spelled = refl;
    };
    entry = refl;
    nodes = accepted.nodes;
    expanded = accepted.expanded;
    made = accepted_made accepted.nodes accepted.expanded;
  }

-- ---- what was found is found again
pub accepted_again : (library : LibraryFile) (entry : ℕ) (first result : Result Finding Refusal)
    (found : Finding) → first ≡ Ok found → IsFoundAgain library found.fields result
    → AcceptedIsFound library entry first → AcceptedIsFound library entry result
accepted_again library entry (Err why) result found is again accepted = absurd (cc)
accepted_again library entry (Ok other) result found is again accepted = λ steps most takes_none plain.
    let both : other ≡ found = cc in
    let same : found.fields ≡ plain_fields entry steps most =
    subst (λ (f : Finding). f.fields ≡ plain_fields entry steps most) both
    (accepted steps most takes_none plain) in
    subst (λ f. IsFound f result) same
    (again (λ parts. subst (AreMadeAgain library) (sym same)
    (accepted_made_again library entry steps most takes_none plain
    (subst (λ (f : Fields). f.entry < REGISTERS) same parts.entry))))

pub judged_again : (library : LibraryFile) (entry : ℕ) (first result : Result Finding Refusal)
    (found : Finding) → first ≡ Ok found → IfOk first (λ found. found.fields.entry ≡ entry)
    → IfOk first (λ found. AreMadePlain library entry found.fields)
    → IsFoundAgain library found.fields result → IsJudged library entry first
    → IsJudged library entry result
judged_again library entry (Err why) result found is there plain again judged = absurd (cc)
judged_again library entry (Ok other) result found is there plain again judged =
    let both : found ≡ other = cc in
    judged_plain library entry other.fields there plain result
    (subst (λ (f : Finding). IsFoundAgain library f.fields result) both again) other refl judged

-- ---- from its text
pub made_by_choices : (library : LibraryFile) (fields read : Fields) (entry : ℕ) (nodes : List Node)
    (chosen : List Chosen) (made : AreMadeAgain library fields) → read ≡ made.read
    → read.entry ≡ entry → expansion library.texts entry ≡ Ok nodes → chosen ≡ read.loops
    → AreMadeBy (argument_of library entry) nodes chosen entry fields
made_by_choices library fields read entry nodes chosen made same is expanded choices =
    subst (λ cs. AreMadeBy (argument_of library entry) nodes cs entry fields) (sym choices)
    (made_there library fields read entry nodes made same is expanded)

pub accepted_checked : (library : LibraryFile) (bytes : List ℕ) (result : Result Finding Refusal)
    → PrintedIsAccepted library bytes result → AcceptedIsChecked library bytes result
accepted_checked library bytes result again = λ entry steps most small takes_none is spelled.
    again (plain_fields entry steps most)
    (accepted_made_again library entry steps most takes_none is small) spelled
