-- Where nothing has to be chosen, what is refused is what the rules, the check and the printed numbers refuse.
use Rattle.teco_verify.proofs.Prelude.{◌≡◌, ◌⊎◌, inl, inr, sym, ap, ◌∙◌, subst, ℕ, List, [], false, Result, Ok, Err}
use Rattle.teco_verify.proofs.Prelude.{IsOk, Option, list_any, NotDerived, Derives, DerivesUpTo, node_at, begins}
use Rattle.teco_verify.proofs.Prelude.{expansion, Node, LibraryFile, argument_of, ArgumentRange, check, Chosen, derive}
use Rattle.teco_verify.proofs.Prelude.{commands, size, Polynomial, Finding, Table, IsFound, AreFieldsOf, Certifies}
use Rattle.teco_verify.proofs.Prelude.{CertificateFlaw, Refusal, IsJudged, IsPlain, fields_of, refusal_of_unfit}
use Rattle.teco_verify.proofs.Prelude.{unfit_by, unfit_of}
use Rattle.teco_check.specs.declared.derivation.NotDerived.TheVariants as fault
use Rattle.teco_check.specs.Derived.{IsNotLarge, IsRefusedAt}
use Rattle.teco_verifier.specs.declared.refusal.RefusalReason as rules
use Rattle.teco_verifier.specs.declared.refusal.RefusalReason.TheVariants as why
use Rattle.teco_verifier.specs.table.Printed.{IsPrinted}
use Rattle.teco_verify.proofs.Again.{fields_are}
use Rattle.teco_verify.specs.Certifying.{Overflows}
use Rattle.teco_verify.specs.declared.certifying.CertificateFlaw.TheVariants as flaw
use Rattle.teco_verify.specs.Refusing.{IsRefused, IsToldByRules, refusal_at}

module _ (library : LibraryFile) (entry : ℕ) where
  module _ (nodes : List Node) (expanded : expansion library.texts entry ≡ Ok nodes) where
    same_nodes : (others : List Node) → expansion library.texts entry ≡ Ok others → nodes ≡ others
    same_nodes others e = let same : Ok nodes ≡ Ok others = sym expanded ∙ e in cc

    -- where something has to be chosen nothing is said
    pub judged_where_plain : (result : Result Finding Refusal)
        → (list_any begins nodes ≡ false → IsJudged library entry result)
        → IsJudged library entry result
    judged_where_plain result h = record {
      derived = λ others reason plain. (h (none_in others plain)).derived others reason plain;
      unclosed = λ others table number plain. (h (none_in others plain.plain)).unclosed others table number plain;
      overflow = λ others table number plain. (h (none_in others plain.plain)).overflow others table number plain;
      printed = λ others table steps most plain. (h (none_in others plain.plain)).printed others table steps most plain;
    }
      where
        none_in : (others : List Node) → IsPlain library entry others → list_any begins nodes ≡ false
        none_in others plain = subst (λ those. list_any begins those ≡ false) (sym (same_nodes others plain.expanded))
            plain.none

    -- of these nodes
    record IsJudgedHere (argument : Option ArgumentRange) (result : Result Finding Refusal) : Type 0 where
      derived : list_any begins nodes ≡ false → (reason : rules.RefusalReason) → derive argument nodes [] ≡ Err reason
          → IsToldByRules argument nodes reason result
      unclosed : list_any begins nodes ≡ false → (table : Table) (number : ℕ) → derive argument nodes [] ≡ Ok table
          → check argument nodes table ≡ Err number → IsRefused (refusal_at why.Bound (node_at nodes number)) result
      overflow : list_any begins nodes ≡ false → (table : Table) (number : ℕ) → derive argument nodes [] ≡ Ok table
          → Overflows argument nodes table number → IsRefused (refusal_at why.Overflow (node_at nodes number)) result
      printed : list_any begins nodes ≡ false → (table : Table) (steps most : Polynomial)
          → derive argument nodes [] ≡ Ok table → IsPrinted argument nodes table steps most
          → IsFound (fields_of argument nodes table entry steps most) result

    judged_so : (result : Result Finding Refusal) → IsJudgedHere (argument_of library entry) result
        → IsJudged library entry result
    judged_so result h = let argument = argument_of library entry in record {
      derived = λ others reason plain. subst (λ those. list_any begins those ≡ false
          → derive argument those [] ≡ Err reason → IsToldByRules argument those reason result)
          (same_nodes others plain.expanded) (λ none. h.derived none reason) plain.none;
      unclosed = λ others table number plain. subst (λ those. list_any begins those ≡ false
          → derive argument those [] ≡ Ok table → check argument those table ≡ Err number
          → IsRefused (refusal_at why.Bound (node_at those number)) result) (same_nodes others plain.plain.expanded)
          (λ none. h.unclosed none table number) plain.plain.none plain.derived;
      overflow = λ others table number plain. subst (λ those. list_any begins those ≡ false
          → derive argument those [] ≡ Ok table → Overflows argument those table number
          → IsRefused (refusal_at why.Overflow (node_at those number)) result) (same_nodes others plain.plain.expanded)
          (λ none. h.overflow none table number) plain.plain.none plain.derived;
      printed = λ others table steps most plain. subst (λ those. list_any begins those ≡ false
          → derive argument those [] ≡ Ok table → IsPrinted argument those table steps most
          → IsFound (fields_of argument those table entry steps most) result) (same_nodes others plain.plain.expanded)
          (λ none. h.printed none table steps most) plain.plain.none plain.derived;
    }

    underived_here : (argument : Option ArgumentRange) (fault : NotDerived)
        → Derives (derive argument nodes []) (Err fault) → DerivesUpTo argument nodes [] (Err fault)
        → (list_any begins nodes ≡ false → IsNotLarge (Err fault))
        → IsJudgedHere argument (Err (refusal_of_unfit nodes (unfit_of fault)))
    underived_here argument (fault.Refused reason number) d u s = record {
      derived = λ none other e. let errs : Err reason ≡ Err other = sym d ∙ e in let same : reason ≡ other = cc in
          record {
            number = number;
            first = subst (IsRefusedAt argument nodes [] number) same u;
            told = ap (λ why. refusal_at why (node_at nodes number)) same;
          };
      unclosed = λ none table n e. let no : Err reason ≡ Ok table = sym d ∙ e in absurd (cc);
      overflow = λ none table n e. let no : Err reason ≡ Ok table = sym d ∙ e in absurd (cc);
      printed = λ none table steps most e. let no : Err reason ≡ Ok table = sym d ∙ e in absurd (cc);
    }
    underived_here argument (fault.Large number) d u s = record {
      derived = λ none. absurd (s none);
      unclosed = λ none. absurd (s none);
      overflow = λ none. absurd (s none);
      printed = λ none. absurd (s none);
    }
    underived_here argument fault.Memory d u s =
        record {
          derived = λ none reason e. tt;
          unclosed = λ none table number d e. tt;
          overflow = λ none table number d e. tt;
          printed = λ none table steps most d e. tt;
        }

    -- with a table
    module _ (argument : Option ArgumentRange) (table : Table) (derived_is : derive argument nodes [] ≡ Ok table) where
      same_table : (other : Table) → derive argument nodes [] ≡ Ok other → other ≡ table
      same_table other e = let same : Ok other ≡ Ok table = sym e ∙ derived_is in cc

      not_refused : (reason : rules.RefusalReason) → derive argument nodes [] ≡ Err reason → ⊥
      not_refused reason e = let no : Err reason ≡ Ok table = sym e ∙ derived_is in cc

      same_overflow : (one other : ℕ) → Overflows argument nodes table one → Overflows argument nodes table other
          → one ≡ other
      same_overflow one other o p = by_here o.here p.here
        where
          by_here : ((commands argument nodes table ≡ Err one)
              ⊎ (IsOk (commands argument nodes table) × (size nodes table ≡ Err one)))
              → ((commands argument nodes table ≡ Err other)
              ⊎ (IsOk (commands argument nodes table) × (size nodes table ≡ Err other))) → one ≡ other
          by_here (inl a) (inl b) = let same : Err one ≡ Err other = sym a ∙ b in cc
          by_here (inr a) (inr b) = let same : Err one ≡ Err other = sym a.1 ∙ b.1 in cc
          by_here (inl a) (inr b) = let no = rw a at b.0 in absurd (cc)
          by_here (inr a) (inl b) = let no = rw b at a.0 in absurd (cc)

      not_printed : (number : ℕ) → Overflows argument nodes table number → (steps most : Polynomial)
          → IsPrinted argument nodes table steps most → ⊥
      not_printed number o steps most p = by_here o.here
        where
          by_here : ((commands argument nodes table ≡ Err number)
              ⊎ (IsOk (commands argument nodes table) × (size nodes table ≡ Err number))) → ⊥
          by_here (inl a) = let no : Ok steps ≡ Err number = sym p.commands_are ∙ a in cc
          by_here (inr a) = let no : Ok most ≡ Err number = sym p.size_is ∙ a.1 in cc

      found_here : (found : Finding) (steps most : Polynomial) → AreFieldsOf argument nodes table entry found.fields
          → IsPrinted argument nodes table steps most
          → IsFound (fields_of argument nodes table entry steps most) (Ok found)
      found_here found steps most f p =
          let first : found.fields.commands ≡ steps = let e : Ok found.fields.commands ≡ Ok steps =
          sym f.commands_are ∙ p.commands_are in cc in
          let second : found.fields.size ≡ most = let e : Ok found.fields.size ≡ Ok most = sym f.size_is ∙ p.size_is in
          cc in
          fields_are argument nodes table entry steps most found.fields f first second

      flawed_here : (entry : ℕ) (flaw : CertificateFlaw) → Certifies argument nodes table entry (Err flaw)
          → IsJudgedHere argument (Err (refusal_of_unfit nodes (unfit_by flaw)))
      flawed_here entry (flaw.Open number) f = record {
        derived = λ none reason e. absurd (not_refused reason e);
        unclosed = λ none other n d e.
            let here = rw (same_table other d) at e in
            let errs : Err number ≡ Err n = sym f ∙ here in
            let same : number ≡ n = cc in ap (λ k. refusal_at why.Bound (node_at nodes k)) same;
        overflow = λ none other n d o.
            let here = rw (same_table other d) at o.closed in
            let no : Err number ≡ Ok tt = sym f ∙ here in absurd (cc);
        printed = λ none other steps most d o.
            let here = rw (same_table other d) at o.closed in
            let no : Err number ≡ Ok tt = sym f ∙ here in absurd (cc);
      }
      flawed_here entry (flaw.Overflow number) f = record {
        derived = λ none reason e. absurd (not_refused reason e);
        unclosed = λ none other n d e.
            let here = rw (same_table other d) at e in
            let no : Ok tt ≡ Err n = sym f.closed ∙ here in absurd (cc);
        overflow = λ none other n d o.
            ap (λ k. refusal_at why.Overflow (node_at nodes k))
            (same_overflow number n f (subst (λ t. Overflows argument nodes t n) (same_table other d) o));
        printed = λ none other steps most d o.
            absurd (not_printed number f steps most
            (subst (λ t. IsPrinted argument nodes t steps most) (same_table other d) o));
      }
      flawed_here entry flaw.Memory f = record {
        derived = λ none reason e. tt;
        unclosed = λ none other n d e. tt;
        overflow = λ none other n d e. tt;
        printed = λ none other steps most d e. tt;
      }

      certified_here : (found : Finding) → check argument nodes table ≡ Ok tt
          → AreFieldsOf argument nodes table entry found.fields → IsJudgedHere argument (Ok found)
      certified_here found c f = record {
        derived = λ none reason e. absurd (not_refused reason e);
        unclosed = λ none other n d e.
            let here = rw (same_table other d) at e in
            let no : Ok tt ≡ Err n = sym c ∙ here in absurd (cc);
        overflow = λ none other n d o.
            absurd (not_printed n (subst (λ t. Overflows argument nodes t n) (same_table other d) o)
            found.fields.commands found.fields.size
            (record { closed = c; commands_are = f.commands_are; size_is = f.size_is }));
        printed = λ none other steps most d o.
            subst (λ t. IsFound (fields_of argument nodes t entry steps most) (Ok found)) (sym (same_table other d))
            (found_here found steps most f (subst (λ t. IsPrinted argument nodes t steps most)
            (same_table other d) o));
      }

    pub underived_judged : (chosen : List Chosen) → chosen ≡ [] → (fault : NotDerived)
        → Derives (derive (argument_of library entry) nodes chosen) (Err fault)
        → DerivesUpTo (argument_of library entry) nodes chosen (Err fault)
        → (list_any begins nodes ≡ false → IsNotLarge (Err fault))
        → IsJudged library entry (Err (refusal_of_unfit nodes (unfit_of fault)))
    underived_judged chosen nothing fault d u s =
        judged_so (Err (refusal_of_unfit nodes (unfit_of fault))) (underived_here (argument_of library entry) fault
        (subst (λ those. Derives (derive (argument_of library entry) nodes those) (Err fault)) nothing d)
        (subst (λ those. DerivesUpTo (argument_of library entry) nodes those (Err fault)) nothing u) s)

    module _ (chosen : List Chosen) (nothing : chosen ≡ []) (table : Table)
        (derived : derive (argument_of library entry) nodes chosen ≡ Ok table) where
      derived_so : derive (argument_of library entry) nodes [] ≡ Ok table
      derived_so = subst (λ those. derive (argument_of library entry) nodes those ≡ Ok table) nothing derived

      pub flawed_judged : (flaw : CertificateFlaw) → Certifies (argument_of library entry) nodes table entry (Err flaw)
          → IsJudged library entry (Err (refusal_of_unfit nodes (unfit_by flaw)))
      flawed_judged flaw f = judged_so (Err (refusal_of_unfit nodes (unfit_by flaw)))
          (flawed_here (argument_of library entry) table derived_so entry flaw f)

      pub certified_judged : (found : Finding) → check (argument_of library entry) nodes table ≡ Ok tt
          → AreFieldsOf (argument_of library entry) nodes table entry found.fields
          → IsJudged library entry (Ok found)
      certified_judged found c f = judged_so (Ok found)
          (certified_here (argument_of library entry) table derived_so found c f)
