-- Answers, by what was written.
use Rattle.std.proofs.Common.{◌≡◌, ℕ, inl, inr, List, Option, Result, Ok, Err, IfOk, IsErr}
use Rattle.std.proofs.Common.{refl, sym, ap, subst, codes}
use Rattle.std.specs.Io.KnownBytes.{Keeps}
use Rattle.teco_library.specs.Library.{LibraryFile}
use Rattle.teco_library.specs.Reads.{Reads}
use Rattle.teco_certificate.specs.Text.{certificate_text}
use Rattle.teco_verifier.specs.certificate.Fields.{Finding}
use Rattle.teco_verify.specs.Again.{AreMadeAgain}
use Rattle.teco_verify.specs.Certified.{IsCertified, TakesDeclared}
use Rattle.teco_verify.specs.Straight.{StraightIsVerified}
use Rattle.teco_verify.specs.declared.refusal.Refusal.{Refusal}
use Rattle.teco_verify.specs.declared.refusal.Refusal.TheVariants.{No, Memory}
use Rattle.teco_verify.specs.Refusing.{IsOfCertificate, PrintedIsFound, RefusedIsDerived, RefusedIsExpansions}
use Rattle.teco_verify.specs.Refusing.{RefusedIsOverflow, RefusedIsUnclosed, refusal_of_certificate}
use Rattle.std.specs.Result.{IfErr}
use Rattle.teco_verdicts.specs.Answers.{Answer, Answers, AnswersIn, ChecksByTable}
use Rattle.teco_acceptance.specs.Refused.{IsDeniedBy, IsRefusal, IsRefusedByTable, IsUnclaimedFor, told_of}
use Rattle.teco_verdicts.specs.Answers.{IsStraightVerdict, OfText, VerdictByTable}
use Rattle.teco_acceptance.specs.Refused.{ReadsNone, Refuses}
use Rattle.teco_verdicts.specs.Certificates.{IsCertificate}
use Rattle.teco_verdicts.specs.Linear.{ChecksByClaims, VerdictByClaims}
use Rattle.teco_acceptance.specs.Lines.{refused_line}
use Rattle.teco_console.specs.Output.{Writes}
use Rattle.teco_verdicts.specs.Methods.{ChecksBy, ChecksIn, VerdictBy, VerdictIn}
use Rattle.teco_acceptance.specs.Editions.{edition_by}
use Rattle.teco_claimed.specs.declared.refusal.LinearRefusal.{LinearRefusal}
use Rattle.teco_claimed.specs.declared.refusal.LinearRefusal.TheVariants as linear
use Rattle.teco_console.specs.declared.method.Edition.{Edition}
use Rattle.teco_console.specs.declared.method.Edition.TheVariants.{Second}
use Rattle.teco_console.specs.declared.method.Method.{Method}
use Rattle.teco_console.specs.declared.method.Method.TheVariants.{Only, Best}
use Rattle.teco_console.specs.declared.outcome.Outcome.{Outcome}
use Rattle.teco_console.specs.declared.outcome.Outcome.TheVariants.{Done, Coded, Refused}

-- what was written of an answer with this outcome
pub of_written : {E : Type 0} (IsAnswer : Answer) (old new : Option (List ℕ)) (outcome : Outcome) (text : List ℕ)
    (result : Result Outcome E) → IsAnswer outcome text → IfOk result (λ o. o ≡ outcome) → Writes old new text result
    → Answers IsAnswer old new result
of_written IsAnswer old new outcome text (Ok o) answer same written =
    record { text = text; answer = subst (λ it. IsAnswer it text) (sym same) answer; whole = written }
of_written IsAnswer old new outcome text (Err fault) answer same written =
    inr (record { outcome = outcome; text = text; answer = answer; front = written })

-- answers of one kind are answers of another
pub answers_as : {E : Type 0} (IsAnswer Other : Answer) (old new : Option (List ℕ)) (result : Result Outcome E)
    → ((outcome : Outcome) (text : List ℕ) → IsAnswer outcome text → Other outcome text)
    → Answers IsAnswer old new result → Answers Other old new result
answers_as IsAnswer Other old new (Ok outcome) is p =
    record { text = p.text; answer = is outcome p.text p.answer; whole = p.whole }
answers_as IsAnswer Other old new (Err fault) is (inl kept) = inl kept
answers_as IsAnswer Other old new (Err fault) is (inr p) =
    inr (record { outcome = p.outcome; text = p.text; answer = is p.outcome p.text p.answer; front = p.front })

in_text : (In : LibraryFile → Answer) (source : List ℕ) (outcome : Outcome) (text : List ℕ)
    → AnswersIn In source outcome text → OfText In source outcome text
in_text In source Done text p = p
in_text In source Coded text p = p
in_text In source Refused text p = inl p

-- an answer on a library is one on its text
pub of_library : {E : Type 0} (In : LibraryFile → Answer) (source : List ℕ) (library : LibraryFile)
    (old new : Option (List ℕ)) (result : Result Outcome E) → Reads source (Ok library)
    → Answers (In library) old new result → Answers (OfText In source) old new result
of_library In source library old new result read p =
    answers_as (In library) (OfText In source) old new result
    (λ outcome text answer. in_text In source outcome text (record { library = library; read = read; answer = answer }))
    p

-- with a fault nothing was written
pub of_none : {E : Type 0} (IsAnswer : Answer) (old new : Option (List ℕ)) (result : Result Outcome E) → IsErr result
    → Keeps old new → Answers IsAnswer old new result
of_none IsAnswer old new (Ok outcome) failed kept = absurd (cc)
of_none IsAnswer old new (Err fault) failed kept = inl kept

-- the line of a refusal
pub of_refusal : {E : Type 0} (IsAnswer : Answer) (old new : Option (List ℕ)) (refusal : Refusal)
    (result : Result Outcome E) → IsAnswer Refused (refused_line refusal) → IfOk result (λ o. o ≡ Refused)
    → Refuses old new refusal result → Answers IsAnswer old new result
of_refusal IsAnswer old new (No reason register place) result answer refused p =
    of_written IsAnswer old new Refused (refused_line (No reason register place)) result answer refused p
of_refusal IsAnswer old new Memory result answer refused p = of_none IsAnswer old new result p.0 p.1

-- the line for a text that is no library
pub of_no_library : {E : Type 0} (In : LibraryFile → Answer) (source : List ℕ) (old new : Option (List ℕ))
    (refusal : Refusal) (result : Result Outcome E) → ReadsNone source refusal → IfOk result (λ o. o ≡ Refused)
    → Refuses old new refusal result → Answers (OfText In source) old new result
of_no_library In source old new (No reason register place) result none refused p =
    of_written (OfText In source) old new Refused (refused_line (No reason register place)) result
    (inr (record { place = place; none = none.1; line = ap refused_line none.0 })) refused p
of_no_library In source old new Memory result none refused p = of_none (OfText In source) old new result p.0 p.1

-- what is found of straight text
pub straight_verdict : (library : LibraryFile) (entry : ℕ) (verdict : Result Finding Refusal)
    → StraightIsVerified library entry verdict → IsStraightVerdict library entry verdict
straight_verdict library entry (Ok found) straight = straight
straight_verdict library entry (Err refusal) straight = tt

-- the verdicts of `verify` by a table
pub by_table : (library : LibraryFile) (entry : ℕ) (found : Finding) → found.library ≡ library.texts
    → IsCertified found.library found.fields → TakesDeclared library found.fields → found.fields.entry ≡ entry
    → IsStraightVerdict library entry (Ok found) → AreMadeAgain library found.fields
    → VerdictByTable library entry Done (certificate_text found.fields)
by_table library entry found same certified declared of_entry straight made = record {
  certificate = record {
    fields = found.fields;
    certified = subst (λ texts. IsCertified texts found.fields) same certified;
    declared = declared;
    of_entry = of_entry;
    spelled = refl;
  };
  straight = λ text elements none is. ap certificate_text (straight text elements none is);
  made = made;
}

pub of_verified : {E : Type 0} (library : LibraryFile) (entry : ℕ) (old new : Option (List ℕ))
    (found : Finding) (result : Result Outcome E) → found.library ≡ library.texts
    → IsCertified found.library found.fields → TakesDeclared library found.fields → found.fields.entry ≡ entry
    → IsStraightVerdict library entry (Ok found) → AreMadeAgain library found.fields → IfOk result (λ o. o ≡ Done)
    → Writes old new (certificate_text found.fields) result → Answers (VerdictByTable library entry) old new result
of_verified library entry old new found result same certified declared of_entry straight made done written =
    of_written (VerdictByTable library entry) old new Done (certificate_text found.fields) result
    (by_table library entry found same certified declared of_entry straight made) done written

pub of_refused : {E : Type 0} (library : LibraryFile) (entry : ℕ) (old new : Option (List ℕ))
    (refusal : Refusal) (result : Result Outcome E) → IsRefusal library entry refusal
    → IfOk result (λ o. o ≡ Refused) → Refuses old new refusal result
    → Answers (VerdictByTable library entry) old new result
of_refused library entry old new refusal result is refused p =
    of_refusal (VerdictByTable library entry) old new refusal result
    (record { refusal = refusal; refused = is; line = refl }) refused p

-- the answers of `check` by a table
pub of_accepted : {E : Type 0} (bytes : List ℕ) (library : LibraryFile) (entry : ℕ)
    (old new : Option (List ℕ)) (result : Result Outcome E) → IsCertificate library entry bytes
    → IfOk result (λ o. o ≡ Done) → Writes old new (codes "accepted\n") result
    → Answers (ChecksByTable bytes library entry) old new result
of_accepted bytes library entry old new result certificate done written =
    of_written (ChecksByTable bytes library entry) old new Done (codes "accepted\n") result (
      certificate,
      refl,
    ) done written

pub of_denied : {E : Type 0} (bytes : List ℕ) (library : LibraryFile) (entry : ℕ)
    (old new : Option (List ℕ)) (refusal : Refusal) (result : Result Outcome E) → IsOfCertificate refusal
    → IsDeniedBy bytes library entry refusal → IfOk result (λ o. o ≡ Refused) → Refuses old new refusal result
    → Answers (ChecksByTable bytes library entry) old new result
of_denied bytes library entry old new (No reason register place) result spelled denied refused p =
    of_refusal (ChecksByTable bytes library entry) old new (No reason register place) result (
      denied,
      ap refused_line spelled,
    ) refused p
of_denied bytes library entry old new Memory result spelled denied refused p =
    of_none (ChecksByTable bytes library entry) old new result p.0 p.1

-- what is promised of a refusal
pub refused_verdict : (library : LibraryFile) (entry : ℕ) (verdict : Result Finding Refusal)
    → StraightIsVerified library entry verdict → RefusedIsExpansions library entry verdict
    → RefusedIsDerived library entry verdict → RefusedIsUnclosed library entry verdict
    → RefusedIsOverflow library entry verdict → PrintedIsFound library entry verdict
    → IfErr verdict (IsRefusal library entry)
refused_verdict library entry (Ok found) straight unexpanded derived unclosed overflow printed = tt
refused_verdict library entry (Err refusal) straight unexpanded derived unclosed overflow printed = record {
  straight = straight;
  unexpanded = unexpanded;
  judged = record { derived = derived; unclosed = unclosed; overflow = overflow; printed = printed };
}

-- answers of an edition are answers of a method that has it
pub verdict_by : {E : Type 0} (asked : Edition) (library : LibraryFile) (entry : ℕ) (old new : Option (List ℕ))
    (result : Result Outcome E) → Answers (VerdictIn asked library entry) old new result
    → Answers (VerdictBy (Only asked) library entry) old new result
verdict_by asked library entry old new result p =
    answers_as (VerdictIn asked library entry) (VerdictBy (Only asked) library entry) old new result
    (λ outcome text answer. record { edition = asked; among = refl; answer = answer; by_both = tt }) p

-- where either edition may accept: a certificate of one,
pub accepted_by : {E : Type 0} (edition : Edition) (library : LibraryFile) (entry : ℕ) (old new : Option (List ℕ))
    (text : List ℕ) (result : Result Outcome E) → VerdictIn edition library entry Done text
    → IfOk result (λ o. o ≡ Done) → Writes old new text result → Answers (VerdictBy Best library entry) old new result
accepted_by edition library entry old new text result answer done written =
    of_written (VerdictBy Best library entry) old new Done text result
    (record { edition = edition; among = tt; answer = answer; by_both = tt }) done written

-- and the refusal of one, where the other refuses
refused_too : (library : LibraryFile) (entry : ℕ) (outcome : Outcome) (text : List ℕ) → IsRefusedByTable library entry
    → VerdictByClaims library entry outcome text → VerdictBy Best library entry outcome text
refused_too library entry Done text refused answer =
    record { edition = Second; among = tt; answer = answer; by_both = tt }
refused_too library entry Coded text refused answer = absurd answer
refused_too library entry Refused text refused answer =
    record { edition = Second; among = tt; answer = answer; by_both = refused }

pub refused_by_both : {E : Type 0} (library : LibraryFile) (entry : ℕ) (old new : Option (List ℕ))
    (result : Result Outcome E) → IsRefusedByTable library entry
    → Answers (VerdictByClaims library entry) old new result → Answers (VerdictBy Best library entry) old new result
refused_by_both library entry old new result refused p =
    answers_as (VerdictByClaims library entry) (VerdictBy Best library entry) old new result
    (λ outcome text answer. refused_too library entry outcome text refused answer) p

-- the answers of the edition by which is checked
pub checks_by : {E : Type 0} (method : Method) (edition : Edition) (bytes : List ℕ) (library : LibraryFile) (entry : ℕ)
    (old new : Option (List ℕ)) (result : Result Outcome E) → edition ≡ edition_by method bytes
    → Answers (ChecksIn edition bytes library entry) old new result
    → Answers (ChecksBy method bytes library entry) old new result
checks_by method edition bytes library entry old new result is p =
    subst (λ (by : Edition). Answers (ChecksIn by bytes library entry) old new result) is p

-- the answers by claims
pub refused_by_claims : {E : Type 0} (library : LibraryFile) (entry : ℕ) (old new : Option (List ℕ))
    (refusal : Refusal) (result : Result Outcome E) → IfOk result (λ o. o ≡ Refused) → Refuses old new refusal result
    → Answers (VerdictByClaims library entry) old new result
refused_by_claims library entry old new refusal result refused p =
    of_refusal (VerdictByClaims library entry) old new refusal result (refusal, refl) refused p

pub denied_by_claims : {E : Type 0} (bytes : List ℕ) (library : LibraryFile) (entry : ℕ) (old new : Option (List ℕ))
    (refused : LinearRefusal) (result : Result Outcome E) → IsUnclaimedFor bytes library entry refused
    → IfOk result (λ o. o ≡ Refused) → Refuses old new (told_of refused) result
    → Answers (ChecksByClaims bytes library entry) old new result
denied_by_claims bytes library entry old new linear.Memory result why done p =
    of_none (ChecksByClaims bytes library entry) old new result p.0 p.1
denied_by_claims bytes library entry old new refused result why done p =
    of_refusal (ChecksByClaims bytes library entry) old new refusal_of_certificate result (
      record { refused = refused; why = why; some = λ same. absurd (cc) },
      refl,
    ) done p
