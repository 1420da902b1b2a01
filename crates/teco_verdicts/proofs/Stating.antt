-- Objects of JSON, by their parts.
use Rattle.std.proofs.Common.{◌≡◌, subst, List, IfOk, ℕ, Option, Some, None, Result, Ok, inl, inr}
use Rattle.teco_library.specs.Library.{LibraryFile}
use Rattle.teco_library.specs.Reads.{Reads}
use Rattle.teco_verify.specs.declared.refusal.Refusal.{Refusal}
use Rattle.teco_verify.specs.declared.refusal.Refusal.TheVariants.{No, Memory}
use Rattle.teco_console.specs.Output.{Writes}
use Rattle.teco_console.specs.declared.method.Method.{Method}
use Rattle.teco_console.specs.declared.outcome.Outcome.{Outcome}
use Rattle.teco_console.specs.declared.outcome.Outcome.TheVariants.{Done, Coded, Refused}
use Rattle.teco_acceptance.specs.Accepted.{IsAmong, IsOf, IsProved, certificate_of, edition_of, promise_of}
use Rattle.teco_acceptance.specs.Lines.{verdict_of}
use Rattle.teco_acceptance.specs.Refused.{IsRefusedBy, ReadsNone}
use Rattle.teco_acceptance.specs.declared.acceptance.Accepted.{Accepted}
use Rattle.teco_acceptance.specs.declared.verdict.Verdict.{Verdict}
use Rattle.teco_verdicts.proofs.Answering.{answers_as, of_written}
use Rattle.teco_verdicts.specs.Answers.{Answer, Answers, AnswersIn, WritesAnswer}
use Rattle.teco_verdicts.specs.Methods.{ChecksBy}
use Rattle.teco_verdicts.specs.Json as json
use Rattle.teco_verdicts.specs.declared.objects.Remark.{Remark}
use Rattle.teco_verdicts.specs.Json.{CheckObjectBy, NoLibraryBy, ObjectBy, ObjectsOfText}

-- the answers on a macro
pub of_accepted : {E : Type 0} (method : Method) (library : LibraryFile) (entry : ℕ) (old new : Option (List ℕ))
    (accepted : Accepted) (text : List ℕ) (result : Result Outcome E) → IsOf library entry accepted → IsProved accepted
    → IsAmong method (edition_of accepted) → json.IsObjectOf (promise_of accepted) text → IfOk result (λ o. o ≡ Done)
    → Writes old new text result → Answers (ObjectBy method library entry) old new result
of_accepted method library entry old new accepted text result is proved among object done written =
    of_written (ObjectBy method library entry) old new Done text result
    (record { accepted = accepted; is = is; proved = proved; among = among; object = object }) done written

pub of_refused : {E : Type 0} (method : Method) (library : LibraryFile) (entry : ℕ) (old new : Option (List ℕ))
    (refusal : Refusal) (verdict : Verdict) (remark : Remark) (text : List ℕ) (result : Result Outcome E)
    → IsRefusedBy method library entry refusal → verdict_of refusal ≡ Some verdict
    → text ≡ json.refusal_text (Some entry) verdict remark → IfOk result (λ o. o ≡ Refused)
    → Writes old new text result
    → Answers (ObjectBy method library entry) old new result
of_refused method library entry old new refusal verdict remark text result refused told spelled done written =
    of_written (ObjectBy method library entry) old new Refused text result
    (record {
      refusal = refusal;
      verdict = verdict;
      remark = remark;
      refused = refused;
      told = told;
      spelled = spelled;
    })
    done written

-- those on a text that is no library
no_library : (source : List ℕ) (refusal : Refusal) (verdict : Verdict) (remark : Remark) (text : List ℕ)
    → ReadsNone source refusal → verdict_of refusal ≡ Some verdict → text ≡ json.refusal_text None verdict remark
    → json.IsNoLibraryObject source text
no_library source (No reason register place) verdict remark text none told spelled =
    record { place = place; remark = remark; none = none.1; spelled = cc }
no_library source Memory verdict remark text none told spelled = absurd (cc)

pub of_none_read : {E : Type 0} (source : List ℕ) (old new : Option (List ℕ)) (refusal : Refusal) (verdict : Verdict)
    (remark : Remark) (text : List ℕ) (result : Result Outcome E) → ReadsNone source refusal
    → verdict_of refusal ≡ Some verdict → text ≡ json.refusal_text None verdict remark → IfOk result (λ o. o ≡ Refused)
    → Writes old new text result → Answers (NoLibraryBy source) old new result
of_none_read source old new refusal verdict remark text result none told spelled done written =
    of_written (NoLibraryBy source) old new Refused text result
    (no_library source refusal verdict remark text none told spelled) done written

in_text : (In : LibraryFile → Answer) (source : List ℕ) (outcome : Outcome) (text : List ℕ)
    → AnswersIn In source outcome text → ObjectsOfText In source outcome text
in_text In source Done text p = p
in_text In source Coded text p = p
in_text In source Refused text p = inl p

-- an answer on a library is one on its text
pub of_library : {E : Type 0} (In : LibraryFile → Answer) (source : List ℕ) (library : LibraryFile)
    (old new : Option (List ℕ)) (result : Result Outcome E) → Reads source (Ok library)
    → Answers (In library) old new result → Answers (ObjectsOfText In source) old new result
of_library In source library old new result read p =
    answers_as (In library) (ObjectsOfText In source) old new result
    (λ outcome text answer. in_text In source outcome text (record { library = library; read = read; answer = answer }))
    p

none_in_text : (In : LibraryFile → Answer) (source : List ℕ) (outcome : Outcome) (text : List ℕ)
    → NoLibraryBy source outcome text → ObjectsOfText In source outcome text
none_in_text In source Done text p = absurd p
none_in_text In source Coded text p = absurd p
none_in_text In source Refused text p = inr p

pub of_no_library : {E : Type 0} (In : LibraryFile → Answer) (source : List ℕ) (old new : Option (List ℕ))
    (result : Result Outcome E) → Answers (NoLibraryBy source) old new result
    → Answers (ObjectsOfText In source) old new result
of_no_library In source old new result p =
    answers_as (NoLibraryBy source) (ObjectsOfText In source) old new result (none_in_text In source) p

-- the answers on a certificate
pub of_checked : {E : Type 0} (method : Method) (bytes : List ℕ) (library : LibraryFile) (entry : ℕ)
    (old new : Option (List ℕ)) (accepted : Accepted) (text : List ℕ) (result : Result Outcome E)
    → IsOf library entry accepted → IsProved accepted → certificate_of accepted ≡ bytes
    → json.IsObjectOf (promise_of accepted) text → IfOk result (λ o. o ≡ Done) → Writes old new text result
    → Answers (CheckObjectBy method bytes library entry) old new result
of_checked method bytes library entry old new accepted text result is proved spelled object done written =
    of_written (CheckObjectBy method bytes library entry) old new Done text result
    (record { accepted = accepted; is = is; proved = proved; spelled = spelled; object = object }) done written

pub of_denied : {E F : Type 0} (method : Method) (bytes : List ℕ) (library : LibraryFile) (entry : ℕ)
    (old new before after : Option (List ℕ)) (remark : Remark) (text : List ℕ) (checked : Result Outcome F)
    (result : Result Outcome E) → Answers (ChecksBy method bytes library entry) before after checked
    → checked ≡ Ok Refused → text ≡ json.refusal_text (Some entry) json.denied_verdict remark
    → IfOk result (λ o. o ≡ Refused) → Writes old new text result
    → Answers (CheckObjectBy method bytes library entry) old new result
of_denied method bytes library entry old new before after remark text checked result answer is spelled done written =
    let told : WritesAnswer (ChecksBy method bytes library entry) before after Refused =
    subst (Answers (ChecksBy method bytes library entry) before after) is answer in
    of_written (CheckObjectBy method bytes library entry) old new Refused text result
    (record { line = told.text; denied = told.answer; remark = remark; spelled = spelled }) done written
