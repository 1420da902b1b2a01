use Rattle.std.proofs.Common.{refl, subst}
use Rattle.teco_certificate.specs.Text.{certificate_text}
use Rattle.teco_claimed.specs.Claimed.{IsChecked}
use Rattle.teco_claimed.specs.Text.{linear_text}
use Rattle.teco_console.specs.declared.method.Edition.TheVariants.{First, Second}
use Rattle.teco_library.specs.Library.{LibraryFile}
use Rattle.teco_verdicts.proofs.Answering.{accepted_by, by_table, refused_by_both}
use Rattle.teco_acceptance.specs.Refused.{IsRefusal}
use Rattle.teco_verdicts.proofs.verifying.verify_by_either.Goals as goal

pub returns-in-Ok : goal.returns-in-Ok
returns-in-Ok g c =
    let certificate = c.in-Ok.claimed.certificate in
    accepted_by Second c.args.library.now c.args.entry _ _ (linear_text certificate) c.accept_claims.result
    (record {
      certificate = certificate;
      checked = subst (λ (library : LibraryFile). IsChecked library certificate) c.in-Ok.ensures.library
          c.is_checked.ensures;
      of_entry = c.in-Ok.ensures.entry;
      spelled = refl;
    })
    c.accept_claims.ensures.outcome c.accept_claims.ensures.text

pub returns-in-Ok-verify : goal.returns-in-Ok-verify
returns-in-Ok-verify g c =
    let told = c.in-Ok-verify.ensures in
    let verified = c.in-Ok-verify.verified in
    accepted_by First c.args.library.now c.args.entry _ _ (certificate_text verified.fields) c.accept.result
    (by_table c.args.library.now c.args.entry verified told.library c.is_certified.ensures told.argument told.entry
    told.straight told.made)
    c.accept.ensures.outcome c.accept.ensures.text

pub returns-in-Err-No : goal.returns-in-Err-No
returns-in-Err-No g c =
    let library = c.args.library.now in
    let told = c.in-Err-No.ensures in
    refused_by_both library c.args.entry _ _ c.tell_refused.result
    (record {
      why = c.in-Err-No.field-0-0;
      register = c.in-Err-No.field-0-1;
      place = c.in-Err-No.field-0-2;
      refused = subst (IsRefusal library c.args.entry) c.in-Err-No.field-0-is (record {
        straight = told.straight;
        unexpanded = told.unexpanded;
        judged = record {
          derived = told.underived;
          unclosed = told.unclosed;
          overflow = told.overflow;
          printed = told.printed;
        };
      });
    })
    c.tell_refused.ensures
