-- A printed certificate is accepted.
use Rattle.std.proofs.Common.{sym}
use Rattle.teco_verdicts.specs.RoundTrip.{PrintedIsAccepted}

pub printed_is_accepted : PrintedIsAccepted
printed_is_accepted library entry text line printed refused =
    let certificate = printed.certificate in
    refused.0.none certificate.fields printed.made certificate.of_entry (sym certificate.spelled)
