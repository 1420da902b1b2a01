-- What is promised of a macro that is certified.
use Rattle.std.specs.Prelude.{None}
use Rattle.teco_promise.specs.Promise.{Promise}
use Rattle.teco_verifier.specs.certificate.Fields.{Finding}

-- What the certificate says, but for its choices; of the text's growth and of typed bytes it says nothing.
abbrev pub promise_of : Finding → Promise
promise_of found = record {
  library = found.library;
  entry = found.fields.entry;
  argument = found.fields.argument;
  needs = found.fields.needs;
  commands = found.fields.commands;
  size = found.fields.size;
  grows = None;
  types = None;
}
