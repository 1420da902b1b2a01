-- What is noted of a call.
use Rattle.teco_hosts.specs.Events.{Event, opened_input, gave, ended, opened_output, wrote, closed, dropped, measured}
use Rattle.teco_hosts.specs.declared.history.Note.{Note}
use Rattle.teco_hosts.specs.declared.history.Note.TheVariants as note

abbrev pub event_of : Note → Event
event_of (note.OpenedInput name) = opened_input name.now
event_of (note.Gave bytes) = gave bytes.now
event_of note.Ended = ended
event_of (note.OpenedOutput name) = opened_output name.now
event_of (note.Wrote bytes) = wrote bytes.now
event_of note.Closed = closed
event_of note.Dropped = dropped
event_of (note.Measured most) = measured most
