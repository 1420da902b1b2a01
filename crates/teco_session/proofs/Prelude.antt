-- The names that the proofs of this crate share.
pub use Rattle.std.proofs.Common.{Bool, Err, List, None, Ok, Option, Result, Some, [], ap, append-nil, append_assoc}
pub use Rattle.std.proofs.Common.{arith, drop, false, inl, inr, length, length-append, refl, subst, sym, take, true, ℕ}
pub use Rattle.std.proofs.Common.{◌++◌, ◌+◌, ◌-◌, ◌<◌, ◌||◌, ◌∙◌, ◌∷◌, ◌≡◌, ◌≢◌, ◌≤◌, ◌⊎◌}
pub use Rattle.std.proofs.KnownBytes.{Appends-trans, Consumes-nil, Consumes-trans, prepend_known-nil}
pub use Rattle.std.proofs.lemmas.List.{take_all}
pub use Rattle.std.proofs.lemmas.Result.{err_from_is_err_and}
pub use Rattle.std.specs.Io.KnownBytes.{Appends, Consumes, Keeps, prepend_known}
pub use Rattle.std.specs.Prelude.{IfOk}
pub use Rattle.teco_model.specs.Run.{StopCounts, Stops}
pub use Rattle.teco_model.specs.Session.{IsCommandString, Session, SessionToEnd, code_line, code_of, is_code, is_exit}
pub use Rattle.teco_model.specs.Session.{rest_code}
unfoldable pub use Rattle.teco_model.specs.Session.{string_end}
pub use Rattle.teco_model.specs.State.{World, start}
pub use Rattle.teco_model.specs.declared.session.Limits.{Limits}
pub use Rattle.teco_model.specs.declared.stop.Stop.{Stop}
pub use Rattle.teco_hosts.specs.HostFiles.{Telling}
pub use Rattle.teco_run.specs.Holdings.{Holdings, Joined}
pub use Rattle.teco_session.specs.Answers.{Answers, Runs, Said}
pub use Rattle.teco_session.specs.FirstCode.{Hears}
pub use Rattle.teco_session.specs.Output.{Writes}
pub use Rattle.teco_session.specs.Sessions.{BreaksOff, Finishes, Serves, Setting, setting}
pub use Rattle.teco_session.specs.Strings.{IsPiece, IsRest, IsUnended}
pub use Rattle.teco_session.specs.declared.ahead.TheConstants.{CHUNK}
pub use Rattle.teco_session.specs.declared.fault.SessionFault.{SessionFault}
pub use Rattle.teco_session.specs.declared.fault.SessionFault.TheVariants.{Argument, Memory, Read, Write}
pub use Rattle.teco_session.specs.declared.sessions.Done.{Done}
pub use Rattle.teco_session.specs.declared.sessions.TheConstants.{STRINGS}
pub use Rattle.teco_session.specs.declared.strings.Piece.{Piece}
pub use Rattle.teco_session.specs.declared.strings.Piece.TheVariants.{Command, Rest}
