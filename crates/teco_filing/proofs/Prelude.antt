-- The names that the proofs of this crate share.
pub use Rattle.std.proofs.Common.{Err, List, None, Ok, Option, Some, [], ap, refl, rules, subst, sym, ℕ, ◌++◌, ◌∙◌, ◌≡◌}
pub use Rattle.std.proofs.lemmas.List.{append-nil}
pub use Rattle.std.proofs.lemmas.Result.{err_from_is_err_and}
pub use Rattle.std.specs.Prelude.{IsSome}
pub use Rattle.teco_base.specs.Does.{Updates}
pub use Rattle.teco_filing.specs.Failures.{writing}
pub use Rattle.teco_filing.specs.Halts.{halt_cause, halt_of}
pub use Rattle.teco_filing.specs.Worlds.{world}
pub use Rattle.teco_model.specs.Files.{Output, with_written}
pub use Rattle.teco_model.specs.Pages.{Page, written_page}
pub use Rattle.teco_model.specs.Paging.{page_of_buffer, unread}
pub use Rattle.teco_model.specs.State.{Kept}
pub use Rattle.teco_hosts.proofs.Told.{told-on, told-same}
pub use Rattle.teco_hosts.proofs.Touching.{touches-more}
pub use Rattle.teco_hosts.specs.Held.{Held, IsSameOutput, files_of, unread_bytes}
pub use Rattle.teco_hosts.specs.HostFiles.{HostFiles, Telling, Told, after_writing}
pub use Rattle.teco_hosts.specs.declared.fault.Fault.{Fault}
