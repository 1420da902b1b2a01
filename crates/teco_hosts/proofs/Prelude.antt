-- The names that the proofs of this crate share.
pub use Rattle.std.proofs.Common.{Bool, List, None, Option, Some, [], ap, append_assoc, arith, cond, drop, false}
pub use Rattle.std.proofs.Common.{length, length-append, length-drop, not, option_map, refl, rules, slice_range, subst}
pub use Rattle.std.proofs.Common.{suc, sym, take, true, ℕ, ◌++◌, ◌+◌, ◌-◌, ◌<◌, ◌==◌, ◌∙◌, ◌∷◌, ◌≡◌, ◌≤◌}
pub use Rattle.std.proofs.lemmas.Bool.{eqb-true}
pub use Rattle.std.proofs.lemmas.List.{append-nil, drop-drop, drop_all, take-append-drop, take_all}
pub use Rattle.std.proofs.lemmas.Result.{err_from_is_err_and}
pub use Rattle.std.specs.List.{AllByRecursion, prefix_len}
pub use Rattle.std.specs.Prelude.{Err, IfSome, Ok, Result, bytes_eq, is_some, ◌≢◌}
pub use Rattle.teco_base.specs.declared.TheConstants.{LIMIT}
pub use Rattle.teco_base.specs.declared.bytes.TheConstants.{FF}
pub use Rattle.teco_model.specs.Files.{File, Input, Output, file_named, with_closed, with_file, with_written}
pub use Rattle.teco_model.specs.Pages.{Page, before_form_feed, behind_form_feed, has_form_feed}
pub use Rattle.teco_model.specs.laws.Whole.{AreBytes}
pub use Rattle.teco_hosts.specs.Copying.{CopiesOn}
pub use Rattle.teco_hosts.specs.Events.{Event, Happened, IsOfBytes, closed, dropped, ended, gave, measured}
pub use Rattle.teco_hosts.specs.Events.{opened_input, opened_output, wrote}
pub use Rattle.teco_hosts.specs.Held.{Held, behind_held, behind_page_in, files_of, name_in, page_in, unread_bytes}
pub use Rattle.teco_hosts.specs.Held.{written_if_any}
pub use Rattle.teco_hosts.specs.HostFiles.{AreOfBytes, Becomes, HostFiles, NoneUnread, Notes, Reads, Stays, Telling}
pub use Rattle.teco_hosts.specs.HostFiles.{Tells, Told, after_writing}
pub use Rattle.teco_hosts.specs.Noting.{EndsAtEnd, Touches}
pub use Rattle.teco_hosts.specs.PageCalls.{Copies, WritesFront}
pub use Rattle.teco_hosts.specs.Reading.{EndsPage, Shifts, is_inner}
pub use Rattle.teco_hosts.specs.declared.count.Count.{Count}
pub use Rattle.teco_hosts.specs.declared.fault.Fault.{Fault}
pub use Rattle.teco_hosts.specs.declared.fault.Fault.TheVariants.{Full, In, Memory, NoFile, Out}
