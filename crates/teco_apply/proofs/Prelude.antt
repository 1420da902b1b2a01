-- The names that the proofs of this crate share.
pub use Rattle.std.proofs.Common.{Bool, Err, IsSome, List, None, Ok, Option, Result, Some, [], ap, arith, false, inl}
pub use Rattle.std.proofs.Common.{inr, length, nat_le, not, option_map, refl, rules, subst, suc, sym, take, true, zero}
pub use Rattle.std.proofs.Common.{ℕ, ◌++◌, ◌+◌, ◌-◌, ◌<◌, ◌∙◌, ◌∷◌, ◌≡◌, ◌≢◌, ◌≤◌}
pub use Rattle.std.proofs.lemmas.Bool.Decides.{nat_tests}
pub use Rattle.teco_apply.specs.Apply.{AnswersText, BothOpen, Lacks, MacroStops, closing, has_esc, opening, stop_of}
pub use Rattle.teco_apply.specs.ByPages.{AdmittedStops, Behind, BehindMacro, BehindPage, Closing, EditsPages, EditsText}
pub use Rattle.teco_apply.specs.ByPages.{EndsInMacro, EndsWith, FileEdited, Gathers, Once, OpensBoth, Order, PagesCount}
pub use Rattle.teco_apply.specs.ByPages.{PagesGathered, PagesTurned, RunsAdmitted, is_dropped, nothing_done, order_by}
pub use Rattle.teco_apply.specs.ByPages.{to_start}
pub use Rattle.teco_apply.specs.Sure.{Calls, HasFiles, IsReady, MOST, TakesArgument, call_text, kept_loaded}
pub use Rattle.teco_apply.specs.Sure.{PromisedCall}
pub use Rattle.teco_apply.specs.Touched.{EditTouches, IsReadyLoaded, TouchesByParts, TouchesNone, by_dropping, by_none}
pub use Rattle.teco_apply.specs.Touched.{by_string, in_turn}
pub use Rattle.teco_apply.specs.declared.by_pages.Edited.{Edited}
pub use Rattle.teco_options.specs.declared.editing.PageChoice.{PageChoice}
pub use Rattle.teco_options.specs.declared.editing.PageChoice.TheVariants.{First}
pub use Rattle.teco_apply.specs.declared.by_pages.TheConstants.{PAGES}
pub use Rattle.teco_apply.specs.declared.ready.NotReady.{NotReady}
pub use Rattle.teco_apply.specs.declared.stages.Ran.{Ran}
pub use Rattle.teco_apply.specs.declared.stages.Tally.{Tally}
pub use Rattle.teco_base.specs.declared.TheConstants.{REGISTERS}
pub use Rattle.teco_filing.specs.Worlds.{world}
pub use Rattle.teco_model.specs.Element.{Element}
unfoldable pub use Rattle.teco_model.specs.Element.{element_at}
pub use Rattle.teco_model.specs.Files.{Input, Output}
pub use Rattle.teco_model.specs.Macros.{IsLoaded}
pub use Rattle.teco_model.specs.Paging.{unread}
pub use Rattle.teco_model.specs.Run.{Stops, go_on}
unfoldable pub use Rattle.teco_model.specs.Run.{run}
pub use Rattle.teco_model.specs.Session.{code_of, is_code}
pub use Rattle.teco_model.specs.State.{End, Kept, Next, State, World, start}
unfoldable pub use Rattle.teco_model.specs.Step.{step}
pub use Rattle.teco_model.specs.declared.kind.Kind.{Kind}
pub use Rattle.teco_model.specs.declared.stop.Stop.{Stop}
pub use Rattle.teco_hosts.proofs.Told.{told-map, told-whole}
pub use Rattle.teco_hosts.specs.Events.{Event}
pub use Rattle.teco_hosts.specs.Held.{Held, IsSameOutput, unread_bytes}
pub use Rattle.teco_hosts.specs.HostFiles.{AreOfBytes, HostFiles, Notes, Telling, Tells}
pub use Rattle.teco_hosts.specs.Noting.{Touches}
pub use Rattle.teco_hosts.specs.Possible.{NotesFit}
pub use Rattle.teco_run.specs.Holdings.{Holdings, Joined}
pub use Rattle.teco_run.specs.Touched.{TouchesBySteps, touched_in_run}
pub use Rattle.teco_session.proofs.Together.{Joined-on, Joined-stays}
pub use Rattle.teco_session.specs.Answers.{Said}
pub use Rattle.teco_session.specs.declared.fault.SessionFault.{SessionFault}
pub use Rattle.teco_session.specs.declared.sessions.Done.{Done}
