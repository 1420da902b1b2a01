-- The names that the proofs of this crate share.
pub use Rattle.std.proofs.Common.{Bool, Err, List, None, Ok, Option, Result, Some, [], add-one, add-suc, add-zero, ap}
pub use Rattle.std.proofs.Common.{arith, drop, false, if◌then◌else◌, inl, inr, is_some, length, length-drop}
pub use Rattle.std.proofs.Common.{length-take, nat_eq, nat_le, pos, refl, reverse, rules, subst, suc, sym, take, true}
pub use Rattle.std.proofs.Common.{w32, zero, ℕ, ℤ, ◌&&◌, ◌++◌, ◌+◌, ◌-◌, ◌<◌, ◌∙◌, ◌∷◌, ◌≡◌, ◌≤◌, ◌⊎◌}
pub use Rattle.std.proofs.Math.Dec.{eqb-suc-zero}
pub use Rattle.std.proofs.lemmas.Bool.{leb-false, leb-true}
pub use Rattle.std.proofs.lemmas.Grind.{common_steps}
pub use Rattle.std.proofs.lemmas.Int.{to_z-of_z}
pub use Rattle.std.proofs.lemmas.List.{append-nil, drop_all, length-reverse}
pub use Rattle.std.specs.Option.{ok_or, option_map_or}
pub use Rattle.std.specs.Prelude.{IfOk, IsSome, IsTrue, MatchOption, unwrap_or}
pub use Rattle.teco_base.specs.Does.{Does, IsDoneOrFull, Updates, memory_where}
pub use Rattle.teco_base.specs.declared.code.Code.{Code}
pub use Rattle.teco_editor.specs.Commands.{stuck_cause}
pub use Rattle.teco_editor.specs.declared.stuck.Stuck.{Stuck}
pub use Rattle.teco_filing.specs.Halts.{halt_by_stuck, halt_cause}
pub use Rattle.teco_filing.specs.Worlds.{TellsUnread}
pub use Rattle.teco_filing.specs.declared.halt.Halt.{Halt}
pub use Rattle.teco_filing.specs.declared.halt.Halt.TheVariants.{Host, Memory}
pub use Rattle.teco_model.specs.Arguments.{Arguments, arguments_of, levels_after_answer, levels_after_taking}
pub use Rattle.teco_model.specs.Arguments.{no_arguments}
pub use Rattle.teco_model.specs.Checked.{◌>>=◌}
pub use Rattle.teco_model.specs.Element.{Element, blank_end, seen}
unfoldable pub use Rattle.teco_model.specs.Element.{element_at}
pub use Rattle.teco_model.specs.Faults.{Breaks, WritesPart}
pub use Rattle.teco_model.specs.Files.{Files, Output}
pub use Rattle.teco_model.specs.Going.{Again, Along, Behind, Reply, code_by, code_in, code_of, replying, settle}
pub use Rattle.teco_model.specs.Going.{settled}
pub use Rattle.teco_model.specs.Memory.{MayGiveWay, grows, reads_page, taken_at}
pub use Rattle.teco_model.specs.Outside.{append_reply, filed, going_on, in_pages}
pub use Rattle.teco_model.specs.Paging.{MetHere, Progress, WantedYet, look_for, look_here, one_page_of, page_count}
pub use Rattle.teco_model.specs.Paging.{page_looked_for, page_turned, pages, pages_of, unread, world_seeking}
pub use Rattle.teco_model.specs.Run.{Reaches, Stops, go_on}
unfoldable pub use Rattle.teco_model.specs.Run.{run}
pub use Rattle.teco_model.specs.Searching.{has_colon, search_reply}
pub use Rattle.teco_model.specs.State.{End, Fail, Frame, Frames, Kept, Next, Outcome, State, World, start}
pub use Rattle.teco_model.specs.Step.{end_of_text, outcome_at}
unfoldable pub use Rattle.teco_model.specs.Step.{reply_of, step}
pub use Rattle.teco_model.specs.Storage.{text_in}
pub use Rattle.teco_model.specs.declared.arguments.Taken.{Taken}
pub use Rattle.teco_model.specs.declared.flow.Loop.{Loop}
pub use Rattle.teco_model.specs.declared.kind.File.{File}
pub use Rattle.teco_model.specs.declared.kind.Kind.{Kind}
pub use Rattle.teco_model.specs.declared.kind.Search.{Search}
pub use Rattle.teco_model.specs.declared.stop.HostFault.TheVariants.{In, NoFile, Out}
pub use Rattle.teco_model.specs.declared.stop.Stop.{Stop}
pub use Rattle.teco_model.specs.laws.StepCodes.{TellsStepCode}
pub use Rattle.teco_hosts.proofs.Told.{told-map}
pub use Rattle.teco_hosts.proofs.Touching.{touches-none, touches-on}
pub use Rattle.teco_hosts.specs.Events.{Event}
pub use Rattle.teco_hosts.specs.Held.{Held}
pub use Rattle.teco_hosts.specs.HostFiles.{HostFiles, Telling}
pub use Rattle.teco_run.specs.AtOnce.{FindsAtOnce, ReachesAtOnce}
pub use Rattle.teco_run.specs.Courses.{may_grow}
pub use Rattle.teco_run.specs.Frames.{halt_in, is_at_end}
pub use Rattle.teco_run.specs.Holdings.{Holdings, Joined, beside}
pub use Rattle.teco_run.specs.Misses.{miss_seen, with_search_text}
pub use Rattle.teco_run.specs.Pending.{Pending, at}
pub use Rattle.teco_run.specs.Replies.{Answers, IsNoRange, Leaves, Takes, Works, course_by, page_done, reads_one}
pub use Rattle.teco_run.specs.Replies.{reply_seen}
pub use Rattle.teco_run.specs.Stacked.{AreOver, Bare, IsKnown, IsOver, frame_over, loops_of}
pub use Rattle.teco_run.specs.Steps.{Pursues, Steps}
pub use Rattle.teco_run.specs.Stopped.{StopsBefore, stop_by}
pub use Rattle.teco_run.specs.Touched.{ComesTo, IsQuiet, TouchesBetween, TouchesBySteps, file_of, touched_by_command}
pub use Rattle.teco_run.specs.Touched.{touched_by_element, touched_by_read, touched_by_step, touched_in_run}
unfoldable pub use Rattle.teco_run.specs.Touched.{touched_in_steps}
pub use Rattle.teco_run.specs.Ways.{frame_after}
pub use Rattle.teco_run.specs.declared.begun.Begun.{Begun}
pub use Rattle.teco_run.specs.declared.course.Course.{Course}
pub use Rattle.teco_run.specs.declared.pace.Pace.{Pace}
pub use Rattle.teco_run.specs.declared.site.Site.{Site}
pub use Rattle.teco_run.specs.declared.site.Stopped.{Stopped}
pub use Rattle.teco_run.specs.declared.way.Continuation.{Continuation}
