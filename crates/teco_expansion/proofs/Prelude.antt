-- The names that the proofs of this crate share.
pub use Rattle.std.proofs.Common.{Bool, Err, List, None, Ok, Option, Result, Some, [], ap, append_assoc, arith}
pub use Rattle.std.proofs.Common.{bytes_eq, drop, false, get_or, length, length-append, length-drop, map, nat_le}
pub use Rattle.std.proofs.Common.{nat_lt, not, option_map, refl, reverse, rules, slice_get, suc, sym, take, true, zero}
pub use Rattle.std.proofs.Common.{ℕ, ⊎_elim, ◌&&◌, ◌*◌, ◌++◌, ◌+◌, ◌-◌, ◌<◌, ◌||◌, ◌∙◌, ◌∷◌, ◌≡◌, ◌≤◌}
pub use Rattle.std.proofs.lemmas.Bool.{cases_lt, le-leb, le-ltb, lt-leb, lt-ltb}
pub use Rattle.std.proofs.lemmas.List.{append-nil, drop_all, length-map, length-reverse, map-append, reverse-append}
pub use Rattle.std.proofs.lemmas.Slice.Eq.{bytes_eq-Decides}
pub use Rattle.std.specs.List.{list_any}
pub use Rattle.std.specs.Option.{option_copied}
pub use Rattle.std.specs.Prelude.{All}
pub use Rattle.teco_base.specs.declared.code.Code.{Code}
pub use Rattle.teco_expansion.specs.Crossed.{crossed_seen, crosses}
pub use Rattle.teco_expansion.specs.Few.{listed}
pub use Rattle.teco_expansion.specs.Refused.{refusal_seen}
pub use Rattle.teco_expansion.specs.Room.{HasRoom}
pub use Rattle.teco_expansion.specs.Same.{same_waiting}
pub use Rattle.teco_expansion.specs.Scanned.{IsGapOf, IsKeptOf}
pub use Rattle.teco_expansion.specs.Seen.{node_seen, position_seen, spot_seen, stand_seen, visit_seen}
pub use Rattle.teco_expansion.specs.Texts.{library_of, text_of}
pub use Rattle.teco_expansion.specs.Walks.{behind, walk_seen}
pub use Rattle.teco_expansion.specs.declared.spot.Spot.{Spot}
pub use Rattle.teco_expansion.specs.declared.texts.Texts.{Texts}
pub use Rattle.teco_model.proofs.Ahead.{element_at-again, readings-none, readings-some}
pub use Rattle.teco_model.specs.Ahead.{Faulty, Whole, readings}
unfoldable pub use Rattle.teco_model.specs.Ahead.{reading_at}
pub use Rattle.teco_model.specs.Element.{Element, blank_end, seen}
unfoldable pub use Rattle.teco_model.specs.Element.{element_at}
pub use Rattle.teco_model.specs.Macros.{Library, macro}
pub use Rattle.teco_model.specs.Skip.{bracket, skip_at, skip_of}
pub use Rattle.teco_model.specs.declared.kind.Kind.{Kind}
pub use Rattle.teco_model.specs.declared.skip.Pairs.TheVariants.{Iterations}
pub use Rattle.teco_scan.specs.Skips.{crossing}
pub use Rattle.teco_verifier.specs.expansion.Expansion.{Visit, Walk, is_open, is_within, node_at, same_spots}
unfoldable pub use Rattle.teco_verifier.specs.expansion.Expansion.{next_visit, nodes_at, walk}
pub use Rattle.teco_verifier.specs.expansion.Node.{Node, Stand, numbered}
pub use Rattle.teco_verifier.specs.expansion.Overlap.{Crossed, behind_bracket, crossed, crossed_to, not_crossed}
pub use Rattle.teco_verifier.specs.expansion.Position.{Position, depth, starts_in}
pub use Rattle.teco_verifier.specs.expansion.Refusal.{Reason, Refusal, TooLarge, unless, ◌>>=◌}
