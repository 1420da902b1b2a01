-- The names that the proofs of this crate share.
pub use Rattle.std.proofs.Common.{Bool, Err, List, None, Ok, Option, Result, Some, [], ap, arith, cond, drop, false}
pub use Rattle.std.proofs.Common.{get_or, length, length-append, refl, subst, suc, sym, take, true, zero, ℕ, ⊎_elim}
pub use Rattle.std.proofs.Common.{◌++◌, ◌+◌, ◌-◌, ◌<◌, ◌∙◌, ◌∷◌, ◌≡◌, ◌≤◌}
pub use Rattle.std.proofs.Math.ListN.{get_or-append}
pub use Rattle.std.proofs.Math.Seq.{get_or-append_right}
pub use Rattle.std.proofs.lemmas.Bool.{cases_lt}
pub use Rattle.std.proofs.lemmas.List.{get_or-drop, length-drop, length-take}
pub use Rattle.std.specs.Option.{option_map_or}
pub use Rattle.std.specs.Prelude.{IfOk, IfSome, IsSome, flat_map, fold, map, option_and_then, option_map}
pub use Rattle.memchr.specs.Find.{IsFirst, IsFirstByte, IsLast, IsLastByte, NoneBefore, Nowhere, Passes}
pub use Rattle.teco_base.specs.declared.code.Code.{Code}
pub use Rattle.teco_find.specs.Anchors.{Anchors, Stands, is_marked}
pub use Rattle.teco_find.specs.Needles.{IsNeedle, NoneUpTo, literal}
pub use Rattle.teco_find.specs.Pieces.{joined}
pub use Rattle.teco_find.specs.Reading.{named_by, named_in}
pub use Rattle.teco_find.specs.declared.anchor.Anchor.{Anchor}
pub use Rattle.teco_model.specs.Checked.{◌>>=◌}
pub use Rattle.teco_model.specs.Paging.{sought}
pub use Rattle.teco_model.specs.declared.pattern.Item.{Item}
pub use Rattle.teco_model.specs.declared.pattern.Part.{Part}
pub use Rattle.teco_model.specs.declared.pattern.Sought.TheVariants.{Wanted}
pub use Rattle.teco_model.specs.declared.pattern.Span.{Span}
