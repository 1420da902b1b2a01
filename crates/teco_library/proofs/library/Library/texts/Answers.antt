use Rattle.std.proofs.Common.{◌≡◌, ℕ, ◌<◌, List, length, map, get_or, None, Option, sym, ◌∙◌, arith}
use Rattle.std.specs.Borrow.{Bor}
use Rattle.std.specs.Option.{option_copied}
use Rattle.std.proofs.Math.ListN.{get_or-map}
use Rattle.std.proofs.lemmas.List.{get_or_default, length-map, same_lists}
use Rattle.teco_library.proofs.library.Library.texts.Goals as goal

all_shown : (texts : List (Option (Bor (List ℕ)))) (own : List (Option (List ℕ))) → length texts ≡ length own
    → ((k : ℕ) → k < length own → option_copied (get_or texts k None) ≡ get_or own k None)
    → map option_copied texts ≡ own
all_shown texts own long shown =
    let count = length-map texts option_copied in
    same_lists (map option_copied texts) own (count ∙ long) (λ k d within.
    get_or_default (map option_copied texts) k d None within ∙ get_or-map option_copied texts k None
    ∙ shown k (omega (arith, count)) ∙ get_or_default own k None d (omega (arith, count)))

pub returns-clause-value : goal.returns-clause-value
returns-clause-value c =
    let all = c.loop-place.invariant in
    let count = all.count (omega arith) in
    all_shown c.loop-place.texts c.args.self.now.texts (all.long ∙ sym count)
    (λ k below. all.shown k (omega (arith, count)))

pub returns-clause-within_limit : goal.returns-clause-within_limit
returns-clause-within_limit c k d below text is =
    c.loop-place.invariant.within k (omega (arith, c.loop-place.invariant.long)) text
    (get_or_default c.loop-place.texts k None d below ∙ is)
