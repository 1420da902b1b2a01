-- What elements can do, worked by hand.
use Rattle.std.specs.Prelude.{◌≡◌, ℕ, pos, negsuc, List, [], ◌∷◌, ◌++◌, codes, Bool, true, false, Option, Some, None}
use Rattle.std.specs.Prelude.{MatchResult}
use Rattle.teco_base.specs.declared.bytes.TheConstants.{ESC, TAB}
use Rattle.teco_changes.specs.Arguments.{behind}
use Rattle.teco_changes.specs.Characters.{between, unknown}
use Rattle.teco_changes.specs.Nearby.{Known, Nearby, Nothing, Perhaps, Surely, Unreached, near_behind}
use Rattle.teco_changes.specs.declared.argument.Pending.TheVariants.{Asked, AskedLess, AskedMinus, Anything, Empty}
use Rattle.teco_changes.specs.declared.argument.Pending.TheVariants.{Length, Negative, Number, Place}
use Rattle.teco_changes.specs.Elements.{changes_of, changes_with}
use Rattle.teco_changes.specs.declared.argument.NumericArgument.{NumericArgument}
use Rattle.teco_changes.specs.declared.argument.NumericArgument.TheVariants as known
use Rattle.teco_changes.specs.declared.argument.Side.TheVariants.{At, Before}
use Rattle.teco_changes.specs.declared.change.Change.{Change}
use Rattle.teco_changes.specs.declared.change.Characters.{Characters}
use Rattle.teco_changes.specs.declared.change.Change.TheVariants as change
use Rattle.teco_model.specs.Arguments.{run_value}
use Rattle.teco_model.specs.Element.{element_from}

-- the element at the front of a text can do no more than these changes
abbrev pub Tells : List ℕ → Bool → Option (List Change) → Type 0
Tells text ranged told = MatchResult (element_from text 0) (λ element. changes_of element ranged ≡ told) (λ code. ⊥)

-- it can do no more where so much is known of its argument, and that is what is known behind it
abbrev pub Knows : List ℕ → NumericArgument → Option (List Change) → Type 0
Knows text before told =
    MatchResult (element_from text 0) (λ element. changes_with element false before Unreached ≡ told) (λ code. ⊥)

abbrev pub Leaves : List ℕ → NumericArgument → NumericArgument → Type 0
Leaves text before after =
    MatchResult (element_from text 0) (λ element. behind (Some element) before ≡ after) (λ code. ⊥)

-- where so much is near it can do no more than these changes, and that is near behind it, on its first way or another
abbrev pub Takes : List ℕ → Bool → Nearby → List Change → Type 0
Takes text ranged near changes =
    MatchResult (element_from text 0)
    (λ element. changes_with element ranged known.Unknown near ≡ Some changes) (λ code. ⊥)

abbrev pub LeavesNear : List ℕ → Bool → ℕ → Nearby → Nearby → Type 0
LeavesNear text colon way near after =
    MatchResult (element_from text 0)
    (λ element. near_behind (Some element) colon way known.Unknown near ≡ after) (λ code. ⊥)

-- a comma stands at the pointer
abbrev pub comma_at : Characters
comma_at = record { at = Some (between 44 44); before = None }

pub record ElementRows : Type 0 where
  pub inserts : Tells (codes "Ix" ++ ESC ∷ []) false (Some (change.Puts (codes "x") ∷ []))
  pub inserts_byte : Tells (codes "I" ++ ESC ∷ []) false (Some (change.PutsByte ∷ []))
  pub inserts_tab : Tells (TAB ∷ codes "x" ++ ESC ∷ []) false (Some (change.Puts (TAB ∷ codes "x") ∷ []))
  pub inserts_number : Tells (codes "\\") false (Some (change.PutsNumber ∷ []))
  pub gets : Tells (codes "GB") false (Some (change.PutsText 1 ∷ []))
  pub types_text : Tells (codes ":GB") false (Some [])
  pub deletes : Tells (codes "D") false (Some (change.TakesAny ∷ []))
  pub deletes_lines : Tells (codes "K") true (Some (change.TakesAny ∷ []))
  pub replaces : Tells (codes "FSa" ++ ESC ∷ codes "b" ++ ESC ∷ []) false
      (Some (change.Swaps (codes "a") (codes "b") ∷ []))
  pub replaces_last : Tells (codes "FS" ++ ESC ∷ codes "b" ++ ESC ∷ []) false
      (Some (change.TakesAny ∷ change.Puts (codes "b") ∷ []))
  pub finds : Tells (codes "Sa" ++ ESC ∷ []) false (Some [])
  pub turns : Tells (codes "P") false (Some [])
  pub writes_range : Tells (codes "P") true None
  pub writes : Tells (codes "PW") false None
  pub yanks : Tells (codes "Y") false None
  pub appends : Tells (codes "A") false (Some (change.Takes (record { first = 12; last = 12 } ∷ []) ∷ []))
  pub moves : Tells (codes "J") false (Some [])
  pub calls : Tells (codes "MA") false (Some [])
  pub copies : Tells (codes "XA") false (Some [])
  pub appends_behind_operator : Knows (codes "A") known.Number (Some [])
  pub appends_alone : Knows (codes "A") known.Complete
      (Some (change.Takes (record { first = 12; last = 12 } ∷ []) ∷ []))
  pub inserts_known : Knows (codes "I" ++ ESC ∷ []) (known.Exactly (pos 266)) (Some (change.Puts (10 ∷ []) ∷ []))
  pub inserts_unknown : Knows (codes "I" ++ ESC ∷ []) known.Value (Some (change.PutsByte ∷ []))
  pub inserts_text : Knows (codes "Ix" ++ ESC ∷ []) known.Unknown (Some (change.Puts (codes "x") ∷ []))
  pub digits : Leaves (codes "10") known.Complete (known.Exactly (run_value (codes "10")))
  pub digits_behind_operator : Leaves (codes "10") known.Number known.Value
  pub operator : Leaves (codes "-") known.Unknown known.Number
  pub takes : Leaves (codes "C") known.Unknown known.Complete
  pub takes_as_many : Takes (codes "D") false (Known (Surely (codes "ab")) (Number (negsuc 1)) unknown)
      (change.TakesMatch (codes "ab") ∷ [])
  pub takes_fewer : Takes (codes "D") false (Known (Surely (codes "ab")) Negative unknown) (change.TakesAny ∷ [])
  pub takes_lines : Takes (codes "K") false (Known (Surely (codes "ab")) (Number (negsuc 1)) unknown)
      (change.TakesAny ∷ [])
  pub takes_class : Takes (codes "D") false (Known (Surely (24 ∷ [])) Negative unknown) (change.TakesAny ∷ [])
  pub takes_length : Takes (codes "D") false (Known (Surely (24 ∷ [])) Length unknown)
      (change.TakesMatch (24 ∷ []) ∷ [])
  pub takes_place : Takes (codes "K") true (Known (Surely (codes "ab")) Place unknown)
      (change.TakesMatch (codes "ab") ∷ [])
  pub perhaps : Takes (codes "D") false (Known (Perhaps (codes "ab")) (Number (negsuc 1)) unknown)
      (change.TakesAny ∷ [])
  pub sought : LeavesNear (codes "Sab" ++ ESC ∷ []) false 0 (Known Nothing Anything unknown)
      (Known (Surely (codes "ab")) Empty unknown)
  pub asked : LeavesNear (codes "Sab" ++ ESC ∷ []) true 0 (Known Nothing Anything unknown)
      (Known (Perhaps (codes "ab")) Anything unknown)
  pub left : LeavesNear (codes "Sab" ++ ESC ∷ []) false 1 (Known Nothing Anything unknown) (Known Nothing Empty unknown)
  pub sought_last : LeavesNear (codes "S" ++ ESC ∷ []) false 0 (Known Nothing Anything unknown)
      (Known Nothing Empty unknown)
  pub stays : LeavesNear (codes ";") false 0 (Known (Perhaps (codes "ab")) Anything unknown)
      (Known (Surely (codes "ab")) Empty unknown)
  pub goes : LeavesNear (codes ";") false 1 (Known (Perhaps (codes "ab")) Anything unknown)
      (Known Nothing Empty unknown)
  pub moves_away : LeavesNear (codes "C") false 0 (Known (Surely (codes "ab")) Empty unknown)
      (Known Nothing Empty unknown)
  pub moves_asking : LeavesNear (codes ":C") false 0 (Known (Surely (codes "ab")) Empty unknown)
      (Known Nothing Anything unknown)
  pub minus : LeavesNear (codes "-") false 0 (Known (Surely (codes "ab")) Empty unknown)
      (Known (Surely (codes "ab")) Negative unknown)
  pub length : LeavesNear (19 ∷ []) false 0 (Known (Surely (codes "ab")) Empty unknown)
      (Known (Surely (codes "ab")) Length unknown)
  pub place : LeavesNear (25 ∷ []) false 0 (Known (Surely (codes "ab")) Empty unknown)
      (Known (Surely (codes "ab")) Place unknown)
  pub takes_known : Takes (codes "D") false (Known Nothing Empty comma_at) (change.Takes (between 44 44 ∷ []) ∷ [])
  pub takes_before : Takes (codes "D") false (Known Nothing Negative comma_at) (change.TakesAny ∷ [])
  pub asks : LeavesNear (codes "A") false 0 (Known Nothing (Number (pos 0)) comma_at) (Known Nothing (Asked At) unknown)
  pub asks_before : LeavesNear (codes "A") false 0 (Known Nothing Negative unknown)
      (Known Nothing (Asked Before) unknown)
  pub less : LeavesNear (codes "44") false 0 (Known Nothing (AskedMinus At) unknown)
      (Known Nothing (AskedLess At (run_value (codes "44"))) unknown)
  pub equals : LeavesNear (34 ∷ 69 ∷ []) false 0 (Known Nothing (AskedLess At (pos 44)) unknown)
      (Known Nothing Empty comma_at)
  pub differs : LeavesNear (34 ∷ 69 ∷ []) false 1 (Known Nothing (AskedLess At (pos 44)) unknown)
      (Known Nothing Empty unknown)
  pub digit : LeavesNear (34 ∷ 68 ∷ []) false 0 (Known Nothing (Asked At) unknown)
      (Known Nothing Empty (record { at = Some (between 48 57); before = None }))
  pub passes : Leaves (codes "'") (known.Exactly (pos 3)) (known.Exactly (pos 3))
