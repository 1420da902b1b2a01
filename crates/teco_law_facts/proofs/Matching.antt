-- Where a match lies, and the pattern of a search text that has a minimum length.
use Rattle.teco_law_facts.proofs.Prelude.{◌≡◌, ℕ, zero, suc, ◌+◌, ◌≤◌, arith, refl, subst, ap, pos, List, length}
use Rattle.teco_law_facts.proofs.Prelude.{Option, Some, None, Result, Ok, Err, IfSome, MatchOption, Bool, option_map_or}
use Rattle.teco_law_facts.proofs.Prelude.{⊤, Code, IsMatch, Pattern, minimum, parts, Sought, Last, Wanted, Span}
use Rattle.std.specs.Prelude.{flat_map, fold}
use Rattle.teco_model.proofs.upkeep.Searches.{match_within}
use Rattle.teco_model.proofs.Searches.{here_finds, forward_finds, none_is_shorter}
use Rattle.teco_model.specs.Checked.{◌>>=◌}
use Rattle.teco_model.specs.Match.{here, forward}
use Rattle.teco_model.specs.Paging.{sought}
use Rattle.teco_model.specs.laws.Matching.{IsMatchAt, IsFirstFrom, IsNth}
use Rattle.teco_model.specs.Pattern.{pattern, with_part, items_of}
use Rattle.teco_model.specs.Registers.{Registers}
use Rattle.teco_model.specs.Search.{match_of}
use Rattle.teco_model.specs.declared.pattern.Part.{Part}

-- ---- the pattern of a text with a minimum length
pub record HasPattern (registers : Registers) (exact : Bool) (text : List ℕ) (least : ℕ) : Type 0 where
  pub it : Pattern
  pub is : pattern registers exact text ≡ Ok it
  pub long : (buffer : List ℕ) (span : Span) → IsMatch it buffer span → span.start + least ≤ span.end

parts_of : (text : List ℕ) (least : ℕ) (r : Result (List Part) Code) → parts text ≡ r → minimum text ≡ Ok (Some least)
    → (ps : List Part) × (parts text ≡ Ok ps)
parts_of text least (Ok ps) e m = (ps, e)
parts_of text least (Err c) e m = let none : minimum text ≡ Err c =
    ap (λ r. r >>= λ ps. Ok (fold with_part (Some 0) ps)) e in absurd (cc)

pub pattern_with : (registers : Registers) (exact : Bool) (text : List ℕ) (least : ℕ) → minimum text ≡ Ok (Some least)
    → HasPattern registers exact text least
pattern_with registers exact text least m =
    let found = parts_of text least _ refl m in
    let is : pattern registers exact text ≡ Ok (flat_map (items_of registers exact) found.0) =
    ap (λ r. r >>= λ ps. Ok (flat_map (items_of registers exact) ps)) found.1 in
    record {
      it = flat_map (items_of registers exact) found.0;
      is = is;
      long = none_is_shorter registers exact text least _ m is;
    }

-- ---- what is found lies ahead
pub record LiesAhead (text : List ℕ) (pointer least : ℕ) (span : Span) : Type 0 where
  pub ahead : pointer ≤ span.start
  pub long : span.start + least ≤ span.end
  pub within : span.end ≤ length text

-- the last of so many, where it is found
abbrev pub LastLies : List ℕ → ℕ → ℕ → Sought → Type 0
LastLies text least at (Last span) = LiesAhead text at least span
LastLies text least at (Wanted n) = ⊤

module _ (p : Pattern) (text : List ℕ) (least : ℕ) (long : (span : Span) → IsMatch p text span
    → span.start + least ≤ span.end) where
  lies : (at : ℕ) (span : Span) → at ≤ span.start → IsMatch p text span → LiesAhead text at least span
  lies at span a m = record { ahead = a; long = long span m; within = match_within p text span m }

  nth_lies : (n at : ℕ) (span : Span) → IsNth (IsFirstFrom p text) (λ last. last.end) at n span
      → LiesAhead text at least span
  nth_lies zero at span h = absurd h
  nth_lies (suc zero) at span h = lies at span h.from h.matches
  nth_lies (suc (suc n)) at span (last, first, rest) =
      let then = nth_lies (suc n) last.end span rest in
      record {
        ahead = omega (arith, first.from, long last first.matches, then.ahead);
        long = then.long;
        within = then.within;
      }

  forward_lies : (n at : ℕ) (o : Option Span) → forward p text at n ≡ o → IfSome o (LiesAhead text at least)
  forward_lies n at None e = tt
  forward_lies n at (Some span) e =
      nth_lies n at span
      (subst (λ o. MatchOption o ((span : Span) → IsNth (IsFirstFrom p text) (λ last. last.end) at n span → ⊥)
      (IsNth (IsFirstFrom p text) (λ last. last.end) at n)) e (forward_finds p text at n))

  here_lies : (at : ℕ) (o : Option Span) → here p text at ≡ o → IfSome o (LiesAhead text at least)
  here_lies at None e = tt
  here_lies at (Some span) e =
      let m : IsMatchAt p text at span =
      subst (λ o. MatchOption o ((span : Span) → IsMatchAt p text at span → ⊥) (IsMatchAt p text at)) e
      (here_finds p text at) in
      lies at span (omega (arith, m.starts)) m.matches

  pub match_lies : (colons n at : ℕ) → IfSome (match_of p colons (pos (suc n)) text at) (LiesAhead text at least)
  match_lies zero n at = forward_lies (suc n) at _ refl
  match_lies (suc zero) n at = forward_lies (suc n) at _ refl
  match_lies (suc (suc colons)) n at = here_lies at _ refl

  -- and so does the last of so many
  from_before : (at later : ℕ) (s : Sought) → at ≤ later → LastLies text least later s → LastLies text least at s
  from_before at later (Last span) o l = record { ahead = omega (arith, l.ahead); long = l.long; within = l.within }
  from_before at later (Wanted n) o l = tt

  last_sought : (at : ℕ) (o : Option Span) → IfSome o (LiesAhead text at least)
      → LastLies text least at (option_map_or Last o (Wanted 1))
  last_sought at None l = tt
  last_sought at (Some span) l = l

  more_sought : (n at : ℕ) (o : Option Span) → IfSome o (LiesAhead text at least)
      → ((later : ℕ) → LastLies text least later (sought p text later (suc n)))
      → LastLies text least at (option_map_or (λ (span : Span). sought p text span.end (suc n)) o
      (Wanted (suc (suc n))))
  more_sought n at None l h = tt
  more_sought n at (Some span) l h = from_before at span.end _ (omega (arith, l.ahead, l.long)) (h span.end)

  pub sought_lies : (n at : ℕ) → LastLies text least at (sought p text at n)
  sought_lies zero at = tt
  sought_lies (suc zero) at = last_sought at _ (forward_lies 1 at _ refl)
  sought_lies (suc (suc n)) at = more_sought n at _ (forward_lies 1 at _ refl) (sought_lies (suc n))
