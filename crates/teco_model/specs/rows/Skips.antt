-- Skips worked by hand, as what the definition computes.
use Rattle.std.specs.Prelude.{ℕ, ◌≡◌, codes, Option, Some, None}
use Rattle.teco_model.specs.declared.skip.Skip.{Skip}
use Rattle.teco_model.specs.Skip.{skip_at}

-- to a place, with iterations that are left
abbrev pub past : Option ℕ → ℕ → Skip
past to leaves = record { to = to; leaves = leaves }

-- each row's skip
pub record SkipRows : Type 0 where
  -- a false test goes past the | of its level or its ', and a | past its '
  pub branch : skip_at (codes "0\"G2=|3='") 1 ≡ past (Some 6) 0
  pub test : skip_at (codes "0\"G2=|3='") 5 ≡ past (Some 9) 0
  -- a fault is passed by one byte, and what stands in a text is no bracket
  pub fault_ahead : skip_at (codes "0\"N(?@I/'/'3=") 1 ≡ past (Some 11) 0
  pub fault_of_two_letters : skip_at (codes "0\"NF?'3=") 1 ≡ past (Some 6) 0
  -- an iteration that is skipped stays outside of those that are left
  pub iteration : skip_at (codes "5+(0<>3)=") 4 ≡ past (Some 6) 0
  pub inner_pairs : skip_at (codes "<<>1;>2=") 4 ≡ past (Some 6) 1
  -- F> goes to its >, behind blanks too, F' past its ', and F| past the | of its level
  pub to_turn_end : skip_at (codes "3<1=F>2= >") 4 ≡ past (Some 9) 0
  pub past_test_end : skip_at (codes "0\"EF'2|3'") 3 ≡ past (Some 9) 0
  pub past_otherwise : skip_at (codes "0\"EF|2|3'") 3 ≡ past (Some 7) 0
  pub no_bracket : skip_at (codes "0<F>>") 1 ≡ past (Some 5) 0
  -- only its own brackets count
  pub own_brackets : skip_at (codes "2<0\"N>'") 3 ≡ past (Some 7) 0
  -- a tag, and the iteration that it leaves; in an iteration opened on the way it is not seen
  pub tag : skip_at (codes "3<@O/a/<!a!>>!a!") 2 ≡ past (Some 16) 1
  -- the text ends first; what is cut off is its end
  pub unclosed : skip_at (codes "0<1=Ia>") 1 ≡ past None 0
  pub no_jump : skip_at (codes "<>") 1 ≡ past None 0
