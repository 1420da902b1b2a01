-- The first and the last place of a mark, in a text of two pieces.
use Rattle.teco_find.proofs.Prelude.{◌≡◌, ℕ, ◌+◌, ◌-◌, ◌<◌, ◌≤◌, Bool, true, List, ◌++◌, length, Some, None, ⊎_elim}
use Rattle.teco_find.proofs.Prelude.{sym, subst, arith, length-append, get_or-append, get_or-append_right, cases_lt}
use Rattle.teco_find.proofs.Prelude.{IsFirstByte, IsLastByte, Passes}
use Rattle.std.proofs.lemmas.List.{get_or-append-add}

module _ (p : ℕ → Bool) (front back : List ℕ) where
  in_front : (k : ℕ) → k < length front → Passes p front k → Passes p (front ++ back) k
  in_front k within h = subst (λ b. p b ≡ true) (sym (get_or-append front back 0 k within)) h

  from_front : (k : ℕ) → k < length front → Passes p (front ++ back) k → Passes p front k
  from_front k within h = subst (λ b. p b ≡ true) (get_or-append front back 0 k within) h

  in_back : (k : ℕ) → Passes p back k → Passes p (front ++ back) (length front + k)
  in_back k h = subst (λ b. p b ≡ true) (sym (get_or-append-add front back k 0)) h

  from_back : (k : ℕ) → length front ≤ k → Passes p (front ++ back) k → Passes p back (k - length front)
  from_back k behind h = subst (λ b. p b ≡ true) (get_or-append_right front back k 0 behind) h

  -- the first
  pub first_in_front : (k : ℕ) → IsFirstByte p front (Some k) → IsFirstByte p (front ++ back) (Some k)
  first_in_front k h = (
    record {
      low = omega arith;
      high = omega (arith, h.0.high, length-append front back);
      before = λ j low high passes. h.0.before j low high (from_front j (omega (arith, h.0.high)) passes);
    },
    in_front k h.0.high h.1,
  )

  pub first_in_back : (k : ℕ) → IsFirstByte p front None → IsFirstByte p back (Some k)
      → IsFirstByte p (front ++ back) (Some (length front + k))
  first_in_back k none h = (
    record {
      low = omega arith;
      high = omega (arith, h.0.high, length-append front back);
      before = λ j low high passes. ⊎_elim
          (λ (within : j < length front). none j low within (from_front j within passes))
          (λ (behind : length front ≤ j). h.0.before (j - length front) (omega arith) (omega arith)
          (from_back j behind passes)) (cases_lt j (length front));
    },
    in_back k h.1,
  )

  -- none
  pub first_nowhere : IsFirstByte p front None → IsFirstByte p back None → IsFirstByte p (front ++ back) None
  first_nowhere none none_behind =
      λ j low high passes.
      ⊎_elim (λ (within : j < length front). none j low within (from_front j within passes))
      (λ (behind : length front ≤ j). none_behind (j - length front) (omega arith)
      (omega (arith, length-append front back)) (from_back j behind passes)) (cases_lt j (length front))

  -- the last
  pub last_in_back : (k : ℕ) → IsLastByte p back (Some k) → IsLastByte p (front ++ back) (Some (length front + k))
  last_in_back k h = (
    record {
      low = omega arith;
      high = omega (arith, h.0.high, length-append front back);
      after = λ j low high passes. h.0.after (j - length front) (omega arith) (omega (arith, length-append front back))
          (from_back j (omega arith) passes);
    },
    in_back k h.1,
  )

  pub last_in_front : (k : ℕ) → IsLastByte p back None → IsLastByte p front (Some k)
      → IsLastByte p (front ++ back) (Some k)
  last_in_front k none h = (
    record {
      low = omega arith;
      high = omega (arith, h.0.high, length-append front back);
      after = λ j low high passes. ⊎_elim
          (λ (within : j < length front). h.0.after j low within (from_front j within passes))
          (λ (behind : length front ≤ j). none (j - length front) (omega arith)
          (omega (arith, length-append front back)) (from_back j behind passes)) (cases_lt j (length front));
    },
    in_front k h.0.high h.1,
  )

  pub last_nowhere : IsLastByte p back None → IsLastByte p front None → IsLastByte p (front ++ back) None
  last_nowhere none_behind none = first_nowhere none none_behind

pub ruleset firsts = (first_in_front, first_in_back, first_nowhere)

pub ruleset lasts = (last_in_front, last_in_back, last_nowhere)
