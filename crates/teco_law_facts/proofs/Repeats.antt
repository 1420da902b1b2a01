-- An element whose steps advance ends within the steps that are known, and what each step keeps holds there.
use Rattle.teco_law_facts.proofs.Prelude.{◌≡◌, ℕ, suc, ◌+◌, ◌≤◌, arith, refl, inl, inr, State, Outcome, Next}
use Rattle.teco_law_facts.proofs.Prelude.{step}
use Rattle.teco_model.specs.Run.{Reaches, run}
use Rattle.teco_law_facts.specs.Repeats.{Advances, IsAt, Repeats}
use Rattle.teco_law_runs.proofs.Walking.{reaches_more}

-- it came to the step that ends it
pub record Completed
    (Stays : ℕ → State → Type 0) (Quits : State → Type 0) (Kept : ℕ → State → Type 0) (most : ℕ) (s : State) :
    Type 0 where
  pub before : ℕ
  pub last : State
  pub new : State
  pub few : before + 1 ≤ most
  pub reaches : Reaches before s last
  pub stands : IsAt Stays s last
  pub kept : Kept before last
  pub final : step last ≡ Next new
  pub ends : Quits new

-- what each step keeps that leaves it where it is
abbrev pub IsKept : (ℕ → State → Type 0) → (ℕ → State → Type 0) → State → Type 0
IsKept Stays Kept s =
    (j rest : ℕ) (now new : State) → IsAt Stays s now → Reaches j s now → Kept j now → step now ≡ Next new
    → Reaches (suc j) s new → Stays rest new → Kept (suc j) new

module _ (Stays : ℕ → State → Type 0) (Quits : State → Type 0) (Kept : ℕ → State → Type 0) (most : ℕ) (s : State)
    (r : Repeats Stays Quits most s) (keeps : IsKept Stays Kept s) where
  advanced : (fuel bound j : ℕ) (now : State) → IsAt Stays s now → Reaches j s now → Kept j now → j + bound ≤ most
      → bound ≤ fuel → (o : Outcome) → step now ≡ o → Advances Stays Quits bound o → Completed Stays Quits Kept most s
  advanced fuel bound j now at came k few l (Next new) goes (inl p) = record {
    before = j;
    last = now;
    new = new;
    few = omega (arith, p.0, few);
    reaches = came;
    stands = at;
    kept = k;
    final = goes;
    ends = p.1;
  }
  advanced (suc fuel) bound j now at came k few l (Next new) goes (inr p) =
      let there = reaches_more j s now new came goes in
      advanced fuel p.0 (suc j) new (inr (p.0, p.2)) there (keeps j p.0 now new at came k goes there p.2)
      (omega (arith, p.1, few)) (omega (arith, p.1, l)) (step new) refl (r.later p.0 new p.2)
  advanced fuel bound j now at came k few l o goes p = absurd (grind arith)

  pub completed : Kept 0 s → Completed Stays Quits Kept most s
  unfolding run
  completed k = advanced most most 0 s (inl refl) refl k (omega arith) (omega arith) (step s) refl r.first
