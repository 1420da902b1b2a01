-- Runs that come to a state, and read no command of files on the way.
use Rattle.teco_law_runs.proofs.Prelude.{◌≡◌, inl, inr, ℕ, zero, suc, ◌+◌, ◌-◌, ◌<◌, refl, sym, ap, ◌∙◌, subst, arith}
use Rattle.teco_law_runs.proofs.Prelude.{false, Option, Result, Ok, Code, Element, element_at, run, go_on, State, Next}
use Rattle.teco_law_runs.proofs.Prelude.{step, ◌⊎◌, cases_order, Reaches, changes_files, ReadsNoFileCommand}
use Rattle.teco_law_runs.proofs.Prelude.{NoFileCommands}

-- steps behind steps
run_on : (k : ℕ) (s u : State) → Reaches k s u → (m : ℕ) → run (k + m) s ≡ run m u
unfolding run
run_on k s u h zero = let z : k + 0 ≡ k = omega arith in rw z h
run_on k s u h (suc m) = let z : k + suc m ≡ suc (k + m) = omega arith in rw z (ap go_on (run_on k s u h m))

pub reaches_on : (k m : ℕ) (s u v : State) → Reaches k s u → Reaches m u v → Reaches (k + m) s v
reaches_on k m s u v h g = run_on k s u h m ∙ g

pub reaches_more : (k : ℕ) (s u v : State) → Reaches k s u → step u ≡ Next v → Reaches (suc k) s v
unfolding run
reaches_more k s u v came goes = ap go_on came ∙ goes

pub reaches_later : (k m : ℕ) (s u v : State) → Reaches k s u → Reaches (k + m) s v → Reaches m u v
reaches_later k m s u v came later = sym (run_on k s u came m) ∙ later

pub same_next : (a b : State) → Next a ≡ Next b → a ≡ b
same_next a b e = cc

pub reaches_here : (s : State) → Reaches 0 s s
unfolding run
reaches_here s = refl

pub reaches_none : (s t : State) → Reaches 0 s t → s ≡ t
unfolding run
reaches_none s t came = same_next s t came

pub one_step : (s t : State) → step s ≡ Next t → Reaches 1 s t
unfolding run
one_step s t e = e

-- ---- no command of files is read on the way
one_read : (r : Result (Option Element) Code) (read other : Option Element) → r ≡ Ok read → r ≡ Ok other → read ≡ other
one_read r read other is reads = cc

pub reads_none : (s : State) (read : Option Element) → element_at s.frames.running.text s.frames.running.place ≡ Ok read
    → changes_files read ≡ false → ReadsNoFileCommand s
reads_none s read is none other reads = ap changes_files (sym (one_read _ read other is reads)) ∙ none

pub none_yet : (s : State) → NoFileCommands s 0
none_yet s k t l = absurd (omega (arith, l))

pub none_more : (j : ℕ) (s u : State) → NoFileCommands s j → Reaches j s u → ReadsNoFileCommand u
    → NoFileCommands s (suc j)
none_more j s u none came at k t l h = by (cases_order k j)
  where
    by : (k ≡ j) ⊎ ((k < j) ⊎ (j < k)) → ReadsNoFileCommand t
    by (inl e) = subst ReadsNoFileCommand (same_next u t (sym came ∙ (sym (ap (λ k. run k s) e) ∙ h))) at
    by (inr (inl less)) = none k t less h
    by (inr (inr more)) = absurd (omega (arith, l, more))

pub none_on : (k m : ℕ) (s u : State) → NoFileCommands s k → Reaches k s u → NoFileCommands u m
    → NoFileCommands s (k + m)
none_on k m s u none came later j t l h = by (cases_order k j)
  where
    behind : (i : ℕ) → j ≡ k + i → ReadsNoFileCommand t
    behind i e = later i t (omega (arith, l, e)) (sym (run_on k s u came i) ∙ subst (λ j. Reaches j s t) e h)

    by : (k ≡ j) ⊎ ((k < j) ⊎ (j < k)) → ReadsNoFileCommand t
    by (inl e) = behind 0 (omega (arith, e))
    by (inr (inl more)) = behind (j - k) (omega (arith, more))
    by (inr (inr less)) = none j t less h
