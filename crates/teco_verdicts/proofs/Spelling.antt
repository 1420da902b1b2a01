-- Objects whose parts are told otherwise have the same text.
use Rattle.std.proofs.Common.{◌≡◌, ℕ, List, IfOk, Result, Ok, Err}
use Rattle.std.specs.Prelude.{Vec}
use Rattle.std.specs.declared.alloc.Global.{Global}

pub by_one : {A E : Type 0} (make : A → List ℕ) (result : Result (Vec ℕ Global) E) (a a' : A) → a ≡ a'
    → IfOk result (λ text. text.items ≡ make a) → IfOk result (λ text. text.items ≡ make a')
by_one make (Ok text) a a' is spelled = cc
by_one make (Err fault) a a' is spelled = tt

pub by_six : {A B C D F G E : Type 0} (make : A → B → C → D → F → G → List ℕ) (result : Result (Vec ℕ Global) E)
    (a a' : A) (b b' : B) (c c' : C) (d d' : D) (f f' : F) (g g' : G) → a ≡ a' → b ≡ b' → c ≡ c' → d ≡ d' → f ≡ f'
    → g ≡ g' → IfOk result (λ text. text.items ≡ make a b c d f g)
    → IfOk result (λ text. text.items ≡ make a' b' c' d' f' g')
by_six make (Ok text) a a' b b' c c' d d' f f' g g' is_a is_b is_c is_d is_f is_g spelled = cc
by_six make (Err fault) a a' b b' c c' d d' f f' g g' is_a is_b is_c is_d is_f is_g spelled = tt

pub by_four : {A B C D E : Type 0} (make : A → B → C → D → List ℕ) (result : Result (Vec ℕ Global) E)
    (a a' : A) (b b' : B) (c c' : C) (d d' : D) → a ≡ a' → b ≡ b' → c ≡ c' → d ≡ d'
    → IfOk result (λ text. text.items ≡ make a b c d) → IfOk result (λ text. text.items ≡ make a' b' c' d')
by_four make (Ok text) a a' b b' c c' d d' is_a is_b is_c is_d spelled = cc
by_four make (Err fault) a a' b b' c c' d d' is_a is_b is_c is_d spelled = tt
