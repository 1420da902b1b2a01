-- Where memory alone is refused, that is still so.
use Rattle.teco_verify.proofs.Prelude.{◌≡◌, subst, sym, refl, Result, Err, Fields, Finding, Refusal, IsFound}
use Rattle.teco_verify.specs.declared.refusal.Refusal.TheVariants.{No, Memory}

pub still_refused : (fields : Fields) (why new : Refusal) → (why ≡ Memory → new ≡ Memory) → IsFound fields (Err why)
    → IsFound fields (Err new)
still_refused fields Memory new m f = subst (λ r. IsFound fields (Err r)) (sym (m refl)) tt
still_refused fields (No why register place) new m f = absurd f

-- Want of memory is no refusal.
pub memory_is_found : (fields : Fields) (verdict : Result Finding Refusal) → verdict ≡ Err Memory
    → IsFound fields verdict
memory_is_found fields verdict e = subst (λ r. IsFound fields r) (sym e) tt
