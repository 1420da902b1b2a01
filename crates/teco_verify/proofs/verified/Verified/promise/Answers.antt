use Rattle.teco_verify.proofs.Prelude.{subst, sym, Fields, IsCertified}
use Rattle.teco_verify.proofs.Promised.{certified_ends}
use Rattle.teco_verify.proofs.verified.Verified.promise.Goals as goal

pub of-requires : goal.of-requires
of-requires c =
    let library = c.self.inside.library.now.texts in
    certified_ends (record {
      linked = c.expansions_are_linked.ensures;
      verified = c.runs_are_verified.ensures;
      framed = c.runs_are_framed.ensures;
      below = c.runs_leave_below.ensures;
      changed = c.runs_change_as_told.ensures;
    })
    (record { library = library; fields = _ })
    (subst (λ (fields : Fields). IsCertified library fields) (sym c.certificate.view_is) c.self.invariant)
