use Rattle.teco_expansion.proofs.texts.kept_of.Goals as goal
use Rattle.teco_expansion.proofs.texts.kept_of.Goals.{then-called-register+in_ok-keep_text, else-called-register}

pub loop-register-preserved : goal.loop-register-preserved
loop-register-preserved c = elim c.if-called-register.branch [
  | then-called-register+in_ok-keep_text w ↦ rw w.kept-is (w.in_ok-keep_text.ensures c.loop-register.invariant)
  | else-called-register w ↦ rw w.kept-is c.loop-register.invariant
]
