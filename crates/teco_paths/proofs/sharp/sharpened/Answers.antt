use Rattle.std.specs.Option.{IfSome}
use Rattle.teco_paths.proofs.Prelude.{subst, Case, IsSharper, IsWith}
use Rattle.teco_paths.proofs.Answered.{if_ok}
use Rattle.teco_paths.proofs.sharp.sharpened.Goals as goal

pub returns-in-Some : goal.returns-in-Some
returns-in-Some c =
    let sharper : (sharp : Case) → IsWith c.args.case c.in-Some.more sharp → IsSharper c.args.case sharp =
    subst (λ found. IfSome found (λ more. (sharp : Case) → IsWith c.args.case more sharp → IsSharper c.args.case sharp))
    c.in-Some.is c.in_ok-more.ensures in
    if_ok (λ sharp. IsWith c.args.case c.in-Some.more sharp) (λ sharp. IsSharper c.args.case sharp)
    c.with_constraint.result sharper c.with_constraint.ensures
