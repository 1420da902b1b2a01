use Rattle.std.proofs.Common.{refl}
use Rattle.teco_pages.proofs.Policies.{told_kept}
use Rattle.teco_pages.specs.Texts.{edit_texts, texts_of}
use Rattle.teco_pages.proofs.policy_host.PolicyHost.judge.Goals as goal

pub returns-in-None : goal.returns-in-None
returns-in-None g c =
    told_kept c.args.self.now.terms.policies.now (edit_texts c.in-Some.texts.now)
    (texts_of c.args.self.now.host.calls.history.events) c.in-Some.ensures ∣ c.in-None.ensures refl ∣₁
