-- memchr finds the first form feed, if there is one.
use Rattle.teco_hosts.proofs.Prelude.{◌≡◌, ℕ, List, length, Bool, true, false, not, Option, Some, None, refl, sym, ap}
use Rattle.teco_hosts.proofs.Prelude.{◌∙◌, arith, prefix_len, FF, is_inner}
use Rattle.std.proofs.Common.{unwrap_or}
use Rattle.std.proofs.lemmas.List.Sums.{prefix_len_is}
use Rattle.memchr.specs.Find.{IsFirstByte, is_byte}
use Rattle.teco_hosts.proofs.ahead.inner_len.Goals as goal

inner_else : (b : Bool) → ¬ (b ≡ true) → not b ≡ true
inner_else true h = absurd (h refl)
inner_else false h = refl

first_end : (bytes : List ℕ) (found : Option ℕ) → IsFirstByte (is_byte FF) bytes found
    → unwrap_or found (length bytes) ≡ prefix_len is_inner bytes
first_end bytes None none =
    sym (prefix_len_is is_inner bytes (length bytes) 0 (omega arith) (λ k l. inner_else _ (none k (omega arith) l))
    (λ l. absurd (omega arith)))
first_end bytes (Some k) first =
    sym (prefix_len_is is_inner bytes k 0 (omega (arith, first.0.high))
    (λ j l. inner_else _ (first.0.before j (omega arith) l)) (λ l. ap not first.1))

pub returns : goal.returns
returns c = c.unwrap_or.ensures ∙ first_end c.args.bytes.now c.memchr.result c.memchr.ensures
