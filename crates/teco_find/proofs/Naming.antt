-- A text says the same pattern wherever the registers that it names have the same texts.
use Rattle.teco_find.proofs.Prelude.{◌≡◌, ℕ, Bool, List, [], ◌∷◌, ◌++◌, Result, Ok, Err, refl, sym, ap, ◌∙◌, subst}
use Rattle.teco_find.proofs.Prelude.{IfOk, flat_map, Code, ◌>>=◌, Part, named_by, named_in}
use Rattle.std.specs.Prelude.{All}
use Rattle.std.proofs.lemmas.List.Elements.{All-head, All-tail}
use Rattle.teco_model.specs.Pattern as model
use Rattle.teco_model.specs.Registers.{Registers, pair_of}
use Rattle.teco_model.specs.declared.pattern.Part.TheVariants as part
use Rattle.teco_find.specs.Reading.{Named, Has, SaysWhere}

-- parts stand for the same elements where the registers that they name have the same texts
same : (r s : Registers) (exact : Bool) (ps : List Part) → All (Has s) (flat_map (named_by r) ps) →
    flat_map (model.items_of s exact) ps ≡ flat_map (model.items_of r exact) ps
same r s exact [] h = refl
same r s exact (part.Item i ∷ ps) h = ap (λ l. model.item_of exact i ∷ l) (same r s exact ps h)
same r s exact (part.Register q ∷ ps) h =
    let first : Named = record { register = q; text = (pair_of q r).text } in
    let rest = flat_map (named_by r) ps in
    let head = All-head (Has s) first rest h in
    let tail = same r s exact ps (All-tail (Has s) first rest h) in
    ap (λ t. model.literals exact t ++ flat_map (model.items_of s exact) ps) head
    ∙ ap (λ l. model.literals exact (pair_of q r).text ++ l) tail

said : (r s : Registers) (exact : Bool) (read : Result (List Part) Code) (named : List Named) (p : model.Pattern) →
    (read >>= (λ ps. Ok (flat_map (model.items_of r exact) ps))) ≡ Ok p →
    (read >>= (λ ps. Ok (flat_map (named_by r) ps))) ≡ Ok named → All (Has s) named →
    (read >>= (λ ps. Ok (flat_map (model.items_of s exact) ps))) ≡ Ok p
said r s exact (Err c) named p e n h = cc
said r s exact (Ok ps) named p e n h =
    let has : All (Has s) (flat_map (named_by r) ps) = subst (λ l. IfOk l (λ ns. All (Has s) ns)) (sym n) h in
    ap Ok (same r s exact ps has) ∙ e

pub says_where : (r : Registers) (exact : Bool) (text : List ℕ) (named : List Named) (p : model.Pattern) →
    model.pattern r exact text ≡ Ok p → named_in r text ≡ Ok named → SaysWhere named exact text p
says_where r exact text named p e n s h = said r s exact (model.parts text) named p e n h
