-- What is known behind an element of a straight text.
use Rattle.teco_law_tables.proofs.Prelude.{◌≡◌, ℕ, ◌+◌, ◌^◌, ◌<◌, ◌≤◌, min, nat_lt, true, length, Some, None, Ok, refl}
use Rattle.teco_law_tables.proofs.Prelude.{rules, arith, LIMIT, DropAll, Text, Kind, Element, Changes, Edges, goes_on}
use Rattle.teco_law_tables.proofs.Prelude.{Placed, transfer, IsStraightKind, IsStraightElement, inserted_by_kind}
use Rattle.teco_law_tables.proofs.Prelude.{inserted_by, facts_behind_insertions}
use Rattle.teco_model.specs.declared.kind.Command.TheVariants as command
use Rattle.teco_model.specs.declared.kind.Flow.TheVariants as flow
use Rattle.teco_model.specs.declared.kind.Kind.TheVariants as kind
use Rattle.teco_verifier.specs.table.Deriving.{arriving}

pub plus_none : (n : ℕ) → n + 0 ≡ n
plus_none n = omega arith

pub fits_64 : (n : ℕ) → n ≤ LIMIT → nat_lt n (2 ^ 64) ≡ true
fits_64 n h = let l : n < 2 ^ 64 = omega arith in search rules

capped_twice : (n m : ℕ) → min (min n LIMIT + m) LIMIT ≡ min (n + m) LIMIT
capped_twice n m = omega arith

edges_of_kind : (k : Kind) (x : Placed) (count : ℕ) → IsStraightKind k
    → count + inserted_by_kind k x.element.text ≤ LIMIT →
    transfer (record x { element = record x.element { kind = k } }) (facts_behind_insertions count) ≡ Ok
    (goes_on (facts_behind_insertions (count + inserted_by_kind k x.element.text)))
unfolding transfer
edges_of_kind (kind.Argument DropAll) x count s l = rw (plus_none count) refl
edges_of_kind (kind.Flow flow.Comment) x count s l = rw (plus_none count) refl
edges_of_kind (kind.Command (command.Insertion Text)) x count s l =
    rw (fits_64 (count + length x.element.text) l, capped_twice count (length x.element.text)) refl
edges_of_kind k x count s l = absurd s

pub edges_of_element : (x : Placed) (count : ℕ) → IsStraightElement x.element → count + inserted_by x.element ≤ LIMIT →
    transfer x (facts_behind_insertions count) ≡ Ok (goes_on (facts_behind_insertions (count + inserted_by x.element)))
edges_of_element x count s l = edges_of_kind x.element.kind x count s l

arriving_by_a_kind : (changes : Changes) (k : Kind) (e : Element) (edges : Edges) → IsStraightKind k
    → arriving changes None (Some (record e { kind = k })) 0 edges ≡ edges.on
arriving_by_a_kind changes (kind.Argument DropAll) e edges s = refl
arriving_by_a_kind changes (kind.Flow flow.Comment) e edges s = refl
arriving_by_a_kind changes (kind.Command (command.Insertion Text)) e edges s = refl
arriving_by_a_kind changes k e edges s = absurd s

pub arriving_by_element : (changes : Changes) (e : Element) (edges : Edges) → IsStraightElement e
    → arriving changes None (Some e) 0 edges ≡ edges.on
arriving_by_element changes e edges s = arriving_by_a_kind changes e.kind e edges s
