-- The canonical tokens of a query can be written.
use Rattle.std.proofs.Common.{ℕ, List, [], ◌∷◌, ◌++◌, map, Option, Some, None}
use Rattle.std.specs.List.{flat_map}
use Rattle.query_grammar.specs.declared.item.Item.{Item}
use Rattle.query_grammar.specs.declared.item.Item.TheVariants as item
use Rattle.query_grammar.specs.declared.condition.Literal.{Literal}
use Rattle.query_grammar.specs.declared.condition.Literal.TheVariants as literal
use Rattle.query_grammar.specs.declared.condition.Public.{Public}
use Rattle.query_grammar.specs.declared.condition.Public.TheVariants as public
use Rattle.query_grammar.specs.declared.condition.Atom.{Atom}
use Rattle.query_grammar.specs.declared.condition.Atom.TheVariants as atom
use Rattle.query_grammar.specs.declared.token.Token.{Token}
use Rattle.query_grammar.specs.declared.token.Token.TheVariants.{Symbol}
use Rattle.query_grammar.specs.declared.token.Symbol.TheVariants.{Comma, And, Or}
use Rattle.query_grammar.specs.Queries.{QueryParts}
use Rattle.query_grammar.specs.Grammar.{joined, item_text, literal_text, public_text, atom_text, branch_text, Part, Shown, Bare, Either, part_text, where_text, group_text, Reads}
use Rattle.query_grammar.specs.Canonical.{branch_parts, some_parts, canonical}
use Rattle.query_grammar.specs.Faults.{tokens_of}
use Rattle.query_tokens.specs.Tokens.{tokens_in}
use Rattle.query_tokens.specs.Printing.{CanStand, AllCanStand, Each, ItemStands, LiteralStands, PublicStands, AtomStands, GroupStands, IsWritable, IsWellFormed, canonical_text}
use Rattle.query_grammar.proofs.CanonicalReads.{canonical_reads}
use Rattle.query_tokens.proofs.Printed.{printed_again}

stand_both : (xs ys : List Token) → AllCanStand xs → AllCanStand ys → AllCanStand (xs ++ ys)
stand_both [] ys a b = b
stand_both (x ∷ xs) ys a b = (a.0, stand_both xs ys a.1 b)

module _ {A : Type 0} (P : A → Type 0) (separator : Token) (f : A → List Token) (stands : CanStand separator) (each : (x : A) → P x → AllCanStand (f x)) where
  more_stand : (xs : List A) → Each P xs → AllCanStand (flat_map (λ y. separator ∷ f y) xs)
  more_stand [] a = tt
  more_stand (x ∷ xs) a = (stands, stand_both (f x) (flat_map (λ y. separator ∷ f y) xs) (each x a.0) (more_stand xs a.1))

  joined_stand : (xs : List A) → Each P xs → AllCanStand (joined separator f xs)
  joined_stand [] a = tt
  joined_stand (x ∷ xs) a = stand_both (f x) (flat_map (λ y. separator ∷ f y) xs) (each x a.0) (more_stand xs a.1)

item_stands : (i : Item) → ItemStands i → AllCanStand (item_text i)
item_stands item.Count h = (tt, (tt, (tt, (tt, tt))))
item_stands (item.Sum n) h = (tt, (tt, (h, (tt, tt))))
item_stands (item.Avg n) h = (tt, (tt, (h, (tt, tt))))
item_stands (item.Max n) h = (tt, (tt, (h, (tt, tt))))
item_stands (item.Min n) h = (tt, (tt, (h, (tt, tt))))
item_stands (item.TopK k sort show) h = (tt, (tt, (h.0, (tt, (h.1, (tt, (h.2, (tt, tt))))))))

literal_stands : (l : Literal) → LiteralStands l → CanStand (literal_text l)
literal_stands (literal.Number k) h = h
literal_stands (literal.Text t) h = h

public_stands : (p : Public) → PublicStands p → AllCanStand (public_text p)
public_stands (public.Equal n l) h = (h.0, (tt, (literal_stands l h.1, tt)))
public_stands (public.Between n l m) h = (h.0, (tt, (literal_stands l h.1, (tt, (literal_stands m h.2, tt)))))

atom_stands : (a : Atom) → AtomStands a → AllCanStand (atom_text a)
atom_stands (atom.Equal n) h = (h, (tt, (tt, tt)))
atom_stands (atom.Between n) h = (h, (tt, (tt, (tt, (tt, tt)))))

branch_stands : (b : List Atom) → Each AtomStands b → AllCanStand (branch_text b)
branch_stands = joined_stand AtomStands (Symbol And) atom_text tt atom_stands

abbrev PartStands : Part → Type 0
PartStands (Shown p) = PublicStands p
PartStands (Bare a) = AtomStands a
PartStands (Either bs) = Each (Each AtomStands) bs

part_stands : (p : Part) → PartStands p → AllCanStand (part_text p)
part_stands (Shown p) h = public_stands p h
part_stands (Bare a) h = atom_stands a h
part_stands (Either bs) h = (tt, stand_both (joined (Symbol Or) branch_text bs) _ (joined_stand (Each AtomStands) (Symbol Or) branch_text tt branch_stands bs h) (tt, tt))

parts_both : (xs ys : List Part) → Each PartStands xs → Each PartStands ys → Each PartStands (xs ++ ys)
parts_both [] ys a b = b
parts_both (x ∷ xs) ys a b = (a.0, parts_both xs ys a.1 b)

shown_stand : (ps : List Public) → Each PublicStands ps → Each PartStands (map Shown ps)
shown_stand [] h = tt
shown_stand (p ∷ ps) h = (h.0, shown_stand ps h.1)

bare_stand : (b : List Atom) → Each AtomStands b → Each PartStands (map Bare b)
bare_stand [] h = tt
bare_stand (a ∷ b) h = (h.0, bare_stand b h.1)

branch_parts_stand : (bs : List (List Atom)) → Each (Each AtomStands) bs → Each PartStands (branch_parts bs)
branch_parts_stand [] h = tt
branch_parts_stand (b ∷ []) h = bare_stand b h.0
branch_parts_stand (b ∷ c ∷ bs) h = (h, tt)

where_stands : (ps : List Part) → Each PartStands ps → AllCanStand (where_text (some_parts ps))
where_stands [] h = tt
where_stands (p ∷ ps) h = (tt, joined_stand PartStands (Symbol And) part_text tt part_stands (p ∷ ps) h)

group_stands : (g : Option (List ℕ)) → GroupStands g → AllCanStand (group_text g)
group_stands None h = tt
group_stands (Some n) h = (tt, (tt, (h, tt)))

pub canonical_stands : (q : QueryParts) → IsWritable q → AllCanStand (canonical q)
canonical_stands q w =
    let ps = map Shown q.public ++ branch_parts q.branches in (
      tt,
      stand_both (joined (Symbol Comma) item_text q.items) _ (joined_stand ItemStands (Symbol Comma) item_text tt item_stands q.items w.items) (
        tt,
        (
          w.table,
          stand_both (where_text (some_parts ps)) (group_text q.group)
              (where_stands ps (parts_both (map Shown q.public) (branch_parts q.branches) (shown_stand q.public w.public) (branch_parts_stand q.branches w.branches)))
              (group_stands q.group w.group),
        ),
      ),
    )

pub text_is_read : (q : QueryParts) → IsWellFormed q → Reads (tokens_of (tokens_in (canonical_text q))) q
text_is_read q is = let e = printed_again (canonical q) (canonical_stands q is.writable) in rw e (canonical_reads q is.form)
