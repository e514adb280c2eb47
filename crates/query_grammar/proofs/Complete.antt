-- What the grammar spells, the machine reads.
use Rattle.std.proofs.Common.{◌≡◌, ℕ, ◌≤◌, Bool, true, false, not, ◌||◌, List, [], ◌∷◌, ◌++◌, Option, Some, None, length, refl, sym, ◌∙◌, ap, subst, append_assoc, arith}
use Rattle.std.proofs.lemmas.List.{append-nil}
use Rattle.std.specs.List.{flat_map, list_all}
use Rattle.query_grammar.specs.declared.item.Item.{Item}
use Rattle.query_grammar.specs.declared.item.Item.TheVariants as item
use Rattle.query_grammar.specs.declared.condition.Literal.TheVariants as literal
use Rattle.query_grammar.specs.declared.condition.Public.{Public}
use Rattle.query_grammar.specs.declared.condition.Public.TheVariants as public
use Rattle.query_grammar.specs.declared.condition.Atom.{Atom}
use Rattle.query_grammar.specs.declared.condition.Atom.TheVariants as atom
use Rattle.query_grammar.specs.declared.token.Token.{Token}
use Rattle.query_grammar.specs.declared.token.Token.TheVariants.{Symbol, Name}
use Rattle.query_grammar.specs.declared.token.Symbol.TheVariants.{Select, From, And, Or, Close, Comma}
use Rattle.query_grammar.specs.Queries.{QueryParts, ends_in_range, ranges_last, is_branch}
use Rattle.query_grammar.specs.Grammar.{joined, item_text, public_text, atom_text, branch_text, Part, Shown, Bare, Either, part_text, Condition, Parts, Branches, condition_text, where_text, group_text, end_text, publics_of, atoms_of, eithers_of, are_branches, BranchesOf, IsCondition, IsWhere, Reads}
use Rattle.query_grammar.specs.declared.mode.Mode.{Mode}
use Rattle.query_grammar.specs.declared.mode.Mode.TheVariants.{Atoms, Mixed, Inside, Behind, Apart}
use Rattle.query_grammar.specs.Machine.{Found, Head, nothing_found, may_atom_in, may_public_in, public_mode, ends_in, or_in, with_atoms, query_of, Start, Items, ItemEnd, TableEnd, PartStart, PartEnd, run, finished}
use Rattle.query_grammar.proofs.AtomLists.{both, no_range}

abbrev pub found : Mode → List Public → List (List Atom) → List Atom → Found
found m p b xs = record { mode = m; public = p; branches = b; atoms = xs }

run_item : (is : List Item) (i : Item) (rest : List Token) → run (Some (Items is)) (item_text i ++ rest) ≡ run (Some (ItemEnd (is ++ i ∷ []))) rest
run_item is item.Count rest = refl
run_item is (item.Sum n) rest = refl
run_item is (item.Avg n) rest = refl
run_item is (item.Max n) rest = refl
run_item is (item.Min n) rest = refl
run_item is (item.TopK k n m) rest = refl

run_items : (is xs : List Item) (rest : List Token) → run (Some (ItemEnd is)) (flat_map (λ y. (Symbol Comma) ∷ item_text y) xs ++ rest) ≡ run (Some (ItemEnd (is ++ xs))) rest
run_items is [] rest = ap (λ l. run (Some (ItemEnd l)) rest) (sym (append-nil is))
run_items is (x ∷ xs) rest =
    ap (run (Some (Items is))) (append_assoc (item_text x) (flat_map (λ y. (Symbol Comma) ∷ item_text y) xs) rest)
    ∙ run_item is x (flat_map (λ y. (Symbol Comma) ∷ item_text y) xs ++ rest)
    ∙ run_items (is ++ x ∷ []) xs rest
    ∙ ap (λ l. run (Some (ItemEnd l)) rest) (append_assoc is (x ∷ []) xs)

run_atom : (h : Head) (m : Mode) (p : List Public) (b : List (List Atom)) (xs : List Atom) (a : Atom) (rest : List Token) → may_atom_in m ≡ true → ends_in_range xs ≡ false
    → run (Some (PartStart h (found m p b xs))) (atom_text a ++ rest) ≡ run (Some (PartEnd h (found m p b (xs ++ a ∷ [])))) rest
run_atom h m p b xs (atom.Equal n) rest may e = rw (may, e)
run_atom h m p b xs (atom.Between n) rest may e = rw (may, e)

run_public : (h : Head) (m : Mode) (p : List Public) (b : List (List Atom)) (xs : List Atom) (x : Public) (rest : List Token) → may_public_in m ≡ true
    → run (Some (PartStart h (found m p b xs))) (public_text x ++ rest) ≡ run (Some (PartEnd h (found (public_mode m) (p ++ x ∷ []) b xs))) rest
run_public h m p b xs (public.Equal n (literal.Number k)) rest may = rw may
run_public h m p b xs (public.Equal n (literal.Text k)) rest may = rw may
run_public h m p b xs (public.Between n (literal.Number k) (literal.Number j)) rest may = rw may
run_public h m p b xs (public.Between n (literal.Number k) (literal.Text j)) rest may = rw may
run_public h m p b xs (public.Between n (literal.Text k) (literal.Number j)) rest may = rw may
run_public h m p b xs (public.Between n (literal.Text k) (literal.Text j)) rest may = rw may

or_not : (b e : Bool) → e ≡ false → (b || not e) ≡ true
or_not true e h = refl
or_not false e h = ap not h

-- the atoms of a branch behind the first
run_atoms : (h : Head) (m : Mode) (p : List Public) (b : List (List Atom)) (xs more : List Atom) (rest : List Token) → may_atom_in m ≡ true → ranges_last (xs ++ more) ≡ true
    → run (Some (PartEnd h (found m p b xs))) (flat_map (λ y. (Symbol And) ∷ atom_text y) more ++ rest) ≡ run (Some (PartEnd h (found m p b (xs ++ more)))) rest
run_atoms h m p b xs [] rest may last = ap (λ l. run (Some (PartEnd h (found m p b l))) rest) (sym (append-nil xs))
run_atoms h m p b xs (a ∷ more) rest may last =
    let e : ends_in_range xs ≡ false = no_range xs a more last in
    let on : (may_public_in m || not (ends_in_range xs)) ≡ true = or_not (may_public_in m) (ends_in_range xs) e in
    rw on (
    ap (run (Some (PartStart h (found m p b xs)))) (append_assoc (atom_text a) (flat_map (λ y. (Symbol And) ∷ atom_text y) more) rest)
    ∙ run_atom h m p b xs a (flat_map (λ y. (Symbol And) ∷ atom_text y) more ++ rest) may e
    ∙ run_atoms h m p b (xs ++ a ∷ []) more rest may (subst (λ (l : List Atom). ranges_last l ≡ true) (sym (append_assoc xs (a ∷ []) more)) last)
    ∙ ap (λ l. run (Some (PartEnd h (found m p b l))) rest) (append_assoc xs (a ∷ []) more)
    )

run_branch : (h : Head) (m : Mode) (p : List Public) (b : List (List Atom)) (more : List Atom) (rest : List Token) → may_atom_in m ≡ true → is_branch more ≡ true
    → run (Some (PartStart h (found m p b []))) (branch_text more ++ rest) ≡ run (Some (PartEnd h (found m p b more))) rest
run_branch h m p b [] rest may is = cc
run_branch h m p b (a ∷ more) rest may is =
    ap (run (Some (PartStart h (found m p b [])))) (append_assoc (atom_text a) (flat_map (λ y. (Symbol And) ∷ atom_text y) more) rest)
    ∙ run_atom h m p b [] a (flat_map (λ y. (Symbol And) ∷ atom_text y) more ++ rest) may refl
    ∙ run_atoms h m p b (a ∷ []) more rest may is

-- The branches behind the first: the last one is still open.
pub record Ored (h : Head) (m : Mode) (p : List Public) (b : List (List Atom)) (xs : List Atom) (text : List Token) (bs : List (List Atom)) (rest : List Token) : Type 0 where
  pub done : List (List Atom)
  pub last : List Atom
  pub all : done ++ last ∷ [] ≡ (b ++ xs ∷ []) ++ bs
  pub some : is_branch last ≡ true
  pub runs : run (Some (PartEnd h (found m p b xs))) text ≡ run (Some (PartEnd h (found m p done last))) rest

run_branches : (h : Head) (m : Mode) (p : List Public) (b : List (List Atom)) (xs : List Atom) (bs : List (List Atom)) (rest : List Token)
    → or_in m ≡ Some m → may_atom_in m ≡ true → is_branch xs ≡ true → list_all is_branch bs ≡ true
    → Ored h m p b xs (flat_map (λ y. (Symbol Or) ∷ branch_text y) bs ++ rest) bs rest
run_branches h m p b xs [] rest or may is all = record { done = b; last = xs; all = sym (append-nil (b ++ xs ∷ [])); some = is; runs = refl }
run_branches h m p b xs (y ∷ bs) rest or may is all =
    let now = both (is_branch y) (list_all is_branch bs) all in
    let o = run_branches h m p (b ++ xs ∷ []) y bs rest or may now.0 now.1 in
    record {
      done = o.done;
      last = o.last;
      all = o.all ∙ append_assoc (b ++ xs ∷ []) (y ∷ []) bs;
      some = o.some;
      runs =
          rw or (
          ap (run (Some (PartStart h (found m p (b ++ xs ∷ []) [])))) (append_assoc (branch_text y) (flat_map (λ z. (Symbol Or) ∷ branch_text z) bs) rest)
          ∙ run_branch h m p (b ++ xs ∷ []) y (flat_map (λ z. (Symbol Or) ∷ branch_text z) bs ++ rest) may now.0
          ∙ o.runs
          );
    }

-- Where the machine stands behind some parts.
pub record Parted (h : Head) (m : Mode) (p : List Public) (b : List (List Atom)) (xs : List Atom) (text : List Token) (public : List Public) (branches : List (List Atom)) (rest : List Token) : Type 0 where
  pub mode : Mode
  pub done : List (List Atom)
  pub last : List Atom
  pub ends : ends_in mode ≡ true
  pub all : with_atoms done last ≡ branches
  pub runs : run (Some (PartEnd h (found m p b xs))) text ≡ run (Some (PartEnd h (found mode (p ++ public) done last))) rest

-- before any parentheses and after no bare OR
abbrev pub IsPlain : Mode → Type 0
IsPlain Atoms = Unit {0}
IsPlain Mixed = Unit {0}
IsPlain Inside = ⊥
IsPlain Behind = ⊥
IsPlain Apart = ⊥

plain_public : (m : Mode) → IsPlain m → (may_public_in m ≡ true) × (may_atom_in m ≡ true) × (ends_in m ≡ true) × (public_mode m ≡ Mixed)
plain_public Atoms i = (refl, refl, refl, refl)
plain_public Mixed i = (refl, refl, refl, refl)
plain_public Inside i = absurd i
plain_public Behind i = absurd i
plain_public Apart i = absurd i

bare_range : (xs : List Atom) (a : Atom) (more : List Atom) (es : List (List (List Atom))) (br : List (List Atom)) → BranchesOf (xs ++ a ∷ more) es br → ends_in_range xs ≡ false
bare_range [] a more es br h = refl
bare_range (x ∷ xs) a more [] br h = no_range (x ∷ xs) a more h.0
bare_range (x ∷ xs) a more (bs ∷ []) br h = absurd h
bare_range (x ∷ xs) a more (bs ∷ cs ∷ ds) br h = absurd h

no_atoms : (xs : List Atom) → (branches : List (List Atom)) → BranchesOf (xs ++ []) [] branches → with_atoms [] xs ≡ branches
no_atoms [] branches h = sym h
no_atoms (x ∷ xs) branches h = ap (λ l. (x ∷ l) ∷ []) (sym (append-nil xs)) ∙ sym h.1

behind : (h : Head) (p : List Public) (b : List (List Atom)) (ps : List Part) (rest : List Token) → atoms_of ps ≡ [] → eithers_of ps ≡ []
    → run (Some (PartEnd h (found Behind p b []))) (flat_map (λ y. (Symbol And) ∷ part_text y) ps ++ rest) ≡ run (Some (PartEnd h (found Behind (p ++ publics_of ps) b []))) rest
behind h p b [] rest a e = ap (λ l. run (Some (PartEnd h (found Behind l b []))) rest) (sym (append-nil p))
behind h p b (Shown x ∷ ps) rest a e =
    ap (run (Some (PartStart h (found Behind p b [])))) (append_assoc (public_text x) (flat_map (λ y. (Symbol And) ∷ part_text y) ps) rest)
    ∙ run_public h Behind p b [] x (flat_map (λ y. (Symbol And) ∷ part_text y) ps ++ rest) refl
    ∙ behind h (p ++ x ∷ []) b ps rest a e
    ∙ ap (λ l. run (Some (PartEnd h (found Behind l b []))) rest) (append_assoc p (x ∷ []) (publics_of ps))
behind h p b (Bare x ∷ ps) rest a e = cc
behind h p b (Either bs ∷ ps) rest a e = cc

-- what one part in parentheses asks of the rest
pub record Alone (xs more : List Atom) (bs : List (List Atom)) (es : List (List (List Atom))) (br : List (List Atom)) : Type 0 where
  pub before : xs ≡ []
  pub after : more ≡ []
  pub no_other : es ≡ []
  pub branches : are_branches bs ≡ true
  pub is : br ≡ bs

alone : (xs more : List Atom) (bs : List (List Atom)) (es : List (List (List Atom))) (br : List (List Atom)) → BranchesOf (xs ++ more) (bs ∷ es) br → Alone xs more bs es br
alone [] [] bs [] br h = record { before = refl; after = refl; no_other = refl; branches = h.0; is = h.1 }
alone [] [] bs (c ∷ cs) br h = absurd h
alone [] (a ∷ more) bs [] br h = absurd h
alone [] (a ∷ more) bs (c ∷ cs) br h = absurd h
alone (x ∷ xs) more bs [] br h = absurd h
alone (x ∷ xs) more bs (c ∷ cs) br h = absurd h

-- inside the parentheses, from the first branch on
inside : (h : Head) (p : List Public) (b : List Atom) (bs : List (List Atom)) (rest : List Token) → list_all is_branch (b ∷ bs) ≡ true
    → run (Some (PartStart h (found Inside p [] []))) ((joined (Symbol Or) branch_text (b ∷ bs) ++ (Symbol Close) ∷ []) ++ rest) ≡ run (Some (PartEnd h (found Behind p (b ∷ bs) []))) rest
inside h p b bs rest are =
    let both_are = both (is_branch b) (list_all is_branch bs) are in
    let o = run_branches h Inside p [] b bs ((Symbol Close) ∷ rest) refl refl both_are.0 both_are.1 in
    ap (run (Some (PartStart h (found Inside p [] []))))
    (append_assoc (branch_text b ++ flat_map (λ z. (Symbol Or) ∷ branch_text z) bs) ((Symbol Close) ∷ []) rest ∙ append_assoc (branch_text b) (flat_map (λ z. (Symbol Or) ∷ branch_text z) bs) ((Symbol Close) ∷ rest))
    ∙ run_branch h Inside p [] b (flat_map (λ z. (Symbol Or) ∷ branch_text z) bs ++ (Symbol Close) ∷ rest) refl both_are.0
    ∙ o.runs
    ∙ ap (λ l. run (Some (PartEnd h (found Behind p l []))) rest) o.all

-- from a parenthesis to the one that closes it
run_group : (h : Head) (m : Mode) (p : List Public) (bs : List (List Atom)) (rest : List Token) → IsPlain m → are_branches bs ≡ true
    → run (Some (PartStart h (found m p [] []))) (part_text (Either bs) ++ rest) ≡ run (Some (PartEnd h (found Behind p bs []))) rest
run_group h Atoms p [] rest i are = cc
run_group h Mixed p [] rest i are = cc
run_group h Inside p [] rest i are = absurd i
run_group h Behind p [] rest i are = absurd i
run_group h Apart p [] rest i are = absurd i
run_group h Atoms p (b ∷ bs) rest i are = inside h p b bs rest are
run_group h Mixed p (b ∷ bs) rest i are = inside h p b bs rest are
run_group h Inside p (b ∷ bs) rest i are = absurd i
run_group h Behind p (b ∷ bs) rest i are = absurd i
run_group h Apart p (b ∷ bs) rest i are = absurd i

-- the parts behind the first, before any parentheses
run_parts : (h : Head) (m : Mode) (p : List Public) (xs : List Atom) (ps : List Part) (br : List (List Atom)) (rest : List Token) → IsPlain m
    → BranchesOf (xs ++ atoms_of ps) (eithers_of ps) br
    → Parted h m p [] xs (flat_map (λ y. (Symbol And) ∷ part_text y) ps ++ rest) (publics_of ps) br rest
run_parts h m p xs [] br rest i is = record {
  mode = m;
  done = [];
  last = xs;
  ends = (plain_public m i).2;
  all = no_atoms xs br is;
  runs = ap (λ l. run (Some (PartEnd h (found m l [] xs))) rest) (sym (append-nil p));
}
run_parts h m p xs (Shown x ∷ ps) br rest i is =
    let may = plain_public m i in
    let o = run_parts h Mixed (p ++ x ∷ []) xs ps br rest tt is in
    let e : may_public_in m ≡ true = may.0 in
    let e2 : public_mode m ≡ Mixed = may.3 in
    record {
      mode = o.mode;
      done = o.done;
      last = o.last;
      ends = o.ends;
      all = o.all;
      runs =
          rw e (
          ap (run (Some (PartStart h (found m p [] xs)))) (append_assoc (public_text x) (flat_map (λ y. (Symbol And) ∷ part_text y) ps) rest)
          ∙ run_public h m p [] xs x (flat_map (λ y. (Symbol And) ∷ part_text y) ps ++ rest) e
          ∙ ap (λ k. run (Some (PartEnd h (found k (p ++ x ∷ []) [] xs))) (flat_map (λ y. (Symbol And) ∷ part_text y) ps ++ rest)) e2
          ∙ o.runs
          ∙ ap (λ l. run (Some (PartEnd h (found o.mode l o.done o.last))) rest) (append_assoc p (x ∷ []) (publics_of ps))
          );
    }
run_parts h m p xs (Bare a ∷ ps) br rest i is =
    let may = plain_public m i in
    let e : may_public_in m ≡ true = may.0 in
    let range = bare_range xs a (atoms_of ps) (eithers_of ps) br is in
    let o = run_parts h m p (xs ++ a ∷ []) ps br rest i (subst (λ (l : List Atom). BranchesOf l (eithers_of ps) br) (sym (append_assoc xs (a ∷ []) (atoms_of ps))) is) in
    record {
      mode = o.mode;
      done = o.done;
      last = o.last;
      ends = o.ends;
      all = o.all;
      runs =
          rw e (
          ap (run (Some (PartStart h (found m p [] xs)))) (append_assoc (atom_text a) (flat_map (λ y. (Symbol And) ∷ part_text y) ps) rest)
          ∙ run_atom h m p [] xs a (flat_map (λ y. (Symbol And) ∷ part_text y) ps ++ rest) may.1 range
          ∙ o.runs
          );
    }
run_parts h m p xs (Either bs ∷ ps) br rest i is =
    let may = plain_public m i in
    let e : may_public_in m ≡ true = may.0 in
    let a = alone xs (atoms_of ps) bs (eithers_of ps) br is in
    record {
      mode = Behind;
      done = bs;
      last = [];
      ends = refl;
      all = sym a.is;
      runs =
          rw e (
          ap (run (Some (PartStart h (found m p [] xs)))) (append_assoc (part_text (Either bs)) (flat_map (λ y. (Symbol And) ∷ part_text y) ps) rest)
          ∙ ap (λ l. run (Some (PartStart h (found m p [] l))) (part_text (Either bs) ++ (flat_map (λ y. (Symbol And) ∷ part_text y) ps ++ rest))) a.before
          ∙ run_group h m p bs (flat_map (λ y. (Symbol And) ∷ part_text y) ps ++ rest) i a.branches
          ∙ behind h p bs ps rest a.after a.no_other
          );
    }

with_last : (done : List (List Atom)) (last : List Atom) → is_branch last ≡ true → with_atoms done last ≡ done ++ last ∷ []
with_last done [] is = cc
with_last done (a ∷ more) is = refl

-- The whole condition.
pub record Held (h : Head) (text : List Token) (public : List Public) (branches : List (List Atom)) (rest : List Token) : Type 0 where
  pub mode : Mode
  pub done : List (List Atom)
  pub last : List Atom
  pub ends : ends_in mode ≡ true
  pub all : with_atoms done last ≡ branches
  pub runs : run (Some (PartStart h nothing_found)) text ≡ run (Some (PartEnd h (found mode public done last))) rest

run_condition : (h : Head) (c : Condition) (p : List Public) (br : List (List Atom)) (rest : List Token) → IsCondition c p br → Held h (condition_text c ++ rest) p br rest
run_condition h (Parts []) p br rest is = absurd (omega (arith, is.0))
run_condition h (Parts (Shown x ∷ ps)) p br rest is =
    let o = run_parts h Mixed (x ∷ []) [] ps br rest tt is.2 in
    record {
      mode = o.mode;
      done = o.done;
      last = o.last;
      ends = o.ends;
      all = o.all;
      runs =
          ap (run (Some (PartStart h nothing_found))) (append_assoc (public_text x) (flat_map (λ y. (Symbol And) ∷ part_text y) ps) rest)
          ∙ run_public h Atoms [] [] [] x (flat_map (λ y. (Symbol And) ∷ part_text y) ps ++ rest) refl
          ∙ o.runs
          ∙ ap (λ l. run (Some (PartEnd h (found o.mode l o.done o.last))) rest) (sym is.1);
    }
run_condition h (Parts (Bare a ∷ ps)) p br rest is =
    let o = run_parts h Atoms [] (a ∷ []) ps br rest tt is.2 in
    record {
      mode = o.mode;
      done = o.done;
      last = o.last;
      ends = o.ends;
      all = o.all;
      runs =
          ap (run (Some (PartStart h nothing_found))) (append_assoc (atom_text a) (flat_map (λ y. (Symbol And) ∷ part_text y) ps) rest)
          ∙ run_atom h Atoms [] [] [] a (flat_map (λ y. (Symbol And) ∷ part_text y) ps ++ rest) refl refl
          ∙ o.runs
          ∙ ap (λ l. run (Some (PartEnd h (found o.mode l o.done o.last))) rest) (sym is.1);
    }
run_condition h (Parts (Either bs ∷ ps)) p br rest is =
    let a = alone [] (atoms_of ps) bs (eithers_of ps) br is.2 in
    record {
      mode = Behind;
      done = bs;
      last = [];
      ends = refl;
      all = sym a.is;
      runs =
          ap (run (Some (PartStart h nothing_found))) (append_assoc (part_text (Either bs)) (flat_map (λ y. (Symbol And) ∷ part_text y) ps) rest)
          ∙ run_group h Atoms [] bs (flat_map (λ y. (Symbol And) ∷ part_text y) ps ++ rest) tt a.branches
          ∙ behind h [] bs ps rest a.after a.no_other
          ∙ ap (λ l. run (Some (PartEnd h (found Behind l bs []))) rest) (sym is.1);
    }
run_condition h (Branches []) p br rest is = absurd (omega (arith, is.1))
run_condition h (Branches (b ∷ [])) p br rest is = absurd (omega (arith, is.1))
run_condition h (Branches (b ∷ c ∷ bs)) p br rest is =
    let first = both (is_branch b) (list_all is_branch (c ∷ bs)) is.2 in
    let second = both (is_branch c) (list_all is_branch bs) first.1 in
    let o = run_branches h Apart [] (b ∷ []) c bs rest refl refl second.0 second.1 in
    record {
      mode = Apart;
      done = o.done;
      last = o.last;
      ends = refl;
      all = with_last o.done o.last o.some ∙ o.all ∙ sym is.3;
      runs =
          ap (run (Some (PartStart h nothing_found))) (append_assoc (branch_text b) (flat_map (λ z. (Symbol Or) ∷ branch_text z) (c ∷ bs)) rest)
          ∙ run_branch h Atoms [] [] b (flat_map (λ z. (Symbol Or) ∷ branch_text z) (c ∷ bs) ++ rest) refl first.0
          ∙ ap (run (Some (PartStart h (found Apart [] (b ∷ []) [])))) (append_assoc (branch_text c) (flat_map (λ z. (Symbol Or) ∷ branch_text z) bs) rest)
          ∙ run_branch h Apart [] (b ∷ []) c (flat_map (λ z. (Symbol Or) ∷ branch_text z) bs ++ rest) refl second.0
          ∙ o.runs
          ∙ ap (λ l. run (Some (PartEnd h (found Apart l o.done o.last))) rest) (sym is.0);
    }

-- the end of the query
run_end : (h : Head) (m : Mode) (p : List Public) (b : List (List Atom)) (xs : List Atom) (g : Option (List ℕ)) (ended : Bool) → ends_in m ≡ true
    → finished (run (Some (PartEnd h (found m p b xs))) (group_text g ++ end_text ended)) ≡ Some (query_of h (found m p b xs) g)
run_end h m p b xs None false e = rw e
run_end h m p b xs None true e = rw e
run_end h m p b xs (Some n) false e = rw e
run_end h m p b xs (Some n) true e = rw e

table_end : (h : Head) (g : Option (List ℕ)) (ended : Bool) → finished (run (Some (TableEnd h)) (group_text g ++ end_text ended)) ≡ Some (query_of h nothing_found g)
table_end h None false = refl
table_end h None true = refl
table_end h (Some n) false = refl
table_end h (Some n) true = refl

run_where : (h : Head) (c : Option Condition) (p : List Public) (br : List (List Atom)) (g : Option (List ℕ)) (ended : Bool) → IsWhere c p br
    → finished (run (Some (TableEnd h)) (where_text c ++ (group_text g ++ end_text ended))) ≡ Some (record { items = h.items; table = h.table; public = p; branches = br; group = g })
run_where h None p br g ended is = table_end h g ended ∙ cc
run_where h (Some c) p br g ended is =
    let o = run_condition h c p br (group_text g ++ end_text ended) is in
    ap finished o.runs
    ∙ run_end h o.mode p o.done o.last g ended o.ends
    ∙ ap (λ l. Some (record { items = h.items; table = h.table; public = p; branches = l; group = g })) o.all

run_head : (is : List Item) (table : List ℕ) (rest : List Token) → 1 ≤ length is
    → run (Some Start) ((Symbol Select) ∷ joined (Symbol Comma) item_text is ++ ((Symbol From) ∷ Name table ∷ rest)) ≡ run (Some (TableEnd (record { items = is; table = table }))) rest
run_head [] table rest some = absurd (omega arith)
run_head (i ∷ is) table rest some =
    ap (run (Some (Items []))) (append_assoc (item_text i) (flat_map (λ y. (Symbol Comma) ∷ item_text y) is) ((Symbol From) ∷ Name table ∷ rest))
    ∙ run_item [] i (flat_map (λ y. (Symbol Comma) ∷ item_text y) is ++ ((Symbol From) ∷ Name table ∷ rest))
    ∙ run_items (i ∷ []) is ((Symbol From) ∷ Name table ∷ rest)

-- what the grammar reads, the machine accepts
pub accepted : (tokens : List Token) (q : QueryParts) → Reads tokens q → finished (run (Some Start) tokens) ≡ Some q
accepted tokens q r =
    ap (λ ts. finished (run (Some Start) ts)) r.text
    ∙ ap finished (run_head q.items q.table (where_text r.condition ++ (group_text q.group ++ end_text r.ended)) r.some)
    ∙ run_where (record { items = q.items; table = q.table }) r.condition q.public q.branches q.group r.ended r.parts
