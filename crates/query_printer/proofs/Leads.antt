-- Writing the parts of a condition, each behind its word.
use Rattle.std.proofs.Common.{◌≡◌, ℕ, ◌+◌, ◌<◌, ◌≤◌, Bool, true, false, List, [], ◌∷◌, ◌++◌, map, length, drop, get_or, suc, refl, add-one, drop-cons}
use Rattle.std.proofs.Math.ListN.{drop_of_length-le}
use Rattle.query_grammar.specs.declared.condition.Public.{Public}
use Rattle.query_grammar.specs.declared.condition.Atom.{Atom}
use Rattle.query_grammar.specs.Grammar.{Part, Shown, Bare, part_text, public_text, atom_text}
use Rattle.query_tokens.specs.Printing.{Written, put, written}
use Rattle.query_tokens.proofs.Writing.{written_both}
use Rattle.query_printer.specs.Leading.{lead, led}

pub led_step : (first : Bool) (p : Part) (ps : List Part) (w : Written) → written w (led first (p ∷ ps)) ≡ written (written (put w (lead first)) (part_text p)) (led false ps)
led_step true p ps w = written_both (put w (lead true)) (part_text p) (led false ps)
led_step false p ps w = written_both (put w (lead false)) (part_text p) (led false ps)

pub publics_step : (first : Bool) (w : Written) (ps : List Public) (i : ℕ) (d : Public) (rest : List Part) → i < length ps
    → written w (led first (map Shown (drop i ps) ++ rest)) ≡ written (written (put w (lead first)) (public_text (get_or ps i d))) (led false (map Shown (drop (i + 1) ps) ++ rest))
publics_step first w ps i d rest h = let e = drop-cons ps i d h in rw (add-one, e) (led_step first (Shown (get_or ps i d)) (map Shown (drop (suc i) ps) ++ rest) w)

pub publics_end : (first : Bool) (w : Written) (ps : List Public) (i : ℕ) (rest : List Part) → length ps ≤ i → written w (led first (map Shown (drop i ps) ++ rest)) ≡ written w (led first rest)
publics_end first w ps i rest h = let e = drop_of_length-le ps h in rw e refl

pub atoms_step : (first : Bool) (w : Written) (xs : List Atom) (i : ℕ) (d : Atom) → i < length xs
    → written w (led first (map Bare (drop i xs))) ≡ written (written (put w (lead first)) (atom_text (get_or xs i d))) (led false (map Bare (drop (i + 1) xs)))
atoms_step first w xs i d h = let e = drop-cons xs i d h in rw (add-one, e) (led_step first (Bare (get_or xs i d)) (map Bare (drop (suc i) xs)) w)

nothing_led : (first : Bool) (w : Written) → written w (led first []) ≡ w
nothing_led true w = refl
nothing_led false w = refl

pub atoms_end : (first : Bool) (w : Written) (xs : List Atom) (i : ℕ) → length xs ≤ i → written w (led first (map Bare (drop i xs))) ≡ w
atoms_end first w xs i h = let e = drop_of_length-le xs h in rw e (nothing_led first w)
