-- Numbers and texts.
use Rattle.std.proofs.Common.{◌≡◌, ℕ, ◌+◌, ◌-◌, ◌*◌, ◌^◌, ◌<◌, ◌≤◌, true, false, List, [], ◌∷◌, drop, length, get_or, Some, None, sym, ◌∙◌, ap, arith, add-one, drop-cons, nat_lt}
use Rattle.std.proofs.Math.ListN.{drop_of_length-le}
use Rattle.query_tokens.specs.Lexing.{decimal, below_end}

pub decimal_grows : (n : ℕ) (ds : List ℕ) → n ≤ decimal n ds
decimal_grows n [] = omega arith
decimal_grows n (d ∷ ds) = omega (arith, decimal_grows (n * 10 + (d - 48)) ds)

pub at_end : (n m : ℕ) (ds : List ℕ) (i : ℕ) → length ds ≤ i → n < 2 ^ 64 → decimal n (drop i ds) ≡ m → Some n ≡ below_end m
at_end n m ds i h k e =
    let d : drop i ds ≡ [] = drop_of_length-le ds h in
    let f : n ≡ m = ap (decimal n) (sym d) ∙ e in
    let t : nat_lt n (2 ^ 64) ≡ true = grind arith in
    rw (← f, t)

pub too_large : (n : ℕ) (ds : List ℕ) → 2 ^ 64 ≤ n → None ≡ below_end (decimal n ds)
too_large n ds h = let g = decimal_grows n ds in let k : nat_lt (decimal n ds) (2 ^ 64) ≡ false = grind arith in rw k

pub decimal_next : (n : ℕ) (ds : List ℕ) (i : ℕ) → i < length ds → decimal n (drop i ds) ≡ decimal (n * 10 + (get_or ds i 0 - 48)) (drop (i + 1) ds)
decimal_next n ds i h = rw (add-one, drop-cons ds i 0)
