-- What is read is spelled so, and what is spelled so is read: one law for each kind of field, and one for a field followed by others.
use Rattle.std.proofs.Common.{◌≡◌, ℕ, zero, suc, ◌+◌, ◌*◌, ◌^◌, ◌<◌, ◌≤◌, Bool, true, false, cond, ltb, leb, eqb, ◌&&◌, List, [], ◌∷◌, ◌++◌, length, take, drop, Option, Some, None, Result, Ok, Err, refl, sym, ap, subst, ◌∙◌, append_assoc, arith, inl, inr}
use Rattle.std.specs.Prelude.{◌↔◌, IfOk}
use Rattle.std.specs.Int.{Width, w8, w16, w32, w64, byte_len, byte_at, bytes_high_first, from_be_bytes, to_be_bytes}
use Rattle.std.specs.List.{flat_map, AllByRecursion, position}
use Rattle.std.specs.Str.{bytes_eq}
use Rattle.std.proofs.lemmas.Bool.{cases_lt, ltb-false, le-ltb, eqb-true, eq-eqb, leb-true, le-leb}
use Rattle.std.proofs.lemmas.List.{length-append, length-take, length-drop, append-nil, take-append-drop, get_or-drop, get_or-take, get_or_past, append_cancel_left, nil_from_length}
use Rattle.std.proofs.lemmas.List.Concat.{flat_map-cons}
use Rattle.std.proofs.lemmas.Nat.{be_bytes_2, be_bytes_4, be_bytes_8, from_be_bytes-to_be_bytes_2, from_be_bytes-to_be_bytes_4, from_be_bytes-to_be_bytes_8}
use Rattle.std.proofs.Math.Seq.{take-append_seam, drop-append_seam, drop-append-add}
use Rattle.std.proofs.lemmas.Slice.Eq.{bytes_eq-Decides}
use Rattle.sha2.specs.Sha256.{sha256}
use Rattle.sha2.proofs.Facts256.{length-sha256}
use Rattle.spl_words.specs.declared.provider.Provider.{Provider}
use Rattle.spl_words.specs.declared.provider.Provider.TheVariants.{Zero, One}
use Rattle.spl_words.specs.declared.fault.FrameFault.{FrameFault}
use Rattle.spl_words.specs.declared.fault.FrameFault.TheVariants.{Short, BadMagic, BadVersion, BadField, TooLarge, Trailing, BadDigest, OutOfMemory}
use Rattle.spl_words.specs.Cursor.{Spot}
use Rattle.frame_fields.specs.Typed.{IsBytes}
use Rattle.spl_words.specs.Results.{◌>>=◌, Gives}
use Rattle.frame_fields.specs.Reading.{At, provider_byte, take_at, number_at, magic_at, version_at, none_bad, some_value, text_at, decoded_at, within_at, provider_of, provider_at, many_at, digest_at, frame_at, sealed}

-- the value of a step that did not fail
pub bind_ok : {A B : Type 0} (r : Result A FrameFault) (f : A → Result B FrameFault) (y : B) → (r >>= f) ≡ Ok y → (x : A) × (r ≡ Ok x) × (f x ≡ Ok y)
bind_ok (Ok x) f y e = (x, refl, e)
bind_ok (Err d) f y e = absurd cc

-- a test that did not fail
pub guard_ok : {A : Type 0} (b : Bool) (d : FrameFault) (x y : A) → cond b (Err d) (Ok x) ≡ Ok y → (b ≡ false) × (x ≡ y)
guard_ok true d x y e = absurd cc
guard_ok false d x y e = (refl, cc)

pub test_ok : {A : Type 0} (b : Bool) (d : FrameFault) (x y : A) → cond b (Ok x) (Err d) ≡ Ok y → (b ≡ true) × (x ≡ y)
test_ok true d x y e = (refl, cc)
test_ok false d x y e = absurd cc

abbrev done_is : {A : Type 0} → A → Result A FrameFault
done_is x = Ok x

pub ok_is : {A : Type 0} (x y : A) → done_is x ≡ done_is y → x ≡ y
ok_is x y e = cc

-- ---- spots

pub IsBytes-drop : (n : ℕ) (bytes : List ℕ) → IsBytes bytes → IsBytes (drop n bytes)
IsBytes-drop n bytes h i = rw get_or-drop (h (n + i))

pub IsBytes-take : (n : ℕ) (bytes : List ℕ) → IsBytes bytes → IsBytes (take n bytes)
IsBytes-take n bytes h i =
    elim (cases_lt i n) [
      | inl lt ↦ rw (get_or-take n bytes i 0 lt) (h i)
      | inr le ↦ rw (get_or_past (take n bytes) i 0 (omega (arith, length-take n bytes))) (omega arith)
    ]

-- a spot in bytes
pub record IsSpot (p : Spot) : Type 0 where
  pub bytes : IsBytes p.bytes
  pub within : p.at ≤ length p.bytes

-- the text stands between two spots
pub record Spans (p : Spot) (text : List ℕ) (q : Spot) : Type 0 where
  pub same : q.bytes ≡ p.bytes
  pub at : q.at ≡ p.at + length text
  pub there : drop p.at p.bytes ≡ text ++ drop q.at p.bytes
  pub within : q.at ≤ length p.bytes

pub spot_is : (p q : Spot) → p.bytes ≡ q.bytes → p.at ≡ q.at → p ≡ q
spot_is p q b a = λ i. record { bytes = b i; at = a i }

pub after_is_spot : (p : Spot) (text : List ℕ) (q : Spot) → IsSpot p → Spans p text q → IsSpot q
after_is_spot p text q is s = record { bytes = rw s.same is.bytes; within = rw s.same s.within }

pub Spans-nil : (p : Spot) → IsSpot p → Spans p [] p
Spans-nil p is = record { same = refl; at = omega arith; there = refl; within = is.within }

pub nil-Spans : (p q : Spot) → Spans p [] q → p ≡ q
nil-Spans p q s = spot_is p q (sym s.same) (omega (arith, s.at))

pub Spans-then : (p q r : Spot) (x y : List ℕ) → Spans p x q → Spans q y r → Spans p (x ++ y) r
Spans-then p q r x y a b = record {
  same = b.same ∙ a.same;
  at = omega (arith, length-append x y, a.at, b.at);
  there = a.there ∙ ap (λ (s : List ℕ). x ++ drop q.at s) (sym a.same) ∙ ap (λ (t : List ℕ). x ++ t) b.there ∙ ap (λ (s : List ℕ). x ++ (y ++ drop r.at s)) a.same ∙ sym (append_assoc x y (drop r.at p.bytes));
  within = subst (λ (s : List ℕ). r.at ≤ length s) a.same b.within;
}

drop_more : (a n : ℕ) (s : List ℕ) → a ≤ length s → drop (a + n) s ≡ drop n (drop a s)
drop_more a n s le =
    let len : length (take a s) ≡ a = omega (arith, length-take a s) in
    let e = drop-append-add (take a s) (drop a s) n in
    subst (λ (k : ℕ). drop (k + n) s ≡ drop n (drop a s)) len (ap (λ (t : List ℕ). drop (length (take a s) + n) t) (sym (take-append-drop a s)) ∙ e)

abbrev pub middle : Spot → List ℕ → Spot
middle p x = record { bytes = p.bytes; at = p.at + length x }

pub first-Spans : (p r : Spot) (x y : List ℕ) → Spans p (x ++ y) r → Spans p x (middle p x) × Spans (middle p x) y r
first-Spans p r x y s =
    let long : p.at + length x + length y ≤ length p.bytes = omega (arith, s.at, s.within, length-append x y) in
    let front : drop p.at p.bytes ≡ x ++ (y ++ drop r.at p.bytes) = s.there ∙ append_assoc x y (drop r.at p.bytes) in
    let back : drop (p.at + length x) p.bytes ≡ y ++ drop r.at p.bytes = drop_more p.at (length x) p.bytes (omega arith) ∙ ap (drop (length x)) front ∙ drop-append_seam x (y ++ drop r.at p.bytes) in (
      record { same = refl; at = refl; there = front ∙ ap (λ (t : List ℕ). x ++ t) (sym back); within = omega (arith, long) },
      record { same = s.same; at = omega (arith, s.at, length-append x y); there = back; within = s.within },
    )

-- ---- fields

-- Reading answers a value exactly where its spelling stands. What is known of a value comes from fields before it.
pub record IsField {A : Type 0} (read : Spot → At A) (known fits : A → Type 0) (spell : A → List ℕ) : Type 0 where
  pub found : (p : Spot) (x : A) (q : Spot) → IsSpot p → read p ≡ Ok (x, q) → Spans p (spell x) q × known x × fits x
  pub only : (p : Spot) (x : A) (q : Spot) → Spans p (spell x) q → known x → fits x → read p ≡ Ok (x, q)

abbrev pub Any : {A : Type 0} → A → Type 0
Any x = Unit {0}

abbrev pub nothing : {A : Type 0} → A → List ℕ
nothing x = []

-- no field: the value is known
pub done_field : {A : Type 0} (v : A) (known : A → Type 0) → known v → ((y : A) → known y → y ≡ v) → IsField (λ p. Ok (v, p)) known Any nothing
done_field {A} v known here all = record {
  found = λ p x q is e.
      let e1 = ok_is (v, p) (x, q) e in
      subst (λ (y : A × Spot). Spans p [] y.1 × known y.0 × Unit {0}) e1 (Spans-nil p is, here, tt);
  only = λ p x q s k f. ap (λ (y : A × Spot). done_is y) (cc (sym (all x k), nil-Spans p q s));
}

-- a field of the value, and then the others
pub and_then : {A B : Type 0} (get : B → A) (one : Spot → At A) (others : A × Spot → At B) (known : B → Type 0) (first_known first_fits : A → Type 0) (first_spell : A → List ℕ) (fits : B → Type 0) (spell : B → List ℕ)
    → ((y : B) → known y → first_known (get y))
    → IsField one first_known first_fits first_spell
    → ((a : A) → first_known a × first_fits a → IsField (λ p. others (a, p)) (λ y. known y × (get y ≡ a)) fits spell)
    → IsField (λ p. one p >>= others) known (λ y. first_fits (get y) × fits y) (λ y. first_spell (get y) ++ spell y)
and_then {A} get one others known first_known first_fits first_spell fits spell passes first rest = record {
  found = λ p y r is e.
      let b = bind_ok (one p) others (y, r) e in
      let f = first.found p b.0.0 b.0.1 is b.1 in
      let g = (rest b.0.0 (f.1, f.2)).found b.0.1 y r (after_is_spot p (first_spell b.0.0) b.0.1 is f.0) b.2 in
      let all = Spans-then p b.0.1 r (first_spell b.0.0) (spell y) f.0 g.0 in
      (subst (λ (a : A). Spans p (first_spell a ++ spell y) r) (sym g.1.1) all, g.1.0, (subst first_fits (sym g.1.1) f.2, g.2));
  only = λ p y r s k f.
      let parts = first-Spans p r (first_spell (get y)) (spell y) s in
      let a = first.only p (get y) (middle p (first_spell (get y))) parts.0 (passes y k) f.0 in
      let b = (rest (get y) (passes y k, f.0)).only (middle p (first_spell (get y))) y r parts.1 (k, refl) f.1 in
      ap (λ (x : At A). x >>= others) a ∙ b;
}

-- the same law with an equal spelling and an equivalent condition
pub restate_field : {A : Type 0} (read : Spot → At A) (known fits : A → Type 0) (spell : A → List ℕ) (known2 fits2 : A → Type 0) (spell2 : A → List ℕ)
    → ((x : A) → fits x → known x → known2 x × fits2 x) → ((x : A) → known2 x → fits2 x → known x × fits x) → ((x : A) → spell x ≡ spell2 x)
    → IsField read known fits spell → IsField read known2 fits2 spell2
restate_field read known fits spell known2 fits2 spell2 to back same law = record {
  found = λ p x q is e.
      let f = law.found p x q is e in
      let t = to x f.2 f.1 in
      (subst (λ (s : List ℕ). Spans p s q) (same x) f.0, t.0, t.1);
  only = λ p x q s k f.
      let b = back x k f in
      law.only p x q (subst (λ (t : List ℕ). Spans p t q) (sym (same x)) s) b.0 b.1;
}

pub take_only : (n : ℕ) (p : Spot) (x : List ℕ) (q : Spot) → Spans p x q → length x ≡ n → take_at n p ≡ Ok (x, q)
unfolding take_at
take_only n p x q s k =
    let long : ltb (length p.bytes) (p.at + n) ≡ false = le-ltb _ _ (omega (arith, s.at, s.within, k)) in
    let front : take n (drop p.at p.bytes) ≡ x = ap (take n) s.there ∙ subst (λ (m : ℕ). take m (x ++ drop q.at p.bytes) ≡ x) k (take-append_seam x (drop q.at p.bytes)) in
    let behind : record { bytes = p.bytes; at = p.at + n } ≡ q = spot_is (record { bytes = p.bytes; at = p.at + n }) q (sym s.same) (omega (arith, s.at, k)) in
    rw (long, front, behind) refl

-- n bytes
pub take_field : (n : ℕ) → IsField (take_at n) (λ bytes. length bytes ≡ n) IsBytes (λ bytes. bytes)
unfolding take_at
take_field n = record {
  found = λ p x q is e.
      let g = guard_ok (ltb (length p.bytes) (p.at + n)) (Short (p.at + n) (length p.bytes)) (take n (drop p.at p.bytes), record { bytes = p.bytes; at = p.at + n }) (x, q) e in
      let long : p.at + n ≤ length p.bytes = ltb-false _ _ g.0 in
      let len : length (take n (drop p.at p.bytes)) ≡ n = omega (arith, length-take n (drop p.at p.bytes), length-drop p.at p.bytes) in
      let parts : drop p.at p.bytes ≡ take n (drop p.at p.bytes) ++ drop (p.at + n) p.bytes = sym (take-append-drop n (drop p.at p.bytes)) ∙ ap (λ (t : List ℕ). take n (drop p.at p.bytes) ++ t) (sym (drop_more p.at n p.bytes is.within)) in
      subst (λ (y : List ℕ × Spot). Spans p y.0 y.1 × (length y.0 ≡ n) × IsBytes y.0) g.1
      (record { same = refl; at = omega (arith, len); there = parts; within = long }, len, IsBytes-take n (drop p.at p.bytes) (IsBytes-drop p.at p.bytes is.bytes));
  only = λ p x q s k f. take_only n p x q s k;
}

none_ok : (p : Spot) (b : List ℕ × Spot) (found : Option ℕ) (y : List ℕ × Spot) → none_bad p b found ≡ Ok y → (found ≡ None) × (b ≡ y)
none_ok p b None y e = (refl, cc)
none_ok p b (Some i) y e = absurd cc

some_ok : {A : Type 0} (p q : Spot) (found : Option A) (y : A × Spot) → some_value p q found ≡ Ok y → (found ≡ Some y.0) × (q ≡ y.1)
some_ok p q None y e = absurd cc
some_ok p q (Some x) y e = let s = ok_is (x, q) y e in (ap (λ (z : _ × Spot). Some z.0) s, ap (λ (z : _ × Spot). z.1) s)

-- n bytes, where n is fixed
pub chunk_field : (n : ℕ) → IsField (take_at n) Any (λ bytes. (length bytes ≡ n) × IsBytes bytes) (λ bytes. bytes)
chunk_field n = restate_field (take_at n) (λ bytes. length bytes ≡ n) IsBytes (λ bytes. bytes) Any (λ bytes. (length bytes ≡ n) × IsBytes bytes) (λ bytes. bytes)
    (λ x f k. (tt, (k, f))) (λ x k f. (f.0, f.1)) (λ x. refl) (take_field n)

-- a text of a stated length, of which a test finds the first bad byte
pub text_field : (bad : ℕ → Bool) (n : ℕ) → IsField (text_at bad n) (λ bytes. length bytes ≡ n) (λ bytes. IsBytes bytes × (position bad bytes ≡ None)) (λ bytes. bytes)
unfolding text_at
text_field bad n = record {
  found = λ p x q is e.
      let b = bind_ok (take_at n p) (λ b. none_bad p b (position bad b.0)) (x, q) e in
      let f = (take_field n).found p b.0.0 b.0.1 is b.1 in
      let t = none_ok p b.0 (position bad b.0.0) (x, q) b.2 in
      subst (λ (y : List ℕ × Spot). Spans p y.0 y.1 × (length y.0 ≡ n) × (IsBytes y.0 × (position bad y.0 ≡ None))) t.1 (f.0, f.1, (f.2, t.0));
  only = λ p x q s k f. rw (take_only n p x q s k, f.1) refl;
}

-- a text of a stated length that spells a value
pub decoded_field : {A : Type 0} (decode : List ℕ → Option A) (fits : A → Type 0) (spell : A → List ℕ) (n : ℕ)
    → ((bytes : List ℕ) (x : A) → IsBytes bytes → decode bytes ≡ Some x → fits x × (bytes ≡ spell x))
    → ((x : A) → fits x → decode (spell x) ≡ Some x)
    → IsField (decoded_at decode n) (λ x. length (spell x) ≡ n) fits spell
unfolding decoded_at
decoded_field {A} decode fits spell n is_spelled is_decoded = record {
  found = λ p x q is e.
      let b = bind_ok (take_at n p) (λ b. some_value p b.1 (decode b.0)) (x, q) e in
      let f = (take_field n).found p b.0.0 b.0.1 is b.1 in
      let t = some_ok p b.0.1 (decode b.0.0) (x, q) b.2 in
      let v = is_spelled b.0.0 x f.2 t.0 in
      (subst (λ (r : Spot). Spans p (spell x) r) t.1 (subst (λ (t : List ℕ). Spans p t b.0.1) v.1 f.0), ap length (sym v.1) ∙ f.1, v.0);
  only = λ p x q s k f. rw (take_only n p (spell x) q s k, is_decoded x f) refl;
}

-- ---- numbers

pub record IsWide (w : Width) (limit : ℕ) : Type 0 where
  pub len : (n : ℕ) → length (to_be_bytes w n) ≡ byte_len w
  pub back : (bytes : List ℕ) → length bytes ≡ byte_len w → IsBytes bytes → to_be_bytes w (from_be_bytes w bytes) ≡ bytes
  pub again : (n : ℕ) → n < limit → from_be_bytes w (to_be_bytes w n) ≡ n
  pub below : (bytes : List ℕ) → IsBytes bytes → from_be_bytes w bytes < limit
  pub are : (n : ℕ) → IsBytes (to_be_bytes w n)

pub number_field : (w : Width) (limit : ℕ) → IsWide w limit → IsField (number_at w) Any (λ n. n < limit) (to_be_bytes w)
unfolding number_at
number_field w limit wide = record {
  found = λ p n q is e.
      let b = bind_ok (take_at (byte_len w) p) (λ b. Ok (from_be_bytes w b.0, b.1)) (n, q) e in
      let f = (take_field (byte_len w)).found p b.0.0 b.0.1 is b.1 in
      let same : to_be_bytes w (from_be_bytes w b.0.0) ≡ b.0.0 = wide.back b.0.0 f.1 f.2 in
      subst (λ (y : ℕ × Spot). Spans p (to_be_bytes w y.0) y.1 × Unit {0} × (y.0 < limit)) (ok_is (from_be_bytes w b.0.0, b.0.1) (n, q) b.2)
      (subst (λ (t : List ℕ). Spans p t b.0.1) (sym same) f.0, tt, wide.below b.0.0 f.2);
  only = λ p n q s k f.
      ap (λ (x : At (List ℕ)). x >>= λ b. Ok (from_be_bytes w b.0, b.1)) ((take_field (byte_len w)).only p (to_be_bytes w n) q s (wide.len n) (wide.are n))
      ∙ ap (λ (m : ℕ). done_is (m, q)) (wide.again n f);
}

high_byte : (k n : ℕ) → byte_at k n < 256
high_byte zero n = omega arith
high_byte (suc k) n = omega arith

pub high_bytes : (k n : ℕ) → IsBytes (bytes_high_first k n)
high_bytes zero n i = omega arith
high_bytes (suc k) n zero = high_byte k n
high_bytes (suc k) n (suc i) = high_bytes k n i

pub wide8 : IsWide w8 (2 ^ 8)
wide8 = record {
  len = λ n. refl;
  back = λ bytes len fits. one_byte bytes len fits;
  again = λ n lt. omega arith;
  below = λ bytes fits. omega (arith, fits 0);
  are = high_bytes 1;
} where
  one_byte : (bytes : List ℕ) → length bytes ≡ 1 → IsBytes bytes → to_be_bytes w8 (from_be_bytes w8 bytes) ≡ bytes
  one_byte [] len fits = absurd (omega (arith, len))
  one_byte (b ∷ []) len fits = ap (λ (m : ℕ). m ∷ []) (omega (arith, fits 0))
  one_byte (b ∷ c ∷ bs) len fits = absurd (omega (arith, len))

pub wide16 : IsWide w16 (2 ^ 16)
wide16 = record {
  len = λ n. refl;
  back = λ bytes len fits. be_bytes_2 bytes _ len fits refl;
  again = λ n lt. from_be_bytes-to_be_bytes_2 n lt;
  below = λ bytes fits. omega (arith, fits 0, fits 1);
  are = high_bytes 2;
}

pub wide32 : IsWide w32 (2 ^ 32)
wide32 = record {
  len = λ n. refl;
  back = λ bytes len fits. be_bytes_4 bytes _ len fits refl;
  again = λ n lt. from_be_bytes-to_be_bytes_4 n lt;
  below = λ bytes fits. omega (arith, fits 0, fits 1, fits 2, fits 3);
  are = high_bytes 4;
}

pub wide64 : IsWide w64 (2 ^ 64)
wide64 = record {
  len = λ n. refl;
  back = λ bytes len fits. be_bytes_8 bytes _ len fits refl;
  again = λ n lt. from_be_bytes-to_be_bytes_8 n lt;
  below = λ bytes fits. omega (arith, fits 0, fits 1, fits 2, fits 3, fits 4, fits 5, fits 6, fits 7);
  are = high_bytes 8;
}

-- the value of a field that passes a test
pub test_field : {A : Type 0} (read : Spot → At A) (known fits : A → Type 0) (spell : A → List ℕ) (test : A → Bool) (fault : Spot → A → FrameFault)
    → IsField read known fits spell → IsField (λ p. read p >>= λ b. cond (test b.0) (Ok b) (Err (fault p b.0))) known (λ x. fits x × (test x ≡ true)) spell
test_field {A} read known fits spell test fault law = record {
  found = λ p x q is e.
      let b = bind_ok (read p) (λ b. cond (test b.0) (Ok b) (Err (fault p b.0))) (x, q) e in
      let t = test_ok (test b.0.0) (fault p b.0.0) b.0 (x, q) b.2 in
      let f = law.found p b.0.0 b.0.1 is b.1 in
      subst (λ (y : A × Spot). Spans p (spell y.0) y.1 × known y.0 × (fits y.0 × (test y.0 ≡ true))) t.1 (f.0, f.1, (f.2, t.0));
  only = λ p x q s k f. ap (λ (y : At A). y >>= λ b. cond (test b.0) (Ok b) (Err (fault p b.0))) (law.only p x q s k f.0) ∙ ap (λ (t : Bool). cond t (done_is (x, q)) (Err (fault p x))) f.1;
}

-- ---- lists

abbrev pub IsMany : {A : Type 0} → (Spot → At A) → (A → Type 0) → (A → List ℕ) → ℕ → Type 0
IsMany one fits spell n = IsField (many_at one n) (λ xs. length xs ≡ n) (AllByRecursion fits) (flat_map spell)

more_only : {A : Type 0} (one : Spot → At A) (fits : A → Type 0) (spell : A → List ℕ) (n : ℕ) → IsField one Any fits spell → IsMany one fits spell n
    → (p : Spot) (xs : List A) (q : Spot) → Spans p (flat_map spell xs) q → length xs ≡ suc n → AllByRecursion fits xs → many_at one (suc n) p ≡ Ok (xs, q)
unfolding many_at
more_only one fits spell n law others p [] q s k f = absurd (omega (arith, k))
more_only one fits spell n law others p (x ∷ xs) q s k f =
    let parts = first-Spans p q (spell x) (flat_map spell xs) (subst (λ (t : List ℕ). Spans p t q) (flat_map-cons spell x xs) s) in
    let a = law.only p x (middle p (spell x)) parts.0 tt f.0 in
    let b = others.only (middle p (spell x)) xs q parts.1 (omega (arith, k)) f.1 in
    rw (a, b) refl

pub many_field : {A : Type 0} (one : Spot → At A) (fits : A → Type 0) (spell : A → List ℕ) (n : ℕ) → IsField one Any fits spell → IsMany one fits spell n
unfolding many_at
many_field {A} one fits spell zero law = record {
  found = λ p xs q is e. subst (λ (y : List A × Spot). Spans p (flat_map spell y.0) y.1 × (length y.0 ≡ 0) × AllByRecursion fits y.0) (ok_is ([], p) (xs, q) e) (Spans-nil p is, refl, tt);
  only = λ p xs q s k f.
      let none : xs ≡ [] = nil_from_length xs k in
      let s2 : Spans p [] q = subst (λ (ys : List A). Spans p (flat_map spell ys) q) none s in
      rw (none, nil-Spans p q s2) refl;
}
many_field {A} one fits spell (suc n) law = record {
  found = λ p xs q is e.
      let a = bind_ok (one p) (λ first. many_at one n first.1 >>= λ others. Ok (first.0 ∷ others.0, others.1)) (xs, q) e in
      let b = bind_ok (many_at one n a.0.1) (λ others. Ok (a.0.0 ∷ others.0, others.1)) (xs, q) a.2 in
      let f = law.found p a.0.0 a.0.1 is a.1 in
      let g = (many_field one fits spell n law).found a.0.1 b.0.0 b.0.1 (after_is_spot p (spell a.0.0) a.0.1 is f.0) b.1 in
      let both = Spans-then p a.0.1 b.0.1 (spell a.0.0) (flat_map spell b.0.0) f.0 g.0 in
      subst (λ (y : List A × Spot). Spans p (flat_map spell y.0) y.1 × (length y.0 ≡ suc n) × AllByRecursion fits y.0) (ok_is (a.0.0 ∷ b.0.0, b.0.1) (xs, q) b.2)
      (rw flat_map-cons both, ap suc g.1, (f.2, g.2));
  only = more_only one fits spell n law (many_field one fits spell n law);
}

-- ---- the fields at the head of a frame

pub magic_field : (text : List ℕ) → IsField (magic_at text) Any Any (λ x. text)
unfolding magic_at
magic_field text = record {
  found = λ p x q is e.
      let b = bind_ok (take_at (length text) p) (λ b. cond (bytes_eq b.0 text) (Ok (tt, b.1)) (Err BadMagic)) (x, q) e in
      let t = test_ok (bytes_eq b.0.0 text) BadMagic (tt, b.0.1) (x, q) b.2 in
      let f = (take_field (length text)).found p b.0.0 b.0.1 is b.1 in
      let same : b.0.0 ≡ text = (bytes_eq-Decides b.0.0 text).0 t.0 in
      (subst (λ (y : Unit {0} × Spot). Spans p text y.1) t.1 (subst (λ (t : List ℕ). Spans p t b.0.1) same f.0), tt, tt);
  only = λ p x q s k f. rw (take_only (length text) p text q s refl, (bytes_eq-Decides text text).1 refl) refl;
}

pub version_field : (version : ℕ) → version < 256 → IsField (version_at version) Any Any (λ x. version ∷ [])
unfolding version_at
version_field version small = record {
  found = λ p x q is e.
      let b = bind_ok (number_at w8 p) (λ b. cond (eqb b.0 version) (Ok (tt, b.1)) (Err (BadVersion b.0))) (x, q) e in
      let t = test_ok (eqb b.0.0 version) (BadVersion b.0.0) (tt, b.0.1) (x, q) b.2 in
      let f = (number_field w8 (2 ^ 8) wide8).found p b.0.0 b.0.1 is b.1 in
      let same : to_be_bytes w8 b.0.0 ≡ version ∷ [] = ap (λ (m : ℕ). m ∷ []) (omega (arith, eqb-true _ _ t.0, small)) in
      (subst (λ (y : Unit {0} × Spot). Spans p (version ∷ []) y.1) t.1 (subst (λ (t : List ℕ). Spans p t b.0.1) same f.0), tt, tt);
  only = λ p x q s k f.
      let same : version ∷ [] ≡ to_be_bytes w8 version = ap (λ (m : ℕ). m ∷ []) (omega (arith, small)) in
      rw ((number_field w8 (2 ^ 8) wide8).only p version q (subst (λ (t : List ℕ). Spans p t q) same s) tt small, eq-eqb version version refl) refl;
}

both_pass : (s t : Bool) → (s && t) ≡ true → (s ≡ true) × (t ≡ true)
both_pass true true e = (refl, refl)
both_pass true false e = absurd cc
both_pass false t e = absurd cc

both_leb : (low n high : ℕ) → (leb low n && leb n high) ≡ true → (low ≤ n) × (n ≤ high)
both_leb low n high e =
    let p = both_pass (leb low n) (leb n high) e in
    (leb-true low n p.0, leb-true n high p.1)

leb_both : (low n high : ℕ) → low ≤ n → n ≤ high → (leb low n && leb n high) ≡ true
leb_both low n high a b = rw (le-leb low n a, le-leb n high b) refl

-- a number between two bounds
pub within_field : (w : Width) (limit low high : ℕ) → IsWide w limit → high < limit → IsField (within_at w low high) Any (λ n. (low ≤ n) × (n ≤ high)) (to_be_bytes w)
unfolding within_at
within_field w limit low high wide small =
    restate_field (within_at w low high) Any (λ n. (n < limit) × ((leb low n && leb n high) ≡ true)) (to_be_bytes w) Any (λ n. (low ≤ n) × (n ≤ high)) (to_be_bytes w)
    (λ n f k. (tt, both_leb low n high f.1))
    (λ n k f. (tt, (omega (arith, f.1, small), leb_both low n high f.0 f.1)))
    (λ n. refl)
    (test_field (number_at w) Any (λ n. n < limit) (to_be_bytes w) (λ n. leb low n && leb n high) (λ p n. BadField p.at) (number_field w limit wide))

pub provider_field : IsField provider_at Any Any (λ x. provider_byte x ∷ [])
unfolding provider_at
provider_field = record {
  found = λ p x q is e.
      let b = bind_ok (within_at w8 0 1 p) (λ b. Ok (provider_of b.0, b.1)) (x, q) e in
      let f = (within_field w8 (2 ^ 8) 0 1 wide8 (omega arith)).found p b.0.0 b.0.1 is b.1 in
      let same : to_be_bytes w8 b.0.0 ≡ provider_byte (provider_of b.0.0) ∷ [] = provider_back b.0.0 f.2.1 in
      subst (λ (y : Provider × Spot). Spans p (provider_byte y.0 ∷ []) y.1 × Unit {0} × Unit {0}) (ok_is (provider_of b.0.0, b.0.1) (x, q) b.2)
      (subst (λ (t : List ℕ). Spans p t b.0.1) same f.0, tt, tt);
  only = λ p x q s k f. provider_only p x q s;
} where
  provider_back : (n : ℕ) → n ≤ 1 → to_be_bytes w8 n ≡ provider_byte (provider_of n) ∷ []
  provider_back zero le = refl
  provider_back (suc n) le = ap (λ (m : ℕ). m ∷ []) (omega (arith, le))

  provider_only : (p : Spot) (x : Provider) (q : Spot) → Spans p (provider_byte x ∷ []) q → provider_at p ≡ Ok (x, q)
  provider_only p Zero q s = rw ((within_field w8 (2 ^ 8) 0 1 wide8 (omega arith)).only p 0 q s tt (omega arith, omega arith)) refl
  provider_only p One q s = rw ((within_field w8 (2 ^ 8) 0 1 wide8 (omega arith)).only p 1 q s tt (omega arith, omega arith)) refl

-- ---- whole frames

body_is : (bytes text : List ℕ) (q : Spot) → Spans (record { bytes = bytes; at = 0 }) text q → (take q.at q.bytes ≡ text) × (bytes ≡ text ++ drop q.at bytes)
body_is bytes text q s =
    let at : q.at ≡ length text = omega (arith, s.at) in
    (ap (take q.at) s.same ∙ ap (λ (k : ℕ). take k bytes) at ∙ ap (take (length text)) s.there ∙ take-append_seam text (drop q.at bytes), s.there)

guard_step : {A : Type 0} (b : Bool) (d : FrameFault) (r : Result A FrameFault) (y : A) → cond b (Err d) r ≡ Ok y → (b ≡ false) × (r ≡ Ok y)
guard_step true d r y e = absurd cc
guard_step false d r y e = (refl, e)

digest_found : (q : Spot) (x : Unit {0}) → IsSpot q → digest_at q ≡ Ok x → drop q.at q.bytes ≡ sha256 (take q.at q.bytes)
unfolding digest_at
digest_found q x is e =
    let sum = sha256 (take q.at q.bytes) in
    let b = bind_ok (take_at 32 q) (λ d. cond (ltb d.1.at (length d.1.bytes)) (Err (Trailing d.1.at)) (cond (bytes_eq d.0 sum) (Ok tt) (Err (BadDigest d.0 sum)))) x e in
    let g = guard_step (ltb b.0.1.at (length b.0.1.bytes)) (Trailing b.0.1.at) (cond (bytes_eq b.0.0 sum) (Ok tt) (Err (BadDigest b.0.0 sum))) x b.2 in
    let t = test_ok (bytes_eq b.0.0 sum) (BadDigest b.0.0 sum) tt x g.1 in
    let f = (take_field 32).found q b.0.0 b.0.1 is b.1 in
    let same : b.0.0 ≡ sum = (bytes_eq-Decides b.0.0 sum).0 t.0 in
    let over : length b.0.1.bytes ≤ b.0.1.at = ltb-false _ _ g.0 in
    let none : drop b.0.1.at q.bytes ≡ [] = nil_from_length (drop b.0.1.at q.bytes) (omega (arith, length-drop b.0.1.at q.bytes, over, ap length f.0.same)) in
    f.0.there ∙ ap (λ (t : List ℕ). b.0.0 ++ t) none ∙ append-nil b.0.0 ∙ same

digest_only : (q : Spot) → q.at ≤ length q.bytes → drop q.at q.bytes ≡ sha256 (take q.at q.bytes) → digest_at q ≡ Ok tt
unfolding digest_at
digest_only q le e =
    let sum = sha256 (take q.at q.bytes) in
    let len : length q.bytes ≡ q.at + 32 = omega (arith, length-drop q.at q.bytes, ap length e, length-sha256 (take q.at q.bytes), le) in
    let end : Spot = record { bytes = q.bytes; at = q.at + 32 } in
    let none : drop end.at q.bytes ≡ [] = nil_from_length (drop end.at q.bytes) (omega (arith, length-drop end.at q.bytes, len)) in
    let s : Spans q sum end = record { same = refl; at = omega (arith, length-sha256 (take q.at q.bytes)); there = e ∙ sym (append-nil sum) ∙ ap (λ (t : List ℕ). sum ++ t) (sym none); within = omega (arith, len) } in
    let ended : ltb end.at (length q.bytes) ≡ false = le-ltb _ _ (omega (arith, len)) in
    rw (take_only 32 q sum end s (length-sha256 (take q.at q.bytes)), ended, (bytes_eq-Decides sum sum).1 refl) refl

pub frame_found : {A : Type 0} (fields : Spot → At A) (fits : A → Type 0) (spell : A → List ℕ) → IsField fields Any fits spell
    → (bytes : List ℕ) (x : A) → IsBytes bytes → frame_at fields bytes ≡ Ok x → fits x × (bytes ≡ sealed (spell x))
unfolding frame_at
frame_found {A} fields fits spell law bytes x are e =
    let p : Spot = record { bytes = bytes; at = 0 } in
    let is : IsSpot p = record { bytes = are; within = omega arith } in
    let g = guard_step (ltb 4194304 (length bytes)) TooLarge (fields p >>= λ f. digest_at f.1 >>= λ d. Ok f.0) x e in
    let a = bind_ok (fields p) (λ f. digest_at f.1 >>= λ d. Ok f.0) x g.1 in
    let b = bind_ok (digest_at a.0.1) (λ d. Ok a.0.0) x a.2 in
    let f = law.found p a.0.0 a.0.1 is a.1 in
    let d = digest_found a.0.1 b.0 (after_is_spot p (spell a.0.0) a.0.1 is f.0) b.1 in
    let body = body_is bytes (spell a.0.0) a.0.1 f.0 in
    let rest : drop a.0.1.at bytes ≡ sha256 (spell a.0.0) = ap (drop a.0.1.at) (sym f.0.same) ∙ d ∙ ap sha256 body.0 in
    subst (λ (y : A). fits y × (bytes ≡ sealed (spell y))) (ok_is a.0.0 x b.2) (f.2, body.1 ∙ ap (λ (t : List ℕ). spell a.0.0 ++ t) rest)

pub frame_only : {A : Type 0} (fields : Spot → At A) (fits : A → Type 0) (spell : A → List ℕ) → IsField fields Any fits spell
    → (bytes : List ℕ) (x : A) → fits x → length bytes ≤ 4194304 → bytes ≡ sealed (spell x) → frame_at fields bytes ≡ Ok x
unfolding frame_at
frame_only fields fits spell law bytes x f small e =
    let p : Spot = record { bytes = bytes; at = 0 } in
    let q : Spot = record { bytes = bytes; at = length (spell x) } in
    let sum = sha256 (spell x) in
    let back : drop (length (spell x)) bytes ≡ sum = ap (drop (length (spell x))) e ∙ drop-append_seam (spell x) sum in
    let front : take (length (spell x)) bytes ≡ spell x = ap (take (length (spell x))) e ∙ take-append_seam (spell x) sum in
    let long : length (spell x) ≤ length bytes = omega (arith, ap length e, length-append (spell x) sum) in
    let s : Spans p (spell x) q = record { same = refl; at = omega arith; there = e ∙ ap (λ (t : List ℕ). spell x ++ t) (sym back); within = long } in
    let d = digest_only q long (back ∙ ap sha256 (sym front)) in
    rw (le-ltb 4194304 (length bytes) small, law.only p x q s tt f, d) refl

-- Bytes are read as a value exactly where they are its spelling.
pub frame_law : {A : Type 0} (fields : Spot → At A) (fits : A → Type 0) (spell : A → List ℕ) → IsField fields Any fits spell
    → ((x : A) → fits x → length (sealed (spell x)) ≤ 4194304)
    → (bytes : List ℕ) (x : A) → IsBytes bytes → (frame_at fields bytes ≡ Ok x) ↔ (fits x × (bytes ≡ sealed (spell x)))
frame_law fields fits spell law small bytes x are =
    (frame_found fields fits spell law bytes x are, λ f. frame_only fields fits spell law bytes x f.0 (omega (arith, small x f.0, ap length f.1)) f.1)

-- What a reader of whole frames answers: a value that fits, and its spelling.
pub reader_found : {A : Type 0} (fields : Spot → At A) (fits : A → Type 0) (spell : A → List ℕ) → IsField fields Any fits spell
    → (bytes : List ℕ) (r : Result A FrameFault) → IsBytes bytes → Gives OutOfMemory (λ x. x) r (frame_at fields bytes) → IfOk r (λ x. fits x × (bytes ≡ sealed (spell x)))
reader_found fields fits spell law bytes (Ok x) are given = frame_found fields fits spell law bytes x are given
reader_found fields fits spell law bytes (Err e) are given = tt

pub reader_only : {A : Type 0} (fields : Spot → At A) (fits : A → Type 0) (spell : A → List ℕ) → IsField fields Any fits spell
    → (bytes : List ℕ) (r : Result A FrameFault) → Gives OutOfMemory (λ x. x) r (frame_at fields bytes)
    → (x : A) → fits x → length (sealed (spell x)) ≤ 4194304 → bytes ≡ sealed (spell x) → Gives OutOfMemory (λ x. x) r (Ok x)
reader_only {A} fields fits spell law bytes r given x f small e =
    subst (λ (y : Result A FrameFault). Gives OutOfMemory (λ z. z) r y) (frame_only fields fits spell law bytes x f (omega (arith, small, ap length e)) e) given

-- the length of a list of parts
pub length_of_parts : {A : Type 0} (spell : A → List ℕ) (k : ℕ) → ((x : A) → length (spell x) ≡ k) → (xs : List A) → length (flat_map spell xs) ≡ length xs * k
length_of_parts spell k each [] = omega arith
length_of_parts spell k each (x ∷ xs) = ap length (flat_map-cons spell x xs) ∙ omega (arith, length-append (spell x) (flat_map spell xs), each x, length_of_parts spell k each xs)

pub length_of_parts_le : {A : Type 0} (fits : A → Type 0) (spell : A → List ℕ) (k : ℕ) → ((x : A) → fits x → length (spell x) ≤ k) → (xs : List A) → AllByRecursion fits xs → length (flat_map spell xs) ≤ length xs * k
length_of_parts_le fits spell k each [] f = omega arith
length_of_parts_le fits spell k each (x ∷ xs) f =
    let e = ap length (flat_map-cons spell x xs) in
    omega (arith, e, length-append (spell x) (flat_map spell xs), each x f.0, length_of_parts_le fits spell k each xs f.1)

pub length-sealed : (body : List ℕ) → length (sealed body) ≡ length body + 32
length-sealed body = omega (arith, length-append body (sha256 body), length-sha256 body)

-- Two spellings with anything behind them are one spelling, if the wholes are the same.
pub one_spelling : {A : Type 0} (read : Spot → At A) (fits : A → Type 0) (spell : A → List ℕ) → IsField read Any fits spell
    → (x y : A) (r s : List ℕ) → fits x → fits y → spell x ++ r ≡ spell y ++ s → (x ≡ y) × (r ≡ s)
one_spelling {A} read fits spell law x y r s fx fy e =
    let bytes = spell x ++ r in
    let p : Spot = record { bytes = bytes; at = 0 } in
    let q1 : Spot = record { bytes = bytes; at = length (spell x) } in
    let q2 : Spot = record { bytes = bytes; at = length (spell y) } in
    let back2 : drop (length (spell y)) bytes ≡ s = ap (drop (length (spell y))) e ∙ drop-append_seam (spell y) s in
    let s1 : Spans p (spell x) q1 = record { same = refl; at = omega arith; there = ap (λ (t : List ℕ). spell x ++ t) (sym (drop-append_seam (spell x) r)); within = omega (arith, length-append (spell x) r) } in
    let s2 : Spans p (spell y) q2 = record { same = refl; at = omega arith; there = e ∙ ap (λ (t : List ℕ). spell y ++ t) (sym back2); within = omega (arith, ap length e, length-append (spell y) s) } in
    let both = ok_is (x, q1) (y, q2) (sym (law.only p x q1 s1 tt fx) ∙ law.only p y q2 s2 tt fy) in
    let same : x ≡ y = ap (λ (z : A × Spot). z.0) both in
    (same, append_cancel_left (spell y) r s (subst (λ (z : A). spell z ++ r ≡ spell y ++ s) same e))

-- No frame is a proper prefix of another.
pub no_prefix : {A : Type 0} (read : Spot → At A) (fits : A → Type 0) (spell : A → List ℕ) → IsField read Any fits spell
    → (x y : A) (more : List ℕ) → fits x → fits y → sealed (spell x) ++ more ≡ sealed (spell y) → (x ≡ y) × (more ≡ [])
no_prefix {A} read fits spell law x y more fx fy e =
    let o = one_spelling read fits spell law x y (sha256 (spell x) ++ more) (sha256 (spell y)) fx fy (sym (append_assoc (spell x) (sha256 (spell x)) more) ∙ e) in
    let k : sha256 (spell x) ++ more ≡ sha256 (spell x) ++ [] = o.1 ∙ ap (λ (z : A). sha256 (spell z)) (sym o.0) ∙ sym (append-nil (sha256 (spell x))) in
    (o.0, append_cancel_left (sha256 (spell x)) more [] k)
