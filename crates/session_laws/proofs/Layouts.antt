-- The keys of a round lie as the plan of its query asks.
use Rattle.std.proofs.Common.{◌≡◌, ℕ, ◌+◌, true, List, [], ◌∷◌, length, map, drop, None, Ok, refl, sym, subst, arith}
use Rattle.std.proofs.lemmas.Bool.{eq-eqb}
use Rattle.spl_words.specs.declared.provider.Provider.{Provider}
use Rattle.spl_words.specs.declared.secret.KeySpec.{KeySpec}
use Rattle.spl_words.specs.declared.secret.TreeKind.{TreeKind}
use Rattle.spl_words.specs.declared.secret.TreeKind.TheVariants.{Point, Threshold}
use Rattle.spl_words.specs.Secrets.{Secret, secret_tree}
use Rattle.spl_values.specs.Tables.{TableParts}
use Rattle.seed_expansion.specs.Expanders.{Meaning}
use Rattle.query_reader.specs.declared.checked.Checked.{Checked}
use Rattle.private_plan.specs.Plans.{plan_of, tree}
use Rattle.private_plan.specs.Lengths.{trees_in}
use Rattle.private_plan.specs.Rounds.{first_round, secrets_in}
use Rattle.private_plan.proofs.Accepted.{secrets_laid}
use Rattle.key_frames.specs.declared.frame.KeyFrame.{KeyFrame}
use Rattle.key_frames.specs.declared.keys.Key.{Key}
use Rattle.key_frames.specs.Trees.{key_of, key_list}
use Rattle.key_frames.proofs.TreeLaws.{depth_same}
use Rattle.session_model.specs.Sessions.{key_frame, session_roots}
use Rattle.client_rounds.specs.WellPut.{IsWellPut}
use Rattle.client_rounds.proofs.Ends.{length-roots_of}
use Rattle.provider_core.specs.Asking.{keys_placed}
use Rattle.provider_core.specs.Layouts.{is_key_of, layout_differs}

-- ---- one key after another

-- a key in its place, before others that are in theirs
next_placed : (i : ℕ) (t : KeySpec) (k : Key) (ts : List KeySpec) (ks : List Key) → is_key_of t k ≡ true → layout_differs (i + 1) ts ks ≡ None → layout_differs i (t ∷ ts) (k ∷ ks) ≡ None
unfolding layout_differs
next_placed i t k ts ks here rest = rw here rest

module _ (e : Meaning) (p : Provider) where
  -- the key of a secret is one of the secret's tree
  key_is : (k : TreeKind) (number : ℕ) (s : Secret) (roots : ℕ × ℕ) → is_key_of (tree k s.depth) (key_of k e p number s roots) ≡ true
  key_is Point number s roots = eq-eqb s.depth _ (sym (depth_same Point e p number s roots))
  key_is Threshold number s roots = eq-eqb s.depth _ (sym (depth_same Threshold e p number s roots))

  -- the keys of secrets lie as the secrets' trees do
  secrets_placed : (i number : ℕ) (ss : List Secret) (rs : List (ℕ × ℕ)) → length rs ≡ length ss → layout_differs i (map secret_tree ss) (key_list e p number ss rs) ≡ None
  unfolding key_list layout_differs
  secrets_placed i number [] rs same = refl
  secrets_placed i number (s ∷ ss) [] same = absurd (omega (arith, same))
  secrets_placed i number (s ∷ ss) (r ∷ rs) same =
      next_placed i (tree s.kind s.depth) (key_of s.kind e p number s r) (map secret_tree ss) (key_list e p (number + 1) ss rs) (key_is s.kind number s r)
      (secrets_placed (i + 1) (number + 1) ss rs (omega (arith, same)))

-- ---- a plan

-- keys in their places
placed_is : (table : TableParts) (frame : KeyFrame) (checked : Checked) → layout_differs 0 (trees_in (plan_of checked table.shape) frame.round) frame.keys ≡ None
    → keys_placed table frame checked ≡ Ok tt
unfolding keys_placed
placed_is table frame checked none = rw none refl

-- the keys of a round lie as its plan asks
pub round_placed : (e : Meaning) (p : Provider) (checked : Checked) (table : TableParts) (params words : List ℕ) → IsWellPut checked table.shape params
    → keys_placed table (key_frame e p checked table.shape params words) checked ≡ Ok tt
round_placed e p checked table params words asked =
    let secrets = secrets_in checked table.shape params first_round in
    let keys = key_list e p 0 secrets (session_roots secrets words) in
    let laid = secrets_placed e p 0 0 secrets (session_roots secrets words) (length-roots_of (length secrets) (drop 2 words)) in
    placed_is table (key_frame e p checked table.shape params words) checked
    (subst (λ (ts : List KeySpec). layout_differs 0 ts keys ≡ None) (secrets_laid checked table.shape params asked.accepted asked.form.form asked.known) laid)
