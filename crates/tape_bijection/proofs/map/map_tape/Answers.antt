use Rattle.std.proofs.Common.{◌≡◌, ◌<◌, length, get_or, refl, sym, ap, ap₂, ◌∙◌, arith}
use Rattle.std.proofs.lemmas.List.{get_or_default}
use Rattle.std.specs.Prelude.{drop}
use Rattle.spl_words.specs.Secrets.{Secret}
use Rattle.seed_expansion.specs.Expanders.{Meaning, IsTape}
use Rattle.seed_expansion.specs.Tapes.{tape_meaning}
use Rattle.key_frames.specs.Trees.{key_list}
use Rattle.tape_bijection.specs.Entered.{has_block_after, has_leaf_after}
use Rattle.tape_bijection.specs.MappedLists.{mapped_tree, no_secret}
use Rattle.tape_bijection.proofs.MapTrees.{all_mapped, tree_block_entries, tree_blocks, tree_leaf_entries, tree_leaves}
use Rattle.tape_bijection.proofs.MappedLaws.{same_keys}
use Rattle.tape_bijection.proofs.SameTrees.{same_length, same_tree}
use Rattle.tape_bijection.proofs.map.map_tape.Goals as goal

pub map_tree-requires : goal.map_tree-requires
map_tree-requires c =
    let from = c.args.from.now in
    let to = c.args.to.now in
    let k = c.loop-tree.tree in
    let there : k < length to = omega (arith, c.loop-tree-test.true, same_length from to c.requires.trees) in
    record {
      depth =
          ap (λ (s : Secret). s.depth) (c.index-to-tree.is ∙ get_or_default to k _ no_secret there)
          ∙ ap (λ t. t.depth) (same_tree from to c.requires.trees k)
          ∙ sym (ap (λ (s : Secret). s.depth) (c.index-from-tree.is ∙ get_or_default from k _ no_secret c.loop-tree-test.true));
    }

pub loop-tree-preserved : goal.loop-tree-preserved
loop-tree-preserved c =
    let old = c.args.tape.now in
    let t = c.loop-tree.tape in
    let p = c.args.provider in
    let from = c.args.from.now in
    let to = c.args.to.now in
    let k = c.loop-tree.tree in
    let s = c.index-from-tree.result in
    let s2 = c.index-to-tree.result in
    let there : k < length to = omega (arith, c.loop-tree-test.true, same_length from to c.requires.trees) in
    let one : s ≡ get_or from k no_secret = c.index-from-tree.is ∙ get_or_default from k _ no_secret c.loop-tree-test.true in
    let two : s2 ≡ get_or to k no_secret = c.index-to-tree.is ∙ get_or_default to k _ no_secret there in
    let before = c.loop-tree.invariant in
    record {
      blocks = λ q seed. c.in_ok-map_tree.ensures.blocks q seed ∙ ap₂ (λ (v w : Secret). (mapped_tree (tape_meaning t) p k v w).block q seed) one two ∙ tree_blocks old t p from to k before q seed;
      leaves = λ q seed. c.in_ok-map_tree.ensures.leaves q seed ∙ ap₂ (λ (v w : Secret). (mapped_tree (tape_meaning t) p k v w).leaf q seed) one two ∙ tree_leaves old t p from to k before q seed;
      block_entries = λ q. c.in_ok-map_tree.ensures.block_entries q ∙ ap₂ (λ (v w : Secret). has_block_after v.depth t p k v w q) one two ∙ tree_block_entries old t p from to k before q;
      leaf_entries = λ q. c.in_ok-map_tree.ensures.leaf_entries q ∙ ap₂ (λ (v w : Secret). has_leaf_after t p k v w q) one two ∙ tree_leaf_entries old t p from to k before q;
    }

pub returns-clause-mapped : goal.returns-clause-mapped
returns-clause-mapped c = all_mapped c.args.tape.now c.loop-tree.tape c.args.provider c.args.from.now c.args.to.now c.loop-tree.tree (omega arith) c.loop-tree.invariant

pub returns-clause-keys : goal.returns-clause-keys
returns-clause-keys c =
    let old = c.args.tape.now in
    let from = c.args.from.now in
    let to = c.args.to.now in
    let p = c.args.provider in
    let made = all_mapped old c.loop-tree.tape p from to c.loop-tree.tree (omega arith) c.loop-tree.invariant in
    let tape : IsTape (tape_meaning old) = record { blocks = λ q x y. refl; leaves = λ q x y. refl } in
    λ n roots. ap (λ (m : Meaning). key_list m p n (drop n to) roots) made ∙ same_keys (tape_meaning old) p from to tape c.requires.trees n roots
