use Rattle.std.proofs.Common.{Bool, ◌||◌, sym, ap, ◌∙◌}
use Rattle.std.specs.Ordering.{eq_by_cmp}
use Rattle.std.specs.BTreeMap.{keys}
use Rattle.std.specs.BTreeSet.{contains}
use Rattle.std.specs.Set.{is_member}
use Rattle.std.proofs.lemmas.Iterator.Adapters.{fact_from_extend}
use Rattle.std.proofs.lemmas.Iterator.Consumers.{YieldsList-from_rest}
use Rattle.seed_expansion.specs.declared.nodes.Place.{Place}
use Rattle.seed_expansion.specs.Tapes.{place_cmp}
use Rattle.seed_expansion.proofs.tape_places.add_places.Goals as goal

pub returns : goal.returns
returns g c =
    let had : Place → Bool = λ q. contains place_cmp c.args.places.now q in
    fact_from_extend (λ x. x.now) c.extend.result c.extend.ensures.ran (λ it b. YieldsList-from_rest (keys c.args.map.now) (b ∙ c.keys.ensures.rest))
    (λ xs e h q. h.0 q ∙ ap (λ l. had q || is_member (eq_by_cmp place_cmp) l q) (e ∙ sym c.keys.ensures.rest) ∙ sym (ap (λ b. had q || b) (c.keys.ensures.has q)))
