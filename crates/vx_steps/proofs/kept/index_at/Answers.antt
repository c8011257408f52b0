use Rattle.std.proofs.Common.{◌≡◌, ◌==◌, ℕ, Some, None, cond, map, take, add-one, arith}
use Rattle.std.proofs.lemmas.Grind.{common_steps}
use Rattle.vx_steps.proofs.Indexing.{index_same, index_more, on_err, places_unchanged}
use Rattle.vx_plan.specs.Refs.{number_of}
use Rattle.vx_steps.specs.Kept.{kept_data, ArePlaces}
use Rattle.vx_steps.specs.Places.{place_in}
use Rattle.vx_steps.proofs.kept.index_at.Goals as goal

pub returns-then-is_some-clause-after : goal.returns-then-is_some-clause-after
returns-then-is_some-clause-after c =
    let present : place_in c.args.places.now (number_of c.index-columns-place.result.node) ≡ None → ⊥ = grind (arith, common_steps) in
    rw add-one (index_same c.args.places.now c.args.columns.now c.args.place c.index-columns-place.result c.requires.place c.index-columns-place.is present c.requires.before)

pub returns-in_err-put-clause-as_before : goal.returns-in_err-put-clause-as_before
returns-in_err-put-clause-as_before c = on_err c.from_residual.result (ArePlaces c.put.new.self (take c.args.place (map kept_data c.args.columns.now))) (places_unchanged c.args.places.now c.put.new.self (take c.args.place (map kept_data c.args.columns.now)) c.in_err-put.ensures.as_before c.requires.before)

pub returns-clause-after : goal.returns-clause-after
returns-clause-after c =
    let node = number_of c.index-columns-place.result.node in
    let absent : place_in c.args.places.now node ≡ None = grind (arith, common_steps) in
    let put : (n : ℕ) → place_in c.put.new.self n ≡ cond (node == n) (Some c.args.place) (place_in c.args.places.now n) = λ n. grind (arith, common_steps) in
    rw add-one (index_more c.args.places.now c.put.new.self c.args.columns.now c.args.place c.index-columns-place.result c.requires.place c.index-columns-place.is absent c.requires.before put)
