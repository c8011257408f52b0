use Rattle.std.proofs.Common.{◌≡◌, ◌+◌, ◌/◌, ◌^◌, [], ◌∷◌, ◌++◌, drop, get_or, subst, sym, ap, ◌∙◌, arith}
use lib.Count.{count_trailing_zeros}
use Rattle.vx_masks.proofs.Chosen.{Picked, picked_all, picked_on, pick_at}
use Rattle.vx_masks.proofs.filters.push_chosen.Goals as goal

pub bounds-values-row : goal.bounds-values-row
bounds-values-row g c = pick_at g.row.T.Denot c.loop-rest.rest c.loop-rest.place c.args.values.now (omega arith) c.loop-rest.auto.rest-fits.fits c.loop-rest.invariant.inside

pub offset_bounds-values-row : goal.offset_bounds-values-row
offset_bounds-values-row g c = omega (arith, bounds-values-row g c)

pub overflow_add-row : goal.overflow_add-row
overflow_add-row g c =
    let inside = pick_at g.row.T.Denot c.loop-rest.rest c.loop-rest.place c.args.values.now (omega arith) c.loop-rest.auto.rest-fits.fits c.loop-rest.invariant.inside in
    record { fits = omega arith }

pub overflow_add-place : goal.overflow_add-place
overflow_add-place g c =
    let inside = pick_at g.row.T.Denot c.loop-rest.rest c.loop-rest.place c.args.values.now (omega arith) c.loop-rest.auto.rest-fits.fits c.loop-rest.invariant.inside in
    record { fits = omega arith }

pub loop-rest-preserved : goal.loop-rest-preserved
loop-rest-preserved g c =
    let kept = c.loop-rest.kept.items in
    let rest = c.loop-rest.rest in
    let place = c.loop-rest.place in
    let values = c.args.values.now in
    let p = count_trailing_zeros 64 rest in
    let value = c.index-values-row.result in
    let pushed : kept ++ get_or values (place + p) value ∷ [] ≡ c.push.new.self.items = ap (λ x. kept ++ x ∷ []) (sym c.index-values-row.is) ∙ sym c.in_ok-push.ensures.items in
    subst (λ ks. Picked g.row.T.Denot c.args.kept.now.items ks c.args.word (rest / 2 ^ p / 2 ^ 1) (drop c.args.start values) (drop (place + p + 1) values)) pushed
    (picked_on g.row.T.Denot value c.args.kept.now.items kept c.args.word rest place values (drop c.args.start values) (omega arith) c.loop-rest.auto.rest-fits.fits c.loop-rest.invariant)

pub returns : goal.returns
returns g c =
    picked_all g.row.T.Denot c.args.kept.now.items c.loop-rest.kept.items c.args.word c.loop-rest.rest (drop c.args.start c.args.values.now) (drop c.loop-rest.place c.args.values.now) (omega arith) c.loop-rest.invariant
