use Rattle.std.proofs.Common.{ap, arith, rules}
use Rattle.vx_types.specs.Sizes.{items_size}
use Rattle.vx_types.specs.ValueViews.{datum}
use Rattle.vx_types.proofs.Lists.{agree_more}
use Rattle.vx_types.proofs.Items.{data_agree, counts_agree, datum_size_at}
use Rattle.vx_types.proofs.values.+same.Goals as goal

pub Values::same-returns-then-ones-others : goal.Values::same-returns-then-ones-others
Values::same-returns-then-ones-others t c = (λ h. absurd cc, λ h. absurd (c.if-ones-others.true (counts_agree _ _ _ _ c.items-ones.ensures c.items-others.ensures h)))

pub Values::same-same-requires : goal.Values::same-same-requires
Values::same-same-requires t c = (omega (arith, datum_size_at c.items-ones.result.now c.loop-place.place c.index-ones-place.result c.loop-place-test.true c.index-ones-place.is, ap items_size c.items-ones.ensures), tt)

pub Values::same-returns-then-not-same : goal.Values::same-returns-then-not-same
Values::same-returns-then-not-same t c = (
  λ h. absurd cc,
  λ h.
      let agree = data_agree c.items-ones.result.now c.items-others.result.now _ _ c.loop-place.place c.index-ones-place.result c.index-others-place.result c.items-ones.ensures c.items-others.ensures c.loop-place-test.true c.if-ones-others.false c.index-ones-place.is c.index-others-place.is h in
      let yes = c.same.ensures.1 agree in
      absurd cc,
)

pub Values::same-loop-place-preserved : goal.Values::same-loop-place-preserved
Values::same-loop-place-preserved t c = agree_more datum c.items-ones.result.now c.items-others.result.now c.loop-place.place c.index-ones-place.result c.index-others-place.result c.loop-place-test.true c.if-ones-others.false c.index-ones-place.is c.index-others-place.is (search rules) c.loop-place.invariant
