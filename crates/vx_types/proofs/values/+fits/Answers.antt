use Rattle.std.proofs.Common.{ap, arith}
use Rattle.vx_types.specs.Sizes.{items_size}
use Rattle.vx_types.proofs.Items.{datum_size_at, each_lengths, each_at, each_more, each_of}
use Rattle.vx_types.proofs.values.+fits.Goals as goal

pub each_fits-returns-then-members-items : goal.each_fits-returns-then-members-items
each_fits-returns-then-members-items t c = (λ h. absurd cc, λ h. absurd (c.if-members-items.true (each_lengths _ _ (each_of _ _ _ _ c.items-members.ensures c.items-items.ensures h))))

pub each_fits-fits-requires : goal.each_fits-fits-requires
each_fits-fits-requires t c = (omega (arith, datum_size_at c.items-items.result.now c.loop-place.place c.index-items-place.result (omega arith) c.index-items-place.is, ap items_size c.items-items.ensures), tt)

pub each_fits-returns-then-not-fits : goal.each_fits-returns-then-not-fits
each_fits-returns-then-not-fits t c = (
  λ h. absurd cc,
  λ h.
      let fit = each_at c.items-members.result.now c.items-items.result.now c.loop-place.place c.index-members-place.result c.index-items-place.result c.loop-place-test.true (omega arith) c.index-members-place.is c.index-items-place.is (each_of _ _ _ _ c.items-members.ensures c.items-items.ensures h) in
      let yes = c.fits.ensures.1 fit in
      absurd cc,
)

pub each_fits-loop-place-preserved : goal.each_fits-loop-place-preserved
each_fits-loop-place-preserved t c = each_more c.items-members.result.now c.items-items.result.now c.loop-place.place c.index-members-place.result c.index-items-place.result c.loop-place-test.true (omega arith) c.index-members-place.is c.index-items-place.is (c.fits.ensures.0 cc) c.loop-place.invariant
