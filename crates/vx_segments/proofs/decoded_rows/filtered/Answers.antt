use Rattle.std.proofs.Common.{◌∙◌, List, Bool, length, ap, sym}
use Rattle.vx_masks.specs.Masks.{chosen}
use Rattle.vx_segments.proofs.RangeRows.{range_len}
use Rattle.vx_segments.proofs.decoded_rows.filtered.Goals as goal

pub filter-requires : goal.filter-requires
filter-requires c = ap length c.in_ok-bits.ensures ∙ range_len c.args.mask.now c.args.part.start c.args.part.end c.requires.forwards c.requires.inside ∙ sym c.requires.masked

pub returns-clause-values : goal.returns-clause-values
returns-clause-values c = c.in_ok-some.ensures.values ∙ ap (λ (bits : List Bool). chosen bits c.args.column.now.values) c.in_ok-bits.ensures
