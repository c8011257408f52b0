use Rattle.vx_plan.specs.declared.parts.Part.TheVariants as parts
use Rattle.vx_plan.specs.Refs.{number_of}
use Rattle.vx_plan.specs.Parts.{same_rows}
use Rattle.vx_plan.specs.Rules.{node_at}
use Rattle.std.proofs.Common.{map, refl}
use Rattle.vx_plan.proofs.Collecting.{codes_part, over_part, same_part, shared_below, values_below, zoned_part, zones_below}
use Rattle.vx_plan.proofs.Parting.{fields_are, fields_left, leaf_left, lists_left, look_up_left, next_of, none_left, numbers_left, one_next, over_left, pruned_left, same_is, same_left, shared_left, two_next, zoned_left}
use Rattle.vx_plan.proofs.parts.next_by_shape.Goals as goal

pub returns-in-Same : goal.returns-in-Same
returns-in-Same c = one_next c.args.table.now (number_of c.args.plan) c.args.start c.args.count (same_rows c.args.start c.args.count c.in-Same.child) c.rows_of.result c.rows_of.ensures (same_left c.args.table.now (number_of c.args.plan) c.in-Same.child c.requires.known c.in-Same.ensures.shape c.args.start c.args.count) (same_is c.args.table.now (number_of c.args.plan) c.in-Same.child c.args.start c.args.count (same_part c.args.table.now (number_of c.args.plan) c.in-Same.child c.requires.known c.in-Same.ensures.shape) c.requires.inside) c.args.at c.only.result c.only.ensures

pub returns-in-Over : goal.returns-in-Over
returns-in-Over c = one_next c.args.table.now (number_of c.args.plan) c.args.start c.args.count (same_rows c.args.start c.args.count c.in-Over.child) c.rows_of-in-Over.result c.rows_of-in-Over.ensures (over_left c.args.table.now (number_of c.args.plan) c.in-Over.child c.requires.known c.in-Over.ensures.shape c.args.start c.args.count) (same_is c.args.table.now (number_of c.args.plan) c.in-Over.child c.args.start c.args.count (over_part c.args.table.now (number_of c.args.plan) c.in-Over.child c.requires.known c.in-Over.ensures.shape) c.requires.inside) c.args.at c.only-in-Over.result c.only-in-Over.ensures

pub returns-in-Zoned : goal.returns-in-Zoned
returns-in-Zoned c = one_next c.args.table.now (number_of c.args.plan) c.args.start c.args.count (same_rows c.args.start c.args.count c.in-Zoned.content) c.rows_of-in-Zoned.result c.rows_of-in-Zoned.ensures (zoned_left c.args.table.now (number_of c.args.plan) c.in-Zoned.content c.in-Zoned.field-1 c.requires.known c.in-Zoned.ensures.shape c.args.start c.args.count) (same_is c.args.table.now (number_of c.args.plan) c.in-Zoned.content c.args.start c.args.count (zoned_part c.args.table.now (number_of c.args.plan) c.in-Zoned.content c.in-Zoned.field-1 c.requires.known c.in-Zoned.ensures.shape) c.requires.inside) c.args.at c.only-in-Zoned.result c.only-in-Zoned.ensures

pub returns-in-Fields : goal.returns-in-Fields
returns-in-Fields c = next_of c.args.table.now (number_of c.args.plan) c.args.start c.args.count (map (same_rows c.args.start c.args.count) (node_at c.args.table.now (number_of c.args.plan)).children) (fields_left c.args.table.now (number_of c.args.plan) c.in-Fields.field-0 c.requires.known c.in-Fields.ensures.shape c.args.start c.args.count) (fields_are c.args.table.now (number_of c.args.plan) c.in-Fields.field-0 c.requires.known c.in-Fields.ensures.shape c.args.start c.args.count c.requires.inside) c.args.at c.next_field.result c.next_field.ensures

pub returns-in-LookUp : goal.returns-in-LookUp
returns-in-LookUp c =
    let below = values_below c.args.table.now (number_of c.args.plan) c.in-LookUp.codes c.in-LookUp.values c.requires.known c.in-LookUp.ensures.shape in
    two_next c.args.table.now (number_of c.args.plan) c.args.start c.args.count (same_rows c.args.start c.args.count c.in-LookUp.codes) (parts.Whole c.in-LookUp.values c.in-LookUp.values) c.rows_of-in-LookUp.result c.rows_of-in-LookUp.ensures (look_up_left c.args.table.now (number_of c.args.plan) c.in-LookUp.codes c.in-LookUp.values c.requires.known c.in-LookUp.ensures.shape c.args.start c.args.count) (same_is c.args.table.now (number_of c.args.plan) c.in-LookUp.codes c.args.start c.args.count (codes_part c.args.table.now (number_of c.args.plan) c.in-LookUp.codes c.in-LookUp.values c.requires.known c.in-LookUp.ensures.shape) c.requires.inside) (below.lower, below.known) c.args.at c.one_of.result c.one_of.ensures

pub returns-in-Shared : goal.returns-in-Shared
returns-in-Shared c =
    let below = shared_below c.args.table.now (number_of c.args.plan) c.in-Shared.child c.requires.known c.in-Shared.ensures.shape in
    one_next c.args.table.now (number_of c.args.plan) c.args.start c.args.count (parts.Whole (number_of c.args.plan) c.in-Shared.child) (parts.Whole (number_of c.args.plan) c.in-Shared.child) refl (shared_left c.args.table.now (number_of c.args.plan) c.in-Shared.child c.requires.known c.in-Shared.ensures.shape c.args.start c.args.count) (below.lower, below.known) c.args.at c.only-in-Shared.result c.only-in-Shared.ensures

pub returns-in-Leaf : goal.returns-in-Leaf
returns-in-Leaf c = none_left c.args.table.now (number_of c.args.plan) c.args.start c.args.count c.args.at (leaf_left c.args.table.now (number_of c.args.plan) c.in-Leaf.field-0 c.requires.known c.in-Leaf.ensures.shape c.args.start c.args.count)

pub returns-in-Lists : goal.returns-in-Lists
returns-in-Lists c = none_left c.args.table.now (number_of c.args.plan) c.args.start c.args.count c.args.at (lists_left c.args.table.now (number_of c.args.plan) c.requires.known c.in-Lists.ensures.shape c.args.start c.args.count)

pub returns-in-RowNumbers : goal.returns-in-RowNumbers
returns-in-RowNumbers c = none_left c.args.table.now (number_of c.args.plan) c.args.start c.args.count c.args.at (numbers_left c.args.table.now (number_of c.args.plan) c.requires.known c.in-RowNumbers.ensures.shape c.args.start c.args.count)

pub returns-in-Pruned : goal.returns-in-Pruned
returns-in-Pruned c =
    let below = zones_below c.args.table.now (number_of c.args.plan) c.in-Pruned.zones c.requires.known c.in-Pruned.ensures.shape in
    one_next c.args.table.now (number_of c.args.plan) c.args.start c.args.count (parts.All c.in-Pruned.zones) (parts.All c.in-Pruned.zones) refl (pruned_left c.args.table.now (number_of c.args.plan) c.in-Pruned.zones c.requires.known c.in-Pruned.ensures.shape c.args.start c.args.count) (below.lower, below.known) c.args.at c.only-in-Pruned.result c.only-in-Pruned.ensures
