use Rattle.std.proofs.Common.{rules, arith, ◌≡◌, ◌+◌, ◌-◌, ◌≤◌, Bool, List, length, sym}
use Rattle.std.specs.Prelude.{slice_range, IsTrue}
use Rattle.vx_picking.proofs.MaskRanges.{all_between, length_between}
use Rattle.vx_picking.proofs.PickedValues.{picked_all}
use Rattle.vx_steps.proofs.picking.picked_range.Goals as goal

pub returns-clause-values : goal.returns-clause-values
returns-clause-values c =
    let bits : List Bool = slice_range c.args.mask.now c.args.range.start c.args.range.end in
    let long : length bits ≡ c.args.range.end - c.args.range.start = length_between c.args.mask.now c.args.range.start c.args.range.end c.requires.forwards c.requires.masked in
    let selects_all : IsTrue c.args.selects_all = search rules in
    let inside : c.args.start + length bits ≤ length c.args.column.now.values = omega (arith, long, c.requires.inside) in
    picked_all c.slice-2.result c.args.column.now.values c.args.start (c.args.range.end - c.args.range.start) bits (all_between c.args.mask.now c.args.range.start c.args.range.end (c.requires.all selects_all)) (sym long) inside c.slice-2.ensures.values
