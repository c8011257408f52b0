use Rattle.std.proofs.Common.{refl, arith}
use Rattle.vx_layout.specs.Nodes.{node_data}
use Rattle.vx_layout.proofs.MovedLengths.{can_write, long_told, long_untold}
use Rattle.vx_layout.proofs.moved_segments.first_hindrance.Goals as goal

pub returns-then-len-le-MOST_BYTES : goal.returns-then-len-le-MOST_BYTES
returns-then-len-le-MOST_BYTES c =
    can_write (node_data c.args.node.now) c.args.flat.new c.args.column.now c.in-Some-spelled_len.len c.requires.dtype c.requires.count (c.if-not-are_few_in.ensures.0 refl) c.in-Some-spelled_len.ensures (omega arith)

pub returns-else-len-le-MOST_BYTES : goal.returns-else-len-le-MOST_BYTES
returns-else-len-le-MOST_BYTES c = (
  refl,
  c.if-not-are_few_in.ensures.0 refl,
  long_told (node_data c.args.node.now) c.args.flat.new c.args.column.now c.in-Some-spelled_len.len c.requires.dtype c.requires.count c.in-Some-spelled_len.ensures (omega arith),
)

pub returns-in-None-spelled_len : goal.returns-in-None-spelled_len
returns-in-None-spelled_len c = (
  refl,
  c.if-not-are_few_in.ensures.0 refl,
  long_untold (node_data c.args.node.now) c.args.flat.new c.args.column.now c.requires.dtype c.requires.count c.in-None-spelled_len.ensures,
)
