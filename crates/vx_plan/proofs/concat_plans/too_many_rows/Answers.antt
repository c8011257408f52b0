use Rattle.std.proofs.Common.{map, refl}
use Rattle.vx_base.specs.Views.{data_type}
use Rattle.vx_plan.specs.Nodes.{node_data}
use Rattle.vx_plan.proofs.Refusing.{refused_for_rows, refused_for_types}
use Rattle.vx_plan.proofs.concat_plans.too_many_rows.Goals as goal

pub returns-then-are_all_of : goal.returns-then-are_all_of
returns-then-are_all_of c = refused_for_rows (map node_data c.args.nodes.now) (data_type c.args.dtype.now) c.args.children.now (c.if-are_all_of.ensures.0 refl) c.requires.many

pub returns-else-are_all_of : goal.returns-else-are_all_of
returns-else-are_all_of c = refused_for_types (map node_data c.args.nodes.now) (data_type c.args.dtype.now) c.args.children.now (λ fit. absurd (let e = c.if-are_all_of.ensures.1 fit in cc))
