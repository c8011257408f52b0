use Rattle.std.proofs.Common.{Global, Vec, ap, map, sym, ◌∙◌}
use Rattle.vx_steps.specs.declared.kept.KeptValue.{KeptValue}
use Rattle.vx_steps.specs.Kept.{kept_data}
use Rattle.vx_steps.proofs.Storing.{all_handed, none_marked, stores_new}
use Rattle.vx_steps.proofs.leaf_columns.LeafColumns.of.Goals as goal

pub invariant_of-result : goal.invariant_of-result
invariant_of-result c = stores_new c.new.result (map kept_data c.of.result.value.items) c.of-2.result c.new-2.result.items c.new.ensures c.new-2.ensures.items (c.of-2.ensures ∙ ap (λ (v : Vec KeptValue Global). map kept_data v.items) (sym c.of.ensures))

pub returns-clause-all : goal.returns-clause-all
returns-clause-all c = all_handed (map kept_data c.of.result.value.items) c.new-2.result.items c.new-2.ensures.items ∙ ap (λ (v : Vec KeptValue Global). map kept_data v.items) c.of.ensures

pub returns-clause-here : goal.returns-clause-here
returns-clause-here c = none_marked c.new.result c.of-2.result c.new.ensures ∙ c.of-2.ensures
