use Rattle.std.proofs.Common.{◌≡◌, List, ◌++◌, length, sym, ap, ◌∙◌, subst, arith}
use Rattle.vx_layout.specs.Kept.{kept_data, KeptFields}
use Rattle.vx_layout.specs.Trees.{subtree}
use Rattle.vx_layout.proofs.Ruled.{good_sound}
use Rattle.vx_plan.specs.Nodes.{Node}
use Rattle.vx_plan.specs.Plans.{plan_at, Plan}
use Rattle.vx_plan.specs.Refs.{number_of}
use Rattle.vx_lower.specs.Lowered.{lowered}
use Rattle.vx_lower.specs.Numbered.{numbered, NumberNoRows}
use Rattle.vx_lower.proofs.LoweredSizes.{lowered_size}
use Rattle.vx_lower.proofs.Roots.{tree_may, tree_names}
use Rattle.vx_lower.proofs.TreePlans.{keeps_reads, keeps_rows, keeps_type, keeps_values}
use Rattle.vx_lower.proofs.TreeSizes.{tree_has_each_node}
use Rattle.vx_lower.proofs.lowering_roots.lower.Goals as goal

pub lower_root-requires-clause-can : goal.lower_root-requires-clause-can
lower_root-requires-clause-can c =
    let nodes = c.args.tree.now in
    let good = c.keeps_rules.ensures.good in
    let small = lowered_size (subtree nodes 0) (kept_data c.args.kept.now) (good_sound nodes good 0 good.nonempty) in
    let count = tree_has_each_node nodes good in
    record {
      tree = good;
      known = good.nonempty;
      room = omega (arith, small, count, c.keeps_rules.ensures.few, ap length c.in_ok-table.ensures.empty);
      good = c.in_ok-table.ensures.good;
    }

pub returns-clause-small : goal.returns-clause-small
returns-clause-small c =
    let nodes = c.args.tree.now in
    let good = c.keeps_rules.ensures.good in
    let small = lowered_size (subtree nodes 0) (kept_data c.args.kept.now) (good_sound nodes good 0 good.nonempty) in
    let count = tree_has_each_node nodes good in
    omega (arith, small, count, c.in_ok-root.ensures.count, ap length c.in_ok-table.ensures.empty)

pub returns-clause-dtype : goal.returns-clause-dtype
returns-clause-dtype c =
    let nodes = c.args.tree.now in
    let good = c.keeps_rules.ensures.good in
    let p : Plan = lowered (subtree nodes 0) (kept_data c.args.kept.now) in
    let is : plan_at c.lower_root.new.table (number_of c.in_ok-root.root) ≡ numbered 0 p = c.in_ok-root.ensures.plan_is ∙ ap (λ (table : List Node). numbered (length table) p) c.in_ok-table.ensures.empty in
    keeps_type (subtree nodes 0) (kept_data c.args.kept.now) (plan_at c.lower_root.new.table (number_of c.in_ok-root.root)) (good_sound nodes good 0 good.nonempty) is

pub returns-clause-rows : goal.returns-clause-rows
returns-clause-rows c =
    let nodes = c.args.tree.now in
    let good = c.keeps_rules.ensures.good in
    let p : Plan = lowered (subtree nodes 0) (kept_data c.args.kept.now) in
    let is : plan_at c.lower_root.new.table (number_of c.in_ok-root.root) ≡ numbered 0 p = c.in_ok-root.ensures.plan_is ∙ ap (λ (table : List Node). numbered (length table) p) c.in_ok-table.ensures.empty in
    keeps_rows (subtree nodes 0) (kept_data c.args.kept.now) (plan_at c.lower_root.new.table (number_of c.in_ok-root.root)) (good_sound nodes good 0 good.nonempty) is

pub returns-clause-values : goal.returns-clause-values
returns-clause-values c =
    let nodes = c.args.tree.now in
    let good = c.keeps_rules.ensures.good in
    let kept : KeptFields = kept_data c.args.kept.now in
    let p : Plan = lowered (subtree nodes 0) kept in
    let is : plan_at c.lower_root.new.table (number_of c.in_ok-root.root) ≡ numbered 0 p = c.in_ok-root.ensures.plan_is ∙ ap (λ (table : List Node). numbered (length table) p) c.in_ok-table.ensures.empty in
    keeps_values (subtree nodes 0) kept (plan_at c.lower_root.new.table (number_of c.in_ok-root.root)) (good_sound nodes good 0 good.nonempty) (tree_names nodes good) (tree_may nodes good kept c.requires.kept) is

pub returns-clause-reads : goal.returns-clause-reads
returns-clause-reads c =
    let nodes = c.args.tree.now in
    let good = c.keeps_rules.ensures.good in
    let p : Plan = lowered (subtree nodes 0) (kept_data c.args.kept.now) in
    let is : plan_at c.lower_root.new.table (number_of c.in_ok-root.root) ≡ numbered 0 p = c.in_ok-root.ensures.plan_is ∙ ap (λ (table : List Node). numbered (length table) p) c.in_ok-table.ensures.empty in
    keeps_reads (subtree nodes 0) (kept_data c.args.kept.now) (plan_at c.lower_root.new.table (number_of c.in_ok-root.root)) (good_sound nodes good 0 good.nonempty) is

pub returns-clause-unnumbered : goal.returns-clause-unnumbered
returns-clause-unnumbered c =
    let more : List Node = c.in_ok-root.ensures.more in
    let all : c.lower_root.new.table ≡ more = c.in_ok-root.ensures.appended ∙ ap (λ (table : List Node). table ++ more) c.in_ok-table.ensures.empty in
    subst NumberNoRows (sym all) c.in_ok-root.ensures.unnumbered
