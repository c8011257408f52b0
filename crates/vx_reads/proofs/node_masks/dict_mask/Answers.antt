use Rattle.std.proofs.Common.{◌≡◌, false, sym, ◌∙◌, rules}
use Rattle.vx_expr.specs.Meaning.{is_strict}
use Rattle.vx_layout.specs.Kept.{all}
use Rattle.vx_layout.specs.Rows.{derivation}
use Rattle.vx_layout.specs.Trees.{subtree}
use Rattle.vx_picking.specs.Rows.{selects_some}
use Rattle.vx_reads.specs.Readable.{tree_head}
use Rattle.vx_reads.proofs.MaskKinds.{kept_none, looked_fails}
use Rattle.vx_reads.proofs.node_masks.dict_mask.Goals as goal

pub returns-then-not-selects_some-clause-kept : goal.returns-then-not-selects_some-clause-kept
returns-then-not-selects_some-clause-kept c =
    let none : selects_some c.args.mask.now ≡ false = sym c.selects_some.ensures ∙ (search rules) in
    kept_none c.args.reads.now (derivation (subtree c.args.tree.now c.args.node) all) (tree_head c.args.tree.now c.args.node).dtype c.args.expression.now.term c.args.start c.args.mask.now _ c.in_ok-copy.ensures none

pub returns-else-is_strict-clause-cause : goal.returns-else-is_strict-clause-cause
returns-else-is_strict-clause-cause c =
    let lax : is_strict c.args.expression.now.term ≡ false = sym c.is_strict.ensures ∙ c.if-is_strict.false in
    looked_fails c.looked_mask.result (subtree c.args.tree.now c.args.node) (tree_head c.args.tree.now c.args.node) (subtree c.args.tree.now c.args.values) (subtree c.args.tree.now c.args.codes) (tree_head c.args.tree.now c.args.node).dtype c.args.expression.now.term c.args.start c.args.first c.args.mask.now c.args.reads.now c.requires.dict.tree lax c.looked_mask.ensures.cause
