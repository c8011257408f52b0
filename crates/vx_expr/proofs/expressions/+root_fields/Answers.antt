use Rattle.std.proofs.Common.{◌+◌, true, false, drop, ap, arith}
use Rattle.std.proofs.lemmas.Result.{IfOk-weaker}
use Rattle.vx_expr.specs.Collected.{Collects}
use Rattle.vx_expr.specs.Counts.{nodes_in}
use Rattle.vx_expr.specs.Mentions.{joined, root_fields, root_fields_in}
use Rattle.vx_expr.specs.TermViews.{term, terms_of}
use Rattle.vx_expr.specs.Types.{on_both}
use Rattle.vx_expr.proofs.FoundNames.{second_collects, first_collects}
use Rattle.vx_expr.proofs.Pairs.{nodes_at, left_next}
use Rattle.vx_expr.proofs.expressions.+root_fields.Goals as goal

pub NamedExprs::collect_fields-collect_fields-requires : goal.NamedExprs::collect_fields-collect_fields-requires
NamedExprs::collect_fields-collect_fields-requires t c = (omega (arith, nodes_at c.items-expr-items.result.now c.loop-expr.expr-index c.loop-expr-item.result c.loop-expr-test.true c.loop-expr-item.is, ap nodes_in c.items-expr-items.ensures), tt)

pub NamedExprs::collect_fields-returns-then-not-branch : goal.NamedExprs::collect_fields-returns-then-not-branch
NamedExprs::collect_fields-returns-then-not-branch t c =
    let e = term c.loop-expr-item.result.1 in
    let rest = terms_of (drop (c.loop-expr.expr-index + 1) c.items-expr-items.result.now) in
    let next = left_next c.items-expr-items.result.now c.loop-expr.expr-index c.loop-expr-item.result c.loop-expr-test.true c.loop-expr-item.is in
    let here : Collects (root_fields e) false c.loop-expr.names.items c.collect_fields.new.names.items = rw c.if-not-branch.true at c.in_ok-collect_fields.ensures in
    c.loop-expr.invariant false c.collect_fields.new.names.items (rw next (first_collects (root_fields e) (root_fields_in rest) c.loop-expr.names.items c.collect_fields.new.names.items here))

pub NamedExprs::collect_fields-loop-expr-preserved : goal.NamedExprs::collect_fields-loop-expr-preserved
NamedExprs::collect_fields-loop-expr-preserved t c = λ found new h.
    let e = term c.loop-expr-item.result.1 in
    let rest = terms_of (drop (c.loop-expr.expr-index + 1) c.items-expr-items.result.now) in
    let next = left_next c.items-expr-items.result.now c.loop-expr.expr-index c.loop-expr-item.result c.loop-expr-test.true c.loop-expr-item.is in
    let here : Collects (root_fields e) true c.loop-expr.names.items c.collect_fields.new.names.items = rw c.if-not-branch.false at c.in_ok-collect_fields.ensures in
    c.loop-expr.invariant found new (rw next (second_collects (root_fields e) (root_fields_in rest) found c.loop-expr.names.items c.collect_fields.new.names.items new here h))

pub Operand::collect_pair-returns-then-not-branch : goal.Operand::collect_pair-returns-then-not-branch
Operand::collect_pair-returns-then-not-branch t c =
    let here : Collects (root_fields c.args.self.now) false c.args.names.now.items c.collect_fields.new.names.items = rw (c.if-not-branch.true, c.expr.ensures) at c.in_ok-collect_fields.ensures in
    first_collects (root_fields c.args.self.now) (root_fields c.args.right.now) c.args.names.now.items c.collect_fields.new.names.items here

pub Operand::collect_pair-returns : goal.Operand::collect_pair-returns
Operand::collect_pair-returns t c =
    let left = root_fields c.args.self.now in
    let right = root_fields c.args.right.now in
    let old = c.args.names.now.items in
    let mid = c.collect_fields.new.names.items in
    let new = c.collect_fields-2.new.names.items in
    let here : Collects left true old mid = rw (c.if-not-branch.false, c.expr.ensures) at c.in_ok-collect_fields.ensures in
    IfOk-weaker c.collect_fields-2.result (λ found. Collects right found mid new) (λ found. Collects (on_both joined left right) found old new) (λ found more. second_collects left right found old mid new here more) (rw c.expr-2.ensures at c.collect_fields-2.ensures)
