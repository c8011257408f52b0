use Rattle.std.proofs.Common.{sym}
use Rattle.vx_expr.specs.TermViews.{terms_of}
use Rattle.vx_base.specs.Names.{are_distinct}
use Rattle.vx_expr.specs.Types.{names_in}
use Rattle.vx_expr.proofs.DistinctNames.{names_start, names_more, names_end}
use Rattle.vx_expr.proofs.typing.has_distinct_names.Goals as goal

pub loop-item-init : goal.loop-item-init
loop-item-init c = names_start c.args.items.now c.new-seen.result.keys c.new-seen.ensures.empty

pub returns-then-not-branch : goal.returns-then-not-branch
returns-then-not-branch c = sym (names_end c.args.items.now c.loop-item.item-index c.item-item.result c.as_str.result c.loop-item.seen.keys c.in_ok-insert.field-0 (are_distinct (names_in (terms_of c.args.items.now))) c.loop-item-test.true c.item-item.is c.as_str.ensures.value c.in_ok-insert.ensures.added c.if-not-branch.true c.loop-item.invariant)

pub loop-item-preserved : goal.loop-item-preserved
loop-item-preserved c = names_more c.args.items.now c.loop-item.item-index c.item-item.result c.as_str.result c.loop-item.seen.keys c.insert.new.self.keys c.in_ok-insert.field-0 (are_distinct (names_in (terms_of c.args.items.now))) c.loop-item-test.true c.item-item.is c.as_str.ensures.value c.in_ok-insert.ensures.added c.if-not-branch.false c.in_ok-insert.ensures.keys c.loop-item.invariant
