use Rattle.std.proofs.Common.{◌≡◌, ◌++◌, length, map, replicate, take, refl, sym, ap, ◌∙◌, arith}
use Rattle.vx_base.specs.Views.{data_type}
use Rattle.vx_base.specs.ValueViews.{datum}
use Rattle.vx_expr.specs.declared.expressions.Expr.{Expr}
use Rattle.vx_expr.specs.Counts.{node_count, nodes_in}
use Rattle.vx_expr.specs.Finds.{own_found, found_of, coming}
use Rattle.vx_expr.specs.Packs.{struct_row}
use Rattle.vx_expr.specs.Rows.{along, front, front_at}
use Rattle.vx_expr.specs.Steps.{evaluated_rows, packing_rows, rows_values, rows_numbers, one_step, two_step}
use Rattle.vx_expr.specs.TermViews.{term, terms_of}
use Rattle.vx_expr.proofs.FirstRows.{rows_count, numbers_count, rows_numbered}
use Rattle.vx_expr.proofs.Pairs.{nodes_at}
use Rattle.vx_expr.proofs.PackRows.{pushed_len}
use Rattle.vx_expr.proofs.PartFinds.{starts_first, starts_second, starts_same, passes_both, passes_same, passes_none, on_ok, pair_of, made_of, is_pair, is_derived, part_count, pair_count, item_starts, item_walks, items_done}
use Rattle.vx_expr.proofs.TermRows.{lefts_are, rights_are, parts_are, rows_more, rows_start, rows_done, lefts_few, rights_few, pair_rows, struct_front, joined_front, made_front, root_front, number_front, literal_front, rows_are, over_firsts, rows_start_count}
use Rattle.vx_expr.proofs.expressions.+evaluation.Goals as goal

pub Expr::evaluated-returns-in-Root-clause-made : goal.Expr::evaluated-returns-in-Root-clause-made
Expr::evaluated-returns-in-Root-clause-made t c =
    let rows = c.args.rows in
    rows_are c.first_rows.result (rows_values rows) _ (root_front (data_type rows.dtype.now) c.args.self.now (rows_values rows) (rows_numbers rows) c.in-Root.is (numbers_count rows c.requires.rows)) c.first_rows.ensures

pub Expr::evaluated-returns-in-Root-clause-passed : goal.Expr::evaluated-returns-in-Root-clause-passed
Expr::evaluated-returns-in-Root-clause-passed t c = on_ok c.first_rows.result _ (passes_none _ _ (ap (λ (y : Expr). found_of (data_type c.args.rows.dtype.now) (term y)) c.in-Root.is))

pub Expr::evaluated-returns-in-RowIdx-clause-made : goal.Expr::evaluated-returns-in-RowIdx-clause-made
Expr::evaluated-returns-in-RowIdx-clause-made t c =
    let rows = c.args.rows in
    rows_are c.first_rows-in-RowIdx.result (take rows.count rows.numbers.now.values) _ (number_front (data_type rows.dtype.now) c.args.self.now (rows_values rows) (take rows.count rows.numbers.now.values) (rows_numbers rows) c.in-RowIdx.is (numbers_count rows c.requires.rows) (rows_numbered rows c.requires.rows)) c.first_rows-in-RowIdx.ensures

pub Expr::evaluated-returns-in-RowIdx-clause-passed : goal.Expr::evaluated-returns-in-RowIdx-clause-passed
Expr::evaluated-returns-in-RowIdx-clause-passed t c = on_ok c.first_rows-in-RowIdx.result _ (passes_none _ _ (ap (λ (y : Expr). found_of (data_type c.args.rows.dtype.now) (term y)) c.in-RowIdx.is))

pub Expr::evaluated-returns-in-Lit-clause-made : goal.Expr::evaluated-returns-in-Lit-clause-made
Expr::evaluated-returns-in-Lit-clause-made t c =
    let rows = c.args.rows in
    rows_are c.literal.result (replicate rows.count (datum c.in-Lit.value)) _ (literal_front (data_type rows.dtype.now) c.args.self.now c.in-Lit.value c.in-Lit.dtype rows.count (rows_values rows) (rows_numbers rows) c.in-Lit.is (rows_count rows c.requires.rows) (numbers_count rows c.requires.rows)) c.literal.ensures

pub Expr::evaluated-returns-in-Lit-clause-passed : goal.Expr::evaluated-returns-in-Lit-clause-passed
Expr::evaluated-returns-in-Lit-clause-passed t c = on_ok c.literal.result _ (passes_none _ _ (ap (λ (y : Expr). found_of (data_type c.args.rows.dtype.now) (term y)) c.in-Lit.is))

pub Expr::evaluated-rows-requires : goal.Expr::evaluated-rows-requires
Expr::evaluated-rows-requires t c = (
  omega (arith, ap (λ (y : Expr). node_count (term y)) c.in-Pack.is),
  (
    c.requires.rows,
    starts_same _ _ _ (ap (λ (y : Expr). found_of (data_type c.args.rows.dtype.now) (term y)) c.in-Pack.is) c.requires.found,
  ),
)

pub Expr::evaluated-returns-in_ok-rows-in-Pack-clause-made : goal.Expr::evaluated-returns-in_ok-rows-in-Pack-clause-made
Expr::evaluated-returns-in_ok-rows-in-Pack-clause-made t c =
    let rows = c.args.rows in
    let made = packing_rows c.in_ok-rows-in-Pack.field-0 in
    rows_are c.structs.result (map struct_row made) _ (struct_front (data_type rows.dtype.now) c.args.self.now c.in-Pack.items made (rows_values rows) (rows_numbers rows) c.in-Pack.is c.in_ok-rows-in-Pack.ensures.made) c.structs.ensures

pub Expr::evaluated-returns-in_ok-rows-in-Pack-clause-passed : goal.Expr::evaluated-returns-in_ok-rows-in-Pack-clause-passed
Expr::evaluated-returns-in_ok-rows-in-Pack-clause-passed t c =
    on_ok c.structs.result _
    (passes_same _ _ _ _ (ap (λ (y : Expr). found_of (data_type c.args.rows.dtype.now) (term y)) (sym c.in-Pack.is)) c.in_ok-rows-in-Pack.ensures.passed)

pub Expr::evaluated_part-evaluated-requires : goal.Expr::evaluated_part-evaluated-requires
Expr::evaluated_part-evaluated-requires t c =
    let dtype = data_type c.args.rows.dtype.now in
    let x = c.args.self.now in
    let part = c.in-GetField.operand in
    let whole = made_of dtype x part c.in-GetField.is in
    let size = ap node_count (parts_are x part c.in-GetField.is) in
    let fewer = part_count (term x) (is_derived x part c.in-GetField.is) in (
      omega (arith, size, fewer, ap node_count c.expr.ensures),
      (
        c.requires.rows,
        starts_same (found_of dtype part) _ _ (ap (found_of dtype) (sym c.expr.ensures)) (starts_first (found_of dtype part) (own_found dtype (term x)) _ (starts_same _ _ _ whole c.requires.found)),
      ),
    )

pub Expr::evaluated_part-returns-clause-made : goal.Expr::evaluated_part-returns-clause-made
Expr::evaluated_part-returns-clause-made t c =
    let rows = c.args.rows in
    let dtype = data_type rows.dtype.now in
    let x = c.args.self.now in
    let part = c.in-GetField.operand in
    let step = c.one_step.result in
    let found = evaluated_rows c.in_ok-found-in-GetField.found in
    let whole = made_of dtype x part c.in-GetField.is in
    let passed = passes_same (found_of dtype (term c.expr.result.now)) (found_of dtype part) (coming c.args.finds.now) (coming c.evaluated.new.finds) (ap (found_of dtype) c.expr.ensures) c.in_ok-found-in-GetField.ensures.passed in
    let own = starts_second (found_of dtype part) (own_found dtype (term x)) (coming c.args.finds.now) (coming c.evaluated.new.finds) (starts_same _ _ _ whole c.requires.found) passed in
    rows_are c.derived.result (front (map (one_step step) found)) _
    (made_front dtype x part (term c.expr.result.now) step found (rows_values rows) (rows_numbers rows) c.in-GetField.is c.expr.ensures (c.one_step.ensures dtype own.0 own.1).0 c.in_ok-found-in-GetField.ensures.made) c.derived.ensures

pub Expr::evaluated_part-returns-clause-passed : goal.Expr::evaluated_part-returns-clause-passed
Expr::evaluated_part-returns-clause-passed t c =
    let dtype = data_type c.args.rows.dtype.now in
    let x = c.args.self.now in
    let part = c.in-GetField.operand in
    let passed = passes_same (found_of dtype (term c.expr.result.now)) (found_of dtype part) (coming c.args.finds.now) (coming c.evaluated.new.finds) (ap (found_of dtype) c.expr.ensures) c.in_ok-found-in-GetField.ensures.passed in
    on_ok c.derived.result _
    (passes_same _ _ (coming c.args.finds.now) (coming c.one_step.new.finds) (sym (made_of dtype x part c.in-GetField.is))
    (passes_both (found_of dtype part) (own_found dtype (term x)) (coming c.args.finds.now) (coming c.evaluated.new.finds) (coming c.one_step.new.finds) passed (λ rest e. (c.one_step.ensures dtype rest e).1)))

pub Expr::evaluated-evaluated_pair-requires : goal.Expr::evaluated-evaluated_pair-requires
Expr::evaluated-evaluated_pair-requires t c =
    let x = c.args.self.now in
    let a = c.in-And.left in
    let b = c.in-And.right in
    let fewer = pair_count (term x) (is_pair x a b c.in-And.is) in (
      omega (arith, fewer, ap node_count (lefts_are x a b c.in-And.is), ap node_count (rights_are x a b c.in-And.is)),
      (c.requires.rows, (is_pair x a b c.in-And.is, (lefts_are x a b c.in-And.is, (rights_are x a b c.in-And.is, c.requires.found)))),
    )

pub NamedExprs::rows-loop-item-init : goal.NamedExprs::rows-loop-item-init
NamedExprs::rows-loop-item-init t c =
    let rows = c.args.rows in
    let made = packing_rows c.in_ok-made.made in
    record {
      made = rows_start (data_type rows.dtype.now) (terms_of c.items-items.result.now) made rows.count (rows_values rows) (rows_numbers rows) c.in_ok-made.ensures (rows_count rows c.requires.rows);
      count = rows_start_count made rows.count c.in_ok-made.ensures;
      few = omega arith;
      walks = λ rest e. e;
    }

pub NamedExprs::rows-evaluated-requires : goal.NamedExprs::rows-evaluated-requires
NamedExprs::rows-evaluated-requires t c = (
  omega (arith, nodes_at c.items-items.result.now c.loop-item.item-index c.item-item.result c.loop-item-test.true c.item-item.is, ap nodes_in c.items-items.ensures),
  (
    c.first.ensures.rows,
    starts_same _ _ _ (λ i. found_of (data_type (sym c.first.ensures.dtype i)) (term c.item-item.result.1))
        (item_starts (data_type c.args.rows.dtype.now) c.items-items.result.now c.loop-item.item-index c.item-item.result c.args.self.now (coming c.args.finds.now) (coming c.loop-item.finds) c.loop-item-test.true c.item-item.is c.items-items.ensures c.requires.found c.loop-item.invariant.walks),
  ),
)

pub NamedExprs::rows-loop-item-preserved : goal.NamedExprs::rows-loop-item-preserved
NamedExprs::rows-loop-item-preserved t c =
    let rows = c.args.rows in
    let dtype = data_type rows.dtype.now in
    let items = c.items-items.result.now in
    let made = packing_rows c.loop-item.made in
    let longer = packing_rows c.in_ok-made-2.made in
    let xs = evaluated_rows c.in_ok-found.found in
    let e = term c.item-item.result.1 in
    let here = over_firsts c.first.result.dtype.now rows.dtype.now e e xs (rows_values rows) (rows_values c.first.result) (rows_numbers rows) (rows_numbers c.first.result) c.loop-item.count (length made) c.in_ok-found.ensures.made c.first.ensures.dtype refl c.first.ensures.values c.first.ensures.numbers c.loop-item.invariant.count in
    let few = rights_few dtype e (length made) xs (rows_values rows) (rows_numbers rows) here in
    record {
      made = rows_more dtype items c.loop-item.item-index c.item-item.result made longer xs (rows_values rows) (rows_numbers rows) _ c.loop-item-test.true c.item-item.is here c.in_ok-made-2.ensures c.loop-item.invariant.made;
      count = c.len-count.ensures ∙ sym (pushed_len made longer xs c.in_ok-made-2.ensures few);
      few = omega (arith, few, c.len-count.ensures, c.loop-item.invariant.count, c.loop-item.invariant.few);
      walks = item_walks dtype items c.loop-item.item-index c.item-item.result (coming c.args.finds.now) (coming c.loop-item.finds) (coming c.evaluated.new.finds) c.loop-item-test.true c.item-item.is c.loop-item.invariant.walks
          (passes_same _ _ _ _ (λ i. found_of (data_type (c.first.ensures.dtype i)) e) c.in_ok-found.ensures.passed);
    }

pub NamedExprs::rows-returns-clause-made : goal.NamedExprs::rows-returns-clause-made
NamedExprs::rows-returns-clause-made t c =
    let rows = c.args.rows in
    rows_done (data_type rows.dtype.now) c.items-items.result.now c.loop-item.item-index c.args.self.now (packing_rows c.loop-item.made) rows.count (rows_values rows) (rows_numbers rows) c.loop-item-test.false c.items-items.ensures (numbers_count rows c.requires.rows) (rows_count rows c.requires.rows) (omega (arith, c.loop-item.invariant.few, c.loop-item.invariant.count)) c.loop-item.invariant.made

pub NamedExprs::rows-returns-clause-passed : goal.NamedExprs::rows-returns-clause-passed
NamedExprs::rows-returns-clause-passed t c = items_done (data_type c.args.rows.dtype.now) c.items-items.result.now c.loop-item.item-index c.args.self.now (coming c.args.finds.now) (coming c.loop-item.finds) c.loop-item-test.false c.items-items.ensures c.loop-item.invariant.walks

pub Expr::evaluated_pair-evaluated-requires : goal.Expr::evaluated_pair-evaluated-requires
Expr::evaluated_pair-evaluated-requires t c =
    let rows = c.args.rows in
    let dtype = data_type rows.dtype.now in
    let x = term c.args.self.now in
    let a = c.args.left.now in
    let b = c.args.right.now in
    let fa = found_of dtype a in
    let fb = found_of dtype b in
    let own = own_found dtype x in
    let whole = pair_of dtype x a b c.requires.pair c.requires.left c.requires.right in
    let start = starts_same _ (fa ++ (fb ++ own)) (coming c.args.finds.now) whole c.requires.found in (
      omega (arith, ap node_count c.expr.ensures),
      (
        c.requires.rows,
        starts_same fa _ _ (ap (found_of dtype) (sym c.expr.ensures)) (starts_first fa (fb ++ own) (coming c.args.finds.now) start),
      ),
    )

pub Expr::evaluated_pair-first-requires-clause-inside : goal.Expr::evaluated_pair-first-requires-clause-inside
Expr::evaluated_pair-first-requires-clause-inside t c =
    let rows = c.args.rows in
    omega (arith, lefts_few (data_type rows.dtype.now) (term c.expr.result.now) (evaluated_rows c.in_ok-lefts.lefts) (rows_values rows) (rows_numbers rows) c.in_ok-lefts.ensures.made, c.len.ensures, rows_count rows c.requires.rows)

pub Expr::evaluated_pair-evaluated-requires-2 : goal.Expr::evaluated_pair-evaluated-requires-2
Expr::evaluated_pair-evaluated-requires-2 t c =
    let rows = c.args.rows in
    let dtype = data_type rows.dtype.now in
    let x = term c.args.self.now in
    let a = c.args.left.now in
    let b = c.args.right.now in
    let fa = found_of dtype a in
    let fb = found_of dtype b in
    let own = own_found dtype x in
    let whole = pair_of dtype x a b c.requires.pair c.requires.left c.requires.right in
    let start = starts_same _ (fa ++ (fb ++ own)) (coming c.args.finds.now) whole c.requires.found in
    let first = passes_same (found_of dtype (term c.expr.result.now)) fa (coming c.args.finds.now) (coming c.evaluated.new.finds) (ap (found_of dtype) c.expr.ensures) c.in_ok-lefts.ensures.passed in
    let second = starts_second fa (fb ++ own) (coming c.args.finds.now) (coming c.evaluated.new.finds) start first in (
      omega (arith, ap node_count c.expr-2.ensures),
      (
        c.first.ensures.rows,
        starts_same fb _ _ (λ i. found_of (data_type (sym c.first.ensures.dtype i)) (sym c.expr-2.ensures i)) (starts_first fb own (coming c.evaluated.new.finds) second),
      ),
    )

pub Expr::evaluated_pair-paired-requires : goal.Expr::evaluated_pair-paired-requires
Expr::evaluated_pair-paired-requires t c =
    let rows = c.args.rows in
    let b = c.args.right.now in
    let lefts = evaluated_rows c.in_ok-lefts.lefts in
    let rights = evaluated_rows c.in_ok-rights.rights in
    let right = over_firsts c.first.result.dtype.now rows.dtype.now (term c.expr-2.result.now) b rights (rows_values rows) (rows_values c.first.result) (rows_numbers rows) (rows_numbers c.first.result) c.len.result (length lefts) c.in_ok-rights.ensures.made c.first.ensures.dtype c.expr-2.ensures c.first.ensures.values c.first.ensures.numbers c.len.ensures in
    rights_few (data_type rows.dtype.now) b (length lefts) rights (rows_values rows) (rows_numbers rows) right

pub Expr::evaluated_pair-returns-clause-made : goal.Expr::evaluated_pair-returns-clause-made
Expr::evaluated_pair-returns-clause-made t c =
    let rows = c.args.rows in
    let dtype = data_type rows.dtype.now in
    let x = term c.args.self.now in
    let a = c.args.left.now in
    let b = c.args.right.now in
    let fa = found_of dtype a in
    let fb = found_of dtype b in
    let own = own_found dtype x in
    let whole = pair_of dtype x a b c.requires.pair c.requires.left c.requires.right in
    let start = starts_same _ (fa ++ (fb ++ own)) (coming c.args.finds.now) whole c.requires.found in
    let first = passes_same (found_of dtype (term c.expr.result.now)) fa (coming c.args.finds.now) (coming c.evaluated.new.finds) (ap (found_of dtype) c.expr.ensures) c.in_ok-lefts.ensures.passed in
    let second = starts_second fa (fb ++ own) (coming c.args.finds.now) (coming c.evaluated.new.finds) start first in
    let behind = passes_same (found_of (data_type c.first.result.dtype.now) (term c.expr-2.result.now)) fb (coming c.evaluated.new.finds) (coming c.evaluated-2.new.finds) (λ i. found_of (data_type (c.first.ensures.dtype i)) (c.expr-2.ensures i)) c.in_ok-rights.ensures.passed in
    let lefts = evaluated_rows c.in_ok-lefts.lefts in
    let rights = evaluated_rows c.in_ok-rights.rights in
    let right = over_firsts c.first.result.dtype.now rows.dtype.now (term c.expr-2.result.now) b rights (rows_values rows) (rows_values c.first.result) (rows_numbers rows) (rows_numbers c.first.result) c.len.result (length lefts) c.in_ok-rights.ensures.made c.first.ensures.dtype c.expr-2.ensures c.first.ensures.values c.first.ensures.numbers c.len.ensures in
    let step = c.two_step-step.result in
    let third = starts_second fb own (coming c.evaluated.new.finds) (coming c.evaluated-2.new.finds) second behind in
    let left : lefts ≡ front_at dtype a (rows_values rows) (rows_numbers rows) = c.in_ok-lefts.ensures.made ∙ (λ i. front_at dtype (c.expr.ensures i) (rows_values rows) (rows_numbers rows)) in
    rows_are c.paired.result (front (along (two_step step) lefts rights)) _
    (pair_rows dtype a b step lefts rights (rows_values rows) (rows_numbers rows) left right
    ∙ joined_front dtype x a b step (rows_values rows) (rows_numbers rows) c.requires.left c.requires.right (c.two_step-step.ensures dtype third.0 third.1).0) c.paired.ensures

pub Expr::evaluated_pair-returns-clause-passed : goal.Expr::evaluated_pair-returns-clause-passed
Expr::evaluated_pair-returns-clause-passed t c =
    let rows = c.args.rows in
    let dtype = data_type rows.dtype.now in
    let x = term c.args.self.now in
    let a = c.args.left.now in
    let b = c.args.right.now in
    let fa = found_of dtype a in
    let fb = found_of dtype b in
    let own = own_found dtype x in
    let whole = pair_of dtype x a b c.requires.pair c.requires.left c.requires.right in
    let start = starts_same _ (fa ++ (fb ++ own)) (coming c.args.finds.now) whole c.requires.found in
    let first = passes_same (found_of dtype (term c.expr.result.now)) fa (coming c.args.finds.now) (coming c.evaluated.new.finds) (ap (found_of dtype) c.expr.ensures) c.in_ok-lefts.ensures.passed in
    let second = starts_second fa (fb ++ own) (coming c.args.finds.now) (coming c.evaluated.new.finds) start first in
    let behind = passes_same (found_of (data_type c.first.result.dtype.now) (term c.expr-2.result.now)) fb (coming c.evaluated.new.finds) (coming c.evaluated-2.new.finds) (λ i. found_of (data_type (c.first.ensures.dtype i)) (c.expr-2.ensures i)) c.in_ok-rights.ensures.passed in
    on_ok c.paired.result _
    (passes_same _ _ (coming c.args.finds.now) (coming c.two_step-step.new.finds) (sym whole)
    (passes_both fa (fb ++ own) (coming c.args.finds.now) (coming c.evaluated.new.finds) (coming c.two_step-step.new.finds) first
    (passes_both fb own (coming c.evaluated.new.finds) (coming c.evaluated-2.new.finds) (coming c.two_step-step.new.finds) behind (λ rest e. (c.two_step-step.ensures dtype rest e).1))))
