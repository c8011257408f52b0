use Rattle.std.proofs.Common.{sym, subst, ◌∙◌, arith}
use Rattle.std.specs.List.{AllByRecursion}
use Rattle.vx_base.specs.Data.{DataType}
use Rattle.vx_base.specs.Fits.{Fits}
use Rattle.vx_expr.specs.Finds.{found_of}
use Rattle.vx_expr.specs.Steps.{evaluated_rows}
use Rattle.vx_expr.proofs.AppliedRows.{whole_front, fault_told, whole_told, worth_fit}
use Rattle.vx_expr.proofs.PartFinds.{starts_whole}
use Rattle.vx_expr.proofs.applying.applied.Goals as goal

pub evaluated-requires : goal.evaluated-requires
evaluated-requires c = record {
  rows = record {
    inside = omega (arith, c.len-count.ensures);
    counted = omega (arith, c.len-count.ensures, c.requires.same_rows);
    numbered = c.requires.numbered;
  };
  found = starts_whole _ _ (c.new-finds.ensures ∙ c.found.ensures ∙ (λ i. found_of (sym c.root_dtype.ensures i) (sym c.expr.ensures i)));
}

pub returns-then-found-count-clause-fault : goal.returns-then-found-count-clause-fault
returns-then-found-count-clause-fault c = λ row h.
    let a = c.args.expression.now in
    let vs = c.args.root.now.values in
    let ns = c.args.numbers.now.values in
    let made = evaluated_rows c.in_ok-made.made in
    let e = whole_front a _ _ c.len-count.result vs ns made c.root_dtype.ensures c.expr.ensures c.len-count.ensures c.requires.same_rows c.in_ok-made.ensures.made in
    fault_told a vs ns made c.len-found.result row c.requires.same_rows e c.len-found.ensures (omega arith) cc

pub column_of-requires : goal.column_of-requires
column_of-requires c =
    let a = c.args.expression.now in
    let vs = c.args.root.now.values in
    let ns = c.args.numbers.now.values in
    let made = evaluated_rows c.in_ok-made.made in
    let e = whole_front a _ _ c.len-count.result vs ns made c.root_dtype.ensures c.expr.ensures c.len-count.ensures c.requires.same_rows c.in_ok-made.ensures.made in
    subst (λ (t : DataType). AllByRecursion (Fits t) made) (sym c.dtype.ensures.dtype) (worth_fit a vs ns made c.dtype.ensures.bound c.requires.fit c.requires.numbered e)

pub returns-clause-values : goal.returns-clause-values
returns-clause-values c =
    let a = c.args.expression.now in
    let vs = c.args.root.now.values in
    let ns = c.args.numbers.now.values in
    let made = evaluated_rows c.in_ok-made.made in
    let e = whole_front a _ _ c.len-count.result vs ns made c.root_dtype.ensures c.expr.ensures c.len-count.ensures c.requires.same_rows c.in_ok-made.ensures.made in
    rw c.in_ok-column.ensures.values (whole_told a vs ns made c.len-found.result c.requires.same_rows e c.len-found.ensures (omega arith))
