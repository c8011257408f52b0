use Rattle.std.proofs.Common.{◌≡◌, ap, sym, ◌∙◌, ℕ, replicate, Err}
use Rattle.vx_base.specs.ColumnCalls.{natural}
use Rattle.vx_expr.specs.declared.applying.ApplyError.{ApplyError}
use Rattle.vx_expr.specs.declared.applying.ApplyError.TheVariants.{EvalFault}
use Rattle.vx_picking.proofs.PickedValues.{worth_rows, fault_told}
use Rattle.vx_picking.proofs.picking.worked_out.Goals as goal

pub returns-in-Ok-clause-values : goal.returns-in-Ok-clause-values
returns-in-Ok-clause-values c =
    let zeros = c.in_ok-numbers.ensures.values ∙ ap (λ (count : ℕ). replicate count (natural 0)) c.len.ensures.rows in
    sym (worth_rows c.args.expression.now c.args.root.now.dtype c.args.root.now.values c.in_ok-numbers.numbers.values c.requires.bound zeros) ∙ sym c.in-Ok.ensures.values

pub returns-in-Err-EvalFault-clause-fault : goal.returns-in-Err-EvalFault-clause-fault
returns-in-Err-EvalFault-clause-fault c =
    let zeros = c.in_ok-numbers.ensures.values ∙ ap (λ (count : ℕ). replicate count (natural 0)) c.len.ensures.rows in
    let same : c.in-Err-EvalFault.field-0 ≡ EvalFault c.in-Err-EvalFault.place = rw c.in-Err-EvalFault.is at c.in-Err-EvalFault.field-0-is in
    let first = c.apply-made.ensures.fault c.in-Err-EvalFault.place (c.in-Err-EvalFault.is ∙ ap (λ (e : ApplyError). Err e) same) in
    (c.in-Err-EvalFault.place, fault_told c.args.expression.now c.args.root.now.dtype c.args.root.now.values c.in_ok-numbers.numbers.values c.in-Err-EvalFault.place c.requires.bound zeros first, c.selected_row.ensures)
