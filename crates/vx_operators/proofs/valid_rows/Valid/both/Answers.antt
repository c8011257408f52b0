use Rattle.std.proofs.Common.{◌∙◌, true, false, sym, arith}
use Rattle.std.proofs.lemmas.List.{length-replicate}
use Rattle.std.proofs.lemmas.Result.{IfOk-weaker}
use Rattle.vx_operators.specs.Sides.{valid_rows}
use Rattle.vx_operators.proofs.NumberRows.{all_beside, beside_all, none_beside, beside_none}
use Rattle.vx_operators.proofs.valid_rows.Valid.both.Goals as goal

pub returns-in-Where-Everywhere : goal.returns-in-Where-Everywhere
returns-in-Where-Everywhere c =
    let b = c.in-Where-Everywhere in
    let rows = rw (b.is-0, b.is-1) at c.requires in
    rw (b.is-0, b.is-1) (IfOk-weaker c.copy.result _ _ (λ mask is. is ∙ sym (all_beside b.valid.now b.field-0-1 (omega (arith, rows, length-replicate b.field-0-1 true)))) c.copy.ensures)

pub returns-in-Where-Nowhere : goal.returns-in-Where-Nowhere
returns-in-Where-Nowhere c =
    let b = c.in-Where-Nowhere in
    let rows = rw (b.is-0, b.is-1) at c.requires in
    rw (b.is-0, b.is-1) (IfOk-weaker c.new_false.result _ _ (λ mask is. is ∙ sym (none_beside b.field-0-0.now b.rows (omega (arith, rows, length-replicate b.rows false)))) c.new_false.ensures)

pub returns-in-Everywhere-default : goal.returns-in-Everywhere-default
returns-in-Everywhere-default c =
    let b = c.in-Everywhere-default in
    let rows = rw b.is-0 at c.requires in
    rw b.is-0 (IfOk-weaker c.mask.result _ _ (λ mask is. is ∙ sym (beside_all b.field-0-0 (valid_rows c.args.other.now) (omega (arith, rows, length-replicate b.field-0-0 true)))) c.mask.ensures)

pub returns-in-Nowhere-default : goal.returns-in-Nowhere-default
returns-in-Nowhere-default c =
    let b = c.in-Nowhere-default in
    let rows = rw b.is-0 at c.requires in
    rw b.is-0 (IfOk-weaker c.new_false-in-Nowhere-default.result _ _ (λ mask is. is ∙ sym (beside_none b.rows (valid_rows c.args.other.now) (omega (arith, rows, length-replicate b.rows false)))) c.new_false-in-Nowhere-default.ensures)
