use Rattle.std.proofs.Common.{List, Some, map, ap, sym, subst, ◌∙◌, ℕ}
use Rattle.std.specs.List.{AllByRecursion}
use Rattle.vx_base.specs.Data.{Datum}
use Rattle.vx_base.specs.ColumnCalls.{IsCodeBelow}
use Rattle.vx_picking.proofs.PickedValues.{values_found}
use Rattle.vx_picking.proofs.picking.looked_up.Goals as goal

pub returns-clause-values : goal.returns-clause-values
returns-clause-values c =
    let codes = c.args.codes.now in
    let below = subst (λ (count : ℕ). AllByRecursion (IsCodeBelow count) codes.values) c.len.ensures.rows c.in_default.ensures in
    values_found codes.dtype c.args.values.now.values codes.values c.requires.unsigned c.len-rows.ensures.fit below ∙ ap (λ (vs : List Datum). map Some vs) (sym c.in_ok-look_up.ensures.values)
