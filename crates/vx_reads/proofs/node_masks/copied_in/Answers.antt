use Rattle.std.proofs.Common.{List, sym, subst}
use Rattle.std.specs.List.{AllByRecursion}
use Rattle.vx_base.specs.Data.{DataType, Datum}
use Rattle.vx_base.specs.Fits.{Fits}
use Rattle.vx_base.specs.Views.{data_type}
use Rattle.vx_reads.proofs.Retyped.{all_retyped, rows_retyped}
use Rattle.vx_reads.proofs.node_masks.copied_in.Goals as goal

pub of_array-requires : goal.of_array-requires
of_array-requires c =
    rows_retyped c.args.column.now.dtype (data_type c.args.dtype.now) (data_type c.in-Ok.dtype) c.in-Packed.array.now c.in_ok-rows-in-Packed.rows c.len.result c.requires c.in-Ok.ensures c.in-Packed.ensures.column c.len.ensures c.in_ok-rows-in-Packed.ensures

pub of_fitting-requires : goal.of_fitting-requires
of_fitting-requires c =
    let F : List Datum → Type 0 = λ vs. AllByRecursion (Fits (data_type c.in-Ok-copy.dtype)) vs in
    let G : DataType → Type 0 = λ t. AllByRecursion (Fits t) c.args.column.now.values in
    let fit : G (data_type c.in-Ok-copy.dtype) = subst G (sym c.in-Ok-copy.ensures) (all_retyped c.args.column.now.dtype (data_type c.args.dtype.now) c.args.column.now.values c.requires c.in_ok-values-in-Runs.ensures.fit) in
    subst F (sym c.in_ok-values-in-Runs.ensures.values) fit
