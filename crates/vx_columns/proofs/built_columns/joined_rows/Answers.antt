use Rattle.std.proofs.Common.{◌≡◌, [], ◌++◌, List, sym, subst}
use Rattle.std.specs.List.{AllByRecursion, flat_map}
use Rattle.std.specs.Vec.Iter.{into_iter_items}
use Rattle.vx_types.specs.Views.{data_type}
use Rattle.vx_columns.specs.declared.columns.Column.{Column}
use Rattle.vx_arrays.proofs.PackedRows.{column_of_values}
use Rattle.vx_columns.proofs.built_columns.joined_rows.Goals as goal

pub loop-part-init : goal.loop-part-init
loop-part-init c =
    let all : into_iter_items c.into_iter-part-iterator.result ≡ c.args.parts.items = c.into_iter-part-iterator.ensures.into_iter_gives.0 in
    record {
      column = column_of_values (data_type c.args.dtype.now) [] c.in_ok-joined.joined tt c.in_ok-joined.ensures.dtype c.in_ok-joined.ensures.values;
      same_dtype = subst (λ (parts : List Column). AllByRecursion (λ part. part.dtype ≡ data_type c.args.dtype.now) parts) (sym all) c.requires;
      joined = λ i. c.in_ok-joined.ensures.values i ++ flat_map (λ part. part.values) (all i);
    }
