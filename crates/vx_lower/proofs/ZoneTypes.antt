-- A table of zones tells of rows also without the fields that aren't kept: of structs it counts nulls alone.
use Rattle.std.proofs.Common.{◌≡◌, List, [], ◌∷◌, map, refl, ap}
use Rattle.std.proofs.lemmas.List.Elements.{All-head, All-tail, All-weaker}
use Rattle.vx_base.specs.declared.dtypes.Nullability.{Nullability}
use Rattle.vx_base.specs.declared.dtypes.Nullability.TheVariants.{NonNullable}
use Rattle.vx_base.specs.Data.{DataType, bool_type, int_type, utf8_type, struct_type, list_type, Members}
use Rattle.vx_base.specs.Views.{FieldData, members_from}
use Rattle.vx_expr.specs.declared.statistics.Statistic.{Statistic}
use Rattle.vx_expr.specs.declared.statistics.Statistic.TheVariants.{Min, Max, NullCount}
use Rattle.vx_layout.specs.Kept.{KeptFields, all, only}
use Rattle.vx_rows.specs.Zones.{statistic_field, zones_type, StandsOver, StandOver}
use Rattle.vx_lower.specs.KeptRows.{kept_type}

-- a table of zones of the one dtype is one of the other
pub record TellsOf (t s : DataType) (stats : List Statistic) : Type 0 where
  pub stand : StandOver s stats
  pub same : zones_type t stats ≡ zones_type s stats

types_from : (t s : DataType) (stats : List Statistic) → map (statistic_field t) stats ≡ map (statistic_field s) stats → zones_type t stats ≡ zones_type s stats
types_from t s stats e = ap (λ (fields : List FieldData). struct_type (members_from fields) NonNullable) e

tells_itself : (t : DataType) (stats : List Statistic) → StandOver t stats → TellsOf t t stats
tells_itself t stats stand = record { stand = stand; same = refl }

-- of structs, nulls are counted
struct_stands : (ms : Members) (n : Nullability) (s : DataType) (stat : Statistic) → StandsOver (struct_type ms n) stat → StandsOver s stat
struct_stands ms n s Min is = absurd is
struct_stands ms n s Max is = absurd is
struct_stands ms n s NullCount is = tt

struct_field : (ms : Members) (n : Nullability) (s : DataType) (stat : Statistic) → StandsOver (struct_type ms n) stat → statistic_field (struct_type ms n) stat ≡ statistic_field s stat
struct_field ms n s Min is = absurd is
struct_field ms n s Max is = absurd is
struct_field ms n s NullCount is = refl

struct_fields : (ms : Members) (n : Nullability) (s : DataType) (stats : List Statistic) → StandOver (struct_type ms n) stats → map (statistic_field (struct_type ms n)) stats ≡ map (statistic_field s) stats
struct_fields ms n s [] stand = refl
struct_fields ms n s (stat ∷ stats) stand =
    let here : statistic_field (struct_type ms n) stat ≡ statistic_field s stat = struct_field ms n s stat (All-head (StandsOver (struct_type ms n)) stat stats stand) in
    let rest : map (statistic_field (struct_type ms n)) stats ≡ map (statistic_field s) stats = struct_fields ms n s stats (All-tail (StandsOver (struct_type ms n)) stat stats stand) in
    λ i. here i ∷ rest i

pub tells_of_kept : (kept : KeptFields) (t : DataType) (stats : List Statistic) → StandOver t stats → TellsOf t (kept_type kept t) stats
tells_of_kept all t stats stand = tells_itself t stats stand
tells_of_kept (only names) (struct_type ms n) stats stand =
    let s : DataType = kept_type (only names) (struct_type ms n) in
    record { stand = All-weaker (StandsOver (struct_type ms n)) (StandsOver s) (struct_stands ms n s) stats stand; same = types_from (struct_type ms n) s stats (struct_fields ms n s stats stand) }
tells_of_kept (only names) (bool_type n) stats stand = tells_itself (bool_type n) stats stand
tells_of_kept (only names) (int_type kind n) stats stand = tells_itself (int_type kind n) stats stand
tells_of_kept (only names) (utf8_type n) stats stand = tells_itself (utf8_type n) stats stand
tells_of_kept (only names) (list_type t n) stats stand = tells_itself (list_type t n) stats stand
