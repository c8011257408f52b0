-- Zones and tables by hand, on which the definitions of pruning are checked.
use Rattle.std.specs.Prelude.{ℕ, [], ◌∷◌}
use Rattle.vx_base.specs.ColumnCalls.{natural}
use Rattle.vx_base.specs.declared.dtypes.IntKind.TheVariants.{I32}
use Rattle.vx_base.specs.declared.dtypes.Nullability.TheVariants.{NonNullable, Nullable}
use Rattle.vx_base.specs.Data.{Datum, int_type, null, structure, no_items, item}
use Rattle.vx_expr.specs.declared.statistics.Statistic.TheVariants.{Min, Max, NullCount}
use Rattle.vx_expr.specs.Terms.{Term, literal}
use Rattle.vx_zones.specs.Tables.{Zone, TableData, table_of}

-- a number as a literal
abbrev pub of_number : ℕ → Term
of_number n = literal (natural n) (int_type I32 NonNullable)

-- ---- zones of three rows

-- none of them null
abbrev pub from : ℕ → ℕ → Zone
from least greatest = record { least = natural least; greatest = natural greatest; nulls = natural 0; rows = 3 }

abbrev pub told_nothing : Zone
told_nothing = record { least = null; greatest = null; nulls = null; rows = 3 }

abbrev pub nulls_alone : Zone
nulls_alone = record { least = null; greatest = null; nulls = natural 3; rows = 3 }

-- ---- tables

abbrev pair : ℕ → ℕ → Datum
pair least greatest = structure (item (natural least) (item (natural greatest) no_items))

abbrev single : Datum → Datum
single told = structure (item told no_items)

-- the numbers from 1 to 9 in zones of three rows
abbrev pub one_to_nine : TableData
one_to_nine = table_of (int_type I32 NonNullable) (Min ∷ Max ∷ []) (pair 1 3 ∷ pair 4 6 ∷ pair 7 9 ∷ []) 3 9

-- three nulls, three numbers and three nulls again in zones of three rows
abbrev pub nulls_around : TableData
nulls_around = table_of (int_type I32 Nullable) (NullCount ∷ []) (single (natural 3) ∷ single (natural 0) ∷ single (natural 3) ∷ []) 3 9

-- eight nulls in zones of three rows: the last zone has two
abbrev pub eight_nulls : TableData
eight_nulls = table_of (int_type I32 Nullable) (NullCount ∷ []) (single (natural 3) ∷ single null ∷ single (natural 2) ∷ []) 3 8

-- of two statistics of one sort the first stands
abbrev pub two_least : TableData
two_least = table_of (int_type I32 NonNullable) (Min ∷ Min ∷ []) (pair 1 9 ∷ pair 9 1 ∷ []) 3 6
