-- Zones that are pruned by a bound, as data, and what is kept of their last mask.
use Rattle.std.specs.Prelude.{◌≡◌, refl, ℕ, Bool, List, Option, IfSome}
use Rattle.std.specs.Coded.{Coded, code_by, coded×, coded_ℕ, coded_bool, coded_list, coded_option}
use Rattle.vx_expr.specs.Bound.{Bound, IsBoundTo, coded_bound}
use Rattle.vx_zones.specs.Prunes.{pruned_zones}
use Rattle.vx_zones.specs.Tables.{TableData, coded_table}

-- The table, the predicate that prunes its zones, and the last mask beside its key.
pub record PrunedData : Type 0 where
  pub table : TableData
  pub predicate : Bound
  pub kept : Option (ℕ × List Bool)

abbrev pub pruned_data : TableData → Bound → Option (ℕ × List Bool) → PrunedData
pruned_data table predicate kept = record { table = table; predicate = predicate; kept = kept }

-- The predicate is bound to the dtype of the table, and a kept mask has the zones that are pruned at its key.
pub record AreKept (zones : PrunedData) : Type 0 where
  pub over : IsBoundTo zones.predicate zones.table.dtype
  pub right : IfSome zones.kept (λ kept. kept.1 ≡ pruned_zones kept.0 zones.predicate.term zones.table)

-- ---- as a tree of numbers
abbrev pub coded_pruned : Coded PrunedData
coded_pruned = code_by (TableData × (Bound × Option (ℕ × List Bool))) (coded× coded_table (coded× coded_bound (coded_option (coded× coded_ℕ (coded_list coded_bool)))))
    (λ z. (z.table, (z.predicate, z.kept))) (λ p. record { table = p.0; predicate = p.1.0; kept = p.1.1 }) (λ _. refl)
