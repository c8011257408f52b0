use Rattle.std.proofs.Common.{List, map, sym, subst}
use Rattle.std.specs.Prelude.{IsTrue}
use Rattle.std.specs.List.{AllByRecursion}
use Rattle.vx_base.specs.declared.values.Value.{Value}
use Rattle.vx_base.specs.Slots.{IsShort}
use Rattle.vx_base.specs.ValueViews.{datum}
use Rattle.vx_base.proofs.RunRows.{spread_fits}
use Rattle.vx_base_cases.proofs.codings.short_runs.Goals as goal

pub returns-in-Ok-clause-short : goal.returns-in-Ok-clause-short
returns-in-Ok-clause-short c =
    let yes : IsTrue c.are_short.result = cc in
    let short : AllByRecursion IsShort (map datum c.unwrap_or-values.result.items) = subst (λ (vs : List Value). AllByRecursion IsShort (map datum vs)) c.as_slice.ensures.value (c.are_short.ensures yes) in
    subst (AllByRecursion IsShort) (sym c.in-Ok.ensures.values) (spread_fits IsShort 0 (map datum c.unwrap_or-values.result.items) c.list_of.result.items short)
