use Rattle.std.proofs.Common.{◌≡◌, drop}
use Rattle.vx_expr.specs.TermViews.{terms_of}
use Rattle.vx_base.specs.Names.{are_distinct}
use Rattle.vx_expr.specs.Types.{names_in}
use Rattle.vx_types.proofs.SeenNames.{are_fresh, texts}
use Rattle.vx_expr.proofs.typing.has_distinct_names.Given as goal

-- the names left are fresh beside those in the set where all names are distinct
abbrev pub invariant-loop-item : goal.invariant-loop-item
invariant-loop-item l = are_distinct (names_in (terms_of l.items)) ≡ are_fresh (texts l.seen.keys) (names_in (terms_of (drop l.item-index l.items)))
