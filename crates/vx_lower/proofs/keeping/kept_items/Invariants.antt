use Rattle.std.proofs.Common.{◌≡◌, map, take}
use Rattle.vx_base.specs.Names.{names_in}
use Rattle.vx_base.specs.Views.{members_of}
use Rattle.vx_expr.specs.TermViews.{terms_of}
use Rattle.vx_layout.specs.Kept.{KeptFields, is_kept}
use Rattle.vx_lower.specs.KeptRows.{kept_terms}
use Rattle.vx_lower.proofs.keeping.kept_items.Given as goal

abbrev pub invariant-loop-place : goal.invariant-loop-place
invariant-loop-place l = (kept : KeptFields) → l.flags ≡ map (is_kept kept) (names_in (members_of l.fields)) → terms_of l.items.items ≡ kept_terms kept (members_of (take l.place l.fields))
