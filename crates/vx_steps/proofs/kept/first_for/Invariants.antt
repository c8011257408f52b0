use Rattle.std.proofs.Common.{◌≡◌, map, take, None}
use Rattle.vx_steps.specs.Kept.{kept_at, kept_data}
use Rattle.vx_steps.proofs.kept.first_for.Given as goal

abbrev pub invariant-loop-value : goal.invariant-loop-value
invariant-loop-value l = kept_at (map kept_data (take l.value-index l.columns)) l.node ≡ None
