use Rattle.std.proofs.Common.{◌≡◌, map, take, None}
use Rattle.vx_plan.specs.Refs.{number_of}
use Rattle.vx_steps.specs.Kept.{kept_at, kept_data}
use Rattle.vx_chunks.proofs.kept_values.first_for.Given as goal

-- none of the entries so far is for the plan
abbrev pub invariant-loop-value : goal.invariant-loop-value
invariant-loop-value l = kept_at (map kept_data (take l.value-index l.entries)) (number_of l.node) ≡ None
