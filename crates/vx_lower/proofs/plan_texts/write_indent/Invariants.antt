use Rattle.std.proofs.Common.{◌≡◌, ◌-◌, ◌++◌}
use Rattle.vx_lower.specs.PlanText.{indent}
use Rattle.vx_lower.proofs.plan_texts.write_indent.Given as goal

abbrev pub invariant-loop-level : goal.invariant-loop-level
invariant-loop-level l = l.out.items ++ indent (l.depth - l._level) ≡ l.fn.out.items ++ indent l.depth
