-- Which splits are inside a plan.
use Rattle.std.specs.Prelude.{◌≡◌, ℕ, ◌-◌, ◌≤◌, length}
use Rattle.vx_steps.specs.declared.splits.Split.{Split}

-- forwards, no further than the rows, and with a mask of its length
abbrev pub IsInside : ℕ → Split → Type 0
IsInside rows split = (split.rows.start ≤ split.rows.end) × (split.rows.end ≤ rows) × (length split.mask ≡ split.rows.end - split.rows.start)
