use Rattle.std.proofs.Common.{◌≡◌, ◌*◌, ◌++◌, replicate}
use Rattle.vx_columns.proofs.run_rows.append_alike.Given as goal

abbrev pub invariant-loop : goal.invariant-loop
invariant-loop l = l.made ≡ l.fn.mask ++ replicate (65536 * l.counter) l.bit
