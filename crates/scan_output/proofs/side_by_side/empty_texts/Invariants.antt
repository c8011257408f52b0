use Rattle.std.proofs.Common.{◌≡◌, vec_len}
use Rattle.scan_output.proofs.side_by_side.empty_texts.Given as goal

abbrev pub invariant-loop : goal.invariant-loop
invariant-loop l = vec_len l.texts ≡ l.counter
