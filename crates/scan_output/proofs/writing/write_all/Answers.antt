use Rattle.std.proofs.Common.{◌≡◌, ◌-◌, length, take, drop, arith}
use Rattle.std.proofs.lemmas.Grind.{common_steps}
use Rattle.scan_output.proofs.Writes.{wrote_more}
use Rattle.scan_output.proofs.writing.write_all.Goals as goal

pub loop-done-preserved : goal.loop-done-preserved
loop-done-preserved g c =
    let piece = take (length c.args.text.now - c.loop-done.done) (drop c.loop-done.done c.args.text.now) in
    let rest : piece ≡ drop c.loop-done.done c.args.text.now = grind (arith, common_steps) in
    wrote_more _ _ _ piece _ _ _ rest c.loop-done.invariant c.in_ok-taken.ensures
