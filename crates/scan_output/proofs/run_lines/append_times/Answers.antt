use Rattle.std.proofs.Common.{◌∙◌, ◌++◌, ap, append_assoc}
use Rattle.std.specs.List.{repeat}
use Rattle.scan_output.proofs.RunLines.{repeat_more}
use Rattle.scan_output.proofs.run_lines.append_times.Goals as goal

pub loop-preserved : goal.loop-preserved
loop-preserved c =
    let before = c.args.out.now.items in
    let text = c.args.text.now in
    c.in_ok-extend_from_slice.ensures.items ∙ ap (λ bytes. bytes ++ text) c.loop.invariant ∙ append_assoc before (repeat c.loop.counter text) text ∙ ap (λ bytes. before ++ bytes) (repeat_more c.loop.counter text)
