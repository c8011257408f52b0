use Rattle.std.proofs.Common.{◌≡◌, ◌-◌, ◌<◌, ◌≤◌, ◌++◌, ◌∙◌, arith, length, get_or, replicate, rules, vec_len}
use Rattle.std.proofs.lemmas.List.{take_all}
use Rattle.vx_arrays.specs.Texts.{start_in}
use Rattle.vx_columns.proofs.RunRows.{places_more}
use Rattle.vx_columns.proofs.SpreadRuns.{rise_at, same_start}
use Rattle.vx_columns.proofs.run_rows.places_of.Goals as goal

pub loop-run-preserved : goal.loop-run-preserved
loop-run-preserved c =
    let ends = c.args.ends.now in
    let run = c.loop-run.run in
    let places = c.loop-run.places.items in
    let end = get_or ends run 0 in
    let above : start_in ends run < end = omega (arith, rise_at 0 ends run c.requires c.loop-run-test.true, same_start ends run (omega (arith, c.loop-run-test.true))) in
    let within : length places ≤ end = omega (arith, c.loop-run.invariant.rows, above) in
    let many : vec_len c.loop-run.places ≡ length places = search rules in
    let pushed : c.resize.new.self.items ≡ places ++ replicate (end - length places) run = c.in_ok-resize.ensures.items ∙ (λ i. take_all end places within i ++ replicate (end - many i) run) in
    places_more ends places c.resize.new.self.items run c.loop-run-test.true above pushed c.loop-run.invariant
