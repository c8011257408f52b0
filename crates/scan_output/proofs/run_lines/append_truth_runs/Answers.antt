use Rattle.std.proofs.Common.{◌∙◌, map, sym, arith}
use Rattle.std.proofs.lemmas.List.{length-map}
use Rattle.scan_output.proofs.RunLines.{still_there, run_next, slot_runs}
use Rattle.scan_output.proofs.run_lines.append_truth_runs.Goals as goal
use Rattle.vx_base.specs.declared.dtypes.Nullability.TheVariants.{NonNullable}
use Rattle.vx_base.specs.Data.{bool_type, truth}
use Rattle.vx_base.proofs.Got.{got_mapped}

pub append_again-requires : goal.append_again-requires
append_again-requires c =
    let before = c.loop-row.out.ok in
    let after = c.append_truth_line.new.out.ok in
    omega (arith, before.0, after.0, c.len-from.ensures, still_there c.loop-row.out.items c.append_truth_line.new.out.items _ (c.in_ok-append_truth_line.ensures (bool_type NonNullable)))

pub loop-row-preserved : goal.loop-row-preserved
loop-row-preserved c =
    let at = c.loop-row.invariant.at in
    let ends = c.args.ends.now in
    let run = c.loop-row.run in
    record {
      at = run_next ends c.args.rows.start c.args.rows.end c.loop-row.row run c.min-end.result c.requires.range c.loop-row-test.true c.min-end.ensures at;
      written = λ t.
          slot_runs t c.args.valid.now (map truth c.args.truths.now) ends c.args.rows.start c.args.rows.end c.loop-row.row run c.min-end.result c.len-from.result c.value.result (truth c.value-in-loop-row.result) c.loop-row.out.items c.append_truth_line.new.out.items c.append_again.new.out.items c.args.out.now.items
          (c.requires.same ∙ sym (length-map c.args.truths.now truth)) (c.requires.ends ∙ sym (length-map c.args.truths.now truth)) c.requires.range c.loop-row-test.true c.min-end.ensures (c.len-from.ensures ∙ c.loop-row.out.ok.0) at
          c.value.ensures (got_mapped truth c.args.truths.now run c.value-in-loop-row.result c.value-in-loop-row.ensures) (c.in_ok-append_truth_line.ensures t) c.in_ok-append_again.ensures (c.loop-row.invariant.written t);
    }
