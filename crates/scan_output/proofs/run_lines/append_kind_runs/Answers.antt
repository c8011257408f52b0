use Rattle.std.proofs.Common.{◌≡◌, ◌<◌, ◌∙◌, length, map, sym, arith}
use Rattle.std.proofs.lemmas.List.{length-map}
use Rattle.scan_output.proofs.RunLines.{still_there, run_next, slot_runs}
use Rattle.scan_output.proofs.run_lines.append_kind_runs.Goals as goal
use Rattle.vx_base.specs.declared.dtypes.Nullability.TheVariants.{NonNullable}
use Rattle.vx_base.specs.Data.{bool_type, number}
use Rattle.vx_base.proofs.Got.{got_mapped}
use Rattle.scan_output.proofs.ColumnLines.{read_at}

pub append_again-requires : goal.append_again-requires
append_again-requires g c =
    let before = c.loop-row.out.ok in
    let after = c.append_number_line.new.out.ok in
    omega (arith, before.0, after.0, c.len-from.ensures, still_there c.loop-row.out.items c.append_number_line.new.out.items _ (c.in_ok-append_number_line.ensures (bool_type NonNullable)))

pub loop-row-preserved : goal.loop-row-preserved
loop-row-preserved g c =
    let at = c.loop-row.invariant.at in
    let ends = c.args.ends.now in
    let run = c.loop-row.run in
    let value = c.index-numbers-run.result in
    let wholes = map g.T.Kind.number c.args.numbers.now in
    let there : run < length c.args.numbers.now = omega (arith, at.there c.loop-row-test.true, c.requires.ends) in
    let all : length (map number wholes) ≡ length c.args.numbers.now = length-map wholes number ∙ length-map c.args.numbers.now g.T.Kind.number in
    record {
      at = run_next ends c.args.rows.start c.args.rows.end c.loop-row.row run c.min-end.result c.requires.range c.loop-row-test.true c.min-end.ensures at;
      written = λ t.
          slot_runs t c.args.valid.now (map number wholes) ends c.args.rows.start c.args.rows.end c.loop-row.row run c.min-end.result c.len-from.result c.value.result (number (g.T.Kind.number value)) c.loop-row.out.items c.append_number_line.new.out.items c.append_again.new.out.items c.args.out.now.items
          (c.requires.same ∙ sym all) (c.requires.ends ∙ sym all) c.requires.range c.loop-row-test.true c.min-end.ensures (c.len-from.ensures ∙ c.loop-row.out.ok.0) at
          c.value.ensures (got_mapped number wholes run (g.T.Kind.number value) (got_mapped g.T.Kind.number c.args.numbers.now run value (read_at c.args.numbers.now run value there c.index-numbers-run.is))) (c.in_ok-append_number_line.ensures t) c.in_ok-append_again.ensures (c.loop-row.invariant.written t);
    }
