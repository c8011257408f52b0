use Rattle.vx_arrays.specs.Numbers.{numbers_in}
use Rattle.scan_output.proofs.RunLines.{ends_of_slots}
use Rattle.scan_output.proofs.run_lines.append_run_lines.Goals as goal
use Rattle.vx_base.specs.Data.{number, text, truth}

pub append_truth_runs-requires-clause-ends : goal.append_truth_runs-requires-clause-ends
append_truth_runs-requires-clause-ends c =
    ends_of_slots truth c.in-Truths.valid.now c.in-Truths.truths.now c.args.values.now.values c.args.ends.now c.in-Truths.ensures.array_view.0 c.in-Truths.ensures.values c.requires.ends

pub append_number_runs-requires-clause-ends : goal.append_number_runs-requires-clause-ends
append_number_runs-requires-clause-ends c =
    ends_of_slots number c.in-Numbers.valid.now (numbers_in c.in-Numbers.numbers.now) c.args.values.now.values c.args.ends.now c.in-Numbers.ensures.array_view c.in-Numbers.ensures.values c.requires.ends

pub append_text_runs-requires-clause-ends : goal.append_text_runs-requires-clause-ends
append_text_runs-requires-clause-ends c =
    ends_of_slots text c.in-Texts.valid.now c.in-Texts.texts.now c.args.values.now.values c.args.ends.now c.in-Texts.ensures.array_view c.in-Texts.ensures.values c.requires.ends
