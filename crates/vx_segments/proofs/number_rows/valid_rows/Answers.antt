use Rattle.std.proofs.Common.{◌∙◌}
use Rattle.vx_segments.specs.Reading.{numbers_read}
use Rattle.vx_segments.proofs.NumberRows.{all_held, all_valid}
use Rattle.vx_segments.proofs.number_rows.valid_rows.Goals as goal

pub returns-in_ok-all-in-NonNullable-clause-valid : goal.returns-in_ok-all-in-NonNullable-clause-valid
returns-in_ok-all-in-NonNullable-clause-valid c = rw c.in-NonNullable.is (c.in_ok-all-in-NonNullable.ensures ∙ all_valid c.args.rows c.args.range.start c.args.range.end c.requires.forwards c.requires.inside)

pub returns-in_ok-all-in-NonNullable-clause-held : goal.returns-in_ok-all-in-NonNullable-clause-held
returns-in_ok-all-in-NonNullable-clause-held c = rw c.in-NonNullable.is (all_held c.args.rows (numbers_read c.args.kind c.args.rows c.args.slots.now))
