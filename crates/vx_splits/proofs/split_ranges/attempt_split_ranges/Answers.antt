use Rattle.std.proofs.Common.{ℕ, List, Vec, Global, Bor, Option, ap}
use Rattle.std.specs.Prelude.{option_map}
use Rattle.std.specs.declared.ops.Range.{Range}
use Rattle.vx_splits.proofs.SplitLaws.{laws_of_all, laws_of_range, laws_of_empty}
use Rattle.vx_splits.proofs.split_ranges.attempt_split_ranges.Goals as goal

abbrev items : Vec (Range ℕ) Global → List (Range ℕ)
items ranges = ranges.items

abbrev read : Option (Bor (Range ℕ)) → Option (Range ℕ)
read range = option_map (λ (rows : Bor (Range ℕ)). rows.now) range

pub returns-in-None-clause-laws : goal.returns-in-None-clause-laws
returns-in-None-clause-laws c = laws_of_all items c.args.selection.now (read c.args.row_range) c.split_within.result (ap read c.in-None.is) c.split_within.ensures

pub returns-in-Some-clause-laws : goal.returns-in-Some-clause-laws
returns-in-Some-clause-laws c = laws_of_range items c.args.selection.now (read c.args.row_range) c.in-Some.rows.now c.split_within-in-Some.result (ap read c.in-Some.is) c.if-rows.true c.split_within-in-Some.ensures

pub returns-in-Some-2-clause-laws : goal.returns-in-Some-2-clause-laws
returns-in-Some-2-clause-laws c = laws_of_empty c.args.selection.now (read c.args.row_range) c.in-Some.rows.now c.new.result.items (ap read c.in-Some.is) c.if-rows.false c.new.ensures.items
