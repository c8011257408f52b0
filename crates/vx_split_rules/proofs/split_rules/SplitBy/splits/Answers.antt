use Rattle.std.proofs.Common.{◌≡◌, arith}
use Rattle.vx_split_rules.specs.declared.split_rules.SplitBy.TheVariants.{Layout, LayoutSubSplitting, RowCount}
use Rattle.vx_split_rules.specs.Rules.{ReaderSplits}
use Rattle.vx_split_rules.proofs.Gives.{gives_alone, gives_spans, layout_gives}
use Rattle.vx_split_rules.proofs.Spanned.{splits_span}
use Rattle.vx_split_rules.proofs.split_rules.SplitBy.splits.Goals as goal

pub returns-in-Layout-clause-alone : goal.returns-in-Layout-clause-alone
returns-in-Layout-clause-alone g c = λ empty.
    (let reader : ReaderSplits = record { ends = g.R.RegistersSplits.chunk_ends c.args.reader.now 0; ends_empty = g.R.RegistersSplits.ends_empty c.args.reader.now; rows = g.R.RegistersSplits.all_rows c.args.reader.now } in
    gives_alone c.layout_splits.result Layout reader c.args.rows.now.start c.args.rows.now.end empty (layout_gives c.layout_splits.result reader c.args.rows.now.start c.args.rows.now.end c.layout_splits.ensures))

pub returns-in-Layout-clause-spans : goal.returns-in-Layout-clause-spans
returns-in-Layout-clause-spans g c = λ some.
    (let reader : ReaderSplits = record { ends = g.R.RegistersSplits.chunk_ends c.args.reader.now 0; ends_empty = g.R.RegistersSplits.ends_empty c.args.reader.now; rows = g.R.RegistersSplits.all_rows c.args.reader.now } in
    gives_spans c.layout_splits.result Layout reader c.args.rows.now.start c.args.rows.now.end some (layout_gives c.layout_splits.result reader c.args.rows.now.start c.args.rows.now.end c.layout_splits.ensures))

pub returns-in-LayoutSubSplitting-clause-alone : goal.returns-in-LayoutSubSplitting-clause-alone
returns-in-LayoutSubSplitting-clause-alone g c = λ empty.
    (let reader : ReaderSplits = record { ends = g.R.RegistersSplits.chunk_ends c.args.reader.now 0; ends_empty = g.R.RegistersSplits.ends_empty c.args.reader.now; rows = g.R.RegistersSplits.all_rows c.args.reader.now } in
    gives_alone c.sub_splits.result (LayoutSubSplitting c.in-LayoutSubSplitting.max_rows) reader c.args.rows.now.start c.args.rows.now.end empty c.sub_splits.ensures)

pub returns-in-LayoutSubSplitting-clause-spans : goal.returns-in-LayoutSubSplitting-clause-spans
returns-in-LayoutSubSplitting-clause-spans g c = λ some.
    (let reader : ReaderSplits = record { ends = g.R.RegistersSplits.chunk_ends c.args.reader.now 0; ends_empty = g.R.RegistersSplits.ends_empty c.args.reader.now; rows = g.R.RegistersSplits.all_rows c.args.reader.now } in
    gives_spans c.sub_splits.result (LayoutSubSplitting c.in-LayoutSubSplitting.max_rows) reader c.args.rows.now.start c.args.rows.now.end some c.sub_splits.ensures)

pub returns-in_ok-counted_splits-in-RowCount-clause-spans : goal.returns-in_ok-counted_splits-in-RowCount-clause-spans
returns-in_ok-counted_splits-in-RowCount-clause-spans g c = λ some.
    (let reader : ReaderSplits = record { ends = g.R.RegistersSplits.chunk_ends c.args.reader.now 0; ends_empty = g.R.RegistersSplits.ends_empty c.args.reader.now; rows = g.R.RegistersSplits.all_rows c.args.reader.now } in
    splits_span (RowCount c.in-RowCount.size) reader c.args.rows.now.start c.args.rows.now.end c.in_ok-counted_splits-in-RowCount.field-0.items some (λ (none : c.in-RowCount.size ≡ 0). (let h = c.if-size-eq0.false in omega arith)) c.in_ok-counted_splits-in-RowCount.ensures)
