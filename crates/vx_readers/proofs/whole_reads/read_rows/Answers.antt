use Rattle.std.proofs.Common.{◌≡◌, ℕ, List, get_or, sym, subst}
use Rattle.vx_readers.specs.Readers.{reader_data}
use Rattle.vx_readers.specs.WholeReads.{told_splits, AreWithin, ReadsBetween}
use Rattle.vx_readers.proofs.WholeReading.{rows_read, splits_between, splits_start}
use Rattle.vx_split_rules.specs.Rules.{IsSplitBy}
use Rattle.vx_readers.proofs.whole_reads.read_rows.Goals as goal

pub read_between-requires-clause-first : goal.read_between-requires-clause-first
read_between-requires-clause-first g c =
    subst (λ (splits : List ℕ). get_or splits 0 0 ≡ 0) (sym c.deref.ensures.value) (splits_start c.row_count.result c.in-Ok.bounds.items c.in-Ok.ensures.spans c.in-Ok.ensures.alone)

pub read_between-requires-clause-within : goal.read_between-requires-clause-within
read_between-requires-clause-within g c =
    subst (AreWithin c.row_count.result) (sym c.deref.ensures.value) (splits_between c.row_count.result c.in-Ok.bounds.items c.in-Ok.ensures.spans c.in-Ok.ensures.alone)

pub returns-in-Ok : goal.returns-in-Ok
returns-in-Ok g c =
    let state = g.S.SegmentSource.state in
    let splits = subst (λ (k : ℕ). IsSplitBy c.args.splits.now (told_splits c.args.reader.now) 0 k c.in-Ok.bounds.items) c.row_count.ensures c.in-Ok.ensures.gives.2 in
    let between = subst (λ (bounds : List ℕ). ReadsBetween c.args.idle_limit c.read_between.result (reader_data c.args.reader.now) c.args.projection.now bounds (state c.args.source.now) (state c.read_between.new.source)) c.deref.ensures.value c.read_between.ensures in
    rows_read c.args.idle_limit c.args.splits.now c.read_between.result c.args.reader.now c.args.projection.now c.in-Ok.bounds.items (state c.args.source.now) (state c.read_between.new.source) c.in-Ok.ensures.gives.0 splits between
