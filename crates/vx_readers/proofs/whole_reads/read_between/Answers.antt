use Rattle.std.proofs.Common.{◌≡◌, ℕ, ◌-◌, length, sym, ◌∙◌, subst, arith}
use Rattle.vx_readers.specs.Readers.{reader_data}
use Rattle.vx_readers.specs.WholeReads.{AreWithin}
use Rattle.vx_readers.proofs.Cutting.{parts_columns}
use Rattle.vx_readers.proofs.WholeReading.{not_between}
use Rattle.vx_readers.proofs.whole_reads.read_between.Goals as goal

pub cut-requires : goal.cut-requires
cut-requires g c =
    let none : c.args.rows - 0 ≡ c.args.rows = omega arith in
    let counted : length c.in-Ok.whole.values ≡ c.args.rows = c.in-Ok.ensures.ends.1 ∙ none in
    record {
      first = c.requires.first;
      within = subst (λ (n : ℕ). AreWithin n c.args.splits.now) (sym counted) c.requires.within;
    }

pub returns-in_ok-cut-in-Ok : goal.returns-in_ok-cut-in-Ok
returns-in_ok-cut-in-Ok g c = record {
  reads = c.in-Ok.ensures.reads;
  ends = parts_columns (reader_data c.args.reader.now) c.args.projection.now (g.S.SegmentSource.state c.args.source.now) c.args.rows c.in-Ok.whole c.args.splits.now c.in_ok-cut-in-Ok.field-0.items c.in-Ok.ensures.ends c.in_ok-cut-in-Ok.ensures;
}

pub returns-in-Err : goal.returns-in-Err
returns-in-Err g c =
    let state = g.S.SegmentSource.state in
    record {
      reads = c.in-Err.ensures.reads;
      ends = not_between c.args.idle_limit c.in-Err.error (reader_data c.args.reader.now) c.args.projection.now 0 c.args.rows c.args.splits.now (state c.args.source.now) (state c.read_all.new.source) c.in-Err.ensures.ends;
    }
