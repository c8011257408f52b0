-- How the reading of all rows ends: by an error, before anything is read, or with a column for each split.
use Rattle.std.proofs.Common.{ℕ, ◌≤◌, [], ◌∷◌, Err, List, inl, length, refl, arith}
use Rattle.vx_base.specs.Columns.{ColumnData}
use Rattle.vx_base.specs.Sources.{SourceState}
use Rattle.vx_expr.specs.Bound.{Bound}
use Rattle.vx_reads.proofs.Going.{asks_none}
use Rattle.vx_readers.specs.declared.layout_readers.Reader.{Reader}
use Rattle.vx_readers.specs.declared.reading.ReadRowsError.{ReadRowsError}
use Rattle.vx_readers.specs.declared.reading.ReadRowsError.TheVariants as errors
use Rattle.vx_readers.specs.ReaderData.{ReaderData}
use Rattle.vx_readers.specs.Readers.{reader_data}
use Rattle.vx_readers.specs.WholeReads.{AreSplitColumns, IsReached, ReadsOnly, ReadsRows, ReadsSplit, RowsEnd, SplitEnds}
use Rattle.vx_split_rules.specs.declared.split_rules.SplitBy.{SplitBy}
use Rattle.vx_split_rules.specs.Rules.{IsZeroSize}

pub only_none : (r : ReaderData) (source : SourceState) → ReadsOnly r source source
only_none r source = record {
  file = refl;
  asks = asks_none (IsReached r) source.asked;
  in_flight = inl refl;
  faults = omega arith;
  idle = omega arith;
}

pub rows_error : (error : ReadRowsError) (limit : ℕ) (rule : SplitBy) (reader : Reader) (e : Bound) (start end : ℕ) (before after : SourceState) → (IsZeroSize rule → ⊥) → ReadsSplit limit (Err error) (reader_data reader) e start end before after → ReadsRows limit rule (Err error) reader e before after
rows_error error limit rule reader e start end before after sized split = record { reads = split.reads; ends = by error split.ends }
  where
    by : (error : ReadRowsError) → SplitEnds limit (Err error) (reader_data reader) e start end before after → RowsEnd limit rule (Err error) reader e before after
    by (errors.Reader fault) ends = ends
    by errors.Stalled ends = ends
    by errors.ZeroSize ends = absurd ends
    by errors.Memory ends = sized

pub none_between : (P : ℕ → ℕ → ColumnData → Type 0) (splits : List ℕ) → length splits ≤ 1 → AreSplitColumns P splits []
none_between P [] few = tt
none_between P (last ∷ []) few = tt
none_between P (start ∷ end ∷ splits) few = absurd (omega arith)
