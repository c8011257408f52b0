-- What a scan of all rows of a file and a read of them have in common.
use Rattle.std.specs.Prelude.{◌≡◌, ℕ, false, List, None, Some, Ok}
use Rattle.std.specs.Global.{Vec}
use Rattle.std.specs.List.{flat_map, range_with_len}
use Rattle.vx_base.specs.Columns.{ColumnData}
use Rattle.vx_base.specs.Data.{Datum}
use Rattle.vx_base.specs.Sources.{SourceState}
use Rattle.vx_chunks.specs.Lent.{AllTell}
use Rattle.vx_expr.specs.Mentions.{uses_row_number}
use Rattle.vx_layout.specs.Rows.{file_leaves}
use Rattle.vx_layout.specs.Trees.{head_of, subtree}
use Rattle.vx_readers.specs.declared.layout_readers.Reader.{Reader}
use Rattle.vx_readers.specs.ReaderData.{IsReader}
use Rattle.vx_readers.specs.Readers.{reader_data}
use Rattle.vx_readers.specs.WholeReads.{ReadsRows}
use Rattle.vx_scan.specs.Answer.{FileScan, IsAnswer}
use Rattle.vx_scan.specs.Scanned.{AnswersScan}
use Rattle.vx_split_rules.specs.declared.split_rules.SplitBy.{SplitBy}
use Rattle.vx_splits.specs.declared.selections.Selection.TheVariants as selections

-- the values of columns, one column after another
abbrev pub joined : List ColumnData → List Datum
joined columns = flat_map (λ column. column.values) columns

-- The scan is of all rows of the reader's node, for an expression that doesn't use their numbers.
pub record IsOfAllRows (scan : FileScan) (reader : Reader) : Type 0 where
  pub root : scan.projection.root ≡ subtree (reader_data reader).nodes (reader_data reader).node
  pub locations : scan.locations ≡ (reader_data reader).locations
  pub selection : scan.selection ≡ selections.All
  pub range : scan.range ≡ None
  pub limit : scan.limit ≡ None
  pub no_numbers : uses_row_number scan.projection.expression.term ≡ false

-- Both are the answer at all rows, by the file.
pub record AreOneAnswer (scan : FileScan) (file : List ℕ) (columns batches : List ColumnData) : Type 0 where
  pub same : joined batches ≡ joined columns
  pub answer : IsAnswer (file_leaves file scan.locations) scan.projection (range_with_len 0 (head_of scan.projection.root).rows) (joined columns)

-- Where a read and a scan of all rows both have an answer, and their sources tell one file, it is the same.
abbrev pub PlannerAndReadersAgree : Type 0
PlannerAndReadersAgree = (reader : Reader) (rule : SplitBy) (scan : FileScan) (read_limit scan_limit : ℕ) (columns batches : Vec ColumnData)
    (before after : SourceState) (befores afters : List SourceState) (file : List ℕ) → IsReader (reader_data reader) → IsOfAllRows scan reader
    → ReadsRows read_limit rule (Ok columns) reader scan.projection.expression before after → before.file ≡ Some file
    → AnswersScan scan scan_limit (Ok batches) befores afters → AllTell file befores
    → AreOneAnswer scan file columns.items batches.items
