-- Which requests the layout's readers answer.
use Rattle.std.specs.Prelude.{◌==◌, ◌&&◌, not, Bool, true, false, IsTrue, is_none}
use Rattle.vx_expr.specs.Mentions.{uses_row_number}
use Rattle.vx_reads.specs.Readable.{AreReadable}
use Rattle.vx_readers.specs.ReaderData.{ReaderData}
use Rattle.vx_splits.specs.declared.selections.Selection.{Selection}
use Rattle.vx_splits.specs.declared.selections.Selection.TheVariants.{All, IncludeByIndex, ExcludeByIndex}
use Rattle.scan_request.specs.RequestForms.{Asked}

-- neither rows to read nor rows to leave out are told by their numbers
abbrev pub selects_all : Selection → Bool
selects_all All = true
selects_all (IncludeByIndex rows) = false
selects_all (ExcludeByIndex rows) = false

-- no range, no such rows and no limit are told, the first row's number is 0, and the projection doesn't use the number of a
-- row
abbrev pub is_plain : Asked → Bool
is_plain asked = is_none asked.range && selects_all asked.selection && is_none asked.limit && (asked.row_offset == 0) && not (uses_row_number asked.projection.term)

-- The request is so, and the readers read each node of its layout.
pub record IsReadable (asked : Asked) : Type 0 where
  pub plain : IsTrue (is_plain asked)
  pub nodes : AreReadable asked.nodes

-- what a reader of all its rows is over
abbrev pub reader_of : Asked → ReaderData
reader_of asked = record { nodes = asked.nodes; node = 0; locations = asked.locations }
