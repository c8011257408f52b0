-- From what the layout's readers give to what reading the rows of a request gives.
use Rattle.std.proofs.Common.{◌≡◌, ℕ, ◌<◌, ◌&&◌, not, Bool, true, false, List, [], ◌∷◌, Option, Some, None, Ok, Err, length, refl, sym, ap, ◌∙◌, subst}
use Rattle.std.specs.Prelude.{◌==◌, is_none, IfSome, IsSomeAnd}
use Rattle.std.specs.Global.{Vec}
use Rattle.std.specs.List.{range_with_len, slice_get, AllByRecursion}
use Rattle.vx_base.specs.Columns.{ColumnData}
use Rattle.vx_base.specs.Data.{DataType}
use Rattle.vx_base.specs.Sources.{SourceState}
use Rattle.vx_base.specs.declared.locations.SegmentLocation.{SegmentLocation}
use Rattle.vx_expr.specs.Bound.{Bound}
use Rattle.vx_expr.specs.Mentions.{uses_row_number}
use Rattle.vx_layout.specs.Nodes.{Node}
use Rattle.vx_layout.specs.Rows.{file_leaves}
use Rattle.vx_layout.specs.Shape.{IsGoodTree}
use Rattle.vx_layout.specs.Trees.{subtree}
use Rattle.vx_reads.specs.Readable.{IsReadableNode}
use Rattle.vx_readers.specs.declared.layout_readers.Reader.{Reader}
use Rattle.vx_readers.specs.declared.readers.OpenError.{OpenError}
use Rattle.vx_readers.specs.declared.readers.OpenError.TheVariants.{Unsupported, ZeroZoneLength}
use Rattle.vx_readers.specs.declared.reading.ReadRowsError.{ReadRowsError}
use Rattle.vx_readers.specs.declared.reading.ReadRowsError.TheVariants as read
use Rattle.vx_readers.specs.Opening.{OpenRefused}
use Rattle.vx_readers.specs.ReaderData.{IsReader, ReaderData}
use Rattle.vx_readers.specs.Readers.{reader_data}
use Rattle.vx_readers.specs.WholeReads.{AreSplitColumns, IsSplitColumn, ReadsOnly, ReadsRows, RowsFault}
use Rattle.vx_scan.specs.Answer.{row_count, IsAnswer}
use Rattle.vx_scan.specs.Plans.{WhereTold}
use Rattle.vx_split_rules.specs.declared.split_rules.SplitBy.{SplitBy}
use Rattle.vx_split_rules.specs.Rules.{IsZeroSize}
use Rattle.vx_splits.specs.declared.selections.Selection.{Selection}
use Rattle.vx_splits.specs.declared.selections.Selection.TheVariants as selections
use Rattle.vx_agreement.specs.Agreement.{joined, IsOfAllRows}
use Rattle.vx_agreement.proofs.ReadAnswers.{all_scanned, flat_joined, read_answer}
use Rattle.scan_output.specs.RowText.{lines}
use Rattle.scan_output.specs.RowWriting.{batch_lines}
use Rattle.scan_request.specs.RequestForms.{Asked}
use Rattle.scan_commands.specs.declared.endings.Ending.{Ending}
use Rattle.scan_commands.specs.Endings.{read_ending}
use Rattle.scan_commands.specs.ReadRequests.{is_plain, reader_of, selects_all, IsReadable}
use Rattle.scan_commands.specs.Reads.{NoRows, RowsGive}
use Rattle.scan_commands.specs.Scans.{scan_of, IsText}
use Rattle.scan_commands.proofs.Scanning.{lines_joined}

-- ---- a plain request

each_true : (a b c d e : Bool) → a && b && c && d && e ≡ true → (a ≡ true) × (b ≡ true) × (c ≡ true) × (d ≡ true) × (e ≡ true)
each_true true true true true true are = (refl, refl, refl, refl, refl)
each_true true true true true false are = absurd cc
each_true true true true false e are = absurd cc
each_true true true false d e are = absurd cc
each_true true false c d e are = absurd cc
each_true false b c d e are = absurd cc

none_told : {X : Type 0} (o : Option X) → is_none o ≡ true → o ≡ None
none_told None is = refl
none_told (Some x) is = absurd cc

all_selected : (selection : Selection) → selects_all selection ≡ true → selection ≡ selections.All
all_selected selections.All is = refl
all_selected (selections.IncludeByIndex rows) is = absurd cc
all_selected (selections.ExcludeByIndex rows) is = absurd cc

not_so : (b : Bool) → not b ≡ true → b ≡ false
not_so true is = absurd cc
not_so false is = refl

plain_parts : (asked : Asked) → is_plain asked ≡ true → (is_none asked.range ≡ true) × (selects_all asked.selection ≡ true) × (is_none asked.limit ≡ true) × ((asked.row_offset == 0) ≡ true) × (not (uses_row_number asked.projection.term) ≡ true)
plain_parts asked plain = each_true (is_none asked.range) (selects_all asked.selection) (is_none asked.limit) (asked.row_offset == 0) (not (uses_row_number asked.projection.term)) plain

-- its projection doesn't use the number of a row
pub no_numbers : (asked : Asked) → is_plain asked ≡ true → uses_row_number asked.projection.term ≡ false
no_numbers asked plain = not_so (uses_row_number asked.projection.term) (plain_parts asked plain).4

-- what a reader of the root is over
abbrev pub root_reader : List Node → List SegmentLocation → ReaderData
root_reader nodes locations = record { nodes = nodes; node = 0; locations = locations }

pub reader_is : (asked : Asked) (r : ReaderData) (locations : List SegmentLocation) → r ≡ root_reader asked.nodes locations → locations ≡ asked.locations → r ≡ reader_of asked
reader_is asked r locations is same = is ∙ ap (root_reader asked.nodes) same

-- its scan is one of all rows
of_all_rows : (asked : Asked) (reader : Reader) → is_plain asked ≡ true → reader_data reader ≡ reader_of asked → IsOfAllRows (scan_of asked) reader
of_all_rows asked reader plain is = record {
  root = ap (λ (r : ReaderData). subtree r.nodes r.node) (sym is);
  locations = ap (λ (r : ReaderData). r.locations) (sym is);
  selection = all_selected asked.selection (plain_parts asked plain).1;
  range = none_told asked.range (plain_parts asked plain).0;
  limit = none_told asked.limit (plain_parts asked plain).2;
  no_numbers = no_numbers asked plain;
}

-- ---- a request that the readers don't answer

not_both : (b : Bool) → b ≡ true → b ≡ false → ⊥
not_both true is isnt = absurd cc
not_both false is isnt = absurd cc

pub not_plain : (asked : Asked) → is_plain asked ≡ false → ¬ (IsReadable asked)
not_plain asked isnt = λ readable. not_both (is_plain asked) readable.plain isnt

some_not : (nodes : List Node) (n : ℕ) (o : Option Node) → IsSomeAnd o (λ node. IsReadableNode nodes n node.kind → ⊥) → IfSome o (λ node. IsReadableNode nodes n node.kind) → ⊥
some_not nodes n None bad kind = bad
some_not nodes n (Some node) bad kind = bad kind

pub not_opened : (asked : Asked) (error : OpenError) → OpenRefused asked.nodes error → ¬ (IsReadable asked)
not_opened asked (Unsupported node) refused = λ readable. some_not asked.nodes node (slice_get asked.nodes node) refused.0.there (readable.nodes node)
not_opened asked (ZeroZoneLength node) refused = λ readable. some_not asked.nodes node (slice_get asked.nodes node) refused.0.there (readable.nodes node)

-- ---- the columns

-- the columns of splits have the dtype of the expression
typed : (r : ReaderData) (e : Bound) (before : SourceState) (splits : List ℕ) (columns : List ColumnData) → AreSplitColumns (IsSplitColumn r e before) splits columns → AllByRecursion (λ (column : ColumnData). column.dtype ≡ e.dtype) columns
typed r e before [] [] are = tt
typed r e before [] (column ∷ columns) are = absurd are
typed r e before (last ∷ []) [] are = tt
typed r e before (last ∷ []) (column ∷ columns) are = absurd are
typed r e before (start ∷ end ∷ splits) [] are = absurd are
typed r e before (start ∷ end ∷ splits) (column ∷ columns) are = (are.0.0, typed r e before (end ∷ splits) columns are.1)

lines_are : (t : DataType) (columns : List ColumnData) → AllByRecursion (λ (column : ColumnData). column.dtype ≡ t) columns → batch_lines columns ≡ lines t (joined columns)
lines_are t columns are = lines_joined t columns are ∙ ap (lines t) (flat_joined columns)

read_text : (limit : ℕ) (rule : SplitBy) (asked : Asked) (reader : Reader) (columns : Vec ColumnData) (before after : SourceState) → 0 < length asked.nodes → IsGoodTree asked.nodes → IsReadable asked → reader_data reader ≡ reader_of asked → ReadsRows limit rule (Ok columns) reader asked.projection before after
    → WhereTold before (λ file. IsText (scan_of asked) file (batch_lines columns.items))
read_text limit rule asked reader columns before after some good readable is given = λ file told.
    let of : IsOfAllRows (scan_of asked) reader = of_all_rows asked reader readable.plain is in
    let sound : IsReader (reader_data reader) = subst (λ (r : ReaderData). IsReader r) (sym is) (record { good = good; known = some; readable = readable.nodes }) in
    let answer : IsAnswer (file_leaves file asked.locations) (scan_of asked).projection (range_with_len 0 (row_count (scan_of asked))) (joined columns.items) = read_answer reader rule (scan_of asked) limit columns before after file sound of given told in (
      joined columns.items,
      subst (λ (rows : List ℕ). IsAnswer (file_leaves file asked.locations) (scan_of asked).projection rows (joined columns.items)) (sym (all_scanned (scan_of asked) reader of)) answer,
      lines_are asked.projection.dtype columns.items (typed (reader_data reader) asked.projection before given.ends.1.0 columns.items given.ends.1.2),
    )

only_these : (asked : Asked) (reader : Reader) (before after : SourceState) → reader_data reader ≡ reader_of asked → ReadsOnly (reader_data reader) before after → ReadsOnly (reader_of asked) before after
only_these asked reader before after is only = subst (λ (r : ReaderData). ReadsOnly r before after) is only

pub rows_given : (limit : ℕ) (rule : SplitBy) (asked : Asked) (reader : Reader) (columns : Vec ColumnData) (before after : SourceState) → 0 < length asked.nodes → IsGoodTree asked.nodes → IsReadable asked → reader_data reader ≡ reader_of asked → ReadsRows limit rule (Ok columns) reader asked.projection before after → RowsGive limit asked (Ok columns) before after
rows_given limit rule asked reader columns before after some good readable is given =
    (readable, only_these asked reader before after is given.reads, read_text limit rule asked reader columns before after some good readable is given)

-- or how the run ends without them
pub rows_lost : (limit : ℕ) (rule : SplitBy) (asked : Asked) (reader : Reader) (ending : Ending) (error : ReadRowsError) (before after : SourceState) → (IsZeroSize rule → ⊥) → IsReadable asked → reader_data reader ≡ reader_of asked → ending ≡ read_ending error → ReadsRows limit rule (Err error) reader asked.projection before after → NoRows limit ending asked before after
rows_lost limit rule asked reader ending error before after sized readable is ends given = subst (λ (e : Ending). NoRows limit e asked before after) (sym ends) (by error given)
  where
    by : (error : ReadRowsError) → ReadsRows limit rule (Err error) reader asked.projection before after → NoRows limit (read_ending error) asked before after
    by (read.Reader error) given = (readable, only_these asked reader before after is given.reads, subst (λ (r : ReaderData). RowsFault r asked.projection error before after) is given.ends)
    by read.Stalled given = (readable, only_these asked reader before after is given.reads, given.ends)
    by read.ZeroSize given = absurd (sized given.ends)
    by read.Memory given = (readable, only_these asked reader before after is given.reads)
