-- The summary of the demo file of a number: how many rows there are, how many batches a scan of all of them gives, and
-- what is counted over the rows.
use Rattle.std.specs.Prelude.{ℕ, true, codes, List, [], ◌∷◌, ◌++◌, length, count_by}
use Rattle.std.specs.Fmt.{decimal}
use Rattle.std.specs.List.{flat_map, range_with_len, sum_by}
use Rattle.vx_base.specs.Columns.{ColumnData}
use Rattle.vx_scan.specs.Answer.{pieces_of}
use Rattle.vx_splits.specs.Chunks.{chunk_size}
use Rattle.scan_demo.specs.DemoBytes.{demo_locations}
use Rattle.scan_demo.specs.DemoRows.{id_of, lacks_name, is_flagged}
use Rattle.scan_demo.specs.Totals.{totals_of}

-- a label, a number and a newline
abbrev pub line : List ℕ → ℕ → List ℕ
line label number = label ++ (decimal number ++ 10 ∷ [])

abbrev pub summary_text : ℕ → ℕ → ℕ → ℕ → ℕ → List ℕ
summary_text rows batches id_sum name_nulls flag_true =
    line (codes "rows=") rows ++ (line (codes "batches=") batches ++ (line (codes "id_sum=") id_sum
    ++ (line (codes "name_nulls=") name_nulls ++ line (codes "flag_true=") flag_true)))

-- the text of batches, whatever they hold
abbrev pub batches_text : ℕ → List ColumnData → List ℕ
batches_text rows batches =
    let totals = totals_of (flat_map (λ batch. batch.values) batches) in
    summary_text rows (length batches) totals.id_sum totals.name_nulls totals.flag_true

-- the rows by chunk, where all of them are scanned for the bare root
abbrev pub demo_pieces : ℕ → List (List ℕ)
demo_pieces number = pieces_of (chunk_size true number (demo_locations number)) (range_with_len 0 number)

abbrev pub summary : ℕ → List ℕ
summary number =
    summary_text number (length (demo_pieces number)) (sum_by (id_of number) (range_with_len 0 number))
    (count_by lacks_name (range_with_len 0 number)) (count_by is_flagged (range_with_len 0 number))
