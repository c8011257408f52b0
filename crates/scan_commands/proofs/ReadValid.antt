-- A read that is valid by the file has no cause to fail.
use Rattle.std.proofs.Common.{◌≡◌, ℕ, ◌+◌, ◌<◌, inl, inr, true, List, [], ◌∷◌, Option, Some, None, length, refl, ap, ◌∙◌, subst, arith}
use Rattle.std.specs.Prelude.{option_and_then, replicate, IfSome, IsSome, IsSomeAnd}
use Rattle.std.specs.List.{slice_get}
use Rattle.std.proofs.lemmas.List.{length-replicate}
use Rattle.std.proofs.lemmas.Option.{slice_get_within}
use Rattle.vx_base.specs.CodingsRead.{decoded_as}
use Rattle.vx_base.specs.Data.{Datum}
use Rattle.vx_base.specs.Sources.{SourceState, bytes_at}
use Rattle.vx_base.specs.declared.locations.SegmentLocation.{SegmentLocation}
use Rattle.vx_expr.specs.Meaning.{meaning}
use Rattle.vx_expr.specs.Rows.{no_bound}
use Rattle.vx_layout.specs.Kept.{all}
use Rattle.vx_layout.specs.Rows.{derivation, file_leaves, segment_bytes}
use Rattle.vx_layout.specs.Shape.{IsGoodTree}
use Rattle.vx_layout.specs.Trees.{Tree, head_of, subtree}
use Rattle.vx_layout.proofs.Ruled.{good_sound}
use Rattle.vx_lower.specs.Projected.{projected_at}
use Rattle.vx_rows.specs.Derivations.{LeafRow, Leaves, derived}
use Rattle.vx_rows.specs.Reads.{directly, reads_of, Found, a_leaf_row, a_code, a_list_row, Read, Finds, FindsOnly, IsIn, IsFine, IsPlaceAmong}
use Rattle.vx_rows.specs.SegmentLeaves.{Bytes, leaves_of}
use Rattle.vx_reads.specs.declared.errors.ReaderError.TheVariants as reader
use Rattle.vx_reads.specs.Computed.{IsBadCodeAt, IsTornIn, RangeFinds}
use Rattle.vx_reads.specs.Projected.{IsFaultAt}
use Rattle.vx_readers.specs.declared.reading.ReadRowsError.{ReadRowsError}
use Rattle.vx_readers.specs.declared.reading.ReadRowsError.TheVariants as read
use Rattle.vx_scan.specs.Plans.{IsQuiet}
use Rattle.vx_agreement.proofs.ReadAnswers.{worth_told}
use Rattle.scan_request.specs.RequestForms.{Asked}
use Rattle.scan_commands.specs.ReadRequests.{reader_of}
use Rattle.scan_commands.specs.ReadRuns.{rows_asked, IsValidRead}
use Rattle.scan_commands.specs.Reads.{ReadCause}
use Rattle.scan_commands.specs.Scans.{scan_of}
use Rattle.scan_commands.proofs.Reading.{no_numbers}

-- ---- no read of it is amiss

-- such a find is not fine
abbrev IsAmiss : Leaves → (Found → Type 0) → Type 0
IsAmiss leaves P = (found : Found) → P found → IsFine leaves found → ⊥

none_amiss : (leaves : Leaves) (P : Found → Type 0) → IsAmiss leaves P → (reads : List Read) → FindsOnly (IsFine leaves) reads → Finds P reads → ⊥
none_amiss leaves P amiss [] fine any = any
none_amiss leaves P amiss (read ∷ reads) fine (inl here) = amiss read.found here fine.0
none_amiss leaves P amiss (read ∷ reads) fine (inr later) = none_amiss leaves P amiss reads fine.1 later

rows_fine : (leaves : Leaves) (P : Found → Type 0) → IsAmiss leaves P → (t : Tree) (count : ℕ) → ((row : ℕ) → row < count → FindsOnly (IsFine leaves) (reads_of directly (derivation t all row))) → RangeFinds P (derivation t all) 0 count → ⊥
rows_fine leaves P amiss t count fine (place, inside, finds) = none_amiss leaves P amiss (reads_of directly (derivation t all (0 + place))) (fine (0 + place) (omega (arith, inside))) finds

no_value : (o : Option (List Datum)) → o ≡ None → IsSome o → ⊥
no_value o none fine = let some : IsSome {T = List Datum} None = subst IsSome none fine in cc

torn_leaf : (at : LeafRow) (found : Option (List ℕ)) → IsSomeAnd found (λ them. decoded_as at.coding at.dtype at.rows them ≡ None) → IsSome (option_and_then (decoded_as at.coding at.dtype at.rows) found) → ⊥
torn_leaf at None torn fine = torn
torn_leaf at (Some them) torn fine = no_value (decoded_as at.coding at.dtype at.rows them) torn fine

torn_amiss : (bytes : Bytes) (segment : ℕ) → IsAmiss (leaves_of bytes) (IsTornIn bytes segment)
torn_amiss bytes segment (a_leaf_row at) torn fine = torn_leaf at (bytes at.segment) torn.1 fine
torn_amiss bytes segment (a_code at) torn fine = torn.0
torn_amiss bytes segment (a_list_row list row) torn fine = torn.0

bad_code : (count : ℕ) (code : Option Datum) → IsSomeAnd code (λ v. ¬ (IsPlaceAmong count v)) → IfSome code (IsPlaceAmong count) → ⊥
bad_code count None bad fine = bad
bad_code count (Some v) bad fine = bad fine

code_amiss : (bytes : Bytes) (dictionary row : ℕ) → IsAmiss (leaves_of bytes) (IsBadCodeAt bytes dictionary row)
code_amiss bytes dictionary row (a_leaf_row at) bad fine = bad.0
code_amiss bytes dictionary row (a_code at) bad fine = bad_code at.count (derived (leaves_of bytes) at.code) bad.1 fine
code_amiss bytes dictionary row (a_list_row list at) bad fine = bad.0

unplaced_amiss : (file : List ℕ) (locations : List SegmentLocation) (segment : ℕ) → slice_get locations segment ≡ None → IsAmiss (file_leaves file locations) (IsIn segment)
unplaced_amiss file locations segment none (a_leaf_row at) is fine =
    let place : slice_get locations at.segment ≡ None = ap (slice_get locations) is ∙ none in
    let gone : file_leaves file locations at.dtype at.coding at.rows at.segment ≡ None = ap (λ (place : Option SegmentLocation). option_and_then (decoded_as at.coding at.dtype at.rows) (option_and_then (bytes_at file) place)) place in
    no_value (file_leaves file locations at.dtype at.coding at.rows at.segment) gone fine
unplaced_amiss file locations segment none (a_code at) is fine = is
unplaced_amiss file locations segment none (a_list_row list row) is fine = is

-- ---- no row is a fault

no_worth : (o : Option Datum) → o ≡ None → IsSome o → ⊥
no_worth o none some = let known : IsSome {T = Datum} None = subst IsSome none some in cc

-- the row has a value, over which the expression is a fault: it is none of a valid read
fault_not : (asked : Asked) (file : List ℕ) (row : ℕ) → IsGoodTree asked.nodes → IsValidRead file asked → row < rows_asked asked
    → IsFaultAt (segment_bytes file asked.locations) (derivation (subtree asked.nodes 0) all) (head_of (subtree asked.nodes 0)).dtype asked.projection.term row → ⊥
fault_not asked file row good valid inside fault = by (derived (file_leaves file asked.locations) (derivation (subtree asked.nodes 0) all row)) refl fault
  where
    by : (o : Option Datum) → derived (file_leaves file asked.locations) (derivation (subtree asked.nodes 0) all row) ≡ o → IsSomeAnd o (λ v. meaning (head_of (subtree asked.nodes 0)).dtype no_bound asked.projection.term v 0 ≡ None) → ⊥
    by None here fault = fault
    by (Some v) here fault =
        let worth = worth_told (reader_of asked) (scan_of asked).projection file row v (good_sound asked.nodes good 0 good.nonempty) refl (no_numbers asked valid.readable.plain) here in
        no_worth (projected_at (file_leaves file asked.locations) (scan_of asked).projection row) (worth ∙ fault) (valid.answered row inside)

-- ---- no cause but want of memory

-- a cause in all rows, of which each is selected
in_rows : (P : ℕ → Type 0) (count : ℕ) → P (length (replicate count true)) → P count
in_rows P count is = subst P (length-replicate count true) is

pub read_invalid : (limit : ℕ) (asked : Asked) (file : List ℕ) (error : ReadRowsError) (before after : SourceState) → before.file ≡ Some file → IsGoodTree asked.nodes → IsValidRead file asked → IsQuiet limit before after → ReadCause limit asked error before after → ⊥
read_invalid limit asked file (read.Reader reader.ReadFault) before after told good valid quiet cause = quiet.faults cause
read_invalid limit asked file (read.Reader (reader.NoLocation segment)) before after told good valid quiet cause =
    rows_fine (file_leaves file asked.locations) (IsIn segment) (unplaced_amiss file asked.locations segment cause.1) (subtree asked.nodes 0) (rows_asked asked) valid.fine cause.0
read_invalid limit asked file (read.Reader (reader.BadSegment segment)) before after told good valid quiet cause =
    let bytes : Bytes = segment_bytes file asked.locations in
    rows_fine (leaves_of bytes) (IsTornIn bytes segment) (torn_amiss bytes segment) (subtree asked.nodes 0) (rows_asked asked) valid.fine
    (in_rows (λ (count : ℕ). RangeFinds (IsTornIn bytes segment) (derivation (subtree asked.nodes 0) all) 0 count) (rows_asked asked) (cause file told))
read_invalid limit asked file (read.Reader (reader.BadCode node row)) before after told good valid quiet cause =
    let bytes : Bytes = segment_bytes file asked.locations in
    rows_fine (leaves_of bytes) (IsBadCodeAt bytes node row) (code_amiss bytes node row) (subtree asked.nodes 0) (rows_asked asked) valid.fine
    (in_rows (λ (count : ℕ). RangeFinds (IsBadCodeAt bytes node row) (derivation (subtree asked.nodes 0) all) 0 count) (rows_asked asked) (cause file told))
read_invalid limit asked file (read.Reader (reader.EvalFault row)) before after told good valid quiet cause =
    let fault = cause file told in
    let inside : fault.0 < rows_asked asked = in_rows (λ (count : ℕ). fault.0 < count) (rows_asked asked) (slice_get_within (replicate (rows_asked asked) true) fault.0 true fault.1) in
    let place : fault.0 ≡ row = omega (arith, fault.2) in
    fault_not asked file row good valid (subst (λ (k : ℕ). k < rows_asked asked) place inside) fault.3
read_invalid limit asked file (read.Reader reader.Memory) before after told good valid quiet cause = cause
read_invalid limit asked file read.Stalled before after told good valid quiet cause = quiet.idle cause
read_invalid limit asked file read.ZeroSize before after told good valid quiet cause = cause
read_invalid limit asked file read.Memory before after told good valid quiet cause = cause
