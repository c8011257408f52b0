-- A valid scan has no cause to fail.
use Rattle.std.proofs.Common.{◌≡◌, ℕ, zero, suc, ◌+◌, ◌<◌, ◌≤◌, inl, inr, Bool, List, [], ◌∷◌, ◌++◌, Option, Some, None, length, refl, sym, ap, ◌∙◌, subst, arith}
use Rattle.std.specs.Prelude.{IfSome, IsSome, IsSomeAnd, nat_lt, option_and_then}
use Rattle.std.specs.List.{slice_get, flat_map, AllByRecursion}
use Rattle.vx_base.specs.Data.{Datum}
use Rattle.vx_base.specs.CodingsRead.{decoded_as}
use Rattle.vx_base.specs.Sources.{SourceState, bytes_at}
use Rattle.vx_base.specs.declared.locations.SegmentLocation.{SegmentLocation}
use Rattle.vx_expr.specs.Meaning.{meaning}
use Rattle.vx_expr.specs.Rows.{no_bound}
use Rattle.vx_claims.specs.Apart.{times_over}
use Rattle.vx_layout.specs.Rows.{file_leaves, segment_bytes}
use Rattle.vx_layout.specs.Trees.{head_of}
use Rattle.vx_lower.specs.Projected.{Projection, root_value, projected_at, scan_reads}
use Rattle.vx_plan.specs.Refs.{number_of}
use Rattle.vx_rows.specs.Derivations.{LeafRow, Leaves, derived}
use Rattle.vx_rows.specs.Reads.{Found, a_leaf_row, a_code, a_list_row, Read, IsAmong, Finds, FindsOnly, IsIn, IsFine, IsPlaceAmong}
use Rattle.vx_rows.specs.SegmentLeaves.{Bytes, leaves_of}
use Rattle.vx_steps.specs.Laws.{IsRowOf, IsBadCodeAt}
use Rattle.vx_steps.specs.ScanLaws.{IsTornIn}
use Rattle.vx_drive.specs.declared.errors.ScanError.{ScanError}
use Rattle.vx_drive.specs.declared.errors.ScanError.TheVariants.{BadProjection, OffsetOverflow, OutOfRange, Unsupported, NoLocation, ReadFault, Stalled, BadSegment, BadCode, EvalFault, Memory}
use Rattle.vx_drive.specs.Asks.{Lasts}
use Rattle.vx_drive.specs.Plans.{WhereTold, IsQuiet}
use Rattle.vx_drive.proofs.Lasting.{rose_from, rose_on}
use Rattle.vx_chunks.specs.Lent.{EachSource, EachSourceBy, FirstSource, SomeSourceBy, AllTell, WhereAllTell}
use Rattle.vx_chunks.proofs.LentSources.{each_lasts, first_there, none_by}
use Rattle.vx_scan.specs.Answer.{FileScan, scan_rows, scan_pieces, size_of}
use Rattle.vx_scan.specs.Admission.{Refuses}
use Rattle.vx_scan.specs.Causes.{ScanFinds, ReadsTorn, IsFaultAt, FaultsAt}
use Rattle.vx_scan.specs.FilePlans.{node_of}
use Rattle.vx_scan.specs.Scanned.{CausedIn, FailsPiece, FailsPieceAgain, FailsPieceOn, FileClaims, LowestCause, ReadsBadCodePlan, RunsAgain, RunsPieces}
use Rattle.vx_scan.specs.Valid.{IsValidScan}
use Rattle.vx_scan.proofs.Answered.{pieces_join, fault_by}

-- ---- no read of it is amiss

-- such a find is not fine
abbrev IsAmiss : Leaves → (Found → Type 0) → Type 0
IsAmiss leaves P = (found : Found) → P found → IsFine leaves found → ⊥

none_amiss : (leaves : Leaves) (P : Found → Type 0) → IsAmiss leaves P → (reads : List Read) → FindsOnly (IsFine leaves) reads → Finds P reads → ⊥
none_amiss leaves P amiss [] fine any = any
none_amiss leaves P amiss (read ∷ reads) fine (inl here) = amiss read.found here fine.0
none_amiss leaves P amiss (read ∷ reads) fine (inr later) = none_amiss leaves P amiss reads fine.1 later

rows_fine : (leaves : Leaves) (p : Projection) (P : Found → Type 0) → IsAmiss leaves P → (rows : List ℕ) → AllByRecursion (λ row. FindsOnly (IsFine leaves) (scan_reads p row)) rows → ScanFinds P p rows → ⊥
rows_fine leaves p P amiss [] fine any = any
rows_fine leaves p P amiss (row ∷ rows) fine (inl here) = none_amiss leaves P amiss (scan_reads p row) fine.0 here
rows_fine leaves p P amiss (row ∷ rows) fine (inr later) = rows_fine leaves p P amiss rows fine.1 later

row_amiss : (leaves : Leaves) (number : ℕ) → IsAmiss leaves (IsRowOf number)
row_amiss leaves number (a_leaf_row at) is fine = is
row_amiss leaves number (a_code at) is fine = is
row_amiss leaves number (a_list_row list row) is fine = fine

torn_leaf : (bytes : Bytes) (at : LeafRow) (found : Option (List ℕ)) → bytes at.segment ≡ found → IsSomeAnd found (λ them. decoded_as at.coding at.dtype at.rows them ≡ None) → IsSome (option_and_then (decoded_as at.coding at.dtype at.rows) found) → ⊥
torn_leaf bytes at None is torn fine = torn
torn_leaf bytes at (Some them) is torn fine = let p : decoded_as at.coding at.dtype at.rows them ≡ None = torn in let q : IsSome {T = List Datum} None = subst IsSome p fine in cc

torn_amiss : (bytes : Bytes) (segment : ℕ) → IsAmiss (leaves_of bytes) (IsTornIn bytes segment)
torn_amiss bytes segment (a_leaf_row at) is fine = torn_leaf bytes at (bytes at.segment) refl is.1 fine
torn_amiss bytes segment (a_code at) is fine = is
torn_amiss bytes segment (a_list_row list row) is fine = is

bad_code : (count : ℕ) (v : Option Datum) → IsSomeAnd v (λ code. ¬ (IsPlaceAmong count code)) → IfSome v (IsPlaceAmong count) → ⊥
bad_code count None bad fine = bad
bad_code count (Some v) bad fine = bad fine

code_amiss : (leaves : Leaves) (number at : ℕ) → IsAmiss leaves (IsBadCodeAt leaves number at)
code_amiss leaves number at (a_leaf_row one) is fine = is
code_amiss leaves number at (a_code one) is fine = bad_code one.count (derived leaves one.code) is.2 fine
code_amiss leaves number at (a_list_row list row) is fine = is

no_place : (locations : List SegmentLocation) (segment : ℕ) → ¬ (segment < length locations) → slice_get locations segment ≡ None
no_place [] segment past = refl
no_place (at ∷ locations) zero past = absurd (past (omega arith))
no_place (at ∷ locations) (suc segment) past = no_place locations segment (λ below. past (omega (arith, below)))

no_bytes : (file : List ℕ) (locations : List SegmentLocation) (segment : ℕ) → ¬ (segment < length locations) → segment_bytes file locations segment ≡ None
no_bytes file locations segment past = ap (option_and_then (bytes_at file)) (no_place locations segment past)

unplaced_amiss : (file : List ℕ) (locations : List SegmentLocation) (segment : ℕ) → ¬ (segment < length locations) → IsAmiss (file_leaves file locations) (IsIn segment)
unplaced_amiss file locations segment past (a_leaf_row at) is fine =
    let none : segment_bytes file locations at.segment ≡ None = ap (segment_bytes file locations) is ∙ no_bytes file locations segment past in
    let gone : file_leaves file locations at.dtype at.coding at.rows at.segment ≡ None = ap (option_and_then (decoded_as at.coding at.dtype at.rows)) none in
    let some : IsSome {T = List Datum} None = subst IsSome gone fine in
    cc
unplaced_amiss file locations segment past (a_code at) is fine = is
unplaced_amiss file locations segment past (a_list_row list row) is fine = is

-- ---- no row is a fault

answered_at : (leaves : Leaves) (p : Projection) (at : ℕ) (rows : List ℕ) → AllByRecursion (λ row. IsSome (projected_at leaves p row)) rows → IsAmong at rows → IsFaultAt leaves p at → ⊥
answered_at leaves p at [] answered among fault = among
answered_at leaves p at (row ∷ rows) answered (inl here) fault =
    let gone : projected_at leaves p at ≡ None = fault_by (λ v. meaning (head_of p.root).dtype no_bound p.expression.term v (p.offset + at)) (root_value leaves p at) fault in
    let some : IsSome {T = Datum} None = subst IsSome gone (subst (λ (r : ℕ). IsSome (projected_at leaves p r)) here answered.0) in
    cc
answered_at leaves p at (row ∷ rows) answered (inr later) fault = answered_at leaves p at rows answered.1 later fault

-- ---- the rows of a piece are rows of the scan

all_front : (P : ℕ → Type 0) (ones twos : List ℕ) → AllByRecursion P (ones ++ twos) → AllByRecursion P ones
all_front P [] twos each = tt
all_front P (one ∷ ones) twos each = (each.0, all_front P ones twos each.1)

all_back : (P : ℕ → Type 0) (ones twos : List ℕ) → AllByRecursion P (ones ++ twos) → AllByRecursion P twos
all_back P [] twos each = each
all_back P (one ∷ ones) twos each = all_back P ones twos each.1

all_in_piece : (P : ℕ → Type 0) (pieces : List (List ℕ)) (place : ℕ) (rows : List ℕ) → slice_get pieces place ≡ Some rows → AllByRecursion P (flat_map (λ piece. piece) pieces) → AllByRecursion P rows
all_in_piece P [] place rows at each = absurd cc
all_in_piece P (piece ∷ pieces) zero rows at each = let e : piece ≡ rows = cc in subst (AllByRecursion P) e (all_front P piece (flat_map (λ piece. piece) pieces) each)
all_in_piece P (piece ∷ pieces) (suc place) rows at each = all_in_piece P pieces place rows at (all_back P piece (flat_map (λ piece. piece) pieces) each)

of_piece : (P : ℕ → Type 0) (scan : FileScan) (place : ℕ) (rows : List ℕ) → slice_get (scan_pieces scan) place ≡ Some rows → AllByRecursion P (scan_rows scan) → AllByRecursion P rows
of_piece P scan place rows at each = all_in_piece P (scan_pieces scan) place rows at (subst (AllByRecursion P) (sym (pieces_join (size_of scan) (scan_rows scan))) each)

-- ---- no cause but want of memory

only_memory : (Told : FileClaims) (file : List ℕ) → ((P : List ℕ → Type 0) → Told P → P file) → (scan : FileScan) (limit : ℕ) (before after : SourceState) → IsQuiet limit before after → (rows : List ℕ)
    → AllByRecursion (λ row. FindsOnly (IsFine (file_leaves file scan.locations)) (scan_reads scan.projection row)) rows → AllByRecursion (λ row. IsSome (projected_at (file_leaves file scan.locations) scan.projection row)) rows
    → (error : ScanError) → CausedIn Told scan limit rows error before after → error ≡ Memory
only_memory Told file tells scan limit before after quiet rows fine answered BadProjection cause = absurd cause
only_memory Told file tells scan limit before after quiet rows fine answered OffsetOverflow cause = absurd cause
only_memory Told file tells scan limit before after quiet rows fine answered OutOfRange cause = absurd cause
only_memory Told file tells scan limit before after quiet rows fine answered (Unsupported list) cause =
    absurd (rows_fine (file_leaves file scan.locations) scan.projection (IsRowOf (node_of scan.projection (number_of list))) (row_amiss (file_leaves file scan.locations) (node_of scan.projection (number_of list))) rows fine cause.1)
only_memory Told file tells scan limit before after quiet rows fine answered (NoLocation segment) cause =
    absurd (rows_fine (file_leaves file scan.locations) scan.projection (IsIn segment) (unplaced_amiss file scan.locations segment cause.1) rows fine cause.0)
only_memory Told file tells scan limit before after quiet rows fine answered ReadFault cause = absurd (quiet.faults cause)
only_memory Told file tells scan limit before after quiet rows fine answered Stalled cause = absurd (quiet.idle cause)
only_memory Told file tells scan limit before after quiet rows fine answered (BadSegment segment) cause =
    absurd (rows_fine (file_leaves file scan.locations) scan.projection (IsTornIn (segment_bytes file scan.locations) segment) (torn_amiss (segment_bytes file scan.locations) segment) rows fine
    (tells (λ one. ReadsTorn (segment_bytes one scan.locations) scan.projection rows segment) cause))
only_memory Told file tells scan limit before after quiet rows fine answered (BadCode code_take row) cause =
    absurd (rows_fine (file_leaves file scan.locations) scan.projection (IsBadCodeAt (file_leaves file scan.locations) (node_of scan.projection (number_of code_take)) row) (code_amiss (file_leaves file scan.locations) (node_of scan.projection (number_of code_take)) row) rows fine
    (tells (λ one. ReadsBadCodePlan (file_leaves one scan.locations) scan.projection rows (number_of code_take) row) cause).1)
only_memory Told file tells scan limit before after quiet rows fine answered (EvalFault at) cause =
    let fault : FaultsAt (file_leaves file scan.locations) scan.projection rows at = tells (λ one. FaultsAt (file_leaves one scan.locations) scan.projection rows at) cause in
    absurd (answered_at (file_leaves file scan.locations) scan.projection at rows answered fault.0 fault.1)
only_memory Told file tells scan limit before after quiet rows fine answered Memory cause = refl

-- ---- what is quiet over two runs is quiet over each

quiet_front : (limit : ℕ) (before now after : SourceState) → Lasts now after → IsQuiet limit before after → IsQuiet limit before now
quiet_front limit before now after lasts quiet = record { faults = λ rose. quiet.faults (rose_on 1 before.faults now.faults after.faults rose lasts.faults); idle = λ rose. quiet.idle (rose_on limit before.idle now.idle after.idle rose lasts.idle) }

quiet_back : (limit : ℕ) (before now after : SourceState) → Lasts before now → IsQuiet limit before after → IsQuiet limit now after
quiet_back limit before now after lasts quiet = record { faults = λ rose. quiet.faults (rose_from 1 before.faults now.faults after.faults lasts.faults rose); idle = λ rose. quiet.idle (rose_from limit before.idle now.idle after.idle lasts.idle rose) }

-- the first source went on, and the others are as they were
pub all_last : (scan : FileScan) (reruns : List ℕ) (error : ScanError) (middles afters : List SourceState) → FirstSource (RunsAgain scan reruns error) middles afters → EachSource Lasts middles afters
all_last scan reruns error [] [] first = tt
all_last scan reruns error [] (after ∷ afters) first = absurd first
all_last scan reruns error (now ∷ middles) [] first = absurd first
all_last scan reruns error (now ∷ middles) (after ∷ afters) first = (first.0.lasts, subst (EachSource Lasts middles) (sym first.1) (each_lasts middles))

-- ---- the piece that failed

module _ (scan : FileScan) (limit place : ℕ) (rows : List ℕ) (error : ScanError) (file : List ℕ) (fine : AllByRecursion (λ row. FindsOnly (IsFine (file_leaves file scan.locations)) (scan_reads scan.projection row)) rows)
    (answered : AllByRecursion (λ row. IsSome (projected_at (file_leaves file scan.locations) scan.projection row)) rows) where
  -- at the last of a worker
  last_memory : (claims : List (List ℕ)) (befores middles afters : List SourceState) → SomeSourceBy (FailsPiece scan limit place rows error) claims befores middles → EachSource Lasts middles afters → AllTell file befores → EachSource (IsQuiet limit) befores afters → error ≡ Memory
  last_memory [] befores middles afters fails last told quiet = absurd fails
  last_memory (numbers ∷ claims) [] middles afters fails last told quiet = absurd fails
  last_memory (numbers ∷ claims) (before ∷ befores) [] afters fails last told quiet = absurd fails
  last_memory (numbers ∷ claims) (before ∷ befores) (now ∷ middles) [] fails last told quiet = absurd last
  last_memory (numbers ∷ claims) (before ∷ befores) (now ∷ middles) (after ∷ afters) (inl fails) last told quiet =
      only_memory (WhereTold before) file (λ P all. all file told.0) scan limit before now (quiet_front limit before now after last.0 quiet.0) rows fine answered error fails.cause
  last_memory (numbers ∷ claims) (before ∷ befores) (now ∷ middles) (after ∷ afters) (inr fails) last told quiet = last_memory claims befores middles afters fails last.1 told.1 quiet.1

  -- on the first source, once all workers were done
  again_memory : (shares : Bool) (sources : List SourceState) → AllTell file sources → (claims : List (List ℕ)) (befores middles afters : List SourceState) → 1 ≤ times_over place claims → EachSourceBy (RunsPieces shares scan) claims befores middles
      → FirstSource (FailsPieceAgain scan limit rows error sources) middles afters → EachSource (IsQuiet limit) befores afters → error ≡ Memory
  again_memory shares sources told [] befores middles afters claimed ran fails quiet = absurd (omega (arith, claimed))
  again_memory shares sources told (numbers ∷ claims) [] middles afters claimed ran fails quiet = absurd ran
  again_memory shares sources told (numbers ∷ claims) (before ∷ befores) [] afters claimed ran fails quiet = absurd ran
  again_memory shares sources told (numbers ∷ claims) (before ∷ befores) (now ∷ middles) [] claimed ran fails quiet = absurd fails
  again_memory shares sources told (numbers ∷ claims) (before ∷ befores) (now ∷ middles) (after ∷ afters) claimed ran fails quiet =
      only_memory (WhereAllTell sources) file (λ P all. all file told) scan limit now after (quiet_back limit before now after ran.0.lasts quiet.0) rows fine answered error fails.0.cause

pub valid_memory : (scan : FileScan) (limit : ℕ) (error : ScanError) (befores afters : List SourceState) → LowestCause scan limit error befores afters → (file : List ℕ) → AllTell file befores → IsValidScan (file_leaves file scan.locations) scan → EachSource (IsQuiet limit) befores afters → error ≡ Memory
valid_memory scan limit error befores afters lowest file told valid quiet = by_cause lowest.cause
  where
    fine : AllByRecursion (λ row. FindsOnly (IsFine (file_leaves file scan.locations)) (scan_reads scan.projection row)) lowest.rows
    fine = of_piece (λ row. FindsOnly (IsFine (file_leaves file scan.locations)) (scan_reads scan.projection row)) scan lowest.place lowest.rows lowest.here valid.fine

    answered : AllByRecursion (λ row. IsSome (projected_at (file_leaves file scan.locations) scan.projection row)) lowest.rows
    answered = of_piece (λ row. IsSome (projected_at (file_leaves file scan.locations) scan.projection row)) scan lowest.place lowest.rows lowest.here valid.answered

    by_cause : FailsPieceOn scan limit lowest.place lowest.rows error lowest.claims befores lowest.middles afters → error ≡ Memory
    by_cause (inl fails) = last_memory scan limit lowest.place lowest.rows error file fine answered lowest.claims befores lowest.middles afters fails (all_last scan lowest.reruns error lowest.middles afters lowest.gained.again) told quiet
    by_cause (inr fails) = again_memory scan limit lowest.place lowest.rows error file fine answered (nat_lt 1 (length befores)) befores told lowest.claims befores lowest.middles afters fails.1 lowest.gained.ran fails.2 quiet

-- what is no cause is none of the lowest piece
pub no_lowest : (scan : FileScan) (limit : ℕ) (error : ScanError) (befores afters : List SourceState) → ((Told : FileClaims) (rows : List ℕ) (before after : SourceState) → CausedIn Told scan limit rows error before after → ⊥) → LowestCause scan limit error befores afters → ⊥
no_lowest scan limit error befores afters never lowest = by_cause lowest.cause
  where
    by_cause : FailsPieceOn scan limit lowest.place lowest.rows error lowest.claims befores lowest.middles afters → ⊥
    by_cause (inl fails) = none_by (FailsPiece scan limit lowest.place lowest.rows error) (λ numbers before after fails. never (WhereTold before) lowest.rows before after fails.cause) lowest.claims befores lowest.middles fails
    by_cause (inr fails) =
        let first = first_there (RunsPieces (nat_lt 1 (length befores)) scan) (FailsPieceAgain scan limit lowest.rows error befores) lowest.place lowest.claims befores lowest.middles afters fails.1 lowest.gained.ran fails.2 in
        never (WhereAllTell befores) lowest.rows first.0 first.1 first.2.cause

-- ---- it is not refused

pub valid_begins : (leaves : Leaves) (scan : FileScan) (error : ScanError) → IsValidScan leaves scan → Refuses scan error → ⊥
valid_begins leaves scan BadProjection valid refuses = refuses valid.bound
valid_begins leaves scan OffsetOverflow valid refuses = let below = valid.numbered refuses.1.0 refuses.0.some in let past = refuses.1.1 in omega (arith, below, past)
valid_begins leaves scan OutOfRange valid refuses = refuses.2 valid.inside
valid_begins leaves scan (Unsupported list) valid refuses = refuses
valid_begins leaves scan (NoLocation segment) valid refuses = refuses
valid_begins leaves scan ReadFault valid refuses = refuses
valid_begins leaves scan Stalled valid refuses = refuses
valid_begins leaves scan (BadSegment segment) valid refuses = refuses
valid_begins leaves scan (BadCode node row) valid refuses = refuses
valid_begins leaves scan (EvalFault row) valid refuses = refuses
valid_begins leaves scan Memory valid refuses = refuses
