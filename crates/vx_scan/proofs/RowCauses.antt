-- Each error of a scan has its plain cause.
use Rattle.std.proofs.Common.{◌≡◌, ℕ, zero, suc, ◌≤◌, ◌⊎◌, inl, inr, Bool, List, [], ◌∷◌, ◌++◌, Some, Ok, Err, length, sym, subst, arith}
use Rattle.std.specs.Prelude.{nat_lt}
use Rattle.std.specs.List.{slice_get, flat_map}
use Rattle.vx_base.specs.Sources.{SourceState, Rose, RoseBy}
use Rattle.vx_claims.specs.Apart.{times_over}
use Rattle.vx_layout.specs.Rows.{file_leaves, segment_bytes}
use Rattle.vx_lower.specs.Projected.{scan_reads}
use Rattle.vx_plan.specs.Refs.{number_of}
use Rattle.vx_rows.specs.Reads.{AnyOf, Finds, IsIn}
use Rattle.vx_steps.specs.Laws.{IsRowOf, IsBadCodeAt}
use Rattle.vx_steps.specs.ScanLaws.{IsTornIn}
use Rattle.vx_drive.specs.declared.errors.ScanError.{ScanError}
use Rattle.vx_drive.specs.declared.errors.ScanError.TheVariants.{BadProjection, OffsetOverflow, OutOfRange, Unsupported, NoLocation, ReadFault, Stalled, BadSegment, BadCode, EvalFault, Memory}
use Rattle.vx_drive.specs.Asks.{Lasts}
use Rattle.vx_drive.specs.Plans.{WhereTold}
use Rattle.vx_drive.proofs.Lasting.{rose_from, rose_on}
use Rattle.vx_chunks.specs.Lent.{EachSource, EachSourceBy, FirstSource, SomeSource, SomeSourceBy, AllTell, WhereAllTell}
use Rattle.vx_scan.specs.Answer.{FileScan, scan_rows, scan_pieces, size_of}
use Rattle.vx_scan.specs.Admission.{Refuses}
use Rattle.vx_scan.specs.Causes.{ReadsTorn, FaultsAt}
use Rattle.vx_scan.specs.PlainCauses.{PlainCause, ErrorsHavePlainCauses}
use Rattle.vx_scan.specs.FilePlans.{node_of}
use Rattle.vx_scan.specs.Scanned.{CausedIn, FailsPiece, FailsPieceAgain, FailsPieceOn, FileClaims, LowestCause, ReadsBadCodePlan, RunsPieces}
use Rattle.vx_scan.proofs.Answered.{pieces_join}
use Rattle.vx_scan.proofs.ScanValid.{all_last}

-- ---- the rows of a piece are rows of the scan

any_front : (P : ℕ → Type 0) (ones twos : List ℕ) → AnyOf P ones → AnyOf P (ones ++ twos)
any_front P [] twos any = absurd any
any_front P (one ∷ ones) twos (inl here) = inl here
any_front P (one ∷ ones) twos (inr later) = inr (any_front P ones twos later)

any_back : (P : ℕ → Type 0) (ones twos : List ℕ) → AnyOf P twos → AnyOf P (ones ++ twos)
any_back P [] twos any = any
any_back P (one ∷ ones) twos any = inr (any_back P ones twos any)

any_in_piece : (P : ℕ → Type 0) (pieces : List (List ℕ)) (place : ℕ) (rows : List ℕ) → slice_get pieces place ≡ Some rows → AnyOf P rows → AnyOf P (flat_map (λ piece. piece) pieces)
any_in_piece P [] place rows at any = absurd cc
any_in_piece P (piece ∷ pieces) zero rows at any = let e : piece ≡ rows = cc in any_front P piece (flat_map (λ piece. piece) pieces) (subst (AnyOf P) (sym e) any)
any_in_piece P (piece ∷ pieces) (suc place) rows at any = any_back P piece (flat_map (λ piece. piece) pieces) (any_in_piece P pieces place rows at any)

of_piece : (P : ℕ → Type 0) (scan : FileScan) (place : ℕ) (rows : List ℕ) → slice_get (scan_pieces scan) place ≡ Some rows → AnyOf P rows → AnyOf P (scan_rows scan)
of_piece P scan place rows at any = subst (AnyOf P) (pieces_join (size_of scan) (scan_rows scan)) (any_in_piece P (scan_pieces scan) place rows at any)

-- ---- the cause of a piece

abbrev FaultsRise : List SourceState → List SourceState → Type 0
FaultsRise befores afters = SomeSource (λ before after. Rose before.faults after.faults) befores afters

abbrev IdleRises : ℕ → List SourceState → List SourceState → Type 0
IdleRises limit befores afters = SomeSource (λ before after. RoseBy limit before.idle after.idle) befores afters

module _ (scan : FileScan) (limit place : ℕ) (rows : List ℕ) (here : slice_get (scan_pieces scan) place ≡ Some rows) (sources ends : List SourceState) where
  plain_of : (Told : FileClaims) → ((P : List ℕ → Type 0) → Told P → WhereAllTell sources P) → (error : ScanError) (before after : SourceState) → (Rose before.faults after.faults → FaultsRise sources ends) → (RoseBy limit before.idle after.idle → IdleRises limit sources ends)
      → CausedIn Told scan limit rows error before after → PlainCause scan limit error sources ends
  plain_of Told all BadProjection before after faults idle cause = absurd cause
  plain_of Told all OffsetOverflow before after faults idle cause = absurd cause
  plain_of Told all OutOfRange before after faults idle cause = absurd cause
  plain_of Told all (Unsupported list) before after faults idle cause =
      (cause.0, of_piece (λ row. Finds (IsRowOf (node_of scan.projection (number_of list))) (scan_reads scan.projection row)) scan place rows here cause.1)
  plain_of Told all (NoLocation segment) before after faults idle cause =
      (of_piece (λ row. Finds (IsIn segment) (scan_reads scan.projection row)) scan place rows here cause.0, cause.1)
  plain_of Told all ReadFault before after faults idle cause = faults cause
  plain_of Told all Stalled before after faults idle cause = idle cause
  plain_of Told all (BadSegment segment) before after faults idle cause =
      let claim : WhereAllTell sources (λ file. ReadsTorn (segment_bytes file scan.locations) scan.projection rows segment) =
      all (λ file. ReadsTorn (segment_bytes file scan.locations) scan.projection rows segment) cause in
      λ file told. of_piece (λ row. Finds (IsTornIn (segment_bytes file scan.locations) segment) (scan_reads scan.projection row)) scan place rows here (claim file told)
  plain_of Told all (BadCode code_take at) before after faults idle cause =
      let claim : WhereAllTell sources (λ file. ReadsBadCodePlan (file_leaves file scan.locations) scan.projection rows (number_of code_take) at) =
      all (λ file. ReadsBadCodePlan (file_leaves file scan.locations) scan.projection rows (number_of code_take) at) cause in
      λ file told.
      let one : ReadsBadCodePlan (file_leaves file scan.locations) scan.projection rows (number_of code_take) at = claim file told in
      (one.0, of_piece (λ row. Finds (IsBadCodeAt (file_leaves file scan.locations) (node_of scan.projection (number_of code_take)) at) (scan_reads scan.projection row)) scan place rows here one.1)
  plain_of Told all (EvalFault at) before after faults idle cause =
      let claim : WhereAllTell sources (λ file. FaultsAt (file_leaves file scan.locations) scan.projection rows at) =
      all (λ file. FaultsAt (file_leaves file scan.locations) scan.projection rows at) cause in
      λ file told.
      let one : FaultsAt (file_leaves file scan.locations) scan.projection rows at = claim file told in
      (of_piece (λ other. other ≡ at) scan place rows here one.0, one.1)
  plain_of Told all Memory before after faults idle cause = tt

  -- at the last of a worker
  last_plain : (error : ScanError) (claims : List (List ℕ)) (befores middles afters : List SourceState) → ((file : List ℕ) → AllTell file sources → AllTell file befores) → ((P : SourceState → SourceState → Type 0) → SomeSource P befores afters → SomeSource P sources ends)
      → SomeSourceBy (FailsPiece scan limit place rows error) claims befores middles → EachSource Lasts middles afters → PlainCause scan limit error sources ends
  last_plain error [] befores middles afters tell some fails last = absurd fails
  last_plain error (numbers ∷ claims) [] middles afters tell some fails last = absurd fails
  last_plain error (numbers ∷ claims) (before ∷ befores) [] afters tell some fails last = absurd fails
  last_plain error (numbers ∷ claims) (before ∷ befores) (now ∷ middles) [] tell some fails last = absurd last
  last_plain error (numbers ∷ claims) (before ∷ befores) (now ∷ middles) (after ∷ afters) tell some (inl fails) last =
      plain_of (WhereTold before) (λ P claim file told. claim file (tell file told).0) error before now
      (λ rose. some (λ one two. Rose one.faults two.faults) (inl (rose_on 1 before.faults now.faults after.faults rose last.0.faults)))
      (λ rose. some (λ one two. RoseBy limit one.idle two.idle) (inl (rose_on limit before.idle now.idle after.idle rose last.0.idle))) fails.cause
  last_plain error (numbers ∷ claims) (before ∷ befores) (now ∷ middles) (after ∷ afters) tell some (inr fails) last =
      last_plain error claims befores middles afters (λ file told. (tell file told).1) (λ P later. some P (inr later)) fails last.1

  -- on the first source, once all workers were done
  again_plain : (shares : Bool) (error : ScanError) (claims : List (List ℕ)) (befores middles afters : List SourceState) → ((P : SourceState → SourceState → Type 0) → SomeSource P befores afters → SomeSource P sources ends) → 1 ≤ times_over place claims
      → EachSourceBy (RunsPieces shares scan) claims befores middles → FirstSource (FailsPieceAgain scan limit rows error sources) middles afters → PlainCause scan limit error sources ends
  again_plain shares error [] befores middles afters some claimed ran fails = absurd (omega (arith, claimed))
  again_plain shares error (numbers ∷ claims) [] middles afters some claimed ran fails = absurd ran
  again_plain shares error (numbers ∷ claims) (before ∷ befores) [] afters some claimed ran fails = absurd ran
  again_plain shares error (numbers ∷ claims) (before ∷ befores) (now ∷ middles) [] some claimed ran fails = absurd fails
  again_plain shares error (numbers ∷ claims) (before ∷ befores) (now ∷ middles) (after ∷ afters) some claimed ran fails =
      plain_of (WhereAllTell sources) (λ P claim. claim) error now after
      (λ rose. some (λ one two. Rose one.faults two.faults) (inl (rose_from 1 before.faults now.faults after.faults ran.0.lasts.faults rose)))
      (λ rose. some (λ one two. RoseBy limit one.idle two.idle) (inl (rose_from limit before.idle now.idle after.idle ran.0.lasts.idle rose))) fails.0.cause

lowest_plain : (scan : FileScan) (limit : ℕ) (error : ScanError) (befores afters : List SourceState) → LowestCause scan limit error befores afters → PlainCause scan limit error befores afters
lowest_plain scan limit error befores afters lowest = by_cause lowest.cause
  where
    by_cause : FailsPieceOn scan limit lowest.place lowest.rows error lowest.claims befores lowest.middles afters → PlainCause scan limit error befores afters
    by_cause (inl fails) =
        last_plain scan limit lowest.place lowest.rows lowest.here befores afters error lowest.claims befores lowest.middles afters (λ file told. told) (λ P some. some) fails
        (all_last scan lowest.reruns error lowest.middles afters lowest.gained.again)
    by_cause (inr fails) =
        again_plain scan limit lowest.place lowest.rows lowest.here befores afters (nat_lt 1 (length befores)) error lowest.claims befores lowest.middles afters (λ P some. some) fails.1 lowest.gained.ran fails.2

-- a scan that is refused is refused for its own reason
refused_plain : (scan : FileScan) (limit : ℕ) (error : ScanError) (befores afters : List SourceState) → Refuses scan error → PlainCause scan limit error befores afters
refused_plain scan limit BadProjection befores afters refuses = refuses
refused_plain scan limit OffsetOverflow befores afters refuses = refuses
refused_plain scan limit OutOfRange befores afters refuses = refuses
refused_plain scan limit (Unsupported list) befores afters refuses = absurd refuses
refused_plain scan limit (NoLocation segment) befores afters refuses = absurd refuses
refused_plain scan limit ReadFault befores afters refuses = absurd refuses
refused_plain scan limit Stalled befores afters refuses = absurd refuses
refused_plain scan limit (BadSegment segment) befores afters refuses = absurd refuses
refused_plain scan limit (BadCode code_take at) befores afters refuses = absurd refuses
refused_plain scan limit (EvalFault at) befores afters refuses = absurd refuses
refused_plain scan limit Memory befores afters refuses = absurd refuses

pub errors_caused : ErrorsHavePlainCauses
errors_caused scan limit (Ok batches) befores afters answers = tt
errors_caused scan limit (Err error) befores afters answers = by_cause answers.cause
  where
    by_cause : (error ≡ Memory) ⊎ (Refuses scan error ⊎ LowestCause scan limit error befores afters) → PlainCause scan limit error befores afters
    by_cause (inl memory) = subst (λ (e : ScanError). PlainCause scan limit e befores afters) (sym memory) tt
    by_cause (inr (inl refuses)) = refused_plain scan limit error befores afters refuses
    by_cause (inr (inr lowest)) = lowest_plain scan limit error befores afters lowest
