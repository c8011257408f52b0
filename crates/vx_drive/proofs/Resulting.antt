-- The bytes of an outstanding fetch come.
use Rattle.std.proofs.Common.{◌≡◌, ℕ, zero, suc, ◌+◌, ◌-◌, ◌^◌, ◌<◌, List, [], ◌∷◌, Some, length, take, drop, refl, sym, ap, ◌∙◌, subst, arith}
use Rattle.std.specs.Prelude.{slice_set}
use Rattle.std.specs.List.{slice_get, sum_by}
use Rattle.vx_steps.specs.ReadTable.{Delivers}
use Rattle.vx_steps.specs.ReadTableData.{ReadsData, Wanted}
use Rattle.vx_steps.specs.ScanData.{ScanData, TakesBytes}
use Rattle.vx_steps.specs.Steps.{rows_left}
use Rattle.vx_steps.proofs.Growing.{got_front, take_set}
use Rattle.vx_drive.specs.declared.adaptors.State.{State}
use Rattle.vx_drive.specs.declared.adaptors.State.TheVariants.{Done}
use Rattle.vx_drive.specs.AdaptorData.{AdaptorData, AreAskedReads, held_count, read_numbered}
use Rattle.vx_drive.specs.Computes.{TakesResult, after_result}
use Rattle.vx_drive.specs.Fetched.{AllLocated, AreDistinctNumbers, delivered, segments_in, unread}
use Rattle.vx_drive.proofs.Behind.{got_behind, set_behind}
use Rattle.vx_drive.proofs.Computing.{stepped}
use Rattle.vx_base.specs.declared.locations.SegmentLocation.{SegmentLocation}

pub segments_set : (reads : List Wanted) (i segment : ℕ) (bytes : List ℕ) → slice_get reads i ≡ Some (unread segment) → segments_in (slice_set reads i (delivered segment bytes)) ≡ segments_in reads
segments_set [] i segment bytes at = absurd cc
segments_set (read ∷ reads) zero segment bytes at = let same : read ≡ unread segment = cc in ap (λ (w : Wanted). w.segment ∷ segments_in reads) (sym same)
segments_set (read ∷ reads) (suc i) segment bytes at = ap (λ (segments : List ℕ). read.segment ∷ segments) (segments_set reads i segment bytes at)

length_set : {X : Type 0} (xs : List X) (i : ℕ) (x : X) → length (slice_set xs i x) ≡ length xs
length_set [] i x = refl
length_set (one ∷ xs) zero x = refl
length_set (one ∷ xs) (suc i) x = let rest = length_set xs i x in omega (arith, rest)

-- the wanted segments behind the first ones
wanted_set : (first number : ℕ) (bytes : List ℕ) (old new : ReadsData) → (delivers : Delivers (read_numbered (first + number)) bytes old new) → drop first new.wanted ≡ slice_set (drop first old.wanted) number (delivered delivers.segment bytes)
wanted_set first number bytes old new delivers = ap (drop first) delivers.taken ∙ set_behind old.wanted first number (delivered delivers.segment bytes)

reads_set : (first number : ℕ) (bytes : List ℕ) (asked : ℕ) (old new : ReadsData) → number < asked → (delivers : Delivers (read_numbered (first + number)) bytes old new) → take asked (drop first new.wanted) ≡ slice_set (take asked (drop first old.wanted)) number (delivered delivers.segment bytes)
reads_set first number bytes asked old new below delivers = ap (take asked) (wanted_set first number bytes old new delivers) ∙ take_set (drop first old.wanted) asked number (delivered delivers.segment bytes) below

pub asked_delivered : (locations : List SegmentLocation) (first number : ℕ) (bytes : List ℕ) (asked : ℕ) (old new : ReadsData) → number < asked → Delivers (read_numbered (first + number)) bytes old new → AreAskedReads locations first asked old → AreAskedReads locations first asked new
asked_delivered locations first number bytes asked old new below delivers were =
    let here = got_front (drop first old.wanted) asked number below ∙ got_behind old.wanted first number ∙ delivers.at in
    let same : segments_in (take asked (drop first new.wanted)) ≡ segments_in (take asked (drop first old.wanted)) = ap segments_in (reads_set first number bytes asked old new below delivers) ∙ segments_set (take asked (drop first old.wanted)) number delivers.segment bytes here in
    record {
      all = were.all ∙ sym delivers.handed;
      wanted = let size = ap length (wanted_set first number bytes old new delivers) ∙ length_set (drop first old.wanted) number (delivered delivers.segment bytes) in let few = were.wanted in omega (arith, size, few);
      apart = subst AreDistinctNumbers (sym same) were.apart;
      located = subst (AllLocated locations) (sym same) were.located;
    }

-- an adaptor that is done stays so
pub done_after : (state : State) → state ≡ Done → after_result state ≡ Done
done_after state done = ap after_result done

pub takes_result : (number : ℕ) (bytes : List ℕ) (old : AdaptorData) (new : ScanData) (state : State) → number < old.asked → TakesBytes (read_numbered (old.first + number)) bytes old.scan new → state ≡ after_result old.state → TakesResult number bytes old (stepped old.first new old.asked old.held state)
takes_result number bytes old new state below takes at = record {
  outstanding = (below, takes.delivers.outstanding);
  takes = takes;
  first = refl;
  asked = refl;
  reads = reads_set old.first number bytes old.asked old.scan.progress.reads new.progress.reads below takes.delivers;
  held = refl;
  state = at;
  work = (λ i. ((2 ^ 64 - takes.delivers.handed i) + sum_by (rows_left (takes.job i).splits.items) (takes.left i)) + held_count old.held);
}
