-- A state that is polled again and again.
use Rattle.std.proofs.Common.{◌≡◌, ℕ, ◌+◌, ◌<◌, List, Ok, Err, refl, sym, ap, ◌∙◌, subst, arith}
use Rattle.vx_base.specs.declared.locations.SegmentLocation.{SegmentLocation}
use Rattle.vx_base.specs.Columns.{ColumnData}
use Rattle.vx_base.specs.Sources.{SourceState, Cleared, Rose, RoseBy}
use Rattle.vx_reads.specs.declared.errors.ReaderError.{ReaderError}
use Rattle.vx_reads.specs.declared.errors.ReaderError.TheVariants.{ReadFault, BadSegment, BadCode, EvalFault, NoLocation, Memory}
use Rattle.vx_readers.specs.Evaluations.{Evaluation, IsCaused, IsPending, IsRefused, WhereTold}
use Rattle.vx_readers.specs.ReadErrors.{read_error}
use Rattle.vx_readers.specs.Reading.{Ends, Leaves}
use Rattle.vx_readers.specs.declared.progress.Progress.TheVariants.{Ready}
use Rattle.vx_readers.specs.States.{ColumnPollGives, ProjectionFault}
use Rattle.vx_reads.specs.Reads.{asked_also, segments_of, AreInFlight, AsksOnly, GoOn, IsRangeOf, Touches}
use Rattle.vx_reads.proofs.Counting.{asked_all}
use Rattle.vx_reads.proofs.Going.{begins, fault_by, goes_then, touches_then}

-- So many polls ended in waiting: the same evaluation, with other reads.
pub record RunsOn (first now : Evaluation) (turns : ℕ) (before source : SourceState) : Type 0 where
  pub same : now ≡ record first { reads = now.reads }
  pub goes : GoOn first.locations first.reads now.reads before source
  pub asks : asked_also first.locations now.reads source.asked ≡ asked_also first.locations first.reads before.asked
  pub waited : RoseBy turns before.idle source.idle

pub runs_first : (e : Evaluation) (source : SourceState) → AreInFlight e.locations e.reads source.in_flight → RunsOn e e 0 source source
runs_first e source located = record {
  same = refl;
  goes = begins e.locations e.reads source located;
  asks = refl;
  waited = record { kept = omega arith; raised = omega arith };
}

more_waited : (turns before middle after count : ℕ) → 0 < count → RoseBy turns before middle → RoseBy count middle after → RoseBy (turns + 1) before after
more_waited turns before middle after count some first second = record { kept = (let a = first.kept in let b = second.kept in omega arith); raised = (let a = first.raised in let b = second.raised in omega arith) }

pub runs_then : (first now next : Evaluation) (turns : ℕ) (before middle after : SourceState) → RunsOn first now turns before middle → IsPending now next middle after → RunsOn first next (turns + 1) before after
runs_then first now next turns before middle after run pending = record {
  same = pending.same ∙ ap (λ (e : Evaluation). record e { reads = next.reads }) run.same;
  goes = goes_then first.locations first.reads now.reads next.reads before middle after run.goes (subst (λ (ls : List SegmentLocation). GoOn ls now.reads next.reads middle after) (ap (λ (e : Evaluation). e.locations) run.same) pending.goes);
  asks = asked_all first.locations next.reads after.asked pending.asked ∙ pending.asks ∙ ap (λ (ls : List SegmentLocation). asked_also ls now.reads middle.asked) (ap (λ (e : Evaluation). e.locations) run.same) ∙ run.asks;
  waited = more_waited turns before.idle middle.idle after.idle _ pending.some run.waited pending.waited;
}

pub leaves_by : (e : Evaluation) (before after cleared : SourceState) → Touches e.locations e.reads before after → Cleared after cleared → Leaves e before cleared
leaves_by e before after cleared touches clear = record {
  file = clear.file ∙ touches.file;
  asks = subst (AsksOnly (IsRangeOf e.locations (segments_of e.reads)) before.asked) (sym clear.asked) touches.asks;
  in_flight = clear.in_flight;
  faults = (let a = touches.faults in let b = clear.faults in omega arith);
  idle = (let a = touches.idle in let b = clear.idle in omega arith);
}

pub run_touches : (first now : Evaluation) (turns : ℕ) (before middle after : SourceState) → RunsOn first now turns before middle → Touches now.locations now.reads middle after → Touches first.locations first.reads before after
run_touches first now turns before middle after run touches = touches_then first.locations first.reads now.reads before middle after run.goes (subst (λ (ls : List SegmentLocation). Touches ls now.reads middle after) (ap (λ (e : Evaluation). e.locations) run.same) touches)

rose_cleared : (before after cleared : ℕ) → cleared ≡ after → Rose before after → Rose before cleared
rose_cleared before after cleared same rose = record { kept = (let k = rose.kept in omega arith); raised = (let r = rose.raised in omega arith) }

pub err_ends : (first now : Evaluation) (error : ReaderError) (turns : ℕ) (before middle after cleared : SourceState) → RunsOn first now turns before middle → IsRefused now error middle after (ProjectionFault now error) → Cleared after cleared → IsCaused first error before cleared (ProjectionFault first error)
err_ends first now error turns before middle after cleared run refused clear =
    let P : Evaluation → Type 0 = λ e. IsRefused e error middle after (ProjectionFault e error) in
    by error (subst P run.same refused).cause
  where
    told : (fault : ReaderError) → WhereTold (record first { reads = now.reads }) middle (ProjectionFault first fault) → WhereTold first before (ProjectionFault first fault)
    told fault h file is have = h file (run.goes.touches.file ∙ is) (run.goes.told file is have)

    by : (fault : ReaderError) → IsCaused (record first { reads = now.reads }) fault middle after (ProjectionFault first fault) → IsCaused first fault before cleared (ProjectionFault first fault)
    by ReadFault h = rose_cleared before.faults after.faults cleared.faults clear.faults (fault_by first.locations ReadFault first.reads now.reads before middle after run.goes h)
    by (NoLocation segment) h = fault_by first.locations (NoLocation segment) first.reads now.reads before middle after run.goes h
    by (BadSegment segment) h = told (BadSegment segment) h
    by (BadCode node row) h = told (BadCode node row) h
    by (EvalFault row) h = told (EvalFault row) h
    by Memory h = told Memory h

-- the answer of the last poll is that of all
pub ready_ends : (first now : Evaluation) (column : ColumnData) (turns limit : ℕ) (before middle after cleared : SourceState) → RunsOn first now turns before middle → ColumnPollGives (Ok (Ready column)) now middle after → Cleared after cleared → Ends limit (Ok column) first before cleared
ready_ends first now column turns limit before middle after cleared run gives clear =
    let P : Evaluation → Type 0 = λ e. ColumnPollGives (Ok (Ready column)) e middle after in
    let here : P (record first { reads = now.reads }) = subst P run.same gives in (
      λ file is have. here.0.content file (run.goes.touches.file ∙ is) (run.goes.told file is have),
      here.1,
      here.2,
      clear.faults ∙ here.0.fine ∙ run.goes.fine,
      clear.asked ∙ here.0.asks ∙ run.asks,
    )

-- a read's error by a reader's
pub ends_by : (error : ReaderError) (limit : ℕ) (e : Evaluation) (before after : SourceState) → IsCaused e error before after (ProjectionFault e error) → Ends limit (Err (read_error error)) e before after
ends_by Memory limit e before after cause = tt
ends_by ReadFault limit e before after cause = cause
ends_by (BadSegment segment) limit e before after cause = cause
ends_by (BadCode node row) limit e before after cause = cause
ends_by (EvalFault row) limit e before after cause = cause
ends_by (NoLocation segment) limit e before after cause = cause
