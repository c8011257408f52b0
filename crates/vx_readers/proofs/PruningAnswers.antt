-- What a pruning evaluation answers once all its reads came, by the bytes of them.
use Rattle.std.proofs.Common.{◌≡◌, Bool, List, length, ap, ◌∙◌, subst}
use Rattle.vx_base.specs.Sources.{SourceState}
use Rattle.vx_reads.specs.declared.errors.ReaderError.{ReaderError}
use Rattle.vx_reads.specs.declared.errors.ReaderError.TheVariants.{ReadFault, BadSegment, BadCode, EvalFault, NoLocation, Memory}
use Rattle.vx_reads.specs.Errors.{IsOfBytes}
use Rattle.vx_reads.specs.Reads.{file_bytes}
use Rattle.vx_readers.specs.Evaluations.{zones_by, zones_needed_by, Evaluation, HasAll, IsReady, IsRefused}
use Rattle.vx_readers.specs.States.{IsLeft, PruningFault}
use Rattle.vx_readers.proofs.Turning.{all_left}
use Rattle.vx_readers.specs.Unpruned.{AreUnprunedBy, PruningFails}

pub pruning_ready : (e next : Evaluation) (kept : List Bool) (before after : SourceState) → HasAll zones_needed_by e next before after → AreUnprunedBy next.reads (zones_by next) next.expression.term next.start next.mask kept → IsReady e before after (IsLeft e kept)
pruning_ready e next kept before after all are =
    let F : Evaluation → Type 0 = λ n. AreUnprunedBy next.reads (zones_by n) n.expression.term n.start n.mask kept in
    let same : F (record e { reads = next.reads }) = subst F all.same are in
    record {
      touches = all.goes.touches;
      asks = all.asks;
      fine = all.goes.fine;
      ended = λ ticket at found. all.goes.only ticket at (all.none ticket) found;
      content = λ file told have. same (file_bytes file e.locations) (all.goes.told file told have);
      went = (next.reads, all.goes);
    }

pub pruning_rows : (e next : Evaluation) (kept : List Bool) (before after : SourceState) → HasAll zones_needed_by e next before after → length kept ≡ length next.mask → length kept ≡ length e.mask
pruning_rows e next kept before after all rows = rows ∙ ap (λ (n : Evaluation). length n.mask) all.same

pub pruning_refused : (e next : Evaluation) (error : ReaderError) (before after : SourceState) → HasAll zones_needed_by e next before after → IsOfBytes error → PruningFails next.reads (zones_by next) next.start next.mask error → IsRefused e error before after (PruningFault e error)
pruning_refused e next error before after all own fails = by error own (subst (F error) all.same fails)
  where
    F : ReaderError → Evaluation → Type 0
    F fault n = PruningFails next.reads (zones_by n) n.start n.mask fault

    by : (fault : ReaderError) → IsOfBytes fault → F fault (record e { reads = next.reads }) → IsRefused e fault before after (PruningFault e fault)
    by ReadFault own same = absurd own
    by (NoLocation segment) own same = absurd own
    by (BadSegment segment) own same = record { touches = all.goes.touches; cause = λ file told have. same (file_bytes file e.locations) (all.goes.told file told have); leaves = all_left zones_needed_by e next (BadSegment segment) before after all }
    by (BadCode node row) own same = record { touches = all.goes.touches; cause = λ file told have. same (file_bytes file e.locations) (all.goes.told file told have); leaves = all_left zones_needed_by e next (BadCode node row) before after all }
    by (EvalFault row) own same = record { touches = all.goes.touches; cause = λ file told have. same (file_bytes file e.locations) (all.goes.told file told have); leaves = all_left zones_needed_by e next (EvalFault row) before after all }
    by Memory own same = record { touches = all.goes.touches; cause = λ file told have. same (file_bytes file e.locations) (all.goes.told file told have); leaves = all_left zones_needed_by e next Memory before after all }
