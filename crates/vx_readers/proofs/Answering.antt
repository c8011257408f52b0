-- What a state answers once all its reads came, by the bytes of them.
use Rattle.std.proofs.Common.{List, subst}
use Rattle.vx_base.specs.Data.{Datum}
use Rattle.vx_base.specs.Sources.{SourceState}
use Rattle.vx_reads.specs.declared.errors.ReaderError.{ReaderError}
use Rattle.vx_reads.specs.declared.errors.ReaderError.TheVariants.{ReadFault, BadSegment, BadCode, EvalFault, NoLocation, Memory}
use Rattle.vx_reads.specs.Errors.{IsOfBytes}
use Rattle.vx_reads.specs.Projected.{AreProjectedBy, ProjectionFails}
use Rattle.vx_reads.specs.Readable.{tree_head}
use Rattle.vx_reads.specs.Reads.{file_bytes}
use Rattle.vx_readers.specs.Evaluations.{needed_by, rows_by, Evaluation, HasAll, IsReady, IsRefused}
use Rattle.vx_readers.specs.States.{IsProjection, ProjectionFault}
use Rattle.vx_readers.proofs.Turning.{all_left}

pub projection_ready : (e next : Evaluation) (values : List Datum) (before after : SourceState) → HasAll needed_by e next before after → AreProjectedBy next.reads (rows_by next) (tree_head next.nodes next.node).dtype next.expression.term next.start next.mask values → IsReady e before after (IsProjection e values)
projection_ready e next values before after all are =
    let F : Evaluation → Type 0 = λ n. AreProjectedBy next.reads (rows_by n) (tree_head n.nodes n.node).dtype n.expression.term n.start n.mask values in
    let same : F (record e { reads = next.reads }) = subst F all.same are in
    record {
      touches = all.goes.touches;
      asks = all.asks;
      fine = all.goes.fine;
      ended = λ ticket at found. all.goes.only ticket at (all.none ticket) found;
      content = λ file told have. same (file_bytes file e.locations) (all.goes.told file told have);
      went = (next.reads, all.goes);
    }

pub projection_refused : (e next : Evaluation) (error : ReaderError) (before after : SourceState) → HasAll needed_by e next before after → IsOfBytes error → ProjectionFails next.reads (rows_by next) (tree_head next.nodes next.node).dtype next.expression.term next.start next.mask error → IsRefused e error before after (ProjectionFault e error)
projection_refused e next error before after all own fails = by error own (subst (F error) all.same fails)
  where
    F : ReaderError → Evaluation → Type 0
    F fault n = ProjectionFails next.reads (rows_by n) (tree_head n.nodes n.node).dtype n.expression.term n.start n.mask fault

    by : (fault : ReaderError) → IsOfBytes fault → F fault (record e { reads = next.reads }) → IsRefused e fault before after (ProjectionFault e fault)
    by ReadFault own same = absurd own
    by (NoLocation segment) own same = absurd own
    by (BadSegment segment) own same = record { touches = all.goes.touches; cause = λ file told have. same (file_bytes file e.locations) (all.goes.told file told have); leaves = all_left needed_by e next (BadSegment segment) before after all }
    by (BadCode node row) own same = record { touches = all.goes.touches; cause = λ file told have. same (file_bytes file e.locations) (all.goes.told file told have); leaves = all_left needed_by e next (BadCode node row) before after all }
    by (EvalFault row) own same = record { touches = all.goes.touches; cause = λ file told have. same (file_bytes file e.locations) (all.goes.told file told have); leaves = all_left needed_by e next (EvalFault row) before after all }
    by Memory own same = record { touches = all.goes.touches; cause = λ file told have. same (file_bytes file e.locations) (all.goes.told file told have); leaves = all_left needed_by e next Memory before after all }
