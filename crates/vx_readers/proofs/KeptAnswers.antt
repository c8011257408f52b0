-- What a filter answers once all its reads came, by the bytes of them.
use Rattle.std.proofs.Common.{◌≡◌, Bool, List, length, sym, ap, ◌∙◌, subst}
use Rattle.vx_base.specs.ColumnCalls.{IsBool}
use Rattle.vx_base.specs.Sources.{SourceState}
use Rattle.vx_layout.specs.Trees.{subtree}
use Rattle.vx_reads.specs.declared.errors.ReaderError.{ReaderError}
use Rattle.vx_reads.specs.declared.errors.ReaderError.TheVariants.{ReadFault, BadSegment, BadCode, EvalFault, NoLocation, Memory}
use Rattle.vx_reads.specs.Errors.{IsOfBytes}
use Rattle.vx_reads.specs.MaskRows.{AreKeptBy, FilterFails}
use Rattle.vx_reads.specs.Readable.{tree_head}
use Rattle.vx_reads.specs.Reads.{file_bytes}
use Rattle.vx_readers.specs.Evaluations.{needed_by, rows_by, Evaluation, HasAll, IsPending, IsReady, IsRefused}
use Rattle.vx_readers.specs.States.{FilterFault, IsKept}
use Rattle.vx_readers.proofs.Turning.{all_left}

-- the expression is the same, so it is true or not all the same
pub still_bool : (e next : Evaluation) (before after : SourceState) → IsPending e next before after → IsBool e.expression.dtype → IsBool next.expression.dtype
still_bool e next before after pending bool = subst (λ (n : Evaluation). IsBool n.expression.dtype) (sym pending.same) bool

-- and so it is once all came
pub came_bool : (e next : Evaluation) (before after : SourceState) → HasAll needed_by e next before after → IsBool e.expression.dtype → IsBool next.expression.dtype
came_bool e next before after all bool = subst (λ (n : Evaluation). IsBool n.expression.dtype) (sym all.same) bool

pub filter_ready : (e next : Evaluation) (kept : List Bool) (before after : SourceState) → HasAll needed_by e next before after → AreKeptBy next.reads (rows_by next) (tree_head next.nodes next.node).dtype next.expression.term next.start next.mask kept → IsReady e before after (IsKept e kept)
filter_ready e next kept before after all are =
    let F : Evaluation → Type 0 = λ n. AreKeptBy next.reads (rows_by n) (tree_head n.nodes n.node).dtype n.expression.term n.start n.mask kept in
    let same : F (record e { reads = next.reads }) = subst F all.same are in
    record {
      touches = all.goes.touches;
      asks = all.asks;
      fine = all.goes.fine;
      ended = λ ticket at found. all.goes.only ticket at (all.none ticket) found;
      content = λ file told have. same (file_bytes file e.locations) (all.goes.told file told have);
      went = (next.reads, all.goes);
    }

pub filter_rows : (e next : Evaluation) (kept : List Bool) (before after : SourceState) → HasAll needed_by e next before after → length kept ≡ length next.mask → length kept ≡ length e.mask
filter_rows e next kept before after all rows = rows ∙ ap (λ (n : Evaluation). length n.mask) all.same

pub filter_refused : (e next : Evaluation) (error : ReaderError) (before after : SourceState) → HasAll needed_by e next before after → IsOfBytes error → FilterFails next.reads (subtree next.nodes next.node) (tree_head next.nodes next.node).dtype next.expression.term next.start next.start next.mask error → IsRefused e error before after (FilterFault e error)
filter_refused e next error before after all own fails = by error own (subst (F error) all.same fails)
  where
    F : ReaderError → Evaluation → Type 0
    F fault n = FilterFails next.reads (subtree n.nodes n.node) (tree_head n.nodes n.node).dtype n.expression.term n.start n.start n.mask fault

    by : (fault : ReaderError) → IsOfBytes fault → F fault (record e { reads = next.reads }) → IsRefused e fault before after (FilterFault e fault)
    by ReadFault own same = absurd own
    by (NoLocation segment) own same = absurd own
    by (BadSegment segment) own same = record { touches = all.goes.touches; cause = λ file told have. same (file_bytes file e.locations) (all.goes.told file told have); leaves = all_left needed_by e next (BadSegment segment) before after all }
    by (BadCode node row) own same = record { touches = all.goes.touches; cause = λ file told have. same (file_bytes file e.locations) (all.goes.told file told have); leaves = all_left needed_by e next (BadCode node row) before after all }
    by (EvalFault row) own same = record { touches = all.goes.touches; cause = λ file told have. same (file_bytes file e.locations) (all.goes.told file told have); leaves = all_left needed_by e next (EvalFault row) before after all }
    by Memory own same = record { touches = all.goes.touches; cause = λ file told have. same (file_bytes file e.locations) (all.goes.told file told have); leaves = all_left needed_by e next Memory before after all }
