use Rattle.std.proofs.Common.{◌≡◌, ◌∙◌, sym, ap, List, ℕ, Vec, Global}
use Rattle.std.specs.List.{All, Contains}
use Rattle.vx_base.specs.Masks.{Ascend}
use Rattle.vx_splits.specs.Spans.{cut_count, subdivided, NoGapAbove}
use Rattle.vx_splits.proofs.SpanCuts.{uncut, subdivided_cuts, told_cuts}
use Rattle.vx_splits.proofs.spans.subdivide_large_spans.Goals as goal

abbrev items : Vec ℕ Global → List ℕ
items cuts = cuts.items

-- where nothing is cut
whole : (c : goal.Then-cut_count-eq0) → c.args.boundaries.items ≡ subdivided c.args.max_span c.args.boundaries.items
whole c =
    let none : cut_count c.args.max_span c.args.boundaries.items ≡ 0 = ap (cut_count c.args.max_span) (sym c.as_slice.ensures.value) ∙ sym c.in-Some.ensures ∙ c.if-cut_count-eq0.true in
    sym (uncut c.args.max_span c.args.boundaries.items none)

pub returns-then-cut_count-eq0-clause-subdivided : goal.returns-then-cut_count-eq0-clause-subdivided
returns-then-cut_count-eq0-clause-subdivided c = whole c

pub returns-then-cut_count-eq0-clause-kept : goal.returns-then-cut_count-eq0-clause-kept
returns-then-cut_count-eq0-clause-kept c = (subdivided_cuts c.args.max_span c.args.boundaries.items c.args.boundaries.items c.requires.some c.requires.ascending (whole c)).kept

pub returns-then-cut_count-eq0-clause-close : goal.returns-then-cut_count-eq0-clause-close
returns-then-cut_count-eq0-clause-close c = (subdivided_cuts c.args.max_span c.args.boundaries.items c.args.boundaries.items c.requires.some c.requires.ascending (whole c)).close

pub returns-clause-kept : goal.returns-clause-kept
returns-clause-kept c =
    told_cuts items c.args.max_span c.args.boundaries.items (λ (cuts : List ℕ). All (λ (boundary : ℕ). Contains cuts boundary) c.args.boundaries.items) c.with_cuts.result
    (λ cuts e. (subdivided_cuts c.args.max_span c.args.boundaries.items cuts c.requires.some c.requires.ascending e).kept)
    (rw c.as_slice-2.ensures.value at c.with_cuts.ensures)

pub returns-clause-ascend : goal.returns-clause-ascend
returns-clause-ascend c =
    told_cuts items c.args.max_span c.args.boundaries.items Ascend c.with_cuts.result
    (λ cuts e. (subdivided_cuts c.args.max_span c.args.boundaries.items cuts c.requires.some c.requires.ascending e).ascend)
    (rw c.as_slice-2.ensures.value at c.with_cuts.ensures)

pub returns-clause-close : goal.returns-clause-close
returns-clause-close c =
    told_cuts items c.args.max_span c.args.boundaries.items (NoGapAbove c.args.max_span) c.with_cuts.result
    (λ cuts e. (subdivided_cuts c.args.max_span c.args.boundaries.items cuts c.requires.some c.requires.ascending e).close)
    (rw c.as_slice-2.ensures.value at c.with_cuts.ensures)
