use Rattle.std.proofs.Common.{inl, inr, ◌≡◌, ◌⊎◌, ◌≤◌, ◌+◌, ℕ, [], Option, true, refl, sym, ◌∙◌, subst, arith}
use Rattle.std.specs.Prelude.{IfSome, IsNone}
use Rattle.std.specs.declared.ops.Range.{Range}
use Rattle.vx_base.specs.Masks.{true_count}
use Rattle.vx_splits.specs.declared.selected_rows.SelectedRows.{SelectedRows}
use Rattle.vx_splits.specs.Taken.{selected_rows}
use Rattle.vx_splits.specs.Trimmed.{IsTrimmed}
use Rattle.vx_scan.specs.FilePlans.{is_met}
use Rattle.vx_scan.proofs.Cutting.{Cutting, IsNext, cut_none, cut_skip, cut_more, cut_enough, not_none}
use Rattle.vx_scan.proofs.file_plans.cut_chunks.Goals.{then-loop-left-test+else-not-is_met, else-loop-left-test}
use Rattle.vx_scan.proofs.file_plans.cut_chunks.Goals as goal

pub loop-left-init : goal.loop-left-init
loop-left-init c = (
  cut_none c.args.selection.now c.args.size c.args.rows.start c.args.rows.end c.new-chunks.result.items c.new-chunks.ensures.items,
  refl,
)

pub loop-left-preserved-in-Continue-branch-3 : goal.loop-left-preserved-in-Continue-branch-3
loop-left-preserved-in-Continue-branch-3 c =
    let end : ℕ = c.args.rows.end in
    let rows : Range ℕ = c.first_chunk-rows.result in
    let first = c.first_chunk-rows.ensures in
    let is : IsNext c.args.size c.loop-left.left.start end rows =
    subst (λ (k : ℕ). IsNext c.args.size c.loop-left.left.start k rows) c.loop-left.invariant.1 (record { first = first.first; start = first.start; forwards = first.forwards; inside = first.inside }) in
    let made = c.in_ok-chunk.ensures {u = tt} in
    let trimmed : IsTrimmed c.args.selection.now (record { file_ordinal = 0; rows = rows }) c.in-Some.chunk = subst (λ (o : Option SelectedRows). IfSome o (λ chunk. IsTrimmed c.args.selection.now (record { file_ordinal = 0; rows = rows }) chunk)) c.in-Some.is made.trimmed in
    let some : selected_rows c.args.selection.now rows.start rows.end ≡ [] → ⊥ = λ empty. not_none c.in_ok-chunk.field-0 c.in-Some.chunk c.in-Some.is (made.none.1 empty) in
    let more : ℕ = c.counted-count.result in
    let less : more ≤ c.loop-left.count + true_count c.in-Some.chunk.mask = c.counted-count.ensures in (
      subst (Cutting c.args.selection.now c.args.size c.args.rows.start end rows.end more) (sym (c.in_ok-push.ensures {u = tt}).items)
          (cut_more c.args.selection.now c.args.size c.args.rows.start end c.loop-left.left.start c.loop-left.count rows c.loop-left.chunks.items c.in-Some.chunk more c.loop-left.invariant.0 is trimmed some less),
      c.loop-left.invariant.1,
    )

pub loop-left-preserved : goal.loop-left-preserved
loop-left-preserved c =
    let end : ℕ = c.args.rows.end in
    let rows : Range ℕ = c.first_chunk-rows.result in
    let first = c.first_chunk-rows.ensures in
    let is : IsNext c.args.size c.loop-left.left.start end rows =
    subst (λ (k : ℕ). IsNext c.args.size c.loop-left.left.start k rows) c.loop-left.invariant.1 (record { first = first.first; start = first.start; forwards = first.forwards; inside = first.inside }) in (
      cut_skip c.args.selection.now c.args.size c.args.rows.start end c.loop-left.left.start c.loop-left.count rows c.loop-left.chunks.items c.loop-left.invariant.0 is
          ((c.in_ok-chunk.ensures {u = tt}).none.0 (subst IsNone (sym c.in_default.is) refl)),
      c.loop-left.invariant.1,
    )

pub returns-clause-pieces : goal.returns-clause-pieces
returns-clause-pieces c =
    let same = c.loop-left.invariant.1 in
    let why : (c.args.rows.end ≤ c.loop-left.left.start) ⊎ (is_met c.args.limit c.loop-left.count ≡ true) = elim c.loop-left-test.branch [
      | then-loop-left-test+else-not-is_met w ↦ inr (sym w.is_met.ensures ∙ w.if-not-is_met.false)
      | else-loop-left-test w ↦ let behind = w.loop-left-test.false in inl (omega (arith, behind, same))
    ] in
    cut_enough c.args.selection.now c.args.size c.args.rows.start c.args.rows.end c.loop-left.left.start c.loop-left.count c.args.limit c.loop-left.chunks.items c.requires c.loop-left.invariant.0 why

pub returns-clause-inside : goal.returns-clause-inside
returns-clause-inside c = c.loop-left.invariant.0.inside

pub returns-clause-ordered : goal.returns-clause-ordered
returns-clause-ordered c = c.loop-left.invariant.0.ordered

pub returns-clause-trimmed : goal.returns-clause-trimmed
returns-clause-trimmed c = c.loop-left.invariant.0.trimmed
