-- The visits of a split's selected rows are reads.
use Rattle.std.proofs.Common.{◌≡◌, ℕ, ◌+◌, ◌<◌, inl, List, Option, Some, None, length, sym, ap, ◌∙◌, subst}
use Rattle.std.specs.Prelude.{IsSomeAnd}
use Rattle.vx_base.specs.declared.codings.Coding.{Coding}
use Rattle.vx_base.specs.CodingsRead.{decoded_as}
use Rattle.vx_rows.specs.Reads.{directly, IsIn}
use Rattle.vx_rows.specs.SegmentLeaves.{Bytes, leaves_of}
use Rattle.vx_rows.specs.Heads.{Head}
use Rattle.vx_plan.specs.Laws.{IsReadBy}
use Rattle.vx_plan.specs.Kinds.{coding_of}
use Rattle.vx_plan.specs.Nodes.{Node}
use Rattle.vx_plan.specs.Plans.{Plan, no_plan, concat_plan, eval_plan, filter_plan, pack_plan, take_plan, share_plan, list_plan, row_idx_plan, scan_plan, zoned_plan, pruning_plan, plan_at, plan_coding, plan_head, plan_gap, head_at}
use Rattle.vx_plan.specs.Rules.{node_at}
use Rattle.vx_plan.specs.Tables.{IsGoodTable}
use Rattle.vx_plan.proofs.Adding.{coding_in_table, head_in_table}
use Rattle.vx_steps.specs.declared.errors.StepError.{StepError}
use Rattle.vx_steps.specs.declared.errors.StepError.TheVariants.{Unsupported, BadSegment, BadCode, EvalFault, Memory}
use Rattle.vx_steps.specs.declared.jobs.Job.{Job}
use Rattle.vx_steps.specs.declared.leaf_reads.LeafRead.{LeafRead}
use Rattle.vx_steps.specs.declared.splits.Split.{Split}
use Rattle.vx_steps.specs.Agreement.{Agrees}
use Rattle.vx_steps.specs.Computed.{UnlessList}
use Rattle.vx_steps.specs.Given.{Handed, handed_by}
use Rattle.vx_steps.specs.Held.{AreTyped}
use Rattle.vx_steps.specs.Jobs.{IsReadFor}
use Rattle.vx_steps.specs.KeptData.{Kept}
use Rattle.vx_steps.specs.ReadTableData.{Wanted}
use Rattle.vx_steps.specs.ScanLaws.{IsReadBySplit, IsSplitCause, IsTornIn, SplitReads}
use Rattle.vx_steps.specs.Steps.{HasCauseIn, ReadsTorn}
use Rattle.vx_steps.specs.Visits.{IsLeafRead}
use Rattle.vx_steps.proofs.Agreeing.{bytes_found}
use Rattle.vx_steps.proofs.HandedRows.{typed_fit}
use Rattle.vx_steps.proofs.PlacedVisits.{InTable, visit_placed}
use Rattle.vx_steps.proofs.ReadVisits.{selected_leaf, selected_read}
use Rattle.vx_steps.proofs.VisitedParts.{cause_read}
use Rattle.vx_steps.proofs.VisitedReads.{FindsOwn, visit_found}

pub wanted_read : (nodes : List Node) (job : Job) (leaves : List Kept) (segment : ℕ) → IsReadFor nodes job leaves segment → IsReadBySplit nodes job segment
wanted_read nodes job leaves segment for =
    let handed : Handed = handed_by nodes (Some job.given) in
    let p : Plan = plan_at nodes job.plan in
    let split : Split = for.split in
    let F : ℕ → Type 0 = λ s. IsReadBy job.offset s p split.rows.start split.mask in
    let G : ℕ → Type 0 = λ s. SplitReads (IsIn s) nodes job split in
    record {
      number = for.number;
      split = split;
      at = for.at;
      read = subst F for.segment_is (selected_read handed job.offset p split.rows.start split.mask for.read for.reads);
      with_given = subst G for.segment_is (selected_leaf handed job.offset p split.rows.start split.mask for.read for.reads);
    }

-- ---- torn leaves

-- the bytes spell no values for a leaf of that head and coding
abbrev SpellNone : Bytes → Head → Coding → ℕ → Type 0
SpellNone outside head coding segment = IsSomeAnd (outside segment) (λ found. decoded_as coding head.dtype head.rows found ≡ None)

-- how the leaf of that number is coded
abbrev leaf_coding : List Node → ℕ → Coding
leaf_coding nodes n = coding_of (node_at nodes n).kind

torn_own : (nodes : List Node) → IsGoodTable nodes → (outside : Bytes) (offset : ℕ) (read : LeafRead) → SpellNone outside (head_at read.leaf (node_at nodes read.leaf)) (leaf_coding nodes read.leaf) read.segment → FindsOwn (InTable nodes (IsLeafRead read)) (IsTornIn outside read.segment) offset
torn_own nodes good outside offset read torn handed way (no_plan head) row v = absurd v.0
torn_own nodes good outside offset read torn handed way (concat_plan head children) row v = absurd v.0
torn_own nodes good outside offset read torn handed way (eval_plan head e child) row v = absurd v.0
torn_own nodes good outside offset read torn handed way (filter_plan head child) row v = absurd v.0
torn_own nodes good outside offset read torn handed way (pack_plan head children validity) row v = absurd v.0
torn_own nodes good outside offset read torn handed way (take_plan head codes values) row v = absurd v.0
torn_own nodes good outside offset read torn handed way (share_plan head child) row v = absurd v.0
torn_own nodes good outside offset read torn handed way (list_plan head elements offsets validity) row v = absurd v.0
torn_own nodes good outside offset read torn handed way (row_idx_plan head) row v = absurd v.0
torn_own nodes good outside offset read torn handed way (scan_plan head segment coding) row v =
    let n : ℕ = v.1.0 in
    let here : head ≡ head_at n (node_at nodes n) = ap plan_head v.1.2 ∙ head_in_table nodes good n v.1.1 in
    let same : n ≡ read.leaf = sym (ap (λ (h : Head). h.number) here) ∙ v.0.0 in
    let leaf : head ≡ head_at read.leaf (node_at nodes read.leaf) = here ∙ ap (λ (m : ℕ). head_at m (node_at nodes m)) same in
    let coded : coding ≡ leaf_coding nodes read.leaf = ap plan_coding v.1.2 ∙ coding_in_table nodes good n v.1.1 ∙ ap (leaf_coding nodes) same in
    let here_torn : SpellNone outside (head_at read.leaf (node_at nodes read.leaf)) (leaf_coding nodes read.leaf) segment = subst (SpellNone outside (head_at read.leaf (node_at nodes read.leaf)) (leaf_coding nodes read.leaf)) (sym v.0.1) torn in
    inl (v.0.1, subst (λ (c : Coding). SpellNone outside head c segment) (sym coded) (subst (λ (h : Head). SpellNone outside h (leaf_coding nodes read.leaf) segment) (sym leaf) here_torn))
torn_own nodes good outside offset read torn handed way (zoned_plan head zones content table) row v = absurd v.0
torn_own nodes good outside offset read torn handed way (pruning_plan head pruning table) row v = absurd v.0

leaf_gap : (read : LeafRead) (handed : Handed) (row : ℕ) → IsLeafRead read handed (plan_gap 0) row → ⊥
leaf_gap read handed row v = v

torn_read : (nodes : List Node) → IsGoodTable nodes → (job : Job) → job.plan < length nodes → (wanted : List Wanted) (split : Split) (outside : Bytes) (segment : ℕ) → Agrees wanted outside → ReadsTorn nodes job wanted split segment → SplitReads (IsTornIn outside segment) nodes job split
torn_read nodes good job there wanted split outside segment agrees (read, reads, is, torn) =
    let handed : Handed = handed_by nodes (Some job.given) in
    let row : ℕ = split.rows.start + reads.0 in
    let bytes : outside read.segment ≡ Some torn.0 = bytes_found wanted outside read.segment torn.0 agrees torn.1 in
    let spell : SpellNone outside (head_at read.leaf (node_at nodes read.leaf)) (leaf_coding nodes read.leaf) read.segment = subst (λ (o : Option (List ℕ)). IsSomeAnd o (λ found. decoded_as (leaf_coding nodes read.leaf) (node_at nodes read.leaf).dtype (node_at nodes read.leaf).rows found ≡ None)) (sym bytes) torn.2 in
    let F : ℕ → Type 0 = λ s. SplitReads (IsTornIn outside s) nodes job split in
    subst F is (
      reads.0,
      reads.1,
      visit_found (InTable nodes (IsLeafRead read)) (IsTornIn outside read.segment) job.offset (torn_own nodes good outside job.offset read spell) handed (plan_at nodes job.plan) directly row
          (visit_placed (IsLeafRead read) (leaf_gap read) nodes good job.plan there handed row reads.2),
    )

-- ---- causes

pub split_cause : (nodes : List Node) → IsGoodTable nodes → (job : Job) → job.plan < length nodes → AreTyped nodes job.given → (wanted : List Wanted) (split : Split) (outside : Bytes) (error : StepError) → UnlessList error (Agrees wanted outside) → HasCauseIn nodes job wanted split outside error → IsSplitCause nodes job split outside error
split_cause nodes good job there typed wanted split outside (BadSegment segment) agrees has = torn_read nodes good job there wanted split outside segment agrees has
split_cause nodes good job there typed wanted split outside (Unsupported list) agrees has = cause_read (leaves_of outside) (handed_by nodes (Some job.given)) job.offset (plan_at nodes job.plan) split.rows.start split.mask (Unsupported list) (typed_fit nodes good job.given typed job.plan there) has
split_cause nodes good job there typed wanted split outside (BadCode take row) agrees has = cause_read (leaves_of outside) (handed_by nodes (Some job.given)) job.offset (plan_at nodes job.plan) split.rows.start split.mask (BadCode take row) (typed_fit nodes good job.given typed job.plan there) has
split_cause nodes good job there typed wanted split outside (EvalFault row) agrees has = cause_read (leaves_of outside) (handed_by nodes (Some job.given)) job.offset (plan_at nodes job.plan) split.rows.start split.mask (EvalFault row) (typed_fit nodes good job.given typed job.plan there) has
split_cause nodes good job there typed wanted split outside Memory agrees has = has
