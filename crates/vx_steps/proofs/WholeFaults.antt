-- Faults inside whole values that selected rows ask for.
use Rattle.std.proofs.Common.{◌≡◌, ℕ, ◌+◌, ◌-◌, inl, inr, Bool, true, List, Option, Some, None, Err, length, sym, subst, arith}
use Rattle.std.proofs.lemmas.Option.{slice_get_within}
use Rattle.std.specs.Prelude.{nat_lt}
use Rattle.vx_rows.specs.Derivations.{Leaves}
use Rattle.vx_plan.specs.Nodes.{Node}
use Rattle.vx_plan.specs.Plans.{Plan, Plans, PlanValidity, no_plans, plan, all_valid, valid_as, no_plan, plan_head, plan_at, concat_plan, eval_plan, filter_plan, pack_plan, take_plan, share_plan, list_plan, row_idx_plan, scan_plan, zoned_plan, pruning_plan}
use Rattle.vx_plan.specs.Refs.{number_of}
use Rattle.vx_plan.specs.Rules.{node_at}
use Rattle.vx_steps.specs.declared.leaf_reads.LeafRead.{LeafRead}
use Rattle.vx_steps.specs.declared.errors.StepError.{StepError}
use Rattle.vx_steps.specs.declared.errors.StepError.TheVariants.{Unsupported, BadSegment, BadCode, EvalFault, Memory}
use Rattle.vx_steps.specs.Computed.{kept_in, whole_in, AreReadyWhole, Computes, HasCause, HasWholeCause}
use Rattle.vx_steps.specs.Given.{Handed}
use Rattle.vx_steps.specs.Held.{Held, IsBy, handed_in}
use Rattle.vx_steps.specs.KeptData.{Kept}
use Rattle.vx_steps.specs.Kept.{kept_at}
use Rattle.vx_steps.specs.Needs.{IsUnderWhole, NoneGiven}
use Rattle.vx_steps.specs.Visits.{Test, Visits, VisitsIn, VisitsField, VisitsValidity, SomeVisit, SomeWholeVisit, HasBadCode, HasEvalFault, IsListRead, IsLeafRead}
use Rattle.vx_steps.specs.Wholes.{AreReadyInside, FailsInside, HasInsideCause, Inside, KeepsValues, WholeFails}
use Rattle.vx_steps.proofs.ComputedRows.{VisitsUp, cause_up, memory_computed, none_kept}
use Rattle.vx_steps.proofs.Premises.{unless_by}
use Rattle.vx_steps.proofs.WholeMaking.{holding}
use Rattle.vx_steps.proofs.PlacedVisits.{match_mapped, visit_mapped}

-- ---- while whole values are made each visit is inside them

mutual
  pub inside : (P : Test) (p : Plan) (row : ℕ) → Visits P None p row → Visits (Inside P) None p row
  inside P (no_plan head) row v = v
  inside P (concat_plan head children) row (inl v) = inl v
  inside P (concat_plan head children) row (inr v) = inr (inside_in P children row v)
  inside P (eval_plan head e child) row (inl v) = inl v
  inside P (eval_plan head e child) row (inr v) = inr (inside P child row v)
  inside P (filter_plan head child) row (inl v) = inl v
  inside P (filter_plan head child) row (inr v) = inr (inside P child row v)
  inside P (pack_plan head children validity) row (inl v) = inl v
  inside P (pack_plan head children validity) row (inr (inl v)) = inr (inl (inside_fields P children row v))
  inside P (pack_plan head children validity) row (inr (inr v)) = inr (inr (inside_validity P validity row v))
  inside P (take_plan head codes values) row (inl v) = inl v
  inside P (take_plan head codes values) row (inr (inl v)) = inr (inl (inside P codes row v))
  inside P (take_plan head codes values) row (inr (inr (none, (other, less, v)))) = inr (inr (none, (other, less, inside P values other v)))
  inside P (share_plan head child) row (inl v) = inl v
  inside P (share_plan head child) row (inr (none, (other, less, v))) = inr (none, (other, less, inside P child other v))
  inside P (list_plan head elements offsets validity) row v = v
  inside P (row_idx_plan head) row v = v
  inside P (scan_plan head segment coding) row v = v
  inside P (zoned_plan head zones content table) row (inl v) = inl v
  inside P (zoned_plan head zones content table) row (inr v) = inr (inside P content row v)
  inside P (pruning_plan head pruning table) row (inl v) = inl v
  inside P (pruning_plan head pruning table) row (inr (other, less, v)) = inr (other, less, inside P table other v)

  inside_in : (P : Test) (ps : Plans) (row : ℕ) → VisitsIn P None ps row → VisitsIn (Inside P) None ps row
  inside_in P no_plans row v = v
  inside_in P (plan first rest) row v =
      match_mapped (nat_lt row (plan_head first).rows) (Visits P None first row) (VisitsIn P None rest (row - (plan_head first).rows)) (Visits (Inside P) None first row) (VisitsIn (Inside P) None rest (row - (plan_head first).rows)) (inside P first row) (inside_in P rest (row - (plan_head first).rows)) v

  inside_fields : (P : Test) (ps : Plans) (row : ℕ) → VisitsField P None ps row → VisitsField (Inside P) None ps row
  inside_fields P no_plans row v = v
  inside_fields P (plan first rest) row (inl v) = inl (inside P first row v)
  inside_fields P (plan first rest) row (inr v) = inr (inside_fields P rest row v)

  inside_validity : (P : Test) (validity : PlanValidity) (row : ℕ) → VisitsValidity P None validity row → VisitsValidity (Inside P) None validity row
  inside_validity P all_valid row v = v
  inside_validity P (valid_as p) row v = inside P p row v

some_inside : (P : Test) (p : Plan) (start : ℕ) (bits : List Bool) → SomeVisit P None p start bits → SomeVisit (Inside P) None p start bits
some_inside P p start bits r = (r.0, r.1, inside P p (start + r.0) r.2)

cause_inside : (leaves : Leaves) (offset : ℕ) (p : Plan) (start : ℕ) (bits : List Bool) (fault : StepError) → HasCause leaves None offset p start bits fault → HasInsideCause leaves None offset p start bits fault
cause_inside leaves offset p start bits (Unsupported n) h = some_inside (IsListRead (number_of n)) p start bits h
cause_inside leaves offset p start bits (BadSegment s) h = absurd h
cause_inside leaves offset p start bits (BadCode n at) h = some_inside (HasBadCode leaves offset (number_of n) at) p start bits h
cause_inside leaves offset p start bits (EvalFault at) h = some_inside (HasEvalFault leaves offset at) p start bits h
cause_inside leaves offset p start bits Memory h = tt

-- ---- up from a child

inside_up : (leaves : Leaves) (offset : ℕ) (handed : Handed) (p : Plan) (start : ℕ) (bits : List Bool) (handed2 : Handed) (q : Plan) (start2 : ℕ) (bits2 : List Bool) → VisitsUp handed p start bits handed2 q start2 bits2 →
    (fault : StepError) → HasInsideCause leaves handed offset p start bits fault → HasInsideCause leaves handed2 offset q start2 bits2 fault
inside_up leaves offset handed p start bits handed2 q start2 bits2 up (Unsupported n) h = up (Inside (IsListRead (number_of n))) h
inside_up leaves offset handed p start bits handed2 q start2 bits2 up (BadSegment s) h = absurd h
inside_up leaves offset handed p start bits handed2 q start2 bits2 up (BadCode n at) h = up (Inside (HasBadCode leaves offset (number_of n) at)) h
inside_up leaves offset handed p start bits handed2 q start2 bits2 up (EvalFault at) h = up (Inside (HasEvalFault leaves offset at)) h
inside_up leaves offset handed p start bits handed2 q start2 bits2 up Memory h = tt

-- the child's fault is the plan's
pub inside_by : (h : Held) (child start : ℕ) (bits : List Bool) (n start2 : ℕ) (bits2 : List Bool) → VisitsUp (handed_in h) (plan_at h.nodes child) start bits (handed_in h) (plan_at h.nodes n) start2 bits2 → (error : StepError) → FailsInside h child start bits error → FailsInside h n start2 bits2 error
inside_by h child start bits n start2 bits2 up error fails by are = inside_up by h.offset (handed_in h) (plan_at h.nodes child) start bits (handed_in h) (plan_at h.nodes n) start2 bits2 up error (fails by are)

-- by more values it is by the leaves that the old ones are by
pub still_inside : (nodes : List Node) (leaves : List Kept) (given : Option (List Kept)) (offset : ℕ) (old new : List Kept) → KeepsValues nodes leaves offset old new → (n start : ℕ) (bits : List Bool) (error : StepError) → FailsInside (holding nodes leaves given offset new) n start bits error → FailsInside (holding nodes leaves given offset old) n start bits error
still_inside nodes leaves given offset old new keeps n start bits error fails by are =
    fails by (unless_by error (IsBy (holding nodes leaves given offset old) by) (IsBy (holding nodes leaves given offset new) by) (λ is. record { leaves_are = is.leaves_are; made_are = keeps.right by is.leaves_are is.made_are }) are)

-- ---- whole values

memory_inside : (h : Held) (n start : ℕ) (bits : List Bool) (error : StepError) → error ≡ Memory → FailsInside h n start bits error
memory_inside h n start bits error memory =
    let F : StepError → Type 0 = λ e. FailsInside h n start bits e in
    subst F (sym memory) (λ by are. tt)

none_for : (given : Option (List Kept)) (n : ℕ) → kept_in given n ≡ None → NoneGiven given n
none_for None n e = tt
none_for (Some kept) n e = e

-- a place of all rows is a row
whole_row : (P : Test) (p : Plan) (bits : List Bool) (rows : ℕ) → length bits ≡ rows → SomeVisit P None p 0 bits → SomeWholeVisit P p rows
whole_row P p bits rows long r = (0 + r.0, omega (arith, slice_get_within bits r.0 true r.1), r.2)

not_given : (h : Held) (number : ℕ) → whole_in h number ≡ None → NoneGiven h.given number
not_given h number none = none_for h.given number (none_kept (kept_in h.given number) (kept_at h.made number) none)

-- what all rows of the child visit is visited, where no whole values were handed in for the number
abbrev pub WholeUp : Held → ℕ → ℕ → ℕ → ℕ → List Bool → Type 1
WholeUp h number child n start bits = (P : Test) → IsUnderWhole h.nodes h.given number P child → SomeVisit P (handed_in h) (plan_at h.nodes n) start bits

pub whole_inside : (h : Held) (number child n start : ℕ) (bits : List Bool) → WholeUp h number child n start bits → (error : StepError) → WholeFails h number child error → FailsInside h n start bits error
whole_inside h number child n start bits up error (inl memory) by are = memory_inside h n start bits error memory by are
whole_inside h number child n start bits up error (inr (none, computed)) by are =
    let w : HasWholeCause by h.offset (plan_at h.nodes child) (node_at h.nodes child).rows error = computed by are in
    inside_up by h.offset None (plan_at h.nodes child) 0 w.0 (handed_in h) (plan_at h.nodes n) start bits (λ P r. up P (not_given h number none, whole_row P (plan_at h.nodes child) w.0 (node_at h.nodes child).rows w.1 r)) error
    (cause_inside by h.offset (plan_at h.nodes child) 0 w.0 error w.2)

pub whole_fails : (h : Held) (number child n start : ℕ) (bits : List Bool) → WholeUp h number child n start bits → (error : StepError) → WholeFails h number child error → Computes h n start bits (Err error)
whole_fails h number child n start bits up error (inl memory) =
    let F : StepError → Type 0 = λ e. Computes h n start bits (Err e) in
    subst F (sym memory) (memory_computed h n start bits)
whole_fails h number child n start bits up error (inr (none, computed)) = failed
  where
    failed : Computes h n start bits (Err error)
    failed by are =
        let w : HasWholeCause by h.offset (plan_at h.nodes child) (node_at h.nodes child).rows error = computed by are in
        cause_up by h.offset None (plan_at h.nodes child) 0 w.0 (handed_in h) (plan_at h.nodes n) start bits (λ P r. up P (not_given h number none, whole_row P (plan_at h.nodes child) w.0 (node_at h.nodes child).rows w.1 r)) error w.2

-- the leaves of whole values are kept
pub whole_ready : (h : Held) (number child n start : ℕ) (bits : List Bool) → WholeUp h number child n start bits → AreReadyInside h n start bits → NoneGiven h.given number → AreReadyWhole h child
whole_ready h number child n start bits up ready none read w = ready read (up (Inside (IsLeafRead read)) (none, (w.0, w.1, inside (IsLeafRead read) (plan_at h.nodes child) w.0 w.2)))

-- what the selected rows read for whole values below, they do above
pub inside_ready_by : (h : Held) (child start : ℕ) (bits : List Bool) (n start2 : ℕ) (bits2 : List Bool) → VisitsUp (handed_in h) (plan_at h.nodes child) start bits (handed_in h) (plan_at h.nodes n) start2 bits2 → AreReadyInside h n start2 bits2 → AreReadyInside h child start bits
inside_ready_by h child start bits n start2 bits2 up ready read v = ready read (up (Inside (IsLeafRead read)) v)

inside_own : (read : LeafRead) (handed : Handed) (p : Plan) (row : ℕ) → Inside (IsLeafRead read) handed p row → IsLeafRead read handed p row
inside_own read None p row h = h
inside_own read (Some given) p row h = absurd h

-- what is read for whole values is read
pub inside_is : (read : LeafRead) (handed : Handed) (p : Plan) (start : ℕ) (bits : List Bool) → SomeVisit (Inside (IsLeafRead read)) handed p start bits → SomeVisit (IsLeafRead read) handed p start bits
inside_is read handed p start bits v = (v.0, v.1, visit_mapped (Inside (IsLeafRead read)) (IsLeafRead read) (inside_own read) handed p (start + v.0) v.2)
