-- The outcome of a chunk among those of one source, from the run of its scan.
use Rattle.std.proofs.Common.{◌≡◌, ℕ, ◌+◌, ◌<◌, ◌≤◌, ◌⊎◌, inl, inr, ⊎_elim, Bool, true, List, [], ◌∷◌, ◌++◌, Option, Some, None, Ok, Err, length, refl, sym, ap, ◌∙◌, subst, arith}
use Rattle.std.specs.Prelude.{if◌then◌else◌, max, IfErr, IfSome, Result}
use Rattle.std.proofs.lemmas.Bool.{cases_lt, lt-ltb}
use Rattle.std.proofs.lemmas.List.Elements.{All-weaker}
use Rattle.std.proofs.lemmas.Option.{slice_get_within}
use Rattle.vx_rows.specs.SegmentLeaves.{Bytes, leaves_of}
use Rattle.vx_plan.specs.Nodes.{Node}
use Rattle.vx_plan.specs.Refs.{number_of}
use Rattle.vx_plan.specs.Rules.{node_at}
use Rattle.vx_plan.specs.Tables.{IsGoodTable}
use Rattle.vx_steps.specs.declared.errors.StepError.{StepError}
use Rattle.vx_steps.specs.declared.jobs.Job.{Job}
use Rattle.vx_steps.specs.declared.leaf_reads.LeafRead.{LeafRead}
use Rattle.vx_steps.specs.declared.splits.Split.{Split}
use Rattle.vx_steps.specs.Jobs.{KeepsColumns}
use Rattle.vx_steps.specs.Held.{AreMade, AreTyped}
use Rattle.vx_steps.specs.Kept.{AreOfDistinctPlans, kept_at, IsKept}
use Rattle.vx_steps.specs.KeptData.{Kept}
use Rattle.vx_steps.specs.Leavings.{behind_all, IsLeafOf, IsReadBehind, RowReads}
use Rattle.vx_steps.specs.Offers.{IsForLeaf, IsForPlan, Keeps}
use Rattle.vx_steps.specs.ScanData.{ScanData}
use Rattle.vx_steps.specs.Visits.{IsLeafRead}
use Rattle.vx_steps.specs.Wholes.{IsThere}
use Rattle.vx_steps.proofs.Fitting.{kept_among, kept_first, leaves_fitting, made_fitting, stays_fitting}
use Rattle.vx_steps.proofs.LeafShapes.{leaf_counts}
use Rattle.vx_steps.proofs.WeakerVisits.{leaf_read, weaker_visit}
use Rattle.vx_splits.specs.declared.selected_rows.SelectedRows.{SelectedRows}
use Rattle.vx_drive.specs.declared.errors.ScanError.{ScanError}
use Rattle.vx_drive.specs.declared.errors.ScanError.TheVariants.{Memory}
use Rattle.vx_drive.specs.declared.plans.ScanPlans.{ScanPlans}
use Rattle.vx_drive.specs.declared.runs.Finished.{Finished}
use Rattle.vx_drive.specs.Asks.{AsksOnly}
use Rattle.vx_drive.specs.Finished.{Finishes}
use Rattle.vx_drive.specs.Plans.{bytes_of, projection_plan, IsChunkOf}
use Rattle.vx_drive.specs.Runs.{LeavesFault, row_fault}
use Rattle.vx_chunks.specs.declared.outcomes.HandedOn.{HandedOn}
use Rattle.vx_chunks.specs.declared.outcomes.Ran.{Ran}
use Rattle.vx_chunks.specs.ChunkRows.{given_to, ChunkFailsInside, ChunkVisits}
use Rattle.vx_chunks.specs.ChunkScans.{IsChunkScan}
use Rattle.vx_chunks.specs.LeafRows.{IsReadAt, row_behind, split_in}
use Rattle.vx_chunks.specs.Outcomes.{AreAllThere, AreOwn, CanHandOn, Causes, ChunkAsks, Claims, GivesPiece, HandsLeavesRead, IsGivenOrMade, IsHandedBy, IsWanted, LendsLeaves, RunsOn, RunsOnly, data_of, told_on}
use Rattle.vx_chunks.specs.Pieces.{PieceOf}
use Rattle.vx_chunks.proofs.AddedVisits.{AreBehind, KeepsBoth, are_behind, cause_added, gives_added, keeps_both, kept_behind, kept_in_either, kept_in_front}
use Rattle.vx_chunks.proofs.ChunkOutcomes.{asks_nothing, chunk_causes, chunk_content, chunk_error, chunk_faults, chunk_leaves, chunk_there, lasts_cleared, leaves_in, made_in, none_kept, there_as, typed_in}
use Rattle.vx_chunks.proofs.ChunkScanning.{IsGoodChunk, good_chunk}
use Rattle.vx_chunks.proofs.ChunkViews.{Claimable, asks_wanted, fault_left}
use Rattle.vx_base.specs.Columns.{ColumnData}
use Rattle.vx_base.specs.Sources.{SourceState, Cleared}

-- ---- what is claimed

claim_on : (plans : ScanPlans) (chosen : SelectedRows) (handed : HandedOn) (given leaves made : List Kept) (start : ScanData) (before : SourceState) → CanHandOn plans handed → Keeps (IsForLeaf plans.table) (data_of handed.leaves.items) leaves → Keeps (IsForPlan plans.table) (data_of handed.made.items) made →
    IsChunkScan plans chosen given leaves made start → Claimable plans start before (told_on plans handed before)
claim_on plans chosen handed given leaves made start before can fits_leaves fits_made is P holds file told by =
    holds file told (is.told (bytes_of plans file) (record {
      leaves_are = leaves_fitting plans.table (data_of handed.leaves.items) leaves (leaves_of (bytes_of plans file)) can.leaves fits_leaves by.leaves_are;
      made_are = made_fitting plans.table plans.row_offset (data_of handed.made.items) made (leaves_of (bytes_of plans file)) can.made fits_made by.made_are;
    }))

-- ---- the leaves of a chunk among those of one source

-- the row behind a chunk that has rows
behind_it : (chunk : SelectedRows) → chunk.scope.rows.start < chunk.scope.rows.end → row_behind chunk ≡ behind_all (split_in chunk ∷ [])
behind_it chunk some = sym (ap (λ (b : Bool). max (if b then chunk.scope.rows.end else 0) 0) (lt-ltb chunk.scope.rows.start chunk.scope.rows.end some) ∙ omega arith)

-- what it reads, the row behind the scan's split reads
read_behind : (plans : ScanPlans) (chosen : SelectedRows) (given leaves made : List Kept) (start scan : ScanData) (leaf : ℕ) → chosen.scope.rows.start < chosen.scope.rows.end → IsChunkScan plans chosen given leaves made start → scan.nodes ≡ start.nodes → scan.job ≡ start.job → IsReadAt plans (row_behind chosen) leaf → IsReadBehind scan.nodes scan.job leaf
read_behind plans chosen given leaves made start scan leaf some is same_nodes same_job read =
    let nodes : scan.nodes ≡ plans.table = same_nodes ∙ is.nodes in
    let plan : scan.job.plan ≡ number_of plans.projection = ap (λ (j : Job). j.plan) same_job ∙ is.plan in
    let splits : scan.job.splits.items ≡ split_in chosen ∷ [] = ap (λ (j : Job). j.splits.items) same_job ∙ is.unread.splits ∙ ap (λ (s : Split). s ∷ []) is.split in
    let R : List Node → ℕ → List Split → Type 0 = λ ns n ss. (behind_all ss < (node_at ns n).rows) × RowReads ns n (behind_all ss) leaf in
    subst (λ (ns : List Node). R ns scan.job.plan scan.job.splits.items) (sym nodes)
    (subst (λ (n : ℕ). R plans.table n scan.job.splits.items) (sym plan)
    (subst (λ (ss : List Split). R plans.table (number_of plans.projection) ss) (sym splits) (subst (λ (row : ℕ). IsReadAt plans row leaf) (behind_it chosen some) read)))

-- and its column is handed on
leaf_on : (scan : ScanData) (after : List Kept) (leaf : ℕ) → Keeps (λ one. IsReadBehind scan.nodes scan.job one.node) scan.progress.leaves after → IsReadBehind scan.nodes scan.job leaf → IsKept scan.progress.leaves leaf → IsKept after leaf
leaf_on scan after leaf keeps read (column, at) = (column, kept_first (λ one. IsReadBehind scan.nodes scan.job one.node) scan.progress.leaves after leaf column keeps read at)

-- a leaf that was handed in counts, if a row of the plan reads it
leaf_in : (plans : ScanPlans) (leaves : List Kept) (handed : HandedOn) → CanHandOn plans handed → Keeps (IsForLeaf plans.table) (data_of handed.leaves.items) leaves → IsGoodTable plans.table → number_of plans.projection < length plans.table →
    (leaf row : ℕ) → RowReads plans.table (number_of plans.projection) row leaf → IsKept (data_of handed.leaves.items) leaf → IsKept leaves leaf
leaf_in plans leaves handed can fits good there leaf row reads (column, at) =
    (column, leaf_counts plans.table good (number_of plans.projection) there leaf row reads (data_of handed.leaves.items) leaves column can.leaves fits at)

none_or : (columns : Option ColumnData) → ((column : ColumnData) → columns ≡ Some column → ⊥) → columns ≡ None
none_or None never = refl
none_or (Some column) never = absurd (never column refl)

wanted_on : (plans : ScanPlans) (chosen : SelectedRows) (given leaves : List Kept) (handed : HandedOn) → CanHandOn plans handed → Keeps (IsForLeaf plans.table) (data_of handed.leaves.items) leaves → IsGoodTable plans.table → number_of plans.projection < length plans.table →
    (segment : ℕ) → IsWanted plans given leaves chosen segment → IsWanted plans given (data_of handed.leaves.items) chosen segment
wanted_on plans chosen given leaves handed can fits good there segment is =
    let read : LeafRead = record { leaf = is.leaf; segment = segment } in
    let row : ℕ = chosen.scope.rows.start + is.visited.0 in
    let reads : RowReads plans.table (number_of plans.projection) row is.leaf =
    weaker_visit (IsLeafRead read) (IsLeafOf is.leaf) (leaf_read read) (given_to plans given) (projection_plan plans) row is.visited.2 in
    record {
      leaf = is.leaf;
      visited = is.visited;
      not_handed = none_or (kept_at (data_of handed.leaves.items) is.leaf) (λ column at.
          let kept : IsKept leaves is.leaf = leaf_in plans leaves handed can fits good there is.leaf row reads (column, at) in
          let both : None ≡ Some kept.0 = sym is.not_handed ∙ kept.1 in
          cc);
      reached = is.reached;
    }

asks_on : (plans : ScanPlans) (chosen : SelectedRows) (given leaves : List Kept) (handed : HandedOn) (before after : SourceState) → CanHandOn plans handed → Keeps (IsForLeaf plans.table) (data_of handed.leaves.items) leaves → IsGoodTable plans.table → number_of plans.projection < length plans.table →
    AsksOnly (IsWanted plans given leaves chosen) plans.locations.items before after → AsksOnly (IsWanted plans given (data_of handed.leaves.items) chosen) plans.locations.items before after
asks_on plans chosen given leaves handed before after can fits good there asks = record {
  segments = asks.segments;
  asks = asks.asks;
  wanted = All-weaker (IsWanted plans given leaves chosen) (IsWanted plans given (data_of handed.leaves.items) chosen) (wanted_on plans chosen given leaves handed can fits good there) asks.segments asks.wanted;
}

stay_on : (n : ℕ) (old new : List Kept) → KeepsColumns old new → IsKept old n → IsKept new n
stay_on n old new keeps (column, at) = (column, keeps n column at)

given_or_made : (given made : List Kept) (n : ℕ) (scan : ScanData) → made ≡ scan.progress.wholes.made → IsThere given scan.progress.wholes n → IsGivenOrMade given made n
given_or_made given made n scan same (inl (is, used)) = inl is
given_or_made given made n scan same (inr (none, kept)) = inr (subst (λ (ks : List Kept). IsKept ks n) (sym same) kept)

-- what a fault leaves, of what was given and made
fault_leaves : (plans : ScanPlans) (chosen : SelectedRows) (handed : HandedOn) (given leaves made after : List Kept) (start scan : ScanData) (before : SourceState) (error : ScanError) → IsChunkScan plans chosen given leaves made start → Claimable plans start before (told_on plans handed before) → after ≡ scan.progress.wholes.made →
    IfSome (row_fault error) (LeavesFault plans.locations.items start scan before) → IfSome (row_fault error) (λ fault. AreAllThere plans given after chosen ⊎ told_on plans handed before (λ bytes. ChunkFailsInside (leaves_of bytes) plans given chosen fault))
fault_leaves plans chosen handed given leaves made after start scan before error is claim same = of_fault (row_fault error)
  where
    of_fault : (fault : Option StepError) → IfSome fault (LeavesFault plans.locations.items start scan before) → IfSome fault (λ one. AreAllThere plans given after chosen ⊎ told_on plans handed before (λ bytes. ChunkFailsInside (leaves_of bytes) plans given chosen one))
    of_fault None left = tt
    of_fault (Some fault) left =
        ⊎_elim
        (λ (there : (n : ℕ) → ChunkAsks plans given chosen n → IsThere given scan.progress.wholes n). inl (λ n asks. given_or_made given after n scan same (there n asks)))
        (λ (inside : told_on plans handed before (λ bytes. ChunkFailsInside (leaves_of bytes) plans given chosen fault)). inr inside)
        (fault_left (told_on plans handed before) plans chosen given leaves made start scan before fault is claim left)

pub error_as : {X : Type 0} (piece : Result X ScanError) (P Q : ScanError → Type 0) → ((error : ScanError) → P error → Q error) → IfErr piece P → IfErr piece Q
error_as (Ok x) P Q f holds = tt
error_as (Err error) P Q f holds = f error holds

-- they have the dtypes and the rows of their plans
own_typed : (plans : ScanPlans) (chosen : SelectedRows) (made own : List Kept) → AreOwn plans chosen made own → AreTyped plans.table made → AreTyped plans.table own
own_typed plans chosen made own are typed n column at = typed n column (are.from n column at)

-- what is claimed of bytes by which those of the made values that the chunk asks for, and that fit, are whole
made_claim : (plans : ScanPlans) (chosen : SelectedRows) (handed : HandedOn) (own more : List Kept) (before : SourceState) → CanHandOn plans handed → AreOwn plans chosen (data_of handed.made.items) own → Keeps (IsForPlan plans.table) own more →
    (P Q : Bytes → Type 0) → ((bytes : Bytes) → AreMade plans.table plans.row_offset more (leaves_of bytes) → P bytes → Q bytes) → told_on plans handed before P → told_on plans handed before Q
made_claim plans chosen handed own more before can are fits P Q to claim file told by =
    to (bytes_of plans file) (made_fitting plans.table plans.row_offset own more (leaves_of (bytes_of plans file)) (own_typed plans chosen (data_of handed.made.items) own are can.made) fits (λ n column at. by.made_are n column (are.from n column at))) (claim file told by)

-- a chunk of which a row reads a leaf has rows
some_row : (plans : ScanPlans) (chosen : SelectedRows) (given : List Kept) (read : LeafRead) → IsChunkOf plans chosen → ChunkVisits (IsLeafRead read) plans given chosen → chosen.scope.rows.start < chosen.scope.rows.end
some_row plans chosen given read is visits =
    let less : visits.0 < length chosen.mask = slice_get_within chosen.mask visits.0 true visits.1 in
    let size = is.mask in
    omega (arith, less, size)

pub runs_on : (plans : ScanPlans) (chosen : SelectedRows) (handed : HandedOn) (given own all leaves made : List Kept) (start : ScanData) (finished : Finished) (ran : Ran) (before after : SourceState) → IsChunkOf plans chosen → LendsLeaves chosen handed → CanHandOn plans handed → AreOwn plans chosen (data_of handed.made.items) own → Keeps (IsForPlan plans.table) (given ++ own) all
    → Keeps (IsForLeaf plans.table) (data_of handed.leaves.items) leaves → Keeps (IsForPlan plans.table) (data_of handed.made.items) made → IsChunkScan plans chosen all leaves made start → Finishes plans.locations.items plans.idle_limit start finished before after → PieceOf plans finished.output ran.piece
    → ran.handed.leaves ≡ finished.kept.leaves → ran.handed.made ≡ finished.kept.made → AreOfDistinctPlans (data_of ran.handed.made.items) → RunsOnly plans chosen handed given ran before after
runs_on plans chosen handed given own all leaves made start finished ran before after chunk lends can are fits_all fits_leaves fits_made is done piece same_leaves same_made apart =
    let scan : ScanData = done.scan in
    let gives = done.gives in
    let kept_leaves : data_of ran.handed.leaves.items ≡ data_of finished.kept.leaves.items = λ i. data_of (same_leaves i).items in
    let kept_made : data_of ran.handed.made.items ≡ scan.progress.wholes.made = (λ i. data_of (same_made i).items) ∙ done.kept.made in
    let claim = claim_on plans chosen handed all leaves made start before can fits_leaves fits_made is in
    let keeps : Keeps (λ one. IsReadBehind scan.nodes scan.job one.node) scan.progress.leaves (data_of ran.handed.leaves.items) = subst (Keeps (λ one. IsReadBehind scan.nodes scan.job one.node) scan.progress.leaves) (sym kept_leaves) done.kept.leaves in
    let good : IsGoodTable plans.table = subst IsGoodTable is.nodes is.unread.good in
    let there : number_of plans.projection < length plans.table = let known = is.unread.known in let nodes = ap length is.nodes in let plan = is.plan in omega (arith, known, nodes, plan) in
    let both : KeepsBoth (IsForPlan plans.table) given own all = keeps_both (IsForPlan plans.table) given own all fits_all in
    let fitting : List Kept = both.front in
    let more : List Kept = both.back in
    let behind : AreBehind fitting more all = subst (AreBehind fitting more) (sym both.is) (are_behind fitting more) in
    let inside : IsGoodChunk plans chosen = good_chunk plans chosen good there chunk in
    let Told : Claims = told_on plans handed before in
    let claim_made = made_claim plans chosen handed own more before can are both.keeps_back in
    let on : chosen.scope.rows.start < chosen.scope.rows.end → (leaf : ℕ) → IsReadAt plans (row_behind chosen) leaf → IsKept scan.progress.leaves leaf → IsKept (data_of ran.handed.leaves.items) leaf = λ some leaf read kept.
    leaf_on scan (data_of ran.handed.leaves.items) leaf keeps (read_behind plans chosen all leaves made start scan leaf some is gives.nodes gives.job read) kept in
    record {
      runs = record {
        fitting = fitting;
        fits = inl both.keeps_front;
        all = all;
        stand = record {
          has_given = λ n kept. kept_in_front fitting more all n behind kept;
          has_made = λ n known asks kept.
              (let here : IsKept own n = are.asked n asks kept in
              kept_behind fitting more all n behind (here.0, stays_fitting plans.table own more n here.0 (own_typed plans chosen (data_of handed.made.items) own are can.made) both.keeps_back known here.1));
        };
        runs = record {
          content = there_as ran.piece (GivesPiece Told plans all chosen) (GivesPiece Told plans fitting chosen) (λ column. gives_added plans chosen fitting more all inside behind Told column claim_made)
              (chunk_content Told plans chosen all leaves made start scan before after finished.output ran.piece is claim gives.answer piece);
          cause = error_as ran.piece (λ error. Causes Told plans all chosen error before after) (λ error. Causes Told plans fitting chosen error before after) (λ error. cause_added plans chosen fitting more all inside behind Told error before after claim_made)
              (chunk_causes Told plans chosen all leaves made start scan before after finished.output ran.piece is claim gives.answer piece);
          asks = asks_on plans chosen all leaves handed before after can fits_leaves good there (asks_wanted plans chosen all leaves made start before after is gives.asks);
          more = record {
            can = record {
              leaves = typed_in plans chosen all leaves made (data_of finished.kept.leaves.items) (data_of ran.handed.leaves.items) start scan is gives.nodes kept_leaves done.kept.typed_leaves;
              made = typed_in plans chosen all leaves made scan.progress.wholes.made (data_of ran.handed.made.items) start scan is gives.nodes kept_made done.kept.typed_made;
              apart = apart;
            };
            by_file = claim (IsHandedBy plans ran.handed) (λ file told held. record {
              leaves_are = leaves_in plans chosen all leaves made (data_of ran.handed.leaves.items) start scan (bytes_of plans file) is gives.nodes keeps (gives.told file told held);
              made_are = made_in plans chosen all leaves made (data_of ran.handed.made.items) start scan (bytes_of plans file) is gives.nodes gives.job kept_made (gives.told file told held);
            });
            stays = λ n column known at. subst (λ (ks : List Kept). kept_at ks n ≡ Some column) (sym kept_made)
                (gives.wholes.made n column (subst (λ (ks : List Kept). kept_at ks n ≡ Some column) (sym is.made_are) (stays_fitting plans.table (data_of handed.made.items) made n column can.made fits_made known at)));
            there = there_as ran.piece (λ column. (n : ℕ) → ChunkAsks plans all chosen n → IsThere all scan.progress.wholes n) (λ column. AreAllThere plans all (data_of ran.handed.made.items) chosen)
                (λ column there n asks. given_or_made all (data_of ran.handed.made.items) n scan kept_made (there n asks))
                (chunk_there plans chosen all leaves made start scan before after finished.output ran.piece is gives.answer piece);
            left = error_as ran.piece (λ error. IfSome (row_fault error) (LeavesFault plans.locations.items start scan before))
                (λ error. IfSome (row_fault error) (λ fault. AreAllThere plans all (data_of ran.handed.made.items) chosen ⊎ told_on plans handed before (λ bytes. ChunkFailsInside (leaves_of bytes) plans all chosen fault)))
                (λ error. fault_leaves plans chosen handed all leaves made (data_of ran.handed.made.items) start scan before error is claim kept_made)
                (chunk_error (λ error. IfSome (row_fault error) (LeavesFault plans.locations.items start scan before)) plans finished.output ran.piece tt piece gives.left);
            leaves_stay = λ leaf read kept.
                ⊎_elim
                (λ (some : chosen.scope.rows.start < chosen.scope.rows.end). on some leaf read
                (stay_on leaf start.progress.leaves scan.progress.leaves gives.leaves
                (subst (λ (ks : List Kept). IsKept ks leaf) (sym is.leaves_are) (leaf_in plans leaves handed can fits_leaves good there leaf (row_behind chosen) read.1 kept))))
                (λ (none : chosen.scope.rows.end ≤ chosen.scope.rows.start). absurd (none_kept (data_of handed.leaves.items) leaf (lends none) kept))
                (cases_lt chosen.scope.rows.start chosen.scope.rows.end);
            leaves_there = there_as ran.piece (λ column. (read : LeafRead) → ChunkVisits (IsLeafRead read) plans all chosen → IsKept scan.progress.leaves read.leaf) (λ column. HandsLeavesRead plans chosen all (data_of ran.handed.leaves.items))
                (λ column have read past visits. on (some_row plans chosen all read chunk visits) read.leaf past (have read visits))
                (chunk_leaves plans chosen all leaves made start scan before after finished.output ran.piece is gives.answer piece);
          };
          faults = chunk_faults plans before after finished.output ran.piece piece gives.faults;
          lasts = gives.lasts;
          in_flight = done.in_flight;
        };
      };
      only = λ n kept.
          ⊎_elim (λ (here : IsKept fitting n). inl (kept_among (IsForPlan plans.table) given fitting n here.0 both.keeps_front here.1))
          (λ (there : IsKept more n). inr (let first = kept_among (IsForPlan plans.table) own more n there.0 both.keeps_back there.1 in (first.0, are.from n first.0 first.1))) (kept_in_either fitting more all n behind kept);
    }

pub lacks_on : (plans : ScanPlans) (chosen : SelectedRows) (handed : HandedOn) (given : List Kept) (ran : Ran) (before after : SourceState) → CanHandOn plans handed → ran.piece ≡ Err Memory → ran.handed ≡ handed → Cleared before after → RunsOn plans chosen handed given ran before after
lacks_on plans chosen handed given ran before after can lacks same clears = record {
  fitting = [];
  fits = inr (lacks, refl);
  all = data_of handed.made.items;
  stand = record { has_given = λ n kept. let none = kept.1 in absurd cc; has_made = λ n known asks kept. kept };
  runs = record {
    content = rw lacks tt;
    cause = rw lacks tt;
    asks = asks_nothing (IsWanted plans (data_of handed.made.items) (data_of handed.leaves.items) chosen) plans.locations.items before after clears.asked;
    more = record {
      can = subst (CanHandOn plans) (sym same) can;
      by_file = λ file told by. subst (λ (h : HandedOn). IsHandedBy plans h (bytes_of plans file)) (sym same) by;
      stays = λ n column known at. subst (λ (h : HandedOn). kept_at (data_of h.made.items) n ≡ Some column) (sym same) at;
      there = rw lacks tt;
      left = rw lacks tt;
      leaves_stay = λ leaf read kept. subst (λ (h : HandedOn). IsKept (data_of h.leaves.items) leaf) (sym same) kept;
      leaves_there = rw lacks tt;
    };
    faults = inl clears.faults;
    lasts = lasts_cleared before after clears;
    in_flight = clears.in_flight;
  };
}

pub lacks_only : (plans : ScanPlans) (chosen : SelectedRows) (handed : HandedOn) (given : List Kept) (ran : Ran) (before after : SourceState) → CanHandOn plans handed → ran.piece ≡ Err Memory → ran.handed ≡ handed → Cleared before after → RunsOnly plans chosen handed given ran before after
unfolding lacks_on
lacks_only plans chosen handed given ran before after can lacks same clears = record { runs = lacks_on plans chosen handed given ran before after can lacks same clears; only = λ n kept. inr kept }
