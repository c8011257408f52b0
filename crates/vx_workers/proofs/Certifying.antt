-- Whole values that are made sure of, one plan after another.
use Rattle.std.proofs.Common.{◌≡◌, ◌≢◌, ℕ, ◌<◌, ◌⊎◌, inl, inr, ⊎_elim, true, List, [], ◌∷◌, ◌++◌, ◌+◌, Option, Some, None, Ok, Err, length, map, replicate, refl, sym, ap, ◌∙◌, subst, arith}
use Rattle.std.specs.Prelude.{IfSome, Result}
use Rattle.std.specs.List.{All, AllByRecursion}
use Rattle.std.proofs.lemmas.List.{map-append, length-replicate}
use Rattle.std.proofs.lemmas.List.Elements.{All-nil, All-append, All-head, All-tail}
use Rattle.std.proofs.lemmas.Option.{slice_get_within}
use Rattle.vx_rows.specs.Derivations.{Leaves}
use Rattle.vx_rows.specs.SegmentLeaves.{leaves_of}
use Rattle.vx_plan.specs.declared.children.PlanRef.{PlanRef}
use Rattle.vx_plan.specs.Nodes.{Node}
use Rattle.vx_plan.specs.Plans.{plan_at}
use Rattle.vx_plan.specs.Refs.{number_of}
use Rattle.vx_plan.specs.Rules.{node_at}
use Rattle.vx_steps.specs.declared.leaf_reads.LeafRead.{LeafRead}
use Rattle.vx_steps.specs.Given.{whole_value}
use Rattle.vx_steps.specs.Held.{AreMade, AreTyped}
use Rattle.vx_steps.specs.Kept.{kept_at, IsKept}
use Rattle.vx_steps.specs.KeptData.{Kept}
use Rattle.vx_steps.specs.Offers.{IsForPlan}
use Rattle.vx_steps.specs.Visits.{IsLeafRead}
use Rattle.vx_steps.proofs.Keeping.{kept_old}
use Rattle.vx_steps.proofs.WeakerVisits.{same_read, weaker_visit}
use Rattle.vx_steps.proofs.KeptBehind.{kept_either, kept_last}
use Rattle.vx_io.specs.Fetches.{asked_for}
use Rattle.vx_drive.specs.declared.errors.ScanError.{ScanError}
use Rattle.vx_drive.specs.declared.errors.ScanError.TheVariants.{ReadFault, Memory}
use Rattle.vx_drive.specs.declared.plans.ScanPlans.{ScanPlans}
use Rattle.vx_drive.specs.Asks.{IsLeftClear, KeepsFaults, Lasts, TellsFaults}
use Rattle.vx_drive.specs.Fetched.{AreDistinct, location_of}
use Rattle.vx_drive.specs.Plans.{bytes_of, with_projection}
use Rattle.vx_drive.proofs.Distinct.{apart_from, distinct_by, distinct_none, distinct_then}
use Rattle.vx_drive.proofs.Lasting.{lasts_same, lasts_then}
use Rattle.vx_drive.proofs.Sessions.{asked_nothing, asked_then}
use Rattle.vx_chunks.specs.ChunkRows.{given_to}
use Rattle.vx_chunks.specs.Outcomes.{told_by, IsWanted}
use Rattle.vx_chunks.specs.Values.{all_rows, RunsValues}
use Rattle.vx_chunks.proofs.LastingCauses.{cause_lasts}
use Rattle.vx_workers.specs.Certified.{ValueRead, segment_in, node_and_segment, IsValueRead, error_in, FailsToRead, Certifies}
use Rattle.vx_base.specs.Columns.{ColumnData}
use Rattle.vx_base.specs.Sources.{SourceState}
use Rattle.vx_base.specs.declared.locations.SegmentLocation.{SegmentLocation}
use Rattle.vx_base.proofs.AllFit.{all-append}

-- ---- lists of facts

pub each_weaker : {X : Type 0} (P Q : X → Type 0) → ((x : X) → P x → Q x) → (xs : List X) → AllByRecursion P xs → AllByRecursion Q xs
each_weaker P Q f [] each = tt
each_weaker P Q f (x ∷ xs) each = (f x each.0, each_weaker P Q f xs each.1)

-- ---- no read

pub clear_then : (before now after : SourceState) → IsLeftClear before now → IsLeftClear now after → IsLeftClear before after
clear_then before now after first (inl clear) = inl clear
clear_then before now after first (inr same) = subst (IsLeftClear before) (sym same) first

none_asked : (locations : List SegmentLocation) (source : SourceState) → source.asked ≡ asked_for (map (location_of locations) []) source.asked
none_asked locations source = sym (asked_nothing source.asked)

-- all that is wanted is there already
pub certifies_none : (plans : ScanPlans) (Wants : ℕ → Type 0) (right : List Kept) (source : SourceState) → Certifies plans Wants right right None source source
certifies_none plans Wants right source = record {
  grows = λ n column at. at;
  typed = λ typed. typed;
  right = λ file told made. made;
  cause = tt;
  reads = [];
  are = tt;
  kept = λ none. tt;
  apart = distinct_none;
  located = All-nil (λ segment. segment < length plans.locations.items);
  asked = none_asked plans.locations.items source;
  faults = inl refl;
  lasts = lasts_same source;
  in_flight = inr refl;
}

-- memory lacks
pub certifies_lacking : (plans : ScanPlans) (Wants : ℕ → Type 0) (right : List Kept) (source : SourceState) → Certifies plans Wants right right (Some Memory) source source
certifies_lacking plans Wants right source = record {
  grows = λ n column at. at;
  typed = λ typed. typed;
  right = λ file told made. made;
  cause = inl refl;
  reads = [];
  are = tt;
  kept = λ none. tt;
  apart = distinct_none;
  located = All-nil (λ segment. segment < length plans.locations.items);
  asked = none_asked plans.locations.items source;
  faults = inl refl;
  lasts = lasts_same source;
  in_flight = inr refl;
}

-- ---- one step after another

read_weaker : (plans : ScanPlans) (Wants Others : ℕ → Type 0) → ((n : ℕ) → Wants n → Others n) → (right : List Kept) (read : ValueRead) → IsValueRead plans Wants right read → IsValueRead plans Others right read
read_weaker plans Wants Others f right read is = record { wanted = f read.node is.wanted; known = is.known; lacked = is.lacked; visited = is.visited }

fails_weaker : (plans : ScanPlans) (Wants Others : ℕ → Type 0) → ((n : ℕ) → Wants n → Others n) → (failure : Option ScanError) (before after : SourceState) → IfSome failure (λ error. FailsToRead plans Wants error before after) → IfSome failure (λ error. FailsToRead plans Others error before after)
fails_weaker plans Wants Others f None before after fails = tt
fails_weaker plans Wants Others f (Some error) before after (inl lacks) = inl lacks
fails_weaker plans Wants Others f (Some error) before after (inr (node, wants, known, cause)) = inr (node, f (number_of node) wants, known, cause)

-- what is wanted is wanted for more
pub certifies_weaker : (plans : ScanPlans) (Wants Others : ℕ → Type 0) → ((n : ℕ) → Wants n → Others n) → (old new : List Kept) (failure : Option ScanError) (before after : SourceState) → Certifies plans Wants old new failure before after → Certifies plans Others old new failure before after
certifies_weaker plans Wants Others f old new failure before after step = record {
  grows = step.grows;
  typed = step.typed;
  right = step.right;
  cause = fails_weaker plans Wants Others f failure before after step.cause;
  reads = step.reads;
  are = each_weaker (IsValueRead plans Wants old) (IsValueRead plans Others old) (read_weaker plans Wants Others f old) step.reads step.are;
  kept = step.kept;
  apart = step.apart;
  located = step.located;
  asked = step.asked;
  faults = step.faults;
  lasts = step.lasts;
  in_flight = step.in_flight;
}

-- what lacks later lacked before
pub still_lacking : (old mid : List Kept) (n : ℕ) → ((n : ℕ) (column : ColumnData) → kept_at old n ≡ Some column → kept_at mid n ≡ Some column) → kept_at mid n ≡ None → (found : Option ColumnData) → kept_at old n ≡ found → kept_at old n ≡ None
still_lacking old mid n grows lacks None at = at
still_lacking old mid n grows lacks (Some column) at =
    let both : None ≡ Some column = sym lacks ∙ grows n column at in
    absurd cc

read_before : (plans : ScanPlans) (Wants : ℕ → Type 0) (old mid : List Kept) → ((n : ℕ) (column : ColumnData) → kept_at old n ≡ Some column → kept_at mid n ≡ Some column) → (read : ValueRead) → IsValueRead plans Wants mid read → IsValueRead plans Wants old read
read_before plans Wants old mid grows read is = record {
  wanted = is.wanted;
  known = is.known;
  lacked = still_lacking old mid read.node grows is.lacked (kept_at old read.node) refl;
  visited = is.visited;
}

-- a cause from a later state on is one from an earlier
fails_before : (plans : ScanPlans) (Wants : ℕ → Type 0) (failure : Option ScanError) (before now after : SourceState) → Lasts before now → IfSome failure (λ error. FailsToRead plans Wants error now after) → IfSome failure (λ error. FailsToRead plans Wants error before after)
fails_before plans Wants None before now after lasts fails = tt
fails_before plans Wants (Some error) before now after lasts (inl lacks) = inl lacks
fails_before plans Wants (Some error) before now after lasts (inr (node, wants, known, cause)) =
    inr (
      node,
      wants,
      known,
      cause_lasts (told_by plans now) (told_by plans before) (λ P holds file told. holds file (lasts.file ∙ told)) (with_projection plans node) [] (all_rows plans node) error before now after lasts cause,
    )

faults_then : (failure : Option ScanError) (before now after : SourceState) → KeepsFaults before now → KeepsFaults now after ⊎ (failure ≡ Some ReadFault) → KeepsFaults before after ⊎ (failure ≡ Some ReadFault)
faults_then failure before now after first (inl same) = inl (same ∙ first)
faults_then failure before now after first (inr fault) = inr fault

quiet_of : (before now : SourceState) → KeepsFaults before now ⊎ (None ≡ Some ReadFault) → KeepsFaults before now
quiet_of before now (inl same) = same
quiet_of before now (inr fault) = absurd cc

-- what was read is kept, and what is read later was not
apart_reads : (plans : ScanPlans) (Wants : ℕ → Type 0) (mid : List Kept) (one two : ValueRead) → IsKept mid one.node → IsValueRead plans Wants mid two → node_and_segment one ≢ node_and_segment two
apart_reads plans Wants mid one two (column, at) is same =
    let node : one.node ≡ two.node = ap (λ (pair : ℕ × ℕ). pair.0) same in
    let both : Some column ≡ None = sym at ∙ (ap (kept_at mid) node ∙ is.lacked) in
    cc

pub certifies_then : (plans : ScanPlans) (Wants : ℕ → Type 0) (old mid new : List Kept) (failure : Option ScanError) (before now after : SourceState) → Certifies plans Wants old mid None before now → Certifies plans Wants mid new failure now after → Certifies plans Wants old new failure before after
certifies_then plans Wants old mid new failure before now after first second =
    let segments : map segment_in (first.reads ++ second.reads) ≡ map segment_in first.reads ++ map segment_in second.reads = map-append segment_in first.reads second.reads in
    record {
      grows = λ n column at. second.grows n column (first.grows n column at);
      typed = λ typed. second.typed (first.typed typed);
      right = λ file told made. second.right file (first.lasts.file ∙ told) (first.right file told made);
      cause = fails_before plans Wants failure before now after first.lasts second.cause;
      reads = first.reads ++ second.reads;
      are = all-append (IsValueRead plans Wants old) first.reads second.reads first.are (each_weaker (IsValueRead plans Wants mid) (IsValueRead plans Wants old) (read_before plans Wants old mid first.grows) second.reads second.are);
      kept = λ none. all-append (λ (read : ValueRead). IsKept new read.node) first.reads second.reads
          (each_weaker (λ (read : ValueRead). IsKept mid read.node) (λ (read : ValueRead). IsKept new read.node) (λ read kept. (kept.0, second.grows read.node kept.0 kept.1)) first.reads (first.kept refl))
          (second.kept none);
      apart = subst AreDistinct (sym (map-append node_and_segment first.reads second.reads))
          (distinct_then (map node_and_segment first.reads) (map node_and_segment second.reads) first.apart second.apart
          (apart_from (λ (read : ValueRead). IsKept mid read.node) (IsValueRead plans Wants mid) node_and_segment (apart_reads plans Wants mid) first.reads second.reads (first.kept refl) second.are));
      located = subst (All (λ segment. segment < length plans.locations.items)) (sym segments)
          (All-append (λ segment. segment < length plans.locations.items) (map segment_in first.reads) (map segment_in second.reads) first.located second.located);
      asked = second.asked
          ∙ (ap (asked_for (map (location_of plans.locations.items) (map segment_in second.reads))) first.asked
          ∙ (asked_then (map (location_of plans.locations.items) (map segment_in first.reads)) (map (location_of plans.locations.items) (map segment_in second.reads)) before.asked
          ∙ ap (λ (places : List SegmentLocation). asked_for places before.asked)
          (sym (map-append (location_of plans.locations.items) (map segment_in first.reads) (map segment_in second.reads)) ∙ ap (map (location_of plans.locations.items)) (sym segments))));
      faults = faults_then failure before now after (quiet_of before now first.faults) second.faults;
      lasts = lasts_then before now after first.lasts second.lasts;
      in_flight = clear_then before now after first.in_flight second.in_flight;
    }

-- ---- the whole values of a plan are read

-- the reads of the segments that were wanted
record ReadsOf (plans : ScanPlans) (node : PlanRef) (right : List Kept) (segments : List ℕ) : Type 0 where
  reads : List ValueRead
  same : map segment_in reads ≡ segments
  are : AllByRecursion (IsValueRead plans (λ n. n ≡ number_of node) right) reads
  own : AllByRecursion (λ (read : ValueRead). read.node ≡ number_of node) reads

none_read : (plans : ScanPlans) (node : PlanRef) (right : List Kept) → ReadsOf plans node right []
none_read plans node right = record { reads = []; same = refl; are = tt; own = tt }

one_read : (plans : ScanPlans) (node : PlanRef) (right : List Kept) (segment : ℕ) → number_of node < length plans.table → kept_at right (number_of node) ≡ None → (wanted : IsWanted (with_projection plans node) [] [] (all_rows plans node) segment) →
    IsValueRead plans (λ n. n ≡ number_of node) right (record { node = number_of node; leaf = wanted.leaf; segment = segment })
one_read plans node right segment known lacked wanted =
    let rows : ℕ = (node_at plans.table (number_of node)).rows in
    let read : LeafRead = record { leaf = wanted.leaf; segment = segment } in
    let place : ℕ = wanted.visited.0 in
    let within = slice_get_within (replicate rows true) place true wanted.visited.1 in
    let size = length-replicate rows true in
    record {
      wanted = refl;
      known = known;
      lacked = lacked;
      visited = (
        0 + place,
        omega (arith, within, size),
        weaker_visit (IsLeafRead read) (IsLeafRead read) (same_read read) (given_to plans []) (plan_at plans.table (number_of node)) (0 + place) wanted.visited.2,
      );
    }

reads_of : (plans : ScanPlans) (node : PlanRef) (right : List Kept) (segments : List ℕ) → number_of node < length plans.table → kept_at right (number_of node) ≡ None → All (IsWanted (with_projection plans node) [] [] (all_rows plans node)) segments → ReadsOf plans node right segments
reads_of plans node right [] known lacked wanted = none_read plans node right
reads_of plans node right (segment ∷ segments) known lacked wanted =
    let one : IsWanted (with_projection plans node) [] [] (all_rows plans node) segment = All-head (IsWanted (with_projection plans node) [] [] (all_rows plans node)) segment segments wanted in
    let rest : ReadsOf plans node right segments = reads_of plans node right segments known lacked (All-tail (IsWanted (with_projection plans node) [] [] (all_rows plans node)) segment segments wanted) in
    let read : ValueRead = record { node = number_of node; leaf = one.leaf; segment = segment } in
    record {
      reads = read ∷ rest.reads;
      same = ap (λ (ss : List ℕ). segment ∷ ss) rest.same;
      are = (one_read plans node right segment known lacked one, rest.are);
      own = (refl, rest.own);
    }

-- those of one plan are apart by their segments
apart_one : (plans : ScanPlans) (node : PlanRef) (right : List Kept) (segments : List ℕ) (of : ReadsOf plans node right segments) → AreDistinct segments → AreDistinct (map node_and_segment of.reads)
apart_one plans node right segments of apart =
    distinct_by (λ (read : ValueRead). read.node ≡ number_of node) node_and_segment segment_in (λ one two first second same. ap (λ (pair : ℕ × ℕ). pair.1) same) of.reads of.own (subst AreDistinct (sym of.same) apart)

-- the values with one more, which are typed and right
typed_more : (nodes : List Node) (old : List Kept) (last : Kept) → IsForPlan nodes last → AreTyped nodes old → AreTyped nodes (old ++ last ∷ [])
typed_more nodes old last fits typed n column at =
    ⊎_elim (λ (before : kept_at old n ≡ Some column). typed n column before)
    (λ (is : (last.node ≡ n) × (last.column ≡ column)). (
      sym (ap (λ (c : ColumnData). c.dtype) is.1) ∙ (fits.dtype ∙ ap (λ (m : ℕ). (node_at nodes m).dtype) is.0),
      sym (ap (λ (c : ColumnData). length c.values) is.1) ∙ (fits.count ∙ ap (λ (m : ℕ). (node_at nodes m).rows) is.0),
    ))
    (kept_either old last n column at)

made_more : (nodes : List Node) (offset : ℕ) (old : List Kept) (last : Kept) (leaves : Leaves) → whole_value leaves offset (plan_at nodes last.node) ≡ Some last.column.values → AreMade nodes offset old leaves → AreMade nodes offset (old ++ last ∷ []) leaves
made_more nodes offset old last leaves whole made n column at =
    ⊎_elim (λ (before : kept_at old n ≡ Some column). made n column before)
    (λ (is : (last.node ≡ n) × (last.column ≡ column)). sym (ap (λ (m : ℕ). whole_value leaves offset (plan_at nodes m)) is.0) ∙ (whole ∙ ap (λ (c : ColumnData). Some c.values) is.1))
    (kept_either old last n column at)

faults_of : {X : Type 0} (result : Result X ScanError) (before after : SourceState) → TellsFaults result before after → KeepsFaults before after ⊎ (error_in result ≡ Some ReadFault)
faults_of result before after (inl same) = inl same
faults_of result before after (inr fault) = inr (ap error_in fault)

-- they were read
pub certifies_value : (plans : ScanPlans) (node : PlanRef) (old : List Kept) (column : ColumnData) (before after : SourceState) → number_of node < length plans.table → kept_at old (number_of node) ≡ None → RunsValues plans node (Ok column) before after →
    Certifies plans (λ n. n ≡ number_of node) old (old ++ record { node = number_of node; column = column } ∷ []) None before after
certifies_value plans node old column before after known lacked runs =
    let last : Kept = record { node = number_of node; column = column } in
    let of : ReadsOf plans node old runs.asks.segments = reads_of plans node old runs.asks.segments known lacked runs.asks.wanted in
    record {
      grows = kept_old old (last ∷ []);
      typed = typed_more plans.table old last runs.fits;
      right = λ file told made. made_more plans.table plans.row_offset old last (leaves_of (bytes_of plans file)) (runs.whole file told) made;
      cause = tt;
      reads = of.reads;
      are = of.are;
      kept = λ none. each_weaker (λ (read : ValueRead). read.node ≡ number_of node) (λ (read : ValueRead). IsKept (old ++ last ∷ []) read.node) (λ read same. subst (IsKept (old ++ last ∷ [])) (sym same) (kept_last old last)) of.reads of.own;
      apart = apart_one plans node old runs.asks.segments of runs.asks.asks.apart;
      located = subst (All (λ segment. segment < length plans.locations.items)) (sym of.same) runs.asks.asks.located;
      asked = subst (λ (ss : List ℕ). after.asked ≡ asked_for (map (location_of plans.locations.items) ss) before.asked) (sym of.same) runs.asks.asks.asked;
      faults = faults_of (Ok column) before after runs.faults;
      lasts = runs.lasts;
      in_flight = inl runs.in_flight;
    }

-- or they can't be read
pub certifies_error : (plans : ScanPlans) (node : PlanRef) (old : List Kept) (error : ScanError) (before after : SourceState) → number_of node < length plans.table → kept_at old (number_of node) ≡ None → RunsValues plans node (Err error) before after → Certifies plans (λ n. n ≡ number_of node) old old (Some error) before after
certifies_error plans node old error before after known lacked runs =
    let of : ReadsOf plans node old runs.asks.segments = reads_of plans node old runs.asks.segments known lacked runs.asks.wanted in
    record {
      grows = λ n column at. at;
      typed = λ typed. typed;
      right = λ file told made. made;
      cause = inr (node, refl, known, runs.cause);
      reads = of.reads;
      are = of.are;
      kept = λ none. absurd cc;
      apart = apart_one plans node old runs.asks.segments of runs.asks.asks.apart;
      located = subst (All (λ segment. segment < length plans.locations.items)) (sym of.same) runs.asks.asks.located;
      asked = subst (λ (ss : List ℕ). after.asked ≡ asked_for (map (location_of plans.locations.items) ss) before.asked) (sym of.same) runs.asks.asks.asked;
      faults = faults_of {X = ColumnData} (Err error) before after runs.faults;
      lasts = runs.lasts;
      in_flight = inl runs.in_flight;
    }
