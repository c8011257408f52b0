-- The step that a batch of fetches and the turn behind it make.
use Rattle.std.proofs.Common.{◌≡◌, ℕ, ◌+◌, ◌-◌, ◌^◌, ◌<◌, ◌≤◌, ◌⊎◌, inl, inr, ⊎_elim, List, [], ◌∷◌, ◌++◌, Option, Some, None, Ok, Err, length, map, take, drop, true, false, refl, sym, ap, ◌∙◌, subst, arith, append-nil}
use Rattle.std.specs.List.{All, slice_get, sum_by}
use Rattle.std.specs.Global.{Vec}
use Rattle.std.specs.Prelude.{IsSomeAnd}
use Rattle.std.proofs.lemmas.Bool.{cases_lt}
use Rattle.std.proofs.lemmas.List.Elements.{All-weaker}
use Rattle.std.proofs.lemmas.Option.{slice_get_within}
use Rattle.vx_plan.specs.Nodes.{Node}
use Rattle.vx_steps.specs.declared.progress.Turn.{Turn}
use Rattle.vx_steps.specs.declared.progress.Turn.TheVariants as turns
use Rattle.vx_steps.specs.Jobs.{CanStart}
use Rattle.vx_steps.specs.Kept.{kept_at}
use Rattle.vx_steps.specs.Needs.{Among}
use Rattle.vx_steps.specs.ReadTableData.{Wanted}
use Rattle.vx_steps.specs.ScanData.{ScanData}
use Rattle.vx_steps.specs.Pieces.{piece_of}
use Rattle.vx_steps.specs.Standings.{SplitLeft, left_of}
use Rattle.vx_steps.specs.Steps.{AreHandedOut, GivesOutput, IsHeldUpAt, IsLeftAt, IsMissing, IsWaiting, TakesTurn, rows_left}
use Rattle.vx_steps.specs.Turns.{AreLeavesKept}
use Rattle.vx_steps.specs.Wants.{IsAsked}
use Rattle.vx_steps.specs.Wholes.{AreThere}
use Rattle.vx_steps.proofs.Growing.{length_grown, take_grown}
use Rattle.vx_io.specs.declared.requests.IoRequest.{IoRequest}
use Rattle.vx_drive.specs.declared.adaptor_errors.AdaptorError.{AdaptorError}
use Rattle.vx_drive.specs.declared.adaptors.State.{State}
use Rattle.vx_drive.specs.declared.adaptors.State.TheVariants.{NeedsCompute, Waiting, Done}
use Rattle.vx_drive.specs.declared.adaptors.AdaptorStep.{AdaptorStep}
use Rattle.vx_drive.specs.declared.adaptors.AdaptorStep.TheVariants.{Yield, NeedsIo, Piece}
use Rattle.vx_drive.specs.AdaptorData.{AdaptorData, AreAskedReads, SomeOutstanding, SomeEarlierOutstanding, held_count, reads_of}
use Rattle.vx_drive.specs.Computes.{AsksNothing, AwaitsBytes, Computes, Stops}
use Rattle.vx_drive.specs.Continues.{ComesOut, Continues, MayBeRead, splits_left}
use Rattle.vx_drive.specs.Fetched.{AreDistinctNumbers, AllLocated, fetches_from, segments_in, unread}
use Rattle.vx_drive.specs.Batched.{BatchOr, Batched, BatchGives, GivesTurn, IsLive, IsNoRead, StepOf, count_behind, reads_behind, work_in}
use Rattle.vx_drive.proofs.Behind.{grows_behind}
use Rattle.vx_drive.proofs.Continuing.{continues_then, none_before}
use Rattle.vx_drive.proofs.HandingOut.{few_asked}
use Rattle.vx_drive.proofs.Stepping.{output_before}
use Rattle.vx_base.specs.Columns.{ColumnData}
use Rattle.vx_base.specs.declared.locations.SegmentLocation.{SegmentLocation}

-- ---- the turn behind the reads

-- what a turn that wants no read comes to
abbrev TookTurn : Turn → ScanData → ScanData → Type 0
TookTurn turn old new = ((old.refused ≡ true) × (turn ≡ turns.Done) × (new ≡ old)) ⊎ ((old.refused ≡ false) × TakesTurn old.nodes old.job old.progress new.progress turn)

-- it hands no read out
none_handed : (turn : Turn) (old new : ScanData) → IsNoRead turn → TookTurn turn old new → new.progress.reads.handed ≡ old.progress.reads.handed
none_handed turn old new plain (inl (refused, done, same)) = ap (λ (scan : ScanData). scan.progress.reads.handed) same
none_handed (turns.Read request) old new plain (inr (going, takes)) = absurd plain
none_handed (turns.Output number column) old new plain (inr (going, takes)) = takes.handed
none_handed turns.Waiting old new plain (inr (going, takes)) = takes.handed
none_handed turns.Done old new plain (inr (going, takes)) = takes.handed

-- so the reads stay
turn_reads : (turn : Turn) (locations : List SegmentLocation) (first : ℕ) (old new : ScanData) → IsNoRead turn → GivesTurn turn old new → AreAskedReads locations first (count_behind first old.progress.reads) old.progress.reads → reads_behind first new.progress.reads ≡ reads_behind first old.progress.reads
turn_reads turn locations first old new plain gives asked =
    ap (λ (n : ℕ). take (n - first) (drop first new.progress.reads.wanted)) (none_handed turn old new plain gives.takes)
    ∙ take_grown (drop first old.progress.reads.wanted) (drop first new.progress.reads.wanted) (count_behind first old.progress.reads) (grows_behind old.progress.reads.wanted new.progress.reads.wanted first gives.scan.keeps.grows) asked.wanted

turn_asked : (turn : Turn) (locations : List SegmentLocation) (first : ℕ) (old new : ScanData) → IsNoRead turn → GivesTurn turn old new → AreAskedReads locations first (count_behind first old.progress.reads) old.progress.reads → AreAskedReads locations first (count_behind first new.progress.reads) new.progress.reads
turn_asked turn locations first old new plain gives asked =
    let same = turn_reads turn locations first old new plain gives asked in
    let none = none_handed turn old new plain gives.takes in
    let all = asked.all in
    let few = asked.wanted in
    let more = length_grown (drop first old.progress.reads.wanted) (drop first new.progress.reads.wanted) (grows_behind old.progress.reads.wanted new.progress.reads.wanted first gives.scan.keeps.grows) in
    record {
      all = omega (arith, all, none);
      wanted = omega (arith, few, more, none);
      apart = subst (λ (rs : List Wanted). AreDistinctNumbers (segments_in rs)) (sym same) asked.apart;
      located = subst (λ (rs : List Wanted). AllLocated locations (segments_in rs)) (sym same) asked.located;
    }

-- ---- the reads and the turn together

pub length_fetches : (locations : List SegmentLocation) (number : ℕ) (segments : List ℕ) → length (fetches_from locations number segments) ≡ length segments
length_fetches locations number [] = refl
length_fetches locations number (segment ∷ segments) = let rest = length_fetches locations (number + 1) segments in omega (arith, rest)

-- the adaptor behind a computation: the number of the reads before it, its scan, its number of fetches, what it holds and its
-- state
abbrev pub stepped : ℕ → ScanData → ℕ → Option (ℕ × ColumnData) → State → AdaptorData
stepped first scan asked held state = record { scan = scan; first = first; asked = asked; held = held; state = state }

-- What is the same for each turn behind the reads.
pub record Stepped (locations : List SegmentLocation) (batch : List IoRequest) (old : AdaptorData) (middle new : ScanData) (asked : ℕ) : Type 0 where
  pub batched : Batched locations old.first batch old.scan middle
  pub counted : asked ≡ old.asked + length batched.segments
  pub batch_is : batch ≡ fetches_from locations old.asked batched.segments
  pub reads : take asked (drop old.first new.progress.reads.wanted) ≡ reads_of old ++ map unread batched.segments
  pub are_asked : AreAskedReads locations old.first asked new.progress.reads
  pub wanted : All (MayBeRead old.scan) batched.segments
  pub scan : Continues old.scan new

all_stepped : (locations : List SegmentLocation) (batch : List IoRequest) (turn : Turn) (old : AdaptorData) (middle new : ScanData) (asked : ℕ) → AreAskedReads locations old.first old.asked old.scan.progress.reads → asked ≡ old.asked + length batch → Batched locations old.first batch old.scan middle → GivesTurn turn middle new → IsNoRead turn →
    Stepped locations batch old middle new asked
all_stepped locations batch turn old middle new asked were counted batched gives plain =
    let size = ap length batched.batch_is ∙ length_fetches locations (count_behind old.first old.scan.progress.reads) batched.segments in
    let none = none_handed turn middle new plain gives.takes in
    let before = were.all in
    let more = batched.handed in
    let back : old.scan.progress.reads.handed - old.first ≡ old.asked = omega (arith, before) in
    let all : asked ≡ new.progress.reads.handed - old.first = omega (arith, counted, size, none, before, more) in
    record {
      batched = batched;
      counted = omega (arith, counted, size);
      batch_is = batched.batch_is ∙ ap (λ (n : ℕ). fetches_from locations n batched.segments) back;
      reads = ap (λ (n : ℕ). take n (drop old.first new.progress.reads.wanted)) all ∙ turn_reads turn locations old.first middle new plain gives batched.asked ∙ batched.reads
          ∙ ap (λ (n : ℕ). take n (drop old.first old.scan.progress.reads.wanted) ++ map unread batched.segments) back;
      are_asked = subst (λ (n : ℕ). AreAskedReads locations old.first n new.progress.reads) (sym all) (turn_asked turn locations old.first middle new plain gives batched.asked);
      wanted = All-weaker (IsAsked middle.progress.reads.wanted) (MayBeRead old.scan) batched.scan.wants batched.segments batched.stand;
      scan = continues_then old.scan middle new batched.scan gives.scan;
    }

no_segments : (locations : List SegmentLocation) (number : ℕ) (segments : List ℕ) → [] ≡ fetches_from locations number segments → segments ≡ []
no_segments locations number [] none = refl
no_segments locations number (segment ∷ segments) none = absurd cc

none_batched : (locations : List SegmentLocation) (batch : List IoRequest) (old : AdaptorData) (middle new : ScanData) (asked : ℕ) (all : Stepped locations batch old middle new asked) → batch ≡ [] → all.batched.segments ≡ []
none_batched locations batch old middle new asked all none = no_segments locations old.asked all.batched.segments (sym none ∙ all.batch_is)

-- where the batch is empty, nothing is asked for
asks_nothing : (locations : List SegmentLocation) (batch : List IoRequest) (old : AdaptorData) (middle new : ScanData) (asked : ℕ) (held : Option (ℕ × ColumnData)) (state : State) → Stepped locations batch old middle new asked → batch ≡ [] → AsksNothing old (stepped old.first new asked held state)
asks_nothing locations batch old middle new asked held state all none =
    let nothing = none_batched locations batch old middle new asked all none in
    record {
      first = refl;
      asked = let size = ap length nothing in let counted = all.counted in omega (arith, size, counted);
      reads = all.reads ∙ ap (λ (segments : List ℕ). reads_of old ++ map unread segments) nothing ∙ append-nil (reads_of old);
    }

-- ---- an output

-- the output that came behind the reads is the next one of the scan before them
comes_out : (locations : List SegmentLocation) (first : ℕ) (batch : List IoRequest) (old middle new : ScanData) (number : ℕ) (column : ColumnData) → Batched locations first batch old middle → Continues middle new → GivesOutput middle.nodes middle.job middle.progress new.progress number column → ComesOut number column old new
comes_out locations first batch old middle new number column batched more gives =
    let nodes_is : middle.nodes ≡ old.nodes = batched.scan.keeps.nodes in
    let job_is : middle.job ≡ old.job = batched.scan.keeps.job in
    record {
      place = gives.place;
      from = gives.from;
      to = gives.to;
      at = subst (λ (left : List SplitLeft). slice_get left gives.place ≡ Some (record { number = number; given = gives.from })) batched.left gives.at;
      split = gives.split;
      split_at = subst (λ job. slice_get job.splits.items number ≡ Some gives.split) job_is gives.split_at;
      within = gives.within;
      some = gives.some;
      rest = gives.rest;
      output = output_before old middle new (piece_of gives.split gives.from gives.to) column batched.scan.keeps gives.output;
      there = subst (λ job. AreThere old.nodes job.given new.progress.wholes job.plan gives.split.rows.start gives.split.mask) job_is
          (subst (λ (nodes : List Node). AreThere nodes middle.job.given new.progress.wholes middle.job.plan gives.split.rows.start gives.split.mask) nodes_is gives.there);
      leaves = subst (λ job. AreLeavesKept old.nodes job (piece_of gives.split gives.from gives.to) new.progress.leaves) job_is
          (subst (λ (nodes : List Node). AreLeavesKept nodes middle.job (piece_of gives.split gives.from gives.to) new.progress.leaves) nodes_is gives.leaves);
      left = subst (λ (left : List SplitLeft). IsLeftAt left (splits_left new) gives.place number gives.to (length gives.split.mask)) batched.left
          (subst (λ job. IsLeftAt (splits_left middle) (left_of job new.progress) gives.place number gives.to (length gives.split.mask)) (sym more.keeps.job) gives.left);
    }

output_of : (number : ℕ) (column : ColumnData) (old new : ScanData) → TookTurn (turns.Output number column) old new → GivesOutput old.nodes old.job old.progress new.progress number column
output_of number column old new (inl (refused, done, same)) = absurd cc
output_of number column old new (inr (going, takes)) = takes

computes_output : (locations : List SegmentLocation) (batch : Vec IoRequest) (number : ℕ) (column : ColumnData) (step : AdaptorStep) (old : AdaptorData) (middle new : ScanData) (asked : ℕ) (held : Option (ℕ × ColumnData)) (state : State) → old.held ≡ None → Stepped locations batch.items old middle new asked → GivesTurn (turns.Output number column) middle new →
    BatchOr batch step (Some (number, column)) (Piece column) held state NeedsCompute → Computes locations (Ok step) old (stepped old.first new asked held state)
computes_output locations batch number column step old middle new asked held state empty all gives (inl (none, is, kept, at)) =
    let fewer = gives.fewer tt in
    let before = all.batched.fewer in
    subst (λ (s : AdaptorStep). Computes locations (Ok s) old (stepped old.first new asked held state)) (sym is) (subst (λ (h : Option (ℕ × ColumnData)). Computes locations (Ok (Piece column)) old (stepped old.first new asked h state)) (sym kept) (record {
      number = number;
      output = inr (empty, comes_out locations old.first batch.items old.scan middle new number column all.batched gives.scan (output_of number column middle new gives.takes));
      scan = all.scan;
      asks = asks_nothing locations batch.items old middle new asked None state all none;
      held = refl;
      state = at;
      fewer = omega (arith, fewer, before);
    }))
computes_output locations batch number column step old middle new asked held state empty all gives (inr (some, is, kept, at)) =
    let fewer = gives.fewer tt in
    let before = all.batched.fewer in
    let size = ap length all.batch_is ∙ length_fetches locations old.asked all.batched.segments in
    subst (λ (s : AdaptorStep). Computes locations (Ok s) old (stepped old.first new asked held state)) (sym is) (subst (λ (h : Option (ℕ × ColumnData)). Computes locations (Ok (NeedsIo batch)) old (stepped old.first new asked h state)) (sym kept) (record {
      segments = all.batched.segments;
      some = omega (arith, size, some);
      batch_is = all.batch_is;
      first = refl;
      asked = all.counted;
      reads = all.reads;
      apart = all.are_asked.apart;
      fresh = all.batched.fresh;
      located = all.batched.located;
      wanted = all.wanted;
      scan = all.scan;
      held = empty;
      behind = λ none. absurd (let both : Some (number, column) ≡ None = none in cc);
      holds = inr (number, column, refl, comes_out locations old.first batch.items old.scan middle new number column all.batched gives.scan (output_of number column middle new gives.takes));
      state = at;
      fewer = omega (arith, fewer, before);
    }))

-- ---- no output

-- the splits that are left stay, and so does the work
abbrev StaysLeft : ScanData → ScanData → Type 0
StaysLeft old new = (splits_left new ≡ splits_left old) × (work_in new ≡ work_in old)

stays_left : (old new : ScanData) → new.job ≡ old.job → left_of old.job new.progress ≡ left_of old.job old.progress → new.progress.reads.handed ≡ old.progress.reads.handed → StaysLeft old new
stays_left old new job left handed =
    let same : splits_left new ≡ splits_left old = ap (λ js. left_of js new.progress) job ∙ left in
    (same, (λ i. (2 ^ 64 - handed i) + sum_by (rows_left (job i).splits.items) (same i)))

idle_left : (turn : Turn) (old new : ScanData) → (turn ≡ turns.Waiting) ⊎ (turn ≡ turns.Done) → GivesTurn turn old new → StaysLeft old new
idle_left turn old new idle gives = by_turn turn idle gives.takes
  where
    by_turn : (t : Turn) → (t ≡ turns.Waiting) ⊎ (t ≡ turns.Done) → TookTurn t old new → StaysLeft old new
    by_turn t which (inl (refused, done, same)) = (ap splits_left same, ap work_in same)
    by_turn turns.Waiting which (inr (going, takes)) = stays_left old new gives.scan.keeps.job takes.left takes.handed
    by_turn turns.Done which (inr (going, takes)) = stays_left old new gives.scan.keeps.job takes.left takes.handed
    by_turn (turns.Read request) (inl is) (inr (going, takes)) = absurd cc
    by_turn (turns.Read request) (inr is) (inr (going, takes)) = absurd cc
    by_turn (turns.Output number column) (inl is) (inr (going, takes)) = absurd cc
    by_turn (turns.Output number column) (inr is) (inr (going, takes)) = absurd cc

computes_batch : (locations : List SegmentLocation) (batch : Vec IoRequest) (step : AdaptorStep) (old : AdaptorData) (middle new : ScanData) (asked : ℕ) (held : Option (ℕ × ColumnData)) (state : State) → old.held ≡ None → Stepped locations batch.items old middle new asked → StaysLeft middle new → AwaitsBytes new →
    0 < length batch.items → step ≡ NeedsIo batch → held ≡ None → state ≡ NeedsCompute → Computes locations (Ok step) old (stepped old.first new asked held state)
computes_batch locations batch step old middle new asked held state empty all stays awaits some is kept at =
    let same = stays.1 in
    let before = all.batched.fewer in
    let size = ap length all.batch_is ∙ length_fetches locations old.asked all.batched.segments in
    subst (λ (s : AdaptorStep). Computes locations (Ok s) old (stepped old.first new asked held state)) (sym is) (subst (λ (h : Option (ℕ × ColumnData)). Computes locations (Ok (NeedsIo batch)) old (stepped old.first new asked h state)) (sym kept) (record {
      segments = all.batched.segments;
      some = omega (arith, size, some);
      batch_is = all.batch_is;
      first = refl;
      asked = all.counted;
      reads = all.reads;
      apart = all.are_asked.apart;
      fresh = all.batched.fresh;
      located = all.batched.located;
      wanted = all.wanted;
      scan = all.scan;
      held = empty;
      holds = inl (refl, stays.0 ∙ all.batched.left);
      behind = λ none. awaits;
      state = at;
      fewer = omega (arith, same, before);
    }))

-- where the batch is empty, all the work is still to be done
none_done : (locations : List SegmentLocation) (batch : List IoRequest) (old : AdaptorData) (middle new : ScanData) (asked : ℕ) → Stepped locations batch old middle new asked → batch ≡ [] → StaysLeft middle new → StaysLeft old.scan new
none_done locations batch old middle new asked all none stays =
    let size = ap length (none_batched locations batch old middle new asked all none) in
    let more = all.batched.handed in
    let handed : middle.progress.reads.handed ≡ old.scan.progress.reads.handed = omega (arith, size, more) in
    let left = all.batched.left in
    let job = all.batched.scan.keeps.job in
    (stays.0 ∙ left, stays.1 ∙ (λ i. (2 ^ 64 - handed i) + sum_by (rows_left (job i).splits.items) (left i)))

-- ---- the scan waits

some_of : {A : Type 0} (P : A → Type 0) (ones : List A) → (length ones ≡ 0 → ⊥) → ((one : A) → Among one ones → P one) → (one : A) × P one
some_of P [] some all = absurd (some refl)
some_of P (one ∷ ones) some all = (one, all one (inl refl))

-- for a read of the adaptor's, or for an earlier one
some_outstanding : (locations : List SegmentLocation) (first asked : ℕ) (held : Option (ℕ × ColumnData)) (state : State) (middle new : ScanData) → AreAskedReads locations first asked new.progress.reads → IsWaiting middle.nodes middle.job middle.progress new.progress →
    SomeOutstanding (stepped first new asked held state) ⊎ SomeEarlierOutstanding (stepped first new asked held state)
some_outstanding locations first asked held state middle new are_asked waits =
    let up = (some_of (IsHeldUpAt middle.nodes middle.job middle.progress.leaves new.progress.reads.wanted) new.progress.started waits.some waits.held).1.2 in
    let segment : ℕ = up.0.segment in
    let missing : IsMissing new.progress.reads.wanted segment = up.1.1 in
    let place = missing.0 in
    let here = missing.1 in
    let within = slice_get_within new.progress.reads.wanted place (unread segment) here in
    let every = waits.all_handed in
    let all = are_asked.all in
    ⊎_elim
    (λ (earlier : place < first). inr (place, earlier, (omega (arith, within, every), nothing_came place segment here)))
    (λ (own : first ≤ place).
    let same : first + (place - first) ≡ place = omega (arith, own) in
    inl (place - first, (omega (arith, within, every, all, own), (omega (arith, within, every, same), nothing_came (first + (place - first)) segment (ap (slice_get new.progress.reads.wanted) same ∙ here)))))
    (cases_lt place first)
  where
    nothing_came : (n segment : ℕ) → slice_get new.progress.reads.wanted n ≡ Some (unread segment) → IsSomeAnd (slice_get new.progress.reads.wanted n) (λ v. v.bytes ≡ None)
    nothing_came n segment at = subst (λ (w : Option Wanted). IsSomeAnd w (λ v. v.bytes ≡ None)) (sym at) refl

waiting_of : (old new : ScanData) → TookTurn turns.Waiting old new → IsWaiting old.nodes old.job old.progress new.progress
waiting_of old new (inl (refused, done, same)) = absurd cc
waiting_of old new (inr (going, takes)) = takes

awaits_bytes : (old new : ScanData) → Continues old new → IsWaiting old.nodes old.job old.progress new.progress → AwaitsBytes new
awaits_bytes old new goes waits = record {
  none_to_start = subst (λ job. CanStart job new.progress → ⊥) (sym goes.keeps.job) waits.none_to_start;
  all_handed = waits.all_handed;
  are_handed =
      let leaves : AreHandedOut old.nodes old.job new.progress.leaves new.progress = λ number split read active at reads none. waits.are_handed number split read active at reads (none_before (kept_at old.progress.leaves read.leaf) (kept_at new.progress.leaves read.leaf) (goes.keeps.leaves read.leaf) none) in
      subst (λ job. AreHandedOut new.nodes job new.progress.leaves new.progress) (sym goes.keeps.job) (subst (λ nodes. AreHandedOut nodes old.job new.progress.leaves new.progress) (sym goes.keeps.nodes) leaves);
}

computes_waiting : (locations : List SegmentLocation) (batch : Vec IoRequest) (step : AdaptorStep) (old : AdaptorData) (middle new : ScanData) (asked : ℕ) (held : Option (ℕ × ColumnData)) (state : State) → old.held ≡ None → Stepped locations batch.items old middle new asked → GivesTurn turns.Waiting middle new →
    BatchOr batch step None Yield held state Waiting → Computes locations (Ok step) old (stepped old.first new asked held state)
computes_waiting locations batch step old middle new asked held state empty all gives (inr (some, is, kept, at)) =
    computes_batch locations batch step old middle new asked held state empty all (idle_left turns.Waiting middle new (inl refl) gives) (awaits_bytes middle new gives.scan (waiting_of middle new gives.takes)) some is kept at
computes_waiting locations batch step old middle new asked held state empty all gives (inl (none, is, kept, at)) =
    let stays = none_done locations batch.items old middle new asked all none (idle_left turns.Waiting middle new (inl refl) gives) in
    subst (λ (s : AdaptorStep). Computes locations (Ok s) old (stepped old.first new asked held state)) (sym is) (subst (λ (h : Option (ℕ × ColumnData)). Computes locations (Ok Yield) old (stepped old.first new asked h state)) (sym kept) (record {
      waits = λ is. subst (λ (scan : ScanData). IsWaiting scan.nodes scan.job scan.progress new.progress) (all.batched.none (none_batched locations batch.items old middle new asked all none)) (waiting_of middle new gives.takes);
      why = inl (at, some_outstanding locations old.first asked None state middle new all.are_asked (waiting_of middle new gives.takes));
      scan = all.scan;
      left = stays.0;
      asks = asks_nothing locations batch.items old middle new asked None state all none;
      held = empty;
      none = refl;
      work = let same = stays.1 in let nothing = ap held_count empty in omega (arith, same, nothing);
    }))

-- ---- the scan is done

why_done : (locations : List SegmentLocation) (first : ℕ) (batch : List IoRequest) (old middle new : ScanData) → Batched locations first batch old middle → TookTurn turns.Done middle new → (splits_left old ≡ []) ⊎ (old.refused ≡ true)
why_done locations first batch old middle new batched (inl (refused, done, same)) = inr (sym batched.scan.refused ∙ refused)
why_done locations first batch old middle new batched (inr (going, takes)) = inl (sym batched.left ∙ takes.none_left)

-- a scan that handed reads out is not done behind them
not_done : (old new : ScanData) → IsLive old → TookTurn turns.Done old new → ⊥
not_done old new live (inl (refused, done, same)) = let both : false ≡ true = sym live.0 ∙ refused in absurd cc
not_done old new live (inr (going, takes)) = live.1 takes.none_left

computes_done : (locations : List SegmentLocation) (batch : Vec IoRequest) (step : AdaptorStep) (old : AdaptorData) (middle new : ScanData) (asked : ℕ) (held : Option (ℕ × ColumnData)) (state : State) → old.held ≡ None → Stepped locations batch.items old middle new asked → GivesTurn turns.Done middle new →
    BatchOr batch step None Yield held state Done → Computes locations (Ok step) old (stepped old.first new asked held state)
computes_done locations batch step old middle new asked held state empty all gives (inr (some, is, kept, at)) =
    let size = ap length all.batch_is ∙ length_fetches locations old.asked all.batched.segments in
    absurd (not_done middle new (all.batched.live (omega (arith, size, some))) gives.takes)
computes_done locations batch step old middle new asked held state empty all gives (inl (none, is, kept, at)) =
    let stays = none_done locations batch.items old middle new asked all none (idle_left turns.Done middle new (inr refl) gives) in
    subst (λ (s : AdaptorStep). Computes locations (Ok s) old (stepped old.first new asked held state)) (sym is) (subst (λ (h : Option (ℕ × ColumnData)). Computes locations (Ok Yield) old (stepped old.first new asked h state)) (sym kept) (record {
      waits = λ is. absurd (let both : Waiting ≡ Done = sym is ∙ at in cc);
      why = inr (at, why_done locations old.first batch.items old.scan middle new all.batched gives.takes);
      scan = all.scan;
      left = stays.0;
      asks = asks_nothing locations batch.items old middle new asked None state all none;
      held = empty;
      none = refl;
      work = let same = stays.1 in let nothing = ap held_count empty in omega (arith, same, nothing);
    }))

-- ---- any of them

by_turn : (locations : List SegmentLocation) (batch : Vec IoRequest) (turn : Turn) (step : AdaptorStep) (old : AdaptorData) (middle new : ScanData) (asked : ℕ) (held : Option (ℕ × ColumnData)) (state : State) → old.held ≡ None → Stepped locations batch.items old middle new asked → GivesTurn turn middle new → StepOf batch turn step held state →
    Computes locations (Ok step) old (stepped old.first new asked held state)
by_turn locations batch (turns.Read request) step old middle new asked held state empty all gives is = absurd is
by_turn locations batch (turns.Output number column) step old middle new asked held state empty all gives is = computes_output locations batch number column step old middle new asked held state empty all gives is
by_turn locations batch turns.Waiting step old middle new asked held state empty all gives is = computes_waiting locations batch step old middle new asked held state empty all gives is
by_turn locations batch turns.Done step old middle new asked held state empty all gives is = computes_done locations batch step old middle new asked held state empty all gives is

-- the step that a batch of fetches and the turn behind it make
pub computes : (locations : List SegmentLocation) (batch : Vec IoRequest) (turn : Turn) (step : AdaptorStep) (old : AdaptorData) (new : ScanData) (asked : ℕ) (held : Option (ℕ × ColumnData)) (state : State) → old.held ≡ None → AreAskedReads locations old.first old.asked old.scan.progress.reads → asked ≡ old.asked + length batch.items →
    BatchGives locations old.first (Ok turn) batch.items old.scan new → StepOf batch turn step held state → Computes locations (Ok step) old (stepped old.first new asked held state)
computes locations batch turn step old new asked held state empty were counted (middle, batched, gives, plain) is =
    by_turn locations batch turn step old middle new asked held state empty (all_stepped locations batch.items turn old middle new asked were counted batched gives plain) gives is

-- what the adaptor holds of its reads behind it
pub computed_asked : (locations : List SegmentLocation) (batch : List IoRequest) (turn : Turn) (old : AdaptorData) (new : ScanData) (asked : ℕ) → AreAskedReads locations old.first old.asked old.scan.progress.reads → asked ≡ old.asked + length batch → BatchGives locations old.first (Ok turn) batch old.scan new → AreAskedReads locations old.first asked new.progress.reads
computed_asked locations batch turn old new asked were counted (middle, batched, gives, plain) = (all_stepped locations batch turn old middle new asked were counted batched gives plain).are_asked

-- and that the number of its fetches fits
pub computed_few : (locations : List SegmentLocation) (batch : List IoRequest) (turn : Turn) (old : AdaptorData) (new : ScanData) → AreAskedReads locations old.first old.asked old.scan.progress.reads → BatchGives locations old.first (Ok turn) batch old.scan new → old.asked + length batch ≤ length locations
computed_few locations batch turn old new were (middle, batched, gives, plain) =
    let few = few_asked locations old.first (count_behind old.first middle.progress.reads) middle batched.asked in
    let size = ap length batched.batch_is ∙ length_fetches locations (count_behind old.first old.scan.progress.reads) batched.segments in
    let more = batched.handed in
    let all = were.all in
    omega (arith, few, size, more, all)

-- as does the number of the reads before it
pub computed_fits : (locations : List SegmentLocation) (batch : List IoRequest) (turn : Turn) (old : AdaptorData) (new : ScanData) (asked : ℕ) → AreAskedReads locations old.first old.asked old.scan.progress.reads → asked ≡ old.asked + length batch → BatchGives locations old.first (Ok turn) batch old.scan new → old.first + old.asked < 2 ^ 64 →
    old.first + asked < 2 ^ 64
computed_fits locations batch turn old new asked were counted (middle, batched, gives, plain) fits =
    let size = ap length batched.batch_is ∙ length_fetches locations (count_behind old.first old.scan.progress.reads) batched.segments in
    let more = batched.handed in
    let all = were.all in
    let fit = batched.fits (omega (arith, all, fits)) in
    omega (arith, counted, size, more, all, fit)

-- ---- a refusal

pub stops : (locations : List SegmentLocation) (batch : List IoRequest) (error : AdaptorError) (old : AdaptorData) (new : ScanData) (held : Option (ℕ × ColumnData)) → old.held ≡ None → held ≡ None → AreAskedReads locations old.first old.asked old.scan.progress.reads → BatchGives locations old.first (Err error) batch old.scan new →
    Stops locations error old (stepped old.first new old.asked held Done)
stops locations batch error old new held empty none were (keeps, cause) = record {
  cause = cause;
  scan = keeps;
  asks = record { first = refl; asked = refl; reads = take_grown (drop old.first old.scan.progress.reads.wanted) (drop old.first new.progress.reads.wanted) old.asked (grows_behind old.scan.progress.reads.wanted new.progress.reads.wanted old.first keeps.grows) were.wanted };
  held = empty;
  none = none;
  state = refl;
}
