-- The chunks of one worker, one after another: what they did to its source, and what they hand on.
use Rattle.std.proofs.Common.{◌≡◌, ℕ, ◌<◌, ◌≤◌, ◌⊎◌, inl, inr, List, [], ◌∷◌, ◌++◌, Some, Result, Ok, Err, length, refl, sym, ◌∙◌, subst, arith}
use Rattle.std.specs.Prelude.{Bool, IfErr, IfOk}
use Rattle.std.specs.List.{slice_get, AllByRecursion}
use Rattle.std.proofs.lemmas.List.Elements.{All-nil}
use Rattle.vx_rows.specs.Reads.{IsAmong}
use Rattle.vx_rows.specs.SegmentLeaves.{Bytes, leaves_of}
use Rattle.vx_plan.specs.Refs.{number_of}
use Rattle.vx_plan.specs.Tables.{IsGoodTable}
use Rattle.vx_steps.specs.Kept.{AreOfDistinctPlans}
use Rattle.vx_steps.specs.KeptData.{Kept}
use Rattle.vx_splits.specs.declared.selected_rows.SelectedRows.{SelectedRows}
use Rattle.vx_claims.specs.Views.{above}
use Rattle.vx_claims.proofs.Numbers.{above_push}
use Rattle.vx_drive.specs.declared.errors.ScanError.{ScanError}
use Rattle.vx_drive.specs.declared.errors.ScanError.TheVariants.{BadProjection, OffsetOverflow, OutOfRange, Unsupported, NoLocation, ReadFault, Stalled, BadSegment, BadCode, EvalFault, Memory}
use Rattle.vx_drive.specs.declared.plans.ScanPlans.{ScanPlans}
use Rattle.vx_drive.specs.Asks.{IsLeftClear, KeepsFaults, Lasts, TellsFaults}
use Rattle.vx_drive.specs.Plans.{bytes_of, projection_plan, AreInOrder, IsChunkOf}
use Rattle.vx_drive.proofs.Distinct.{distinct_none, pairs_none}
use Rattle.vx_drive.proofs.Lasting.{lasts_same, lasts_then, rose_from}
use Rattle.vx_drive.proofs.Sessions.{asked_nothing}
use Rattle.vx_chunks.specs.declared.outcomes.HandedOn.{HandedOn}
use Rattle.vx_chunks.specs.declared.outcomes.Ran.{Ran}
use Rattle.vx_chunks.specs.ChunkRows.{ChunkFaultsAt, ChunkReadsBadCode}
use Rattle.vx_chunks.specs.LeafRows.{LeavesLieTogether}
use Rattle.vx_chunks.specs.Outcomes.{data_of, told_by, told_on, AreAllThere, CanHandOn, HandsLeavesRead, HandsOnMore, IsHandedBy, Causes, RunsGiven}
use Rattle.vx_chunks.proofs.ChunkOutcomes.{error_of}
use Rattle.vx_chunks.proofs.FewerReads.{list_free, segment_free, torn_free}
use Rattle.vx_workers.specs.Borrowers.{FaultsBorrowing, RestsOnValues}
use Rattle.vx_workers.specs.Reasons.{Reason, AreOfOneLeafOnlyBehind}
use Rattle.vx_workers.specs.Workers.{AsksReached, Fails, RunsSource}
use Rattle.vx_workers.proofs.Higher.{ascend_none, ascend_push}
use Rattle.vx_workers.proofs.NewReasons.{ArePast, AreTaken, HandsLeaves, HasAsked, HasMade, NewReasons, RunsNext, asks_more, lies_behind, new_reasons, past_more, taken_more}
use Rattle.vx_base.specs.Columns.{ColumnData}
use Rattle.vx_base.specs.Masks.{Ascend}
use Rattle.vx_base.specs.Sources.{SourceState}

-- ---- the chunks so far

-- the table is a good one, and the projection is one of its plans
pub record IsGoodPlans (plans : ScanPlans) : Type 0 where
  pub good : IsGoodTable plans.table
  pub known : number_of plans.projection < length plans.table

-- what is handed on is so by the file
abbrev pub IsHanded : ScanPlans → HandedOn → SourceState → Type 0
IsHanded plans handed source = told_by plans source (IsHandedBy plans handed)

-- the chunks from that number on lie behind the row
abbrev pub LieBehind : List SelectedRows → ℕ → ℕ → Type 0
LieBehind chunks number row = (n : ℕ) (chunk : SelectedRows) → number ≤ n → slice_get chunks n ≡ Some chunk → row ≤ chunk.scope.rows.start

-- What the runs of the chunks with these numbers did to the source, and what the last of them handed on.
pub record RanSoFar (shares : Bool) (plans : ScanPlans) (chunks : List SelectedRows) (numbers : List ℕ) (handed : HandedOn) (before now : SourceState) : Type 0 where
  pub ascend : Ascend numbers
  pub faults : KeepsFaults before now
  pub can : CanHandOn plans handed
  pub handed_is : IsHanded plans handed before
  pub reasons : List Reason
  pub asks : AsksReached shares plans chunks numbers reasons before now
  -- the row behind the last of them
  pub row : ℕ
  -- a leaf that was asked for is handed on where later rows read it, but for chunks that ended in a fault of rows
  pub past : AreInOrder chunks → LeavesLieTogether (projection_plan plans) → ArePast plans row (data_of handed.leaves.items) asks.faulted reasons
  -- whole values through which it was asked for are made
  pub taken : AreTaken plans (data_of handed.made.items) reasons
  pub behind : AreInOrder chunks → LieBehind chunks (above numbers) row
  pub lasts : Lasts before now
  pub in_flight : IsLeftClear before now

none_apart : AreOfDistinctPlans []
none_apart p q k l at other same = absurd cc

-- nothing ran yet
pub ran_none : (shares : Bool) (plans : ScanPlans) (chunks : List SelectedRows) (numbers : List ℕ) (handed : HandedOn) (source : SourceState) → handed.leaves.items ≡ [] → handed.made.items ≡ [] → numbers ≡ [] → RanSoFar shares plans chunks numbers handed source source
ran_none shares plans chunks numbers handed source no_leaves none_made no_numbers = rw no_numbers (record {
  ascend = ascend_none;
  faults = refl;
  can = record {
    leaves = rw no_leaves (λ n column at. absurd cc);
    made = rw none_made (λ n column at. absurd cc);
    apart = rw none_made none_apart;
  };
  handed_is = λ file told. record {
    leaves_are = rw no_leaves (λ n segment column shape at. absurd cc);
    made_are = rw none_made (λ n column at. absurd cc);
  };
  reasons = [];
  asks = record {
    are = tt;
    own = tt;
    located = All-nil (λ segment. segment < length plans.locations.items);
    asked = sym (asked_nothing source.asked);
    once_a_chunk = distinct_none;
    faulted = [];
    faulted_are = tt;
    once_a_leaf = λ order together. pairs_none (AreOfOneLeafOnlyBehind []);
    once_a_take = distinct_none;
  };
  row = 0;
  past = λ order together. tt;
  taken = tt;
  behind = λ order n chunk least here. omega arith;
  lasts = lasts_same source;
  in_flight = inr refl;
})

-- what is claimed of the file at the chunk's begin is claimed of the file at the first one's
pub told_before : (plans : ScanPlans) (handed : HandedOn) (before now : SourceState) (P : Bytes → Type 0) → Lasts before now → IsHanded plans handed before → told_on plans handed now P → told_by plans before P
told_before plans handed before now P lasts is claim = λ file told. claim file (lasts.file ∙ told) (is file told)

-- ---- a chunk behind which the worker goes on

-- no call on the source failed
faultless : (piece : Result ColumnData ScanError) (now after : SourceState) → IfErr piece RestsOnValues → TellsFaults piece now after → KeepsFaults now after
faultless piece now after rests (inl same) = same
faultless (Ok column) now after rests (inr fault) = absurd cc
faultless (Err error) now after rests (inr fault) = let same : error ≡ ReadFault = cc in absurd (subst RestsOnValues same rests)

-- the chunks that ended in a fault of rows, with the next one, if it did
abbrev faulted_behind : ℕ → Result ColumnData ScanError → List ℕ → List ℕ
faulted_behind number (Ok column) faulted = faulted
faulted_behind number (Err error) faulted = number ∷ faulted

faulted_still : (number : ℕ) (piece : Result ColumnData ScanError) (faulted : List ℕ) (x : ℕ) → IsAmong x faulted → IsAmong x (faulted_behind number piece faulted)
faulted_still number (Ok column) faulted x among = among
faulted_still number (Err error) faulted x among = inr among

each_faulted : (P : ℕ → Type 0) (number : ℕ) (piece : Result ColumnData ScanError) (faulted : List ℕ) → IfErr piece (λ error. P number) → AllByRecursion P faulted → AllByRecursion P (faulted_behind number piece faulted)
each_faulted P number (Ok column) faulted one each = each
each_faulted P number (Err error) faulted one each = (one, each)

-- unless it did, it decoded all leaves that its rows read
read_or_faulted : (P : Type 0) (number : ℕ) (piece : Result ColumnData ScanError) (faulted : List ℕ) → IfOk piece (λ column. P) → IsAmong number (faulted_behind number piece faulted) ⊎ P
read_or_faulted P number (Ok column) faulted there = inr there
read_or_faulted P number (Err error) faulted there = inl (inl refl)

-- what a chunk hands on of leaves
hands_leaves : (plans : ScanPlans) (number : ℕ) (chunk : SelectedRows) (faulted : List ℕ) (handed : HandedOn) (given all : List Kept) (ran : Ran) (before after : SourceState) → RunsGiven plans chunk handed given all ran before after → HandsLeaves plans number chunk (faulted_behind number ran.piece faulted) all (data_of handed.leaves.items) (data_of ran.handed.leaves.items)
hands_leaves plans number chunk faulted handed given all ran before after runs = record {
  stay = runs.more.leaves_stay;
  there = read_or_faulted (HandsLeavesRead plans chunk all (data_of ran.handed.leaves.items)) number ran.piece faulted runs.more.leaves_there;
}

-- the chunk that was claimed, behind those that ran
next_chunk : (shares : Bool) (plans : ScanPlans) (chunks : List SelectedRows) (numbers : List ℕ) (number : ℕ) (chunk : SelectedRows) (handed : HandedOn) (before now : SourceState) → IsChunkOf plans chunk → slice_get chunks number ≡ Some chunk → above numbers ≤ number
    → (ran : RanSoFar shares plans chunks numbers handed before now) → RunsNext plans chunks numbers ran.row number chunk
next_chunk shares plans chunks numbers number chunk handed before now is here later ran = record {
  is = is;
  here = here;
  later = later;
  behind = λ order. ran.behind order number chunk later here;
}

-- all that it asks for is given or made
all_there : (P : Type 0) (piece : Result ColumnData ScanError) → IfOk piece (λ column. P) → IfErr piece (λ error. P) → P
all_there P (Ok column) there had = there
all_there P (Err error) there had = had

-- what was made before is made
still_made : (plans : ScanPlans) (chunk : SelectedRows) (handed : HandedOn) (all : List Kept) (ran : Ran) (now : SourceState) → HandsOnMore plans chunk handed all ran now → HasMade plans (data_of handed.made.items) (data_of ran.handed.made.items)
still_made plans chunk handed all ran now more n known (column, at) = (column, more.stays n column known at)

pub ran_more : (shares : Bool) (plans : ScanPlans) (chunks : List SelectedRows) (numbers : List ℕ) (number : ℕ) (chunk : SelectedRows) (handed : HandedOn) (given all : List Kept) (ran : Ran) (before now after : SourceState) → IsGoodPlans plans → IsChunkOf plans chunk → slice_get chunks number ≡ Some chunk → above numbers ≤ number
    → RanSoFar shares plans chunks numbers handed before now → HasAsked plans chunk (data_of handed.made.items) all → RunsGiven plans chunk handed given all ran now after → IfErr ran.piece RestsOnValues → IfErr ran.piece (λ error. FaultsBorrowing shares plans chunks before number)
    → IfErr ran.piece (λ error. AreAllThere plans all (data_of ran.handed.made.items) chunk) → RanSoFar shares plans chunks (numbers ++ number ∷ []) ran.handed before after
ran_more shares plans chunks numbers number chunk handed given all ran before now after good is here later so_far has runs rests faults had =
    let next = next_chunk shares plans chunks numbers number chunk handed before now is here later so_far in
    let faulted : List ℕ = so_far.asks.faulted in
    let behind : List ℕ = faulted_behind number ran.piece faulted in
    let fresh : NewReasons plans number all (data_of handed.leaves.items) chunk runs.asks.segments = new_reasons plans number all (data_of handed.leaves.items) chunk runs.asks.segments runs.asks.wanted in
    let asks : (more : AsksReached shares plans chunks (numbers ++ number ∷ []) (so_far.reasons ++ fresh.reasons) before after) × (more.faulted ≡ behind) =
    asks_more shares plans chunks numbers so_far.row number chunk (data_of handed.made.items) all (data_of handed.leaves.items) so_far.reasons behind before now after good.good good.known next so_far.asks (faulted_still number ran.piece faulted)
    (each_faulted (FaultsBorrowing shares plans chunks before) number ran.piece faulted faults so_far.asks.faulted_are) has so_far.taken so_far.past runs.asks fresh in
    record {
      ascend = ascend_push numbers number so_far.ascend later;
      faults = faultless ran.piece now after rests runs.faults ∙ so_far.faults;
      can = runs.more.can;
      handed_is = told_before plans handed before now (IsHandedBy plans ran.handed) so_far.lasts so_far.handed_is runs.more.by_file;
      reasons = so_far.reasons ++ fresh.reasons;
      asks = asks.0;
      row = chunk.scope.rows.end;
      past = λ order together.
          subst (λ (numbers : List ℕ). ArePast plans chunk.scope.rows.end (data_of ran.handed.leaves.items) numbers (so_far.reasons ++ fresh.reasons)) (sym asks.1)
          (past_more plans chunks numbers so_far.row number chunk faulted behind all (data_of handed.leaves.items) (data_of ran.handed.leaves.items) runs.asks.segments so_far.reasons next (hands_leaves plans number chunk faulted handed given all ran now after runs)
          (faulted_still number ran.piece faulted) fresh order together (so_far.past order together));
      taken = taken_more plans number (data_of handed.made.items) all (data_of handed.leaves.items) (data_of ran.handed.made.items) chunk runs.asks.segments so_far.reasons good.good good.known (still_made plans chunk handed all ran now runs.more)
          (all_there (AreAllThere plans all (data_of ran.handed.made.items) chunk) ran.piece runs.more.there had) fresh so_far.taken;
      behind = λ order n other least there. lies_behind 0 chunks number n chunk other order here there (let last = above_push numbers number later in omega (arith, last, least));
      lasts = lasts_then before now after so_far.lasts runs.lasts;
      in_flight = inl runs.in_flight;
    }

-- ---- a chunk that failed

-- nothing was given, or the error comes of no value
abbrev pub IsSure : List Kept → ScanError → Type 0
IsSure given error = (given ≡ []) ⊎ (RestsOnValues error → ⊥)

-- the error has its cause with nothing given
cause_before : (plans : ScanPlans) (handed : HandedOn) (given : List Kept) (chunk : SelectedRows) (error : ScanError) (before now after : SourceState) → Lasts before now → IsHanded plans handed before → IsSure given error →
    Causes (told_on plans handed now) plans given chunk error now after → Causes (told_by plans before) plans [] chunk error before after
cause_before plans handed given chunk BadProjection before now after lasts is sure cause = absurd cause
cause_before plans handed given chunk OffsetOverflow before now after lasts is sure cause = absurd cause
cause_before plans handed given chunk OutOfRange before now after lasts is sure cause = absurd cause
cause_before plans handed given chunk (Unsupported list) before now after lasts is sure cause = list_free plans given chunk (number_of list) cause
cause_before plans handed given chunk (NoLocation segment) before now after lasts is sure cause = (segment_free plans given chunk segment cause.0, cause.1)
cause_before plans handed given chunk ReadFault before now after lasts is sure cause = rose_from 1 before.faults now.faults after.faults lasts.faults cause
cause_before plans handed given chunk Stalled before now after lasts is sure cause = rose_from plans.idle_limit before.idle now.idle after.idle lasts.idle cause
cause_before plans handed given chunk (BadSegment segment) before now after lasts is sure cause = λ file told. torn_free (bytes_of plans file) plans given chunk segment (cause file (lasts.file ∙ told) (is file told))
cause_before plans handed given chunk (BadCode take row) before now after lasts is (inl none) cause =
    λ file told. subst (λ (ks : List Kept). ChunkReadsBadCode (leaves_of (bytes_of plans file)) plans ks chunk (number_of take) row) none (cause file (lasts.file ∙ told) (is file told))
cause_before plans handed given chunk (BadCode take row) before now after lasts is (inr not) cause = absurd (not tt)
cause_before plans handed given chunk (EvalFault row) before now after lasts is (inl none) cause =
    λ file told. subst (λ (ks : List Kept). ChunkFaultsAt (leaves_of (bytes_of plans file)) plans ks chunk row) none (cause file (lasts.file ∙ told) (is file told))
cause_before plans handed given chunk (EvalFault row) before now after lasts is (inr not) cause = absurd (not tt)
cause_before plans handed given chunk Memory before now after lasts is sure cause = tt

-- the error of the chunk is that a read failed, where a call on the source failed
faults_told : (piece : Result ColumnData ScanError) (error : ScanError) (before now after : SourceState) → KeepsFaults before now → piece ≡ Err error → TellsFaults piece now after → KeepsFaults before after ⊎ (error ≡ ReadFault)
faults_told piece error before now after so_far is (inl same) = inl (same ∙ so_far)
faults_told (Ok column) error before now after so_far is (inr fault) = absurd cc
faults_told (Err one) error before now after so_far is (inr fault) =
    let here : one ≡ error = cc in
    let there : one ≡ ReadFault = cc in
    inr (sym here ∙ there)

pub fails_now : (shares : Bool) (plans : ScanPlans) (chunks : List SelectedRows) (numbers : List ℕ) (number : ℕ) (chunk : SelectedRows) (handed : HandedOn) (given all : List Kept) (ran : Ran) (error : ScanError) (before now after : SourceState) → slice_get chunks number ≡ Some chunk
    → RanSoFar shares plans chunks numbers handed before now → RunsGiven plans chunk handed given all ran now after → ran.piece ≡ Err error → IsSure given error → Fails plans chunks (record { chunk = number; error = error }) before after
fails_now shares plans chunks numbers number chunk handed given all ran error before now after here so_far runs error_is sure =
    let cause : Causes (told_on plans handed now) plans given chunk error now after = error_of (λ error. Causes (told_on plans handed now) plans given chunk error now after) ran.piece error error_is runs.cause in
    record {
      chunk = chunk;
      here = here;
      cause = cause_before plans handed given chunk error before now after so_far.lasts so_far.handed_is sure cause;
      faults = faults_told ran.piece error before now after so_far.faults error_is runs.faults;
    }

-- ---- the source with one chunk more, whether the worker goes on behind it or not

pub source_more : (shares : Bool) (plans : ScanPlans) (chunks : List SelectedRows) (numbers : List ℕ) (number : ℕ) (chunk : SelectedRows) (handed : HandedOn) (given all : List Kept) (ran : Ran) (before now after : SourceState) → IsGoodPlans plans → IsChunkOf plans chunk → slice_get chunks number ≡ Some chunk → above numbers ≤ number
    → RanSoFar shares plans chunks numbers handed before now → HasAsked plans chunk (data_of handed.made.items) all → RunsGiven plans chunk handed given all ran now after → RunsSource shares plans chunks (numbers ++ number ∷ []) before after
source_more shares plans chunks numbers number chunk handed given all ran before now after good is here later so_far has runs =
    let next = next_chunk shares plans chunks numbers number chunk handed before now is here later so_far in
    let fresh : NewReasons plans number all (data_of handed.leaves.items) chunk runs.asks.segments = new_reasons plans number all (data_of handed.leaves.items) chunk runs.asks.segments runs.asks.wanted in
    record {
      reasons = so_far.reasons ++ fresh.reasons;
      asks = (asks_more shares plans chunks numbers so_far.row number chunk (data_of handed.made.items) all (data_of handed.leaves.items) so_far.reasons so_far.asks.faulted before now after good.good good.known next so_far.asks (λ x among. among) so_far.asks.faulted_are has so_far.taken
          so_far.past runs.asks fresh).0;
      lasts = lasts_then before now after so_far.lasts runs.lasts;
      in_flight = inl runs.in_flight;
    }
