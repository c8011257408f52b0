-- A chunk without rows hands on the leaves that were handed to it.
use Rattle.std.proofs.Common.{◌≡◌, ◌<◌, ◌≤◌, ◌⊎◌, inl, inr, ⊎_elim, true, List, [], Option, Some, None, Vec, Global, length, ap, arith}
use Rattle.std.specs.Prelude.{IfSome}
use Rattle.std.proofs.lemmas.List.Elements.{All-weaker}
use Rattle.std.proofs.lemmas.Option.{slice_get_within}
use Rattle.vx_rows.specs.SegmentLeaves.{Bytes, leaves_of}
use Rattle.vx_steps.specs.declared.kept.KeptValue.{KeptValue}
use Rattle.vx_steps.specs.KeptData.{Kept}
use Rattle.vx_steps.specs.Visits.{IsLeafRead, Test}
use Rattle.vx_splits.specs.declared.selected_rows.SelectedRows.{SelectedRows}
use Rattle.vx_drive.specs.declared.plans.ScanPlans.{ScanPlans}
use Rattle.vx_drive.specs.Plans.{IsChunkOf}
use Rattle.vx_drive.specs.Runs.{row_fault}
use Rattle.vx_drive.proofs.Lasting.{lasts_same}
use Rattle.vx_chunks.specs.declared.outcomes.HandedOn.{HandedOn}
use Rattle.vx_chunks.specs.declared.outcomes.Ran.{Ran}
use Rattle.vx_chunks.specs.ChunkRows.{ChunkFailsInside, ChunkVisits, IsPiece}
use Rattle.vx_chunks.specs.Outcomes.{data_of, told_on, AreAllThere, CanHandOn, Causes, Claims, GivesPiece, HandsLeavesRead, HandsOnMore, IsHandedBy, IsWanted, RunsGiven, RunsOnly}
use Rattle.vx_chunks.proofs.ChunkOutcomes.{none_kept, there_as}
use Rattle.vx_chunks.proofs.HandedRuns.{error_as}
use Rattle.vx_chunks.proofs.LastingCauses.{cause_lasts}
use Rattle.vx_base.specs.Sources.{SourceState}

-- the same without leaves
abbrev pub without_leaves : HandedOn → Vec KeptValue Global → HandedOn
without_leaves handed nothing = record { leaves = nothing; made = handed.made }

-- what the run gives, with other leaves to be handed on
abbrev pub with_leaves : Ran → Vec KeptValue Global → Ran
with_leaves ran leaves = record { piece = ran.piece; handed = record { leaves = leaves; made = ran.handed.made } }

-- no row of it visits anything
none_visited : (P : Test) (plans : ScanPlans) (chosen : SelectedRows) (given : List Kept) → IsChunkOf plans chosen → chosen.scope.rows.end ≤ chosen.scope.rows.start → ChunkVisits P plans given chosen → ⊥
none_visited P plans chosen given is none visits =
    let less : visits.0 < length chosen.mask = slice_get_within chosen.mask visits.0 true visits.1 in
    let size = is.mask in
    omega (arith, less, size, none)

-- what is claimed where no leaves are handed on is claimed where some are
told_with : (plans : ScanPlans) (handed : HandedOn) (nothing : Vec KeptValue Global) (before : SourceState) → nothing.items ≡ [] → (P : Bytes → Type 0) → told_on plans (without_leaves handed nothing) before P → told_on plans handed before P
told_with plans handed nothing before empty P holds file told by = holds file told (record {
  leaves_are = λ n segment column shape at. absurd (none_kept (data_of nothing.items) n (ap data_of empty) (column, at));
  made_are = by.made_are;
})

some_as : {X : Type 0} (option : Option X) (P Q : X → Type 0) → ((x : X) → P x → Q x) → IfSome option P → IfSome option Q
some_as None P Q f holds = tt
some_as (Some x) P Q f holds = f x holds

more_bare : (plans : ScanPlans) (chosen : SelectedRows) (handed : HandedOn) (nothing : Vec KeptValue Global) (given : List Kept) (ran : Ran) (before : SourceState) → IsChunkOf plans chosen → chosen.scope.rows.end ≤ chosen.scope.rows.start → CanHandOn plans handed → nothing.items ≡ []
    → HandsOnMore plans chosen (without_leaves handed nothing) given ran before → HandsOnMore plans chosen handed given (with_leaves ran handed.leaves) before
more_bare plans chosen handed nothing given ran before is none can empty more =
    let T : Claims = told_on plans (without_leaves handed nothing) before in
    let U : Claims = told_on plans handed before in
    let reads : HandsLeavesRead plans chosen given (data_of handed.leaves.items) = λ read behind visits. absurd (none_visited (IsLeafRead read) plans chosen given is none visits) in
    record {
      can = record { leaves = can.leaves; made = more.can.made; apart = more.can.apart };
      by_file = λ file told by. record { leaves_are = by.leaves_are; made_are = (told_with plans handed nothing before empty (IsHandedBy plans ran.handed) more.by_file file told by).made_are };
      stays = more.stays;
      there = more.there;
      left = error_as ran.piece (λ error. IfSome (row_fault error) (λ fault. AreAllThere plans given (data_of ran.handed.made.items) chosen ⊎ T (λ bytes. ChunkFailsInside (leaves_of bytes) plans given chosen fault)))
          (λ error. IfSome (row_fault error) (λ fault. AreAllThere plans given (data_of ran.handed.made.items) chosen ⊎ U (λ bytes. ChunkFailsInside (leaves_of bytes) plans given chosen fault)))
          (λ error. some_as (row_fault error) (λ fault. AreAllThere plans given (data_of ran.handed.made.items) chosen ⊎ T (λ bytes. ChunkFailsInside (leaves_of bytes) plans given chosen fault))
          (λ fault. AreAllThere plans given (data_of ran.handed.made.items) chosen ⊎ U (λ bytes. ChunkFailsInside (leaves_of bytes) plans given chosen fault))
          (λ fault. ⊎_elim (λ (there : AreAllThere plans given (data_of ran.handed.made.items) chosen). inl there)
          (λ (inside : T (λ bytes. ChunkFailsInside (leaves_of bytes) plans given chosen fault)). inr (told_with plans handed nothing before empty (λ bytes. ChunkFailsInside (leaves_of bytes) plans given chosen fault) inside)))) more.left;
      leaves_stay = λ leaf read kept. kept;
      leaves_there = there_as ran.piece (λ column. AreAllThere plans given (data_of ran.handed.made.items) chosen) (λ column. HandsLeavesRead plans chosen given (data_of handed.leaves.items)) (λ column there. reads) more.there;
    }

given_bare : (plans : ScanPlans) (chosen : SelectedRows) (handed : HandedOn) (nothing : Vec KeptValue Global) (given all : List Kept) (ran : Ran) (before after : SourceState) → IsChunkOf plans chosen → chosen.scope.rows.end ≤ chosen.scope.rows.start → CanHandOn plans handed → nothing.items ≡ []
    → RunsGiven plans chosen (without_leaves handed nothing) given all ran before after → RunsGiven plans chosen handed given all (with_leaves ran handed.leaves) before after
given_bare plans chosen handed nothing given all ran before after is none can empty runs =
    let T : Claims = told_on plans (without_leaves handed nothing) before in
    let U : Claims = told_on plans handed before in
    record {
      content = there_as ran.piece (GivesPiece T plans given chosen) (GivesPiece U plans given chosen) (λ column gives. record { dtype = gives.dtype; count = gives.count; values = told_with plans handed nothing before empty (λ bytes. IsPiece (leaves_of bytes) plans given chosen column) gives.values }) runs.content;
      cause = error_as ran.piece (λ error. Causes T plans given chosen error before after) (λ error. Causes U plans given chosen error before after)
          (λ error cause. cause_lasts T U (told_with plans handed nothing before empty) plans given chosen error before before after (lasts_same before) cause) runs.cause;
      asks = record {
        segments = runs.asks.segments;
        asks = runs.asks.asks;
        wanted = All-weaker (IsWanted plans all (data_of nothing.items) chosen) (IsWanted plans all (data_of handed.leaves.items) chosen) (λ segment wanted. absurd (none_visited (IsLeafRead (record { leaf = wanted.leaf; segment = segment })) plans chosen all is none wanted.visited)) runs.asks.segments runs.asks.wanted;
      };
      more = more_bare plans chosen handed nothing all ran before is none can empty runs.more;
      faults = runs.faults;
      lasts = runs.lasts;
      in_flight = runs.in_flight;
    }

pub runs_bare : (plans : ScanPlans) (chosen : SelectedRows) (handed : HandedOn) (nothing : Vec KeptValue Global) (given : List Kept) (ran : Ran) (before after : SourceState) → IsChunkOf plans chosen → chosen.scope.rows.end ≤ chosen.scope.rows.start → CanHandOn plans handed → nothing.items ≡ []
    → RunsOnly plans chosen (without_leaves handed nothing) given ran before after → RunsOnly plans chosen handed given (with_leaves ran handed.leaves) before after
runs_bare plans chosen handed nothing given ran before after is none can empty run = record {
  runs = record {
    fitting = run.runs.fitting;
    fits = run.runs.fits;
    all = run.runs.all;
    stand = record { has_given = run.runs.stand.has_given; has_made = run.runs.stand.has_made };
    runs = given_bare plans chosen handed nothing run.runs.fitting run.runs.all ran before after is none can empty run.runs.runs;
  };
  only = run.only;
}

-- what is handed on without leaves can be
pub can_without : (plans : ScanPlans) (handed : HandedOn) (nothing : Vec KeptValue Global) → CanHandOn plans handed → nothing.items ≡ [] → CanHandOn plans (without_leaves handed nothing)
can_without plans handed nothing can empty = record {
  leaves = λ n column at. absurd (none_kept (data_of nothing.items) n (ap data_of empty) (column, at));
  made = can.made;
  apart = can.apart;
}
