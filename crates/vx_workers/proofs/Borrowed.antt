-- What a chunk borrows: whole values of plans that it asks for; and on which of them what comes of it rests.
use Rattle.std.proofs.Common.{◌≡◌, ℕ, zero, suc, ◌<◌, ◌≤◌, ◌⊎◌, inl, inr, ⊎_elim, Bool, true, false, List, [], ◌∷◌, ◌++◌, Err, Result, length, get_or, map, take, refl, sym, ◌∙◌, ap, subst, arith}
use Rattle.std.specs.Prelude.{IfErr, IfOk, IfSome}
use Rattle.std.specs.List.{AllByRecursion}
use Rattle.std.proofs.lemmas.List.Elements.{All-head, All-tail}
use Rattle.vx_rows.specs.Reads.{IsAmong}
use Rattle.vx_rows.specs.SegmentLeaves.{leaves_of}
use Rattle.vx_plan.specs.declared.children.PlanRef.{PlanRef}
use Rattle.vx_plan.specs.Nodes.{Node}
use Rattle.vx_plan.specs.Plans.{Plan}
use Rattle.vx_plan.specs.Refs.{number_of}
use Rattle.vx_plan.specs.Tables.{AreIn, IsGoodTable}
use Rattle.vx_steps.specs.declared.errors.StepError.TheVariants as step_errors
use Rattle.vx_steps.specs.declared.kept.KeptValue.{KeptValue}
use Rattle.vx_steps.specs.Asked.{AreAskedPlans}
use Rattle.vx_steps.specs.Given.{given_for}
use Rattle.vx_steps.specs.Kept.{IsKept}
use Rattle.vx_steps.specs.KeptData.{Kept}
use Rattle.vx_steps.specs.Laws.{GivenFits}
use Rattle.vx_steps.specs.Offers.{IsForPlan}
use Rattle.vx_steps.proofs.FreeVisits.{inside_cause}
use Rattle.vx_steps.proofs.HandedRows.{typed_fit}
use Rattle.vx_steps.proofs.ReadVisits.{no_columns}
use Rattle.vx_steps.proofs.VisitedParts.{cause_read}
use Rattle.vx_steps.proofs.Fitting.{none_typed}
use Rattle.vx_splits.specs.declared.selected_rows.SelectedRows.{SelectedRows}
use Rattle.vx_drive.specs.declared.errors.ScanError.{ScanError}
use Rattle.vx_drive.specs.declared.errors.ScanError.TheVariants.{BadProjection, OffsetOverflow, OutOfRange, Unsupported, NoLocation, ReadFault, Stalled, BadSegment, BadCode, EvalFault, Memory}
use Rattle.vx_drive.specs.declared.plans.ScanPlans.{ScanPlans}
use Rattle.vx_drive.specs.Plans.{bytes_of, projection_plan}
use Rattle.vx_drive.specs.Runs.{row_fault}
use Rattle.vx_chunks.specs.declared.outcomes.HandedOn.{HandedOn}
use Rattle.vx_chunks.specs.declared.outcomes.Ran.{Ran}
use Rattle.vx_chunks.specs.ChunkRows.{given_to, ChunkFailsInside}
use Rattle.vx_chunks.specs.Outcomes.{data_of, told_on, AreAllThere, Causes, ChunkAsks, GivesPiece, IsGivenOrMade, RunsOn, RunsOnly}
use Rattle.vx_chunks.proofs.ChunkOutcomes.{error_of}
use Rattle.vx_chunks.proofs.HandedRuns.{error_as}
use Rattle.vx_chunks.proofs.TakenWholes.{asks_same}
use Rattle.vx_workers.specs.declared.borrowing.Shared.{Shared}
use Rattle.vx_workers.specs.Borrowing.{AreHad, AreOfPlans, BorrowsOne, RestsOn, RunsShared}
use Rattle.vx_workers.specs.Borrowers.{AreBorrowed, RestsOnValues}
use Rattle.vx_base.specs.Columns.{ColumnData}
use Rattle.vx_base.specs.Sources.{SourceState}

-- ---- of the plans that are asked for

each_push : (P : Kept → Type 0) (ones : List Kept) (one : Kept) → AllByRecursion P ones → P one → AllByRecursion P (ones ++ one ∷ [])
each_push P [] one each is = (is, tt)
each_push P (x ∷ ones) one each is = (each.0, each_push P ones one each.1 is)

each_as : (P Q : Kept → Type 0) → ((one : Kept) → P one → Q one) → (ones : List Kept) → AllByRecursion P ones → AllByRecursion Q ones
each_as P Q f [] each = tt
each_as P Q f (x ∷ ones) each = (f x each.0, each_as P Q f ones each.1)

pub among_at : (asked : List PlanRef) (i : ℕ) → i < length asked → IsAmong (number_of (get_or asked i (record { 0 = 0 }))) (map number_of asked)
among_at [] i less = absurd (omega (arith, less))
among_at (one ∷ asked) zero less = inl refl
among_at (one ∷ asked) (suc i) less = inr (among_at asked i (omega (arith, less)))

pub all_known : (nodes : List Node) (asked : List PlanRef) → AreIn nodes (map number_of asked) → AllByRecursion (λ (node : PlanRef). number_of node < length nodes) asked
all_known nodes [] all = tt
all_known nodes (one ∷ asked) all =
    (All-head (λ (n : ℕ). n < length nodes) (number_of one) (map number_of asked) all, all_known nodes asked (All-tail (λ (n : ℕ). n < length nodes) (number_of one) (map number_of asked) all))

pub borrows_more : (nodes : List Node) (asked : List PlanRef) (node : PlanRef) (old new : List Kept) → IsAmong (number_of node) (map number_of asked) → AreOfPlans nodes (map number_of asked) old → BorrowsOne nodes (number_of node) old new → AreOfPlans nodes (map number_of asked) new
borrows_more nodes asked node old new among are (inl same) = subst (AreOfPlans nodes (map number_of asked)) (sym same) are
borrows_more nodes asked node old new among are (inr (one, number, fits, more)) = subst (AreOfPlans nodes (map number_of asked)) (sym more) (record {
  fit = each_push (IsForPlan nodes) old one are.fit fits;
  among = each_push (λ (k : Kept). IsAmong k.node (map number_of asked)) old one are.among (subst (λ (n : ℕ). IsAmong n (map number_of asked)) (sym number) among);
})

pub are_borrowed : (plans : ScanPlans) (chosen : SelectedRows) (asked : List PlanRef) (values : List Kept) → AreAskedPlans plans.table (number_of plans.projection) chosen.scope.rows.start chosen.mask (map number_of asked) → AreOfPlans plans.table (map number_of asked) values → AreBorrowed plans chosen values
are_borrowed plans chosen asked values is are = record {
  fit = are.fit;
  asked = each_as (λ (one : Kept). IsAmong one.node (map number_of asked)) (λ (one : Kept). ChunkAsks plans [] chosen one.node) (λ one among. (is one.node).0 among) values are.among;
}

-- ---- what a chunk asks for

-- one plan more
pub had_more : (given made : List Kept) (asked : List PlanRef) (i : ℕ) → i < length asked → AreHad (map number_of (take i asked)) given made → IsGivenOrMade given made (number_of (get_or asked i (record { 0 = 0 }))) → AreHad (map number_of (take (suc i) asked)) given made
had_more given made [] i less had one n among = absurd (omega (arith, less))
had_more given made (node ∷ asked) zero less had one n (inl here) = subst (IsGivenOrMade given made) here one
had_more given made (node ∷ asked) zero less had one n (inr none) = absurd none
had_more given made (node ∷ asked) (suc i) less had one n (inl here) = had n (inl here)
had_more given made (node ∷ asked) (suc i) less had one n (inr later) = had_more given made asked i (omega (arith, less)) (λ m among. had m (inr among)) one n later

-- all of them
pub had_end : (given made : List Kept) (asked : List PlanRef) (i : ℕ) → length asked ≤ i → AreHad (map number_of (take i asked)) given made → AreHad (map number_of asked) given made
had_end given made [] i end had n among = absurd among
had_end given made (node ∷ asked) zero end had n among = absurd (omega (arith, end))
had_end given made (node ∷ asked) (suc i) end had n (inl here) = had n (inl here)
had_end given made (node ∷ asked) (suc i) end had n (inr later) = had_end given made asked i (omega (arith, end)) (λ m among. had m (inr among)) n later

-- all that it asks for is given or made
pub had_all : (plans : ScanPlans) (chosen : SelectedRows) (asked : List ℕ) (given made : List Kept) → AreAskedPlans plans.table (number_of plans.projection) chosen.scope.rows.start chosen.mask asked → AreHad asked given made → AreAllThere plans given made chosen
had_all plans chosen asked given made are had n asks = had n ((are n).1 (asks_same plans given [] chosen n asks))

-- and what is there for it is given or made
pub there_had : (plans : ScanPlans) (chosen : SelectedRows) (handed : HandedOn) (asked : List ℕ) (given : List Kept) (ran : Ran) (before after : SourceState) → AreAskedPlans plans.table (number_of plans.projection) chosen.scope.rows.start chosen.mask asked → AreIn plans.table asked → (run : RunsOnly plans chosen handed given ran before after)
    → AreAllThere plans run.runs.all (data_of ran.handed.made.items) chosen → AreHad asked given (data_of ran.handed.made.items)
there_had plans chosen handed asked given ran before after are known run there n among =
    ⊎_elim
    (λ (kept : IsKept run.runs.all n).
    ⊎_elim (λ (is : IsKept given n). inl is)
    (λ (made : IsKept (data_of handed.made.items) n). inr (made.0, run.runs.runs.more.stays n made.0 (known_among plans.table asked known n among) made.1)) (run.only n kept))
    (λ (made : IsKept (data_of ran.handed.made.items) n). inr made)
    (there n (asks_same plans [] run.runs.all chosen n ((are n).0 among)))
  where
    known_among : (nodes : List Node) (numbers : List ℕ) → AreIn nodes numbers → (m : ℕ) → IsAmong m numbers → m < length nodes
    known_among nodes [] all m none = absurd none
    known_among nodes (one ∷ numbers) all m (inl here) = subst (λ (k : ℕ). k < length nodes) here (All-head (λ (k : ℕ). k < length nodes) one numbers all)
    known_among nodes (one ∷ numbers) all m (inr later) = known_among nodes numbers (All-tail (λ (k : ℕ). k < length nodes) one numbers all) m later

-- ---- a fault inside of whole values

-- it is one where nothing is given
inside_cause_free : (plans : ScanPlans) (chosen : SelectedRows) (handed : HandedOn) (all made : List Kept) (error : ScanError) (before after : SourceState) → IsGoodTable plans.table → number_of plans.projection < length plans.table → RestsOnValues error →
    IfSome (row_fault error) (λ fault. AreAllThere plans all made chosen ⊎ told_on plans handed before (λ bytes. ChunkFailsInside (leaves_of bytes) plans all chosen fault)) → (AreAllThere plans all made chosen → ⊥) → Causes (told_on plans handed before) plans [] chosen error before after
inside_cause_free plans chosen handed all made (BadCode take row) before after good known rests left lacks =
    let p : Plan = projection_plan plans in
    let fits : GivenFits (given_to plans []) p = typed_fit plans.table good [] (none_typed plans.table) (number_of plans.projection) known in
    ⊎_elim (λ (there : AreAllThere plans all made chosen). absurd (lacks there))
    (λ (within : told_on plans handed before (λ bytes. ChunkFailsInside (leaves_of bytes) plans all chosen (step_errors.BadCode take row))) file told by.
    cause_read (leaves_of (bytes_of plans file)) (given_to plans []) plans.row_offset p chosen.scope.rows.start chosen.mask (step_errors.BadCode take row) fits
    (inside_cause (leaves_of (bytes_of plans file)) (given_for plans.table all) (given_to plans []) (no_columns plans.table) plans.row_offset p chosen.scope.rows.start chosen.mask (step_errors.BadCode take row) (within file told by))) left
inside_cause_free plans chosen handed all made (EvalFault row) before after good known rests left lacks =
    ⊎_elim (λ (there : AreAllThere plans all made chosen). absurd (lacks there))
    (λ (within : told_on plans handed before (λ bytes. ChunkFailsInside (leaves_of bytes) plans all chosen (step_errors.EvalFault row))) file told by.
    inside_cause (leaves_of (bytes_of plans file)) (given_for plans.table all) (given_to plans []) (no_columns plans.table) plans.row_offset (projection_plan plans) chosen.scope.rows.start chosen.mask (step_errors.EvalFault row) (within file told by)) left
inside_cause_free plans chosen handed all made BadProjection before after good known rests left lacks = absurd rests
inside_cause_free plans chosen handed all made OffsetOverflow before after good known rests left lacks = absurd rests
inside_cause_free plans chosen handed all made OutOfRange before after good known rests left lacks = absurd rests
inside_cause_free plans chosen handed all made (Unsupported list) before after good known rests left lacks = absurd rests
inside_cause_free plans chosen handed all made (NoLocation segment) before after good known rests left lacks = absurd rests
inside_cause_free plans chosen handed all made ReadFault before after good known rests left lacks = absurd rests
inside_cause_free plans chosen handed all made Stalled before after good known rests left lacks = absurd rests
inside_cause_free plans chosen handed all made (BadSegment segment) before after good known rests left lacks = absurd rests
inside_cause_free plans chosen handed all made Memory before after good known rests left lacks = absurd rests

-- so the run is one for which nothing was given
runs_inside : (plans : ScanPlans) (chosen : SelectedRows) (handed : HandedOn) (given : List Kept) (ran : Ran) (error : ScanError) (before after : SourceState) → IsGoodTable plans.table → number_of plans.projection < length plans.table → (runs : RunsOn plans chosen handed given ran before after) →
    ran.piece ≡ Err error → RestsOnValues error → (AreAllThere plans runs.all (data_of ran.handed.made.items) chosen → ⊥) → RunsOn plans chosen handed [] ran before after
runs_inside plans chosen handed given ran error before after good known runs is rests lacks =
    let cause : Causes (told_on plans handed before) plans [] chosen error before after =
    inside_cause_free plans chosen handed runs.all (data_of ran.handed.made.items) error before after good known rests
    (error_of (λ one. IfSome (row_fault one) (λ fault. AreAllThere plans runs.all (data_of ran.handed.made.items) chosen ⊎ told_on plans handed before (λ bytes. ChunkFailsInside (leaves_of bytes) plans runs.all chosen fault))) ran.piece error is runs.runs.more.left) lacks in
    record {
      fitting = [];
      fits = inl refl;
      all = runs.all;
      stand = record { has_given = λ n kept. let none = kept.1 in absurd cc; has_made = runs.stand.has_made };
      runs = record {
        content = subst (λ (piece : Result ColumnData ScanError). IfOk piece (GivesPiece (told_on plans handed before) plans [] chosen)) (sym is) tt;
        cause = subst (λ (piece : Result ColumnData ScanError). IfErr piece (λ one. Causes (told_on plans handed before) plans [] chosen one before after)) (sym is) cause;
        asks = runs.runs.asks;
        more = runs.runs.more;
        faults = runs.runs.faults;
        lasts = runs.runs.lasts;
        in_flight = runs.runs.in_flight;
      };
    }

-- ---- the run

-- nothing was borrowed
pub shared_none : (shares : Bool) (plans : ScanPlans) (chosen : SelectedRows) (handed : HandedOn) (given : List Kept) (shared : Shared) (before after : SourceState) → given ≡ [] → shared.borrowed.items ≡ [] → RunsOn plans chosen handed given shared.ran before after → RunsShared shares plans chosen handed shared before after
shared_none shares plans chosen handed given shared before after none empty runs = record {
  borrowed = subst (AreBorrowed plans chosen) (sym (ap data_of empty)) (record { fit = tt; asked = tt });
  alone = λ off. empty;
  runs = subst (λ (ks : List Kept). RunsOn plans chosen handed ks shared.ran before after) (none ∙ sym (ap data_of empty)) runs;
  had = λ some. absurd (some empty);
}

-- these values were, of which copies are kept; or the result rests on none of them
pub shared_some : (plans : ScanPlans) (chosen : SelectedRows) (handed : HandedOn) (asked : List ℕ) (given : List Kept) (kept : List KeptValue) (shared : Shared) (before after : SourceState) → IsGoodTable plans.table → number_of plans.projection < length plans.table
    → AreAskedPlans plans.table (number_of plans.projection) chosen.scope.rows.start chosen.mask asked → AreIn plans.table asked → AreBorrowed plans chosen given → data_of kept ≡ given → RunsOnly plans chosen handed given shared.ran before after
    → RestsOn shared.ran.piece asked (data_of shared.ran.handed.made.items) kept shared.borrowed.items → RunsShared true plans chosen handed shared before after
shared_some plans chosen handed asked given kept shared before after good there asks known are same run (inl (left, had)) =
    let borrowed : data_of shared.borrowed.items ≡ given = ap data_of left ∙ same in
    record {
      borrowed = subst (AreBorrowed plans chosen) (sym borrowed) are;
      alone = λ off. absurd (let both : true ≡ false = off in cc);
      runs = subst (λ (ks : List Kept). RunsOn plans chosen handed ks shared.ran before after) (sym borrowed) run.runs;
      had = λ some.
          error_as shared.ran.piece (λ error. RestsOnValues error → AreHad asked (data_of kept) (data_of shared.ran.handed.made.items)) (λ error. RestsOnValues error → AreAllThere plans (data_of shared.borrowed.items) (data_of shared.ran.handed.made.items) chosen)
          (λ error all rests. had_all plans chosen asked (data_of shared.borrowed.items) (data_of shared.ran.handed.made.items) asks
          (subst (λ (values : List KeptValue). AreHad asked (data_of values) (data_of shared.ran.handed.made.items)) (sym left) (all rests))) had;
    }
shared_some plans chosen handed asked given kept shared before after good there asks known are same run (inr (left, (error, is, rests, lacks))) =
    shared_none true plans chosen handed [] shared before after refl left
    (runs_inside plans chosen handed given shared.ran error before after good there run.runs is rests (λ all.
    lacks (subst (λ (values : List Kept). AreHad asked values (data_of shared.ran.handed.made.items)) (sym same) (there_had plans chosen handed asked given shared.ran before after asks known run all))))
