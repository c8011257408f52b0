-- One chunk that ran with borrowed values: its result stands, or it runs again, or it fails.
use Rattle.std.proofs.Common.{◌≡◌, ℕ, suc, ◌⊎◌, inl, inr, ⊎_elim, Bool, true, false, List, [], ◌∷◌, ◌++◌, Option, Some, None, Result, Ok, Err, length, refl, sym, ◌∙◌, subst, arith}
use Rattle.std.specs.Prelude.{if◌then◌else◌, ◌==◌, slice_index_or, IfErr, IfOk, IsSomeAnd}
use Rattle.std.specs.List.{slice_get, AllByRecursion}
use Rattle.std.proofs.lemmas.Bool.{eqb-true}
use Rattle.std.proofs.lemmas.List.{length-map, map_push}
use Rattle.std.proofs.lemmas.Option.{slice_get_within}
use Rattle.vx_rows.specs.Derivations.{Leaves}
use Rattle.vx_rows.specs.Reads.{IsAmong}
use Rattle.vx_rows.specs.SegmentLeaves.{Bytes, leaves_of}
use Rattle.vx_plan.specs.Plans.{plan_at}
use Rattle.vx_plan.specs.Refs.{number_of}
use Rattle.vx_steps.specs.Given.{whole_value}
use Rattle.vx_steps.specs.Held.{AreMade, AreTyped}
use Rattle.vx_steps.specs.Kept.{kept_at, kept_data}
use Rattle.vx_steps.specs.KeptData.{Kept}
use Rattle.vx_steps.specs.declared.kept.KeptValue.{KeptValue}
use Rattle.vx_steps.specs.Offers.{IsForPlan, Keeps}
use Rattle.vx_steps.proofs.Fitting.{first_fits, fitting_typed, kept_first}
use Rattle.vx_splits.specs.declared.selected_rows.SelectedRows.{SelectedRows}
use Rattle.vx_drive.specs.declared.errors.ScanError.{ScanError}
use Rattle.vx_drive.specs.declared.errors.ScanError.TheVariants.{ReadFault, Memory}
use Rattle.vx_drive.specs.declared.plans.ScanPlans.{ScanPlans}
use Rattle.vx_drive.specs.Asks.{KeepsFaults, Lasts, TellsFaults}
use Rattle.vx_drive.specs.Plans.{bytes_of, projection_node}
use Rattle.vx_drive.proofs.Lasting.{lasts_same, lasts_then}
use Rattle.vx_chunks.specs.declared.outcomes.ChunkOutcome.{ChunkOutcome}
use Rattle.vx_chunks.specs.ChunkRows.{IsPiece}
use Rattle.vx_chunks.specs.Outcomes.{data_of, told_by, Causes, ChunkAsks, Claims, GivesPiece, RunsChunk}
use Rattle.vx_chunks.proofs.ChunkScanning.{IsGoodChunk}
use Rattle.vx_chunks.proofs.LastingCauses.{cause_lasts}
use Rattle.vx_workers.specs.declared.worker_states.Borrower.{Borrower}
use Rattle.vx_workers.specs.Certified.{nodes_in, AreGiven, AreRight, Certifies, FailsToRead, IsTested, IsWrong}
use Rattle.vx_workers.specs.Borrowers.{IsResultBy, RestsOnValues}
use Rattle.vx_workers.proofs.Certifying.{clear_then}
use Rattle.vx_workers.proofs.CertifyingEach.{data_got}
use Rattle.vx_workers.proofs.ValidatedCauses.{cause_asked, cause_free, cause_of_result, each_typed, piece_free, result_free}
use Rattle.vx_execute.specs.declared.outcomes.Rerun.{Rerun}
use Rattle.vx_execute.specs.Validated.{told_of_borrower, IsListed, IsBorrowerOf, IsRerunOf, ValidatesOne}
use Rattle.vx_execute.specs.Validating.{rerun_chunks}
use Rattle.vx_execute.proofs.ValidatedAsks.{asks_direct, asks_failed, asks_none, asks_quiet, asks_then, AllGiven}
use Rattle.vx_base.specs.Columns.{ColumnData}
use Rattle.vx_base.specs.Masks.{true_count}
use Rattle.vx_base.specs.Sources.{SourceState}
use Rattle.vx_base.proofs.Got.{each_got}

-- ---- what is claimed

-- what is claimed once more values are right is claimed before
told_earlier : (plans : ScanPlans) (chosen : SelectedRows) (old mid : List Kept) (borrower : Borrower) (Wants : ℕ → Type 0) (before now : SourceState) → Certifies plans Wants old mid None before now → (P : Bytes → Type 0) → told_of_borrower plans chosen mid borrower now P → told_of_borrower plans chosen old borrower before P
told_earlier plans chosen old mid borrower Wants before now step P holds file told made by = holds file (step.lasts.file ∙ told) (step.right file told made) by

-- ---- what comes after values were made sure of

piece_earlier : (Told Other : Claims) → ((P : Bytes → Type 0) → Told P → Other P) → (plans : ScanPlans) (chosen : SelectedRows) (result : Result ColumnData ScanError) → IfOk result (GivesPiece Told plans [] chosen) → IfOk result (GivesPiece Other plans [] chosen)
piece_earlier Told Other carries plans chosen (Ok column) gives = record { dtype = gives.dtype; count = gives.count; values = carries (λ bytes. IsPiece (leaves_of bytes) plans [] chosen column) gives.values }
piece_earlier Told Other carries plans chosen (Err error) gives = tt

cause_earlier : (Told Other : Claims) → ((P : Bytes → Type 0) → Told P → Other P) → (plans : ScanPlans) (chosen : SelectedRows) (result : Result ColumnData ScanError) (before now after : SourceState) → Lasts before now → IfErr result (λ error. Causes Told plans [] chosen error now after) → IfErr result (λ error. Causes Other plans [] chosen error before after)
cause_earlier Told Other carries plans chosen (Ok column) before now after lasts cause = tt
cause_earlier Told Other carries plans chosen (Err error) before now after lasts cause = cause_lasts Told Other carries plans [] chosen error before now after lasts cause

rerun_earlier : (Told Other : Claims) → ((P : Bytes → Type 0) → Told P → Other P) → (plans : ScanPlans) (chosen : SelectedRows) (number : ℕ) (rerun : Rerun) → IsRerunOf plans chosen number Told rerun → IsRerunOf plans chosen number Other rerun
rerun_earlier Told Other carries plans chosen number rerun is = record {
  chunk = is.chunk;
  asks = is.asks;
  borrowed = is.borrowed;
  made = is.made;
  differ = is.differ;
  whole = carries (λ bytes. whole_value (leaves_of bytes) plans.row_offset (plan_at plans.table (number_of rerun.node)) ≡ Some rerun.made.values) is.whole;
}

-- no call on the source failed while the values were made sure of
quiet_in : (plans : ScanPlans) (Wants : ℕ → Type 0) (old mid : List Kept) (before now : SourceState) → Certifies plans Wants old mid None before now → KeepsFaults before now
quiet_in plans Wants old mid before now step = by_faults step.faults
  where
    by_faults : KeepsFaults before now ⊎ (None ≡ Some ReadFault) → KeepsFaults before now
    by_faults (inl same) = same
    by_faults (inr fault) = absurd cc

faults_then : {X : Type 0} (result : Result X ScanError) (before now after : SourceState) → KeepsFaults before now → TellsFaults result now after → TellsFaults result before after
faults_then result before now after first (inl same) = inl (same ∙ first)
faults_then result before now after first (inr fault) = inr fault

pub validates_then : (plans : ScanPlans) (chosen : SelectedRows) (borrower : Borrower) (old mid new : List Kept) (reruns_old reruns_new : List Rerun) (result : Result ColumnData ScanError) (before now after : SourceState) → IsGoodChunk plans chosen → Certifies plans (ChunkAsks plans [] chosen) old mid None before now →
    ValidatesOne plans chosen borrower mid new reruns_old reruns_new result now after → ValidatesOne plans chosen borrower old new reruns_old reruns_new result before after
validates_then plans chosen borrower old mid new reruns_old reruns_new result before now after is step one =
    let Told : Claims = told_of_borrower plans chosen mid borrower now in
    let Other : Claims = told_of_borrower plans chosen old borrower before in
    let carries : (P : Bytes → Type 0) → Told P → Other P = told_earlier plans chosen old mid borrower (ChunkAsks plans [] chosen) before now step in
    record {
      typed = one.typed;
      grows = λ n column at. one.grows n column (step.grows n column at);
      right = carries (λ bytes. AreMade plans.table plans.row_offset new (leaves_of bytes)) one.right;
      content = piece_earlier Told Other carries plans chosen result one.content;
      cause = cause_earlier Told Other carries plans chosen result before now after step.lasts one.cause;
      reran = ⊎_elim (λ (same : reruns_new ≡ reruns_old). inl same)
          (λ (listed : (rerun : Rerun) × IsRerunOf plans chosen borrower.chunk Told rerun × (reruns_new ≡ reruns_old ++ rerun ∷ [])). inr (listed.0, rerun_earlier Told Other carries plans chosen borrower.chunk listed.0 listed.1, listed.2))
          one.reran;
      asks = asks_then plans chosen borrower.chunk old mid new (rerun_chunks reruns_new) result before now after is step one.grows one.asks;
      faults = faults_then result before now after (quiet_in plans (ChunkAsks plans [] chosen) old mid before now step) one.faults;
      lasts = lasts_then before now after step.lasts one.lasts;
      in_flight = clear_then before now after step.in_flight one.in_flight;
    }

-- ---- the chunk fails

fault_told : (error : ScanError) (before after : SourceState) → KeepsFaults before after ⊎ (Some error ≡ Some ReadFault) → TellsFaults {X = ColumnData} (Err error) before after
fault_told error before after (inl same) = inl same
fault_told error before after (inr fault) = inr cc

-- values that it asks for can't be read
pub validates_failed : (plans : ScanPlans) (chosen : SelectedRows) (borrower : Borrower) (old new : List Kept) (reruns : List Rerun) (error : ScanError) (before after : SourceState) → IsGoodChunk plans chosen → AreTyped plans.table old → Certifies plans (ChunkAsks plans [] chosen) old new (Some error) before after →
    ValidatesOne plans chosen borrower old new reruns reruns (Err error) before after
validates_failed plans chosen borrower old new reruns error before after is typed step = record {
  typed = step.typed typed;
  grows = step.grows;
  right = λ file told made by. step.right file told made;
  content = tt;
  cause = failed_cause plans chosen old borrower error before after is step.cause;
  reran = inl refl;
  asks = asks_failed plans chosen borrower.chunk old new (rerun_chunks reruns) error before after is step;
  faults = fault_told error before after step.faults;
  lasts = step.lasts;
  in_flight = step.in_flight;
}
  where
    failed_cause : (plans : ScanPlans) (chosen : SelectedRows) (right : List Kept) (borrower : Borrower) (error : ScanError) (before after : SourceState) → IsGoodChunk plans chosen → FailsToRead plans (ChunkAsks plans [] chosen) error before after → Causes (told_of_borrower plans chosen right borrower before) plans [] chosen error before after
    failed_cause plans chosen right borrower error before after is (inl lacks) = subst (λ (e : ScanError). Causes (told_of_borrower plans chosen right borrower before) plans [] chosen e before after) (sym lacks) tt
    failed_cause plans chosen right borrower error before after is (inr (node, asks, known, cause)) =
        cause_asked (told_by plans before) (told_of_borrower plans chosen right borrower before) (λ bytes. Unit {0}) plans node chosen error before before after (λ P Q f holds file told made by. f (bytes_of plans file) tt (holds file told)) is known asks (lasts_same before) cause

-- memory lacks
pub validates_lacking : (plans : ScanPlans) (chosen : SelectedRows) (borrower : Borrower) (right : List Kept) (reruns : List Rerun) (source : SourceState) → AreTyped plans.table right → ValidatesOne plans chosen borrower right right reruns reruns (Err Memory) source source
validates_lacking plans chosen borrower right reruns source typed = record {
  typed = typed;
  grows = λ n column at. at;
  right = λ file told made by. made;
  content = tt;
  cause = tt;
  reran = inl refl;
  asks = asks_none plans chosen borrower.chunk right (rerun_chunks reruns) (Err Memory) source;
  faults = inl refl;
  lasts = lasts_same source;
  in_flight = inr refl;
}

-- ---- all borrowed values are right

-- the first column that is kept for a plan stands at some place
place_by_test : (one : Kept) (values : List Kept) (n : ℕ) (column : ColumnData) (test : Bool) → (one.node == n) ≡ test → (kept_at values n ≡ Some column → (place : ℕ) × (slice_get values place ≡ Some (record { node = n; column = column }))) → (if test then Some one.column else kept_at values n) ≡ Some column →
    (place : ℕ) × (slice_get (one ∷ values) place ≡ Some (record { node = n; column = column }))
place_by_test one values n column true is behind at =
    let node : one.node ≡ n = eqb-true one.node n is in
    let same : one.column ≡ column = cc in
    (0, λ i. Some (record { node = node i; column = same i }))
place_by_test one values n column false is behind at =
    let rest = behind at in
    (suc rest.0, rest.1)

place_of : (values : List Kept) (n : ℕ) (column : ColumnData) → kept_at values n ≡ Some column → (place : ℕ) × (slice_get values place ≡ Some (record { node = n; column = column }))
place_of [] n column at = absurd cc
place_of (one ∷ values) n column at = place_by_test one values n column (one.node == n) refl (place_of values n column) at

right_made : (plans : ScanPlans) (borrowed right : List Kept) (leaves : Leaves) → AreRight borrowed right → AreMade plans.table plans.row_offset right leaves → AreMade plans.table plans.row_offset borrowed leaves
right_made plans borrowed right leaves are made n column at =
    let one = place_of borrowed n column at in
    made n column (are one.0 (record { node = n; column = column }) one.1)

stands_content : (plans : ScanPlans) (chosen : SelectedRows) (borrower : Borrower) (right : List Kept) (source : SourceState) (result : Result ColumnData ScanError) → IsGoodChunk plans chosen → AreTyped plans.table (data_of borrower.borrowed.items) → AreRight (data_of borrower.borrowed.items) right → borrower.result ≡ result →
    IfOk result (λ column. column.dtype ≡ (projection_node plans).dtype) → IfOk result (λ column. length column.values ≡ true_count chosen.mask) → IfOk result (GivesPiece (told_of_borrower plans chosen right borrower source) plans [] chosen)
stands_content plans chosen borrower right source (Ok column) is typed are same dtype rows = record {
  dtype = dtype;
  count = rows;
  values = λ file told made by.
      result_free (bytes_of plans file) plans chosen (data_of borrower.borrowed.items) (Ok column) is typed (right_made plans (data_of borrower.borrowed.items) right (leaves_of (bytes_of plans file)) are made)
      (subst (IsResultBy (bytes_of plans file) plans (data_of borrower.borrowed.items) chosen) same by);
}
stands_content plans chosen borrower right source (Err error) is typed are same dtype rows = tt

stands_cause : (plans : ScanPlans) (chosen : SelectedRows) (borrower : Borrower) (right : List Kept) (source : SourceState) (result : Result ColumnData ScanError) → IsGoodChunk plans chosen → AreTyped plans.table (data_of borrower.borrowed.items) → AreRight (data_of borrower.borrowed.items) right → borrower.result ≡ result →
    IfErr result RestsOnValues → IfErr result (λ error. Causes (told_of_borrower plans chosen right borrower source) plans [] chosen error source source)
stands_cause plans chosen borrower right source (Ok column) is typed are same rests = tt
stands_cause plans chosen borrower right source (Err error) is typed are same rests =
    cause_of_result (told_of_borrower plans chosen right borrower source) plans chosen error source source rests
    (λ file told made by.
    result_free (bytes_of plans file) plans chosen (data_of borrower.borrowed.items) (Err error) is typed (right_made plans (data_of borrower.borrowed.items) right (leaves_of (bytes_of plans file)) are made)
    (subst (IsResultBy (bytes_of plans file) plans (data_of borrower.borrowed.items) chosen) same by))

pub validates_standing : (plans : ScanPlans) (chosen : SelectedRows) (borrower : Borrower) (right : List Kept) (reruns : List Rerun) (source : SourceState) → IsGoodChunk plans chosen → IsBorrowerOf plans chosen borrower → AreTyped plans.table right → AreRight (data_of borrower.borrowed.items) right →
    ValidatesOne plans chosen borrower right right reruns reruns borrower.result source source
validates_standing plans chosen borrower right reruns source is of typed are =
    let own : AreTyped plans.table (data_of borrower.borrowed.items) = each_typed plans.table (data_of borrower.borrowed.items) of.borrowed_are.fit in
    record {
      typed = typed;
      grows = λ n column at. at;
      right = λ file told made by. made;
      content = stands_content plans chosen borrower right source borrower.result is own are refl of.dtype of.rows;
      cause = stands_cause plans chosen borrower right source borrower.result is own are refl of.rests;
      reran = inl refl;
      asks = asks_none plans chosen borrower.chunk right (rerun_chunks reruns) borrower.result source;
      faults = inl refl;
      lasts = lasts_same source;
      in_flight = inr refl;
    }

-- ---- the borrowed values are those that the chunk asks for

pub asked_among : (plans : ScanPlans) (chosen : SelectedRows) (borrowed : List Kept) → AllByRecursion (λ (one : Kept). ChunkAsks plans [] chosen one.node) borrowed → (n : ℕ) → IsAmong n (nodes_in borrowed) → ChunkAsks plans [] chosen n
asked_among plans chosen [] each n among = absurd among
asked_among plans chosen (one ∷ borrowed) each n (inl here) = subst (ChunkAsks plans [] chosen) here each.0
asked_among plans chosen (one ∷ borrowed) each n (inr later) = asked_among plans chosen borrowed each.1 n later

wrong_of : (old new : List Kept) (found : Option Kept) → ((n : ℕ) (column : ColumnData) → kept_at old n ≡ Some column → kept_at new n ≡ Some column) → IsSomeAnd found (IsWrong old) → IsSomeAnd found (IsWrong new)
wrong_of old new None grows wrong = wrong
wrong_of old new (Some one) grows wrong = (wrong.0, grows one.node wrong.0 wrong.1, wrong.2)

-- what was wrong stays so
pub wrong_stays : (borrowed old new : List Kept) (place : ℕ) → ((n : ℕ) (column : ColumnData) → kept_at old n ≡ Some column → kept_at new n ≡ Some column) → IsTested borrowed old (Some place) → IsTested borrowed new (Some place)
wrong_stays borrowed old new place grows wrong = wrong_of old new (slice_get borrowed place) grows wrong

-- ---- the chunk runs again

-- the borrowed value at the place, and that it is wrong
pub wrong_at : (borrowed : List KeptValue) (right : List Kept) (place : ℕ) (one : KeptValue) → IsTested (data_of borrowed) right (Some place) → one ≡ slice_index_or borrowed place one → (slice_get (data_of borrowed) place ≡ Some (kept_data one)) × IsWrong right (kept_data one)
wrong_at borrowed right place one wrong is = found (slice_get (data_of borrowed) place) refl wrong
  where
    found : (got : Option Kept) → slice_get (data_of borrowed) place ≡ got → IsSomeAnd got (IsWrong right) → (slice_get (data_of borrowed) place ≡ Some (kept_data one)) × IsWrong right (kept_data one)
    found None none wrong = absurd wrong
    found (Some other) here wrong =
        let less = slice_get_within (data_of borrowed) place other here in
        let long = length-map borrowed kept_data in
        let own : slice_get (data_of borrowed) place ≡ Some (kept_data one) = data_got borrowed place one (omega (arith, less, long)) is in
        let both : Some other ≡ Some (kept_data one) = sym here ∙ own in
        let same : other ≡ kept_data one = cc in
        (own, subst (IsWrong right) same wrong)

-- there is one that is right for its plan
pub wrong_has : (right : List Kept) (one : Kept) → IsWrong right one → kept_at right one.node ≡ None → ⊥
wrong_has right one (made, is, differs) none =
    let both : Some made ≡ None = sym is ∙ none in
    absurd cc

-- it is listed with the one that is right
pub wrong_listed : (borrowed : List KeptValue) (right : List Kept) (place number : ℕ) (one : KeptValue) (made : ColumnData) → (slice_get (data_of borrowed) place ≡ Some (kept_data one)) × IsWrong right (kept_data one) → kept_at right (number_of one.node) ≡ Some made →
    IsListed (data_of borrowed) right place number (record { chunk = number; node = one.node; borrowed = one.column; made = made })
wrong_listed borrowed right place number one made (here, (found, is, differs)) at =
    let both : Some found ≡ Some made = sym is ∙ at in
    let same : found ≡ made = cc in
    record { chunk = refl; borrowed_is = here; made = at; differ = λ equal. differs (equal ∙ sym same) }

among_end : (x : ℕ) (numbers : List ℕ) (number : ℕ) → number ≡ x → IsAmong x (numbers ++ number ∷ [])
among_end x [] number same = inl same
among_end x (n ∷ numbers) number same = inr (among_end x numbers number same)

listed_among : (reruns : List Rerun) (rerun : Rerun) (number : ℕ) → rerun.chunk ≡ number → IsAmong number (rerun_chunks (reruns ++ rerun ∷ []))
listed_among reruns rerun number is = subst (IsAmong number) (sym (map_push (λ (one : Rerun). one.chunk) reruns rerun)) (among_end number (rerun_chunks reruns) rerun.chunk is)

listed_rerun : (plans : ScanPlans) (chosen : SelectedRows) (borrower : Borrower) (right : List Kept) (place : ℕ) (rerun : Rerun) (source : SourceState) → IsBorrowerOf plans chosen borrower → AreTyped plans.table right → IsListed (data_of borrower.borrowed.items) right place borrower.chunk rerun → IsRerunOf plans chosen borrower.chunk (told_of_borrower plans chosen right borrower source) rerun
listed_rerun plans chosen borrower right place rerun source of typed listed =
    let n : ℕ = number_of rerun.node in
    let one : Kept = record { node = n; column = rerun.borrowed } in
    let fits : IsForPlan plans.table one = each_got (IsForPlan plans.table) (data_of borrower.borrowed.items) place one listed.borrowed_is of.borrowed_are.fit in
    let right_is = typed n rerun.made listed.made in
    record {
      chunk = listed.chunk;
      asks = each_got (λ (k : Kept). ChunkAsks plans [] chosen k.node) (data_of borrower.borrowed.items) place one listed.borrowed_is of.borrowed_are.asked;
      borrowed = fits;
      made = record { known = fits.known; dtype = right_is.0; count = right_is.1 };
      differ = listed.differ;
      whole = λ file told made by. made n rerun.made listed.made;
    }

-- what the given values are that count
record AreFitting (plans : ScanPlans) (chosen : SelectedRows) (right fitting : List Kept) : Type 0 where
  typed : AreTyped plans.table fitting
  made : (leaves : Leaves) → AreMade plans.table plans.row_offset right leaves → AreMade plans.table plans.row_offset fitting leaves
  all : AllGiven plans chosen fitting

are_fitting : (plans : ScanPlans) (chosen : SelectedRows) (right given fitting : List Kept) → AreTyped plans.table right → AreGiven plans chosen right given → Keeps (IsForPlan plans.table) given fitting → AreFitting plans chosen right fitting
are_fitting plans chosen right given fitting typed are keeps =
    let own : AreTyped plans.table given = λ n column at. typed n column (are.from n column at) in
    record {
      typed = fitting_typed plans.table given fitting keeps;
      made = λ leaves made n column at. made n column (are.from n column (first_fits plans.table given fitting n column own keeps at));
      all = λ n asks.
          (let there = are.all n asks in
          let column : ColumnData = there.1.0 in
          let is = own n column there.1.1 in
          (column, kept_first (IsForPlan plans.table) given fitting n column keeps (record { known = there.0; dtype = is.0; count = is.1 }) there.1.1));
    }

again_content : (plans : ScanPlans) (chosen : SelectedRows) (borrower : Borrower) (right fitting : List Kept) (source : SourceState) (result : Result ColumnData ScanError) → IsGoodChunk plans chosen → AreFitting plans chosen right fitting → IfOk result (GivesPiece (told_by plans source) plans fitting chosen) →
    IfOk result (GivesPiece (told_of_borrower plans chosen right borrower source) plans [] chosen)
again_content plans chosen borrower right fitting source (Ok column) is fit gives = record {
  dtype = gives.dtype;
  count = gives.count;
  values = λ file told made by. piece_free plans chosen (leaves_of (bytes_of plans file)) fitting column is (fit.made (leaves_of (bytes_of plans file)) made) (gives.values file told);
}
again_content plans chosen borrower right fitting source (Err error) is fit gives = tt

again_cause : (plans : ScanPlans) (chosen : SelectedRows) (borrower : Borrower) (right fitting : List Kept) (before after : SourceState) (result : Result ColumnData ScanError) → IsGoodChunk plans chosen → AreFitting plans chosen right fitting → IfErr result (λ error. Causes (told_by plans before) plans fitting chosen error before after) →
    IfErr result (λ error. Causes (told_of_borrower plans chosen right borrower before) plans [] chosen error before after)
again_cause plans chosen borrower right fitting before after (Ok column) is fit cause = tt
again_cause plans chosen borrower right fitting before after (Err error) is fit cause =
    cause_free (told_by plans before) (told_of_borrower plans chosen right borrower before) plans chosen fitting error before before after
    (λ P Q f holds file told made by. f (bytes_of plans file) (fit.made (leaves_of (bytes_of plans file)) made) (holds file told)) is fit.typed (lasts_same before) cause

validates_fitting : (plans : ScanPlans) (chosen : SelectedRows) (borrower : Borrower) (right given : List Kept) (rerun : Rerun) (reruns : List Rerun) (outcome : ChunkOutcome) (before after : SourceState) → IsGoodChunk plans chosen → AreTyped plans.table right → AreGiven plans chosen right given →
    IsRerunOf plans chosen borrower.chunk (told_of_borrower plans chosen right borrower before) rerun → (runs : RunsChunk plans chosen given outcome before after) → Keeps (IsForPlan plans.table) given runs.fitting → ValidatesOne plans chosen borrower right right reruns (reruns ++ rerun ∷ []) outcome.piece before after
validates_fitting plans chosen borrower right given rerun reruns outcome before after is typed are again runs keeps =
    let fit : AreFitting plans chosen right runs.fitting = are_fitting plans chosen right given runs.fitting typed are keeps in
    record {
      typed = typed;
      grows = λ n column at. at;
      right = λ file told made by. made;
      content = again_content plans chosen borrower right runs.fitting before outcome.piece is fit runs.content;
      cause = again_cause plans chosen borrower right runs.fitting before after outcome.piece is fit runs.cause;
      reran = inr (rerun, again, refl);
      asks = asks_direct plans chosen borrower.chunk right runs.fitting (rerun_chunks (reruns ++ rerun ∷ [])) outcome.piece before after is fit.all (listed_among reruns rerun borrower.chunk again.chunk) runs.asks;
      faults = runs.faults;
      lasts = runs.lasts;
      in_flight = inl runs.in_flight;
    }

-- memory lacked for its run
validates_unrun : (plans : ScanPlans) (chosen : SelectedRows) (borrower : Borrower) (right : List Kept) (rerun : Rerun) (reruns : List Rerun) (before after : SourceState) → AreTyped plans.table right → IsRerunOf plans chosen borrower.chunk (told_of_borrower plans chosen right borrower before) rerun →
    after.asked ≡ before.asked → TellsFaults {X = ColumnData} (Err Memory) before after → Lasts before after → after.in_flight ≡ [] → ValidatesOne plans chosen borrower right right reruns (reruns ++ rerun ∷ []) (Err Memory) before after
validates_unrun plans chosen borrower right rerun reruns before after typed again quiet faults lasts clear = record {
  typed = typed;
  grows = λ n column at. at;
  right = λ file told made by. made;
  content = tt;
  cause = tt;
  reran = inr (rerun, again, refl);
  asks = asks_quiet plans chosen borrower.chunk right (rerun_chunks (reruns ++ rerun ∷ [])) (Err Memory) before after quiet;
  faults = faults;
  lasts = lasts;
  in_flight = inl clear;
}

pub validates_again : (plans : ScanPlans) (chosen : SelectedRows) (borrower : Borrower) (right given : List Kept) (place : ℕ) (rerun : Rerun) (reruns : List Rerun) (outcome : ChunkOutcome) (before after : SourceState) → IsGoodChunk plans chosen → IsBorrowerOf plans chosen borrower → AreTyped plans.table right → AreGiven plans chosen right given →
    IsListed (data_of borrower.borrowed.items) right place borrower.chunk rerun → RunsChunk plans chosen given outcome before after → ValidatesOne plans chosen borrower right right reruns (reruns ++ rerun ∷ []) outcome.piece before after
validates_again plans chosen borrower right given place rerun reruns outcome before after is of typed are listed runs =
    let again : IsRerunOf plans chosen borrower.chunk (told_of_borrower plans chosen right borrower before) rerun = listed_rerun plans chosen borrower right place rerun before of typed listed in
    ⊎_elim (λ (keeps : Keeps (IsForPlan plans.table) given runs.fitting). validates_fitting plans chosen borrower right given rerun reruns outcome before after is typed are again runs keeps)
    (λ (lacks : (outcome.piece ≡ Err Memory) × (after.asked ≡ before.asked)).
    subst (λ (result : Result ColumnData ScanError). ValidatesOne plans chosen borrower right right reruns (reruns ++ rerun ∷ []) result before after) (sym lacks.0)
    (validates_unrun plans chosen borrower right rerun reruns before after typed again lacks.1 (subst (λ (result : Result ColumnData ScanError). TellsFaults result before after) lacks.0 runs.faults) runs.lasts runs.in_flight))
    runs.fits
