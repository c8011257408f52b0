-- A scan has the takes that the selected rows of its splits read.
use Rattle.std.proofs.Common.{◌≡◌, ℕ, zero, suc, ◌+◌, ◌<◌, ◌==◌, ◌⊎◌, inl, inr, ⊎_elim, Bool, true, false, List, [], ◌∷◌, ◌++◌, Some, length, Result, Ok, Err, map, drop, refl, sym, ap, ◌∙◌, subst, arith}
use Rattle.std.specs.Prelude.{if◌then◌else◌, slice_set}
use Rattle.std.specs.List.{slice_get, remove}
use Rattle.std.proofs.lemmas.Bool.{eqb-true}
use Rattle.vx_base.specs.Columns.{ColumnData}
use Rattle.vx_base.specs.Masks.{true_count}
use Rattle.vx_picking.proofs.SelectedRows.{true_first}
use Rattle.vx_plan.specs.Nodes.{Node}
use Rattle.vx_plan.specs.Plans.{plan_at}
use Rattle.vx_plan.specs.Tables.{IsGoodTable}
use Rattle.vx_rows.specs.SegmentLeaves.{Bytes, leaves_of}
use Rattle.vx_steps.specs.declared.errors.StepError.{StepError}
use Rattle.vx_steps.specs.declared.errors.StepError.TheVariants.{Unsupported, BadSegment, BadCode, EvalFault, Memory}
use Rattle.vx_steps.specs.declared.jobs.Job.{Job}
use Rattle.vx_steps.specs.declared.progress.Turn.{Turn}
use Rattle.vx_steps.specs.declared.progress.Turn.TheVariants.{Read, Output, Waiting, Done}
use Rattle.vx_steps.specs.declared.splits.Split.{Split}
use Rattle.vx_steps.specs.declared.wholes.Wholes.{Wholes}
use Rattle.vx_steps.specs.Below.{HasNoShare, HasNoEvalBelowTake}
use Rattle.vx_steps.specs.Given.{given_for}
use Rattle.vx_steps.specs.Jobs.{number_left, IsTold, IsUnstarted, KeepsWholes}
use Rattle.vx_steps.specs.KeptData.{Kept}
use Rattle.vx_steps.specs.Laws.{IsValuesOf}
use Rattle.vx_steps.specs.Needs.{Among}
use Rattle.vx_steps.specs.Standings.{left_of, none_given, numbers_from, SplitLeft, Standing}
use Rattle.vx_steps.specs.Steps.{GivesOutput, IsDone, IsSplitOutput, IsStepRefusal, LeavesSplit, TakesTurn}
use Rattle.vx_steps.specs.TakeLaws.{HasWhole, HasTakes, EachHasTakes, Ends, Goes, WentThrough, last_of}
use Rattle.vx_steps.specs.Turns.{FailsInWholes}
use Rattle.vx_steps.specs.Wholes.{AreThere, IsThere}
use Rattle.vx_steps.proofs.OutermostTakes.{take_there}
use Rattle.vx_steps.proofs.Standing.{fault_outside}
use Rattle.vx_masks.proofs.Places.{false_first}

-- ---- one split

has_whole : (given : List Kept) (wholes : Wholes) (n : ℕ) → IsThere given wholes n → HasWhole wholes n
has_whole given wholes n (inl (handed, used)) = inl used
has_whole given wholes n (inr (none, made)) = inr made

there_takes : (nodes : List Node) → IsGoodTable nodes → (job : Job) → job.plan < length nodes → HasNoShare (plan_at nodes job.plan) → (split : Split) (wholes : Wholes) → AreThere nodes job.given wholes job.plan split.rows.start split.mask → HasTakes nodes job split wholes
there_takes nodes good job there none split wholes are take reads =
    let one : (values : ℕ) × IsValuesOf nodes take values × IsThere job.given wholes values = take_there nodes good job.given wholes job.offset job.plan split.rows.start split.mask take there none are reads in
    (one.0, one.1, has_whole job.given wholes one.0 one.2)

pub output_takes : (nodes : List Node) → IsGoodTable nodes → (job : Job) → job.plan < length nodes → HasNoShare (plan_at nodes job.plan) → (old : Standing) (after : Wholes) (split : Split) (column : ColumnData) → IsSplitOutput nodes job old after split column → HasTakes nodes job split after
output_takes nodes good job there none old after split column output = there_takes nodes good job there none split after output.there

pub fault_takes : (nodes : List Node) → IsGoodTable nodes → (job : Job) → job.plan < length nodes → HasNoShare (plan_at nodes job.plan) → HasNoEvalBelowTake (plan_at nodes job.plan) → (old : Standing) (after : Wholes) (split : Split) (at : ℕ) (outside : Bytes) → IsTold nodes job old outside → LeavesSplit nodes job old after split (EvalFault at) → HasTakes nodes job split after
fault_takes nodes good job there none evals old after split at outside told left =
    ⊎_elim
    (λ (are : AreThere nodes job.given after job.plan split.rows.start split.mask). there_takes nodes good job there none split after are)
    (λ (fails : FailsInWholes nodes job split old.reads.wanted old.leaves old.wholes.made (EvalFault at)). absurd (fault_outside (leaves_of outside) (given_for nodes job.given) job.offset (plan_at nodes job.plan) split.rows.start split.mask at none evals (fails outside told)))
    left

-- ---- more whole values

more_whole : (nodes : List Node) (job : Job) (old new : Wholes) → KeepsWholes nodes job old new → (n : ℕ) → HasWhole old n → HasWhole new n
more_whole nodes job old new keeps n (inl (column, at)) = inl (column, keeps.used n column at)
more_whole nodes job old new keeps n (inr (column, at)) = inr (column, keeps.made n column at)

more_takes : (nodes : List Node) (job : Job) (split : Split) (old new : Wholes) → KeepsWholes nodes job old new → HasTakes nodes job split old → HasTakes nodes job split new
more_takes nodes job split old new keeps has take reads =
    let one : (values : ℕ) × IsValuesOf nodes take values × HasWhole old values = has take reads in
    (one.0, one.1, more_whole nodes job old new keeps one.0 one.2)

-- ---- before the first step

pub none_selected : (bits : List Bool) (place : ℕ) → true_count bits ≡ 0 → slice_get bits place ≡ Some true → ⊥
none_selected [] place none at = cc
none_selected (true ∷ bits) place none at = omega (arith, none, true_first bits)
none_selected (false ∷ bits) zero none at = cc
none_selected (false ∷ bits) (suc place) none at = none_selected bits place (sym (false_first bits) ∙ none) at

none_takes : (nodes : List Node) (job : Job) (split : Split) (wholes : Wholes) → true_count split.mask ≡ 0 → HasTakes nodes job split wholes
none_takes nodes job split wholes none take (place, at, reads) = absurd (none_selected split.mask place none at)

-- a split is numbered, or selects no row
numbered : (splits : List Split) (k number : ℕ) (split : Split) → slice_get splits number ≡ Some split → Among (k + number) (numbers_from k splits) ⊎ (true_count split.mask ≡ 0)
numbered [] k number split at = absurd cc
numbered (first ∷ splits) k zero split at = by (true_count first.mask == 0) refl
  where
    by : (b : Bool) → (true_count first.mask == 0) ≡ b → Among (k + 0) (if b then numbers_from (k + 1) splits else k ∷ numbers_from (k + 1) splits) ⊎ (true_count split.mask ≡ 0)
    by true is =
        let same : first ≡ split = cc in
        inr (subst (λ (s : Split). true_count s.mask ≡ 0) same (eqb-true (true_count first.mask) 0 is))
    by false is = inl (inl (omega arith))
numbered (first ∷ splits) k (suc number) split at = by (true_count first.mask == 0) (numbered splits (k + 1) number split at)
  where
    next : Among (k + 1 + number) (numbers_from (k + 1) splits) → Among (k + suc number) (numbers_from (k + 1) splits)
    next among =
        let e : k + 1 + number ≡ k + suc number = omega arith in
        subst (λ (n : ℕ). Among n (numbers_from (k + 1) splits)) e among

    by : (b : Bool) → Among (k + 1 + number) (numbers_from (k + 1) splits) ⊎ (true_count split.mask ≡ 0) → Among (k + suc number) (if b then numbers_from (k + 1) splits else k ∷ numbers_from (k + 1) splits) ⊎ (true_count split.mask ≡ 0)
    by b (inr none) = inr none
    by true (inl among) = inl (next among)
    by false (inl among) = inl (inr (next among))

numbers_given : (ns : List ℕ) → map number_left (map none_given ns) ≡ ns
numbers_given [] = refl
numbers_given (n ∷ ns) = ap (λ (rest : List ℕ). n ∷ rest) (numbers_given ns)

-- all splits that select a row are left
unstarted_left : (job : Job) (progress : Standing) → IsUnstarted progress → map number_left (left_of job progress) ≡ numbers_from 0 job.splits.items
unstarted_left job progress unstarted =
    ap (λ (started : List SplitLeft). map number_left (started ++ map none_given (numbers_from progress.next (drop progress.next job.splits.items)))) unstarted.started
    ∙ ap (λ (next : ℕ). map number_left (map none_given (numbers_from next (drop next job.splits.items)))) unstarted.next
    ∙ numbers_given (numbers_from 0 job.splits.items)

pub unstarted_takes : (nodes : List Node) (job : Job) (progress : Standing) → IsUnstarted progress → EachHasTakes nodes job progress
unstarted_takes nodes job progress unstarted number split at =
    let left : numbers_from 0 job.splits.items ≡ map number_left (left_of job progress) = sym (unstarted_left job progress unstarted) in
    ⊎_elim
    (λ (among : Among (0 + number) (numbers_from 0 job.splits.items)).
    let e : 0 + number ≡ number = omega arith in
    inl (subst (Among number) left (subst (λ (n : ℕ). Among n (numbers_from 0 job.splits.items)) e among)))
    (λ (none : true_count split.mask ≡ 0). inr (none_takes nodes job split progress.wholes none))
    (numbered job.splits.items 0 number split at)

-- ---- from step to step

-- the splits that are left have the same numbers
same_left : (nodes : List Node) (job : Job) (old new : Standing) → map number_left (left_of job new) ≡ map number_left (left_of job old) → KeepsWholes nodes job old.wholes new.wholes → EachHasTakes nodes job old → EachHasTakes nodes job new
same_left nodes job old new left keeps each number split at =
    ⊎_elim
    (λ (among : Among number (map number_left (left_of job old))). inl (subst (Among number) (sym left) among))
    (λ (has : HasTakes nodes job split old.wholes). inr (more_takes nodes job split old.wholes new.wholes keeps has))
    (each number split at)

pub same_takes : (nodes : List Node) (job : Job) (old new : Standing) → left_of job new ≡ left_of job old → new.wholes ≡ old.wholes → EachHasTakes nodes job old → EachHasTakes nodes job new
same_takes nodes job old new left wholes each number split at =
    ⊎_elim
    (λ (among : Among number (map number_left (left_of job old))). inl (subst (Among number) (ap (map number_left) (sym left)) among))
    (λ (has : HasTakes nodes job split old.wholes). inr (subst (HasTakes nodes job split) (sym wholes) has))
    (each number split at)

-- of the split at the place more rows were given: the numbers stay
numbers_set : (xs : List SplitLeft) (place number from to : ℕ) → slice_get xs place ≡ Some (record { number = number; given = from }) → map number_left (slice_set xs place (record { number = number; given = to })) ≡ map number_left xs
numbers_set [] place number from to at = refl
numbers_set (x ∷ xs) zero number from to at =
    let same : x ≡ record { number = number; given = from } = cc in
    ap (λ (n : ℕ). n ∷ map number_left xs) (sym (ap number_left same))
numbers_set (x ∷ xs) (suc place) number from to at = ap (λ (ns : List ℕ). number_left x ∷ ns) (numbers_set xs place number from to at)

-- a number stays, or is that of the split that was taken out
stays_or_is : (xs : List SplitLeft) (place : ℕ) (taken : SplitLeft) (number : ℕ) → slice_get xs place ≡ Some taken → Among number (map number_left xs) → Among number (map number_left (remove xs place)) ⊎ (number ≡ number_left taken)
stays_or_is [] place taken number at among = absurd among
stays_or_is (x ∷ xs) zero taken number at (inl here) =
    let same : x ≡ taken = cc in
    inr (sym here ∙ ap number_left same)
stays_or_is (x ∷ xs) zero taken number at (inr among) = inl among
stays_or_is (x ∷ xs) (suc place) taken number at (inl here) = inl (inl here)
stays_or_is (x ∷ xs) (suc place) taken number at (inr among) =
    ⊎_elim (λ (stays : Among number (map number_left (remove xs place))). inl (inr stays)) (λ (is : number ≡ number_left taken). inr is) (stays_or_is xs place taken number at among)

given_takes : (nodes : List Node) → IsGoodTable nodes → (job : Job) → job.plan < length nodes → HasNoShare (plan_at nodes job.plan) → (old new : Standing) (taken : ℕ) (column : ColumnData) → GivesOutput nodes job old new taken column → (number : ℕ) (split : Split) → slice_get job.splits.items number ≡ Some split → number ≡ taken → HasTakes nodes job split new.wholes
given_takes nodes good job there none old new taken column gives number split at is =
    let other : slice_get job.splits.items number ≡ Some gives.split = ap (slice_get job.splits.items) is ∙ gives.split_at in
    let same : gives.split ≡ split = cc in
    subst (λ (s : Split). HasTakes nodes job s new.wholes) same (there_takes nodes good job there none gives.split new.wholes gives.there)

-- a split is left, has its takes from before, or was given all its rows
last_rows : (nodes : List Node) → IsGoodTable nodes → (job : Job) → job.plan < length nodes → HasNoShare (plan_at nodes job.plan) → (old new : Standing) (taken : ℕ) (column : ColumnData) → KeepsWholes nodes job old.wholes new.wholes → (gives : GivesOutput nodes job old new taken column) → left_of job new ≡ remove (left_of job old) gives.place → EachHasTakes nodes job old → EachHasTakes nodes job new
last_rows nodes good job there none old new taken column keeps gives left each number split at =
    ⊎_elim
    (λ (among : Among number (map number_left (left_of job old))).
    ⊎_elim
    (λ (stays : Among number (map number_left (remove (left_of job old) gives.place))). inl (subst (Among number) (ap (map number_left) (sym left)) stays))
    (λ (is : number ≡ taken). inr (given_takes nodes good job there none old new taken column gives number split at is))
    (stays_or_is (left_of job old) gives.place (record { number = taken; given = gives.from }) number gives.at among))
    (λ (has : HasTakes nodes job split old.wholes). inr (more_takes nodes job split old.wholes new.wholes keeps has))
    (each number split at)

output_keeps : (nodes : List Node) → IsGoodTable nodes → (job : Job) → job.plan < length nodes → HasNoShare (plan_at nodes job.plan) → (old new : Standing) (taken : ℕ) (column : ColumnData) → KeepsWholes nodes job old.wholes new.wholes → GivesOutput nodes job old new taken column → EachHasTakes nodes job old → EachHasTakes nodes job new
output_keeps nodes good job there none old new taken column keeps gives each =
    ⊎_elim
    (λ (rows : (gives.to < length gives.split.mask) × (left_of job new ≡ slice_set (left_of job old) gives.place (record { number = taken; given = gives.to }))).
    same_left nodes job old new (ap (map number_left) rows.1 ∙ numbers_set (left_of job old) gives.place taken gives.from gives.to gives.at) keeps each)
    (λ (all : (gives.to ≡ length gives.split.mask) × (left_of job new ≡ remove (left_of job old) gives.place)). last_rows nodes good job there none old new taken column keeps gives all.1 each)
    gives.left

pub turn_takes : (nodes : List Node) → IsGoodTable nodes → (job : Job) → job.plan < length nodes → HasNoShare (plan_at nodes job.plan) → (old new : Standing) (turn : Turn) → KeepsWholes nodes job old.wholes new.wholes → TakesTurn nodes job old new turn → EachHasTakes nodes job old → EachHasTakes nodes job new
turn_takes nodes good job there none old new (Read request) keeps turns each = same_left nodes job old new (ap (map number_left) turns.left) keeps each
turn_takes nodes good job there none old new (Output number column) keeps turns each = output_keeps nodes good job there none old new number column keeps turns each
turn_takes nodes good job there none old new Waiting keeps turns each = same_left nodes job old new (ap (map number_left) turns.left) keeps each
turn_takes nodes good job there none old new Done keeps turns each = same_left nodes job old new (ap (map number_left) turns.left) keeps each

-- ---- at the end

pub done_takes : (nodes : List Node) (job : Job) (old new : Standing) → IsDone job old new → EachHasTakes nodes job new → (number : ℕ) (split : Split) → slice_get job.splits.items number ≡ Some split → HasTakes nodes job split new.wholes
done_takes nodes job old new done each number split at =
    ⊎_elim
    (λ (among : Among number (map number_left (left_of job new))). absurd (subst (λ (left : List SplitLeft). Among number (map number_left left)) (done.left ∙ done.none_left) among))
    (λ (has : HasTakes nodes job split new.wholes). has)
    (each number split at)

pub only_one : (splits : List Split) (split other : Split) (number : ℕ) → splits ≡ split ∷ [] → slice_get splits number ≡ Some other → other ≡ split
only_one splits split other number is at = by number (ap (λ (xs : List Split). slice_get xs number) (sym is) ∙ at)
  where
    by : (n : ℕ) → slice_get (split ∷ []) n ≡ Some other → other ≡ split
    by zero e = cc
    by (suc n) e = absurd cc

refused_takes : (nodes : List Node) → IsGoodTable nodes → (job : Job) → job.plan < length nodes → HasNoShare (plan_at nodes job.plan) → HasNoEvalBelowTake (plan_at nodes job.plan) → (split : Split) → job.splits.items ≡ split ∷ [] → (old new : Standing) (outside : Bytes) (at : ℕ) → IsTold nodes job old outside → IsStepRefusal nodes job old new (EvalFault at) → HasTakes nodes job split new.wholes
refused_takes nodes good job there none evals split one old new outside at told (inl memory) = absurd cc
refused_takes nodes good job there none evals split one old new outside at told (inr refuses) =
    let same : refuses.split ≡ split = only_one job.splits.items split refuses.split refuses.number one refuses.at in
    subst (λ (s : Split). HasTakes nodes job s new.wholes) same (fault_takes nodes good job there none evals old new.wholes refuses.split at outside told refuses.left)

pub one_takes : (nodes : List Node) → IsGoodTable nodes → (job : Job) → job.plan < length nodes → HasNoShare (plan_at nodes job.plan) → HasNoEvalBelowTake (plan_at nodes job.plan) → (split : Split) → job.splits.items ≡ split ∷ [] → (old new : Standing) (outside : Bytes) (result : Result Turn StepError) → EachHasTakes nodes job old → IsTold nodes job old outside → KeepsWholes nodes job old.wholes new.wholes → Ends nodes job old new result → HasTakes nodes job split new.wholes
one_takes nodes good job there none evals split one old new outside (Ok (Read request)) each told keeps ends = absurd ends
one_takes nodes good job there none evals split one old new outside (Ok (Output number column)) each told keeps ends = absurd ends
one_takes nodes good job there none evals split one old new outside (Ok Waiting) each told keeps ends = absurd ends
one_takes nodes good job there none evals split one old new outside (Ok Done) each told keeps ends =
    done_takes nodes job old new ends (turn_takes nodes good job there none old new Done keeps ends each) 0 split (ap (λ (xs : List Split). slice_get xs 0) one)
one_takes nodes good job there none evals split one old new outside (Err (Unsupported list)) each told keeps ends = absurd ends
one_takes nodes good job there none evals split one old new outside (Err (BadSegment segment)) each told keeps ends = absurd ends
one_takes nodes good job there none evals split one old new outside (Err (BadCode take row)) each told keeps ends = absurd ends
one_takes nodes good job there none evals split one old new outside (Err (EvalFault at)) each told keeps ends = refused_takes nodes good job there none evals split one old new outside at told ends
one_takes nodes good job there none evals split one old new outside (Err Memory) each told keeps ends = absurd ends

-- ---- from the first step on

goes_takes : (nodes : List Node) → IsGoodTable nodes → (job : Job) → job.plan < length nodes → HasNoShare (plan_at nodes job.plan) → (old new : Standing) → Goes nodes job old new → EachHasTakes nodes job old → EachHasTakes nodes job new
goes_takes nodes good job there none old new (inl (turn, takes, keeps)) each = turn_takes nodes good job there none old new turn keeps takes each
goes_takes nodes good job there none old new (inr (left, wholes)) each = same_takes nodes job old new left wholes each

went_takes : (nodes : List Node) → IsGoodTable nodes → (job : Job) → job.plan < length nodes → HasNoShare (plan_at nodes job.plan) → (first : Standing) (more : List Standing) → WentThrough nodes job first more → EachHasTakes nodes job first → EachHasTakes nodes job (last_of first more)
went_takes nodes good job there none first [] went each = each
went_takes nodes good job there none first (next ∷ more) went each = went_takes nodes good job there none next more went.1 (goes_takes nodes good job there none first next went.0 each)

pub scan_takes : (nodes : List Node) → IsGoodTable nodes → (job : Job) → job.plan < length nodes → HasNoShare (plan_at nodes job.plan) → HasNoEvalBelowTake (plan_at nodes job.plan) → (split : Split) → job.splits.items ≡ split ∷ [] → (first new : Standing) (more : List Standing) (outside : Bytes) (result : Result Turn StepError) → IsUnstarted first → WentThrough nodes job first more → IsTold nodes job (last_of first more) outside → KeepsWholes nodes job (last_of first more).wholes new.wholes → Ends nodes job (last_of first more) new result → HasTakes nodes job split new.wholes
scan_takes nodes good job there none evals split one first new more outside result unstarted went told keeps ends =
    one_takes nodes good job there none evals split one (last_of first more) new outside result (went_takes nodes good job there none first more went (unstarted_takes nodes job first unstarted)) told keeps ends
