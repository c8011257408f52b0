-- What a try to give rows of a split comes to.
use Rattle.std.proofs.Common.{◌≡◌, ℕ, ◌<◌, ◌≤◌, ◌⊎◌, inl, inr, ⊎_elim, List, Option, Some, None, Result, Ok, Err, length, map, refl, sym, subst, arith}
use Rattle.std.specs.Prelude.{IfErr, IfOk, IfSome, OnOk}
use Rattle.std.specs.List.{slice_get}
use Rattle.std.proofs.lemmas.Bool.{cases_lt}
use Rattle.vx_base.specs.Columns.{ColumnData}
use Rattle.vx_plan.specs.Nodes.{Node}
use Rattle.vx_plan.specs.Plans.{plan_at}
use Rattle.vx_rows.specs.SegmentLeaves.{Bytes, leaves_of}
use Rattle.vx_steps.specs.declared.errors.StepError.{StepError}
use Rattle.vx_steps.specs.declared.errors.StepError.TheVariants.{Memory}
use Rattle.vx_steps.specs.declared.jobs.Job.{Job}
use Rattle.vx_steps.specs.declared.pieces.GivenRows.{GivenRows}
use Rattle.vx_steps.specs.declared.placed_reads.PlacedRead.{PlacedRead}
use Rattle.vx_steps.specs.declared.splits.Split.{Split}
use Rattle.vx_steps.specs.declared.wholes.Wholes.{Wholes}
use Rattle.vx_steps.specs.Computed.{Computes, UnlessList}
use Rattle.vx_steps.specs.Delivered.{IsOf, KeepsLeaves}
use Rattle.vx_steps.specs.Given.{handed_by}
use Rattle.vx_steps.specs.Held.{Held, IsBy}
use Rattle.vx_steps.specs.KeptData.{Kept}
use Rattle.vx_steps.specs.Kept.{IsKept}
use Rattle.vx_steps.specs.LeafColumns.{AreAmongAll}
use Rattle.vx_steps.specs.LeafStores.{KeepsHere}
use Rattle.vx_steps.specs.LeavesData.{LeavesData}
use Rattle.vx_steps.specs.Pieces.{read_of, AreKeptBefore, AreKeptFor, ArePassed, ArePlaced, FailsRows, GivesRows, IsGivenTo, WaitsFor}
use Rattle.vx_steps.specs.ReadTableData.{Wanted}
use Rattle.vx_steps.specs.Running.{AreDecoded}
use Rattle.vx_steps.specs.Tries.{Finishes, IsOfRest, LacksNext, MovesNext, Refuses, WaitsForNeed}
use Rattle.vx_steps.specs.Visits.{Visits, IsLeafRead}
use Rattle.vx_steps.specs.Wholes.{AreThere, FailsInside}
use Rattle.vx_steps.proofs.FirstRows.{cause_before, leaves_first, row_none, there_in}
use Rattle.vx_steps.proofs.PieceRows.{at_among, kept_for, ready_range}
use Rattle.vx_steps.proofs.Premises.{unless_by}
use Rattle.vx_steps.proofs.StoredLeaves.{have_here}
use Rattle.vx_steps.proofs.Turning.{first_leaves, row_leaves, row_refusal, FirstFail}

-- ---- results

pub on_some : (result : Result (Option ColumnData) StepError) (T : Type 0) (P Q : ColumnData → Type 0) → IfOk result (λ rows. IfSome rows (λ _. T)) → IfOk result (λ rows. IfSome rows P) → ((column : ColumnData) → T → P column → Q column) → IfOk result (λ rows. IfSome rows Q)
on_some (Ok (Some column)) T P Q t p f = f column t p
on_some (Ok None) T P Q t p f = tt
on_some (Err error) T P Q t p f = tt

pub on_none : (result : Result (Option ColumnData) StepError) (P Q : Type 0) → IfOk result (λ rows. rows ≡ None → P) → (P → Q) → IfOk result (λ rows. rows ≡ None → Q)
on_none (Ok rows) P Q p f = λ e. f (p e)
on_none (Err error) P Q p f = tt

pub on_errors : (result : Result (Option ColumnData) StepError) (A B C Q : StepError → Type 0) → IfErr result A → IfErr result B → IfErr result C → ((error : StepError) → A error → B error → C error → Q error) → IfErr result Q
on_errors (Ok rows) A B C Q a b c f = tt
on_errors (Err error) A B C Q a b c f = f error a b c

pub on_error : (result : Result (Option ColumnData) StepError) (P Q : StepError → Type 0) → IfErr result P → ((error : StepError) → P error → Q error) → IfErr result Q
on_error (Ok rows) P Q p f = tt
on_error (Err error) P Q p f = f error p

-- with two facts that are so unless it is refused
pub on_rows : (result : Result (Option ColumnData) StepError) (G D : Type 0) (P Q : ColumnData → Type 0) → OnOk result G → OnOk result D → IfOk result (λ rows. IfSome rows P) → ((column : ColumnData) → G → D → P column → Q column) → IfOk result (λ rows. IfSome rows Q)
on_rows (Ok (Some column)) G D P Q g d p f = f column g d p
on_rows (Ok None) G D P Q g d p f = tt
on_rows (Err error) G D P Q g d p f = tt

pub on_waiting : (result : Result (Option ColumnData) StepError) (G D P Q : Type 0) → OnOk result G → OnOk result D → IfOk result (λ rows. rows ≡ None → P) → (G → D → P → Q) → IfOk result (λ rows. rows ≡ None → Q)
on_waiting (Ok rows) G D P Q g d p f = λ e. f g d (p e)
on_waiting (Err error) G D P Q g d p f = tt

-- what is so whatever comes is so where rows come
pub on_all : (result : Result (Option ColumnData) StepError) (T : Type 0) → T → OnOk result T
on_all (Ok rows) T t = t
on_all (Err error) T t = tt

-- ---- how far rows are given, once more needs were decoded

pub given_decoded : (nodes : List Node) (given : List Kept) (number : ℕ) (split : Split) (needs : List PlacedRead) (wholes : Wholes) (old new : LeavesData) (before at : GivenRows) → IsGivenTo nodes given old.here wholes number split needs before → ((n : ℕ) → IsOfRest needs before.done n → IsKept old.all n → IsKept old.here n) → KeepsHere old new → MovesNext needs new.all before.next at.next →
    at ≡ record before { next = at.next } → IsGivenTo nodes given new.here wholes number split needs at
given_decoded nodes given number split needs wholes old new before at is rest here moves same =
    let F : GivenRows → Type 0 = IsGivenTo nodes given new.here wholes number split needs in
    let forwards : before.next ≤ at.next = moves.forwards in
    subst F (sym same) (record {
      row = is.row;
      begun = is.begun;
      kept = λ place need less there late. ⊎_elim (λ (early : place < before.next). stays place need early there late) (λ (behind : before.next ≤ place). comes place need behind less there late) (cases_lt place before.next);
      passed = λ place need there early.
          let less : place < before.next = is.passed place need there early in
          omega arith;
      first = is.first;
      there = is.there;
    })
  where
    stays : (place : ℕ) (need : PlacedRead) → place < before.next → slice_get needs place ≡ Some need → before.done ≤ need.last → IsKept new.here need.leaf
    stays place need early there late =
        let k = is.kept place need early there late in
        (k.0, here.stays need.leaf k.0 k.1)

    comes : (place : ℕ) (need : PlacedRead) → before.next ≤ place → place < at.next → slice_get needs place ≡ Some need → before.done ≤ need.last → IsKept new.here need.leaf
    comes place need behind less there late = here.here need.leaf (λ kept. rest need.leaf (need, at_among need needs place there, late, refl) kept) (moves.kept place need behind less there)

-- ---- rows are given

-- what is here is kept
kept_all : (leaves : LeavesData) (needs : List PlacedRead) (from to : ℕ) → AreAmongAll leaves → AreKeptFor leaves.here needs from to → AreKeptFor leaves.all needs from to
kept_all leaves needs from to among kept need there early late =
    let k = kept need there early late in
    (k.0, among need.leaf k.0 k.1)

pub finishes : (nodes : List Node) (job : Job) (split : Split) (needs : List PlacedRead) (wanted : List Wanted) (old : List Kept) (leaves : LeavesData) (made : List Kept) (wholes : Wholes) (from to next : ℕ) → AreAmongAll leaves → KeepsLeaves nodes wanted old leaves.all → ArePlaced nodes job.given job.plan split.rows.start split.mask needs → AreKeptBefore leaves.here needs from next → ArePassed needs to next → to ≤ length split.mask →
    (column : ColumnData) → AreThere nodes job.given wholes job.plan split.rows.start split.mask → GivesRows (record { nodes = nodes; leaves = leaves.here; given = Some job.given; made = made; offset = job.offset }) job.plan split from to column → Finishes nodes job split from to wanted old made wholes leaves.all column
finishes nodes job split needs wanted old leaves made wholes from to next among keeps placed kept passed within column there gives =
    let less : from < to = gives.forwards in
    let forwards : from ≤ to = omega arith in
    record {
      within = within;
      some = gives.some;
      output = record {
        dtype = gives.dtype;
        count = gives.count;
        right = λ outside is. gives.computed (leaves_of outside) (record { leaves_are = have_here nodes leaves (leaves_of outside) among (keeps.right outside is.bytes is.leaves_are); made_are = is.made_are });
        there = there_in nodes job.given wholes job.plan split.rows.start split.mask from to there;
      };
      there = there;
      leaves_are = ready_range nodes leaves.all job.given made job.offset job.plan split.rows.start split.mask needs placed from to (kept_all leaves needs from to among (kept_for leaves.here needs next from to kept passed)) forwards;
    }

-- ---- the next row waits

pub waits_need : (wanted : List Wanted) (leaves : List Kept) (needs : List PlacedRead) (old mid new : GivenRows) (rows : ℕ) → mid ≡ record old { next = mid.next } → old.row < rows → (WaitsFor needs mid.next mid.row → LacksNext wanted leaves needs mid.next) → (new ≡ mid) × (mid.row < rows → WaitsFor needs mid.next mid.row) → (new.done ≡ old.done) × WaitsForNeed wanted leaves needs new
waits_need wanted leaves needs old mid new rows same left lacks (is, waits) =
    let R : GivenRows → Type 0 = λ at. at.row < rows in
    let D : GivenRows → Type 0 = λ at. at.done ≡ old.done in
    let W : GivenRows → Type 0 = λ at. WaitsForNeed wanted leaves needs at in
    let w = waits (subst R (sym same) left) in
    (subst D (sym is) (subst D (sym same) refl), subst W (sym is) (lacks w, w))

-- ---- a refusal

pub refuses : (nodes : List Node) (job : Job) (split : Split) (needs : List PlacedRead) (wanted : List Wanted) (old : List Kept) (leaves : LeavesData) (made : List Kept) (wholes : Wholes) (done next : ℕ) → AreAmongAll leaves → KeepsLeaves nodes wanted old leaves.all → ArePlaced nodes job.given job.plan split.rows.start split.mask needs → AreDecoded leaves.all needs next → ArePassed needs done next →
    (error : StepError) → Computes (record { nodes = nodes; leaves = leaves.here; given = Some job.given; made = made; offset = job.offset }) job.plan split.rows.start split.mask (Err error) →
    AreThere nodes job.given wholes job.plan split.rows.start split.mask ⊎ FailsInside (record { nodes = nodes; leaves = leaves.here; given = Some job.given; made = made; offset = job.offset }) job.plan split.rows.start split.mask error →
    FailsRows (record { nodes = nodes; leaves = leaves.here; given = Some job.given; made = made; offset = job.offset }) job.plan split needs done error ⊎ FailsInside (record { nodes = nodes; leaves = leaves.here; given = Some job.given; made = made; offset = job.offset }) job.plan split.rows.start split.mask error →
    Refuses nodes job split (map read_of needs) wanted old made wholes leaves.all error
refuses nodes job split needs wanted old leaves made wholes done next among keeps placed decoded passed error cause left fails = record {
  cause = row_refusal nodes job split (map read_of needs) wanted old made error (λ outside is. cause (leaves_of outside) (by outside is));
  left = row_leaves nodes job split wanted old made wholes error (⊎_elim (λ there. inl there) (λ inside. inr (λ outside is. inside (leaves_of outside) (by outside is))) left);
  left_leaves = first_leaves nodes job split wanted old made leaves.all error (first fails);
}
  where
    held : Held
    held = record { nodes = nodes; leaves = leaves.here; given = Some job.given; made = made; offset = job.offset }

    told : Bytes → Type 0
    told outside = IsOf nodes job.offset wanted old made outside

    by : (outside : Bytes) → UnlessList error (told outside) → UnlessList error (IsBy held (leaves_of outside))
    by outside is = unless_by error (told outside) (IsBy held (leaves_of outside)) (λ t. record { leaves_are = have_here nodes leaves (leaves_of outside) among (keeps.right outside t.bytes t.leaves_are); made_are = t.made_are }) is

    first : FailsRows held job.plan split needs done error ⊎ FailsInside held job.plan split.rows.start split.mask error → (error ≡ Memory) ⊎ FirstFail nodes job split wanted old made leaves.all error
    first (inl (inl memory)) = inl memory
    first (inl (inr (to, within, kept, computes))) = inr (
      to,
      leaves_first nodes job split needs placed leaves.all done next to decoded passed (kept_all leaves needs done to among kept),
      inl (λ outside is. cause_before (leaves_of outside) (handed_by nodes (Some job.given)) job.offset (plan_at nodes job.plan) split.rows.start split.mask 0 done to error (omega arith) (computes (leaves_of outside) (by outside is))),
    )
    first (inr inside) = inr (
      0,
      λ read reads. absurd (row_none (Visits (IsLeafRead read) (handed_by nodes (Some job.given)) (plan_at nodes job.plan)) split.rows.start split.mask 0 reads),
      inr (λ outside is. inside (leaves_of outside) (by outside is)),
    )
