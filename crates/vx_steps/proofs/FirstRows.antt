-- Selected rows of a range of a split's rows: what they read and visit, rows of a wider range do.
use Rattle.std.proofs.Common.{◌≡◌, ℕ, ◌+◌, ◌-◌, ◌<◌, ◌≤◌, ⊎_elim, Bool, true, List, Some, take, drop, sym, ap, ◌∙◌, subst, arith}
use Rattle.std.specs.Prelude.{slice_range}
use Rattle.std.specs.List.{slice_get}
use Rattle.std.proofs.lemmas.Bool.{cases_lt}
use Rattle.vx_picking.specs.Rows.{SelectsSome, SomeRow}
use Rattle.vx_plan.specs.Nodes.{Node}
use Rattle.vx_plan.specs.Plans.{Plan, plan_at}
use Rattle.vx_plan.specs.Refs.{number_of}
use Rattle.vx_rows.specs.Derivations.{Leaves}
use Rattle.vx_steps.specs.declared.errors.StepError.{StepError}
use Rattle.vx_steps.specs.declared.errors.StepError.TheVariants.{Unsupported, BadSegment, BadCode, EvalFault, Memory}
use Rattle.vx_steps.specs.declared.jobs.Job.{Job}
use Rattle.vx_steps.specs.declared.leaf_reads.LeafRead.{LeafRead}
use Rattle.vx_steps.specs.declared.placed_reads.PlacedRead.{PlacedRead}
use Rattle.vx_steps.specs.declared.splits.Split.{Split}
use Rattle.vx_steps.specs.declared.wholes.Wholes.{Wholes}
use Rattle.vx_steps.specs.Computed.{HasCause}
use Rattle.vx_steps.specs.Given.{Handed, handed_by}
use Rattle.vx_steps.specs.KeptData.{Kept}
use Rattle.vx_steps.specs.Kept.{IsKept}
use Rattle.vx_steps.specs.Needs.{Among}
use Rattle.vx_steps.specs.Pieces.{piece_of, AreKeptFor, ArePassed, ArePlaced, Covers, Direct}
use Rattle.vx_steps.specs.Running.{AreDecoded}
use Rattle.vx_steps.specs.Turns.{AreLeavesKept}
use Rattle.vx_steps.specs.Visits.{Visits, HasBadCode, HasEvalFault, IsLeafRead, IsListRead, IsWholeRead}
use Rattle.vx_steps.specs.Wholes.{AreThere, Inside}
use Rattle.vx_steps.proofs.PieceRows.{among_at, visits_apart}
use Rattle.vx_steps.proofs.Selecting.{got_range, range_got}

nothing_taken : (bits : List Bool) (from place : ℕ) → slice_get (take 0 (drop from bits)) place ≡ Some true → ⊥
nothing_taken bits from place at = cc

-- a range with a selected row has rows
pub some_forwards : (bits : List Bool) (from to : ℕ) → SelectsSome (slice_range bits from to) → from < to
some_forwards bits from to (place, at) = ⊎_elim (λ (none : to < from + 1). absurd (short none)) (λ (more : from + 1 ≤ to). omega arith) (cases_lt to (from + 1))
  where
    short : to < from + 1 → ⊥
    short less =
        let e : to - from ≡ 0 = omega arith in
        nothing_taken bits from place (ap (λ (k : ℕ). slice_get (take k (drop from bits)) place) (sym e) ∙ at)

-- a selected row of a range is one of all
pub row_in : (Q : ℕ → Type 0) (start : ℕ) (bits : List Bool) (from to : ℕ) → SomeRow Q (start + from) (slice_range bits from to) → (row : ℕ) × (from ≤ row) × (row < to) × (slice_get bits row ≡ Some true) × Q (start + row)
row_in Q start bits from to (place, at, v) =
    let some : from < to = some_forwards bits from to (place, at) in
    let e : from + (to - from) ≡ to = omega arith in
    let got = got_range bits from (to - from) place true (ap (λ (k : ℕ). slice_get (slice_range bits from k) place) e ∙ at) in
    let less : place < to - from = got.0 in
    let same : start + from + place ≡ start + (from + place) = omega arith in
    let low : from ≤ from + place = omega arith in
    let high : from + place < to = omega arith in
    (from + place, low, high, got.1, subst Q same v)

-- and one of all that lies in the range is one of it
pub row_to : (Q : ℕ → Type 0) (start : ℕ) (bits : List Bool) (from to row : ℕ) → from ≤ row → row < to → slice_get bits row ≡ Some true → Q (start + row) → SomeRow Q (start + from) (slice_range bits from to)
row_to Q start bits from to row low high at v =
    let e : to ≡ from + (to - from) = omega arith in
    let f : from + (row - from) ≡ row = omega arith in
    let same : start + row ≡ start + from + (row - from) = omega arith in
    let less : row - from < to - from = omega arith in
    (row - from, ap (λ (k : ℕ). slice_get (slice_range bits from k) (row - from)) e ∙ range_got bits from (to - from) (row - from) true less (ap (slice_get bits) f ∙ at), subst Q same v)

pub row_all : (Q : ℕ → Type 0) (start : ℕ) (bits : List Bool) (from to : ℕ) → SomeRow Q (start + from) (slice_range bits from to) → SomeRow Q start bits
row_all Q start bits from to some =
    let r = row_in Q start bits from to some in
    (r.0, r.3, r.4)

-- a row of a range is one of a range that begins before it
pub row_before : (Q : ℕ → Type 0) (start : ℕ) (bits : List Bool) (low from to : ℕ) → low ≤ from → SomeRow Q (start + from) (slice_range bits from to) → SomeRow Q (start + low) (slice_range bits low to)
row_before Q start bits low from to early some =
    let r = row_in Q start bits from to some in
    let late : from ≤ r.0 = r.1 in
    let before : low ≤ r.0 = omega arith in
    row_to Q start bits low to r.0 before r.2 r.3 r.4

-- there is no row in a range of none
pub row_none : (Q : ℕ → Type 0) (start : ℕ) (bits : List Bool) (from : ℕ) → SomeRow Q (start + from) (slice_range bits from from) → ⊥
row_none Q start bits from some =
    let r = row_in Q start bits from from some in
    let low : from ≤ r.0 = r.1 in
    let high : r.0 < from = r.2 in
    omega arith

-- a fault of rows of a range is one of rows of a range that begins before it
pub cause_before : (leaves : Leaves) (handed : Handed) (offset : ℕ) (p : Plan) (start : ℕ) (bits : List Bool) (low from to : ℕ) (error : StepError) → low ≤ from → HasCause leaves handed offset p (start + from) (slice_range bits from to) error → HasCause leaves handed offset p (start + low) (slice_range bits low to) error
cause_before leaves handed offset p start bits low from to (Unsupported list) early v = row_before (Visits (IsListRead (number_of list)) handed p) start bits low from to early v
cause_before leaves handed offset p start bits low from to (BadSegment segment) early v = absurd v
cause_before leaves handed offset p start bits low from to (BadCode code at) early v = row_before (Visits (HasBadCode leaves offset (number_of code) at) handed p) start bits low from to early v
cause_before leaves handed offset p start bits low from to (EvalFault at) early v = row_before (Visits (HasEvalFault leaves offset at) handed p) start bits low from to early v
cause_before leaves handed offset p start bits low from to Memory early v = tt

-- what all rows ask for is there that those of a range ask for
pub there_in : (nodes : List Node) (given : List Kept) (wholes : Wholes) (number start : ℕ) (bits : List Bool) (from to : ℕ) → AreThere nodes given wholes number start bits → AreThere nodes given wholes number (start + from) (slice_range bits from to)
there_in nodes given wholes number start bits from to there n asks = there n (row_all (Visits (IsWholeRead n) (handed_by nodes (Some given)) (plan_at nodes number)) start bits from to asks)

-- ---- leaves that the first rows read

-- Where the needs in front of the next one were decoded, and those of rows from a place on are kept up to another, all leaves are kept
-- that rows up to there read.
pub leaves_first : (nodes : List Node) (job : Job) (split : Split) (needs : List PlacedRead) → ArePlaced nodes job.given job.plan split.rows.start split.mask needs → (leaves : List Kept) (done next to : ℕ) → AreDecoded leaves needs next → ArePassed needs done next → AreKeptFor leaves needs done to → AreLeavesKept nodes job (piece_of split 0 to) leaves
leaves_first nodes job split needs placed leaves done next to decoded passed kept read reads =
    let r = row_in (Visits (IsLeafRead read) (handed_by nodes (Some job.given)) (plan_at nodes job.plan)) split.rows.start split.mask 0 to reads in
    ⊎_elim
    (λ (d : Visits (Direct (IsLeafRead read)) (handed_by nodes (Some job.given)) (plan_at nodes job.plan) (split.rows.start + r.0)). covered r.0 r.0 (omega arith) r.2 (placed.direct read r.0 r.3 d))
    (λ (i : Visits (Inside (IsLeafRead read)) (handed_by nodes (Some job.given)) (plan_at nodes job.plan) (split.rows.start + r.0)). covered 0 r.0 (omega arith) (first r.0 r.2) (placed.inside read r.0 r.3 i))
    (visits_apart (IsLeafRead read) _ (plan_at nodes job.plan) (split.rows.start + r.0) r.4)
  where
    first : (row : ℕ) → row < to → 0 < to
    first row less = omega arith

    by_place : (need : PlacedRead) → Among need needs → need.from < done → IsKept leaves need.leaf
    by_place need among early =
        let at = among_at need needs among in
        decoded at.0 need (passed at.0 need at.1 early) at.1

    by_rows : (need : PlacedRead) → Among need needs → (from last : ℕ) → from ≤ last → from < to → need.from ≤ from → last ≤ need.last → done ≤ need.from → IsKept leaves need.leaf
    by_rows need among from last order less early late behind =
        let high : need.from < to = omega arith in
        let low : done ≤ need.last = omega arith in
        kept need among high low

    covered : (from last : ℕ) → from ≤ last → from < to → Covers needs read from last → IsKept leaves read.leaf
    covered from last order less (need, among, is, early, late) =
        let K : LeafRead → Type 0 = λ r. IsKept leaves r.leaf in
        subst K is (⊎_elim (λ (before : need.from < done). by_place need among before) (λ (behind : done ≤ need.from). by_rows need among from last order less early late behind) (cases_lt need.from done))
