-- The pieces of a split joined are its rows, and which of its rows are ready.
use Rattle.std.proofs.Common.{◌≡◌, ℕ, zero, suc, ◌+◌, ◌-◌, ◌<◌, ◌≤◌, ◌⊎◌, inl, inr, ⊎_elim, Bool, true, false, List, [], ◌∷◌, ◌++◌, Option, Some, None, Ok, Err, length, map, get_or, take, drop, refl, sym, ap, ◌∙◌, subst, arith, length-drop, drop-drop}
use Rattle.std.specs.Prelude.{slice_range, nat_lt}
use Rattle.std.specs.Bool.{MatchBool}
use Rattle.std.specs.List.{slice_get}
use Rattle.std.proofs.lemmas.Bool.{cases_lt}
use Rattle.std.proofs.lemmas.Option.{slice_get-get_or, slice_get_within}
use Rattle.std.proofs.lemmas.List.{length-take, map-append, take-append-drop}
use Rattle.vx_base.specs.Columns.{ColumnData}
use Rattle.vx_base.specs.Data.{Datum}
use Rattle.vx_picking.specs.Rows.{rows_of, AreOf, SelectsSome}
use Rattle.vx_picking.proofs.SelectedRows.{rows_append, rows_none}
use Rattle.vx_plan.specs.Nodes.{Node}
use Rattle.vx_plan.specs.Plans.{Plan, Plans, PlanValidity, no_plans, plan, all_valid, valid_as, no_plan, plan_head, plan_at, concat_plan, eval_plan, filter_plan, pack_plan, take_plan, share_plan, list_plan, row_idx_plan, scan_plan, zoned_plan, pruning_plan}
use Rattle.vx_plan.specs.Refs.{number_of}
use Rattle.vx_rows.specs.Derivations.{Leaves}
use Rattle.vx_rows.specs.Given.{GivenValues}
use Rattle.vx_steps.specs.declared.errors.StepError.{StepError}
use Rattle.vx_steps.specs.declared.errors.StepError.TheVariants.{Unsupported, BadSegment, BadCode, EvalFault, Memory}
use Rattle.vx_steps.specs.declared.jobs.Job.{Job}
use Rattle.vx_steps.specs.declared.leaf_reads.LeafRead.{LeafRead}
use Rattle.vx_steps.specs.declared.pieces.GivenRows.{GivenRows}
use Rattle.vx_steps.specs.declared.placed_reads.PlacedRead.{PlacedRead}
use Rattle.vx_steps.specs.declared.splits.Split.{Split}
use Rattle.vx_steps.specs.declared.wholes.Wholes.{Wholes}
use Rattle.vx_steps.specs.Computed.{AreReady, Computes, HasCause}
use Rattle.vx_steps.specs.Given.{Handed, handed_by}
use Rattle.vx_steps.specs.Held.{Held, handed_in}
use Rattle.vx_steps.specs.KeptData.{Kept}
use Rattle.vx_steps.specs.Kept.{IsKept}
use Rattle.vx_steps.specs.Needs.{Among}
use Rattle.vx_steps.specs.Turns.{ReadsFor}
use Rattle.vx_steps.specs.Wants.{AreNeeds}
use Rattle.vx_steps.specs.Pieces.{joined, read_of, AreInOrder, AreKeptBefore, AreKeptFor, ArePassed, ArePieces, ArePlaced, Covers, Direct, FailsRows, GivesRows, IsGivenTo, IsNextNeed, IsNextRow, IsPlaced, Piece}
use Rattle.vx_steps.specs.Visits.{Test, Visits, VisitsIn, VisitsField, VisitsValidity, SomeVisit, HasBadCode, HasEvalFault, IsLeafRead, IsListRead}
use Rattle.vx_steps.specs.Wholes.{AreReadyInside, Inside, KeepsValues}
use Rattle.vx_steps.proofs.Parts.{all_rows_taken}
use Rattle.vx_steps.proofs.PlacedVisits.{visit_mapped}
use Rattle.vx_steps.proofs.Selecting.{got_range, range_got}
use Rattle.vx_steps.proofs.WholeFaults.{inside, inside_is}
use Rattle.vx_steps.proofs.WholeMaking.{computed_by, holding}

-- ---- pieces one behind another

-- the values of a range split in two
pub rows_joined : {X : Type 0} (f : ℕ → Option X) (start : ℕ) (bits rest : List Bool) (xs ys : List X) → AreOf f (rows_of start bits) xs → AreOf f (rows_of (start + length bits) rest) ys → AreOf f (rows_of start (bits ++ rest)) (xs ++ ys)
rows_joined {X} f start bits rest xs ys first second =
    ap (map f) (rows_append start bits rest) ∙ map-append f (rows_of start bits) (rows_of (start + length bits) rest)
    ∙ ap (λ (vs : List (Option X)). vs ++ map f (rows_of (start + length bits) rest)) first
    ∙ ap (λ (vs : List (Option X)). map Some xs ++ vs) second
    ∙ sym (map-append Some xs ys)

-- what is left of a mask is a range of it, and what is left behind that
range_then : (bits : List Bool) (from to : ℕ) → from ≤ to → drop from bits ≡ slice_range bits from to ++ drop to bits
range_then bits from to forwards =
    let e : from + (to - from) ≡ to = omega arith in
    let f : to - from + from ≡ to = omega arith in
    sym (take-append-drop (to - from) (drop from bits)) ∙ ap (λ (rest : List Bool). slice_range bits from to ++ rest) (drop-drop (to - from) from bits ∙ ap (λ (k : ℕ). drop k bits) e)

pub pieces_left : (f : ℕ → Option Datum) (split : Split) (from : ℕ) (pieces : List Piece) → from ≤ length split.mask → ArePieces f split from pieces → AreOf f (rows_of (split.rows.start + from) (drop from split.mask)) (joined pieces)
pieces_left f split from [] inside none = ap (map f) (rows_none (split.rows.start + from) (drop from split.mask) none)
pieces_left f split from (piece ∷ pieces) inside (forwards, within, values, rest) =
    let count : length (slice_range split.mask from piece.to) ≡ piece.to - from = omega (arith, length-take (piece.to - from) (drop from split.mask), length-drop from split.mask) in
    let at : split.rows.start + piece.to ≡ split.rows.start + from + length (slice_range split.mask from piece.to) = omega arith in
    let F : ℕ → Type 0 = λ start. AreOf f (rows_of start (drop piece.to split.mask)) (joined pieces) in
    let G : List Bool → Type 0 = λ bits. AreOf f (rows_of (split.rows.start + from) bits) (joined (piece ∷ pieces)) in
    subst G (sym (range_then split.mask from piece.to forwards)) (rows_joined f (split.rows.start + from) (slice_range split.mask from piece.to) (drop piece.to split.mask) piece.values (joined pieces) values (subst F at (pieces_left f split piece.to pieces within rest)))

-- The outputs of a split joined are the values of its selected rows.
pub pieces_are : (f : ℕ → Option Datum) (split : Split) (pieces : List Piece) → ArePieces f split 0 pieces → AreOf f (rows_of split.rows.start split.mask) (joined pieces)
pieces_are f split pieces are =
    let at : split.rows.start + 0 ≡ split.rows.start = omega arith in
    let F : ℕ → Type 0 = λ start. AreOf f (rows_of start split.mask) (joined pieces) in
    subst F at (pieces_left f split 0 pieces (omega arith) are)

-- ---- visits, outside whole values and inside

or_match : (b : Bool) (A B C D E F : Type 0) → (A → C ⊎ E) → (B → D ⊎ F) → MatchBool b A B → MatchBool b C D ⊎ MatchBool b E F
or_match true A B C D E F a b v = a v
or_match false A B C D E F a b v = b v

-- one more choice in front of both
or_left : {A B C D : Type 0} → (A → C) → (B → D) → A ⊎ B → C ⊎ D
or_left f g (inl a) = inl (f a)
or_left f g (inr b) = inr (g b)

mutual
  -- a visit is one outside whole values, or one inside
  pub visits_apart : (P : Test) (given : GivenValues) (p : Plan) (row : ℕ) → Visits P (Some given) p row → Visits (Direct P) (Some given) p row ⊎ Visits (Inside P) (Some given) p row
  visits_apart P given (no_plan head) row v = inl v
  visits_apart P given (concat_plan head children) row (inl v) = inl (inl v)
  visits_apart P given (concat_plan head children) row (inr v) = or_left (λ a. inr a) (λ b. inr b) (apart_in P given children row v)
  visits_apart P given (eval_plan head e child) row (inl v) = inl (inl v)
  visits_apart P given (eval_plan head e child) row (inr v) = or_left (λ a. inr a) (λ b. inr b) (visits_apart P given child row v)
  visits_apart P given (filter_plan head child) row (inl v) = inl (inl v)
  visits_apart P given (filter_plan head child) row (inr v) = or_left (λ a. inr a) (λ b. inr b) (visits_apart P given child row v)
  visits_apart P given (pack_plan head children validity) row (inl v) = inl (inl v)
  visits_apart P given (pack_plan head children validity) row (inr (inl v)) = or_left (λ a. inr (inl a)) (λ b. inr (inl b)) (apart_fields P given children row v)
  visits_apart P given (pack_plan head children validity) row (inr (inr v)) = or_left (λ a. inr (inr a)) (λ b. inr (inr b)) (apart_validity P given validity row v)
  visits_apart P given (take_plan head codes values) row (inl v) = inl (inl v)
  visits_apart P given (take_plan head codes values) row (inr (inl v)) = or_left (λ a. inr (inl a)) (λ b. inr (inl b)) (visits_apart P given codes row v)
  visits_apart P given (take_plan head codes values) row (inr (inr (none, (other, less, v)))) = inr (inr (inr (none, (other, less, inside P values other v))))
  visits_apart P given (share_plan head child) row (inl v) = inl (inl v)
  visits_apart P given (share_plan head child) row (inr (none, (other, less, v))) = inr (inr (none, (other, less, inside P child other v)))
  visits_apart P given (list_plan head elements offsets validity) row v = inl v
  visits_apart P given (row_idx_plan head) row v = inl v
  visits_apart P given (scan_plan head segment coding) row v = inl v
  visits_apart P given (zoned_plan head zones content table) row (inl v) = inl (inl v)
  visits_apart P given (zoned_plan head zones content table) row (inr v) = or_left (λ a. inr a) (λ b. inr b) (visits_apart P given content row v)
  visits_apart P given (pruning_plan head pruning table) row (inl v) = inl (inl v)
  visits_apart P given (pruning_plan head pruning table) row (inr (other, less, v)) = or_left (λ a. inr (other, less, a)) (λ b. inr (other, less, b)) (visits_apart P given table other v)

  apart_in : (P : Test) (given : GivenValues) (ps : Plans) (row : ℕ) → VisitsIn P (Some given) ps row → VisitsIn (Direct P) (Some given) ps row ⊎ VisitsIn (Inside P) (Some given) ps row
  apart_in P given no_plans row v = absurd v
  apart_in P given (plan first rest) row v =
      or_match (nat_lt row (plan_head first).rows) (Visits P (Some given) first row) (VisitsIn P (Some given) rest (row - (plan_head first).rows)) (Visits (Direct P) (Some given) first row) (VisitsIn (Direct P) (Some given) rest (row - (plan_head first).rows)) (Visits (Inside P) (Some given) first row) (VisitsIn (Inside P) (Some given) rest (row - (plan_head first).rows))
      (visits_apart P given first row) (apart_in P given rest (row - (plan_head first).rows)) v

  apart_fields : (P : Test) (given : GivenValues) (ps : Plans) (row : ℕ) → VisitsField P (Some given) ps row → VisitsField (Direct P) (Some given) ps row ⊎ VisitsField (Inside P) (Some given) ps row
  apart_fields P given no_plans row v = absurd v
  apart_fields P given (plan first rest) row (inl v) = or_left (λ a. inl a) (λ b. inl b) (visits_apart P given first row v)
  apart_fields P given (plan first rest) row (inr v) = or_left (λ a. inr a) (λ b. inr b) (apart_fields P given rest row v)

  apart_validity : (P : Test) (given : GivenValues) (validity : PlanValidity) (row : ℕ) → VisitsValidity P (Some given) validity row → VisitsValidity (Direct P) (Some given) validity row ⊎ VisitsValidity (Inside P) (Some given) validity row
  apart_validity P given all_valid row v = absurd v
  apart_validity P given (valid_as p) row v = visits_apart P given p row v

-- ---- which rows are ready

-- a range of all rows
pub all_rows : (F : ℕ → List Bool → Type 0) (start : ℕ) (bits : List Bool) (from to : ℕ) → from ≡ 0 → to ≡ length bits → F (start + from) (slice_range bits from to) → F start bits
all_rows F start bits from to first last h =
    let at : start + from ≡ start = omega arith in
    let G : ℕ → Type 0 = λ k. F k (slice_range bits from to) in
    subst (F start) (sym (all_rows_taken bits from to first last)) (subst G at h)

pub among_at : (need : PlacedRead) (needs : List PlacedRead) → Among need needs → (place : ℕ) × (slice_get needs place ≡ Some need)
among_at need [] none = absurd none
among_at need (other ∷ needs) (inl e) = (0, ap (λ (n : PlacedRead). Some n) e)
among_at need (other ∷ needs) (inr h) =
    let at = among_at need needs h in
    (suc at.0, at.1)

pub at_among : (x : PlacedRead) (xs : List PlacedRead) (i : ℕ) → slice_get xs i ≡ Some x → Among x xs
at_among x [] i h = absurd cc
at_among x (y ∷ xs) zero h = inl cc
at_among x (y ∷ xs) (suc i) h = inr (at_among x xs i h)

-- a need as the code reads it
pub need_there : (needs : List PlacedRead) (place : ℕ) → place < length needs → slice_get needs place ≡ Some (get_or needs place (record { leaf = 0; segment = 0; from = 0; last = 0 }))
need_there needs place less = slice_get-get_or needs place (record { leaf = 0; segment = 0; from = 0; last = 0 }) less

-- all needs are passed
pub all_passed : (needs : List PlacedRead) (rows next : ℕ) → length needs ≤ next → ArePassed needs rows next
all_passed needs rows next all place need at early =
    let less : place < length needs = slice_get_within needs place need at in
    omega arith

-- the needs in front of the next one, whose place is no earlier
pub passed_to : (needs : List PlacedRead) (next : ℕ) (first : PlacedRead) (rows : ℕ) → AreInOrder needs → slice_get needs next ≡ Some first → rows ≤ first.from → ArePassed needs rows next
passed_to needs next first rows order at within place need there early =
    ⊎_elim (λ (before : place < next). before) (λ (behind : next ≤ place). let late : first.from ≤ need.from = order next place first need behind at there in absurd (omega arith)) (cases_lt place next)

-- Where the needs in front of the next one are kept, but for those whose rows were given, all are that rows of a range need
-- whose needs are passed.
pub kept_for : (leaves : List Kept) (needs : List PlacedRead) (next from to : ℕ) → AreKeptBefore leaves needs from next → ArePassed needs to next → AreKeptFor leaves needs from to
kept_for leaves needs next from to kept passed need among early late =
    let here = among_at need needs among in
    kept here.0 need (passed here.0 need here.1 early) here.1 late

covered : (leaves : List Kept) (needs : List PlacedRead) (from to : ℕ) → AreKeptFor leaves needs from to → (read : LeafRead) (first last : ℕ) → first < to → from ≤ last → Covers needs read first last → IsKept leaves read.leaf
covered leaves needs from to kept read first last less more (need, among, is, early, late) = subst (IsKept leaves) (ap (λ (r : LeafRead). r.leaf) is) (kept need among (omega arith) (omega arith))

-- Where each need of the rows of a range is kept, all that these rows read is kept.
pub ready_range : (nodes : List Node) (leaves given made : List Kept) (offset n start : ℕ) (bits : List Bool) (needs : List PlacedRead) → ArePlaced nodes given n start bits needs → (from to : ℕ) → AreKeptFor leaves needs from to → from ≤ to →
    AreReady (record { nodes = nodes; leaves = leaves; given = Some given; made = made; offset = offset }) n (start + from) (slice_range bits from to)
ready_range nodes leaves given made offset n start bits needs are from to kept forwards read (place, at, v) =
    let e : from + (to - from) ≡ to = omega arith in
    let at2 : slice_get (slice_range bits from (from + (to - from))) place ≡ Some true = ap (λ (k : ℕ). slice_get (slice_range bits from k) place) e ∙ at in
    let got = got_range bits from (to - from) place true at2 in
    let same : start + from + place ≡ start + (from + place) = omega arith in
    let F : ℕ → Type 0 = Visits (IsLeafRead read) (handed_by nodes (Some given)) (plan_at nodes n) in
    let w : Visits (IsLeafRead read) (handed_by nodes (Some given)) (plan_at nodes n) (start + (from + place)) = subst F same v in
    let less : place < to - from = got.0 in
    ⊎_elim (λ (d : Visits (Direct (IsLeafRead read)) (handed_by nodes (Some given)) (plan_at nodes n) (start + (from + place))). covered leaves needs from to kept read (from + place) (from + place) (omega arith) (omega arith) (are.direct read (from + place) got.1 d))
    (λ (i : Visits (Inside (IsLeafRead read)) (handed_by nodes (Some given)) (plan_at nodes n) (start + (from + place))). covered leaves needs from to kept read 0 (from + place) (omega arith) (omega arith) (are.inside read (from + place) got.1 i))
    (visits_apart (IsLeafRead read) _ (plan_at nodes n) (start + (from + place)) w)

-- Where no row was given and some row is ready, all leaves of whole values are kept.
pub ready_inside : (nodes : List Node) (leaves given made : List Kept) (offset n start : ℕ) (bits : List Bool) (needs : List PlacedRead) → ArePlaced nodes given n start bits needs → (next done : ℕ) → AreKeptBefore leaves needs done next → done ≡ 0 → ArePassed needs 1 next →
    AreReadyInside (record { nodes = nodes; leaves = leaves; given = Some given; made = made; offset = offset }) n start bits
ready_inside nodes leaves given made offset n start bits needs are next done kept none passed read (place, at, v) =
    covered leaves needs done 1 (kept_for leaves needs next done 1 kept passed) read 0 place (omega arith) (omega (arith, none)) (are.inside read place at v)

-- ---- how far rows are given

-- after rows were given, up to a place
pub given_to : (nodes : List Node) (given leaves : List Kept) (wholes : Wholes) (number : ℕ) (split : Split) (needs : List PlacedRead) (old new : GivenRows) → ArePlaced nodes given number split.rows.start split.mask needs → IsGivenTo nodes given leaves wholes number split needs old → old.made ≡ true → (ready : ℕ) → old.row < ready → ready ≤ length split.mask → ArePassed needs ready old.next → (ready < length split.mask → IsNextNeed needs old.next ready) →
    new ≡ record { done = ready; row = ready; next = old.next; made = old.made } → IsGivenTo nodes given leaves wholes number split needs new
given_to nodes given leaves wholes number split needs old new placed is made ready past within passed next same =
    let F : GivenRows → Type 0 = IsGivenTo nodes given leaves wholes number split needs in
    let behind : old.done ≤ old.row = is.row.behind in
    subst F (sym same) (record {
      row = record {
        behind = omega arith;
        within = within;
        none = λ place late early at. absurd (omega (arith, late, early));
        here = λ less. there (next less);
      };
      begun = λ _. refl;
      kept = λ place need before at late. is.kept place need before at (omega (arith, late, behind, past));
      passed = passed;
      first = λ not. absurd (let both : true ≡ false = sym made ∙ not in cc);
      there = λ h. is.there made;
    })
  where
    there : IsNextNeed needs old.next ready → slice_get split.mask ready ≡ Some true
    there (need, at, from) = ⊎_elim (λ d. ap (slice_get split.mask) (sym from) ∙ d.0) (λ i. absurd (let none : need.from ≡ 0 = i.0 in omega (arith, past, from, none))) (placed.only need (at_among need needs old.next at))

-- some row of the range is selected
pub some_given : (bits : List Bool) (done row ready : ℕ) → IsNextRow bits done row → row < ready → ready ≤ length bits → SelectsSome (slice_range bits done ready)
some_given bits done row ready is past within =
    let low : done ≤ row = is.behind in
    let e : done + (ready - done) ≡ ready = omega arith in
    let f : done + (row - done) ≡ row = omega arith in
    (row - done, ap (λ (k : ℕ). slice_get (slice_range bits done k) (row - done)) (sym e) ∙ range_got bits done (ready - done) (row - done) true (omega arith) (ap (slice_get bits) f ∙ is.here (omega arith)))

-- ---- what is read in all

direct_is : (read : LeafRead) (handed : Handed) (p : Plan) (row : ℕ) → Direct (IsLeafRead read) handed p row → IsLeafRead read handed p row
direct_is read None p row h = absurd h
direct_is read (Some given) p row h = h

visited : (nodes : List Node) (job : Job) (split : Split) (need : PlacedRead) → IsPlaced nodes job.given job.plan split.rows.start split.mask need → ReadsFor nodes job split (read_of need)
visited nodes job split need (inl d) = (need.last, d.2, visit_mapped (Direct (IsLeafRead (read_of need))) (IsLeafRead (read_of need)) (direct_is (read_of need)) (handed_by nodes (Some job.given)) (plan_at nodes job.plan) (split.rows.start + need.last) d.3)
visited nodes job split need (inr i) = inside_is (read_of need) (handed_by nodes (Some job.given)) (plan_at nodes job.plan) split.rows.start split.mask (need.last, i.1, i.2)

pub need_of : (read : LeafRead) (needs : List PlacedRead) → Among read (map read_of needs) → (need : PlacedRead) × Among need needs × (read_of need ≡ read)
need_of read [] none = absurd none
need_of read (need ∷ needs) (inl e) = (need, inl refl, e)
need_of read (need ∷ needs) (inr h) =
    let r = need_of read needs h in
    (r.0, inr r.1, r.2)

read_among : (need : PlacedRead) (needs : List PlacedRead) → Among need needs → Among (read_of need) (map read_of needs)
read_among need [] none = none
read_among need (other ∷ needs) (inl e) = inl (ap read_of e)
read_among need (other ∷ needs) (inr h) = inr (read_among need needs h)

-- the needs by their places are what the selected rows of the split read
pub needs_are : (nodes : List Node) (job : Job) (split : Split) (needs : List PlacedRead) → ArePlaced nodes job.given job.plan split.rows.start split.mask needs → AreNeeds (ReadsFor nodes job split) (map read_of needs)
needs_are nodes job split needs are = record {
  only = λ read among. let r = need_of read needs among in let F : LeafRead → Type 0 = ReadsFor nodes job split in subst F r.2 (visited nodes job split r.0 (are.only r.0 r.1));
  all = λ read v. ⊎_elim (λ d. of_cover read v.0 v.0 (are.direct read v.0 v.1 d)) (λ i. of_cover read 0 v.0 (are.inside read v.0 v.1 i)) (visits_apart (IsLeafRead read) _ (plan_at nodes job.plan) (split.rows.start + v.0) v.2);
}
  where
    of_cover : (read : LeafRead) (from to : ℕ) → Covers needs read from to → Among read (map read_of needs)
    of_cover read from to (need, among, is, early, late) = let F : LeafRead → Type 0 = λ r. Among r (map read_of needs) in subst F is (read_among need needs among)

-- ---- faults

nothing_taken : (bits : List Bool) (from place : ℕ) → slice_get (take 0 (drop from bits)) place ≡ Some true → ⊥
nothing_taken bits from place at = cc

-- a fault of rows of a range is one of the rows of all
some_wider : (P : Test) (handed : Handed) (p : Plan) (start : ℕ) (bits : List Bool) (from to : ℕ) → SomeVisit P handed p (start + from) (slice_range bits from to) → SomeVisit P handed p start bits
some_wider P handed p start bits from to (place, at, v) = ⊎_elim (λ (none : to < from). absurd (short none)) (λ (forwards : from ≤ to). long forwards) (cases_lt to from)
  where
    short : to < from → ⊥
    short less =
        let e : to - from ≡ 0 = omega arith in
        nothing_taken bits from place (ap (λ (k : ℕ). slice_get (take k (drop from bits)) place) (sym e) ∙ at)

    long : from ≤ to → SomeVisit P handed p start bits
    long forwards =
        let e : from + (to - from) ≡ to = omega arith in
        let got = got_range bits from (to - from) place true (ap (λ (k : ℕ). slice_get (slice_range bits from k) place) e ∙ at) in
        let same : start + from + place ≡ start + (from + place) = omega arith in
        let F : ℕ → Type 0 = Visits P handed p in
        (from + place, got.1, subst F same v)

cause_wider : (leaves : Leaves) (handed : Handed) (offset : ℕ) (p : Plan) (start : ℕ) (bits : List Bool) (from to : ℕ) (error : StepError) → HasCause leaves handed offset p (start + from) (slice_range bits from to) error → HasCause leaves handed offset p start bits error
cause_wider leaves handed offset p start bits from to (Unsupported list) v = some_wider (IsListRead (number_of list)) handed p start bits from to v
cause_wider leaves handed offset p start bits from to (BadSegment segment) v = absurd v
cause_wider leaves handed offset p start bits from to (BadCode code at) v = some_wider (HasBadCode leaves offset (number_of code) at) handed p start bits from to v
cause_wider leaves handed offset p start bits from to (EvalFault at) v = some_wider (HasEvalFault leaves offset at) handed p start bits from to v
cause_wider leaves handed offset p start bits from to Memory v = tt

pub fails_wider : (h : Held) (number : ℕ) (split : Split) (needs : List PlacedRead) (from : ℕ) (error : StepError) → FailsRows h number split needs from error → Computes h number split.rows.start split.mask (Err error)
fails_wider h number split needs from error (inl memory) leaves is = let F : StepError → Type 0 = HasCause leaves (handed_in h) h.offset (plan_at h.nodes number) split.rows.start split.mask in subst F (sym memory) tt
fails_wider h number split needs from error (inr (to, within, kept, computes)) leaves is = cause_wider leaves (handed_in h) h.offset (plan_at h.nodes number) split.rows.start split.mask from to error (computes leaves is)

-- by more values it is by the leaves that the old ones are by
pub fails_by : (nodes : List Node) (leaves given : List Kept) (offset : ℕ) (old new : List Kept) → KeepsValues nodes leaves offset old new → (number : ℕ) (split : Split) (needs : List PlacedRead) (from : ℕ) (error : StepError) → FailsRows (holding nodes leaves (Some given) offset new) number split needs from error → FailsRows (holding nodes leaves (Some given) offset old) number split needs from error
fails_by nodes leaves given offset old new keeps number split needs from error (inl memory) = inl memory
fails_by nodes leaves given offset old new keeps number split needs from error (inr (to, within, kept, computes)) =
    inr (to, within, kept, computed_by nodes leaves (Some given) offset old new keeps number (split.rows.start + from) (slice_range split.mask from to) (Err error) computes)

pub gives_by : (nodes : List Node) (leaves given : List Kept) (offset : ℕ) (old new : List Kept) → KeepsValues nodes leaves offset old new → (number : ℕ) (split : Split) (from to : ℕ) (column : ColumnData) → GivesRows (holding nodes leaves (Some given) offset new) number split from to column → GivesRows (holding nodes leaves (Some given) offset old) number split from to column
gives_by nodes leaves given offset old new keeps number split from to column gives = record {
  forwards = gives.forwards;
  some = gives.some;
  dtype = gives.dtype;
  count = gives.count;
  computed = computed_by nodes leaves (Some given) offset old new keeps number (split.rows.start + from) (slice_range split.mask from to) (Ok column) gives.computed;
}
