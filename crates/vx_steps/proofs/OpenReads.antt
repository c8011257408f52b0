-- What open needs of started splits, and reads of splits to come, say of the rows that are left, and the other way round.
use Rattle.std.proofs.Common.{◌≡◌, ℕ, zero, suc, ◌+◌, ◌-◌, ◌<◌, ◌≤◌, ◌==◌, ◌⊎◌, inl, inr, ⊎_elim, Bool, true, false, List, [], ◌∷◌, Some, None, length, map, take, drop, refl, sym, ap, ◌∙◌, subst, arith}
use Rattle.std.specs.Prelude.{slice_range, if◌then◌else◌}
use Rattle.std.specs.List.{slice_get}
use Rattle.std.proofs.lemmas.Bool.{cases_lt, eqb-true}
use Rattle.std.proofs.lemmas.Option.{slice_get_within, same_Some}
use Rattle.vx_base.specs.Masks.{true_count}
use Rattle.vx_masks.proofs.Places.{false_first}
use Rattle.vx_picking.specs.Rows.{SomeRow}
use Rattle.vx_picking.proofs.SelectedRows.{true_first}
use Rattle.vx_plan.specs.Nodes.{Node}
use Rattle.vx_plan.specs.Plans.{Plan, plan_at}
use Rattle.vx_steps.specs.declared.jobs.ActiveSplit.{ActiveSplit}
use Rattle.vx_steps.specs.declared.jobs.Job.{Job}
use Rattle.vx_steps.specs.declared.jobs.Progress.{Progress}
use Rattle.vx_steps.specs.declared.leaf_reads.LeafRead.{LeafRead}
use Rattle.vx_steps.specs.declared.placed_reads.PlacedRead.{PlacedRead}
use Rattle.vx_steps.specs.declared.splits.Split.{Split}
use Rattle.vx_steps.specs.Given.{Handed, handed_by}
use Rattle.vx_steps.specs.Kept.{kept_at}
use Rattle.vx_steps.specs.LaterReads.{SplitRead, SegmentReadFrom}
use Rattle.vx_steps.specs.Needed.{open_reads, still_reads, AreReadsOfSplits, IsLacked, IsNeededBy, KeepsNeeded, LeafIsAhead, LeafIsNeeded, SegmentIsAhead}
use Rattle.vx_steps.specs.Needs.{Among}
use Rattle.vx_steps.specs.Pieces.{piece_of, read_of, ArePlaced, Covers, Direct, IsPlaced, ReadsDirectly, ReadsInside}
use Rattle.vx_steps.specs.Running.{IsActive, IsStarted}
use Rattle.vx_steps.specs.Standings.{left_of, none_given, numbers_from, split_left, standing_of, SplitLeft, Standing}
use Rattle.vx_steps.specs.Steps.{IsReadByRest}
use Rattle.vx_steps.specs.StillRead.{SegmentIsRead}
use Rattle.vx_steps.specs.Turns.{ReadsFor}
use Rattle.vx_steps.specs.Visits.{Visits, IsLeafRead}
use Rattle.vx_steps.specs.Wholes.{Inside}
use Rattle.vx_steps.proofs.AllReads.{all_of_one, one_of_all}
use Rattle.vx_steps.proofs.PieceRows.{among_at, visits_apart}
use Rattle.vx_steps.proofs.PlacedVisits.{visit_mapped}
use Rattle.vx_steps.proofs.Releasing.{not_kept}
use Rattle.vx_steps.proofs.Selecting.{among_back, among_front, among_split, got_dropped, got_range, range_got}

-- ---- lists

pub among_mapped : {X Y : Type 0} (f : X → Y) (x : X) (xs : List X) → Among x xs → Among (f x) (map f xs)
among_mapped f x [] none = none
among_mapped f x (y ∷ xs) (inl e) = inl (ap f e)
among_mapped f x (y ∷ xs) (inr more) = inr (among_mapped f x xs more)

pub mapped_from : {X Y : Type 0} (f : X → Y) (y : Y) (xs : List X) → Among y (map f xs) → (x : X) × Among x xs × (f x ≡ y)
mapped_from f y [] none = absurd none
mapped_from f y (x ∷ xs) (inl e) = (x, inl refl, e)
mapped_from f y (x ∷ xs) (inr more) =
    let r = mapped_from f y xs more in
    (r.0, inr r.1, r.2)

-- ---- the rows of a split from a place on

-- a selected row at the place or behind it is one of these
pub row_left : (F : ℕ → Type 0) (start : ℕ) (bits : List Bool) (done place : ℕ) → done ≤ place → slice_get bits place ≡ Some true → F (start + place) → SomeRow F (start + done) (slice_range bits done (length bits))
row_left F start bits done place late at v =
    let behind : done + (place - done) ≡ place = omega arith in
    let less : place < length bits = slice_get_within bits place true at in
    let whole : done + (length bits - done) ≡ length bits = omega arith in
    let there : slice_get (slice_range bits done (length bits)) (place - done) ≡ Some true = ap (λ (m : ℕ). slice_get (slice_range bits done m) (place - done)) (sym whole) ∙ range_got bits done (length bits - done) (place - done) true (omega arith) (ap (slice_get bits) behind ∙ at) in
    let row : start + place ≡ start + done + (place - done) = omega arith in
    (place - done, there, subst F row v)

none_taken : (bits : List Bool) (from place : ℕ) → slice_get (take 0 (drop from bits)) place ≡ Some true → ⊥
none_taken bits from place at = cc

-- and these stand there
pub left_row : (F : ℕ → Type 0) (start : ℕ) (bits : List Bool) (done : ℕ) → SomeRow F (start + done) (slice_range bits done (length bits)) → (place : ℕ) × (done ≤ place) × (slice_get bits place ≡ Some true) × F (start + place)
left_row F start bits done (q, at, v) = ⊎_elim (λ (past : length bits < done). absurd (short past)) (λ (inside : done ≤ length bits). long inside) (cases_lt (length bits) done)
  where
    short : length bits < done → ⊥
    short past =
        let e : length bits - done ≡ 0 = omega arith in
        none_taken bits done q (ap (λ (k : ℕ). slice_get (take k (drop done bits)) q) (sym e) ∙ at)

    long : done ≤ length bits → (place : ℕ) × (done ≤ place) × (slice_get bits place ≡ Some true) × F (start + place)
    long inside =
        let e : done + (length bits - done) ≡ length bits = omega arith in
        let got = got_range bits done (length bits - done) q true (ap (λ (k : ℕ). slice_get (slice_range bits done k) q) e ∙ at) in
        let same : start + done + q ≡ start + (done + q) = omega arith in
        let late : done ≤ done + q = omega arith in
        (done + q, late, got.1, subst F same v)

-- ---- one split

-- the row reads the leaf
abbrev RowReads : List Node → Job → LeafRead → ℕ → Type 0
RowReads nodes job read = Visits (IsLeafRead read) (handed_by nodes (Some job.given)) (plan_at nodes job.plan)

direct_test : (read : LeafRead) (handed : Handed) (p : Plan) (row : ℕ) → Direct (IsLeafRead read) handed p row → IsLeafRead read handed p row
direct_test read None p row h = absurd h
direct_test read (Some given) p row h = h

inside_test : (read : LeafRead) (handed : Handed) (p : Plan) (row : ℕ) → Inside (IsLeafRead read) handed p row → IsLeafRead read handed p row
inside_test read None p row h = h
inside_test read (Some given) p row h = absurd h

direct_reads : (nodes : List Node) (job : Job) (read : LeafRead) (row : ℕ) → ReadsDirectly nodes job.given job.plan row read → RowReads nodes job read row
direct_reads nodes job read row v = visit_mapped (Direct (IsLeafRead read)) (IsLeafRead read) (direct_test read) (handed_by nodes (Some job.given)) (plan_at nodes job.plan) row v

inside_reads : (nodes : List Node) (job : Job) (read : LeafRead) (row : ℕ) → ReadsInside nodes job.given job.plan row read → RowReads nodes job read row
inside_reads nodes job read row v = visit_mapped (Inside (IsLeafRead read)) (IsLeafRead read) (inside_test read) (handed_by nodes (Some job.given)) (plan_at nodes job.plan) row v

-- what a need is of whose last row is left, a row reads that is left
pub need_read : (nodes : List Node) (job : Job) (split : Split) (done : ℕ) (need : PlacedRead) → done ≤ need.last → IsPlaced nodes job.given job.plan split.rows.start split.mask need → ReadsFor nodes job (piece_of split done (length split.mask)) (read_of need)
need_read nodes job split done need late (inl d) = row_left (RowReads nodes job (read_of need)) split.rows.start split.mask done need.last late d.2 (direct_reads nodes job (read_of need) (split.rows.start + need.last) d.3)
need_read nodes job split done need late (inr i) = row_left (RowReads nodes job (read_of need)) split.rows.start split.mask done need.last late i.1 (inside_reads nodes job (read_of need) (split.rows.start + need.last) i.2)

-- and so what a need is of whose first row is left, or which is of whole values where no row was given
pub need_read_first : (nodes : List Node) (job : Job) (split : Split) (done : ℕ) (need : PlacedRead) → done ≤ need.from → IsPlaced nodes job.given job.plan split.rows.start split.mask need → ReadsFor nodes job (piece_of split done (length split.mask)) (read_of need)
need_read_first nodes job split done need late (inl d) = row_left (RowReads nodes job (read_of need)) split.rows.start split.mask done need.from late d.0 (direct_reads nodes job (read_of need) (split.rows.start + need.from) d.1)
need_read_first nodes job split done need late (inr i) =
    let first : need.from ≡ 0 = i.0 in
    let before : done ≤ need.last = omega arith in
    row_left (RowReads nodes job (read_of need)) split.rows.start split.mask done need.last before i.1 (inside_reads nodes job (read_of need) (split.rows.start + need.last) i.2)

-- what a row reads that is left, a need is of whose last row is left
pub read_open : (nodes : List Node) (job : Job) (split : Split) (needs : List PlacedRead) (done : ℕ) (read : LeafRead) → ArePlaced nodes job.given job.plan split.rows.start split.mask needs → ReadsFor nodes job (piece_of split done (length split.mask)) read → (need : PlacedRead) × Among need needs × (read_of need ≡ read) × (done ≤ need.last)
read_open nodes job split needs done read are reads = by (left_row (RowReads nodes job read) split.rows.start split.mask done reads)
  where
    covering : (from to : ℕ) → done ≤ to → Covers needs read from to → (need : PlacedRead) × Among need needs × (read_of need ≡ read) × (done ≤ need.last)
    covering from to late (need, among, is, early, behind) = (need, among, is, omega arith)

    by : (place : ℕ) × (done ≤ place) × (slice_get split.mask place ≡ Some true) × RowReads nodes job read (split.rows.start + place) → (need : PlacedRead) × Among need needs × (read_of need ≡ read) × (done ≤ need.last)
    by (place, late, at, v) = ⊎_elim
        (λ (d : Visits (Direct (IsLeafRead read)) (handed_by nodes (Some job.given)) (plan_at nodes job.plan) (split.rows.start + place)). covering place place late (are.direct read place at d))
        (λ (i : Visits (Inside (IsLeafRead read)) (handed_by nodes (Some job.given)) (plan_at nodes job.plan) (split.rows.start + place)). covering 0 place late (are.inside read place at i))
        (visits_apart (IsLeafRead read) _ (plan_at nodes job.plan) (split.rows.start + place) v)

-- where all such needs are open, it stands among the reads of those that are
pub read_of_rest : (nodes : List Node) (job : Job) (split : Split) (needs rest : List PlacedRead) (done : ℕ) (read : LeafRead) → ArePlaced nodes job.given job.plan split.rows.start split.mask needs → ((need : PlacedRead) → Among need needs → done ≤ need.last → Among need rest) → ReadsFor nodes job (piece_of split done (length split.mask)) read → Among read (map read_of rest)
read_of_rest nodes job split needs rest done read are all reads =
    let r = read_open nodes job split needs done read are reads in
    let F : LeafRead → Type 0 = λ x. Among x (map read_of rest) in
    subst F r.2 (among_mapped read_of r.0 rest (all r.0 r.1 r.3))

-- ---- the splits that are left

-- a selected row that is left reads it
abbrev pub IsReadLeft : List Node → Job → Standing → LeafRead → Type 0
IsReadLeft nodes job standing read = (s : SplitLeft) × Among s (left_of job standing) × ((split : Split) × (slice_get job.splits.items s.number ≡ Some split) × ReadsFor nodes job (piece_of split s.given (length split.mask)) read)

pub leaf_left : (nodes : List Node) (job : Job) (standing : Standing) (read : LeafRead) (leaf : ℕ) → read.leaf ≡ leaf → IsReadLeft nodes job standing read → LeafIsNeeded nodes job standing leaf
leaf_left nodes job standing read leaf is (s, among, (split, at, reads)) = (s, among, (split, at, (read, is, reads)))

pub segment_left : (nodes : List Node) (job : Job) (standing : Standing) (read : LeafRead) (segment : ℕ) → read.segment ≡ segment → IsReadLeft nodes job standing read → IsReadByRest nodes job standing segment
segment_left nodes job standing read segment is (s, among, (split, at, reads)) = (s, among, (split, at, (read, is, reads)))

-- ---- splits that were started

among_left : (job : Job) (progress : Progress) (active : ActiveSplit) → Among active progress.active.items → Among (split_left active) (left_of job (standing_of progress))
among_left job progress active among = among_front (split_left active) (map split_left progress.active.items) (map none_given (numbers_from progress.next (drop progress.next job.splits.items))) (among_mapped split_left active progress.active.items among)

-- a need whose last row is left
pub started_left : (nodes : List Node) (job : Job) (progress : Progress) (active : ActiveSplit) → IsStarted nodes job progress.store.columns progress.reads.wanted progress.wholes active → Among active progress.active.items → (need : PlacedRead) → Among need active.needs.items → active.at.done ≤ need.last → IsReadLeft nodes job (standing_of progress) (read_of need)
started_left nodes job progress active is among need there late = (split_left active, among_left job progress active among, (is.split, is.at, need_read nodes job is.split active.at.done need late (is.placed.only need there)))

-- an open need is of a segment that rows read that are left
pub open_needed : (nodes : List Node) (job : Job) (progress : Progress) (active : ActiveSplit) → IsActive nodes job progress.store.columns progress.reads.wanted progress.wholes active → Among active progress.active.items → (need : PlacedRead) → Among need active.rest → IsReadByRest nodes job (standing_of progress) need.segment
open_needed nodes job progress active is among need there =
    let own = is.rest.only need there in
    segment_left nodes job (standing_of progress) (read_of need) need.segment refl (started_left nodes job progress active is.started among need own.0 own.1)

-- where each started split is active, what they still read rows read that are left
pub still_needed : (nodes : List Node) (job : Job) (progress : Progress) → ((active : ActiveSplit) → Among active progress.active.items → IsActive nodes job progress.store.columns progress.reads.wanted progress.wholes active) → (segment : ℕ) → SegmentIsRead segment (still_reads progress.active.items) → IsReadByRest nodes job (standing_of progress) segment
still_needed nodes job progress are segment (read, among, is) =
    let one = all_of_one (map open_reads progress.active.items) read among in
    let active = mapped_from open_reads one.0 progress.active.items one.1 in
    let need = mapped_from read_of read active.0.rest (subst (λ (reads : List LeafRead). Among read reads) (sym active.2) one.2) in
    subst (λ (k : ℕ). IsReadByRest nodes job (standing_of progress) k) (ap (λ (r : LeafRead). r.segment) need.2 ∙ is) (open_needed nodes job progress active.0 (are active.0 active.1) active.1 need.0 need.1)

-- so is a need of whose leaf no column is kept: it was not decoded, and so its first row was not given
pub lacked_left : (nodes : List Node) (job : Job) (progress : Progress) (active : ActiveSplit) → IsStarted nodes job progress.store.columns progress.reads.wanted progress.wholes active → Among active progress.active.items → (need : PlacedRead) → Among need active.needs.items → kept_at progress.store.columns.all need.leaf ≡ None → IsReadLeft nodes job (standing_of progress) (read_of need)
lacked_left nodes job progress active is among need there none =
    let place = among_at need active.needs.items there in
    let behind : active.at.next ≤ place.0 = ⊎_elim (λ (before : place.0 < active.at.next). absurd (not_kept progress.store.columns.all need.leaf none (is.decoded place.0 need before place.1))) (λ (h : active.at.next ≤ place.0). h) (cases_lt place.0 active.at.next) in
    let late : active.at.done ≤ need.from = ⊎_elim (λ (early : need.from < active.at.done). let before : place.0 < active.at.next = is.given.passed place.0 need place.1 early in absurd (omega arith)) (λ (h : active.at.done ≤ need.from). h) (cases_lt need.from active.at.done) in
    (split_left active, among_left job progress active among, (is.split, is.at, need_read_first nodes job is.split active.at.done need late (is.placed.only need there)))

pub lacked_needed : (nodes : List Node) (job : Job) (progress : Progress) → ((active : ActiveSplit) → Among active progress.active.items → IsStarted nodes job progress.store.columns progress.reads.wanted progress.wholes active) → (segment : ℕ) → IsLacked progress segment → IsReadByRest nodes job (standing_of progress) segment
lacked_needed nodes job progress are segment (active, among, (need, there, is, none)) = segment_left nodes job (standing_of progress) (read_of need) segment is (lacked_left nodes job progress active (are active among) among need there none)

-- ---- splits to come

some_counted : (bits : List Bool) (place : ℕ) → slice_get bits place ≡ Some true → true_count bits ≡ 0 → ⊥
some_counted [] place at none = cc
some_counted (true ∷ bits) place at none = omega (arith, none, true_first bits)
some_counted (false ∷ bits) zero at none = cc
some_counted (false ∷ bits) (suc place) at none = some_counted bits place at (sym (false_first bits) ∙ none)

-- a split that selects a row is numbered
numbered : (splits : List Split) (k number : ℕ) (split : Split) → slice_get splits number ≡ Some split → (true_count split.mask ≡ 0 → ⊥) → Among (k + number) (numbers_from k splits)
numbered [] k number split at some = absurd cc
numbered (first ∷ splits) k zero split at some = by (true_count first.mask == 0) refl
  where
    by : (b : Bool) → (true_count first.mask == 0) ≡ b → Among (k + 0) (if b then numbers_from (k + 1) splits else k ∷ numbers_from (k + 1) splits)
    by true is =
        let same : first ≡ split = cc in
        absurd (some (subst (λ (s : Split). true_count s.mask ≡ 0) same (eqb-true (true_count first.mask) 0 is)))
    by false is = inl (omega arith)
numbered (first ∷ splits) k (suc number) split at some = by (true_count first.mask == 0) (numbered splits (k + 1) number split at some)
  where
    next : Among (k + 1 + number) (numbers_from (k + 1) splits) → Among (k + suc number) (numbers_from (k + 1) splits)
    next among =
        let e : k + 1 + number ≡ k + suc number = omega arith in
        subst (λ (n : ℕ). Among n (numbers_from (k + 1) splits)) e among

    by : (b : Bool) → Among (k + 1 + number) (numbers_from (k + 1) splits) → Among (k + suc number) (if b then numbers_from (k + 1) splits else k ∷ numbers_from (k + 1) splits)
    by true among = next among
    by false among = inr (next among)

-- and none in front of the first
pub numbers_behind : (splits : List Split) (k n : ℕ) → Among n (numbers_from k splits) → k ≤ n
numbers_behind [] k n none = absurd none
numbers_behind (split ∷ splits) k n among = by (true_count split.mask == 0) among (λ more. numbers_behind splits (k + 1) n more)
  where
    by : (b : Bool) → Among n (if b then numbers_from (k + 1) splits else k ∷ numbers_from (k + 1) splits) → (Among n (numbers_from (k + 1) splits) → k + 1 ≤ n) → k ≤ n
    by true more rest = let less = rest more in omega arith
    by false (inl e) rest = omega arith
    by false (inr more) rest = let less = rest more in omega arith

-- a split that selects a row, and is not in front of the next one, is left
pub later_left : (job : Job) (standing : Standing) (number : ℕ) (split : Split) → standing.next ≤ number → slice_get job.splits.items number ≡ Some split → (true_count split.mask ≡ 0 → ⊥) → Among (none_given number) (left_of job standing)
later_left job standing number split behind at some =
    let splits = drop standing.next job.splits.items in
    let e : standing.next + (number - standing.next) ≡ number = omega arith in
    let got : slice_get splits (number - standing.next) ≡ Some split = got_dropped job.splits.items standing.next (number - standing.next) ∙ ap (slice_get job.splits.items) e ∙ at in
    let F : ℕ → Type 0 = λ n. Among n (numbers_from standing.next splits) in
    among_back (none_given number) standing.started (map none_given (numbers_from standing.next splits)) (among_mapped none_given number (numbers_from standing.next splits) (subst F e (numbered splits standing.next (number - standing.next) split got some)))

later_reads_left : (nodes : List Node) (job : Job) (standing : Standing) (reads : List SplitRead) → AreReadsOfSplits nodes job reads → (one : SplitRead) → Among one reads → standing.next ≤ one.number → IsReadLeft nodes job standing one.read
later_reads_left nodes job standing reads are one among behind = by (are.only one among)
  where
    by : (split : Split) × (slice_get job.splits.items one.number ≡ Some split) × ReadsFor nodes job split one.read → IsReadLeft nodes job standing one.read
    by (split, at, (place, chosen, v)) = (none_given one.number, later_left job standing one.number split behind at (some_counted split.mask place chosen), (split, at, row_left (RowReads nodes job one.read) split.rows.start split.mask 0 place (omega arith) chosen v))

-- a segment that a split to come reads
pub later_needed : (nodes : List Node) (job : Job) (standing : Standing) (reads : List SplitRead) → AreReadsOfSplits nodes job reads → (segment : ℕ) → SegmentReadFrom segment standing.next reads → IsReadByRest nodes job standing segment
later_needed nodes job standing reads are segment (one, among, is, behind) = segment_left nodes job standing one.read segment is (later_reads_left nodes job standing reads are one among behind)

-- ---- what is left is ahead

-- Each started split has the needs of its split, and each of them counts as open whose last row is left.
pub record AreCountedOpen (nodes : List Node) (job : Job) (actives : List ActiveSplit) : Type 0 where
  pub placed : (active : ActiveSplit) → Among active actives → (split : Split) × (slice_get job.splits.items active.split ≡ Some split) × ArePlaced nodes job.given job.plan split.rows.start split.mask active.needs.items
  pub all : (active : ActiveSplit) (need : PlacedRead) → Among active actives → Among need active.needs.items → active.at.done ≤ need.last → Among need active.rest

pub actives_open : (nodes : List Node) (job : Job) (progress : Progress) → ((active : ActiveSplit) → Among active progress.active.items → IsActive nodes job progress.store.columns progress.reads.wanted progress.wholes active) → AreCountedOpen nodes job progress.active.items
actives_open nodes job progress are = record {
  placed = λ active among. let is = (are active among).started in (is.split, is.at, is.placed);
  all = λ active need among there late. (are active among).rest.all need there late;
}

-- an open need of a started split is it, or a split to come reads it
abbrev IsAhead : List LeafRead → List SplitRead → ℕ → ℕ → LeafRead → Type 0
IsAhead still later next splits read = Among read still ⊎ ((next < splits) × ((number : ℕ) × (next ≤ number) × Among (record { number = number; read = read }) later))

left_ahead : (nodes : List Node) (job : Job) (progress : Progress) → AreCountedOpen nodes job progress.active.items → (later : List SplitRead) → (progress.next < length job.splits.items → AreReadsOfSplits nodes job later) → (read : LeafRead) → IsReadLeft nodes job (standing_of progress) read → IsAhead (still_reads progress.active.items) later progress.next (length job.splits.items) read
left_ahead nodes job progress open_are later are read (s, among, (split, at, reads)) = ⊎_elim (λ (m : Among s (map split_left progress.active.items)). inl (started (mapped_from split_left s progress.active.items m))) (λ (m : Among s (map none_given (numbers_from progress.next (drop progress.next job.splits.items)))). inr (to_come (mapped_from none_given s (numbers_from progress.next (drop progress.next job.splits.items)) m))) (among_split s (map split_left progress.active.items) (map none_given (numbers_from progress.next (drop progress.next job.splits.items))) among)
  where
    started : (active : ActiveSplit) × Among active progress.active.items × (split_left active ≡ s) → Among read (still_reads progress.active.items)
    started (active, m, e) =
        let own = open_are.placed active m in
        let same : own.0 ≡ split = same_Some own.0 split (sym own.1 ∙ ap (λ (x : SplitLeft). slice_get job.splits.items x.number) e ∙ at) in
        let G : SplitLeft → Type 0 = λ x. ReadsFor nodes job (piece_of split x.given (length split.mask)) read in
        let R : Split → Type 0 = λ x. ReadsFor nodes job (piece_of x active.at.done (length x.mask)) read in
        let here : R own.0 = subst R (sym same) (subst G (sym e) reads) in
        one_of_all (map open_reads progress.active.items) (open_reads active) read (among_mapped open_reads active progress.active.items m) (read_of_rest nodes job own.0 active.needs.items active.rest active.at.done read own.2 (λ need there late. open_are.all active need m there late) here)

    to_come : (number : ℕ) × Among number (numbers_from progress.next (drop progress.next job.splits.items)) × (none_given number ≡ s) → (progress.next < length job.splits.items) × ((number : ℕ) × (progress.next ≤ number) × Among (record { number = number; read = read }) later)
    to_come (number, m, e) =
        let behind : progress.next ≤ number = numbers_behind (drop progress.next job.splits.items) progress.next number m in
        let own : slice_get job.splits.items number ≡ Some split = ap (λ (x : SplitLeft). slice_get job.splits.items x.number) e ∙ at in
        let less : number < length job.splits.items = slice_get_within job.splits.items number split own in
        let next : progress.next < length job.splits.items = omega arith in
        let G : SplitLeft → Type 0 = λ x. ReadsFor nodes job (piece_of split x.given (length split.mask)) read in
        let row = left_row (RowReads nodes job read) split.rows.start split.mask 0 (subst G (sym e) reads) in
        (next, (number, behind, (are next).all number split read own (row.0, row.2, row.3)))

-- a leaf that rows read that are left, is ahead
pub leaf_ahead : (nodes : List Node) (job : Job) (progress : Progress) → AreCountedOpen nodes job progress.active.items → (later : List SplitRead) → (progress.next < length job.splits.items → AreReadsOfSplits nodes job later) → (leaf : ℕ) → LeafIsNeeded nodes job (standing_of progress) leaf → LeafIsAhead (still_reads progress.active.items) later progress.next (length job.splits.items) leaf
leaf_ahead nodes job progress open_are later are leaf (s, among, (split, at, (read, is, reads))) = by (left_ahead nodes job progress open_are later are read (s, among, (split, at, reads)))
  where
    by : IsAhead (still_reads progress.active.items) later progress.next (length job.splits.items) read → LeafIsAhead (still_reads progress.active.items) later progress.next (length job.splits.items) leaf
    by (inl m) = inl (read, m, is)
    by (inr (less, (number, behind, m))) = inr (less, (record { number = number; read = read }, m, is, behind))

-- and so is a segment
pub segment_ahead : (nodes : List Node) (job : Job) (progress : Progress) → AreCountedOpen nodes job progress.active.items → (later : List SplitRead) → (progress.next < length job.splits.items → AreReadsOfSplits nodes job later) → (segment : ℕ) → IsReadByRest nodes job (standing_of progress) segment → SegmentIsAhead (still_reads progress.active.items) later progress.next (length job.splits.items) segment
segment_ahead nodes job progress open_are later are segment (s, among, (split, at, (read, is, reads))) = by (left_ahead nodes job progress open_are later are read (s, among, (split, at, reads)))
  where
    by : IsAhead (still_reads progress.active.items) later progress.next (length job.splits.items) read → SegmentIsAhead (still_reads progress.active.items) later progress.next (length job.splits.items) segment
    by (inl m) = inl (read, m, is)
    by (inr (less, (number, behind, m))) = inr (less, (record { number = number; read = read }, m, is, behind))

-- ---- what is noted is what is ahead

pub needed_by : (nodes : List Node) (job : Job) (progress : Progress) (keeps : KeepsNeeded nodes job progress) → progress.needed.noted ≡ true → (progress.next < length job.splits.items → 0 < progress.next) → IsNeededBy progress.needed (still_reads progress.active.items) keeps.later progress.next (length job.splits.items)
needed_by nodes job progress keeps noted begun = record {
  tallies = keeps.tallies;
  noted = λ less.
      let first : 0 < progress.next = begun less in
      let more : 1 < length job.splits.items = omega arith in
      (keeps.noted noted more).0;
}

pub noted_reads : (nodes : List Node) (job : Job) (progress : Progress) (keeps : KeepsNeeded nodes job progress) → progress.needed.noted ≡ true → (progress.next < length job.splits.items → 0 < progress.next) → progress.next < length job.splits.items → AreReadsOfSplits nodes job keeps.later
noted_reads nodes job progress keeps noted begun less =
    let first : 0 < progress.next = begun less in
    let more : 1 < length job.splits.items = omega arith in
    (keeps.noted noted more).1
