-- The outputs of a split so far: the rows from its first one on, up to a place.
use Rattle.std.proofs.Common.{◌≡◌, ℕ, zero, suc, ◌+◌, ◌-◌, ◌<◌, ◌≤◌, ◌⊎◌, inl, inr, ⊎_elim, Bool, true, false, List, [], ◌∷◌, ◌++◌, Option, Some, None, length, map, take, drop, refl, sym, ap, ◌∙◌, subst, arith, take-append-drop, append-nil}
use Rattle.std.specs.Prelude.{if◌then◌else◌, ◌==◌, slice_range}
use Rattle.std.specs.List.{slice_get, slice_set, remove}
use Rattle.std.proofs.lemmas.Bool.{cases_lt, eqb-true}
use Rattle.std.proofs.lemmas.Grind.{flat_map-append}
use Rattle.std.proofs.lemmas.List.{length-append, map-append}
use Rattle.std.proofs.lemmas.Option.{slice_get_within}
use Rattle.vx_rows.specs.SegmentLeaves.{Bytes, leaves_of}
use Rattle.vx_layout.specs.Rows.{segment_bytes}
use Rattle.vx_plan.specs.Nodes.{Node}
use Rattle.vx_plan.specs.Plans.{plan_at}
use Rattle.vx_plan.specs.Rules.{node_at}
use Rattle.vx_steps.specs.declared.jobs.Job.{Job}
use Rattle.vx_steps.specs.declared.leaf_reads.LeafRead.{LeafRead}
use Rattle.vx_steps.specs.declared.splits.Split.{Split}
use Rattle.vx_steps.specs.declared.wholes.Wholes.{Wholes}
use Rattle.vx_steps.specs.Given.{handed_by, row_value}
use Rattle.vx_steps.specs.Jobs.{IsTold, KeepsColumns, KeepsWholes}
use Rattle.vx_steps.specs.Kept.{kept_at, IsKept}
use Rattle.vx_steps.specs.KeptData.{Kept}
use Rattle.vx_steps.specs.Pieces.{piece_of}
use Rattle.vx_steps.specs.Rows.{rows_of, AreOf, SelectsNone}
use Rattle.vx_steps.specs.ScanData.{ScanData, IsScanOf}
use Rattle.vx_steps.specs.Standings.{none_given, SplitLeft}
use Rattle.vx_steps.specs.Steps.{IsLeftAt, IsSplitOutput}
use Rattle.vx_steps.specs.Turns.{AreLeavesKept, ReadsFor}
use Rattle.vx_steps.specs.Visits.{Visits, IsLeafRead}
use Rattle.vx_steps.specs.Wholes.{AreThere, IsThere}
use Rattle.vx_steps.proofs.MaskRanges.{all_pushed, count_more, range_is}
use Rattle.vx_steps.proofs.SelectedRows.{length_taken, rows_append, rows_count, rows_none}
use Rattle.vx_steps.proofs.Selecting.{got_dropped, got_taken, range_got, taken_got}
use Rattle.vx_steps.proofs.SplitTakes.{none_selected, only_one}
use Rattle.vx_drive.specs.Continues.{ComesOut, splits_left}
use Rattle.vx_drive.specs.Gathered.{Gathers, values_in}
use Rattle.vx_drive.specs.Runs.{WhereScanned}
use Rattle.vx_drive.specs.Starts.{IsUnread, split_of}
use Rattle.vx_drive.proofs.Running.{KeptSoFar, wholes_same}
use Rattle.vx_base.specs.Columns.{ColumnData}
use Rattle.vx_base.specs.Data.{Datum}
use Rattle.vx_base.specs.Masks.{true_count}
use Rattle.vx_base.specs.Sources.{SourceState}
use Rattle.vx_base.specs.declared.locations.SegmentLocation.{SegmentLocation}

-- the rows of a split in front of a place
abbrev pub front_of : Split → ℕ → Split
front_of split given = record { rows = split.rows; mask = take given split.mask }

-- The split of a scan of one is left from that row on; or it is left no more, and none of the rows from there on is selected.
abbrev pub IsLeftFrom : ScanData → ScanData → ℕ → Type 0
IsLeftFrom start scan given = (splits_left scan ≡ record { number = 0; given = given } ∷ []) ⊎ ((splits_left scan ≡ []) × SelectsNone (drop given (split_of start).mask))

pub record GatheredSoFar (locations : List SegmentLocation) (start : ScanData) (before : SourceState) (scan : ScanData) (outputs : List ColumnData) : Type 0 where
  pub given : ℕ
  pub within : given ≤ length (split_of start).mask
  pub gathers : Gathers locations start scan before (front_of (split_of start) given) outputs
  pub left : IsLeftFrom start scan given

-- ---- before the first one

left_first : (start : ScanData) → IsUnread start → IsLeftFrom start start 0
left_first start unread = by_test (true_count (split_of start).mask == 0) refl unread.left
  where
    by_test : (none : Bool) → (true_count (split_of start).mask == 0) ≡ none → splits_left start ≡ map none_given (if none then [] else 0 ∷ []) → IsLeftFrom start start 0
    by_test true same left = inr (left, λ place at. none_selected (split_of start).mask place (eqb-true (true_count (split_of start).mask) 0 same) at)
    by_test false same left = inl left

pub gathered_none : (locations : List SegmentLocation) (start : ScanData) (before : SourceState) → IsUnread start → GatheredSoFar locations start before start []
gathered_none locations start before unread = record {
  given = 0;
  within = omega arith;
  gathers = record {
    dtype = tt;
    count = refl;
    right = λ file is held. refl;
    there = λ some. absurd (some refl);
    leaves = λ read reads. let none = reads.1 in absurd cc;
  };
  left = left_first start unread;
}

-- ---- what is there stays there

kept_on : (n : ℕ) (old new : List Kept) → KeepsColumns old new → IsKept old n → IsKept new n
kept_on n old new keeps (column, at) = (column, keeps n column at)

there_on : (nodes : List Node) (job : Job) (given : List Kept) (n : ℕ) (old new : Wholes) → KeepsWholes nodes job old new → IsThere given old n → IsThere given new n
there_on nodes job given n old new keeps (inl (is, used)) = inl (is, kept_on n old.used new.used keeps.used used)
there_on nodes job given n old new keeps (inr (none, made)) = inr (none, kept_on n old.made new.made keeps.made made)

pub gathers_on : (locations : List SegmentLocation) (start old new : ScanData) (before : SourceState) (split : Split) (outputs : List ColumnData) → KeepsWholes old.nodes old.job old.progress.wholes new.progress.wholes → KeepsColumns old.progress.leaves new.progress.leaves
    → Gathers locations start old before split outputs → Gathers locations start new before split outputs
gathers_on locations start old new before split outputs wholes leaves gathers = record {
  dtype = gathers.dtype;
  count = gathers.count;
  right = gathers.right;
  there = λ some n asks. there_on old.nodes old.job start.job.given n old.progress.wholes new.progress.wholes wholes (gathers.there some n asks);
  leaves = λ read reads. kept_on read.leaf old.progress.leaves new.progress.leaves leaves (gathers.leaves read reads);
}

-- where no output came
pub gathered_on : (locations : List SegmentLocation) (start old new : ScanData) (before : SourceState) (outputs : List ColumnData) → KeepsWholes old.nodes old.job old.progress.wholes new.progress.wholes → KeepsColumns old.progress.leaves new.progress.leaves → splits_left new ≡ splits_left old
    → GatheredSoFar locations start before old outputs → GatheredSoFar locations start before new outputs
gathered_on locations start old new before outputs wholes leaves same gathered = record {
  given = gathered.given;
  within = gathered.within;
  gathers = gathers_on locations start old new before (front_of (split_of start) gathered.given) outputs wholes leaves gathered.gathers;
  left = subst (λ (left : List SplitLeft). (left ≡ record { number = 0; given = gathered.given } ∷ []) ⊎ ((left ≡ []) × SelectsNone (drop gathered.given (split_of start).mask))) (sym same) gathered.left;
}

pub gathered_same : (locations : List SegmentLocation) (start old new : ScanData) (before : SourceState) (outputs : List ColumnData) → new.progress.wholes ≡ old.progress.wholes → new.progress.leaves ≡ old.progress.leaves → splits_left new ≡ splits_left old
    → GatheredSoFar locations start before old outputs → GatheredSoFar locations start before new outputs
gathered_same locations start old new before outputs wholes leaves left gathered =
    gathered_on locations start old new before outputs (subst (KeepsWholes old.nodes old.job old.progress.wholes) (sym wholes) (wholes_same old.nodes old.job old.progress.wholes))
    (λ n found at. subst (λ (ks : List Kept). kept_at ks n ≡ Some found) (sym leaves) at) left gathered

-- ---- one output more

-- the values of the rows in front of a place, and of those from there on
values_then : (f : ℕ → Option Datum) (start : ℕ) (bits more : List Bool) (xs ys : List Datum) → AreOf f (rows_of start bits) xs → AreOf f (rows_of (start + length bits) more) ys → AreOf f (rows_of start (bits ++ more)) (xs ++ ys)
values_then f start bits more xs ys first second =
    ap (map f) (rows_append start bits more) ∙ map-append f (rows_of start bits) (rows_of (start + length bits) more)
    ∙ ap (λ (vs : List (Option Datum)). vs ++ map f (rows_of (start + length bits) more)) first
    ∙ ap (λ (vs : List (Option Datum)). map Some xs ++ vs) second
    ∙ sym (map-append Some xs ys)

-- where the split of one is left, what is given next is of it
record IsNextOf (start : ScanData) (given : ℕ) (scan : ScanData) (place number from : ℕ) : Type 0 where
  number_is : number ≡ 0
  from_is : from ≡ given
  first : place ≡ 0
  left : splits_left scan ≡ record { number = 0; given = given } ∷ []

abbrev left_or : Option SplitLeft → SplitLeft
left_or None = record { number = 0; given = 0 }
left_or (Some one) = one

next_of : (start scan : ScanData) (given place number from : ℕ) → IsLeftFrom start scan given → slice_get (splits_left scan) place ≡ Some (record { number = number; given = from }) → IsNextOf start given scan place number from
next_of start scan given place number from (inr (none, passed)) at =
    absurd (let both : None ≡ Some (record { number = number; given = from }) = sym (ap (λ (left : List SplitLeft). slice_get left place) none) ∙ at in cc)
next_of start scan given zero number from (inl left) at =
    let both : Some (record { number = 0; given = given }) ≡ Some (record { number = number; given = from }) = sym (ap (λ (ls : List SplitLeft). slice_get ls 0) left) ∙ at in
    let same : record { number = 0; given = given } ≡ record { number = number; given = from } = ap left_or both in
    record {
      number_is = sym (ap (λ (one : SplitLeft). one.number) same);
      from_is = sym (ap (λ (one : SplitLeft). one.given) same);
      first = refl;
      left = left;
    }
next_of start scan given (suc place) number from (inl left) at =
    absurd (let both : None ≡ Some (record { number = number; given = from }) = sym (ap (λ (ls : List SplitLeft). slice_get ls (suc place)) left) ∙ at in cc)

left_next : (start old new : ScanData) (given place number from to : ℕ) → IsNextOf start given old place number from → IsLeftAt (splits_left old) (splits_left new) place number to (length (split_of start).mask) → IsLeftFrom start new to
left_next start old new given place number from to next (inl (less, is)) =
    inl (is ∙ (λ i. slice_set (next.left i) (next.first i) (record { number = next.number_is i; given = to })))
left_next start old new given place number from to next (inr (all, is)) = inr (
  is ∙ (λ i. remove (next.left i) (next.first i)),
  λ k at.
      let here = got_dropped (split_of start).mask to k in
      let within = slice_get_within (split_of start).mask (to + k) true (sym here ∙ at) in
      absurd (omega (arith, within, all)),
)

-- the output of a piece of the scan's split
record IsPieceOut (locations : List SegmentLocation) (start new : ScanData) (before : SourceState) (from to : ℕ) (column : ColumnData) : Type 0 where
  forwards : from ≤ to
  within : to ≤ length (split_of start).mask
  dtype : column.dtype ≡ (node_at start.nodes start.job.plan).dtype
  count : length column.values ≡ true_count (slice_range (split_of start).mask from to)
  right : WhereScanned locations start before (λ bytes.
      AreOf (row_value (leaves_of bytes) (handed_by start.nodes (Some start.job.given)) start.job.offset (plan_at start.nodes start.job.plan)) (rows_of ((split_of start).rows.start + from) (slice_range (split_of start).mask from to)) column.values)
  there : AreThere start.nodes start.job.given new.progress.wholes start.job.plan (split_of start).rows.start (split_of start).mask
  leaves : AreLeavesKept start.nodes start.job (piece_of (split_of start) from to) new.progress.leaves

-- a range in which a row is selected goes forwards
range_forwards : (bits : List Bool) (from to place : ℕ) → slice_get (slice_range bits from to) place ≡ Some true → from ≤ to
range_forwards bits from to place at = by_order (cases_lt to from)
  where
    by_order : (to < from) ⊎ (from ≤ to) → from ≤ to
    by_order (inr least) = least
    by_order (inl less) =
        let none : to - from ≡ 0 = omega (arith, less) in
        absurd (let both : None ≡ Some true = sym (ap (λ (n : ℕ). slice_get (take n (drop from bits)) place) none) ∙ at in cc)

piece_out : (locations : List SegmentLocation) (start old new : ScanData) (before : SourceState) (number : ℕ) (column : ColumnData) → IsUnread start → KeptSoFar locations start before old → (out : ComesOut number column old new) → (out.split ≡ split_of start) × IsPieceOut locations start new before out.from out.to column
piece_out locations start old new before number column unread kept out = (split, by_split out.split split out.within out.some.1 out.output out.there out.leaves)
  where
    at : slice_get start.job.splits.items number ≡ Some out.split
    at = ap (λ (j : Job). slice_get j.splits.items number) (sym kept.job) ∙ out.split_at

    split : out.split ≡ split_of start
    split = only_one start.job.splits.items (split_of start) out.split number unread.splits at

    told_of : (outside : Bytes) → IsScanOf old outside → IsTold start.nodes start.job old.progress outside
    told_of outside is = subst (λ (j : Job). IsTold start.nodes j old.progress outside) kept.job (subst (λ (ns : List Node). IsTold ns old.job old.progress outside) kept.nodes is)

    -- what is said by the table and the job of the scan, by those of its start
    at_start : (F : List Node → Job → Type 0) → F old.nodes old.job → F start.nodes start.job
    at_start F holds = subst (F start.nodes) kept.job (subst (λ (ns : List Node). F ns old.job) kept.nodes holds)

    by_split : (one : Split) → one ≡ split_of start → out.to ≤ length one.mask → slice_get (slice_range one.mask out.from out.to) out.some.0 ≡ Some true → IsSplitOutput old.nodes old.job old.progress new.progress.wholes (piece_of one out.from out.to) column →
        AreThere old.nodes old.job.given new.progress.wholes old.job.plan one.rows.start one.mask → AreLeavesKept old.nodes old.job (piece_of one out.from out.to) new.progress.leaves → IsPieceOut locations start new before out.from out.to column
    by_split one same within some output there leaves =
        let here : IsSplitOutput start.nodes start.job old.progress new.progress.wholes (piece_of (split_of start) out.from out.to) column =
        subst (λ (s : Split). IsSplitOutput start.nodes start.job old.progress new.progress.wholes (piece_of s out.from out.to) column) same
        (at_start (λ nodes job. IsSplitOutput nodes job old.progress new.progress.wholes (piece_of one out.from out.to) column) output) in
        record {
          forwards = range_forwards one.mask out.from out.to out.some.0 some;
          within = subst (λ (s : Split). out.to ≤ length s.mask) same within;
          dtype = here.dtype;
          count = here.count;
          right = λ file is held. here.right (segment_bytes file locations) (told_of (segment_bytes file locations) (kept.told file is held));
          there = subst (λ (s : Split). AreThere start.nodes start.job.given new.progress.wholes start.job.plan s.rows.start s.mask) same (at_start (λ nodes job. AreThere nodes job.given new.progress.wholes job.plan one.rows.start one.mask) there);
          leaves = subst (λ (s : Split). AreLeavesKept start.nodes start.job (piece_of s out.from out.to) new.progress.leaves) same (at_start (λ nodes job. AreLeavesKept nodes job (piece_of one out.from out.to) new.progress.leaves) leaves);
        }

-- a row in front of the second place is in front of the first, or between them
reads_either : (start : ScanData) (split : Split) (from to : ℕ) (read : LeafRead) → from ≤ to → ReadsFor start.nodes start.job (front_of split to) read → ReadsFor start.nodes start.job (front_of split from) read ⊎ ReadsFor start.nodes start.job (piece_of split from to) read
reads_either start split from to read forwards (place, at, visits) = by_order (cases_lt place from) (got_taken split.mask to place true at)
  where
    Reads : ℕ → Type 0
    Reads row = Visits (IsLeafRead read) (handed_by start.nodes (Some start.job.given)) (plan_at start.nodes start.job.plan) row

    by_order : (place < from) ⊎ (from ≤ place) → (place < to) × (slice_get split.mask place ≡ Some true) → ReadsFor start.nodes start.job (front_of split from) read ⊎ ReadsFor start.nodes start.job (piece_of split from to) read
    by_order (inl before) (less, here) = inl (place, taken_got split.mask from place true before here, visits)
    by_order (inr behind) (less, here) =
        let back : from + (place - from) ≡ place = omega (arith, behind) in
        let whole : from + (to - from) ≡ to = omega (arith, forwards) in
        let row : split.rows.start + place ≡ split.rows.start + from + (place - from) = omega (arith, behind) in
        inr (
          place - from,
          ap (λ (end : ℕ). slice_get (slice_range split.mask from end) (place - from)) (sym whole) ∙ range_got split.mask from (to - from) (place - from) true (omega (arith, less, behind)) (ap (slice_get split.mask) back ∙ here),
          subst Reads row visits,
        )

push_values : (outputs : List ColumnData) (column : ColumnData) → values_in (outputs ++ column ∷ []) ≡ values_in outputs ++ column.values
push_values outputs column = flat_map-append (λ (output : ColumnData). output.values) outputs (column ∷ []) ∙ ap (λ (vs : List Datum). values_in outputs ++ vs) (append-nil column.values)

-- the rows in front of the second place are those in front of the first, and those between them
front_then : (bits : List Bool) (from to : ℕ) → from ≤ to → take to bits ≡ take from bits ++ slice_range bits from to
front_then bits from to forwards =
    let whole : from + (to - from) ≡ to = omega (arith, forwards) in
    ap (λ (end : ℕ). take end bits) (sym whole) ∙ range_is bits from (to - from) ∙ ap (λ (end : ℕ). take from bits ++ slice_range bits from end) whole

gathers_more : (locations : List SegmentLocation) (start old new : ScanData) (before : SourceState) (from to : ℕ) (column : ColumnData) (outputs : List ColumnData) → KeepsColumns old.progress.leaves new.progress.leaves → from ≤ length (split_of start).mask
    → Gathers locations start old before (front_of (split_of start) from) outputs → IsPieceOut locations start new before from to column → Gathers locations start new before (front_of (split_of start) to) (outputs ++ column ∷ [])
gathers_more locations start old new before from to column outputs keeps inside gathers piece =
    let mask : List Bool = (split_of start).mask in
    let front = front_then mask from to piece.forwards in
    record {
      dtype = all_pushed (λ (output : ColumnData). output.dtype ≡ (node_at start.nodes start.job.plan).dtype) outputs column gathers.dtype piece.dtype;
      count =
          let whole : from + (to - from) ≡ to = omega (arith, piece.forwards) in
          let size = ap length (push_values outputs column) ∙ length-append (values_in outputs) column.values in
          let more : true_count (take to mask) ≡ true_count (take from mask) + true_count (slice_range mask from to) = subst (λ (end : ℕ). true_count (take end mask) ≡ true_count (take from mask) + true_count (slice_range mask from end)) whole (count_more mask from (to - from)) in
          let ones = gathers.count in
          let twos = piece.count in
          omega (arith, size, more, ones, twos);
      right = λ file is held.
          let f : ℕ → Option Datum = row_value (leaves_of (segment_bytes file locations)) (handed_by start.nodes (Some start.job.given)) start.job.offset (plan_at start.nodes start.job.plan) in
          let long : length (take from mask) ≡ from = length_taken mask from inside in
          subst (λ (bits : List Bool). AreOf f (rows_of (split_of start).rows.start bits) (values_in (outputs ++ column ∷ []))) (sym front)
          (subst (AreOf f (rows_of (split_of start).rows.start (take from mask ++ slice_range mask from to))) (sym (push_values outputs column))
          (values_then f (split_of start).rows.start (take from mask) (slice_range mask from to) (values_in outputs) column.values (gathers.right file is held)
          (subst (λ (n : ℕ). AreOf f (rows_of ((split_of start).rows.start + n) (slice_range mask from to)) column.values) (sym long) (piece.right file is held))));
      there = λ some. piece.there;
      leaves = λ read reads.
          ⊎_elim
          (λ (earlier : ReadsFor start.nodes start.job (front_of (split_of start) from) read). kept_on read.leaf old.progress.leaves new.progress.leaves keeps (gathers.leaves read earlier))
          (λ (now : ReadsFor start.nodes start.job (piece_of (split_of start) from to) read). piece.leaves read now)
          (reads_either start (split_of start) from to read piece.forwards reads);
    }

-- an output more
pub gathered_more : (locations : List SegmentLocation) (start old new : ScanData) (before : SourceState) (number : ℕ) (column : ColumnData) (outputs : List ColumnData) → IsUnread start → KeptSoFar locations start before old → KeepsColumns old.progress.leaves new.progress.leaves
    → ComesOut number column old new → GatheredSoFar locations start before old outputs → GatheredSoFar locations start before new (outputs ++ column ∷ [])
gathered_more locations start old new before number column outputs unread kept keeps out gathered =
    let piece = piece_out locations start old new before number column unread kept out in
    let next = next_of start old gathered.given out.place number out.from gathered.left out.at in
    record {
      given = out.to;
      within = piece.1.within;
      gathers = gathers_more locations start old new before gathered.given out.to column outputs keeps gathered.within gathered.gathers
          (subst (λ (from : ℕ). IsPieceOut locations start new before from out.to column) next.from_is piece.1);
      left = left_next start old new gathered.given out.place number out.from out.to next
          (subst (λ (s : Split). IsLeftAt (splits_left old) (splits_left new) out.place number out.to (length s.mask)) piece.0 out.left);
    }

-- ---- all of them

-- where the rows from a place on are not selected, those in front of it are all
gathers_all : (locations : List SegmentLocation) (start scan : ScanData) (before : SourceState) (given : ℕ) (outputs : List ColumnData) → SelectsNone (drop given (split_of start).mask) → Gathers locations start scan before (front_of (split_of start) given) outputs → Gathers locations start scan before (split_of start) outputs
gathers_all locations start scan before given outputs none gathers =
    let mask : List Bool = (split_of start).mask in
    let both : take given mask ++ drop given mask ≡ mask = take-append-drop given mask in
    let rows : rows_of (split_of start).rows.start (take given mask) ≡ rows_of (split_of start).rows.start mask =
    sym (append-nil (rows_of (split_of start).rows.start (take given mask)))
    ∙ ap (λ (rest : List ℕ). rows_of (split_of start).rows.start (take given mask) ++ rest) (sym (rows_none ((split_of start).rows.start + length (take given mask)) (drop given mask) none))
    ∙ sym (rows_append (split_of start).rows.start (take given mask) (drop given mask)) ∙ ap (rows_of (split_of start).rows.start) both in
    record {
      dtype = gathers.dtype;
      count = gathers.count ∙ sym (rows_count (split_of start).rows.start (take given mask)) ∙ ap length rows ∙ rows_count (split_of start).rows.start mask;
      right = λ file is held.
          subst (λ (rs : List ℕ). AreOf (row_value (leaves_of (segment_bytes file locations)) (handed_by start.nodes (Some start.job.given)) start.job.offset (plan_at start.nodes start.job.plan)) rs (values_in outputs)) rows (gathers.right file is held);
      there = gathers.there;
      leaves = λ read reads. gathers.leaves read (reads.0, taken_before reads.0 reads.1 (cases_lt reads.0 given), reads.2);
    }
  where
    taken_before : (place : ℕ) → slice_get (split_of start).mask place ≡ Some true → (place < given) ⊎ (given ≤ place) → slice_get (take given (split_of start).mask) place ≡ Some true
    taken_before place at (inl before) = taken_got (split_of start).mask given place true before at
    taken_before place at (inr behind) =
        let back : given + (place - given) ≡ place = omega (arith, behind) in
        absurd (none (place - given) (got_dropped (split_of start).mask given (place - given) ∙ ap (slice_get (split_of start).mask) back ∙ at))

pub all_gathered : (locations : List SegmentLocation) (start scan : ScanData) (before : SourceState) (outputs : List ColumnData) → splits_left scan ≡ [] → GatheredSoFar locations start before scan outputs → Gathers locations start scan before (split_of start) outputs
all_gathered locations start scan before outputs none gathered = gathers_all locations start scan before gathered.given outputs (passed gathered.left) gathered.gathers
  where
    passed : IsLeftFrom start scan gathered.given → SelectsNone (drop gathered.given (split_of start).mask)
    passed (inl left) = absurd (let both : record { number = 0; given = gathered.given } ∷ [] ≡ [] = sym left ∙ none in cc)
    passed (inr (left, rest)) = rest
