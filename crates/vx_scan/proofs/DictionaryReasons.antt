-- The reasons of a scan that are through takes, by the dictionaries that these were lowered from.
use Rattle.std.proofs.Common.{◌≡◌, ℕ, inl, inr, Some, None, List, [], ◌∷◌, ◌++◌, map, refl, sym, ap, subst}
use Rattle.std.specs.List.{flat_map, AllByRecursion}
use Rattle.vx_base.specs.declared.locations.AskedRange.{AskedRange}
use Rattle.vx_lower.specs.Projected.{Projection}
use Rattle.vx_plan.specs.Plans.{Plan, no_plan, concat_plan, eval_plan, filter_plan, pack_plan, take_plan, share_plan, list_plan, row_idx_plan, scan_plan, zoned_plan, pruning_plan}
use Rattle.vx_rows.specs.Reads.{Way, directly, through, AnyOf}
use Rattle.vx_rows.specs.Renumbered.{way_renumbered}
use Rattle.vx_steps.specs.declared.leaf_reads.LeafRead.{LeafRead}
use Rattle.vx_steps.specs.Below.{StandsIn}
use Rattle.vx_steps.specs.Given.{no_given}
use Rattle.vx_steps.proofs.Standing.{Tells, visit_stands}
use Rattle.vx_drive.specs.Fetched.{AreDistinct}
use Rattle.vx_drive.proofs.Distinct.{distinct_by}
use Rattle.vx_chunks.specs.Ways.{IsReadThrough, ReadsBy}
use Rattle.vx_workers.specs.Reasons.{Reason, read_for, taken_by, take_and_segment}
use Rattle.vx_scan.specs.Answer.{FileScan}
use Rattle.vx_scan.specs.PlanTexts.{held_tree}
use Rattle.vx_scan.specs.FilePlans.{node_of, IsTakeAs, TakesAreApart}
use Rattle.vx_scan.specs.Scanned.{AreReasonsFor, dictionary_and_segment}

-- ---- a take that a leaf is read through stands in the plan

take_seen : (n : ℕ) (read : LeafRead) → Tells (IsReadThrough n read) (IsTakeAs n)
take_seen n read None p row v = absurd v
take_seen n read (Some given) (no_plan head) row v = absurd v
take_seen n read (Some given) (concat_plan head children) row v = absurd v
take_seen n read (Some given) (eval_plan head e child) row v = absurd v
take_seen n read (Some given) (filter_plan head child) row v = absurd v
take_seen n read (Some given) (pack_plan head children validity) row v = absurd v
take_seen n read (Some given) (take_plan head codes values) row v = v.0
take_seen n read (Some given) (share_plan head child) row v = v.0
take_seen n read (Some given) (list_plan head elements offsets validity) row v = absurd v
take_seen n read (Some given) (row_idx_plan head) row v = absurd v
take_seen n read (Some given) (scan_plan head segment coding) row v = absurd v
take_seen n read (Some given) (zoned_plan head zones content table) row v = absurd v
take_seen n read (Some given) (pruning_plan head pruning table) row v = absurd v

any_stands : (way : Way) (read : LeafRead) (p : Plan) (take : ℕ) → way ≡ through take → (rows : List ℕ) → AnyOf (ReadsBy way read p) rows → StandsIn (IsTakeAs take) p
any_stands way read p take is [] any = absurd any
any_stands way read p take is (row ∷ rows) (inl here) =
    visit_stands (IsReadThrough take read) (IsTakeAs take) (take_seen take read) (Some no_given) p row (subst (λ (w : Way). ReadsBy w read p row) is here)
any_stands way read p take is (row ∷ rows) (inr later) = any_stands way read p take is rows later

-- ---- the takes of reasons

-- the take of the pair stands in the plan of the projection's tree
abbrev HasTake : Projection → ℕ × ℕ → Type 0
HasTake p pair = StandsIn (IsTakeAs pair.0) (held_tree p)

each_by : (P : ℕ × ℕ → Type 0) (way : Way) (segment : ℕ) (pairs : List (ℕ × ℕ)) → ((take : ℕ) → way ≡ through take → P (take, segment)) → AllByRecursion P pairs → AllByRecursion P (taken_by way segment ++ pairs)
each_by P directly segment pairs is each = each
each_by P (through take) segment pairs is each = (is take refl, each)

each_has : (scan : FileScan) (reasons : List Reason) (ranges : List AskedRange) → AreReasonsFor scan reasons ranges → AllByRecursion (HasTake scan.projection) (flat_map take_and_segment reasons)
each_has scan [] [] are = tt
each_has scan [] (range ∷ ranges) are = absurd are
each_has scan (reason ∷ reasons) [] are = absurd are
each_has scan (reason ∷ reasons) (range ∷ ranges) are =
    each_by (HasTake scan.projection) reason.way reason.segment (flat_map take_and_segment reasons)
    (λ take is. any_stands reason.way (read_for reason) (held_tree scan.projection) take is are.0.rows are.0.reads)
    (each_has scan reasons ranges are.1)

-- ---- their dictionaries

abbrev in_tree : Projection → ℕ × ℕ → ℕ × ℕ
in_tree p pair = (node_of p pair.0, pair.1)

renamed_by : (p : Projection) (way : Way) (segment : ℕ) (ones twos : List (ℕ × ℕ)) → ones ≡ map (in_tree p) twos → taken_by (way_renumbered (node_of p) way) segment ++ ones ≡ map (in_tree p) (taken_by way segment ++ twos)
renamed_by p directly segment ones twos same = same
renamed_by p (through take) segment ones twos same = ap (λ (pairs : List (ℕ × ℕ)). (node_of p take, segment) ∷ pairs) same

renamed : (p : Projection) (reasons : List Reason) → flat_map (dictionary_and_segment p) reasons ≡ map (in_tree p) (flat_map take_and_segment reasons)
renamed p [] = refl
renamed p (reason ∷ reasons) = renamed_by p reason.way reason.segment (flat_map (dictionary_and_segment p) reasons) (flat_map take_and_segment reasons) (renamed p reasons)

same_pairs : (pairs : List (ℕ × ℕ)) → map (λ (pair : ℕ × ℕ). pair) pairs ≡ pairs
same_pairs [] = refl
same_pairs (pair ∷ pairs) = ap (λ (more : List (ℕ × ℕ)). pair ∷ more) (same_pairs pairs)

-- takes of one dictionary are one
same_take : (p : Projection) → TakesAreApart p → (one two : ℕ × ℕ) → HasTake p one → HasTake p two → in_tree p one ≡ in_tree p two → one ≡ two
same_take p apart one two first second same =
    let take : one.0 ≡ two.0 = apart one.0 two.0 first second (ap (λ (pair : ℕ × ℕ). pair.0) same) in
    let segment : one.1 ≡ two.1 = ap (λ (pair : ℕ × ℕ). pair.1) same in
    λ i. (take i, segment i)

pub once_a_dictionary : (scan : FileScan) → TakesAreApart scan.projection → (reasons : List Reason) (ranges : List AskedRange) → AreReasonsFor scan reasons ranges → AreDistinct (flat_map take_and_segment reasons) → AreDistinct (flat_map (dictionary_and_segment scan.projection) reasons)
once_a_dictionary scan apart reasons ranges are once =
    let pairs : List (ℕ × ℕ) = flat_map take_and_segment reasons in
    subst AreDistinct (sym (renamed scan.projection reasons))
    (distinct_by (HasTake scan.projection) (in_tree scan.projection) (λ (pair : ℕ × ℕ). pair) (same_take scan.projection apart) pairs (each_has scan reasons ranges are) (subst AreDistinct (sym (same_pairs pairs)) once))
