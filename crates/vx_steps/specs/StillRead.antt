-- How many of some reads name a leaf, and how many a segment.
use Rattle.std.specs.Prelude.{◌≡◌, ℕ, ◌+◌, ◌-◌, ◌==◌, if◌then◌else◌, List, [], ◌∷◌, ◌++◌, count_by}
use Rattle.std.specs.BTreeMap.{BTreeMap}
use Rattle.vx_steps.specs.declared.leaf_reads.LeafRead.{LeafRead}
use Rattle.vx_steps.specs.declared.number_table.NumberTable.{NumberTable}
use Rattle.vx_steps.specs.declared.still_read.StillRead.{StillRead}
use Rattle.vx_steps.specs.Counts.{count_in}
use Rattle.vx_steps.specs.Needs.{Among}
use Rattle.vx_steps.specs.NumberTable.{number_in}

-- how many of the reads are of the leaf, and how many of them name the segment
abbrev pub leaf_count : ℕ → List LeafRead → ℕ
leaf_count leaf reads = count_by (λ (read : LeafRead). read.leaf == leaf) reads

abbrev pub segment_count : ℕ → List LeafRead → ℕ
segment_count segment reads = count_by (λ (read : LeafRead). read.segment == segment) reads

-- The tallies are those of the reads.
pub record IsTallyOf (still : StillRead) (reads : List LeafRead) : Type 0 where
  pub leaves : (leaf : ℕ) → number_in still.leaves leaf ≡ leaf_count leaf reads
  pub segments : (segment : ℕ) → count_in still.segments segment ≡ segment_count segment reads

-- some read is of the leaf
abbrev pub LeafIsRead : ℕ → List LeafRead → Type 0
LeafIsRead leaf reads = (read : LeafRead) × Among read reads × (read.leaf ≡ leaf)

-- some read names the segment
abbrev pub SegmentIsRead : ℕ → List LeafRead → Type 0
SegmentIsRead segment reads = (read : LeafRead) × Among read reads × (read.segment ≡ segment)

-- whatever reads with this one the tallies were those of, they are those of the others
abbrev pub TalliesOneLess : LeafRead → StillRead → StillRead → Type 0
TalliesOneLess read old new = (before behind : List LeafRead) → IsTallyOf old (before ++ read ∷ behind) → IsTallyOf new (before ++ behind)

-- the reads of several splits, one after another
abbrev pub all_reads : List (List LeafRead) → List LeafRead
all_reads [] = []
all_reads (reads ∷ splits) = reads ++ all_reads splits

-- ---- counts

-- the leaf is counted once more, and each other as often as it was
abbrev pub CountsLeaf : ℕ → NumberTable → NumberTable → Type 0
CountsLeaf leaf old new = (n : ℕ) → number_in new n ≡ (if leaf == n then number_in old n + 1 else number_in old n)

-- the leaves of the reads are counted, besides what was
abbrev pub CountsLeaves : List LeafRead → NumberTable → NumberTable → Type 0
CountsLeaves reads old new = (leaf : ℕ) → number_in new leaf ≡ number_in old leaf + leaf_count leaf reads

-- the key is counted so many times more, and each other as often as it was
abbrev pub CountsMore : ℕ → ℕ → BTreeMap ℕ ℕ → BTreeMap ℕ ℕ → Type 0
CountsMore key more old new = (k : ℕ) → count_in new k ≡ (if key == k then count_in old k + more else count_in old k)

-- the segments of the reads are counted, besides what was
abbrev pub CountsSegments : List LeafRead → BTreeMap ℕ ℕ → BTreeMap ℕ ℕ → Type 0
CountsSegments reads old new = (segment : ℕ) → count_in new segment ≡ count_in old segment + segment_count segment reads

-- the key has one less, where it had any, and each other key what it had
abbrev pub CountsOneLess : ℕ → BTreeMap ℕ ℕ → BTreeMap ℕ ℕ → Type 0
CountsOneLess key old new = (k : ℕ) → count_in new k ≡ (if key == k then count_in old k - 1 else count_in old k)
