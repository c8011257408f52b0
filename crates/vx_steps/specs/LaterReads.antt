-- Up to which split leaves and segments are read.
use Rattle.std.specs.Prelude.{◌≡◌, ℕ, Bool, ◌+◌, ◌≤◌, ◌==◌, if◌then◌else◌, max, List, [], ◌∷◌}
use Rattle.std.specs.BTreeMap.{BTreeMap}
use Rattle.vx_steps.specs.declared.leaf_reads.LeafRead.{LeafRead}
use Rattle.vx_steps.specs.declared.later_reads.LaterReads.{LaterReads}
use Rattle.vx_steps.specs.Counts.{count_in}
use Rattle.vx_steps.specs.Needs.{Among}
use Rattle.vx_steps.specs.NumberTable.{number_in}

-- what a split reads, by its number
pub record SplitRead : Type 0 where
  pub number : ℕ
  pub read : LeafRead

-- how many splits come up to the last that has a read which passes the test, with that split
abbrev pub until_by : (SplitRead → Bool) → List SplitRead → ℕ
until_by test [] = 0
until_by test (read ∷ reads) = if test read then max (until_by test reads) (read.number + 1) else until_by test reads

-- up to the last that reads the leaf, and up to the last that reads the segment
abbrev pub leaf_until : ℕ → List SplitRead → ℕ
leaf_until leaf reads = until_by (λ (read : SplitRead). read.read.leaf == leaf) reads

abbrev pub segment_until : ℕ → List SplitRead → ℕ
segment_until segment reads = until_by (λ (read : SplitRead). read.read.segment == segment) reads

-- What is noted is so by these reads.
pub record IsNotedOf (later : LaterReads) (reads : List SplitRead) : Type 0 where
  pub leaves : (leaf : ℕ) → number_in later.leaves leaf ≡ leaf_until leaf reads
  pub segments : (segment : ℕ) → count_in later.segments segment ≡ segment_until segment reads

-- a split of that number or a later one reads the leaf
abbrev pub LeafReadFrom : ℕ → ℕ → List SplitRead → Type 0
LeafReadFrom leaf next reads = (read : SplitRead) × Among read reads × (read.read.leaf ≡ leaf) × (next ≤ read.number)

-- or the segment
abbrev pub SegmentReadFrom : ℕ → ℕ → List SplitRead → Type 0
SegmentReadFrom segment next reads = (read : SplitRead) × Among read reads × (read.read.segment ≡ segment) × (next ≤ read.number)

-- whatever reads it was so by, it is so by these and by one more
abbrev pub NotesOneMore : SplitRead → LaterReads → LaterReads → Type 0
NotesOneMore read old new = (reads : List SplitRead) → IsNotedOf old reads → IsNotedOf new (read ∷ reads)

-- whatever reads it was so by, it still is
abbrev pub KeepsNotes : LaterReads → LaterReads → Type 0
KeepsNotes old new = (reads : List SplitRead) → IsNotedOf old reads → IsNotedOf new reads

-- ---- one number

-- the number of the key reaches behind the split, and each other key's is what it was
abbrev pub Reaches : ℕ → ℕ → BTreeMap ℕ ℕ → BTreeMap ℕ ℕ → Type 0
Reaches key split old new = (k : ℕ) → count_in new k ≡ (if key == k then max (count_in old k) (split + 1) else count_in old k)

-- each key has the number that it had
abbrev pub KeepsNumbers : BTreeMap ℕ ℕ → BTreeMap ℕ ℕ → Type 0
KeepsNumbers old new = (k : ℕ) → count_in new k ≡ count_in old k
