-- Which leaves the row reads that comes behind those of a scan's splits.
use Rattle.std.specs.Prelude.{◌≡◌, ℕ, ◌+◌, ◌<◌, ◌⊎◌, max, nat_lt, if◌then◌else◌, true, List, [], ◌∷◌, None}
use Rattle.vx_plan.specs.Nodes.{Node}
use Rattle.vx_plan.specs.Plans.{scan_plan, plan_at}
use Rattle.vx_plan.specs.Rules.{node_at}
use Rattle.vx_steps.specs.declared.jobs.Job.{Job}
use Rattle.vx_steps.specs.declared.leavings.Sieve.{Sieve}
use Rattle.vx_steps.specs.declared.splits.Split.{Split}
use Rattle.vx_steps.specs.Places.{place_in}
use Rattle.vx_steps.specs.Visits.{Test, Visits}

-- the row behind those of the split, which is the first of all where it has none
abbrev pub behind_split : Split → ℕ
behind_split split = if nat_lt split.rows.start split.rows.end then split.rows.end else 0

-- the row behind all those of the splits, selected or not
abbrev pub behind_all : List Split → ℕ
behind_all [] = 0
behind_all (split ∷ splits) = max (behind_split split) (behind_all splits)

-- the leaf of that number
abbrev pub IsLeafOf : ℕ → Test
IsLeafOf leaf handed (scan_plan head segment coding) row = head.number ≡ leaf
IsLeafOf leaf handed p row = ⊥

-- the row reads the leaf, and no whole values are handed in for it
abbrev pub RowReads : List Node → ℕ → ℕ → ℕ → Type 0
RowReads nodes n row leaf = Visits (IsLeafOf leaf) None (plan_at nodes n) row

-- one of so many rows does, counted from the start on
abbrev pub RowsRead : List Node → ℕ → ℕ → ℕ → ℕ → Type 0
RowsRead nodes n start count leaf = (place : ℕ) × (place < count) × RowReads nodes n (start + place) leaf

-- There is a row behind those of the splits, and it reads the leaf.
abbrev pub IsReadBehind : List Node → Job → ℕ → Type 0
IsReadBehind nodes job leaf = (behind_all job.splits.items < (node_at nodes job.plan).rows) × RowReads nodes job.plan (behind_all job.splits.items) leaf

-- ---- leaves that are met on the way through a plan

-- the leaf stands in the index no more, and if it is the one that is looked for, that was found
abbrev pub IsMet : Sieve → ℕ → Type 0
IsMet sieve leaf = (place_in sieve.places leaf ≡ None) × (sieve.wanted ≡ leaf → sieve.found ≡ true)

-- Exactly those leaves were met that are so, besides those that were before.
pub record Meets (P : ℕ → Type 0) (old new : Sieve) : Type 0 where
  pub only : (leaf : ℕ) → IsMet new leaf → IsMet old leaf ⊎ P leaf
  pub kept : (leaf : ℕ) → IsMet old leaf → IsMet new leaf
  pub all : (leaf : ℕ) → P leaf → IsMet new leaf
  pub gone : (leaf : ℕ) → place_in old.places leaf ≡ None → place_in new.places leaf ≡ None
  pub wanted : new.wanted ≡ old.wanted
  pub found : old.found ≡ true → new.found ≡ true
