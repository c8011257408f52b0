-- How far a scan is, as its caller sees it, and which rows are left.
use Rattle.std.specs.Prelude.{ℕ, ◌+◌, ◌==◌, if◌then◌else◌, List, [], ◌∷◌, ◌++◌, map, drop}
use Rattle.vx_base.specs.Masks.{true_count}
use Rattle.vx_steps.specs.declared.jobs.ActiveSplit.{ActiveSplit}
use Rattle.vx_steps.specs.declared.jobs.Job.{Job}
use Rattle.vx_steps.specs.declared.jobs.Progress.{Progress}
use Rattle.vx_steps.specs.declared.splits.Split.{Split}
use Rattle.vx_steps.specs.declared.wholes.Wholes.{Wholes}
use Rattle.vx_steps.specs.KeptData.{Kept}
use Rattle.vx_steps.specs.ReadTableData.{ReadsData}

-- a split that is left, and how many of its rows, from the first on, were given
pub record SplitLeft : Type 0 where
  pub number : ℕ
  pub given : ℕ

-- The first split that was not started; those that were started and have a selected row that was not given; the reads, with
-- their bytes; the columns of leaves that were handed in or decoded; the whole values that were made or used; and the
-- segments of which bytes or decoded rows are held for rows to come.
pub record Standing : Type 0 where
  pub next : ℕ
  pub started : List SplitLeft
  pub reads : ReadsData
  pub leaves : List Kept
  pub wholes : Wholes
  pub held : List ℕ

-- the numbers of the splits that select a row, counted from k on
abbrev pub numbers_from : ℕ → List Split → List ℕ
numbers_from k [] = []
numbers_from k (split ∷ splits) = if true_count split.mask == 0 then numbers_from (k + 1) splits else k ∷ numbers_from (k + 1) splits

-- a split of which no row was given
abbrev pub none_given : ℕ → SplitLeft
none_given number = record { number = number; given = 0 }

-- The splits that have a selected row that was not given yet: those that were started, and then those that were not.
abbrev pub left_of : Job → Standing → List SplitLeft
left_of job standing = standing.started ++ map none_given (numbers_from standing.next (drop standing.next job.splits.items))

-- ---- the standing of the code's progress

abbrev pub split_left : ActiveSplit → SplitLeft
split_left active = record { number = active.split; given = active.at.done }

abbrev pub standing_of : Progress → Standing
standing_of progress = record { next = progress.next; started = map split_left progress.active.items; reads = progress.reads; leaves = progress.store.columns.all; wholes = progress.wholes; held = progress.needed.held.held }
