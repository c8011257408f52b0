-- What a table of marks has where numbers stand for them.
use Rattle.std.proofs.Common.{◌≡◌, ℕ, ◌==◌, Bool, true, false, refl, ap, ◌∙◌}
use Rattle.std.specs.Prelude.{if◌then◌else◌}
use Rattle.vx_steps.specs.declared.plan_marks.PlanMarks.{PlanMarks}
use Rattle.vx_steps.specs.NumberTable.{number_in, KeepsAll, KeepsReach, SetsNumber}
use Rattle.vx_steps.specs.PlanMarks.{is_marked, KeepsMarks, Marks}

pub marked_by : (table : PlanMarks) (n number : ℕ) → number ≡ number_in table.numbers n → (number == 1) ≡ is_marked table n
unfolding is_marked
marked_by table n number is = ap (λ (k : ℕ). k == 1) is

pub keeps_marks : (old new : PlanMarks) → KeepsAll old.numbers new.numbers → KeepsReach old.numbers new.numbers → KeepsMarks old new
unfolding is_marked
keeps_marks old new keeps wide = record { same = λ n. ap (λ (k : ℕ). k == 1) (keeps n); wide = wide }

one_marked : (b : Bool) (other : ℕ) → ((if b then 1 else other) == 1) ≡ (if b then true else other == 1)
one_marked true other = refl
one_marked false other = refl

pub marks_plan : (plan : ℕ) (old new : PlanMarks) → SetsNumber plan 1 old.numbers new.numbers → KeepsReach old.numbers new.numbers → Marks plan old new
unfolding is_marked
marks_plan plan old new sets wide = record { marked = λ n. ap (λ (k : ℕ). k == 1) (sets n) ∙ one_marked (plan == n) (number_in old.numbers n); wide = wide }
