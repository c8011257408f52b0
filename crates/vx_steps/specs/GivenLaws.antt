-- What values that were used do in place of all that were handed in, and in place of those that the plan reads.
use Rattle.std.specs.Prelude.{◌≡◌, ℕ, ◌+◌, ◌<◌, ◌≤◌, Bool, true, List, [], length, Some}
use Rattle.std.specs.List.{slice_get}
use Rattle.vx_base.specs.Data.{Datum}
use Rattle.vx_rows.specs.Derivations.{Leaves}
use Rattle.vx_picking.specs.Rows.{rows_of, AreOf}
use Rattle.vx_plan.specs.Nodes.{Node}
use Rattle.vx_plan.specs.Plans.{plan_at}
use Rattle.vx_plan.specs.PlanRows.{plan_value}
use Rattle.vx_plan.specs.Rules.{node_at}
use Rattle.vx_plan.specs.Tables.{IsGoodTable}
use Rattle.vx_steps.specs.declared.jobs.Job.{Job}
use Rattle.vx_steps.specs.declared.wholes.Wholes.{Wholes}
use Rattle.vx_steps.specs.Given.{handed_by, row_value}
use Rattle.vx_steps.specs.Held.{AreMade}
use Rattle.vx_steps.specs.Jobs.{KeepsWholes}
use Rattle.vx_steps.specs.KeptData.{Kept}
use Rattle.vx_steps.specs.Laws.{row_with}
use Rattle.vx_steps.specs.Wholes.{AreThere, UsesGiven}

-- only values that were handed in were used, and all that the selected rows of a plan ask for are there
pub record AreServed (nodes : List Node) (given : List Kept) (wholes : Wholes) (n start : ℕ) (bits : List Bool) : Type 0 where
  pub uses : UsesGiven given [] wholes.used
  pub there : AreThere nodes given wholes n start bits

-- It stays so while a scan makes and uses more.
abbrev pub ServedStays : Type 0
ServedStays = (nodes : List Node) (job : Job) (old new : Wholes) (n start : ℕ) (bits : List Bool) → KeepsWholes nodes job old new → UsesGiven job.given [] new.used → AreServed nodes job.given old n start bits → AreServed nodes job.given new n start bits

-- ---- in place of all that were handed in

-- Each of these rows is derived with the used values as with all that were handed in.
abbrev pub UsedServe : Type 0
UsedServe = (nodes : List Node) → IsGoodTable nodes → (given : List Kept) (wholes : Wholes) (offset n start : ℕ) (bits : List Bool) → n < length nodes → AreServed nodes given wholes n start bits →
    (place : ℕ) → slice_get bits place ≡ Some true → row_with (handed_by nodes (Some given)) offset (plan_at nodes n) (start + place) ≡ row_with (handed_by nodes (Some wholes.used)) offset (plan_at nodes n) (start + place)

-- So it is worth the same.
abbrev pub UsedGiveValues : Type 0
UsedGiveValues = (nodes : List Node) → IsGoodTable nodes → (given : List Kept) (wholes : Wholes) (leaves : Leaves) (offset n start : ℕ) (bits : List Bool) → n < length nodes → AreServed nodes given wholes n start bits →
    (place : ℕ) → slice_get bits place ≡ Some true → row_value leaves (handed_by nodes (Some given)) offset (plan_at nodes n) (start + place) ≡ row_value leaves (handed_by nodes (Some wholes.used)) offset (plan_at nodes n) (start + place)

-- And the values of these rows are those with the used values.
abbrev pub UsedGiveColumns : Type 0
UsedGiveColumns = (nodes : List Node) → IsGoodTable nodes → (given : List Kept) (wholes : Wholes) (leaves : Leaves) (offset n start : ℕ) (bits : List Bool) (values : List Datum) → n < length nodes → AreServed nodes given wholes n start bits →
    AreOf (row_value leaves (handed_by nodes (Some given)) offset (plan_at nodes n)) (rows_of start bits) values → AreOf (row_value leaves (handed_by nodes (Some wholes.used)) offset (plan_at nodes n)) (rows_of start bits) values

-- ---- in place of those that the plan reads

-- Where each of the columns is the whole values of its plan, a row is worth with them what the plan says.
abbrev pub CertifiedServe : Type 0
CertifiedServe = (nodes : List Node) → IsGoodTable nodes → (used : List Kept) (leaves : Leaves) (offset n row : ℕ) → n < length nodes → row < (node_at nodes n).rows → AreMade nodes offset used leaves → row_value leaves (handed_by nodes (Some used)) offset (plan_at nodes n) row ≡ plan_value leaves offset (plan_at nodes n) row

-- So the values of selected rows are the plan's, where each used value is the whole values of its plan.
abbrev pub CertifiedGiveColumns : Type 0
CertifiedGiveColumns = (nodes : List Node) → IsGoodTable nodes → (given : List Kept) (wholes : Wholes) (leaves : Leaves) (offset n start : ℕ) (bits : List Bool) (values : List Datum) → n < length nodes → start + length bits ≤ (node_at nodes n).rows → AreServed nodes given wholes n start bits → AreMade nodes offset wholes.used leaves →
    AreOf (row_value leaves (handed_by nodes (Some given)) offset (plan_at nodes n)) (rows_of start bits) values → AreOf (plan_value leaves offset (plan_at nodes n)) (rows_of start bits) values
