use Rattle.std.proofs.Common.{rules, ◌≡◌, ℕ, None, map, sym, subst}
use Rattle.std.specs.Prelude.{IsTrue}
use Rattle.vx_plan.specs.Refs.{number_of}
use Rattle.vx_steps.specs.Kept.{kept_data, ArePlaces}
use Rattle.vx_steps.specs.KeptData.{Kept}
use Rattle.vx_steps.specs.LeafColumns.{StandFor}
use Rattle.vx_steps.specs.Leavings.{behind_all, IsReadBehind, Meets}
use Rattle.vx_steps.specs.Places.{place_in}
use Rattle.vx_steps.proofs.LeavingRows.{place_met, said_as, IsRowRead}
use Rattle.vx_steps.proofs.Offering.{among_retained, has_place, keeps_retained}
use Rattle.vx_steps.proofs.StoredLeaves.{keeps_standing}
use Rattle.vx_steps.proofs.leavings.leaves_behind.Goals as goal

pub returns-in-Ok : goal.returns-in-Ok
returns-in-Ok c =
    let nodes = c.args.table.now in
    let job = c.args.job.now in
    let P : Kept → Type 0 = λ kept. IsReadBehind nodes job kept.node in
    let row : c.row_behind-row.result ≡ behind_all c.args.job.now.splits.items = search rules in
    let stand : StandFor c.args.leaves.here c.args.leaves.all (map kept_data c.in-Ok.columns.items) = search rules in
    let are : ArePlaces c.in-Ok.places (map kept_data c.in-Ok.columns.items) = search rules in
    let M : ℕ → Type 0 = λ k. Meets (IsRowRead nodes job.plan k) c.over-sieve.result c.meet_row.new.sieve in
    let meets = subst M row c.meet_row.ensures in
    keeps_standing (IsReadBehind nodes job) c.args.leaves.here c.args.leaves.all (map kept_data c.in-Ok.columns.items) (map kept_data c.retain.new.self.items) stand c.requires.here (among_retained _ kept_data P _ c.in-Ok.columns.items c.retain.new.self.items (λ x b q among step.
    let at = has_place c.in-Ok.places c.in-Ok.columns.items x are among in
    said_as (IsTrue b) (place_in c.meet_row.new.sieve.places (number_of x.node) ≡ None) (P (kept_data x)) _ q (search rules) (place_met (IsRowRead nodes job.plan (behind_all job.splits.items)) c.over-sieve.result c.meet_row.new.sieve (number_of x.node) at.0 meets c.over-sieve.ensures.found (rw c.over-sieve.ensures.places at.1))) c.retain.ensures.filtered)

pub returns-in-Err : goal.returns-in-Err
returns-in-Err c =
    let nodes = c.args.table.now in
    let job = c.args.job.now in
    let P : Kept → Type 0 = λ kept. IsReadBehind nodes job kept.node in
    let row : c.row_behind-row.result ≡ behind_all c.args.job.now.splits.items = search rules in
    let stand : StandFor c.args.leaves.here c.args.leaves.all (map kept_data c.in-Err.columns.items) = search rules in
    keeps_standing (IsReadBehind nodes job) c.args.leaves.here c.args.leaves.all (map kept_data c.in-Err.columns.items) (map kept_data c.retain-in-Err.new.self.items) stand c.requires.here (keeps_retained _ kept_data P _ (λ x b q step.
    let R : ℕ → Type 0 = λ k. IsRowRead nodes job.plan k (number_of x.node) in
    said_as (IsTrue b) (IsRowRead nodes job.plan c.row_behind-row.result (number_of x.node)) (P (kept_data x)) _ q (search rules) (λ r. subst R row r, λ r. subst R (sym row) r)) c.in-Err.columns.items c.retain-in-Err.new.self.items c.retain-in-Err.ensures.filtered)
