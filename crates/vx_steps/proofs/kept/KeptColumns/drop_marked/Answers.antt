use Rattle.std.proofs.Common.{rules, ◌≡◌, false, List, map, subst}
use Rattle.vx_steps.specs.Kept.{kept_data}
use Rattle.vx_steps.specs.KeptData.{Kept}
use Rattle.vx_steps.specs.Offers.{Keeps}
use Rattle.vx_steps.specs.PlanMarks.{is_marked}
use Rattle.vx_steps.proofs.Indexing.{indexed_none}
use Rattle.vx_steps.proofs.Offering.{keeps_retained}
use Rattle.vx_steps.proofs.kept.KeptColumns.drop_marked.Goals as goal

pub invariant_of-self : goal.invariant_of-self
invariant_of-self c = indexed_none c.new.result (map kept_data c.retain.new.self.items) c.new.ensures

pub returns : goal.returns
returns c =
    let P : Kept → Type 0 = λ kept. is_marked c.args.marks.now kept.node ≡ false in
    subst (λ (old : List Kept). Keeps P old (map kept_data c.retain.new.self.items)) c.self.view_is (keeps_retained _ kept_data P _ (λ x b q step. search rules) c.self.inside.columns.items c.retain.new.self.items c.retain.ensures.filtered)
