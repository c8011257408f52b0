use Rattle.std.proofs.Common.{◌≡◌, ◌∙◌, Option, ℕ, None, List, map, sym, ap, subst, take}
use Rattle.vx_steps.specs.KeptData.{Kept}
use Rattle.vx_steps.specs.Kept.{kept_at, kept_data, IsPlace}
use Rattle.vx_steps.proofs.Indexing.{found_place, found_rest, rest_whole}
use Rattle.vx_steps.proofs.kept.KeptColumns.find.Goals as goal

pub returns-in-Some : goal.returns-in-Some
returns-in-Some c =
    let values = c.self.inside.columns.items in
    let P : Option ℕ → Type 0 = λ o. IsPlace (take c.self.inside.indexed (map kept_data values)) c.args.node o in
    found_place values c.self.inside.indexed c.in-Some.place c.args.node c.index.result.now c.index.ensures (subst P (sym c.in-Some.ensures) (c.self.invariant.placed c.args.node)) ∙ ap (λ (ks : List Kept). kept_at ks c.args.node) c.self.view_is

pub returns-in-None : goal.returns-in-None
returns-in-None c =
    let values = c.self.inside.columns.items in
    let P : Option ℕ → Type 0 = λ o. IsPlace (take c.self.inside.indexed (map kept_data values)) c.args.node o in
    let none : kept_at (take c.self.inside.indexed (map kept_data values)) c.args.node ≡ None = subst P (sym c.in-None.ensures) (c.self.invariant.placed c.args.node) in
    (rw (c.deref.ensures.value, rest_whole values c.self.inside.indexed) at c.first_for.ensures) ∙ (found_rest values c.self.inside.indexed c.args.node none ∙ ap (λ (ks : List Kept). kept_at ks c.args.node) c.self.view_is)
