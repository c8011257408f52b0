use Rattle.std.proofs.Common.{is_some, ◌≡◌, Option, Some, Bor, map, refl, sym, ap, subst, ◌∙◌}
use Rattle.std.specs.Prelude.{◌↔◌, slice_get, IfSome, IsSome}
use Rattle.vx_types.specs.Columns.{ColumnData}
use Rattle.vx_types.specs.ValueViews.{data_in}
use Rattle.vx_arrays.proofs.ViewedArrays.{array_there, place_there}
use Rattle.vx_arrays.proofs.arrays.ChildArrays.array.Goals as goal

pub returns-in-Some-clause-found : goal.returns-in-Some-clause-found
returns-in-Some-clause-found c =
    let found = array_there c.self.inside.rows c.self.inside.arrays.items c.as_slice.result.now c.args.self.now c.args.place c.get.result c.as_slice.ensures.value c.self.view_is c.self.invariant c.get.ensures.lookup in
    subst (λ (r : Option (Bor ColumnData)). IfSome r (λ array. map (λ vs. slice_get (data_in vs) c.args.place) c.args.self.now.rows ≡ map Some array.now.values)) c.in-Some.is found
    ∙ ap (λ (p : ColumnData). map Some p.values) (sym c.array.ensures)

pub returns-in-Some-clause-there : goal.returns-in-Some-clause-there
returns-in-Some-clause-there c =
    let there = place_there c.self.inside.rows c.self.inside.arrays.items c.as_slice.result.now c.args.self.now c.args.place c.get.result c.as_slice.ensures.value c.self.view_is c.get.ensures.lookup in
    (λ h. there.0 (ap is_some c.in-Some.is), λ l. refl)

pub returns-in-None-clause-there : goal.returns-in-None-clause-there
returns-in-None-clause-there c =
    let there = place_there c.self.inside.rows c.self.inside.arrays.items c.as_slice.result.now c.args.self.now c.args.place c.get.result c.as_slice.ensures.value c.self.view_is c.get.ensures.lookup in
    (λ h. absurd cc, λ l. sym (ap is_some c.in-None.is) ∙ there.1 l)
