use Rattle.std.proofs.Common.{ℕ, List, Option, map, set, subst, sym, take}
use Rattle.vx_steps.specs.declared.kept.KeptValue.{KeptValue}
use Rattle.vx_steps.specs.KeptData.{Kept}
use Rattle.vx_steps.specs.Kept.{kept_data, IsPlace, ReplacesOnly}
use Rattle.vx_steps.proofs.Replacing.{indexed_same, replaced, replaces_none}
use Rattle.vx_steps.proofs.kept.KeptColumns.replace.Goals as goal

pub invariant_of-self : goal.invariant_of-self
invariant_of-self c =
    let xs = c.self.inside.columns.items in
    let place = c.in-Some.place in
    let x = c.index_mut.result.now in
    let new : KeptValue = record { node = x.node; column = c.args.column } in
    let P : Option ℕ → Type 0 = λ o. IsPlace (take c.self.inside.indexed (map kept_data xs)) c.args.node o in
    let only = replaced xs c.self.inside.indexed place c.args.node x c.args.column c.index_mut.ensures.value (subst P (sym c.in-Some.ensures) (c.self.invariant.placed c.args.node)) in
    indexed_same c.args.node c.self.inside.places c.self.inside.indexed (map kept_data xs) (map kept_data (set xs place new)) only c.self.invariant

pub returns-in-Some : goal.returns-in-Some
returns-in-Some c =
    let xs = c.self.inside.columns.items in
    let place = c.in-Some.place in
    let x = c.index_mut.result.now in
    let new : KeptValue = record { node = x.node; column = c.args.column } in
    let P : Option ℕ → Type 0 = λ o. IsPlace (take c.self.inside.indexed (map kept_data xs)) c.args.node o in
    let R : List Kept → Type 0 = λ old. ReplacesOnly c.args.node old (map kept_data (set xs place new)) in
    subst R c.self.view_is (replaced xs c.self.inside.indexed place c.args.node x c.args.column c.index_mut.ensures.value (subst P (sym c.in-Some.ensures) (c.self.invariant.placed c.args.node)))

pub returns-in_default : goal.returns-in_default
returns-in_default c = replaces_none c.args.node c.args.self.now
