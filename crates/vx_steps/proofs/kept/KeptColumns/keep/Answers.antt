use Rattle.std.proofs.Common.{◌≡◌, ℕ, ◌≤◌, ◌+◌, ◌==◌, List, [], ◌∷◌, ◌++◌, cond, Some, length, arith, map, sym, subst}
use Rattle.std.proofs.lemmas.Grind.{common_steps}
use Rattle.vx_steps.specs.KeptData.{Kept}
use Rattle.vx_steps.specs.Kept.{kept_data, ArePlaces, AreIndexed}
use Rattle.vx_steps.specs.Places.{place_in}
use Rattle.vx_steps.proofs.Keeping.{places_more}
use Rattle.vx_steps.proofs.Indexing.{take_all}
use Rattle.vx_steps.proofs.kept.KeptColumns.keep.Goals as goal

pub invariant_of-self-2 : goal.invariant_of-self-2
invariant_of-self-2 c =
    let kept = map kept_data c.self.inside.columns.items in
    let A : List Kept → Type 0 = λ ks. ArePlaces c.self.inside.places ks in
    let I : List Kept → Type 0 = λ ks. AreIndexed c.put.new.self (c.len-place.result + 1) ks in
    let all_indexed : length kept ≤ c.self.inside.indexed = grind (arith, common_steps) in
    let before = subst A (take_all kept c.self.inside.indexed all_indexed) c.self.invariant.placed in
    let put : (n : ℕ) → place_in c.put.new.self n ≡ cond (c.args.node == n) (Some (length kept)) (place_in c.self.inside.places n) = λ n. grind (arith, common_steps) in
    let more_kept : List Kept = kept ++ record { node = c.args.node; column = c.args.column } ∷ [] in
    let all = places_more c.self.inside.places c.put.new.self kept c.args.node c.args.column before (grind (arith, common_steps)) put in
    let more : map kept_data c.push.new.self.items ≡ kept ++ record { node = c.args.node; column = c.args.column } ∷ [] = grind (arith, common_steps) in
    let within : c.len-place.result + 1 ≤ length (kept ++ record { node = c.args.node; column = c.args.column } ∷ []) = grind (arith, common_steps) in
    let whole : length (kept ++ record { node = c.args.node; column = c.args.column } ∷ []) ≤ c.len-place.result + 1 = grind (arith, common_steps) in
    let P : List Kept → Type 0 = λ ks. ArePlaces c.put.new.self ks in
    subst I (sym more) (record { inside = within; placed = subst P (sym (take_all (kept ++ record { node = c.args.node; column = c.args.column } ∷ []) (c.len-place.result + 1) whole)) all })
