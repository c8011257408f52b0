use Rattle.std.proofs.Common.{◌≤◌, List, length, arith, map, subst}
use Rattle.std.proofs.lemmas.Grind.{common_steps}
use Rattle.vx_steps.specs.KeptData.{Kept}
use Rattle.vx_steps.specs.Kept.{kept_data, ArePlaces}
use Rattle.vx_steps.proofs.Indexing.{take_all}
use Rattle.vx_steps.proofs.kept.KeptColumns.into_indexed.Goals as goal

pub returns : goal.returns
returns c =
    let kept = map kept_data c.self.inside.columns.items in
    let A : List Kept → Type 0 = λ ks. ArePlaces c.self.inside.places ks in
    let all_indexed : length kept ≤ c.self.inside.indexed = grind (arith, common_steps) in
    (c.self.view_is, subst A c.self.view_is (subst A (take_all kept c.self.inside.indexed all_indexed) c.self.invariant.placed))
