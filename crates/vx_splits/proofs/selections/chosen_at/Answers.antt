use Rattle.std.proofs.Common.{◌≡◌, ◌∙◌, ◌-◌, ℕ, map}
use Rattle.vx_splits.proofs.PlacedMarks.{places_ascend, places_below, mask_placed}
use Rattle.vx_splits.proofs.selections.chosen_at.Goals as goal

pub from_indices-requires-clause-ascending : goal.from_indices-requires-clause-ascending
from_indices-requires-clause-ascending c =
    let start : ℕ = c.args.rows.now.start in
    let made : c.deref.result.now ≡ map (λ index. index - start) c.args.indices.now = c.deref.ensures.value ∙ c.in_ok-places.ensures in
    places_ascend start c.args.indices.now c.deref.result.now made c.requires.from c.requires.ascending

pub from_indices-requires-clause-below : goal.from_indices-requires-clause-below
from_indices-requires-clause-below c =
    let start : ℕ = c.args.rows.now.start in
    let made : c.deref.result.now ≡ map (λ index. index - start) c.args.indices.now = c.deref.ensures.value ∙ c.in_ok-places.ensures in
    places_below start c.args.rows.now.end c.args.indices.now c.deref.result.now made c.requires.from c.requires.below

pub returns : goal.returns
returns c =
    let start : ℕ = c.args.rows.now.start in
    let made : c.deref.result.now ≡ map (λ index. index - start) c.args.indices.now = c.deref.ensures.value ∙ c.in_ok-places.ensures in
    mask_placed start c.args.rows.now.end c.args.indices.now c.deref.result.now c.in_ok-mask.mask made c.requires.from c.in_ok-mask.ensures.rows c.in_ok-mask.ensures.chosen
