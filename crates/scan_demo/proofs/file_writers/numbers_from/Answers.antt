use Rattle.std.proofs.Common.{◌+◌, ◌∷◌, [], List, ℕ, ◌++◌, ◌∙◌, ap, sym, refl}
use Rattle.vx_layout.proofs.Joined.{range_split}
use Rattle.scan_demo.proofs.file_writers.numbers_from.Goals as goal

pub loop-place-preserved : goal.loop-place-preserved
loop-place-preserved c =
    let first = c.args.first in
    let place = c.loop-place.place in
    c.in_ok-push.ensures.items
    ∙ ap (λ (front : List ℕ). front ++ (first + place) ∷ []) c.loop-place.invariant
    ∙ sym (range_split first (first + place) place 1 (place + 1) refl refl)
