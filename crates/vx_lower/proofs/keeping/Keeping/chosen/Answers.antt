use Rattle.std.proofs.Common.{◌≡◌, ℕ, suc, ◌<◌, ◌++◌, Bool, List, [], ◌∷◌, length, get_or, drop, add-one, refl, ap, ◌∙◌, arith}
use Rattle.vx_lower.specs.Keeping.{chosen}
use Rattle.vx_lower.proofs.KeptTerms.{child_left, child_put}
use Rattle.vx_lower.proofs.keeping.Keeping.chosen.Goals as goal
use Rattle.vx_lower.proofs.keeping.Keeping.chosen.Goals.{then-flags-place+in_ok-push, else-flags-place}

pub loop-place-preserved : goal.loop-place-preserved
loop-place-preserved c =
    let flags : List Bool = c.as_slice-flags.result.now in
    let ns : List ℕ = c.args.children.now in
    let i : ℕ = c.loop-place.place in
    let lt : i < length ns = c.loop-place-test.true in
    let also : i < length flags = omega (arith, c.requires, ap length c.as_slice-flags.ensures.value) in
    rw add-one
    (elim c.if-flags-place.branch [
      | then-flags-place+in_ok-push w ↦ (let put : c.if-flags-place.kept.items ≡ c.loop-place.kept.items ++ get_or ns i 0 ∷ [] = cc (w.kept-is, w.in_ok-push.ensures.items) in child_put flags ns c.loop-place.kept.items c.if-flags-place.kept.items (chosen flags ns) i (get_or ns i 0) lt also w.if-flags-place.true refl put c.loop-place.invariant)
      | else-flags-place w ↦ (let same : c.if-flags-place.kept.items ≡ c.loop-place.kept.items = cc (w.kept-is) in ap (λ (ms : List ℕ). ms ++ chosen (drop (suc i) flags) (drop (suc i) ns)) same ∙ child_left flags ns c.loop-place.kept.items (chosen flags ns) i lt also w.if-flags-place.false c.loop-place.invariant)
    ])
