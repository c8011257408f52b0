use Rattle.std.proofs.Common.{◌≡◌, ◌++◌, [], ◌∷◌, add-one, ◌∙◌, ap}
use Rattle.vx_expr.specs.TermViews.{terms_of}
use Rattle.vx_lower.proofs.KeptTerms.{item_left, item_put}
use Rattle.vx_lower.proofs.keeping.kept_items.Goals as goal
use Rattle.vx_lower.proofs.keeping.kept_items.Goals.{then-flags-place+in_ok-operand+in_ok-name+in_ok-got+in_ok-push, else-flags-place}

pub loop-place-preserved : goal.loop-place-preserved
loop-place-preserved c = λ kept are.
    let flags = c.args.flags.now in
    let fields = c.args.fields.now in
    let i = c.loop-place.place in
    let field = c.index-fields-place.result in
    rw add-one
    (elim c.if-flags-place.branch [
      | then-flags-place+in_ok-operand+in_ok-name+in_ok-got+in_ok-push w ↦ (let put : c.if-flags-place.items.items ≡ c.loop-place.items.items ++ (w.in_ok-name.name, w.in_ok-got.got) ∷ [] = cc (w.items-is, w.in_ok-push.ensures.items) in item_put kept flags fields i field c.loop-place.items.items c.if-flags-place.items.items w.in_ok-name.name w.in_ok-operand.operand w.in_ok-got.got are c.loop-place-test.true c.index-fields-place.is w.if-flags-place.true w.in_ok-name.ensures w.in_ok-operand.ensures w.in_ok-got.ensures put (c.loop-place.invariant kept are))
      | else-flags-place w ↦ (let same : c.if-flags-place.items.items ≡ c.loop-place.items.items = cc (w.items-is) in ap terms_of same ∙ item_left kept flags fields i field c.loop-place.items.items are c.loop-place-test.true c.index-fields-place.is w.if-flags-place.false (c.loop-place.invariant kept are))
    ])
