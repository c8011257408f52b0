use Rattle.std.proofs.Common.{◌≡◌, ℕ, true, false, add-one, List, [], ◌∷◌, ◌++◌, ◌∙◌}
use Rattle.vx_base.specs.declared.dtypes.Field.{Field}
use Rattle.vx_layout.proofs.NameSets.{stands_in, kept_yes, kept_no, told}
use Rattle.vx_layout.proofs.kept_fields.names_among.Goals as goal
use Rattle.vx_layout.proofs.kept_fields.names_among.Goals.{then-contains+in_ok-copy+in_ok-push, else-contains}

pub loop-field-preserved : goal.loop-field-preserved
loop-field-preserved c =
    let names : List (List ℕ) = c.args.names.now in
    let fields : List Field = c.args.fields.now in
    let i : ℕ = c.loop-field.field-index in
    let field : Field = c.field-item.result in
    let tell = told c.in_ok-seen.seen.keys c.as_str.result names field.name c.contains.result in
    rw add-one
    (elim c.if-contains.branch [
      | then-contains+in_ok-copy+in_ok-push w ↦ (let there : stands_in names field.name ≡ true = tell true c.contains.ensures c.in_ok-seen.ensures c.as_str.ensures.value w.if-contains.true in let put : c.if-contains.kept.items ≡ c.loop-field.kept.items ++ w.in_ok-copy.field-0 ∷ [] = cc (w.kept-is, w.in_ok-push.ensures.items) in kept_yes names fields i field c.loop-field.kept.items c.if-contains.kept.items w.in_ok-copy.field-0 c.loop-field-test.true c.field-item.is there c.loop-field.invariant w.in_ok-copy.ensures put)
      | else-contains w ↦ (let not_there : stands_in names field.name ≡ false = tell false c.contains.ensures c.in_ok-seen.ensures c.as_str.ensures.value w.if-contains.false in let same : c.if-contains.kept.items ≡ c.loop-field.kept.items = cc (w.kept-is) in same ∙ kept_no names fields i field c.loop-field.kept.items c.loop-field-test.true c.field-item.is not_there c.loop-field.invariant)
    ])
