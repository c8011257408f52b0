use Rattle.std.proofs.Common.{◌≡◌, refl, sym, ap, ◌∙◌, take}
use Rattle.std.specs.Prelude.{not}
use Rattle.std.proofs.lemmas.List.{append-nil}
use Rattle.vx_expr.specs.Mentions.{first_ones}
use Rattle.vx_expr.proofs.FirstOnes.{has_name, first_ones_more, has_name_more}
use Rattle.vx_expr.proofs.root_fields.first_of_each.Goals as goal
use Rattle.vx_expr.proofs.root_fields.first_of_each.Goals.{then-branch+in_ok-push_copy, else-branch}

pub loop-name-preserved : goal.loop-name-preserved
loop-name-preserved c =
    let names = c.args.names.now in
    let i = c.loop-name.name-index in
    let name = c.name-item.result in
    let text = c.as_str.ensures.value in
    let new : c.in_ok-insert.field-0 ≡ not (has_name name (take i names)) = rw text at (c.in_ok-insert.ensures.added ∙ ap not (c.loop-name.invariant.seen c.as_str.result)) in
    let more = first_ones_more names i name c.in_ok-insert.field-0 c.loop-name-test.true c.name-item.is new in
    record {
      firsts = elim c.if-branch.branch [
        | then-branch+in_ok-push_copy w ↦ rw (w.firsts-is, w.in_ok-push_copy.ensures, c.loop-name.invariant.firsts, more, w.if-branch.true) refl
        | else-branch w ↦ rw (w.firsts-is, c.loop-name.invariant.firsts, more, w.if-branch.false) (sym (append-nil (first_ones (take i names))))
      ];
      seen = λ other. rw (has_name_more names i name other.now c.loop-name-test.true c.name-item.is, ← c.loop-name.invariant.seen other, ← text) (c.in_ok-insert.ensures.updates.0 other);
    }
