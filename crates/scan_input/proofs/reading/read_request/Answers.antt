use Rattle.std.proofs.Common.{◌≡◌, ◌+◌, ◌<◌, ◌≤◌, ◌++◌, ◌∙◌, length, arith, sym, subst, List, ℕ}
use Rattle.std.proofs.lemmas.Grind.{common_steps}
use Rattle.scan_input.proofs.Pieces.{few_with_piece, pieces_of, ran_out, reads_more, too_many, ReadsSoFar}
use Rattle.scan_input.proofs.reading.read_request.Goals as goal

pub returns-then-len-clause-bytes : goal.returns-then-len-clause-bytes
returns-then-len-clause-bytes g c =
    let piece = c.in-Ok.piece.ok in
    let bytes = c.loop-turn.bytes.ok in
    let more : 16777216 < length c.in-Ok.piece.items + length c.loop-turn.bytes.items = omega (arith, piece.0, bytes.0, c.len.ensures, c.len-in-loop-turn.ensures, c.if-len.true) in
    let some : 0 < length c.in-Ok.piece.items = omega (arith, more, c.loop-turn.invariant.size) in
    too_many _ _ _ _ _ _ c.loop-turn.invariant c.in-Ok.ensures some more

pub returns-then-len-clause-pieces : goal.returns-then-len-clause-pieces
returns-then-len-clause-pieces g c =
    let len = c.in-Ok.piece.ok in
    let some : 0 < length c.in-Ok.piece.items = grind (arith, common_steps) in
    pieces_of _ _ _ _ _ _ c.loop-turn.invariant c.in-Ok.ensures some

pub returns-in_err-extend_from_slice-clause-bytes : goal.returns-in_err-extend_from_slice-clause-bytes
returns-in_err-extend_from_slice-clause-bytes g c =
    let len = c.in-Ok.piece.ok in
    let fits : length c.in-Ok.piece.items + length c.loop-turn.bytes.items ≤ 16777216 = grind (arith, common_steps) in
    let few = few_with_piece _ _ _ _ _ _ c.loop-turn.invariant c.in-Ok.ensures fits in
    ran_out _ _ _ c.from_residual.ensures.1 (c.in-Ok.ensures.faults ∙ c.loop-turn.invariant.faults) few

pub returns-in_err-extend_from_slice-clause-pieces :
    goal.returns-in_err-extend_from_slice-clause-pieces
returns-in_err-extend_from_slice-clause-pieces g c =
    let len = c.in-Ok.piece.ok in
    let some : 0 < length c.in-Ok.piece.items = grind (arith, common_steps) in
    pieces_of _ _ _ _ _ _ c.loop-turn.invariant c.in-Ok.ensures some

pub loop-turn-preserved : goal.loop-turn-preserved
loop-turn-preserved g c =
    let len = c.in-Ok.piece.ok in
    let is : c.extend_from_slice.new.self.items ≡ c.loop-turn.bytes.items ++ c.in-Ok.piece.items = cc (c.in_ok-extend_from_slice.ensures.items, c.deref.ensures.value) in
    let some : 0 < length c.in-Ok.piece.items = grind (arith, common_steps) in
    let fits : length c.in-Ok.piece.items + length c.loop-turn.bytes.items ≤ 16777216 = grind (arith, common_steps) in
    let more = reads_more _ _ _ _ _ _ c.loop-turn.invariant c.in-Ok.ensures some fits in
    subst (λ (bytes : List ℕ). ReadsSoFar (c.loop-turn._turn + 1) bytes (g.Q.Source.state c.args.request.now) (g.Q.Source.state c.read.new.self)) (sym is) more
