use Rattle.std.proofs.Common.{◌≡◌, None, List, map, inl, subst, arith}
use Rattle.vx_steps.specs.Delivered.{KeepsLeaves}
use Rattle.vx_steps.specs.Pieces.{read_of}
use Rattle.vx_steps.specs.ReadTable.{bytes_of}
use Rattle.vx_steps.specs.ReadTableData.{Wanted}
use Rattle.vx_steps.specs.Tries.{IsTornAt}
use Rattle.vx_steps.specs.Wants.{IsNeededLeaf}
use Rattle.vx_steps.proofs.Decoding.{adds_then, keeps_none, keeps_then, need_added}
use Rattle.vx_steps.proofs.NextNeeds.{lacks_at, leaf_got, moves_kept, moves_none, moves_on, torn_at}
use Rattle.vx_steps.proofs.Releasing.{got_among, held_let, lets_none, lets_then}
use Rattle.vx_steps.proofs.Remaining.{here_none, here_then}
use Rattle.vx_steps.proofs.leaves.decode_from.Goals as goal

pub needs-init : goal.needs-init
needs-init c = record {
  counted = c.requires.counted;
  keeps = keeps_none c.args.table.now c.args.reads.now.wanted c.args.leaves.now.all;
  only = λ n kept. inl kept;
  here = here_none c.args.leaves.now;
  lets = lets_none c.args.table.now c.args.leaves.now.all c.args.reads.now;
  moves = moves_none c.args.needs.now c.args.leaves.now.all c.args.next.now;
}

pub decode_open-requires-clause-known : goal.decode_open-requires-clause-known
decode_open-requires-clause-known c = (leaf_got c.args.table.now (map read_of c.args.needs.now) c.needs.next c.read_at-need.result c.requires.known c.read_at-need.ensures).0

pub decode_open-requires-clause-leaf : goal.decode_open-requires-clause-leaf
decode_open-requires-clause-leaf c = (leaf_got c.args.table.now (map read_of c.args.needs.now) c.needs.next c.read_at-need.result c.requires.known c.read_at-need.ensures).1

pub decode_open-requires-clause-held : goal.decode_open-requires-clause-held
decode_open-requires-clause-held c =
    let reads = map read_of c.args.needs.now in
    let need = c.read_at-need.result in
    held_let c.args.table.now c.args.leaves.now.all c.needs.leaves.all c.args.reads.now c.needs.reads reads c.requires.known c.needs.invariant.keeps.grows c.needs.invariant.lets c.requires.held need (got_among reads c.needs.next need c.read_at-need.ensures)

pub needs-preserved : goal.needs-preserved
needs-preserved c =
    let reads = map read_of c.args.needs.now in
    let need = c.read_at-need.result in
    let there = rw c.in-Ok-true.field-0-test at c.in-Ok-true.ensures.there in
    let K : List Wanted → Type 0 = λ ws. KeepsLeaves c.args.table.now ws c.needs.leaves.all c.decode_open.new.leaves.all in
    record {
      counted = c.in-Ok-true.ensures.counted;
      keeps = keeps_then c.args.table.now c.args.reads.now.wanted c.args.leaves.now.all c.needs.leaves.all c.decode_open.new.leaves.all c.needs.invariant.keeps (subst K c.needs.invariant.lets.wanted c.in-Ok-true.ensures.keeps);
      only = adds_then (IsNeededLeaf reads) c.args.leaves.now.all c.needs.leaves.all c.decode_open.new.leaves.all c.needs.invariant.only (need_added reads need c.needs.leaves.all c.decode_open.new.leaves.all (got_among reads c.needs.next need c.read_at-need.ensures) c.in-Ok-true.ensures.only);
      here = here_then c.args.leaves.now c.needs.leaves c.decode_open.new.leaves c.needs.invariant.here c.in-Ok-true.ensures.here;
      lets = lets_then c.args.table.now c.needs.leaves.all c.decode_open.new.leaves.all c.args.reads.now c.needs.reads c.decode_open.new.reads c.in-Ok-true.ensures.keeps.grows c.needs.invariant.lets c.in-Ok-true.ensures.lets;
      moves = moves_on c.args.needs.now c.needs.leaves.all c.decode_open.new.leaves.all c.args.next.now c.needs.next need c.read_at-need.ensures c.in-Ok-true.ensures.keeps.grows there c.needs.invariant.moves;
    }

pub returns-in-Ok-false-clause-keeps : goal.returns-in-Ok-false-clause-keeps
returns-in-Ok-false-clause-keeps c =
    let K : List Wanted → Type 0 = λ ws. KeepsLeaves c.args.table.now ws c.needs.leaves.all c.decode_open.new.leaves.all in
    keeps_then c.args.table.now c.args.reads.now.wanted c.args.leaves.now.all c.needs.leaves.all c.decode_open.new.leaves.all c.needs.invariant.keeps (subst K c.needs.invariant.lets.wanted c.in-Ok-false.ensures.keeps)

pub returns-in-Ok-false-clause-only : goal.returns-in-Ok-false-clause-only
returns-in-Ok-false-clause-only c =
    let reads = map read_of c.args.needs.now in
    adds_then (IsNeededLeaf reads) c.args.leaves.now.all c.needs.leaves.all c.decode_open.new.leaves.all c.needs.invariant.only (need_added reads c.read_at-need.result c.needs.leaves.all c.decode_open.new.leaves.all (got_among reads c.needs.next c.read_at-need.result c.read_at-need.ensures) c.in-Ok-false.ensures.only)

pub returns-in-Ok-false-clause-here : goal.returns-in-Ok-false-clause-here
returns-in-Ok-false-clause-here c = here_then c.args.leaves.now c.needs.leaves c.decode_open.new.leaves c.needs.invariant.here c.in-Ok-false.ensures.here

pub returns-in-Ok-false-clause-lets : goal.returns-in-Ok-false-clause-lets
returns-in-Ok-false-clause-lets c = lets_then c.args.table.now c.needs.leaves.all c.decode_open.new.leaves.all c.args.reads.now c.needs.reads c.decode_open.new.reads c.in-Ok-false.ensures.keeps.grows c.needs.invariant.lets c.in-Ok-false.ensures.lets

pub returns-in-Ok-false-clause-moves : goal.returns-in-Ok-false-clause-moves
returns-in-Ok-false-clause-moves c = moves_kept c.args.needs.now c.needs.leaves.all c.decode_open.new.leaves.all c.args.next.now c.needs.next c.in-Ok-false.ensures.keeps.grows c.needs.invariant.moves

pub returns-in-Ok-false-clause-missing : goal.returns-in-Ok-false-clause-missing
returns-in-Ok-false-clause-missing c =
    let there = rw c.in-Ok-false.field-0-test at c.in-Ok-false.ensures.there in
    let B : List Wanted → Type 0 = λ ws. bytes_of ws c.read_at-need.result.segment ≡ None in
    λ _. lacks_at c.args.table.now c.args.reads.now.wanted c.args.leaves.now.all c.needs.leaves.all c.args.needs.now c.needs.next c.read_at-need.result c.read_at-need.ensures c.needs.invariant.keeps there.0 (subst B c.needs.invariant.lets.wanted there.1)

pub returns-in-Err-clause-keeps : goal.returns-in-Err-clause-keeps
returns-in-Err-clause-keeps c =
    let K : List Wanted → Type 0 = λ ws. KeepsLeaves c.args.table.now ws c.needs.leaves.all c.decode_open.new.leaves.all in
    keeps_then c.args.table.now c.args.reads.now.wanted c.args.leaves.now.all c.needs.leaves.all c.decode_open.new.leaves.all c.needs.invariant.keeps (subst K c.needs.invariant.lets.wanted c.in-Err.ensures.keeps)

pub returns-in-Err-clause-only : goal.returns-in-Err-clause-only
returns-in-Err-clause-only c =
    let reads = map read_of c.args.needs.now in
    adds_then (IsNeededLeaf reads) c.args.leaves.now.all c.needs.leaves.all c.decode_open.new.leaves.all c.needs.invariant.only (need_added reads c.read_at-need.result c.needs.leaves.all c.decode_open.new.leaves.all (got_among reads c.needs.next c.read_at-need.result c.read_at-need.ensures) c.in-Err.ensures.only)

pub returns-in-Err-clause-here : goal.returns-in-Err-clause-here
returns-in-Err-clause-here c = here_then c.args.leaves.now c.needs.leaves c.decode_open.new.leaves c.needs.invariant.here c.in-Err.ensures.here

pub returns-in-Err-clause-lets : goal.returns-in-Err-clause-lets
returns-in-Err-clause-lets c = lets_then c.args.table.now c.needs.leaves.all c.decode_open.new.leaves.all c.args.reads.now c.needs.reads c.decode_open.new.reads c.in-Err.ensures.keeps.grows c.needs.invariant.lets c.in-Err.ensures.lets

pub returns-in-Err-clause-moves : goal.returns-in-Err-clause-moves
returns-in-Err-clause-moves c = moves_kept c.args.needs.now c.needs.leaves.all c.decode_open.new.leaves.all c.args.next.now c.needs.next c.in-Err.ensures.keeps.grows c.needs.invariant.moves

pub returns-in-Err-clause-torn : goal.returns-in-Err-clause-torn
returns-in-Err-clause-torn c =
    let T : List Wanted → Type 0 = λ ws. IsTornAt c.args.table.now ws c.args.needs.now c.needs.next c.in-Err.error in
    subst T c.needs.invariant.lets.wanted (torn_at c.args.table.now c.needs.reads.wanted c.args.needs.now c.needs.next c.read_at-need.result c.in-Err.error c.read_at-need.ensures c.in-Err.ensures.torn)

pub returns-clause-missing : goal.returns-clause-missing
returns-clause-missing c = λ less. absurd (omega arith)
