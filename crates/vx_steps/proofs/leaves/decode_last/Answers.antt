use Rattle.std.proofs.Common.{◌≡◌, ◌≤◌, ℕ, None, List, length, map, inl, sym, ◌∙◌, refl, subst, arith}
use Rattle.vx_steps.specs.Delivered.{KeepsLeaves}
use Rattle.vx_steps.specs.Pieces.{read_of}
use Rattle.vx_steps.specs.ReadTable.{bytes_of}
use Rattle.vx_steps.specs.ReadTableData.{Wanted}
use Rattle.vx_steps.specs.Releasing.{ArePassed}
use Rattle.vx_steps.specs.Tries.{IsTornAt, LacksNext, MovesNext}
use Rattle.vx_steps.specs.Wants.{IsNeededLeaf}
use Rattle.vx_steps.proofs.Decoding.{adds_then, keeps_none, keeps_then, need_added}
use Rattle.vx_steps.proofs.NextNeeds.{lacks_at, leaf_got, moves_all, moves_passed, not_behind, torn_at}
use Rattle.vx_steps.proofs.Releasing.{got_among, served_kept, served_passed}
use Rattle.vx_steps.proofs.Remaining.{here_none, here_then}
use Rattle.vx_steps.proofs.leaves.decode_last.Goals as goal

pub loop-place-init : goal.loop-place-init
loop-place-init c = record {
  served = c.requires.served;
  still_gone = λ segment gone. gone;
  wanted = refl;
  handed = refl;
  count = sym c.passed-place.ensures;
  keeps = keeps_none c.args.table.now c.args.reads.now.wanted c.args.leaves.now.all;
  only = λ n kept. inl kept;
  here = here_none c.args.leaves.now;
  forwards = omega arith;
  behind = omega arith;
}

pub decode_need-requires-clause-known : goal.decode_need-requires-clause-known
decode_need-requires-clause-known c = (leaf_got c.args.table.now (map read_of c.args.needs.now) c.loop-place.place c.read_at-need.result c.requires.known c.read_at-need.ensures).0

pub decode_need-requires-clause-leaf : goal.decode_need-requires-clause-leaf
decode_need-requires-clause-leaf c = (leaf_got c.args.table.now (map read_of c.args.needs.now) c.loop-place.place c.read_at-need.result c.requires.known c.read_at-need.ensures).1

pub decode_need-requires-clause-held : goal.decode_need-requires-clause-held
decode_need-requires-clause-held c =
    let reads = map read_of c.args.needs.now in
    c.loop-place.invariant.served.held c.read_at-need.result (got_among reads c.loop-place.place c.read_at-need.result c.read_at-need.ensures)

pub loop-place-preserved : goal.loop-place-preserved
loop-place-preserved c =
    let reads = map read_of c.args.needs.now in
    let i = c.loop-place.place in
    let need = c.read_at-need.result in
    let there = rw c.in-Ok-true.field-0-test at c.in-Ok-true.ensures.there in
    let K : List Wanted → Type 0 = λ ws. KeepsLeaves c.args.table.now ws c.loop-place.leaves.all c.decode_need.new.leaves.all in
    let keeps = subst K c.loop-place.invariant.wanted c.in-Ok-true.ensures.keeps in
    let mid = served_kept c.loop-place.leaves.all c.decode_need.new.leaves.all c.loop-place.reads reads keeps.grows c.loop-place.invariant.served in
    record {
      served = served_passed c.decode_need.new.leaves.all c.loop-place.reads c.pass.new.self reads i need c.read_at-need.ensures c.loop-place.invariant.count there c.pass.ensures mid;
      still_gone = λ segment gone. c.pass.ensures.still_gone segment (c.loop-place.invariant.still_gone segment gone);
      wanted = c.pass.ensures.wanted ∙ c.loop-place.invariant.wanted;
      handed = c.pass.ensures.handed ∙ c.loop-place.invariant.handed;
      count = c.pass.ensures.passed;
      keeps = keeps_then c.args.table.now c.args.reads.now.wanted c.args.leaves.now.all c.loop-place.leaves.all c.decode_need.new.leaves.all c.loop-place.invariant.keeps keeps;
      only = adds_then (IsNeededLeaf reads) c.args.leaves.now.all c.loop-place.leaves.all c.decode_need.new.leaves.all c.loop-place.invariant.only (need_added reads need c.loop-place.leaves.all c.decode_need.new.leaves.all (got_among reads i need c.read_at-need.ensures) c.in-Ok-true.ensures.only);
      here = here_then c.args.leaves.now c.loop-place.leaves c.decode_need.new.leaves c.loop-place.invariant.here c.in-Ok-true.ensures.here;
      forwards = omega arith;
      behind = omega arith;
    }

pub returns-in-Ok-false-clause-keeps : goal.returns-in-Ok-false-clause-keeps
returns-in-Ok-false-clause-keeps c =
    let K : List Wanted → Type 0 = λ ws. KeepsLeaves c.args.table.now ws c.loop-place.leaves.all c.decode_need.new.leaves.all in
    keeps_then c.args.table.now c.args.reads.now.wanted c.args.leaves.now.all c.loop-place.leaves.all c.decode_need.new.leaves.all c.loop-place.invariant.keeps (subst K c.loop-place.invariant.wanted c.in-Ok-false.ensures.keeps)

pub returns-in-Ok-false-clause-only : goal.returns-in-Ok-false-clause-only
returns-in-Ok-false-clause-only c =
    let reads = map read_of c.args.needs.now in
    adds_then (IsNeededLeaf reads) c.args.leaves.now.all c.loop-place.leaves.all c.decode_need.new.leaves.all c.loop-place.invariant.only (need_added reads c.read_at-need.result c.loop-place.leaves.all c.decode_need.new.leaves.all (got_among reads c.loop-place.place c.read_at-need.result c.read_at-need.ensures) c.in-Ok-false.ensures.only)

pub returns-in-Ok-false-clause-served : goal.returns-in-Ok-false-clause-served
returns-in-Ok-false-clause-served c = served_kept c.loop-place.leaves.all c.decode_need.new.leaves.all c.loop-place.reads (map read_of c.args.needs.now) c.in-Ok-false.ensures.keeps.grows c.loop-place.invariant.served

pub returns-in-Ok-false-clause-here : goal.returns-in-Ok-false-clause-here
returns-in-Ok-false-clause-here c = here_then c.args.leaves.now c.loop-place.leaves c.decode_need.new.leaves c.loop-place.invariant.here c.in-Ok-false.ensures.here

pub returns-in-Ok-false-clause-moves : goal.returns-in-Ok-false-clause-moves
returns-in-Ok-false-clause-moves c =
    let needs = c.args.needs.now in
    let i = c.loop-place.place in
    let there = rw c.in-Ok-false.field-0-test at c.in-Ok-false.ensures.there in
    let low = not_behind needs c.args.leaves.now.all c.loop-place.leaves.all c.args.next.now i c.read_at-need.result c.requires.decoded c.loop-place.invariant.keeps.grows c.read_at-need.ensures there.0 in
    let bound : c.loop-place.next ≤ i = omega arith in
    let same : c.max.result ≡ i = omega arith in
    let mid = served_kept c.loop-place.leaves.all c.decode_need.new.leaves.all c.loop-place.reads (map read_of needs) c.in-Ok-false.ensures.keeps.grows c.loop-place.invariant.served in
    let P : ℕ → Type 0 = λ k. ArePassed c.decode_need.new.leaves.all k (map read_of needs) in
    let M : ℕ → Type 0 = λ k. MovesNext needs c.decode_need.new.leaves.all c.args.next.now k in
    subst M (sym same) (moves_passed needs c.decode_need.new.leaves.all i c.args.next.now low (subst P c.loop-place.invariant.count mid.passed))

pub returns-in-Ok-false-clause-missing : goal.returns-in-Ok-false-clause-missing
returns-in-Ok-false-clause-missing c =
    let needs = c.args.needs.now in
    let i = c.loop-place.place in
    let there = rw c.in-Ok-false.field-0-test at c.in-Ok-false.ensures.there in
    let low = not_behind needs c.args.leaves.now.all c.loop-place.leaves.all c.args.next.now i c.read_at-need.result c.requires.decoded c.loop-place.invariant.keeps.grows c.read_at-need.ensures there.0 in
    let bound : c.loop-place.next ≤ i = omega arith in
    let same : c.max.result ≡ i = omega arith in
    let B : List Wanted → Type 0 = λ ws. bytes_of ws c.read_at-need.result.segment ≡ None in
    let L : ℕ → Type 0 = λ k. LacksNext c.args.reads.now.wanted c.args.leaves.now.all needs k in
    λ _. subst L (sym same) (lacks_at c.args.table.now c.args.reads.now.wanted c.args.leaves.now.all c.loop-place.leaves.all needs i c.read_at-need.result c.read_at-need.ensures c.loop-place.invariant.keeps there.0 (subst B c.loop-place.invariant.wanted there.1))

pub returns-in-Err-clause-keeps : goal.returns-in-Err-clause-keeps
returns-in-Err-clause-keeps c =
    let K : List Wanted → Type 0 = λ ws. KeepsLeaves c.args.table.now ws c.loop-place.leaves.all c.decode_need.new.leaves.all in
    keeps_then c.args.table.now c.args.reads.now.wanted c.args.leaves.now.all c.loop-place.leaves.all c.decode_need.new.leaves.all c.loop-place.invariant.keeps (subst K c.loop-place.invariant.wanted c.in-Err.ensures.keeps)

pub returns-in-Err-clause-only : goal.returns-in-Err-clause-only
returns-in-Err-clause-only c =
    let reads = map read_of c.args.needs.now in
    adds_then (IsNeededLeaf reads) c.args.leaves.now.all c.loop-place.leaves.all c.decode_need.new.leaves.all c.loop-place.invariant.only (need_added reads c.read_at-need.result c.loop-place.leaves.all c.decode_need.new.leaves.all (got_among reads c.loop-place.place c.read_at-need.result c.read_at-need.ensures) c.in-Err.ensures.only)

pub returns-in-Err-clause-served : goal.returns-in-Err-clause-served
returns-in-Err-clause-served c = served_kept c.loop-place.leaves.all c.decode_need.new.leaves.all c.loop-place.reads (map read_of c.args.needs.now) c.in-Err.ensures.keeps.grows c.loop-place.invariant.served

pub returns-in-Err-clause-here : goal.returns-in-Err-clause-here
returns-in-Err-clause-here c = here_then c.args.leaves.now c.loop-place.leaves c.decode_need.new.leaves c.loop-place.invariant.here c.in-Err.ensures.here

pub returns-in-Err-clause-moves : goal.returns-in-Err-clause-moves
returns-in-Err-clause-moves c =
    let needs = c.args.needs.now in
    let i = c.loop-place.place in
    let low = not_behind needs c.args.leaves.now.all c.loop-place.leaves.all c.args.next.now i c.read_at-need.result c.requires.decoded c.loop-place.invariant.keeps.grows c.read_at-need.ensures c.in-Err.ensures.lacking in
    let bound : c.loop-place.next ≤ i = omega arith in
    let same : c.max.result ≡ i = omega arith in
    let mid = served_kept c.loop-place.leaves.all c.decode_need.new.leaves.all c.loop-place.reads (map read_of needs) c.in-Err.ensures.keeps.grows c.loop-place.invariant.served in
    let P : ℕ → Type 0 = λ k. ArePassed c.decode_need.new.leaves.all k (map read_of needs) in
    let M : ℕ → Type 0 = λ k. MovesNext needs c.decode_need.new.leaves.all c.args.next.now k in
    subst M (sym same) (moves_passed needs c.decode_need.new.leaves.all i c.args.next.now low (subst P c.loop-place.invariant.count mid.passed))

pub returns-in-Err-clause-torn : goal.returns-in-Err-clause-torn
returns-in-Err-clause-torn c =
    let needs = c.args.needs.now in
    let i = c.loop-place.place in
    let low = not_behind needs c.args.leaves.now.all c.loop-place.leaves.all c.args.next.now i c.read_at-need.result c.requires.decoded c.loop-place.invariant.keeps.grows c.read_at-need.ensures c.in-Err.ensures.lacking in
    let bound : c.loop-place.next ≤ i = omega arith in
    let same : c.max.result ≡ i = omega arith in
    let T : List Wanted → Type 0 = λ ws. IsTornAt c.args.table.now ws needs i c.in-Err.error in
    let A : ℕ → Type 0 = λ k. IsTornAt c.args.table.now c.args.reads.now.wanted needs k c.in-Err.error in
    subst A (sym same) (subst T c.loop-place.invariant.wanted (torn_at c.args.table.now c.loop-place.reads.wanted needs i c.read_at-need.result c.in-Err.error c.read_at-need.ensures c.in-Err.ensures.torn))

pub returns-clause-moves : goal.returns-clause-moves
returns-clause-moves c =
    let needs = c.args.needs.now in
    let all : length needs ≤ c.loop-place.place = omega arith in
    let on : c.args.next.now ≤ c.max-2.result = omega arith in
    let P : ℕ → Type 0 = λ k. ArePassed c.loop-place.leaves.all k (map read_of needs) in
    moves_all needs c.loop-place.leaves.all c.loop-place.place c.args.next.now c.max-2.result on all (subst P c.loop-place.invariant.count c.loop-place.invariant.served.passed)

pub returns-clause-missing : goal.returns-clause-missing
returns-clause-missing c = λ less. absurd (omega arith)
