use Rattle.std.proofs.Common.{◌++◌, List, map}
use Rattle.std.proofs.lemmas.List.Sorted.{IsPermutation-append_right, IsPermutation-map}
use Rattle.vx_steps.specs.declared.leaf_reads.LeafRead.{LeafRead}
use Rattle.vx_steps.specs.Pieces.{read_of}
use Rattle.vx_steps.proofs.OpenRests.{open_first}
use Rattle.vx_steps.proofs.Tallies.{tally_permuted}
use Rattle.vx_steps.proofs.turns.start_split.Goals as goal

pub returns-clause-starting : goal.returns-clause-starting
returns-clause-starting c =
    let needs = c.in_ok-found.found.needs.items in
    let permutes = rw c.deref-3.ensures.value at c.in_ok-rest.ensures in
    record {
      placed = c.in_ok-found.ensures.placed;
      order = c.in_ok-found.ensures.order;
      are_leaves = c.in_ok-found.ensures.leaves;
      row = c.none.ensures.row;
      done = c.none.ensures.done;
      next = c.none.ensures.next;
      made = λ made. c.in_ok-found.ensures.asks (c.none.ensures.made made);
      rest = open_first needs c.in_ok-rest.rest permutes;
    }

pub returns-clause-asked : goal.returns-clause-asked
returns-clause-asked c = rw c.deref-2.ensures.value at c.in_ok-want_needs.ensures.all

pub returns-clause-only : goal.returns-clause-only
returns-clause-only c = rw c.deref-2.ensures.value at c.in_ok-want_needs.ensures.only

pub returns-clause-named : goal.returns-clause-named
returns-clause-named c = rw c.deref-2.ensures.value at c.in_ok-want_needs.ensures.named

pub returns-clause-room : goal.returns-clause-room
returns-clause-room c = rw c.deref.ensures.value at c.in_ok-make_room.ensures.room

pub returns-clause-tallies : goal.returns-clause-tallies
returns-clause-tallies c = λ before tally.
    let needs = c.in_ok-found.found.needs.items in
    let rest = c.in_ok-rest.rest in
    let permutes = rw c.deref-3.ensures.value at c.in_ok-rest.ensures in
    let added = rw c.deref-4.ensures.value at c.in_ok-add_needs.ensures.added in
    let reads : List LeafRead = map read_of needs in
    let left : List LeafRead = map read_of rest in
    tally_permuted c.add_needs.new.still (before ++ reads) (before ++ left) (IsPermutation-append_right before reads left (IsPermutation-map read_of needs rest permutes)) (added before tally)
