use Rattle.std.proofs.Common.{rules, ◌∙◌, ◌<◌, length, map}
use Rattle.std.proofs.lemmas.Option.{slice_get_within}
use Rattle.vx_steps.specs.Pieces.{read_of}
use Rattle.vx_steps.proofs.Arriving.{came_then}
use Rattle.vx_steps.proofs.Needing.{asked_more, only_more, grows_then, placed_at, read_inside, read_is, reads_inside, all_placed}
use Rattle.vx_steps.proofs.Releasing.{named_more, stored_then}
use Rattle.vx_steps.proofs.needs.want_needs.Goals as goal

pub loop-place-preserved : goal.loop-place-preserved
loop-place-preserved c =
    let needs = map read_of c.args.needs.now in
    let i = c.loop-place.place in
    let need = read_of (placed_at c.args.needs.now i) in
    let is = read_is c.args.needs.now i c.loop-place-test.true in
    let inside = read_inside c.args.needs.now i c.loop-place-test.true in
    let h = c.in_ok-want_need.ensures in
    record {
      all = asked_more c.args.handed.now.all c.loop-place.reads.wanted c.want_need.new.reads.wanted needs i need inside is c.loop-place.invariant.all h.grows h.all;
      only = only_more c.args.handed.now.all c.args.reads.now.wanted c.loop-place.reads.wanted c.want_need.new.reads.wanted needs i need inside is c.loop-place.invariant.only h.only;
      grows = grows_then c.args.reads.now.wanted c.loop-place.reads.wanted c.want_need.new.reads.wanted c.loop-place.invariant.grows h.grows;
      came = came_then c.args.reads.now.wanted c.loop-place.reads.wanted c.want_need.new.reads.wanted c.loop-place.invariant.came h.came;
      count = h.handed ∙ c.loop-place.invariant.count;
      named = named_more c.args.handed.now.all needs i need inside is c.loop-place.reads c.want_need.new.reads h.stored c.loop-place.invariant.named h.named;
      stored = stored_then c.args.reads.now c.loop-place.reads c.want_need.new.reads c.loop-place.invariant.stored h.stored;
      agrees = λ outside a. h.agrees outside (c.loop-place.invariant.agrees outside a);
    }

pub returns-in_err-want_need-clause-only : goal.returns-in_err-want_need-clause-only
returns-in_err-want_need-clause-only c =
    let needs = map read_of c.args.needs.now in
    let i = c.loop-place.place in
    only_more c.args.handed.now.all c.args.reads.now.wanted c.loop-place.reads.wanted c.want_need.new.reads.wanted needs i (read_of (placed_at c.args.needs.now i)) (read_inside c.args.needs.now i c.loop-place-test.true) (read_is c.args.needs.now i c.loop-place-test.true) c.loop-place.invariant.only c.in_err-want_need.ensures.only

pub returns-in_err-want_need-clause-came : goal.returns-in_err-want_need-clause-came
returns-in_err-want_need-clause-came c = came_then c.args.reads.now.wanted c.loop-place.reads.wanted c.want_need.new.reads.wanted c.loop-place.invariant.came c.in_err-want_need.ensures.came

pub returns-in_err-want_need-clause-agrees : goal.returns-in_err-want_need-clause-agrees
returns-in_err-want_need-clause-agrees c = λ outside a. c.in_err-want_need.ensures.agrees outside (c.loop-place.invariant.agrees outside a)

pub returns-in_err-want_need-clause-stored : goal.returns-in_err-want_need-clause-stored
returns-in_err-want_need-clause-stored c = stored_then c.args.reads.now c.loop-place.reads c.want_need.new.reads c.loop-place.invariant.stored c.in_err-want_need.ensures.stored

pub returns-clause-named : goal.returns-clause-named
returns-clause-named c = λ place need at none.
    let inside : place < length c.args.needs.now = reads_inside c.args.needs.now place (slice_get_within (map read_of c.args.needs.now) place need at) in
    let passed : place < c.loop-place.place = search rules in
    c.loop-place.invariant.named place passed need at none

pub returns-clause-all : goal.returns-clause-all
returns-clause-all c = λ need among none. c.loop-place.invariant.all (read_of need) (all_placed c.args.needs.now c.loop-place.place (search rules) need among) none
