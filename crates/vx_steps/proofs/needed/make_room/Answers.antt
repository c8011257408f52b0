use Rattle.std.proofs.Common.{◌≤◌, ◌∙◌, ⊎_elim, length, rules, arith}
use Rattle.vx_steps.specs.HeldData.{HasRoom}
use Rattle.vx_steps.specs.SegmentRuns.{NamesAt}
use Rattle.vx_steps.proofs.Needing.{all_taken}
use Rattle.vx_steps.proofs.SegmentRuns.{named_inside, room_later, room_made}
use Rattle.vx_steps.proofs.needed.make_room.Goals.{then-not-names_at+in_ok-make_room, else-not-names_at}
use Rattle.vx_steps.proofs.needed.make_room.Goals as goal

pub loop-place-preserved : goal.loop-place-preserved
loop-place-preserved c =
    let needs = c.args.needs.now in
    let i = c.loop-place.place in
    elim c.if-not-names_at.branch [
      | then-not-names_at+in_ok-make_room w ↦ rw w.held-is (record {
        room = room_made needs i c.loop-place.held w.make_room.new.self c.loop-place-test.true w.in_ok-make_room.ensures.kept w.in_ok-make_room.ensures.room c.loop-place.invariant.room;
        kept = λ s has. w.in_ok-make_room.ensures.kept s (c.loop-place.invariant.kept s has);
        held = w.in_ok-make_room.ensures.held ∙ c.loop-place.invariant.held;
      })
      | else-not-names_at w ↦ rw w.held-is (record {
        room = room_later needs i c.loop-place.held c.loop-place-test.true w.if-not-names_at.ensures c.loop-place.invariant.room;
        kept = c.loop-place.invariant.kept;
        held = c.loop-place.invariant.held;
      })
    ]

pub returns-clause-room : goal.returns-clause-room
returns-clause-room c = λ need among.
    let needs = c.args.needs.now in
    let i = c.loop-place.place in
    let all : length needs ≤ i = search rules in
    ⊎_elim
    (λ (room : HasRoom c.loop-place.held need.segment). room)
    (λ (names : NamesAt needs i need.segment). absurd (let inside = named_inside needs i need.segment names in omega arith))
    (c.loop-place.invariant.room need (all_taken needs i (omega arith) need among))

pub returns-in_err-make_room-clause-kept : goal.returns-in_err-make_room-clause-kept
returns-in_err-make_room-clause-kept c = λ s has. c.in_err-make_room.ensures.kept s (c.loop-place.invariant.kept s has)

pub returns-in_err-make_room-clause-held : goal.returns-in_err-make_room-clause-held
returns-in_err-make_room-clause-held c = c.in_err-make_room.ensures.held ∙ c.loop-place.invariant.held
