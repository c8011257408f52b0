use Rattle.std.proofs.Common.{◌≡◌, ℕ, ◌==◌, Some, set, ap, ◌∙◌}
use Rattle.std.specs.BTreeMap.{get}
use Rattle.std.specs.Ordering.{nat_cmp}
use Rattle.std.specs.Prelude.{Option, if◌then◌else◌}
use Rattle.vx_steps.proofs.Slots.{exchanged_places, has_place, placed_still, read_at, written}
use Rattle.vx_steps.proofs.held_segments.exchange.Goals as goal

pub put_place-requires : goal.put_place-requires
put_place-requires c = has_place c.args.places.now c.args.slots.now.items c.args.one c.index-first.result.now c.requires.placed c.requires.one c.index-first.ensures

pub put_place-requires-2 : goal.put_place-requires-2
put_place-requires-2 c = placed_still c.args.places.now c.put_place.new.places c.index-first.result.now c.args.other c.index-second.result.now c.put_place.ensures (has_place c.args.places.now c.args.slots.now.items c.args.other c.index-second.result.now c.requires.placed c.requires.other c.index-second.ensures)

pub returns-clause-exchanged : goal.returns-clause-exchanged
returns-clause-exchanged c = written c.args.slots.now.items c.args.one c.args.other c.index-first.result.now c.index-second.result.now c.requires.one c.requires.other c.index-first.ensures c.index-second.ensures

pub returns-clause-placed : goal.returns-clause-placed
returns-clause-placed c =
    let slots = c.args.slots.now.items in
    let one = c.args.one in
    let other = c.args.other in
    let first = c.index-first.result.now in
    let second = c.index-second.result.now in
    let put : (s : ℕ) → get nat_cmp c.put_place-2.new.places s ≡ (if second == s then Some one else if first == s then Some other else get nat_cmp c.args.places.now s) = λ s. c.put_place-2.ensures s ∙ ap (λ (o : Option ℕ). if second == s then Some one else o) (c.put_place.ensures s) in
    exchanged_places one other first second slots (set (set slots one second) other first) c.args.places.now c.put_place-2.new.places (read_at slots one first c.requires.one c.index-first.ensures) (read_at slots other second c.requires.other c.index-second.ensures) put (written slots one other first second c.requires.one c.requires.other c.index-first.ensures c.index-second.ensures) c.requires.placed
