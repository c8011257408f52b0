use Rattle.std.proofs.Common.{◌≡◌, ℕ, ◌==◌, List, [], ◌∷◌, ◌++◌, Some, None, length, sym, subst, arith}
use Rattle.std.proofs.lemmas.Grind.{common_steps}
use Rattle.std.specs.BTreeMap.{get}
use Rattle.std.specs.Ordering.{nat_cmp}
use Rattle.std.specs.Prelude.{if◌then◌else◌}
use Rattle.vx_steps.specs.HeldData.{ArePlacesOf}
use Rattle.vx_steps.specs.Needs.{Among}
use Rattle.vx_steps.proofs.Slots.{one_more_place, one_more_room, room_at, room_stays}
use Rattle.vx_steps.proofs.held_segments.HeldSegments.make_room.Goals as goal

pub returns-then-contains_key-clause-room : goal.returns-then-contains_key-clause-room
returns-then-contains_key-clause-room c = rw (← c.self.view_is) (room_at c.self.inside.places c.self.inside.slots.items c.args.segment c.self.invariant.placed c.if-contains_key.ensures)

pub invariant_of-self-else-is_err : goal.invariant_of-self-else-is_err
invariant_of-self-else-is_err c =
    let slots = c.self.inside.slots.items in
    let put : (s : ℕ) → get nat_cmp c.insert.new.self s ≡ (if c.args.segment == s then Some (length slots) else get nat_cmp c.self.inside.places s) = λ s. grind (arith, common_steps) in
    let none : get nat_cmp c.self.inside.places c.args.segment ≡ None = grind (arith, common_steps) in
    let more : c.push.new.self.items ≡ slots ++ c.args.segment ∷ [] = grind (arith, common_steps) in
    let P : List ℕ → Type 0 = λ xs. ArePlacesOf c.insert.new.self xs in
    let inside = c.self.invariant.inside in
    record {
      placed = subst P (sym more) (one_more_place c.self.inside.places c.insert.new.self slots c.args.segment c.self.invariant.placed none put);
      inside = grind (arith, common_steps);
    }

pub returns-clause-room : goal.returns-clause-room
returns-clause-room c =
    let slots = c.self.inside.slots.items in
    let more : c.push.new.self.items ≡ slots ++ c.args.segment ∷ [] = grind (arith, common_steps) in
    subst (λ (xs : List ℕ). Among c.args.segment xs) (sym more) (one_more_room slots c.args.segment)

pub returns-clause-kept : goal.returns-clause-kept
returns-clause-kept c =
    let slots = c.self.inside.slots.items in
    let more : c.push.new.self.items ≡ slots ++ c.args.segment ∷ [] = grind (arith, common_steps) in
    rw (← c.self.view_is) (λ s room. subst (λ (xs : List ℕ). Among s xs) (sym more) (room_stays slots (c.args.segment ∷ []) s room))
