-- The next ticket was not in the table, and is found in it once the map has put it behind all others.
use Rattle.std.proofs.Common.{◌≡◌, ◌∙◌, ℕ, ◌<◌, ◌+◌, rules, refl, arith, nat_cmp}
use Rattle.std.specs.BTreeMap.{insert_entry}
use Rattle.std.proofs.lemmas.List.Elements.{All-push, All-weaker}
use Rattle.vx_outside.specs.declared.locations.SegmentLocation.{SegmentLocation}
use Rattle.vx_outside.proofs.Tickets.{next_not_found, appended_found, inserted_last}
use Rattle.vx_outside.proofs.in_flight.InFlight.start.Goals as goal

pub invariant_of-self-2 : goal.invariant_of-self-2
invariant_of-self-2 c =
    let put : c.insert.new.self.entries ≡ insert_entry nat_cmp c.self.inside.reads.entries c.self.inside.next c.args.at = search rules in
    let pushed = put ∙ inserted_last c.self.inside.reads.entries c.self.inside.next c.args.at c.self.invariant in
    rw pushed (All-push (λ (read : ℕ × SegmentLocation). read.0 < c.self.inside.next + 1) c.self.inside.reads.entries (c.self.inside.next, c.args.at)
    (All-weaker (λ (read : ℕ × SegmentLocation). read.0 < c.self.inside.next) (λ (read : ℕ × SegmentLocation). read.0 < c.self.inside.next + 1) (λ read below. omega arith) c.self.inside.reads.entries c.self.invariant)
    (omega arith))

pub returns-clause-fresh : goal.returns-clause-fresh
returns-clause-fresh c = rw (← c.self.view_is, next_not_found c.self.inside.reads.entries c.self.inside.next c.self.invariant) refl

pub returns-clause-located : goal.returns-clause-located
returns-clause-located c =
    let put : c.insert.new.self.entries ≡ insert_entry nat_cmp c.self.inside.reads.entries c.self.inside.next c.args.at = search rules in
    let pushed = put ∙ inserted_last c.self.inside.reads.entries c.self.inside.next c.args.at c.self.invariant in
    rw (pushed, appended_found c.self.inside.reads.entries c.self.inside.next c.args.at c.self.invariant) refl

pub returns-clause-appended : goal.returns-clause-appended
returns-clause-appended c =
    let put : c.insert.new.self.entries ≡ insert_entry nat_cmp c.self.inside.reads.entries c.self.inside.next c.args.at = search rules in
    let pushed = put ∙ inserted_last c.self.inside.reads.entries c.self.inside.next c.args.at c.self.invariant in
    rw (← c.self.view_is) pushed
