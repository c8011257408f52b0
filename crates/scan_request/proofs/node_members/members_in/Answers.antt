use Rattle.std.proofs.Common.{◌≡◌, ◌<◌, length, Some, None, option_map, refl, sym, ap, ◌∙◌, arith}
use Rattle.json.specs.Json.{read_key}
use Rattle.json.proofs.Grammar.{read_key-shorter}
use Rattle.serde_json.specs.Data.{no_members, put}
use Rattle.scan_json.proofs.ObjectTurns.{member_put, object_begun, object_no_key, object_over, object_refused}
use Rattle.scan_request.specs.NodeMembers.{with_member}
use Rattle.scan_request.proofs.NodeMembers.{told_put}
use Rattle.scan_request.proofs.node_members.members_in.Goals as goal

pub members-init : goal.members-init
members-init c = (no_members, object_begun c.args.depth c.args.reader.now, refl)

pub returns-in_err-name-clause-refused : goal.returns-in_err-name-clause-refused
returns-in_err-name-clause-refused c invalid =
    object_no_key c.args.depth c.args.reader.now c.members.invariant.0 c.members.reader c.members.invariant.1 c.in_err-name.ensures.value

pub returns-in_err-member_told-clause-refused : goal.returns-in_err-member_told-clause-refused
returns-in_err-member_told-clause-refused c invalid =
    let named : read_key c.members.reader ≡ Some (Some c.in-Some.name.now, c.next_key.new.self) = grind arith in
    object_refused c.args.depth c.args.reader.now c.members.invariant.0 c.members.reader c.members.invariant.1 c.in-Some.name.now c.next_key.new.self named (c.member_told.ensures.refused (grind arith))

pub members-smaller : goal.members-smaller
members-smaller c =
    let named : read_key c.members.reader ≡ Some (Some c.in-Some.name.now, c.next_key.new.self) = grind arith in
    let shorter = read_key-shorter c.members.reader (Some c.in-Some.name.now) c.next_key.new.self named in
    let less : length c.member_told.new.reader < length c.members.reader = omega (arith, shorter, c.in_ok-member_told.ensures.shorter) in less

pub members-preserved : goal.members-preserved
members-preserved c =
    let found = c.members.invariant.0 in
    let k = c.in-Some.name.now in
    let named : read_key c.members.reader ≡ Some (Some k, c.next_key.new.self) = grind arith in
    let shorter = read_key-shorter c.members.reader (Some k) c.next_key.new.self named in
    let d = c.in_ok-member_told.ensures.ok in (
      put k d.0 found,
      member_put c.args.depth c.args.reader.now found c.members.reader c.members.invariant.1 k c.next_key.new.self c.member_told.new.reader d.0 named shorter d.1 c.in_ok-member_told.ensures.shorter,
      d.2 ∙ ap (with_member k d.0) c.members.invariant.2 ∙ sym (told_put k d.0 found),
    )

pub returns-clause-ok : goal.returns-clause-ok
returns-clause-ok c =
    let over : read_key c.members.reader ≡ Some (None, c.next_key.new.self) = grind arith in
    let found = c.members.invariant.0 in
    (found, object_over c.args.depth c.args.reader.now found c.members.reader c.members.invariant.1 c.next_key.new.self over, c.members.invariant.1.rising, c.members.invariant.2)

pub returns-clause-shorter : goal.returns-clause-shorter
returns-clause-shorter c =
    let over : read_key c.members.reader ≡ Some (None, c.next_key.new.self) = grind arith in
    omega (arith, read_key-shorter c.members.reader None c.next_key.new.self over, c.members.invariant.1.within)
