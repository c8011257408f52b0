use Rattle.std.proofs.Common.{◌<◌, inl, inr, length, map, Some, sym, ap, ◌∙◌, arith}
use Rattle.std.proofs.lemmas.Grind.{common_steps}
use Rattle.vx_steps.specs.ReadTableData.{bytes_in, is_gone, stored_data, wanted_data}
use Rattle.vx_steps.proofs.WantedReads.{place_inside, stands_is, stored_at, wanted_at, bytes_at, bytes_none}
use Rattle.vx_steps.proofs.reads.ReadTable.bytes.Goals as goal

pub index-requires : goal.index-requires
index-requires c =
    let inside : c.in-Some.place < length c.self.inside.wanted.items = place_inside c.self.inside.places c.self.inside.wanted.items c.self.inside.handed c.self.invariant c.args.segment c.in-Some.place (sym c.in-Some.ensures) in
    grind (arith, common_steps)

pub returns-in-Came : goal.returns-in-Came
returns-in-Came c =
    let ws = c.self.inside.wanted.items in
    let e = sym c.in-Some.ensures in
    let inside : c.in-Some.place < length ws = place_inside c.self.inside.places ws c.self.inside.handed c.self.invariant c.args.segment c.in-Some.place e in
    let at = wanted_at ws c.in-Some.place c.index.result.now inside c.index.ensures in
    rw (← c.self.view_is) (bytes_at c.self.inside.places (map wanted_data ws) c.self.inside.handed c.self.invariant c.args.segment c.in-Some.place (wanted_data c.index.result.now) e at ∙ ap bytes_in c.in-Came.is ∙ sym (ap Some c.as_slice.ensures.value))

pub returns-in-NotYet : goal.returns-in-NotYet
returns-in-NotYet c =
    let ws = c.self.inside.wanted.items in
    let e = sym c.in-Some.ensures in
    let inside : c.in-Some.place < length ws = place_inside c.self.inside.places ws c.self.inside.handed c.self.invariant c.args.segment c.in-Some.place e in
    let at = wanted_at ws c.in-Some.place c.index.result.now inside c.index.ensures in
    rw (← c.self.view_is) (inl (bytes_at c.self.inside.places (map wanted_data ws) c.self.inside.handed c.self.invariant c.args.segment c.in-Some.place (wanted_data c.index.result.now) e at ∙ ap bytes_in c.in-NotYet.is))

pub returns-in-LetGo : goal.returns-in-LetGo
returns-in-LetGo c =
    let ws = c.self.inside.wanted.items in
    let e = sym c.in-Some.ensures in
    let inside : c.in-Some.place < length ws = place_inside c.self.inside.places ws c.self.inside.handed c.self.invariant c.args.segment c.in-Some.place e in
    let at = wanted_at ws c.in-Some.place c.index.result.now inside c.index.ensures in
    let is = stands_is (map wanted_data ws) c.args.segment c.in-Some.place (wanted_data c.index.result.now) at (c.self.invariant.stands c.args.segment c.in-Some.place e) in
    rw (← c.self.view_is) (inr (c.in-Some.place, stored_data c.index.result.now, stored_at ws c.in-Some.place c.index.result.now inside c.index.ensures, is, ap is_gone c.in-LetGo.is))

pub returns-in-None : goal.returns-in-None
returns-in-None c =
    let ws = c.self.inside.wanted.items in
    rw (← c.self.view_is) (inl (bytes_none c.self.inside.places (map wanted_data ws) c.self.inside.handed c.self.invariant c.args.segment (sym c.in-None.ensures)))
