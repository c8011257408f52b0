use Rattle.std.proofs.Common.{rules, ◌+◌, ◌^◌, ◌<◌, length, map, None, refl, arith}
use Rattle.std.proofs.lemmas.Grind.{common_steps}
use Rattle.std.proofs.lemmas.List.{length-map}
use Rattle.vx_steps.specs.ReadTableData.{wanted_data}
use Rattle.vx_steps.proofs.WantedReads.{wanted_at, not_handed, only_place}
use Rattle.vx_steps.proofs.reads.ReadTable.hand_out.Goals as goal

pub returns-clause-turn : goal.returns-clause-turn
returns-clause-turn c =
    let ws = c.self.inside.wanted.items in
    let handed = c.self.inside.handed in
    let inside : handed < length ws = grind (arith, common_steps, length-map, c.self.invariant.handed_inside) in
    let at = wanted_at ws handed c.index.result.now inside c.index.ensures in
    let none = not_handed c.self.inside.places (map wanted_data ws) handed c.self.invariant (wanted_data c.index.result.now) at in
    let bounded : handed + 1 < 2 ^ 64 = search rules in
    rw (← c.self.view_is) (record {
      number = refl;
      segment = none;
      first = λ place stands. only_place c.self.inside.places (map wanted_data ws) handed c.self.invariant place handed (record { segment = c.index.result.now.segment; bytes = None }) none stands;
      handed = refl;
      bounded = bounded;
      wanted = refl;
    })

pub returns-clause-stored : goal.returns-clause-stored
returns-clause-stored c = rw (← c.self.view_is) (record { named = λ segment n named. named; gone = λ segment gone. gone; still_gone = λ segment gone. gone; passed = refl })
