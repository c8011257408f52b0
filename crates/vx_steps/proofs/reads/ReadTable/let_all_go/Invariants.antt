use Rattle.std.proofs.Common.{◌≡◌, map}
use Rattle.vx_steps.specs.ReadTableData.{wanted_data}
use Rattle.vx_steps.proofs.LettingAllGo.{AreLet}
use Rattle.vx_steps.proofs.reads.ReadTable.let_all_go.Given as goal

abbrev pub invariant-loop-place : goal.invariant-loop-place
invariant-loop-place l = record {
  wanted : map wanted_data l.self-inside.wanted.items ≡ map wanted_data l.initial.self-inside.wanted.items;
  handed : l.self-inside.handed ≡ l.initial.self-inside.handed;
  places : l.self-inside.places ≡ l.initial.self-inside.places;
  let_go : AreLet l.self-inside.wanted.items l.place;
}
