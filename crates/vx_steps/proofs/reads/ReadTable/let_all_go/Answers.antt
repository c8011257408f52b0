use Rattle.std.proofs.Common.{rules, ℕ, ◌+◌, ◌<◌, List, length, map, ap, ◌∙◌, sym, subst, arith}
use Rattle.std.proofs.lemmas.List.{length-map}
use Rattle.std.specs.Option.{is_some}
use Rattle.std.specs.Prelude.{Option}
use Rattle.std.specs.BTreeMap.{BTreeMap}
use Rattle.vx_steps.specs.declared.reads.WantedSegment.{WantedSegment}
use Rattle.vx_steps.specs.ReadTable.{bytes_of, AreReads}
use Rattle.vx_steps.specs.ReadTableData.{Wanted, wanted_data}
use Rattle.vx_steps.proofs.LettingAllGo.{IsLet, all_gone, let_more}
use Rattle.vx_steps.proofs.WantedReads.{item_at, same_set}
use Rattle.vx_steps.proofs.reads.ReadTable.let_all_go.Goals as goal

pub loop-place-preserved : goal.loop-place-preserved
loop-place-preserved c =
    let ws = c.loop-place.self-inside.wanted.items in
    let place = c.loop-place.place in
    let w = c.index_mut.result.now in
    let v : WantedSegment = record { segment = w.segment; bytes = c.let_go.new.self; last = w.last } in
    let top : place < length c.self.inside.wanted.items = search rules in
    let count = length-map ws wanted_data in
    let before = length-map c.self.inside.wanted.items wanted_data in
    let lengths = ap length c.loop-place.invariant.wanted in
    let inside : place < length ws = omega arith in
    let at = item_at ws place w inside c.index_mut.ensures.value in
    let own : IsLet v = λ came. c.let_go.ensures.gone ∙ (ap is_some (sym c.let_go.ensures.bytes) ∙ came) in
    record {
      wanted = same_set wanted_data ws place v w at (ap (λ (b : Option (List ℕ)). record { segment = w.segment; bytes = b }) c.let_go.ensures.bytes) ∙ c.loop-place.invariant.wanted;
      handed = c.loop-place.invariant.handed;
      places = c.loop-place.invariant.places;
      let_go = let_more ws place v own c.loop-place.invariant.let_go;
    }

pub invariant_of-self : goal.invariant_of-self
invariant_of-self c =
    let W : List Wanted → Type 0 = λ wanted. AreReads c.loop-place.self-inside.places wanted c.loop-place.self-inside.handed in
    let P : BTreeMap ℕ ℕ → Type 0 = λ places. AreReads places (map wanted_data c.self.inside.wanted.items) c.loop-place.self-inside.handed in
    let H : ℕ → Type 0 = λ handed. AreReads c.self.inside.places (map wanted_data c.self.inside.wanted.items) handed in
    subst W (sym c.loop-place.invariant.wanted) (subst P (sym c.loop-place.invariant.places) (subst H (sym c.loop-place.invariant.handed) c.self.invariant))

pub returns : goal.returns
returns c =
    let ws = c.loop-place.self-inside.wanted.items in
    let place = c.loop-place.place in
    let same = c.loop-place.invariant.wanted in
    let count = length-map ws wanted_data in
    let before = length-map c.self.inside.wanted.items wanted_data in
    let lengths = ap length same in
    let all : length ws < place + 1 = omega arith in
    rw (← c.self.view_is) (record {
      wanted = same;
      handed = c.loop-place.invariant.handed;
      gone = λ segment bytes came. all_gone ws place segment bytes all c.loop-place.invariant.let_go (ap (λ (wanted : List Wanted). bytes_of wanted segment) same ∙ came);
    })
