use Rattle.std.proofs.Common.{◌≡◌, ◌<◌, length, map, None, refl, sym, ap, ◌∙◌, subst, arith}
use Rattle.std.proofs.lemmas.Grind.{common_steps}
use Rattle.std.proofs.lemmas.List.{length-map, map-set}
use Rattle.vx_steps.specs.declared.reads.SegmentBytes.TheVariants.{Came}
use Rattle.vx_steps.specs.declared.reads.WantedSegment.{WantedSegment}
use Rattle.vx_steps.specs.ReadTable.{bytes_of}
use Rattle.vx_steps.specs.ReadTableData.{bytes_in, wanted_data}
use Rattle.vx_steps.proofs.WantedReads.{item_at, wanted_at, bytes_at, bytes_came, came_stored, none_is, still_none, is_still, same_item}
use Rattle.vx_steps.proofs.reads.ReadTable.deliver.Goals as goal

pub invariant_of-self : goal.invariant_of-self
invariant_of-self c =
    let ws = c.self.inside.wanted.items in
    let place = c.args.read.0 in
    let inside : place < length ws = grind (arith, common_steps, length-map, c.self.invariant.handed_inside) in
    let at = wanted_at ws place c.index_mut.result.now inside c.index_mut.ensures.value in
    rw map-set (bytes_came c.self.inside.places (map wanted_data ws) c.self.inside.handed c.self.invariant place (wanted_data c.index_mut.result.now) c.args.bytes.items (omega arith) at)

pub returns : goal.returns
returns c =
    let ws = c.self.inside.wanted.items in
    let place = c.args.read.0 in
    let w = c.index_mut.result.now in
    let inside : place < length ws = grind (arith, common_steps, length-map, c.self.invariant.handed_inside) in
    let at = wanted_at ws place w inside c.index_mut.ensures.value in
    let before = wanted_at ws place c.index.result.now inside c.index.ensures in
    let none : bytes_in c.index.result.now.bytes ≡ None = none_is (bytes_in c.index.result.now.bytes) (sym c.if-came.ensures) in
    let still = still_none (map wanted_data ws) place (wanted_data w) (wanted_data c.index.result.now) at before none in
    let same = same_item ws place c.index.result.now w (item_at ws place c.index.result.now inside c.index.ensures) (item_at ws place w inside c.index_mut.ensures.value) in
    let N : WantedSegment → Type 0 = λ x. bytes_in x.bytes ≡ None in
    let same2 = same_item ws place c.index-2.result.now w (item_at ws place c.index-2.result.now inside c.index-2.ensures) (item_at ws place w inside c.index_mut.ensures.value) in
    let segment = ap (λ (x : WantedSegment). x.segment) (sym same2) in
    let came = bytes_at c.self.inside.places (map wanted_data ws) c.self.inside.handed c.self.invariant w.segment place (wanted_data w) (c.self.invariant.placed place (wanted_data w) at) at in
    rw (← c.self.view_is) (record {
      delivers = (
        record {
          outstanding = (omega arith, is_still (map wanted_data ws) place w.segment still);
          segment = w.segment;
          at = still;
          taken = map-set wanted_data ws place (record { segment = w.segment; bytes = Came c.args.bytes; last = w.last });
          handed = refl;
        },
        segment,
        ap (bytes_of (map wanted_data ws)) (sym segment) ∙ came ∙ subst N same none,
      );
      stored = came_stored ws place w c.args.bytes (item_at ws place w inside c.index_mut.ensures.value) (subst N same none);
      passed = refl;
    })
