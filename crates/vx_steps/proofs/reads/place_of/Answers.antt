use Rattle.std.proofs.Common.{◌≡◌, ◌<◌, length, sym, ap, ◌∙◌, arith}
use Rattle.std.specs.BTreeMap.{get}
use Rattle.std.specs.Ordering.{nat_cmp}
use Rattle.vx_steps.specs.ReadTableData.{wanted_data}
use Rattle.vx_steps.proofs.WantedReads.{wanted_at}
use Rattle.vx_steps.proofs.reads.place_of.Goals as goal

pub returns-then-index-segment : goal.returns-then-index-segment
returns-then-index-segment c =
    let ws = c.args.wanted.now.items in
    let w = c.index.result.now in
    let inside : c.args.recent < length ws = omega arith in
    let same : w.segment ≡ c.args.segment = omega arith in
    sym (c.requires c.args.recent (wanted_data w) (wanted_at ws c.args.recent w inside c.index.ensures)) ∙ ap (get nat_cmp c.args.places.now) same
