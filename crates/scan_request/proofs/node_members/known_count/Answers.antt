use Rattle.std.proofs.Common.{◌≡◌, option_map, arith}
use Rattle.vx_base.specs.Views.{data_type}
use Rattle.scan_request.specs.NodeMembers.{there, told_by}
use Rattle.scan_request.proofs.NodeTold.{there_seen}
use Rattle.scan_request.proofs.node_members.known_count.Goals as goal

pub returns : goal.returns
returns c =
    let members = c.args.told.now in
    let kind : there members.kind ≡ there (told_by members).kind = there_seen (option_map (λ s. s.now)) members.kind in
    let dtype : there members.dtype ≡ there (told_by members).dtype = there_seen (option_map data_type) members.dtype in
    let children : there members.children ≡ there (told_by members).children = there_seen (option_map (λ v. v.items)) members.children in
    omega (arith, kind, dtype, children, c.there.ensures.count, c.there-2.ensures.count, c.there-3.ensures.count, c.there-4.ensures.count, c.there-5.ensures.count, c.there-6.ensures.count, c.there-7.ensures.count, c.there-8.ensures.count)
