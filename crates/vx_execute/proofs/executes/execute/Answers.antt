use Rattle.std.proofs.Common.{◌<◌, List, length, map, inl, arith}
use Rattle.std.proofs.lemmas.List.{length-map}
use Rattle.vx_execute.proofs.Executing.{executed_by}
use Rattle.vx_execute.proofs.executes.execute.Goals as goal
use Rattle.vx_base.specs.Sources.{SourceState}

pub validate-requires-clause-once : goal.validate-requires-clause-once
validate-requires-clause-once g c = λ x.
    let ran = c.work_all-joined.ensures.claimed x in
    let once = c.work_all-joined.ensures.apart.once x in
    omega (arith, ran, once)

pub returns : goal.returns
returns g c =
    let befores : List SourceState = map g.S.SegmentSource.state c.args.sources.now in
    let many = length-map c.args.sources.now g.S.SegmentSource.state in
    let lent = c.requires.some in
    let some : 0 < length befores = omega (arith, many, lent) in
    inl (executed_by g.S.SegmentSource.state c.args.plans.now c.args.chunks.now c.work_all-joined.result c.validate.result befores c.work_all-joined.new.sources c.index-sources-0.result c.validate.new.source some c.work_all-joined.ensures c.validate.ensures)
