use Rattle.std.proofs.Common.{◌≡◌, ◌-◌, ◌++◌, [], ◌∷◌, refl, ap, ◌∙◌, arith, rules}
use Rattle.vx_steps.specs.declared.progress.Turn.TheVariants as turns
use Rattle.vx_steps.proofs.Growing.{got_same}
use Rattle.vx_io.specs.declared.requests.IoRequest.{IoRequest}
use Rattle.vx_drive.specs.Fetched.{fetch_at, location_of}
use Rattle.vx_drive.specs.Batched.{GivesTurn, IsNoRead, count_behind}
use Rattle.vx_drive.proofs.Continuing.{keeps_then}
use Rattle.vx_drive.proofs.HandingOut.{few_asked, batch_more, batch_none, lacks_location, read_of}
use Rattle.vx_drive.proofs.Stepping.{refused_behind}
use Rattle.vx_drive.proofs.batching.batch_fetches.Goals as goal

pub batching-init : goal.batching-init
batching-init c = batch_none c.args.locations.now c.args.first c.args.batch.now.items c.args.scan.now c.requires.empty c.requires.asked

pub returns-then-segment-locations : goal.returns-then-segment-locations
returns-then-segment-locations c =
    let gives : GivesTurn (turns.Read c.in-Ok-Read.read) c.batching.scan c.step.new.scan = rw c.in-Ok-Read.field-0-is at (c.in-Ok-Read.ensures {u = tt}) in (
      keeps_then c.args.scan.now c.batching.scan c.step.new.scan c.batching.invariant.scan.keeps gives.scan.keeps,
      lacks_location c.args.locations.now c.args.first c.batching.batch.items c.args.scan.now c.batching.scan c.step.new.scan c.in-Ok-Read.read c.batching.invariant gives c.if-segment-locations.true,
    )

pub overflow_cast-read : goal.overflow_cast-read
overflow_cast-read c =
    let gives : GivesTurn (turns.Read c.in-Ok-Read.read) c.batching.scan c.step.new.scan = rw c.in-Ok-Read.field-0-is at (c.in-Ok-Read.ensures {u = tt}) in
    let number = (read_of c.in-Ok-Read.read c.batching.scan c.step.new.scan gives).number in
    let few = few_asked c.args.locations.now c.args.first (count_behind c.args.first c.batching.scan.progress.reads) c.batching.scan c.batching.invariant.asked in
    omega (arith, number, few, c.requires.few)

pub returns-then-is_err : goal.returns-then-is_err
returns-then-is_err c =
    let gives : GivesTurn (turns.Read c.in-Ok-Read.read) c.batching.scan c.step.new.scan = rw c.in-Ok-Read.field-0-is at (c.in-Ok-Read.ensures {u = tt}) in
    (keeps_then c.args.scan.now c.batching.scan c.step.new.scan c.batching.invariant.scan.keeps gives.scan.keeps, tt)

pub batching-preserved : goal.batching-preserved
batching-preserved c =
    let gives : GivesTurn (turns.Read c.in-Ok-Read.read) c.batching.scan c.step.new.scan = rw c.in-Ok-Read.field-0-is at (c.in-Ok-Read.ensures {u = tt}) in
    let fetch : c.fetch-request.result ≡ fetch_at (c.in-Ok-Read.read.id.0 - c.args.first) (location_of c.args.locations.now c.in-Ok-Read.read.segment_id) =
    c.fetch-request.ensures ∙ ap (fetch_at (c.in-Ok-Read.read.id.0 - c.args.first)) (got_same c.args.locations.now c.in-Ok-Read.read.segment_id _ (record { offset = 0; length = 0; alignment = 0 }) c.if-segment-locations.false) in
    let pushed : c.push.new.self.items ≡ c.batching.batch.items ++ c.fetch-request.result ∷ [] = search rules in
    batch_more c.args.locations.now c.args.first c.batching.batch.items c.push.new.self.items c.args.scan.now c.batching.scan c.step.new.scan c.in-Ok-Read.read (location_of c.args.locations.now c.in-Ok-Read.read.segment_id) (let all = c.requires.asked.all in omega (arith, all)) c.batching.invariant gives c.if-segment-locations.false refl
    (pushed ∙ ap (λ (one : IoRequest). c.batching.batch.items ++ one ∷ []) fetch)

pub returns-in-Ok : goal.returns-in-Ok
returns-in-Ok c =
    let plain : IsNoRead c.in-Ok.turn = search rules in
    (c.batching.scan, c.batching.invariant, c.in-Ok.ensures {u = tt}, plain)

pub returns-in-Err : goal.returns-in-Err
returns-in-Err c = refused_behind c.args.locations.now c.in-Err.error c.args.scan.now c.batching.scan c.step.new.scan c.batching.invariant.scan.keeps (c.in-Err.ensures {u = tt})
