use Rattle.std.proofs.Common.{◌∙◌, ℕ, ◌+◌, subst, arith}
use Rattle.vx_steps.specs.ScanData.{TakesBytes}
use Rattle.vx_drive.specs.AdaptorData.{read_numbered}
use Rattle.vx_drive.specs.Adaptors.{adaptor_data}
use Rattle.vx_drive.proofs.Resulting.{asked_delivered, done_after, takes_result}
use Rattle.vx_drive.proofs.adaptors.ScanAdaptor.set_io_result.Goals as goal

pub invariant_of-self : goal.invariant_of-self
invariant_of-self c =
    let now = c.args.self.now in
    let takes : TakesBytes (read_numbered (now.first + c.args.request.0)) c.args.bytes.items now.scan c.deliver.new.self = subst (λ (n : ℕ). TakesBytes (read_numbered (now.first + n)) c.args.bytes.items now.scan c.deliver.new.self) c.from-number.ensures c.in-Ok.ensures in
    record {
      few = now.few;
      fits = now.fits;
      ready = λ differs. asked_delivered now.locations.now now.first c.args.request.0 c.args.bytes.items now.asked now.scan.progress.reads c.deliver.new.self.progress.reads (omega (arith, c.if-number-self.false, c.from-number.ensures)) takes.delivers (now.ready (λ done. differs (c.after_result-self.ensures ∙ done_after now.state done)));
    }

pub returns-in-Ok-clause-gives : goal.returns-in-Ok-clause-gives
returns-in-Ok-clause-gives c =
    let now = c.args.self.now in
    let takes : TakesBytes (read_numbered (now.first + c.args.request.0)) c.args.bytes.items now.scan c.deliver.new.self = subst (λ (n : ℕ). TakesBytes (read_numbered (now.first + n)) c.args.bytes.items now.scan c.deliver.new.self) c.from-number.ensures c.in-Ok.ensures in
    takes_result c.args.request.0 c.args.bytes.items (adaptor_data now) c.deliver.new.self c.after_result-self.result (omega (arith, c.if-number-self.false, c.from-number.ensures)) takes c.after_result-self.ensures
