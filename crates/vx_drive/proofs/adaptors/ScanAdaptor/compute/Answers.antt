use Rattle.std.proofs.Common.{◌≡◌, ◌≢◌, ◌+◌, ◌∙◌, None, length, sym, inr, arith, rules}
use Rattle.vx_drive.specs.declared.adaptors.State.TheVariants as states
use Rattle.vx_drive.specs.Adaptors.{adaptor_data}
use Rattle.vx_drive.proofs.Computing.{computed_asked, computed_few, computed_fits, computes, stops}
use Rattle.vx_drive.proofs.adaptors.ScanAdaptor.compute.Goals as goal

pub overflow_add-self : goal.overflow_add-self
overflow_add-self c =
    let live : c.args.self.now.state ≢ states.Done = search rules in
    let few = computed_few c.args.self.now.locations.now c.batch_fetches.new.batch.items c.in-Ok.turn (adaptor_data c.args.self.now) c.batch_fetches.new.scan (c.args.self.now.ready live) (c.in-Ok.ensures {u = tt}) in
    omega (arith, few, c.len.ensures, c.args.self.now.few)

pub invariant_of-self-in-Ok : goal.invariant_of-self-in-Ok
invariant_of-self-in-Ok c =
    let live : c.args.self.now.state ≢ states.Done = search rules in
    let counted : c.args.self.now.asked + c.len.result ≡ c.args.self.now.asked + length c.batch_fetches.new.batch.items = omega (arith, c.len.ensures) in
    record {
      few = c.args.self.now.few;
      fits = computed_fits c.args.self.now.locations.now c.batch_fetches.new.batch.items c.in-Ok.turn (adaptor_data c.args.self.now) c.batch_fetches.new.scan (c.args.self.now.asked + c.len.result) (c.args.self.now.ready live) counted (c.in-Ok.ensures {u = tt}) c.args.self.now.fits;
      ready = λ differs. computed_asked c.args.self.now.locations.now c.batch_fetches.new.batch.items c.in-Ok.turn (adaptor_data c.args.self.now) c.batch_fetches.new.scan (c.args.self.now.asked + c.len.result) (c.args.self.now.ready live) counted (c.in-Ok.ensures {u = tt});
    }

pub returns-in-Ok-clause-gives : goal.returns-in-Ok-clause-gives
returns-in-Ok-clause-gives c =
    let live : c.args.self.now.state ≢ states.Done = search rules in
    let empty : c.args.self.now.held ≡ None = sym c.take.ensures.value ∙ c.in_default.is in
    let counted : c.args.self.now.asked + c.len.result ≡ c.args.self.now.asked + length c.batch_fetches.new.batch.items = omega (arith, c.len.ensures) in
    inr (
      live,
      computes c.args.self.now.locations.now c.batch_fetches.new.batch c.in-Ok.turn c.step_of.result (adaptor_data c.args.self.now) c.batch_fetches.new.scan (c.args.self.now.asked + c.len.result) c.step_of.new.held c.step_of.new.state empty (c.args.self.now.ready live) counted
          (c.in-Ok.ensures {u = tt}) c.step_of.ensures,
    )

pub returns-in-Err-clause-gives : goal.returns-in-Err-clause-gives
returns-in-Err-clause-gives c =
    let live : c.args.self.now.state ≢ states.Done = search rules in
    let empty : c.args.self.now.held ≡ None = sym c.take.ensures.value ∙ c.in_default.is in
    inr (live, stops c.args.self.now.locations.now c.batch_fetches.new.batch.items c.in-Err.error (adaptor_data c.args.self.now) c.batch_fetches.new.scan c.take.new.self empty c.take.ensures.after (c.args.self.now.ready live) (c.in-Err.ensures {u = tt}))
