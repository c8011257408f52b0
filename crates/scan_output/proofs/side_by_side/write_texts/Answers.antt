use Rattle.std.proofs.Common.{subst, Err, Ok, arith}
use Rattle.scan_output.specs.Writing.{WritingGives}
use Rattle.scan_output.proofs.SideBySides.{none_written, text_written, text_failed, texts_written}
use Rattle.scan_output.proofs.side_by_side.write_texts.Goals as goal

pub loop-text-init : goal.loop-text-init
loop-text-init g c = none_written c.args.texts.now (g.K.Sink.state c.args.out.now)

pub returns-in-Err : goal.returns-in-Err
returns-in-Err g c =
    text_failed c.in-Err.error c.args.texts.now c.loop-text.text-index c.text-item.result (g.K.Sink.state c.args.out.now) (g.K.Sink.state c.loop-text.out) (g.K.Sink.state c.write_all.new.out) c.loop-text-test.true c.text-item.is c.loop-text.invariant
    (subst (λ text. WritingGives (Err c.in-Err.error) text (g.K.Sink.state c.loop-text.out) (g.K.Sink.state c.write_all.new.out)) c.deref.ensures.value (subst (λ r. WritingGives r c.deref.result.now (g.K.Sink.state c.loop-text.out) (g.K.Sink.state c.write_all.new.out)) c.in-Err.is c.write_all.ensures))

pub loop-text-preserved : goal.loop-text-preserved
loop-text-preserved g c =
    text_written c.args.texts.now c.loop-text.text-index c.text-item.result (g.K.Sink.state c.args.out.now) (g.K.Sink.state c.loop-text.out) (g.K.Sink.state c.write_all.new.out) c.loop-text-test.true c.text-item.is c.loop-text.invariant
    (subst (λ text. WritingGives (Ok tt) text (g.K.Sink.state c.loop-text.out) (g.K.Sink.state c.write_all.new.out)) c.deref.ensures.value (subst (λ r. WritingGives r c.deref.result.now (g.K.Sink.state c.loop-text.out) (g.K.Sink.state c.write_all.new.out)) c.in-Ok.is c.write_all.ensures))

pub returns : goal.returns
returns g c = texts_written c.args.texts.now c.loop-text.text-index (g.K.Sink.state c.args.out.now) (g.K.Sink.state c.loop-text.out) (omega (arith, c.loop-text-test.false)) c.loop-text.invariant
