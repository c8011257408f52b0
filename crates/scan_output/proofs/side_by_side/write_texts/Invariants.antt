use Rattle.scan_output.proofs.SideBySides.{WroteTo}
use Rattle.scan_output.proofs.side_by_side.write_texts.Given as goal

abbrev pub invariant-loop-text : goal.invariant-loop-text
invariant-loop-text g l = WroteTo l.texts l.text-index (g.K.Sink.state l.fn.out) (g.K.Sink.state l.out)
