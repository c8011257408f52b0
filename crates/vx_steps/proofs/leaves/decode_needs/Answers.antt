use Rattle.std.proofs.Common.{◌≡◌, true, false, sym, ◌∙◌, map}
use Rattle.vx_steps.specs.Pieces.{read_of}
use Rattle.vx_steps.proofs.Counting.{counted_kept}
use Rattle.vx_steps.proofs.Releasing.{served_let}
use Rattle.vx_steps.proofs.leaves.decode_needs.Goals as goal

true_not_false : true ≡ false → ⊥
true_not_false same = cc

pub returns-then-last-clause-counted : goal.returns-then-last-clause-counted
returns-then-last-clause-counted c = counted_kept c.args.table.now c.args.leaves.now.all c.decode_last.new.leaves.all c.args.segments.now c.decode_last.ensures.keeps.grows c.requires.counted

pub returns-then-last-clause-decoded : goal.returns-then-last-clause-decoded
returns-then-last-clause-decoded c = record {
  keeps = c.decode_last.ensures.keeps;
  only = c.decode_last.ensures.only;
  wanted = c.decode_last.ensures.wanted;
  handed = c.decode_last.ensures.handed;
  served = c.decode_last.ensures.served;
  lets = λ other. absurd (true_not_false (sym c.if-last.true ∙ other));
  still_gone = c.decode_last.ensures.still_gone;
}

pub returns-clause-decoded : goal.returns-clause-decoded
returns-clause-decoded c = record {
  keeps = c.decode_from.ensures.keeps;
  only = c.decode_from.ensures.only;
  wanted = c.decode_from.ensures.lets.wanted;
  handed = c.decode_from.ensures.lets.handed;
  served = served_let c.args.table.now c.args.leaves.now.all c.decode_from.new.leaves.all c.args.reads.now c.decode_from.new.reads (map read_of c.args.needs.now) c.requires.known c.decode_from.ensures.keeps.grows c.decode_from.ensures.lets c.requires.served;
  lets = λ _. c.decode_from.ensures.lets;
  still_gone = c.decode_from.ensures.lets.still_gone;
}
