use Rattle.std.specs.Vec.{vec_len}
use Rattle.std.proofs.Common.{arith}
use Rattle.vx_masks.proofs.Held.{resized, kept_words}
use Rattle.vx_masks.proofs.shared_words.own_words.Goals as goal

pub returns-then-not-is_empty : goal.returns-then-not-is_empty
returns-then-not-is_empty c = kept_words c.args.len (vec_len c.args.kept) c.args.kept.items c.is_empty.result (omega arith) c.is_empty.ensures c.if-not-is_empty.true

pub returns : goal.returns
returns c = resized c.args.len (vec_len c.args.kept) c.args.kept.items c.resize.new.self.items c.is_empty.result (omega arith) c.is_empty.ensures c.if-not-is_empty.false c.in_ok-resize.ensures.items
