use Rattle.std.proofs.Common.{◌≡◌, ◌++◌, ℕ, List, subst}
use Rattle.std.specs.Result.{OnOk}
use Rattle.vx_arrays.proofs.WrittenRows.{truths_written, numbers_written, texts_written, texts_short}
use Rattle.vx_arrays.proofs.arrays.Array.write_buffers.Goals as goal

pub write_all-requires : goal.write_all-requires
write_all-requires c = texts_short c.self.inside.validity c.self.inside.buffers c.in-Texts.texts c.args.self.now c.self.view_is c.self.invariant c.in-Texts.is c.requires.short

pub returns-in-Truths-clause-written : goal.returns-in-Truths-clause-written
returns-in-Truths-clause-written c =
    subst (λ (l : List ℕ). OnOk c.append_bytes.result (c.append_bytes.new.into.items ≡ c.args.bytes.now.items ++ l))
    (truths_written c.self.inside.validity c.self.inside.buffers c.in-Truths.truths c.args.self.now c.self.view_is c.self.invariant c.in-Truths.is) c.append_bytes.ensures.added

pub returns-in-Numbers-clause-written : goal.returns-in-Numbers-clause-written
returns-in-Numbers-clause-written c =
    subst (λ (l : List ℕ). OnOk c.write.result (c.write.new.bytes.items ≡ c.args.bytes.now.items ++ l))
    (numbers_written c.self.inside.validity c.self.inside.buffers c.in-Numbers.numbers c.args.self.now c.self.view_is c.self.invariant c.in-Numbers.is) c.write.ensures.written

pub returns-in-Texts-clause-written : goal.returns-in-Texts-clause-written
returns-in-Texts-clause-written c =
    subst (λ (l : List ℕ). OnOk c.write_all.result (c.write_all.new.bytes.items ≡ c.args.bytes.now.items ++ l))
    (texts_written c.self.inside.validity c.self.inside.buffers c.in-Texts.texts c.args.self.now c.self.view_is c.self.invariant c.in-Texts.is) c.write_all.ensures.written
