use Rattle.std.proofs.Common.{◌≡◌, ◌+◌, ◌-◌, ◌^◌, length, take, min, sym, ap, ◌∙◌, arith}
use Rattle.std.proofs.Math.Seq.{take-length}
use Rattle.vx_steps.proofs.HeldBytes.{held_as_data, held_in, held_more}
use Rattle.vx_steps.proofs.reads.ReadTable.held_bytes.Goals as goal

pub loop-wanted-preserved : goal.loop-wanted-preserved
loop-wanted-preserved c =
    let ws = c.deref-wanted-items.result.now in
    let i = c.loop-wanted.wanted-index in
    let w = c.wanted-item.result in
    c.saturating_add-held.ensures ∙ (ap (λ n. min (c.loop-wanted.held + n) (2 ^ 64 - 1)) c.held.ensures ∙ held_more ws i w (2 ^ 64 - 1) c.loop-wanted.held c.loop-wanted-test.true c.wanted-item.is c.loop-wanted.invariant)

pub returns : goal.returns
returns c =
    let ws = c.deref-wanted-items.result.now in
    let all : c.loop-wanted.wanted-index ≡ length ws = omega arith in
    let whole = ap (λ n. held_in (take n ws)) all ∙ (ap held_in (take-length ws) ∙ ap held_in c.deref-wanted-items.ensures.value) in
    rw (← c.self.view_is) (c.loop-wanted.invariant ∙ ap (λ n. min n (2 ^ 64 - 1)) (whole ∙ sym (held_as_data c.self.inside.wanted.items)))
