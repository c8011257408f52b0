use Rattle.std.proofs.Common.{ap, arith, length, List, ℕ}
use Rattle.vx_arrays.proofs.CutTexts.{length_cut}
use Rattle.vx_arrays.proofs.texts.Texts.append.Goals as goal

pub push_texts-requires-clause-inside : goal.push_texts-requires-clause-inside
push_texts-requires-clause-inside c =
    omega (arith, c.len.ensures.count, ap (λ (ts : List (List ℕ)). length ts) c.other.view_is, length_cut c.other.inside.bytes.items 0 c.other.inside.ends.items, ap (λ (es : List ℕ). length es) c.deref-2.ensures.value)
