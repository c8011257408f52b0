use Rattle.std.proofs.Common.{◌≡◌, ◌++◌, ◌∙◌, sym, ap, length, take, ℕ, List, append_assoc}
use Rattle.std.specs.Int.{w32, to_le_bytes}
use Rattle.std.specs.List.{flat_map}
use Rattle.vx_arrays.proofs.WrittenRows.{lens_more}
use Rattle.vx_arrays.proofs.texts.Texts.write_lengths.Goals as goal

pub loop-row-preserved : goal.loop-row-preserved
loop-row-preserved c =
    let f : List ℕ → List ℕ = λ t. to_le_bytes w32 (length t) in
    let old = c.args.bytes.now.items in
    let front = take c.loop-row.row c.args.self.now in
    let pushed : c.extend_from_slice.new.self.items ≡ c.loop-row.bytes.items ++ f c.text-len.result.now = c.in_default.ensures.items ∙ ap (λ (l : List ℕ). c.loop-row.bytes.items ++ l) c.to_le_bytes.ensures in
    pushed ∙ ap (λ (l : List ℕ). l ++ f c.text-len.result.now) c.loop-row.invariant ∙ append_assoc old (flat_map f front) (f c.text-len.result.now)
    ∙ ap (λ (l : List ℕ). old ++ l) (sym (lens_more f c.args.self.now c.loop-row.row c.text-len.result.now c.text-len.ensures))
