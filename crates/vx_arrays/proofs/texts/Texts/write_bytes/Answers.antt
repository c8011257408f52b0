use Rattle.std.proofs.Common.{◌∙◌, ◌++◌, ap, sym, ℕ, List}
use Rattle.std.specs.List.{flat_map}
use Rattle.vx_arrays.proofs.CutTexts.{flat-cut}
use Rattle.vx_arrays.proofs.texts.Texts.write_bytes.Goals as goal

pub returns-clause-written : goal.returns-clause-written
returns-clause-written c =
    c.in_ok-extend_from_slice.ensures.items
    ∙ ap (λ (l : List ℕ). c.args.bytes.now.items ++ l) (c.as_slice.ensures.value ∙ sym (flat-cut c.self.inside.bytes.items 0 c.self.inside.ends.items c.self.invariant.filled) ∙ ap (flat_map (λ (t : List ℕ). t)) c.self.view_is)
