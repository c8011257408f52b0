use Rattle.std.proofs.Common.{◌≡◌, ◌∙◌, List, ℕ, ap, sym, subst, refl}
use Rattle.std.specs.List.{AllByRecursion}
use Rattle.std.specs.Str.{IsUtf8}
use Rattle.vx_arrays.specs.Texts.{cut}
use Rattle.vx_segments.specs.Reading.{ends_read}
use Rattle.vx_segments.proofs.text_rows.texts_in.Goals as goal

pub unreachable-requires : goal.unreachable-requires
unreachable-requires c = (rw c.in-None.is at c.in_ok-found.ensures.none) refl c.requires.fill

pub unreachable-requires-in-None-made : goal.unreachable-requires-in-None-made
unreachable-requires-in-None-made c =
    let ends : c.in-Some.ends.items ≡ ends_read c.args.rows c.args.lengths.now = rw c.in-Some.is at c.in_ok-found.ensures.ends in
    (rw c.in-None-made.is at c.in_ok-made.ensures.none) refl (subst (λ (es : List ℕ). AllByRecursion IsUtf8 (cut c.args.buffer.now 0 es)) (sym ends) c.requires.utf8)

pub returns : goal.returns
returns c =
    let ends : c.in-Some.ends.items ≡ ends_read c.args.rows c.args.lengths.now = rw c.in-Some.is at c.in_ok-found.ensures.ends in
    let found : c.in-Some-made.texts ≡ cut c.args.buffer.now 0 c.in-Some.ends.items = rw c.in-Some-made.is at c.in_ok-made.ensures.found in
    found ∙ ap (cut c.args.buffer.now 0) ends
