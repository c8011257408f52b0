use Rattle.std.proofs.Common.{List, ℕ, get_or, subst, sym, refl}
use Rattle.std.specs.Prelude.{IsTrue}
use Rattle.std.specs.Str.{IsCharBoundary}
use Rattle.vx_arrays.proofs.TextBounds.{whole_utf8, ends_bound, bound_at, bound_more, bound_all, texts_utf8_start}
use Rattle.vx_arrays.proofs.texts.are_utf8.Goals as goal

pub returns-in-Err : goal.returns-in-Err
returns-in-Err c = (λ h. absurd cc, λ u. absurd (c.in-Err.ensures.cases.0 (whole_utf8 c.args.bytes.now c.args.ends.now c.requires u)))

pub returns-then-not-is_char_boundary : goal.returns-then-not-is_char_boundary
returns-then-not-is_char_boundary c = (
  λ h. absurd cc,
  λ u.
      let place = get_or c.args.ends.now c.loop-end.end-index 0 in
      let bound = bound_at c.args.bytes.now c.args.ends.now c.loop-end.end-index c.loop-end-test.true (ends_bound c.args.bytes.now 0 c.args.ends.now c.requires u) in
      let yes : IsTrue c.is_char_boundary.result = c.is_char_boundary.ensures.test.1 (subst (λ (bs : List ℕ). IsCharBoundary bs place) (sym c.in-Ok.ensures.cases.0) bound) in
      absurd cc,
)

pub loop-end-preserved : goal.loop-end-preserved
loop-end-preserved c =
    let place = get_or c.args.ends.now c.loop-end.end-index 0 in
    let yes : IsTrue c.is_char_boundary.result = cc in
    bound_more c.args.bytes.now c.args.ends.now c.loop-end.end-index c.loop-end-test.true (subst (λ (bs : List ℕ). IsCharBoundary bs place) c.in-Ok.ensures.cases.0 (c.is_char_boundary.ensures.test.0 yes)) c.loop-end.invariant

pub returns : goal.returns
returns c = (λ h. texts_utf8_start c.args.bytes.now c.args.ends.now c.in-Ok.ensures.cases.1 (bound_all c.args.bytes.now c.args.ends.now c.loop-end.end-index c.loop-end-test.false c.loop-end.invariant) c.requires, λ u. refl)
