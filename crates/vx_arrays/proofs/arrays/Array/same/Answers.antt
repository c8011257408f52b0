use Rattle.std.specs.Prelude.{IsTrue}
use Rattle.vx_arrays.specs.declared.arrays.Buffers.TheVariants as variants
use Rattle.vx_arrays.proofs.SameRows.{two_are, masks_of, same_truths, truths_same, same_numbers, numbers_same, kinds_same, same_texts, texts_same}
use Rattle.vx_arrays.proofs.arrays.Array.same.Goals as goal

pub returns-then-same : goal.returns-then-same
returns-then-same c =
    let mask = c.self.inside.validity in
    let more = c.other.inside.validity in
    let xs = c.in-Truths-Truths.ones in
    let ys = c.in-Truths-Truths.others in
    let h = two_are mask more c.self.inside.buffers c.other.inside.buffers (variants.Truths xs) (variants.Truths ys) c.args.self.now c.args.other.now c.self.view_is c.other.view_is c.self.invariant c.other.invariant c.in-Truths-Truths.is-0 c.in-Truths-Truths.is-1 in
    let yes : IsTrue c.same.result = cc in (
      λ t. same_truths mask more xs ys c.args.self.now c.args.other.now h (c.same.ensures.0 yes) (c.same-then-same.ensures.0 t),
      λ e. c.same-then-same.ensures.1 (truths_same mask more xs ys c.args.self.now c.args.other.now h e),
    )

pub returns-else-same : goal.returns-else-same
returns-else-same c =
    let mask = c.self.inside.validity in
    let more = c.other.inside.validity in
    let xs = c.in-Truths-Truths.ones in
    let ys = c.in-Truths-Truths.others in
    let h = two_are mask more c.self.inside.buffers c.other.inside.buffers (variants.Truths xs) (variants.Truths ys) c.args.self.now c.args.other.now c.self.view_is c.other.view_is c.self.invariant c.other.invariant c.in-Truths-Truths.is-0 c.in-Truths-Truths.is-1 in
    (λ t. absurd cc, λ e. c.same.ensures.1 (masks_of mask more (variants.Truths xs) (variants.Truths ys) c.args.self.now c.args.other.now h e))

pub returns-then-same-2 : goal.returns-then-same-2
returns-then-same-2 c =
    let mask = c.self.inside.validity in
    let more = c.other.inside.validity in
    let xs = c.in-Numbers-Numbers.ones in
    let ys = c.in-Numbers-Numbers.others in
    let h = two_are mask more c.self.inside.buffers c.other.inside.buffers (variants.Numbers xs) (variants.Numbers ys) c.args.self.now c.args.other.now c.self.view_is c.other.view_is c.self.invariant c.other.invariant c.in-Numbers-Numbers.is-0 c.in-Numbers-Numbers.is-1 in
    let yes : IsTrue c.same-in-Numbers-Numbers.result = cc in (
      λ t. same_numbers mask more xs ys c.args.self.now c.args.other.now h (c.same-in-Numbers-Numbers.ensures.0 yes) ((c.same-then-same-2.ensures.0 t).1),
      λ e. c.same-then-same-2.ensures.1 (kinds_same mask more xs ys c.args.self.now c.args.other.now h c.requires, numbers_same mask more xs ys c.args.self.now c.args.other.now h e),
    )

pub returns-else-same-2 : goal.returns-else-same-2
returns-else-same-2 c =
    let mask = c.self.inside.validity in
    let more = c.other.inside.validity in
    let xs = c.in-Numbers-Numbers.ones in
    let ys = c.in-Numbers-Numbers.others in
    let h = two_are mask more c.self.inside.buffers c.other.inside.buffers (variants.Numbers xs) (variants.Numbers ys) c.args.self.now c.args.other.now c.self.view_is c.other.view_is c.self.invariant c.other.invariant c.in-Numbers-Numbers.is-0 c.in-Numbers-Numbers.is-1 in
    (λ t. absurd cc, λ e. c.same-in-Numbers-Numbers.ensures.1 (masks_of mask more (variants.Numbers xs) (variants.Numbers ys) c.args.self.now c.args.other.now h e))

pub returns-then-same-3 : goal.returns-then-same-3
returns-then-same-3 c =
    let mask = c.self.inside.validity in
    let more = c.other.inside.validity in
    let xs = c.in-Texts-Texts.ones in
    let ys = c.in-Texts-Texts.others in
    let h = two_are mask more c.self.inside.buffers c.other.inside.buffers (variants.Texts xs) (variants.Texts ys) c.args.self.now c.args.other.now c.self.view_is c.other.view_is c.self.invariant c.other.invariant c.in-Texts-Texts.is-0 c.in-Texts-Texts.is-1 in
    let yes : IsTrue c.same-in-Texts-Texts.result = cc in (
      λ t. same_texts mask more xs ys c.args.self.now c.args.other.now h (c.same-in-Texts-Texts.ensures.0 yes) (c.same-then-same-3.ensures.0 t),
      λ e. c.same-then-same-3.ensures.1 (texts_same mask more xs ys c.args.self.now c.args.other.now h e),
    )

pub returns-else-same-3 : goal.returns-else-same-3
returns-else-same-3 c =
    let mask = c.self.inside.validity in
    let more = c.other.inside.validity in
    let xs = c.in-Texts-Texts.ones in
    let ys = c.in-Texts-Texts.others in
    let h = two_are mask more c.self.inside.buffers c.other.inside.buffers (variants.Texts xs) (variants.Texts ys) c.args.self.now c.args.other.now c.self.view_is c.other.view_is c.self.invariant c.other.invariant c.in-Texts-Texts.is-0 c.in-Texts-Texts.is-1 in
    (λ t. absurd cc, λ e. c.same-in-Texts-Texts.ensures.1 (masks_of mask more (variants.Texts xs) (variants.Texts ys) c.args.self.now c.args.other.now h e))
