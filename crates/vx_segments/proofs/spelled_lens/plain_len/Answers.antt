use Rattle.std.proofs.Common.{◌≡◌, ◌+◌, ◌<◌, ◌^◌, ◌∙◌, Some, false, length, refl, sym, ap, arith}
use Rattle.vx_segments.specs.Lengths.{are_texts, front_size, text_size}
use Rattle.vx_segments.proofs.Lengths.{front_room, no_texts, plain_has}
use Rattle.vx_segments.proofs.spelled_lens.plain_len.Goals as goal

pub returns-then-has_texts : goal.returns-then-has_texts
returns-then-has_texts c =
    let t = c.args.column.now.dtype in
    let values = c.args.column.now.values in
    let front : c.front_len-front.result ≡ front_size t (length values) = c.front_len-front.ensures ∙ (λ i. front_size (c.dtype.ensures i) (c.len.ensures.rows i)) in
    plain_has t values c.checked_add.result (c.front_len-front.result + c.run_sizes.result.all) c.requires.leaf c.len.ensures.fit c.requires.short (λ i. front i + c.run_sizes.ensures.each i) c.checked_add.ensures

pub returns-else-has_texts : goal.returns-else-has_texts
returns-else-has_texts c =
    let t = c.args.column.now.dtype in
    let values = c.args.column.now.values in
    let front : c.front_len-front.result ≡ front_size t (length values) = c.front_len-front.ensures ∙ (λ i. front_size (c.dtype.ensures i) (c.len.ensures.rows i)) in
    let other : are_texts t ≡ false = ap are_texts (sym c.dtype-2.ensures) ∙ sym c.has_texts.ensures ∙ c.if-has_texts.false in
    let small : c.front_len-front.result < 2 ^ 64 = omega (arith, front, front_room t (length values) c.requires.few) in
    let all : c.front_len-front.result ≡ front_size t (length values) + text_size values = omega (arith, front, no_texts t values c.requires.leaf other c.len.ensures.fit) in
    plain_has t values (Some c.front_len-front.result) c.front_len-front.result c.requires.leaf c.len.ensures.fit c.requires.short all (small, refl)
