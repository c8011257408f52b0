use Rattle.std.proofs.Common.{◌≡◌, ℕ, List, length, bit_and, sym, ap, ap₂, subst, ◌∙◌, arith}
use Rattle.std.proofs.lemmas.List.{with_items_is}
use Rattle.std.specs.Vec.{with_items}
use Rattle.vx_masks.specs.Masks.{both}
use Rattle.vx_masks.specs.Words.{low_bits, number_of, IsMask}
use Rattle.vx_masks.proofs.Built.{and_mask, and_rows}
use Rattle.vx_masks.proofs.word_masks.WordMask.and.Goals as goal

items : (c : goal.After-len) → (with_items c.in_ok-words.words c.and_into.new.into).items ≡ c.and_into.new.into
items c = with_items_is c.in_ok-words.words c.and_into.new.into (omega arith)

number : (c : goal.After-len) → number_of (with_items c.in_ok-words.words c.and_into.new.into).items ≡ bit_and (number_of c.words.result.now) (number_of c.words-2.result.now)
number c =
    ap number_of (items c) ∙ c.and_into.ensures.number
    ∙ ap (λ (ws : List ℕ). bit_and (number_of ws) (number_of c.words-2.result.now)) (c.as_mut_slice.ensures.value ∙ c.in_ok-words.ensures.items)

pub of_words-requires : goal.of_words-requires
of_words-requires c =
    let rows : c.len.result ≡ length c.args.self.now = c.len.ensures in
    subst (λ (k : ℕ). IsMask k (with_items c.in_ok-words.words c.and_into.new.into).items) (sym rows)
    (and_mask (length c.args.self.now) c.words.result.now c.words-2.result.now (with_items c.in_ok-words.words c.and_into.new.into).items (record { count = c.words.ensures.count; small = c.words.ensures.small }) (ap length (items c) ∙ omega (arith, ap length c.in_ok-words.ensures.items)) (number c))

pub returns : goal.returns
returns c =
    let same : length c.args.other.now ≡ length c.args.self.now = c.requires in
    c.of_words.ensures ∙ ap (λ (k : ℕ). low_bits k (number_of (with_items c.in_ok-words.words c.and_into.new.into).items)) c.len.ensures
    ∙ and_rows (length c.args.self.now) c.words.result.now c.words-2.result.now (with_items c.in_ok-words.words c.and_into.new.into).items (number c.before)
    ∙ ap₂ both (sym c.words.ensures.number) (ap (λ (k : ℕ). low_bits k (number_of c.words-2.result.now)) (sym same) ∙ sym c.words-2.ensures.number)
