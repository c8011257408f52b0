use Rattle.std.proofs.Common.{◌≡◌, ◌<◌, ◌++◌, ◌∷◌, [], ℕ, List, length, take, get_or, sym, ap, ◌∙◌, arith, append_assoc}
use Rattle.std.proofs.lemmas.List.{take_more, take_all}
use Rattle.vx_masks.specs.Words.{number_of}
use Rattle.vx_masks.specs.Bytes.{packed}
use Rattle.vx_masks.proofs.Bytes.{length-packed, byte_of_rows}
use Rattle.vx_masks.proofs.word_masks.WordMask.append_bytes.Goals as goal

pub loop-index-preserved : goal.loop-index-preserved
loop-index-preserved c =
    let mask = c.args.self.now in
    let i = c.loop-index.index in
    let inside : i < length (packed mask) = omega (arith, length-packed mask) in
    let byte : c.part_of.result ≡ get_or (packed mask) i 0 = c.part_of.ensures ∙ sym (byte_of_rows mask (number_of c.words-words.result.now) i c.words-words.ensures.number c.words-words.ensures.small) in
    record {
      items =
          c.push_reserved.ensures.items ∙ ap (λ (l : List ℕ). l ++ c.part_of.result ∷ []) c.loop-index.invariant.items
          ∙ append_assoc c.args.into.now.items (take i (packed mask)) (c.part_of.result ∷ [])
          ∙ ap (λ (l : List ℕ). c.args.into.now.items ++ l) (ap (λ (x : ℕ). take i (packed mask) ++ x ∷ []) byte ∙ sym (take_more (packed mask) i 0 inside));
      room = omega arith;
    }

pub returns-clause-added : goal.returns-clause-added
returns-clause-added c = c.loop-index.invariant.items ∙ ap (λ (l : List ℕ). c.args.into.now.items ++ l) (take_all c.loop-index.index (packed c.args.self.now) (omega (arith, length-packed c.args.self.now)))
