use Rattle.std.proofs.Common.{◌≡◌, ◌∙◌, arith, ap, sym, subst, length, map, refl, Bool, List, [], ℕ}
use Rattle.std.specs.Prelude.{IsTrue}
use Rattle.std.specs.List.{AllByRecursion}
use Rattle.std.specs.Str.{IsUtf8}
use Rattle.vx_masks.specs.Rows.{NullsHold}
use Rattle.vx_types.specs.Data.{utf8_type, text}
use Rattle.vx_types.specs.Slots.{where_valid, text_in, is_value}
use Rattle.vx_arrays.specs.Texts.{cut, AreEnds}
use Rattle.vx_arrays.proofs.NullSlots.{nulls_are_empty}
use Rattle.vx_segments.specs.Segment.{Spells}
use Rattle.vx_segments.proofs.Decoded.{AreBytes, known, texts_room, texts_known, valid_len}
use Rattle.vx_segments.specs.Reading.{ends_read}
use Rattle.vx_segments.proofs.DecodedNumbers.{mask_taken}
use Rattle.vx_segments.proofs.DecodedTexts.{length_texts, length_bytes, texts_spell, texts_of, values_utf8}
use Rattle.vx_segments.proofs.decoded_texts.decode_texts.Goals as goal

pub returns-then-buffers-rows-clause-refused : goal.returns-then-buffers-rows-clause-refused
returns-then-buffers-rows-clause-refused c = λ e values s.
    let k = known (utf8_type c.args.nullability) c.args.nullability c.args.rows c.args.bytes.now c.in-Some.parts.0.now c.in-Some.parts.1.now values tt refl c.in-Some.ensures.joined c.in-Some.ensures.validity s in
    omega (arith, c.if-buffers-rows.true, texts_room c.args.nullability c.args.rows c.in-Some.parts.0.now c.in-Some.parts.1.now values k)

pub returns-in-None-2-clause-refused : goal.returns-in-None-2-clause-refused
returns-in-None-2-clause-refused c = λ e values s.
    let k = known (utf8_type c.args.nullability) c.args.nullability c.args.rows c.args.bytes.now c.in-Some.parts.0.now c.in-Some.parts.1.now values tt refl c.in-Some.ensures.joined c.in-Some.ensures.validity s in
    let t = texts_known c.args.nullability c.args.rows c.in-Some.parts.0.now c.in-Some.parts.1.now c.split_at.result.0.now c.split_at.result.1.now values k c.split_at.ensures.front c.split_at.ensures.back in
    let o = texts_of values c.args.rows c.split_at.result.0.now c.split_at.result.1.now k.count k.short t.lens t.all in
    (rw c.in-None-2.is at c.in_ok-ends.ensures.none) refl o.filled

pub returns-in-None-3-clause-refused : goal.returns-in-None-3-clause-refused
returns-in-None-3-clause-refused c = λ e values s.
    let k = known (utf8_type c.args.nullability) c.args.nullability c.args.rows c.args.bytes.now c.in-Some.parts.0.now c.in-Some.parts.1.now values tt refl c.in-Some.ensures.joined c.in-Some.ensures.validity s in
    let t = texts_known c.args.nullability c.args.rows c.in-Some.parts.0.now c.in-Some.parts.1.now c.split_at.result.0.now c.split_at.result.1.now values k c.split_at.ensures.front c.split_at.ensures.back in
    let o = texts_of values c.args.rows c.split_at.result.0.now c.split_at.result.1.now k.count k.short t.lens t.all in
    let ends : c.in-Some-2.ends.items ≡ ends_read c.args.rows c.split_at.result.0.now = rw c.in-Some-2.is at c.in_ok-ends.ensures.ends in
    let utf8 : AllByRecursion IsUtf8 (cut c.split_at.result.1.now 0 c.in-Some-2.ends.items) = subst (AllByRecursion IsUtf8) (sym o.cut_texts ∙ ap (cut c.split_at.result.1.now 0) (sym ends)) (values_utf8 c.args.nullability values k.fit) in
    (rw c.in-None-3.is at c.in_ok-texts.ensures.none) refl utf8

pub hold_none-requires : goal.hold_none-requires
hold_none-requires c =
    let ends : c.in-Some-2.ends.items ≡ ends_read c.args.rows c.split_at.result.0.now = rw c.in-Some-2.is at c.in_ok-ends.ensures.ends in
    let found : c.in-Some-3.texts ≡ cut c.split_at.result.1.now 0 c.in-Some-2.ends.items = rw c.in-Some-3.is at c.in_ok-texts.ensures.found in
    ap length c.in_ok-valid.ensures ∙ valid_len c.args.nullability c.args.rows c.in-Some.parts.0.now c.in-Some.ensures.validity ∙ sym (length_texts c.args.rows c.split_at.result.1.now c.split_at.result.0.now) ∙ ap (λ (es : List ℕ). length (cut c.split_at.result.1.now 0 es)) (sym ends) ∙ ap length (sym found)

pub returns-then-hold_none-clause-valid : goal.returns-then-hold_none-clause-valid
returns-then-hold_none-clause-valid c = ap length c.in_ok-valid.ensures ∙ valid_len c.args.nullability c.args.rows c.in-Some.parts.0.now c.in-Some.ensures.validity

pub returns-then-hold_none-clause-count : goal.returns-then-hold_none-clause-count
returns-then-hold_none-clause-count c =
    let ends : c.in-Some-2.ends.items ≡ ends_read c.args.rows c.split_at.result.0.now = rw c.in-Some-2.is at c.in_ok-ends.ensures.ends in
    let found : c.in-Some-3.texts ≡ cut c.split_at.result.1.now 0 c.in-Some-2.ends.items = rw c.in-Some-3.is at c.in_ok-texts.ensures.found in
    ap length found ∙ ap (λ (es : List ℕ). length (cut c.split_at.result.1.now 0 es)) ends ∙ length_texts c.args.rows c.split_at.result.1.now c.split_at.result.0.now

pub returns-then-hold_none-clause-taken : goal.returns-then-hold_none-clause-taken
returns-then-hold_none-clause-taken c = rw c.in_ok-valid.ensures (mask_taken c.args.nullability c.args.rows c.in-Some.parts.0.now)

pub returns-then-hold_none-clause-spelled : goal.returns-then-hold_none-clause-spelled
returns-then-hold_none-clause-spelled c =
    let lengths = c.split_at.result.0.now in
    let joined = c.split_at.result.1.now in
    let read = ends_read c.args.rows lengths in
    let yes : IsTrue c.hold_none.result = cc in
    let ends : c.in-Some-2.ends.items ≡ read = rw c.in-Some-2.is at c.in_ok-ends.ensures.ends in
    let filled : AreEnds 0 (length joined) c.in-Some-2.ends.items = rw c.in-Some-2.is at c.in_ok-ends.ensures.filled in
    let found : c.in-Some-3.texts ≡ cut joined 0 c.in-Some-2.ends.items = rw c.in-Some-3.is at c.in_ok-texts.ensures.found in
    let whole : c.in-Some-3.texts ≡ cut joined 0 read = found ∙ ap (cut joined 0) ends in
    let held : NullsHold [] c.in_ok-valid.valid (cut joined 0 read) = subst (λ (ts : List (List ℕ)). NullsHold [] c.in_ok-valid.valid ts) whole (c.hold_none.ensures.0 yes) in
    let utf8 : AllByRecursion IsUtf8 (cut joined 0 read) = subst (AllByRecursion IsUtf8) whole c.len-count.ensures.utf8 in
    let bytes : AreBytes c.args.bytes.now = λ i. omega (arith, c.type_inv.bytes i) in
    subst (λ (ts : List (List ℕ)). Spells (utf8_type c.args.nullability) c.args.rows c.args.bytes.now (where_valid c.in_ok-valid.valid (map text ts))) (sym whole)
    (texts_spell c.args.nullability c.args.rows c.args.bytes.now c.in-Some.parts.0.now c.in-Some.parts.1.now lengths joined c.in_ok-valid.valid c.in-Some.ensures.joined c.in-Some.ensures.validity bytes
    (length_bytes c.args.bytes.now c.in-Some.parts.0.now c.in-Some.parts.1.now lengths _ c.in-Some.ensures.joined c.split_at.ensures.front bytes) c.in_ok-valid.ensures c.split_at.ensures.front c.split_at.ensures.back c.split_at.ensures.front_len
    (subst (AreEnds 0 (length joined)) ends filled) utf8 held)

pub returns-else-hold_none-clause-refused : goal.returns-else-hold_none-clause-refused
returns-else-hold_none-clause-refused c = λ e values s.
    let lengths = c.split_at.result.0.now in
    let joined = c.split_at.result.1.now in
    let k = known (utf8_type c.args.nullability) c.args.nullability c.args.rows c.args.bytes.now c.in-Some.parts.0.now c.in-Some.parts.1.now values tt refl c.in-Some.ensures.joined c.in-Some.ensures.validity s in
    let t = texts_known c.args.nullability c.args.rows c.in-Some.parts.0.now c.in-Some.parts.1.now lengths joined values k c.split_at.ensures.front c.split_at.ensures.back in
    let o = texts_of values c.args.rows lengths joined k.count k.short t.lens t.all in
    let ends : c.in-Some-2.ends.items ≡ ends_read c.args.rows lengths = rw c.in-Some-2.is at c.in_ok-ends.ensures.ends in
    let found : c.in-Some-3.texts ≡ cut joined 0 c.in-Some-2.ends.items = rw c.in-Some-3.is at c.in_ok-texts.ensures.found in
    let texts : map text_in values ≡ c.in-Some-3.texts = sym o.cut_texts ∙ ap (cut joined 0) (sym ends) ∙ sym found in
    let valid : map is_value values ≡ c.in_ok-valid.valid = sym k.valid ∙ sym c.in_ok-valid.ensures in
    let held : NullsHold [] c.in_ok-valid.valid c.in-Some-3.texts = subst (λ (bits : List Bool). NullsHold [] bits c.in-Some-3.texts) valid (subst (λ (ts : List (List ℕ)). NullsHold [] (map is_value values) ts) texts (nulls_are_empty c.args.nullability values k.fit)) in
    let yes : IsTrue c.hold_none.result = c.hold_none.ensures.1 held in
    absurd cc
