use Rattle.std.proofs.Common.{◌≡◌, ◌∙◌, ◌-◌, ◌*◌, List, Bool, ℕ, length, arith, ap, sym, subst, refl}
use Rattle.std.specs.Prelude.{slice_range}
use Rattle.vx_types.specs.Data.{utf8_type}
use Rattle.vx_arrays.specs.Texts.{cut, AreEnds}
use Rattle.vx_segments.specs.Parts.{valid_bits}
use Rattle.vx_segments.specs.Reading.{ends_read, lengths_read}
use Rattle.vx_segments.specs.TextRows.{LieBetween, LieFrom}
use Rattle.vx_segments.proofs.Decoded.{known, texts_room, valid_len}
use Rattle.vx_segments.proofs.DecodedTexts.{length_texts}
use Rattle.vx_segments.proofs.NumberRows.{rows_len, rows_taken}
use Rattle.vx_segments.proofs.TextRows.{all_texts, known_lie, range_texts, rows_hold_none, text_rows_spell, AreAllTexts, RangeTexts}
use Rattle.vx_segments.proofs.text_rows.decode_text_rows.Goals as goal

pub returns-then-buffers-rows-clause-refused : goal.returns-then-buffers-rows-clause-refused
returns-then-buffers-rows-clause-refused c = λ e values s.
    let k = known (utf8_type c.args.nullability) c.args.nullability c.args.rows c.args.bytes.now c.in-Some.parts.0.now c.in-Some.parts.1.now values tt refl c.in-Some.ensures.joined c.in-Some.ensures.validity s in
    omega (arith, c.if-buffers-rows.true, texts_room c.args.nullability c.args.rows c.in-Some.parts.0.now c.in-Some.parts.1.now values k)

pub returns-in-Err-clause-refused : goal.returns-in-Err-clause-refused
returns-in-Err-clause-refused c = λ e values s.
    let validity = c.in-Some.parts.0.now in
    let k = known (utf8_type c.args.nullability) c.args.nullability c.args.rows c.args.bytes.now validity c.in-Some.parts.1.now values tt refl c.in-Some.ensures.joined c.in-Some.ensures.validity s in
    let bits = valid_bits c.args.nullability c.args.rows validity in
    let t = known_lie c.args.nullability c.args.rows validity c.in-Some.parts.1.now c.split_at.result.0.now c.split_at.result.1.now bits values k c.split_at.ensures.front c.split_at.ensures.back refl (valid_len c.args.nullability c.args.rows validity c.in-Some.ensures.validity) in
    c.in-Err.ensures.cases.0 t.utf8

pub places_of-requires-clause-count : goal.places_of-requires-clause-count
places_of-requires-clause-count c = ap length c.in_ok-valid.ensures ∙ valid_len c.args.nullability c.args.rows c.in-Some.parts.0.now c.in-Some.ensures.validity

pub returns-in-None-places_of-clause-refused : goal.returns-in-None-places_of-clause-refused
returns-in-None-places_of-clause-refused c = λ e values s.
    let validity = c.in-Some.parts.0.now in
    let valid = c.in_ok-valid.valid in
    let lengths = c.split_at.result.0.now in
    let joined = c.split_at.result.1.now in
    let k = known (utf8_type c.args.nullability) c.args.nullability c.args.rows c.args.bytes.now validity c.in-Some.parts.1.now values tt refl c.in-Some.ensures.joined c.in-Some.ensures.validity s in
    let count : length valid ≡ c.args.rows = ap length c.in_ok-valid.ensures ∙ valid_len c.args.nullability c.args.rows validity c.in-Some.ensures.validity in
    let t = known_lie c.args.nullability c.args.rows validity c.in-Some.parts.1.now lengths joined valid values k c.split_at.ensures.front c.split_at.ensures.back c.in_ok-valid.ensures count in
    c.in-None-places_of.ensures.none refl (subst (λ (bs : List ℕ). LieFrom bs valid 0 0 (length bs) (lengths_read c.args.rows lengths)) (sym c.in-Ok.ensures.cases.0) t.lie)

pub slice_bounds-texts_in-start : goal.slice_bounds-texts_in-start
slice_bounds-texts_in-start c =
    let lengths = c.split_at.result.0.now in
    let joined = c.split_at.result.1.now in
    let valid = c.in_ok-valid.valid in
    let lie : LieBetween joined valid c.args.range.start c.args.range.end (lengths_read c.args.rows lengths) c.in-Some-places_of.places.0 c.in-Some-places_of.places.1 = subst (λ (bs : List ℕ). LieBetween bs valid c.args.range.start c.args.range.end (lengths_read c.args.rows lengths) c.in-Some-places_of.places.0 c.in-Some-places_of.places.1) c.in-Ok.ensures.cases.0 c.in-Some-places_of.ensures.lie in
    let r : RangeTexts c.args.rows c.args.range.start c.args.range.end c.in-Some-places_of.places.0 c.in-Some-places_of.places.1 joined lengths (slice_range lengths (4 * c.args.range.start) (4 * c.args.range.end)) = range_texts c.args.rows c.args.range.start c.args.range.end c.in-Some-places_of.places.0 c.in-Some-places_of.places.1 joined lengths (slice_range lengths (4 * c.args.range.start) (4 * c.args.range.end)) valid c.requires.forwards c.requires.inside c.in-Ok.ensures.cases.1 lie refl in
    r.forwards

pub slice_bounds-texts_in-end : goal.slice_bounds-texts_in-end
slice_bounds-texts_in-end c =
    let lengths = c.split_at.result.0.now in
    let joined = c.split_at.result.1.now in
    let valid = c.in_ok-valid.valid in
    let lie : LieBetween joined valid c.args.range.start c.args.range.end (lengths_read c.args.rows lengths) c.in-Some-places_of.places.0 c.in-Some-places_of.places.1 = subst (λ (bs : List ℕ). LieBetween bs valid c.args.range.start c.args.range.end (lengths_read c.args.rows lengths) c.in-Some-places_of.places.0 c.in-Some-places_of.places.1) c.in-Ok.ensures.cases.0 c.in-Some-places_of.ensures.lie in
    let r : RangeTexts c.args.rows c.args.range.start c.args.range.end c.in-Some-places_of.places.0 c.in-Some-places_of.places.1 joined lengths (slice_range lengths (4 * c.args.range.start) (4 * c.args.range.end)) = range_texts c.args.rows c.args.range.start c.args.range.end c.in-Some-places_of.places.0 c.in-Some-places_of.places.1 joined lengths (slice_range lengths (4 * c.args.range.start) (4 * c.args.range.end)) valid c.requires.forwards c.requires.inside c.in-Ok.ensures.cases.1 lie refl in
    r.inside

pub slice_bounds-texts_in-count : goal.slice_bounds-texts_in-count
slice_bounds-texts_in-count c =
    let lengths = c.split_at.result.0.now in
    let joined = c.split_at.result.1.now in
    let valid = c.in_ok-valid.valid in
    let lie : LieBetween joined valid c.args.range.start c.args.range.end (lengths_read c.args.rows lengths) c.in-Some-places_of.places.0 c.in-Some-places_of.places.1 = subst (λ (bs : List ℕ). LieBetween bs valid c.args.range.start c.args.range.end (lengths_read c.args.rows lengths) c.in-Some-places_of.places.0 c.in-Some-places_of.places.1) c.in-Ok.ensures.cases.0 c.in-Some-places_of.ensures.lie in
    let r : RangeTexts c.args.rows c.args.range.start c.args.range.end c.in-Some-places_of.places.0 c.in-Some-places_of.places.1 joined lengths (slice_range lengths (4 * c.args.range.start) (4 * c.args.range.end)) = range_texts c.args.rows c.args.range.start c.args.range.end c.in-Some-places_of.places.0 c.in-Some-places_of.places.1 joined lengths (slice_range lengths (4 * c.args.range.start) (4 * c.args.range.end)) valid c.requires.forwards c.requires.inside c.in-Ok.ensures.cases.1 lie refl in
    r.forwards

pub texts_in-requires-clause-fill : goal.texts_in-requires-clause-fill
texts_in-requires-clause-fill c =
    let lengths = c.split_at.result.0.now in
    let joined = c.split_at.result.1.now in
    let valid = c.in_ok-valid.valid in
    let lie : LieBetween joined valid c.args.range.start c.args.range.end (lengths_read c.args.rows lengths) c.in-Some-places_of.places.0 c.in-Some-places_of.places.1 = subst (λ (bs : List ℕ). LieBetween bs valid c.args.range.start c.args.range.end (lengths_read c.args.rows lengths) c.in-Some-places_of.places.0 c.in-Some-places_of.places.1) c.in-Ok.ensures.cases.0 c.in-Some-places_of.ensures.lie in
    let r : RangeTexts c.args.rows c.args.range.start c.args.range.end c.in-Some-places_of.places.0 c.in-Some-places_of.places.1 joined lengths (slice_range lengths (4 * c.args.range.start) (4 * c.args.range.end)) = range_texts c.args.rows c.args.range.start c.args.range.end c.in-Some-places_of.places.0 c.in-Some-places_of.places.1 joined lengths (slice_range lengths (4 * c.args.range.start) (4 * c.args.range.end)) valid c.requires.forwards c.requires.inside c.in-Ok.ensures.cases.1 lie refl in
    subst (λ (k : ℕ). AreEnds 0 k (ends_read (c.args.range.end - c.args.range.start) (slice_range lengths (4 * c.args.range.start) (4 * c.args.range.end)))) (sym r.count) r.fill

pub texts_in-requires-clause-utf8 : goal.texts_in-requires-clause-utf8
texts_in-requires-clause-utf8 c =
    let lengths = c.split_at.result.0.now in
    let joined = c.split_at.result.1.now in
    let valid = c.in_ok-valid.valid in
    let lie : LieBetween joined valid c.args.range.start c.args.range.end (lengths_read c.args.rows lengths) c.in-Some-places_of.places.0 c.in-Some-places_of.places.1 = subst (λ (bs : List ℕ). LieBetween bs valid c.args.range.start c.args.range.end (lengths_read c.args.rows lengths) c.in-Some-places_of.places.0 c.in-Some-places_of.places.1) c.in-Ok.ensures.cases.0 c.in-Some-places_of.ensures.lie in
    let r : RangeTexts c.args.rows c.args.range.start c.args.range.end c.in-Some-places_of.places.0 c.in-Some-places_of.places.1 joined lengths (slice_range lengths (4 * c.args.range.start) (4 * c.args.range.end)) = range_texts c.args.rows c.args.range.start c.args.range.end c.in-Some-places_of.places.0 c.in-Some-places_of.places.1 joined lengths (slice_range lengths (4 * c.args.range.start) (4 * c.args.range.end)) valid c.requires.forwards c.requires.inside c.in-Ok.ensures.cases.1 lie refl in
    r.utf8

pub slice-requires-clause-inside : goal.slice-requires-clause-inside
slice-requires-clause-inside c = omega (arith, c.requires.inside, ap length c.in_ok-valid.ensures ∙ valid_len c.args.nullability c.args.rows c.in-Some.parts.0.now c.in-Some.ensures.validity)

pub returns-clause-valid : goal.returns-clause-valid
returns-clause-valid c =
    let part : c.in_ok-some.some ≡ slice_range (valid_bits c.args.nullability c.args.rows c.in-Some.parts.0.now) c.args.range.start c.args.range.end = c.in_ok-some.ensures ∙ ap (λ (bits : List Bool). slice_range bits c.args.range.start c.args.range.end) c.in_ok-valid.ensures in
    rows_len c.args.nullability c.args.rows c.args.range.start c.args.range.end c.in-Some.parts.0.now c.in_ok-some.some c.in-Some.ensures.validity c.requires.forwards c.requires.inside part

pub returns-clause-count : goal.returns-clause-count
returns-clause-count c =
    let lengths = c.split_at.result.0.now in
    ap length c.in_ok-texts.ensures ∙ length_texts (c.args.range.end - c.args.range.start) _ (slice_range lengths (4 * c.args.range.start) (4 * c.args.range.end))

pub returns-clause-taken : goal.returns-clause-taken
returns-clause-taken c =
    let part : c.in_ok-some.some ≡ slice_range (valid_bits c.args.nullability c.args.rows c.in-Some.parts.0.now) c.args.range.start c.args.range.end = c.in_ok-some.ensures ∙ ap (λ (bits : List Bool). slice_range bits c.args.range.start c.args.range.end) c.in_ok-valid.ensures in
    rows_taken c.args.nullability c.args.rows c.args.range.start c.args.range.end c.in-Some.parts.0.now c.in_ok-some.some part

pub returns-clause-held : goal.returns-clause-held
returns-clause-held c =
    let lengths = c.split_at.result.0.now in
    let joined = c.split_at.result.1.now in
    let valid = c.in_ok-valid.valid in
    let lie : LieBetween joined valid c.args.range.start c.args.range.end (lengths_read c.args.rows lengths) c.in-Some-places_of.places.0 c.in-Some-places_of.places.1 = subst (λ (bs : List ℕ). LieBetween bs valid c.args.range.start c.args.range.end (lengths_read c.args.rows lengths) c.in-Some-places_of.places.0 c.in-Some-places_of.places.1) c.in-Ok.ensures.cases.0 c.in-Some-places_of.ensures.lie in
    let r : RangeTexts c.args.rows c.args.range.start c.args.range.end c.in-Some-places_of.places.0 c.in-Some-places_of.places.1 joined lengths (slice_range lengths (4 * c.args.range.start) (4 * c.args.range.end)) = range_texts c.args.rows c.args.range.start c.args.range.end c.in-Some-places_of.places.0 c.in-Some-places_of.places.1 joined lengths (slice_range lengths (4 * c.args.range.start) (4 * c.args.range.end)) valid c.requires.forwards c.requires.inside c.in-Ok.ensures.cases.1 lie refl in
    let all : AreAllTexts joined valid (ends_read c.args.rows lengths) = all_texts c.args.rows joined lengths valid c.in-Ok.ensures.cases.1 lie.all in
    let made : c.in_ok-texts.texts ≡ slice_range (cut joined 0 (ends_read c.args.rows lengths)) c.args.range.start c.args.range.end = c.in_ok-texts.ensures ∙ r.texts in
    rows_hold_none c.args.range.start c.args.range.end joined (ends_read c.args.rows lengths) c.in_ok-some.some valid c.in_ok-texts.texts all c.in_ok-some.ensures made

pub returns-clause-spelled : goal.returns-clause-spelled
returns-clause-spelled c =
    let lengths = c.split_at.result.0.now in
    let joined = c.split_at.result.1.now in
    let valid = c.in_ok-valid.valid in
    let lie : LieBetween joined valid c.args.range.start c.args.range.end (lengths_read c.args.rows lengths) c.in-Some-places_of.places.0 c.in-Some-places_of.places.1 = subst (λ (bs : List ℕ). LieBetween bs valid c.args.range.start c.args.range.end (lengths_read c.args.rows lengths) c.in-Some-places_of.places.0 c.in-Some-places_of.places.1) c.in-Ok.ensures.cases.0 c.in-Some-places_of.ensures.lie in
    let r : RangeTexts c.args.rows c.args.range.start c.args.range.end c.in-Some-places_of.places.0 c.in-Some-places_of.places.1 joined lengths (slice_range lengths (4 * c.args.range.start) (4 * c.args.range.end)) = range_texts c.args.rows c.args.range.start c.args.range.end c.in-Some-places_of.places.0 c.in-Some-places_of.places.1 joined lengths (slice_range lengths (4 * c.args.range.start) (4 * c.args.range.end)) valid c.requires.forwards c.requires.inside c.in-Ok.ensures.cases.1 lie refl in
    let all : AreAllTexts joined valid (ends_read c.args.rows lengths) = all_texts c.args.rows joined lengths valid c.in-Ok.ensures.cases.1 lie.all in
    let made : c.in_ok-texts.texts ≡ slice_range (cut joined 0 (ends_read c.args.rows lengths)) c.args.range.start c.args.range.end = c.in_ok-texts.ensures ∙ r.texts in
    text_rows_spell c.args.nullability c.args.rows c.args.range.start c.args.range.end c.args.bytes.now c.in-Some.parts.0.now c.in-Some.parts.1.now lengths joined c.in_ok-some.some valid c.in_ok-texts.texts c.in-Some.ensures.joined c.in-Some.ensures.validity
    (λ i. omega (arith, c.type_inv.bytes i)) c.split_at.ensures.front c.split_at.ensures.back c.split_at.ensures.front_len c.in_ok-valid.ensures all c.in_ok-some.ensures made
