-- Boundaries with cuts between them: they ascend, lie close, and keep the boundaries.
use Rattle.std.proofs.Common.{inl, inr, ◌≡◌, ℕ, zero, suc, ◌+◌, ◌-◌, ◌*◌, ◌<◌, ◌≤◌, List, [], ◌∷◌, ◌++◌, length, get_or, drop, map, Result, Ok, Err, refl, sym, ap, subst, ◌∙◌, arith, append-nil, append_assoc}
use Rattle.std.specs.List.{All, Contains, AllAdjacentBelow, range_with_len}
use Rattle.std.specs.Prelude.{IfOk}
use Rattle.std.specs.Int.{div_ceil}
use Rattle.std.proofs.lemmas.Bool.{cases_lt}
use Rattle.std.proofs.lemmas.Grind.{div_ceil_times}
use Rattle.std.proofs.lemmas.List.{drop_more, length-drop}
use Rattle.std.proofs.lemmas.List.Elements.{All-cons, All-nil, All-weaker, Contains-append_right}
use Rattle.std.proofs.lemmas.List.FromFn.{map-range_with_len_more}
use Rattle.std.proofs.lemmas.Nat.{mul-le}
use Rattle.std.proofs.Math.Nat.{mul_comm}
use Rattle.vx_base.specs.Masks.{Ascend}
use Rattle.vx_splits.proofs.ChunkRows.{next_multiple}
use Rattle.vx_splits.proofs.Rising.{Ascend-tail}
use Rattle.vx_splits.specs.Spans.{parts_of, step_of, cuts_between, cut_count, subdivided, NoGapAbove}

-- ---- the code's loops
-- the cuts and boundaries behind the first boundary
abbrev pub behind_first : ℕ → List ℕ → List ℕ
behind_first max_span [] = []
behind_first max_span (last ∷ []) = []
behind_first max_span (start ∷ end ∷ boundaries) = cuts_between max_span start end ++ (end ∷ behind_first max_span (end ∷ boundaries))

subdivided_behind : (max_span start : ℕ) (boundaries : List ℕ) → subdivided max_span (start ∷ boundaries) ≡ start ∷ behind_first max_span (start ∷ boundaries)
subdivided_behind max_span start [] = refl
subdivided_behind max_span start (end ∷ boundaries) = ap (λ (xs : List ℕ). start ∷ (cuts_between max_span start end ++ xs)) (subdivided_behind max_span end boundaries)

pub first_pushed : (max_span : ℕ) (boundaries : List ℕ) → 0 < length boundaries → ([] ++ get_or boundaries 0 0 ∷ []) ++ behind_first max_span boundaries ≡ subdivided max_span boundaries
first_pushed max_span [] some = absurd (omega arith)
first_pushed max_span (start ∷ boundaries) some = sym (subdivided_behind max_span start boundaries)

pub span_pushed : (max_span i place next start end : ℕ) (so_far more boundaries whole : List ℕ) → place ≡ i + 1 → next ≡ place → place < length boundaries
    → start ≡ get_or boundaries i start → end ≡ get_or boundaries place end
    → more ≡ so_far ++ (cuts_between max_span start end ++ end ∷ [])
    → so_far ++ behind_first max_span (drop i boundaries) ≡ whole → more ++ behind_first max_span (drop next boundaries) ≡ whole
span_pushed max_span i place next start end so_far more boundaries whole above same inside one two e h =
    let rest = drop (place + 1) boundaries in
    let parts = cuts_between max_span start end in
    let tail = behind_first max_span (end ∷ rest) in
    let from_place : drop place boundaries ≡ end ∷ rest = drop_more boundaries place end inside ∙ ap (λ (x : ℕ). x ∷ rest) (sym two) in
    let from_i : drop i boundaries ≡ start ∷ (end ∷ rest) =
    drop_more boundaries i start (omega arith) ∙ ap (λ (x : ℕ). x ∷ drop (i + 1) boundaries) (sym one) ∙ ap (λ (xs : List ℕ). start ∷ xs) (ap (λ (k : ℕ). drop k boundaries) (sym above) ∙ from_place) in
    ap (λ (xs : List ℕ). xs ++ behind_first max_span (drop next boundaries)) e
    ∙ ap (λ (xs : List ℕ). (so_far ++ (parts ++ end ∷ [])) ++ behind_first max_span xs) (ap (λ (k : ℕ). drop k boundaries) same ∙ from_place)
    ∙ append_assoc so_far (parts ++ end ∷ []) tail ∙ ap (λ (xs : List ℕ). so_far ++ xs) (append_assoc parts (end ∷ []) tail)
    ∙ ap (λ (xs : List ℕ). so_far ++ behind_first max_span xs) (sym from_i) ∙ h

nothing_behind : (max_span : ℕ) (xs : List ℕ) → length xs ≤ 1 → behind_first max_span xs ≡ []
nothing_behind max_span [] short = refl
nothing_behind max_span (x ∷ []) short = refl
nothing_behind max_span (x ∷ y ∷ xs) short = absurd (omega arith)

pub spans_pushed : (max_span i : ℕ) (so_far boundaries whole : List ℕ) → length boundaries ≤ i + 1 → so_far ++ behind_first max_span (drop i boundaries) ≡ whole → so_far ≡ whole
spans_pushed max_span i so_far boundaries whole past h =
    sym (append-nil so_far) ∙ ap (λ (xs : List ℕ). so_far ++ xs) (sym (nothing_behind max_span (drop i boundaries) (omega (arith, length-drop i boundaries)))) ∙ h

no_cuts : (max_span : ℕ) (xs : List ℕ) → length xs ≤ 1 → cut_count max_span xs ≡ 0
no_cuts max_span [] short = refl
no_cuts max_span (x ∷ []) short = refl
no_cuts max_span (x ∷ y ∷ xs) short = absurd (omega arith)

-- all cuts are counted once one boundary is left
pub cuts_counted : (max_span i count : ℕ) (boundaries : List ℕ) → length boundaries ≤ i + 1 → count + cut_count max_span (drop i boundaries) ≡ cut_count max_span boundaries → count ≡ cut_count max_span boundaries
cuts_counted max_span i count boundaries past h = let none = no_cuts max_span (drop i boundaries) (omega (arith, length-drop i boundaries)) in omega arith

-- where there is no cut, the boundaries stand as they are
pub uncut : (max_span : ℕ) (boundaries : List ℕ) → cut_count max_span boundaries ≡ 0 → subdivided max_span boundaries ≡ boundaries
uncut max_span [] e = refl
uncut max_span (last ∷ []) e = refl
uncut max_span (start ∷ end ∷ boundaries) e =
    let here : parts_of max_span (end - start) - 1 ≡ 0 = omega arith in
    let rest : subdivided max_span (end ∷ boundaries) ≡ end ∷ boundaries = uncut max_span (end ∷ boundaries) (omega arith) in
    let parts : cuts_between max_span start end ≡ [] = ap (λ (n : ℕ). map (λ (part : ℕ). start + part * step_of max_span (end - start)) (range_with_len 1 n)) here in
    ap (λ (xs : List ℕ). start ∷ (xs ++ subdivided max_span (end ∷ boundaries))) parts ∙ ap (λ (xs : List ℕ). start ∷ xs) rest

-- what a list that is the boundaries with their cuts has
pub record AreCuts (max_span : ℕ) (boundaries cuts : List ℕ) : Type 0 where
  pub kept : All (λ (boundary : ℕ). Contains cuts boundary) boundaries
  pub ascend : Ascend cuts
  pub close : NoGapAbove max_span cuts

-- ---- one span
-- the second lies above the first, and no further than the greatest span
abbrev pub Near : ℕ → ℕ → ℕ → Type 0
Near max_span one two = (one < two) × (two ≤ one + max_span)

abbrev pub Linked : ℕ → ℕ → List ℕ → Type 0
Linked max_span one [] = Unit {0}
Linked max_span one (two ∷ rest) = Near max_span one two × Linked max_span two rest

quotient_le : (step parts span max_span : ℕ) → step * parts < span + parts → span ≤ parts * max_span → step ≤ max_span
quotient_le step parts span max_span short reach = elim (cases_lt max_span step) [
  | inl above ↦ absurd (let more = mul-le (max_span + 1) parts step parts (omega arith) (omega arith) in let e : (max_span + 1) * parts ≡ parts * max_span + parts = grind arith in omega arith)
  | inr small ↦ small
]

spread : (max_span start step end : ℕ) (rest : List ℕ) → 0 < step → step ≤ max_span → Linked max_span end rest → (n k : ℕ) → start + (k + n) * step < end → end ≤ start + (k + n) * step + max_span
    → Linked max_span (start + k * step) (map (λ (part : ℕ). start + part * step) (range_with_len (k + 1) n) ++ (end ∷ rest))
spread max_span start step end rest some small linked zero k below near =
    let same : (k + 0) * step ≡ k * step = ap (λ (m : ℕ). m * step) (omega arith) in
    ((omega arith, omega arith), linked)
spread max_span start step end rest some small linked (suc n) k below near =
    let same : (k + suc n) * step ≡ (k + 1 + n) * step = ap (λ (m : ℕ). m * step) (omega arith) in
    let next : (k + 1) * step ≡ k * step + step = next_multiple k step in
    ((omega arith, omega arith), spread max_span start step end rest some small linked n (k + 1) (omega arith) (omega arith))

-- the steps of a span: each above 0 and at most the greatest span, and the last begins less than that before the end
record Steps (max_span span parts step : ℕ) : Type 0 where
  some : 0 < step
  small : step ≤ max_span
  begins : (0 + (parts - 1)) * step < span
  ends : span ≤ (0 + (parts - 1)) * step + max_span

factor_above : (a b n : ℕ) → 0 < n → n ≤ a * b → 0 < a
factor_above zero b n some le = absurd (let none : 0 * b ≡ 0 = grind arith in omega arith)
factor_above (suc a) b n some le = omega arith

one_less : (parts step : ℕ) → 0 < parts → (0 + (parts - 1)) * step + step ≡ parts * step
one_less parts step some = sym (next_multiple (0 + (parts - 1)) step) ∙ ap (λ (k : ℕ). k * step) (omega arith)

steps_of : (max_span span parts step : ℕ) → 0 < span → 0 < parts → span ≤ parts * max_span → parts * max_span < span + max_span → span ≤ step * parts → step * parts < span + parts → Steps max_span span parts step
steps_of max_span span parts step forwards positive reach short split over =
    let small = quotient_le step parts span max_span over reach in
    let large = one_less parts max_span positive in
    let last = one_less parts step positive in
    let turned : step * parts ≡ parts * step = mul_comm step parts in
    let le = mul-le (0 + (parts - 1)) step (0 + (parts - 1)) max_span (omega arith) small in
    record { some = factor_above step parts span forwards split; small = small; begins = omega arith; ends = omega arith }

steps : (max_span span : ℕ) → 0 < max_span → 0 < span → Steps max_span span (parts_of max_span span) (step_of max_span span)
steps max_span span some forwards =
    let parts = parts_of max_span span in
    let step = step_of max_span span in
    let reach = div_ceil_times span max_span some in
    let positive : 0 < parts = factor_above parts max_span span forwards reach.0 in
    let split = div_ceil_times span parts positive in
    steps_of max_span span parts step forwards positive reach.0 reach.1 split.0 split.1

span_linked : (max_span start end : ℕ) (rest : List ℕ) → 0 < max_span → start < end → Linked max_span end rest → Linked max_span start (cuts_between max_span start end ++ (end ∷ rest))
span_linked max_span start end rest some forwards linked =
    let span = end - start in
    let s = steps max_span span some (omega arith) in
    let first : start + 0 * step_of max_span span ≡ start = omega arith in
    subst (λ (k : ℕ). Linked max_span k (cuts_between max_span start end ++ (end ∷ rest))) first
    (spread max_span start (step_of max_span span) end rest s.some s.small linked (parts_of max_span span - 1) 0 (omega (arith, s.begins)) (omega (arith, s.ends)))

pub part_fits : (max_span start end parts step part : ℕ) → 0 < max_span → start < end → parts ≡ div_ceil (end - start) max_span → step ≡ div_ceil (end - start) parts → part < parts → start + part * step < end
part_fits max_span start end parts step part some forwards e f below =
    let span = end - start in
    let s = steps max_span span some (omega arith) in
    let same : step ≡ step_of max_span span = f ∙ ap (λ (k : ℕ). div_ceil span k) e in
    let le = mul-le part step (0 + (parts_of max_span span - 1)) (step_of max_span span) (omega arith) (omega arith) in
    omega (arith, le, s.begins)

pub part_pushed : (start step part : ℕ) (before so_far more : List ℕ) → 1 ≤ part → more ≡ so_far ++ (start + part * step) ∷ [] → so_far ≡ before ++ map (λ (k : ℕ). start + k * step) (range_with_len 1 (part - 1))
    → more ≡ before ++ map (λ (k : ℕ). start + k * step) (range_with_len 1 (part + 1 - 1))
part_pushed start step part before so_far more some e h =
    let cut = λ (k : ℕ). start + k * step in
    e ∙ ap (λ (xs : List ℕ). xs ++ (start + part * step) ∷ []) h ∙ append_assoc before (map cut (range_with_len 1 (part - 1))) ((start + part * step) ∷ [])
    ∙ ap (λ (xs : List ℕ). before ++ xs) (sym (map-range_with_len_more cut 1 (part - 1) part (omega arith)) ∙ ap (λ (n : ℕ). map cut (range_with_len 1 n)) (omega arith))

-- ---- all spans
behind_linked : (max_span start : ℕ) (boundaries : List ℕ) → 0 < max_span → Ascend (start ∷ boundaries) → Linked max_span start (behind_first max_span (start ∷ boundaries))
behind_linked max_span start [] some h = tt
behind_linked max_span start (end ∷ boundaries) some h =
    span_linked max_span start end (behind_first max_span (end ∷ boundaries)) some (h 0 0 (omega arith)) (behind_linked max_span end boundaries some (Ascend-tail start (end ∷ boundaries) h))

adjacent : (max_span one : ℕ) (rest : List ℕ) → Linked max_span one rest → AllAdjacentBelow (Near max_span) (one ∷ rest) (length (one ∷ rest))
adjacent max_span one [] h k d below = absurd (omega arith)
adjacent max_span one (two ∷ rest) h zero d below = h.0
adjacent max_span one (two ∷ rest) h (suc k) d below =
    let e : suc k + 1 ≡ suc (k + 1) = omega arith in
    rw e (adjacent max_span two rest h.1 k d (omega arith))

near : (max_span : ℕ) (boundaries : List ℕ) → 0 < max_span → Ascend boundaries → AllAdjacentBelow (Near max_span) (subdivided max_span boundaries) (length (subdivided max_span boundaries))
near max_span [] some h = λ k d below. absurd (omega arith)
near max_span (start ∷ boundaries) some h = subst (λ (xs : List ℕ). AllAdjacentBelow (Near max_span) xs (length xs)) (sym (subdivided_behind max_span start boundaries)) (adjacent max_span start (behind_first max_span (start ∷ boundaries)) (behind_linked max_span start boundaries some h))

pub subdivided-ascend : (max_span : ℕ) (boundaries : List ℕ) → 0 < max_span → Ascend boundaries → Ascend (subdivided max_span boundaries)
subdivided-ascend max_span boundaries some h k d below = (near max_span boundaries some h k d below).0

pub subdivided-close : (max_span : ℕ) (boundaries : List ℕ) → 0 < max_span → Ascend boundaries → NoGapAbove max_span (subdivided max_span boundaries)
subdivided-close max_span boundaries some h k d below = let one = near max_span boundaries some h k d below in omega (arith, one)

contains_first : (first : ℕ) (rest : List ℕ) → Contains (first ∷ rest) first
contains_first first rest = (0, omega arith, refl)

contains_behind : (first x : ℕ) (rest : List ℕ) → Contains rest x → Contains (first ∷ rest) x
contains_behind first x rest h = (suc h.0, omega (arith, h.1), h.2)

pub subdivided-kept : (max_span : ℕ) (boundaries : List ℕ) → All (λ (boundary : ℕ). Contains (subdivided max_span boundaries) boundary) boundaries
subdivided-kept max_span [] = λ k d below. absurd (omega arith)
subdivided-kept max_span (last ∷ []) = All-cons (λ (boundary : ℕ). Contains (last ∷ []) boundary) last [] (contains_first last []) (All-nil (λ (boundary : ℕ). Contains (last ∷ []) boundary))
subdivided-kept max_span (start ∷ end ∷ boundaries) =
    let inner = subdivided max_span (end ∷ boundaries) in
    let parts = cuts_between max_span start end in
    let Kept = λ (boundary : ℕ). Contains (start ∷ (parts ++ inner)) boundary in
    All-cons Kept start (end ∷ boundaries) (contains_first start (parts ++ inner))
    (All-weaker (λ (boundary : ℕ). Contains inner boundary) Kept (λ x held. contains_behind start x (parts ++ inner) (Contains-append_right parts inner x held)) (end ∷ boundaries) (subdivided-kept max_span (end ∷ boundaries)))

pub subdivided_cuts : (max_span : ℕ) (boundaries cuts : List ℕ) → 0 < max_span → Ascend boundaries → cuts ≡ subdivided max_span boundaries → AreCuts max_span boundaries cuts
subdivided_cuts max_span boundaries cuts some h e = subst (AreCuts max_span boundaries) (sym e) (record {
  kept = subdivided-kept max_span boundaries;
  ascend = subdivided-ascend max_span boundaries some h;
  close = subdivided-close max_span boundaries some h;
})

-- the same of an answer that is told, of any type that has boundaries
pub told_cuts : {Y E : Type 0} (items : Y → List ℕ) (max_span : ℕ) (boundaries : List ℕ) (P : List ℕ → Type 0) (answer : Result Y E) → ((cuts : List ℕ) → cuts ≡ subdivided max_span boundaries → P cuts)
    → IfOk answer (λ cuts. items cuts ≡ subdivided max_span boundaries) → IfOk answer (λ cuts. P (items cuts))
told_cuts items max_span boundaries P (Ok cuts) has e = has (items cuts) e
told_cuts items max_span boundaries P (Err error) has e = tt
