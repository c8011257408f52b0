-- The text of members, field by field.
use Rattle.std.proofs.Common.{◌≡◌, ℕ, zero, suc, ◌+◌, ◌<◌, ◌≤◌, List, [], ◌∷◌, ◌++◌, length, get_or, drop, refl, sym, ap, ◌∙◌, add-one, append_assoc}
use Rattle.std.proofs.lemmas.List.{append-nil, drop_all, drop_more}
use Rattle.vx_types.specs.declared.dtypes.Field.{Field}
use Rattle.vx_types.specs.Data.{Members}
use Rattle.vx_types.specs.Views.{data_type, members_of}
use Rattle.vx_types.specs.TypeText.{type_text, members_text, more_text, separator}

-- what is left to write after that many fields
abbrev pub left_text : ℕ → List Field → List ℕ
left_text zero fs = members_text (members_of fs)
left_text (suc n) fs = more_text (members_of fs)

left_cons : (place : ℕ) (f : Field) (fs : List Field) → left_text place (f ∷ fs) ≡ separator place ++ (f.name ++ ((61 ∷ []) ++ (type_text (data_type f.dtype) ++ more_text (members_of fs))))
left_cons zero f fs = refl
left_cons (suc n) f fs = refl

left_next : (place : ℕ) (fs : List Field) → left_text (place + 1) fs ≡ more_text (members_of fs)
left_next place fs = rw add-one refl

pub joined : (a s n e t m : List ℕ) → ((((a ++ s) ++ n) ++ e) ++ t) ++ m ≡ a ++ (s ++ (n ++ (e ++ (t ++ m))))
joined a s n e t m = simp append_assoc

pub text_more : (fs : List Field) (place : ℕ) (f : Field) (before after whole : List ℕ) → place < length fs → f ≡ get_or fs place f → after ≡ (((before ++ separator place) ++ f.name) ++ 61 ∷ []) ++ type_text (data_type f.dtype)
    → before ++ left_text place (drop place fs) ≡ whole → after ++ left_text (place + 1) (drop (place + 1) fs) ≡ whole
text_more fs place f before after whole lt e written so_far =
    let rest = drop (place + 1) fs in
    let one = drop_more fs place f lt in
    let more = rw (one, ← e) at so_far in
    ap (λ (out : List ℕ). out ++ left_text (place + 1) rest) written ∙ ap (λ (m : List ℕ). ((((before ++ separator place) ++ f.name) ++ 61 ∷ []) ++ type_text (data_type f.dtype)) ++ m) (left_next place rest)
    ∙ joined before (separator place) f.name (61 ∷ []) (type_text (data_type f.dtype)) (more_text (members_of rest)) ∙ ap (λ (m : List ℕ). before ++ m) (sym (left_cons place f rest)) ∙ more

left_none : (place : ℕ) → left_text place [] ≡ []
left_none zero = refl
left_none (suc n) = refl

pub text_done : (fs : List Field) (place : ℕ) (ms : Members) (out start : List ℕ) → members_of fs ≡ ms → length fs ≤ place → out ++ left_text place (drop place fs) ≡ start ++ members_text (members_of fs) → out ≡ start ++ members_text ms
text_done fs place ms out start e past so_far =
    let none : left_text place (drop place fs) ≡ [] = ap (left_text place) (drop_all place fs past) ∙ left_none place in
    sym (append-nil out) ∙ ap (λ (m : List ℕ). out ++ m) (sym none) ∙ so_far ∙ ap (λ (m : Members). start ++ members_text m) e
