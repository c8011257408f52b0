-- The kept fields and their children, gathered one after another.
use Rattle.std.proofs.Common.{◌≡◌, ℕ, zero, suc, ◌<◌, Bool, true, false, cond, List, [], ◌∷◌, ◌++◌, length, map, get_or, take, drop, refl, sym, ap, ◌∙◌, arith, append_assoc, drop-cons}
use Rattle.vx_base.specs.declared.dtypes.Field.{Field}
use Rattle.vx_base.specs.Names.{names_in}
use Rattle.vx_base.specs.Views.{members_of}
use Rattle.vx_expr.specs.declared.expressions.Expr.{Expr}
use Rattle.vx_expr.specs.Terms.{Terms, get_field, named, no_terms, root}
use Rattle.vx_expr.specs.TermViews.{term, terms_of}
use Rattle.vx_layout.specs.Kept.{KeptFields, is_kept}
use Rattle.vx_lower.specs.Keeping.{chosen}
use Rattle.vx_lower.specs.KeptRows.{kept_terms}

-- ---- terms

joined : Terms → Terms → Terms
joined no_terms fs = fs
joined (named name e es) fs = named name e (joined es fs)

joined_none : (es : Terms) → joined es no_terms ≡ es
unfolding joined
joined_none no_terms = refl
joined_none (named name e es) = ap (named name e) (joined_none es)

terms_append : (xs ys : List (List ℕ × Expr)) → terms_of (xs ++ ys) ≡ joined (terms_of xs) (terms_of ys)
unfolding joined
terms_append [] ys = refl
terms_append (x ∷ xs) ys = ap (named x.0 (term x.1)) (terms_append xs ys)

one_term : Bool → List ℕ → Terms
one_term true name = named name (get_field name root) no_terms
one_term false name = no_terms

kept_one : (b : Bool) (name : List ℕ) → cond b (named name (get_field name root) no_terms) no_terms ≡ one_term b name
unfolding one_term
kept_one true name = refl
kept_one false name = refl

later_one : (b : Bool) (name : List ℕ) (es fs gs : Terms) → es ≡ joined fs gs → cond b (named name (get_field name root) es) es ≡ joined (cond b (named name (get_field name root) fs) fs) gs
unfolding joined
later_one true name es fs gs e = ap (named name (get_field name root)) e
later_one false name es fs gs e = e

kept_more : (kept : KeptFields) (fields : List Field) (i : ℕ) (field : Field) → i < length fields → field ≡ get_or fields i field → kept_terms kept (members_of (take (suc i) fields)) ≡ joined (kept_terms kept (members_of (take i fields))) (one_term (is_kept kept field.name) field.name)
unfolding joined
kept_more kept [] i field lt e = absurd (omega arith)
kept_more kept (one ∷ fields) zero field lt e = kept_one (is_kept kept one.name) one.name ∙ ap (λ (f : Field). one_term (is_kept kept f.name) f.name) (sym e)
kept_more kept (one ∷ fields) (suc i) field lt e =
    later_one (is_kept kept one.name) one.name (kept_terms kept (members_of (take (suc i) fields))) (kept_terms kept (members_of (take i fields))) (one_term (is_kept kept field.name) field.name) (kept_more kept fields i field (omega arith) e)

flag_is : (kept : KeptFields) (fields : List Field) (i : ℕ) (field : Field) → i < length fields → field ≡ get_or fields i field → get_or (map (is_kept kept) (names_in (members_of fields))) i false ≡ is_kept kept field.name
flag_is kept [] i field lt e = absurd (omega arith)
flag_is kept (one ∷ fields) zero field lt e = ap (λ (f : Field). is_kept kept f.name) (sym e)
flag_is kept (one ∷ fields) (suc i) field lt e = flag_is kept fields i field (omega arith) e

pub names_count : (fields : List Field) → length (names_in (members_of fields)) ≡ length fields
names_count [] = refl
names_count (field ∷ fields) = ap suc (names_count fields)

-- whether the field at the place is kept
flag_at : (kept : KeptFields) (flags : List Bool) (fields : List Field) (i : ℕ) (field : Field) (b : Bool) → flags ≡ map (is_kept kept) (names_in (members_of fields)) → i < length fields → field ≡ get_or fields i field → get_or flags i false ≡ b → is_kept kept field.name ≡ b
flag_at kept flags fields i field b are lt is flag = sym (flag_is kept fields i field lt is) ∙ ap (λ (flags : List Bool). get_or flags i false) (sym are) ∙ flag

pub item_put : (kept : KeptFields) (flags : List Bool) (fields : List Field) (i : ℕ) (field : Field) (so_far after : List (List ℕ × Expr)) (name operand : List ℕ) (got : Expr) → flags ≡ map (is_kept kept) (names_in (members_of fields)) → i < length fields → field ≡ get_or fields i field → get_or flags i false ≡ true → name ≡ field.name → operand ≡ field.name → term got ≡ get_field operand root → after ≡ so_far ++ (name, got) ∷ [] → terms_of so_far ≡ kept_terms kept (members_of (take i fields)) → terms_of after ≡ kept_terms kept (members_of (take (suc i) fields))
unfolding one_term
item_put kept flags fields i field so_far after name operand got are lt is flag named_so named_too is_got put before =
    let b : is_kept kept field.name ≡ true = flag_at kept flags fields i field true are lt is flag in
    ap terms_of put ∙ terms_append so_far ((name, got) ∷ [])
    ∙ (λ j. joined (before j) (named (named_so j) ((is_got ∙ ap (λ (n : List ℕ). get_field n root) named_too) j) no_terms))
    ∙ ap (λ (b : Bool). joined (kept_terms kept (members_of (take i fields))) (one_term b field.name)) (sym b)
    ∙ sym (kept_more kept fields i field lt is)

pub item_left : (kept : KeptFields) (flags : List Bool) (fields : List Field) (i : ℕ) (field : Field) (so_far : List (List ℕ × Expr)) → flags ≡ map (is_kept kept) (names_in (members_of fields)) → i < length fields → field ≡ get_or fields i field → get_or flags i false ≡ false → terms_of so_far ≡ kept_terms kept (members_of (take i fields)) → terms_of so_far ≡ kept_terms kept (members_of (take (suc i) fields))
unfolding one_term
item_left kept flags fields i field so_far are lt is flag before =
    let b : is_kept kept field.name ≡ false = flag_at kept flags fields i field false are lt is flag in
    before ∙ sym (joined_none (kept_terms kept (members_of (take i fields))))
    ∙ ap (λ (b : Bool). joined (kept_terms kept (members_of (take i fields))) (one_term b field.name)) (sym b)
    ∙ sym (kept_more kept fields i field lt is)

-- ---- children

chosen_next : (flags : List Bool) (ns : List ℕ) (i : ℕ) → i < length ns → i < length flags → chosen (drop i flags) (drop i ns) ≡ cond (get_or flags i false) (get_or ns i 0 ∷ chosen (drop (suc i) flags) (drop (suc i) ns)) (chosen (drop (suc i) flags) (drop (suc i) ns))
chosen_next flags ns i lt also = λ j. chosen (drop-cons flags i false also j) (drop-cons ns i 0 lt j)

pub child_put : (flags : List Bool) (ns so_far after whole : List ℕ) (i n : ℕ) → i < length ns → i < length flags → get_or flags i false ≡ true → n ≡ get_or ns i 0 → after ≡ so_far ++ n ∷ [] → so_far ++ chosen (drop i flags) (drop i ns) ≡ whole → after ++ chosen (drop (suc i) flags) (drop (suc i) ns) ≡ whole
child_put flags ns so_far after whole i n lt also flag is put before =
    let rest : List ℕ = chosen (drop (suc i) flags) (drop (suc i) ns) in
    ap (λ (ms : List ℕ). ms ++ rest) (put ∙ ap (λ (m : ℕ). so_far ++ m ∷ []) is) ∙ append_assoc so_far (get_or ns i 0 ∷ []) rest
    ∙ ap (λ (b : Bool). so_far ++ cond b (get_or ns i 0 ∷ rest) rest) (sym flag)
    ∙ ap (λ (ms : List ℕ). so_far ++ ms) (sym (chosen_next flags ns i lt also)) ∙ before

pub child_left : (flags : List Bool) (ns so_far whole : List ℕ) (i : ℕ) → i < length ns → i < length flags → get_or flags i false ≡ false → so_far ++ chosen (drop i flags) (drop i ns) ≡ whole → so_far ++ chosen (drop (suc i) flags) (drop (suc i) ns) ≡ whole
child_left flags ns so_far whole i lt also flag before =
    let rest : List ℕ = chosen (drop (suc i) flags) (drop (suc i) ns) in
    ap (λ (b : Bool). so_far ++ cond b (get_or ns i 0 ∷ rest) rest) (sym flag)
    ∙ ap (λ (ms : List ℕ). so_far ++ ms) (sym (chosen_next flags ns i lt also)) ∙ before
