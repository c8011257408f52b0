-- The names of fields: distinct, gone through one by one beside those seen before.
use Rattle.std.proofs.Common.{◌≡◌, ℕ, zero, suc, ◌+◌, ◌<◌, Bool, true, false, not, List, [], ◌∷◌, length, get_or, take, drop, sym, ap, ◌∙◌, subst, arith, Bor}
use Rattle.std.specs.List.{list_any}
use Rattle.std.specs.BTreeSet.{insert_key}
use Rattle.std.specs.BTreeMap.{is_at}
use Rattle.std.proofs.lemmas.List.{drop_more}
use Rattle.vx_types.specs.declared.dtypes.Field.{Field}
use Rattle.vx_types.specs.Views.{data_type, members_of}
use Rattle.vx_types.specs.Names.{are_distinct, names_in, HasDistinctNames, HaveDistinctNames}
use Rattle.vx_types.proofs.SeenNames.{are_fresh, distinct_is, fresh_more, fresh_no_more, text_cmp, texts}

-- ---- the names of fields that are gone through
abbrev names_from : List Field → ℕ → List (List ℕ)
names_from fields i = names_in (members_of (drop i fields))

names_next : (fields : List Field) (i : ℕ) (field : Field) → i < length fields → field ≡ get_or fields i field → names_from fields i ≡ field.name ∷ names_from fields (i + 1)
names_next fields i field lt is =
    ap (λ (us : List Field). names_in (members_of us)) (drop_more fields i field lt)
    ∙ ap (λ (u : Field). u.name ∷ names_from fields (i + 1)) (sym is)

pub names_more : (fields : List Field) (i : ℕ) (field : Field) (key : Bor (List ℕ)) (keys after : List (Bor (List ℕ))) (added distinct : Bool) → i < length fields → field ≡ get_or fields i field → key.now ≡ field.name
    → added ≡ not (list_any (is_at (text_cmp key)) keys) → added ≡ true → after ≡ insert_key text_cmp keys key
    → distinct ≡ are_fresh (texts keys) (names_from fields i) → distinct ≡ are_fresh (texts after) (names_from fields (i + 1))
names_more fields i field key keys after added distinct lt is name test new put so_far =
    so_far ∙ ap (are_fresh (texts keys)) (names_next fields i field lt is)
    ∙ ap (λ (n : List ℕ). are_fresh (texts keys) (n ∷ names_from fields (i + 1))) (sym name)
    ∙ fresh_more keys after key (names_from fields (i + 1)) added test new put

pub names_end : (fields : List Field) (i : ℕ) (field : Field) (key : Bor (List ℕ)) (keys : List (Bor (List ℕ))) (added distinct : Bool) → i < length fields → field ≡ get_or fields i field → key.now ≡ field.name
    → added ≡ not (list_any (is_at (text_cmp key)) keys) → added ≡ false
    → distinct ≡ are_fresh (texts keys) (names_from fields i) → distinct ≡ false
names_end fields i field key keys added distinct lt is name test old so_far =
    so_far ∙ ap (are_fresh (texts keys)) (names_next fields i field lt is)
    ∙ ap (λ (n : List ℕ). are_fresh (texts keys) (n ∷ names_from fields (i + 1))) (sym name)
    ∙ fresh_no_more keys key (names_from fields (i + 1)) added test old

pub names_start : (fields : List Field) (keys : List (Bor (List ℕ))) → keys ≡ [] → are_distinct (names_in (members_of fields)) ≡ are_fresh (texts keys) (names_from fields 0)
names_start fields keys none = distinct_is (names_in (members_of fields)) ∙ ap (λ (ks : List (Bor (List ℕ))). are_fresh (texts ks) (names_in (members_of fields))) (sym none)

-- ---- the dtypes of fields
abbrev distinct_at : Field → Type 0
distinct_at field = HasDistinctNames (data_type field.dtype)

pub field_distinct : (fields : List Field) (i : ℕ) (field : Field) → i < length fields → field ≡ get_or fields i field → HaveDistinctNames (members_of fields) → distinct_at field
field_distinct [] i field lt e all = absurd (omega arith)
field_distinct (one ∷ fields) zero field lt e all = subst distinct_at (sym e) all.0
field_distinct (one ∷ fields) (suc i) field lt e all = field_distinct fields i field (omega arith) e all.1

pub distinct_more : (fields : List Field) (i : ℕ) (field : Field) → i < length fields → field ≡ get_or fields i field → HaveDistinctNames (members_of (take i fields)) → distinct_at field → HaveDistinctNames (members_of (take (suc i) fields))
distinct_more [] i field lt e so_far here = absurd (omega arith)
distinct_more (one ∷ fields) zero field lt e so_far here = (subst distinct_at e here, tt)
distinct_more (one ∷ fields) (suc i) field lt e so_far here = (so_far.0, distinct_more fields i field (omega arith) e so_far.1 here)
