-- Sets of names, and the fields whose names stand in one.
use Rattle.std.proofs.Common.{◌≡◌, ℕ, zero, suc, ◌+◌, ◌<◌, Bool, true, false, cond, not, ◌||◌, List, [], ◌∷◌, ◌++◌, Option, Some, None, map, length, get_or, take, refl, sym, ap, ◌∙◌, arith, Bor}
use Rattle.std.specs.Prelude.{filter, option_map}
use Rattle.std.specs.List.{list_any}
use Rattle.std.specs.Str.{bytes_eq}
use Rattle.std.specs.BTreeSet.{insert_key}
use Rattle.std.specs.BTreeMap.{is_at}
use Rattle.std.proofs.lemmas.List.{map-append, take_more}
use Rattle.std.proofs.lemmas.Slice.Eq.{bytes_eq-Decides}
use Rattle.vx_types.proofs.SeenNames.{inserted, looked_up, or_swap, text_cmp, texts}
use Rattle.vx_base.specs.declared.dtypes.Field.{Field}
use Rattle.vx_base.specs.Data.{Members}
use Rattle.vx_base.specs.Names.{names_in}
use Rattle.vx_base.specs.Views.{members_of}
use Rattle.vx_expr.specs.Mentions.{first_ones}
use Rattle.vx_layout.specs.Kept.{is_kept, kept_among, names_among, only}

-- whether the name is one of these
abbrev pub stands_in : List (List ℕ) → List ℕ → Bool
stands_in names name = is_kept (only names) name

seen_last : (xs : List (List ℕ)) (x q : List ℕ) → stands_in (xs ++ x ∷ []) q ≡ (bytes_eq x q || stands_in xs q)
seen_last [] x q = refl
seen_last (y ∷ ys) x q = ap (λ (b : Bool). bytes_eq y q || b) (seen_last ys x q) ∙ or_swap (bytes_eq y q) (bytes_eq x q) (stands_in ys q)

-- one more name
pub set_more : (names : List (List ℕ)) (i : ℕ) (name : List ℕ) (key : Bor (List ℕ)) (keys after : List (Bor (List ℕ))) → i < length names → name ≡ get_or names i name → key.now ≡ name → after ≡ insert_key text_cmp keys key
    → ((q : List ℕ) → stands_in (texts keys) q ≡ stands_in (take i names) q) → (q : List ℕ) → stands_in (texts after) q ≡ stands_in (take (i + 1) names) q
set_more names i name key keys after lt is same put so_far q =
    ap (λ (ks : List (Bor (List ℕ))). stands_in (texts ks) q) put
    ∙ inserted keys key q
    ∙ ap (λ (b : Bool). bytes_eq key.now q || b) (so_far q)
    ∙ ap (λ (n : List ℕ). bytes_eq n q || stands_in (take i names) q) (same ∙ is)
    ∙ sym (seen_last (take i names) (get_or names i name) q)
    ∙ ap (λ (ns : List (List ℕ)). stands_in ns q) (sym (take_more names i name lt))

-- one more field
pub kept_more : (names : List (List ℕ)) (fields : List Field) (i : ℕ) (field : Field) → i < length fields → field ≡ get_or fields i field → names_among (members_of (take (suc i) fields)) names ≡ names_among (members_of (take i fields)) names ++ cond (stands_in names field.name) (field.name ∷ []) []
kept_more names [] i field lt e = absurd (omega arith)
kept_more names (one ∷ fields) zero field lt e = ap (λ (f : Field). cond (stands_in names f.name) (f.name ∷ []) []) (sym e)
kept_more names (one ∷ fields) (suc i) field lt e =
    let rest : names_among (members_of (take (suc i) fields)) names ≡ names_among (members_of (take i fields)) names ++ cond (stands_in names field.name) (field.name ∷ []) [] = kept_more names fields i field (omega arith) e in
    elim (stands_in names one.name) as (λ b. cond b (one.name ∷ names_among (members_of (take (suc i) fields)) names) (names_among (members_of (take (suc i) fields)) names) ≡ cond b (one.name ∷ names_among (members_of (take i fields)) names) (names_among (members_of (take i fields)) names) ++ cond (stands_in names field.name) (field.name ∷ []) []) [ true ↦ ap (λ (ns : List (List ℕ)). one.name ∷ ns) rest | false ↦ rest ]

add_none : (names : List (List ℕ)) → names ++ [] ≡ names
add_none [] = refl
add_none (name ∷ names) = ap (λ (ns : List (List ℕ)). name ∷ ns) (add_none names)

pub kept_yes : (names : List (List ℕ)) (fields : List Field) (i : ℕ) (field : Field) (so_far after : List (List ℕ)) (name : List ℕ) → i < length fields → field ≡ get_or fields i field → stands_in names field.name ≡ true → so_far ≡ names_among (members_of (take i fields)) names → name ≡ field.name → after ≡ so_far ++ name ∷ [] → after ≡ names_among (members_of (take (suc i) fields)) names
kept_yes names fields i field so_far after name lt is there before same put =
    put
    ∙ ap (λ (n : List ℕ). so_far ++ n ∷ []) same
    ∙ ap (λ (ns : List (List ℕ)). ns ++ field.name ∷ []) before
    ∙ ap (λ (b : Bool). names_among (members_of (take i fields)) names ++ cond b (field.name ∷ []) []) (sym there)
    ∙ sym (kept_more names fields i field lt is)

pub kept_no : (names : List (List ℕ)) (fields : List Field) (i : ℕ) (field : Field) (so_far : List (List ℕ)) → i < length fields → field ≡ get_or fields i field → stands_in names field.name ≡ false → so_far ≡ names_among (members_of (take i fields)) names → so_far ≡ names_among (members_of (take (suc i) fields)) names
kept_no names fields i field so_far lt is not_there before =
    before
    ∙ sym (add_none (names_among (members_of (take i fields)) names))
    ∙ ap (λ (b : Bool). names_among (members_of (take i fields)) names ++ cond b (field.name ∷ []) []) (sym not_there)
    ∙ sym (kept_more names fields i field lt is)

-- the names of one more field
pub names_more : (fields : List Field) (i : ℕ) (field : Field) → i < length fields → field ≡ get_or fields i field → names_in (members_of (take (suc i) fields)) ≡ names_in (members_of (take i fields)) ++ field.name ∷ []
names_more [] i field lt e = absurd (omega arith)
names_more (one ∷ fields) zero field lt e = ap (λ (f : Field). f.name ∷ []) (sym e)
names_more (one ∷ fields) (suc i) field lt e = ap (λ (ns : List (List ℕ)). one.name ∷ ns) (names_more fields i field (omega arith) e)

-- and whether it is kept
pub flags_more : (names : List (List ℕ)) (fields : List Field) (i : ℕ) (field : Field) (so_far after : List Bool) (kept : Bool) → i < length fields → field ≡ get_or fields i field → stands_in names field.name ≡ kept → so_far ≡ map (stands_in names) (names_in (members_of (take i fields))) → after ≡ so_far ++ kept ∷ [] → after ≡ map (stands_in names) (names_in (members_of (take (suc i) fields)))
flags_more names fields i field so_far after kept lt is tells before put =
    put
    ∙ ap (λ (b : Bool). so_far ++ b ∷ []) (sym tells)
    ∙ ap (λ (bs : List Bool). bs ++ stands_in names field.name ∷ []) before
    ∙ sym (map-append (stands_in names) (names_in (members_of (take i fields))) (field.name ∷ []))
    ∙ sym (ap (map (stands_in names)) (names_more fields i field lt is))

pub told : (keys : List (Bor (List ℕ))) (key : Bor (List ℕ)) (names : List (List ℕ)) (name : List ℕ) (found is : Bool) → found ≡ list_any (is_at (text_cmp key)) keys → ((q : List ℕ) → stands_in (texts keys) q ≡ stands_in names q) → key.now ≡ name → found ≡ is → stands_in names name ≡ is
told keys key names name found is test same e found_is =
    ap (stands_in names) (sym e) ∙ sym (same key.now) ∙ sym (looked_up keys key) ∙ sym test ∙ found_is

-- ---- names of which each stands once

found_step : (p : List ℕ → Bool) (x : List ℕ) (left xs : List (List ℕ)) (b c : Bool) → p x ≡ c → (c ≡ true → b ≡ true) → list_any p left ≡ list_any p xs → list_any p (cond b (x ∷ left) left) ≡ (c || list_any p xs)
found_step p x left xs true c e passes later = ap (λ (d : Bool). d || list_any p left) e ∙ ap (λ (d : Bool). c || d) later
found_step p x left xs false true e passes later = absurd (let no : false ≡ true = passes refl in cc)
found_step p x left xs false false e passes later = later

-- where whatever has p passes the test, it is found among those that pass
found_left : (p test : List ℕ → Bool) → ((x : List ℕ) → p x ≡ true → test x ≡ true) → (xs : List (List ℕ)) → list_any p (filter test xs) ≡ list_any p xs
found_left p test passes [] = refl
found_left p test passes (x ∷ xs) = found_step p x (filter test xs) xs (test x) (p x) refl (passes x) (found_left p test passes xs)

-- of two names that differ each differs from the other
pub differs : (one other : List ℕ) → bytes_eq other one ≡ false → (b : Bool) → bytes_eq one other ≡ b → b ≡ false
differs one other e true f = let same = (bytes_eq-Decides other one).1 (sym ((bytes_eq-Decides one other).0 f)) in absurd cc
differs one other e false f = refl

-- a text that equals one name differs from another
other_name : (n name x : List ℕ) → bytes_eq n name ≡ false → bytes_eq x name ≡ true → not (bytes_eq x n) ≡ true
other_name n name x apart e =
    let same : x ≡ name = (bytes_eq-Decides x name).0 e in
    ap (λ (y : List ℕ). not (bytes_eq y n)) same ∙ ap not (differs name n apart (bytes_eq name n) refl)

first_step : (n name : List ℕ) (ns : List (List ℕ)) (b : Bool) → bytes_eq n name ≡ b → stands_in (first_ones ns) name ≡ stands_in ns name → (b || stands_in (filter (λ other. not (bytes_eq other n)) (first_ones ns)) name) ≡ (b || stands_in ns name)
first_step n name ns true e later = refl
first_step n name ns false e later = found_left (λ other. bytes_eq other name) (λ other. not (bytes_eq other n)) (λ x is. other_name n name x e is) (first_ones ns) ∙ later

-- a name is one of these where it is one of them taken once each
first_found : (names : List (List ℕ)) (name : List ℕ) → stands_in (first_ones names) name ≡ stands_in names name
first_found [] name = refl
first_found (n ∷ ns) name = first_step n name ns (bytes_eq n name) refl (first_found ns name)

filter_same : (p q : List ℕ → Bool) → ((x : List ℕ) → p x ≡ q x) → (xs : List (List ℕ)) → filter p xs ≡ filter q xs
filter_same p q same [] = refl
filter_same p q same (x ∷ xs) =
    let here : p x ≡ q x = same x in
    let rest : filter p xs ≡ filter q xs = filter_same p q same xs in
    λ i. cond (here i) (x ∷ rest i) (rest i)

-- and so the same fields are among them
pub first_among : (ms : Members) (names : List (List ℕ)) → names_among ms (first_ones names) ≡ names_among ms names
first_among ms names = filter_same (stands_in (first_ones names)) (stands_in names) (first_found names) (names_in ms)

-- the fields of a list of names, taken once each
pub kept_named : (ms : Members) (names slice kept : List (List ℕ)) (got : Option (List (List ℕ))) → Some names ≡ option_map first_ones got → slice ≡ names → kept ≡ names_among ms slice → only kept ≡ kept_among ms got
kept_named ms names slice kept None e same is = absurd cc
kept_named ms names slice kept (Some ns) e same is =
    let once : slice ≡ first_ones ns = cc in
    ap only (is ∙ ap (names_among ms) once ∙ first_among ms ns)
