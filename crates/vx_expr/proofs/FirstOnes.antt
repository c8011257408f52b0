-- The first of each name, one name at a time, and whether a name was there before.
use Rattle.std.proofs.Common.{◌≡◌, ℕ, ◌+◌, ◌<◌, Bool, true, false, cond, List, [], ◌∷◌, ◌++◌, length, get_or, take, refl, ap}
use Rattle.std.specs.Prelude.{not, ◌||◌, filter}
use Rattle.std.specs.List.{list_any}
use Rattle.std.specs.Str.{bytes_eq}
use Rattle.std.specs.Ordering.{is_eq, nat_cmp}
use Rattle.std.specs.Cmp.Lexicographic.{slice_cmp}
use Rattle.std.proofs.lemmas.Cmp.{nat_list_eq_equiv}
use Rattle.std.proofs.lemmas.List.{take_more}
use Rattle.std.proofs.lemmas.List.Elements.{filter-append}
use Rattle.std.proofs.lemmas.List.Folds.{list_any_more}
use Rattle.std.proofs.lemmas.Map.Text.{is_eq-slice_cmp}
use Rattle.vx_expr.specs.Mentions.{first_ones}

-- whether the name is one of these
abbrev pub has_name : List ℕ → List (List ℕ) → Bool
has_name name names = list_any (bytes_eq name) names

-- the name alone if it is new
abbrev pub if_new : Bool → List ℕ → List (List ℕ)
if_new new name = cond new (name ∷ []) []

-- a new name stays if it passes the test, which asks whether it is another than the first
filter_last : (test : List ℕ → Bool) (name : List ℕ) (same known : Bool) → test name ≡ not same → filter test (if_new (not known) name) ≡ if_new (not (same || known)) name
filter_last test name true true e = refl
filter_last test name false true e = refl
filter_last test name true false e = ap (λ (b : Bool). cond b (name ∷ []) []) e
filter_last test name false false e = ap (λ (b : Bool). cond b (name ∷ []) []) e

-- a name at the end is added if it was not there
first_ones-one_more : (names : List (List ℕ)) (name : List ℕ) → first_ones (names ++ name ∷ []) ≡ first_ones names ++ if_new (not (has_name name names)) name
first_ones-one_more [] name = refl
first_ones-one_more (first ∷ names) name =
    let others = λ (other : List ℕ). not (bytes_eq other first) in
    rw (first_ones-one_more names name, filter-append others (first_ones names) (if_new (not (has_name name names)) name), filter_last others name (bytes_eq name first) (has_name name names) refl) refl

-- the same of the next name of a list
pub first_ones_more : (names : List (List ℕ)) (i : ℕ) (name : List ℕ) (new : Bool) → i < length names → name ≡ get_or names i name → new ≡ not (has_name name (take i names)) → first_ones (take (i + 1) names) ≡ first_ones (take i names) ++ if_new new name
first_ones_more names i name new lt e is =
    let more = take_more names i name lt in
    rw (more, ← e, is) (first_ones-one_more (take i names) name)

-- a text is one of the names up to the next if it is the next, or was one before
pub has_name_more : (names : List (List ℕ)) (i : ℕ) (name text : List ℕ) → i < length names → name ≡ get_or names i name → has_name text (take (i + 1) names) ≡ cond (is_eq (slice_cmp nat_cmp name text)) true (has_name text (take i names))
has_name_more names i name text lt e =
    let more = list_any_more (bytes_eq text) names i name lt in
    let turned = nat_list_eq_equiv.symm name text in
    rw (more, ← e, is_eq-slice_cmp name text, turned) (either (bytes_eq text name) (has_name text (take i names)))
  where
    either : (a b : Bool) → (b || a) ≡ cond a true b
    either true true = refl
    either true false = refl
    either false true = refl
    either false false = refl
