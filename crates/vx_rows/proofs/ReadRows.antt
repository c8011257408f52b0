-- What reads say of what a row is worth: each law by one induction over derivations.
use Rattle.std.proofs.Common.{◌≡◌, ℕ, zero, suc, ◌<◌, ◌⊎◌, inl, inr, ⊎_elim, pos, negsuc, true, false, List, [], ◌∷◌, ◌++◌, Option, Some, None, length, refl, ap, subst, arith}
use Rattle.std.specs.Prelude.{option_and_then, option_map, IsSome, IfSome, IsSomeAnd}
use Rattle.std.specs.List.{slice_get, AllByRecursion}
use Rattle.vx_base.specs.Data.{Datum, null, truth, number, text, structure}
use Rattle.vx_expr.specs.Types.{on_both}
use Rattle.vx_expr.specs.Meaning.{meaning}
use Rattle.vx_expr.specs.Rows.{no_bound}
use Rattle.vx_expr.specs.Packs.{struct_row}
use Rattle.vx_rows.specs.Derivations.{LeafRow, Derivation, nothing, of_leaf, list_row, given, packed, valid_where, looked_up, worked_out, read_whole, concluded, Derivations, no_more, also, derivation_count, Leaves, where_valid, look_up, one_more, derived, derived_each}
use Rattle.vx_rows.specs.Reads.{Way, through, inside, Found, a_leaf_row, a_code, Read, code_row, reads_of, reads_of_each, AnyOf, Finds, FindsOnly, found_in, IsPlaceAmong, IsBadCode, IsFaulty, IsFine}
use Rattle.vx_rows.specs.Whole.{Concludes, IsWhole, AreWhole, IsStrict, AreStrict, GiveEachRow, AgreeOn}

-- ---- reads one after another

abbrev pub Meets : (Found → Type 0) → Read → Type 0
Meets P read = P read.found

pub only_left : (P : Found → Type 0) (xs ys : List Read) → FindsOnly P (xs ++ ys) → FindsOnly P xs
only_left P [] ys each = tt
only_left P (x ∷ xs) ys each = (each.0, only_left P xs ys each.1)

pub only_right : (P : Found → Type 0) (xs ys : List Read) → FindsOnly P (xs ++ ys) → FindsOnly P ys
only_right P [] ys each = each
only_right P (x ∷ xs) ys each = only_right P xs ys each.1

pub any_either : (P : Read → Type 0) (xs ys : List Read) → AnyOf P (xs ++ ys) → AnyOf P xs ⊎ AnyOf P ys
any_either P [] ys any = inr any
any_either P (x ∷ xs) ys any = ⊎_elim (λ (here : P x). inl (inl here)) (λ (rest : AnyOf P (xs ++ ys)). ⊎_elim (λ (left : AnyOf P xs). inl (inr left)) (λ (right : AnyOf P ys). inr right) (any_either P xs ys rest)) any

pub any_left : (P : Read → Type 0) (xs ys : List Read) → AnyOf P xs → AnyOf P (xs ++ ys)
any_left P [] ys any = absurd any
any_left P (x ∷ xs) ys any = ⊎_elim (λ (here : P x). inl here) (λ (rest : AnyOf P xs). inr (any_left P xs ys rest)) any

pub any_right : (P : Read → Type 0) (xs ys : List Read) → AnyOf P ys → AnyOf P (xs ++ ys)
any_right P [] ys any = any
any_right P (x ∷ xs) ys any = inr (any_right P xs ys any)

-- ---- leaves that agree on what is read give the same

mutual
  pub agree : (ones others : Leaves) (way : Way) (d : Derivation) → FindsOnly (AgreeOn ones others) (reads_of way d) → derived ones d ≡ derived others d
  agree ones others way nothing each = refl
  agree ones others way (of_leaf at) each = ap (option_and_then (λ (values : List Datum). slice_get values at.row)) each.0
  agree ones others way (list_row list row) each = refl
  agree ones others way (given v) each = refl
  agree ones others way (packed ds) each = ap (option_map struct_row) (agree_each ones others way ds each)
  agree ones others way (valid_where d validity) each =
      let p : derived ones d ≡ derived others d = agree ones others way d (only_left (AgreeOn ones others) (reads_of way d) (reads_of way validity) each) in
      let q : derived ones validity ≡ derived others validity = agree ones others way validity (only_right (AgreeOn ones others) (reads_of way d) (reads_of way validity) each) in
      cc
  agree ones others way (looked_up dictionary row code values) each =
      let p : derived ones code ≡ derived others code = agree ones others way code (only_left (AgreeOn ones others) (reads_of way code) (reads_of_each (inside dictionary way) values) each.1) in
      let q : derived_each ones values ≡ derived_each others values = agree_each ones others (inside dictionary way) values (only_right (AgreeOn ones others) (reads_of way code) (reads_of_each (inside dictionary way) values) each.1) in
      cc
  agree ones others way (worked_out t e d) each = ap (option_and_then (λ (v : Datum). meaning t no_bound e v 0)) (agree ones others way d each)
  agree ones others way (read_whole share row d ds) each = agree ones others way d (only_left (AgreeOn ones others) (reads_of way d) (reads_of_each way ds) each)
  agree ones others way (concluded rule ds) each = ap (option_and_then rule) (agree_each ones others way ds each)

  pub agree_each : (ones others : Leaves) (way : Way) (ds : Derivations) → FindsOnly (AgreeOn ones others) (reads_of_each way ds) → derived_each ones ds ≡ derived_each others ds
  agree_each ones others way no_more each = refl
  agree_each ones others way (also d ds) each =
      let p : derived ones d ≡ derived others d = agree ones others way d (only_left (AgreeOn ones others) (reads_of way d) (reads_of_each way ds) each) in
      let q : derived_each ones ds ≡ derived_each others ds = agree_each ones others way ds (only_right (AgreeOn ones others) (reads_of way d) (reads_of_each way ds) each) in
      cc

-- ---- a faulty read makes the row a fault

on_left : {A B C : Type 0} (f : A → B → Option C) (x : Option A) (y : Option B) → x ≡ None → on_both f x y ≡ None
on_left f None y e = refl
on_left f (Some x) y e = absurd cc

on_right : {A B C : Type 0} (f : A → B → Option C) (x : Option A) (y : Option B) → y ≡ None → on_both f x y ≡ None
on_right f None y e = refl
on_right f (Some x) None e = refl
on_right f (Some x) (Some y) e = absurd cc

-- the place lies past the values
past : (values : List Datum) (place : ℕ) → ¬ (place < length values) → slice_get values place ≡ None
past [] place beyond = refl
past (v ∷ values) zero beyond = absurd (beyond (omega arith))
past (v ∷ values) (suc place) beyond = past values place (λ (lt : place < length values). beyond (omega arith))

bad_look_up : (values : List Datum) (count : ℕ) (code : Datum) → length values ≡ count → ¬ (IsPlaceAmong count code) → look_up values code ≡ None
bad_look_up values count null e bad = absurd (bad tt)
bad_look_up values count (truth b) e bad = refl
bad_look_up values count (number (pos place)) e bad = past values place (λ (lt : place < length values). bad (omega arith))
bad_look_up values count (number (negsuc n)) e bad = refl
bad_look_up values count (text bytes) e bad = refl
bad_look_up values count (structure vs) e bad = refl

abbrev HasCount : ℕ → List Datum → Type 0
HasCount count values = length values ≡ count

-- as many values as derivations
count_by : (d : Option Datum) (ds : Option (List Datum)) (count : ℕ) → IfSome ds (HasCount count) → IfSome (on_both one_more d ds) (HasCount (suc count))
count_by None ds count each = tt
count_by (Some v) None count each = tt
count_by (Some v) (Some vs) count each = omega arith

pub derived_count : (leaves : Leaves) (ds : Derivations) → IfSome (derived_each leaves ds) (HasCount (derivation_count ds))
derived_count leaves no_more = refl
derived_count leaves (also d ds) = count_by (derived leaves d) (derived_each leaves ds) (derivation_count ds) (derived_count leaves ds)

bad_code : (values : Option (List Datum)) (code : Option Datum) (count : ℕ) → IfSome values (HasCount count) → IsSomeAnd code (λ c. ¬ (IsPlaceAmong count c)) → on_both look_up values code ≡ None
bad_code None code count size bad = refl
bad_code (Some values) None count size bad = refl
bad_code (Some values) (Some code) count size bad = bad_look_up values count code size bad

faulty_code : (leaves : Leaves) (dictionary row : ℕ) (code : Derivation) (values : Derivations) → IsFaulty leaves (a_code (code_row dictionary row code values)) → derived leaves (looked_up dictionary row code values) ≡ None
faulty_code leaves dictionary row code values fault =
    ⊎_elim (λ (no : ⊥). absurd no) (λ (rest : IsBadCode leaves (a_code (code_row dictionary row code values)) ⊎ ⊥).
    ⊎_elim (λ (bad : IsBadCode leaves (a_code (code_row dictionary row code values))). bad_code (derived_each leaves values) (derived leaves code) (derivation_count values) (derived_count leaves values) bad) (λ (no : ⊥). absurd no) rest) fault

faulty_leaf_row : (leaves : Leaves) (at : LeafRow) → IsFaulty leaves (a_leaf_row at) → derived leaves (of_leaf at) ≡ None
faulty_leaf_row leaves at fault =
    ⊎_elim (λ (lacks : leaves at.dtype at.coding at.rows at.segment ≡ None). ap (option_and_then (λ (values : List Datum). slice_get values at.row)) lacks) (λ (rest : ⊥ ⊎ ⊥). ⊎_elim (λ (no : ⊥). absurd no) (λ (no : ⊥). absurd no) rest) fault

mutual
  pub faulty : (leaves : Leaves) (way : Way) (d : Derivation) → IsStrict d → Finds (IsFaulty leaves) (reads_of way d) → derived leaves d ≡ None
  faulty leaves way nothing strict any = refl
  faulty leaves way (of_leaf at) strict any = ⊎_elim (λ (fault : IsFaulty leaves (a_leaf_row at)). faulty_leaf_row leaves at fault) (λ (no : ⊥). absurd no) any
  faulty leaves way (list_row list row) strict any = refl
  faulty leaves way (given v) strict any = absurd any
  faulty leaves way (packed ds) strict any = ap (option_map struct_row) (faulty_each leaves way ds strict any)
  faulty leaves way (valid_where d validity) strict any =
      ⊎_elim (λ (left : Finds (IsFaulty leaves) (reads_of way d)). on_left where_valid (derived leaves d) (derived leaves validity) (faulty leaves way d strict.0 left))
      (λ (right : Finds (IsFaulty leaves) (reads_of way validity)). on_right where_valid (derived leaves d) (derived leaves validity) (faulty leaves way validity strict.1 right))
      (any_either (Meets (IsFaulty leaves)) (reads_of way d) (reads_of way validity) any)
  faulty leaves way (looked_up dictionary row code values) strict any =
      ⊎_elim (λ (fault : IsFaulty leaves (a_code (code_row dictionary row code values))). faulty_code leaves dictionary row code values fault)
      (λ (rest : Finds (IsFaulty leaves) (reads_of way code ++ reads_of_each (inside dictionary way) values)).
      ⊎_elim (λ (left : Finds (IsFaulty leaves) (reads_of way code)). on_right look_up (derived_each leaves values) (derived leaves code) (faulty leaves way code strict.0 left))
      (λ (right : Finds (IsFaulty leaves) (reads_of_each (inside dictionary way) values)). on_left look_up (derived_each leaves values) (derived leaves code) (faulty_each leaves (inside dictionary way) values strict.1 right))
      (any_either (Meets (IsFaulty leaves)) (reads_of way code) (reads_of_each (inside dictionary way) values) rest)) any
  faulty leaves way (worked_out t e d) strict any = ap (option_and_then (λ (v : Datum). meaning t no_bound e v 0)) (faulty leaves way d strict any)
  faulty leaves way (read_whole share row d ds) strict any = absurd strict
  faulty leaves way (concluded rule ds) strict any = ap (option_and_then rule) (faulty_each leaves way ds strict any)

  pub faulty_each : (leaves : Leaves) (way : Way) (ds : Derivations) → AreStrict ds → Finds (IsFaulty leaves) (reads_of_each way ds) → derived_each leaves ds ≡ None
  faulty_each leaves way no_more strict any = absurd any
  faulty_each leaves way (also d ds) strict any =
      ⊎_elim (λ (left : Finds (IsFaulty leaves) (reads_of way d)). on_left one_more (derived leaves d) (derived_each leaves ds) (faulty leaves way d strict.0 left))
      (λ (right : Finds (IsFaulty leaves) (reads_of_each way ds)). on_right one_more (derived leaves d) (derived_each leaves ds) (faulty_each leaves way ds strict.1 right))
      (any_either (Meets (IsFaulty leaves)) (reads_of way d) (reads_of_each way ds) any)

-- ---- where all is fine, the value is there

get_there : (values : List Datum) (row : ℕ) → row < length values → IsSome (slice_get values row)
get_there [] row lt = absurd (omega arith)
get_there (v ∷ values) zero lt = refl
get_there (v ∷ values) (suc row) lt = get_there values row (omega arith)

leaf_row_there : (values : Option (List Datum)) (rows row : ℕ) → row < rows → IfSome values (HasCount rows) → IsSome values → IsSome (option_and_then (λ found. slice_get found row) values)
leaf_row_there None rows row lt size some = absurd cc
leaf_row_there (Some values) rows row lt size some = get_there values row (omega arith)

packed_there : (ds : Option (List Datum)) → IsSome ds → IsSome (option_map struct_row ds)
packed_there None some = absurd cc
packed_there (Some vs) some = refl

valid_there_by : (v validity : Datum) → IsSome (where_valid v validity)
valid_there_by v null = refl
valid_there_by v (truth true) = refl
valid_there_by v (truth false) = refl
valid_there_by v (number z) = refl
valid_there_by v (text bytes) = refl
valid_there_by v (structure vs) = refl

valid_there : (d validity : Option Datum) → IsSome d → IsSome validity → IsSome (on_both where_valid d validity)
valid_there None validity some also_some = absurd cc
valid_there (Some v) None some also_some = absurd cc
valid_there (Some v) (Some validity) some also_some = valid_there_by v validity

look_up_there : (values : List Datum) (count : ℕ) (code : Datum) → length values ≡ count → IsPlaceAmong count code → IsSome (look_up values code)
look_up_there values count null e among = refl
look_up_there values count (truth b) e among = absurd among
look_up_there values count (number (pos place)) e among = get_there values place (omega arith)
look_up_there values count (number (negsuc n)) e among = absurd among
look_up_there values count (text bytes) e among = absurd among
look_up_there values count (structure vs) e among = absurd among

looked_up_there : (values : Option (List Datum)) (code : Option Datum) (count : ℕ) → IfSome values (HasCount count) → IfSome code (IsPlaceAmong count) → IsSome values → IsSome code → IsSome (on_both look_up values code)
looked_up_there None code count size among some also_some = absurd cc
looked_up_there (Some values) None count size among some also_some = absurd cc
looked_up_there (Some values) (Some code) count size among some also_some = look_up_there values count code size among

one_more_there : (d : Option Datum) (ds : Option (List Datum)) → IsSome d → IsSome ds → IsSome (on_both one_more d ds)
one_more_there None ds some also_some = absurd cc
one_more_there (Some v) None some also_some = absurd cc
one_more_there (Some v) (Some vs) some also_some = refl

concluded_there : (rule : List Datum → Option Datum) (ds : Option (List Datum)) (count : ℕ) → IfSome ds (HasCount count) → Concludes rule count → IsSome ds → IsSome (option_and_then rule ds)
concluded_there rule None count size gives some = absurd cc
concluded_there rule (Some vs) count size gives some = gives vs size

mutual
  pub complete : (leaves : Leaves) → GiveEachRow leaves → (way : Way) (d : Derivation) → IsWhole d → FindsOnly (IsFine leaves) (reads_of way d) → IsSome (derived leaves d)
  complete leaves each_row way nothing whole fine = absurd whole
  complete leaves each_row way (of_leaf at) whole fine = leaf_row_there (leaves at.dtype at.coding at.rows at.segment) at.rows at.row whole (each_row at.dtype at.coding at.rows at.segment) fine.0
  complete leaves each_row way (list_row list row) whole fine = absurd fine.0
  complete leaves each_row way (given v) whole fine = refl
  complete leaves each_row way (packed ds) whole fine = packed_there (derived_each leaves ds) (complete_each leaves each_row way ds whole fine)
  complete leaves each_row way (valid_where d validity) whole fine =
      valid_there (derived leaves d) (derived leaves validity)
      (complete leaves each_row way d whole.0 (only_left (IsFine leaves) (reads_of way d) (reads_of way validity) fine))
      (complete leaves each_row way validity whole.1 (only_right (IsFine leaves) (reads_of way d) (reads_of way validity) fine))
  complete leaves each_row way (looked_up dictionary row code values) whole fine =
      looked_up_there (derived_each leaves values) (derived leaves code) (derivation_count values) (derived_count leaves values) fine.0
      (complete_each leaves each_row (inside dictionary way) values whole.1 (only_right (IsFine leaves) (reads_of way code) (reads_of_each (inside dictionary way) values) fine.1))
      (complete leaves each_row way code whole.0 (only_left (IsFine leaves) (reads_of way code) (reads_of_each (inside dictionary way) values) fine.1))
  complete leaves each_row way (worked_out t e d) whole fine = absurd whole
  complete leaves each_row way (read_whole share row d ds) whole fine = complete leaves each_row way d whole (only_left (IsFine leaves) (reads_of way d) (reads_of_each way ds) fine)
  complete leaves each_row way (concluded rule ds) whole fine = concluded_there rule (derived_each leaves ds) (derivation_count ds) (derived_count leaves ds) whole.0 (complete_each leaves each_row way ds whole.1 fine)

  pub complete_each : (leaves : Leaves) → GiveEachRow leaves → (way : Way) (ds : Derivations) → AreWhole ds → FindsOnly (IsFine leaves) (reads_of_each way ds) → IsSome (derived_each leaves ds)
  complete_each leaves each_row way no_more whole fine = refl
  complete_each leaves each_row way (also d ds) whole fine =
      one_more_there (derived leaves d) (derived_each leaves ds)
      (complete leaves each_row way d whole.0 (only_left (IsFine leaves) (reads_of way d) (reads_of_each way ds) fine))
      (complete_each leaves each_row way ds whole.1 (only_right (IsFine leaves) (reads_of way d) (reads_of_each way ds) fine))

-- ---- what is found doesn't tell how it was come to

join_found : (xs ys xs' ys' : List Read) → found_in xs ≡ found_in xs' → found_in ys ≡ found_in ys' → found_in (xs ++ ys) ≡ found_in (xs' ++ ys')
join_found [] ys [] ys' p q = q
join_found [] ys (x ∷ xs') ys' p q = absurd cc
join_found (x ∷ xs) ys [] ys' p q = absurd cc
join_found (x ∷ xs) ys (y ∷ xs') ys' p q =
    let e : x.found ≡ y.found = cc in
    let rest : found_in xs ≡ found_in xs' = cc in
    let more : found_in (xs ++ ys) ≡ found_in (xs' ++ ys') = join_found xs ys xs' ys' rest q in
    cc

mutual
  pub found_same : (p q : Way) (d : Derivation) → found_in (reads_of p d) ≡ found_in (reads_of q d)
  found_same p q nothing = refl
  found_same p q (of_leaf at) = refl
  found_same p q (list_row list row) = refl
  found_same p q (given v) = refl
  found_same p q (packed ds) = found_same_each p q ds
  found_same p q (valid_where d validity) = join_found (reads_of p d) (reads_of p validity) (reads_of q d) (reads_of q validity) (found_same p q d) (found_same p q validity)
  found_same p q (looked_up dictionary row code values) =
      ap (λ (found : List Found). a_code (code_row dictionary row code values) ∷ found) (join_found (reads_of p code) (reads_of_each (inside dictionary p) values) (reads_of q code) (reads_of_each (inside dictionary q) values) (found_same p q code) (found_same_each (inside dictionary p) (inside dictionary q) values))
  found_same p q (worked_out t e d) = found_same p q d
  found_same p q (read_whole share row d ds) = join_found (reads_of p d) (reads_of_each p ds) (reads_of q d) (reads_of_each q ds) (found_same p q d) (found_same_each p q ds)
  found_same p q (concluded rule ds) = found_same_each p q ds

  found_same_each : (p q : Way) (ds : Derivations) → found_in (reads_of_each p ds) ≡ found_in (reads_of_each q ds)
  found_same_each p q no_more = refl
  found_same_each p q (also d ds) = join_found (reads_of p d) (reads_of_each p ds) (reads_of q d) (reads_of_each q ds) (found_same p q d) (found_same_each p q ds)

finds_in : (P : Found → Type 0) (xs : List Read) → Finds P xs → AnyOf P (found_in xs)
finds_in P [] any = any
finds_in P (x ∷ xs) any = ⊎_elim (λ (here : P x.found). inl here) (λ (rest : Finds P xs). inr (finds_in P xs rest)) any

finds_out : (P : Found → Type 0) (xs : List Read) → AnyOf P (found_in xs) → Finds P xs
finds_out P [] any = any
finds_out P (x ∷ xs) any = ⊎_elim (λ (here : P x.found). inl here) (λ (rest : AnyOf P (found_in xs)). inr (finds_out P xs rest)) any

pub found_anywhere : (P : Found → Type 0) (p q : Way) (d : Derivation) → Finds P (reads_of p d) → Finds P (reads_of q d)
found_anywhere P p q d any = finds_out P (reads_of q d) (subst (AnyOf P) (found_same p q d) (finds_in P (reads_of p d) any))

-- ---- what is read inside a dictionary lies there

abbrev LiesIn : Way → Read → Type 0
LiesIn way read = read.way ≡ way

each_join : (P : Read → Type 0) (xs ys : List Read) → AllByRecursion P xs → AllByRecursion P ys → AllByRecursion P (xs ++ ys)
each_join P [] ys each more = more
each_join P (x ∷ xs) ys each more = (each.0, each_join P xs ys each.1 more)

mutual
  pub lies_through : (n : ℕ) (d : Derivation) → AllByRecursion (LiesIn (through n)) (reads_of (through n) d)
  lies_through n nothing = tt
  lies_through n (of_leaf at) = (refl, tt)
  lies_through n (list_row list row) = (refl, tt)
  lies_through n (given v) = tt
  lies_through n (packed ds) = each_lies_through n ds
  lies_through n (valid_where d validity) = each_join (LiesIn (through n)) (reads_of (through n) d) (reads_of (through n) validity) (lies_through n d) (lies_through n validity)
  lies_through n (looked_up dictionary row code values) = (refl, each_join (LiesIn (through n)) (reads_of (through n) code) (reads_of_each (through n) values) (lies_through n code) (each_lies_through n values))
  lies_through n (worked_out t e d) = lies_through n d
  lies_through n (read_whole share row d ds) = each_join (LiesIn (through n)) (reads_of (through n) d) (reads_of_each (through n) ds) (lies_through n d) (each_lies_through n ds)
  lies_through n (concluded rule ds) = each_lies_through n ds

  pub each_lies_through : (n : ℕ) (ds : Derivations) → AllByRecursion (LiesIn (through n)) (reads_of_each (through n) ds)
  each_lies_through n no_more = tt
  each_lies_through n (also d ds) = each_join (LiesIn (through n)) (reads_of (through n) d) (reads_of_each (through n) ds) (lies_through n d) (each_lies_through n ds)
