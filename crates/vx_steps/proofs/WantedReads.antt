-- The wanted segments: each stands at one place, which the map of places has.
use Rattle.std.proofs.Common.{◌≡◌, Global, Vec, ℕ, zero, suc, ◌+◌, ◌<◌, ◌≤◌, ◌==◌, ◌⊎◌, inl, inr, ⊎_elim, Bool, true, false, cond, List, [], ◌∷◌, ◌++◌, Option, Some, None, length, map, get_or, set, refl, sym, ap, ◌∙◌, subst, arith}
use Rattle.std.specs.Prelude.{IsSomeAnd, if◌then◌else◌}
use Rattle.std.specs.List.{slice_get}
use Rattle.std.specs.Option.{option_map, is_some}
use Rattle.std.specs.Ordering.{nat_cmp}
use Rattle.std.specs.BTreeMap.{BTreeMap, get}
use Rattle.std.proofs.lemmas.Bool.{cases_eq}
use Rattle.std.proofs.lemmas.List.{length-map}
use Rattle.std.proofs.lemmas.Option.{slice_get-map, slice_get-get_or, slice_get_within, same_Some}
use Rattle.vx_steps.specs.declared.reads.SegmentBytes.{SegmentBytes}
use Rattle.vx_steps.specs.declared.reads.SegmentBytes.TheVariants.{NotYet, Came, LetGo}
use Rattle.vx_steps.specs.declared.reads.WantedSegment.{WantedSegment}
use Rattle.vx_steps.specs.ReadTableData.{Wanted, Stored, bytes_in, is_gone, stored_data, wanted_data}
use Rattle.vx_steps.specs.ReadTable.{StandsAt, AreReads, IsGone, IsNamed, KeepsGone, bytes_of}
use Rattle.vx_steps.proofs.Keeping.{got_new}

pub wanted_at : (ws : List WantedSegment) (i : ℕ) (w : WantedSegment) → i < length ws → w ≡ get_or ws i w → slice_get (map wanted_data ws) i ≡ Some (wanted_data w)
wanted_at ws i w inside is =
    slice_get-map wanted_data ws i ∙ ap (option_map wanted_data) (slice_get-get_or ws i w inside) ∙ ap (λ (v : WantedSegment). Some (wanted_data v)) (sym is)

pub stands_is : (wanted : List Wanted) (segment place : ℕ) (w : Wanted) → slice_get wanted place ≡ Some w → StandsAt wanted segment place → w.segment ≡ segment
stands_is wanted segment place w at stands =
    let P : Option Wanted → Type 0 = λ o. IsSomeAnd o (λ v. v.segment ≡ segment) in
    let here : P (Some w) = subst P at stands in
    here

pub is_standing : (wanted : List Wanted) (place : ℕ) (w : Wanted) → slice_get wanted place ≡ Some w → (segment : ℕ) → w.segment ≡ segment → StandsAt wanted segment place
is_standing wanted place w at segment is =
    let P : Option Wanted → Type 0 = λ o. IsSomeAnd o (λ v. v.segment ≡ segment) in
    subst P (sym at) is

standing_inside : (wanted : List Wanted) (segment place : ℕ) → (o : Option Wanted) → slice_get wanted place ≡ o → IsSomeAnd o (λ w. w.segment ≡ segment) → place < length wanted
standing_inside wanted segment place None e h = absurd h
standing_inside wanted segment place (Some w) e h = slice_get_within wanted place w e

pub place_inside : (places : BTreeMap ℕ ℕ) (ws : List WantedSegment) (handed : ℕ) → AreReads places (map wanted_data ws) handed → (segment place : ℕ) → get nat_cmp places segment ≡ Some place → place < length ws
place_inside places ws handed reads segment place e =
    let wanted = map wanted_data ws in
    let count : length wanted ≡ length ws = grind (arith, length-map) in
    let inside : place < length wanted = standing_inside wanted segment place (slice_get wanted place) refl (reads.stands segment place e) in
    omega arith

-- a segment stands at one place
pub one_place : (places : BTreeMap ℕ ℕ) (wanted : List Wanted) (handed : ℕ) → AreReads places wanted handed → (i j : ℕ) (v w : Wanted) → slice_get wanted i ≡ Some v → slice_get wanted j ≡ Some w → v.segment ≡ w.segment → i ≡ j
one_place places wanted handed reads i j v w at_i at_j same =
    let p : get nat_cmp places v.segment ≡ Some i = reads.placed i v at_i in
    let q : get nat_cmp places w.segment ≡ Some j = reads.placed j w at_j in
    let r : get nat_cmp places v.segment ≡ get nat_cmp places w.segment = ap (get nat_cmp places) same in
    let both : Some i ≡ Some j = sym p ∙ r ∙ q in
    cc

bytes_step : (b : Bool) (x y : Option (List ℕ)) → b ≡ false → (if b then x else y) ≡ y
bytes_step b x y e = ap (λ (c : Bool). if c then x else y) e

eq_false : (a b : ℕ) → (a ≡ b → ⊥) → (a == b) ≡ false
eq_false a b h = grind arith

pub eq_true : (a b : ℕ) → a ≡ b → (a == b) ≡ true
eq_true a b h = grind arith

bytes_first : (wanted : List Wanted) (place : ℕ) (w : Wanted) → slice_get wanted place ≡ Some w → ((i : ℕ) (v : Wanted) → slice_get wanted i ≡ Some v → v.segment ≡ w.segment → i ≡ place) → bytes_of wanted w.segment ≡ w.bytes
bytes_first [] place w at only = absurd cc
bytes_first (v ∷ wanted) zero w at only =
    let same : v ≡ w = cc in
    let e : (v.segment == w.segment) ≡ true = eq_true v.segment w.segment (ap (λ (x : Wanted). x.segment) same) in
    ap (λ (c : Bool). if c then v.bytes else bytes_of wanted w.segment) e ∙ ap (λ (x : Wanted). x.bytes) same
bytes_first (v ∷ wanted) (suc place) w at only =
    let e : (v.segment == w.segment) ≡ false = eq_false v.segment w.segment (λ same. absurd (let z : 0 ≡ suc place = only 0 v refl same in omega arith)) in
    bytes_step (v.segment == w.segment) v.bytes (bytes_of wanted w.segment) e ∙ bytes_first wanted place w at (λ i x at_i same. let z : suc i ≡ suc place = only (suc i) x at_i same in omega arith)

pub bytes_at : (places : BTreeMap ℕ ℕ) (wanted : List Wanted) (handed : ℕ) → AreReads places wanted handed → (segment place : ℕ) (w : Wanted) → get nat_cmp places segment ≡ Some place → slice_get wanted place ≡ Some w → bytes_of wanted segment ≡ w.bytes
bytes_at places wanted handed reads segment place w e at =
    let is : w.segment ≡ segment = stands_is wanted segment place w at (reads.stands segment place e) in
    ap (bytes_of wanted) (sym is) ∙ bytes_first wanted place w at (λ i v at_i same. one_place places wanted handed reads i place v w at_i at same)

bytes_nowhere : (wanted : List Wanted) (segment : ℕ) → ((i : ℕ) (v : Wanted) → slice_get wanted i ≡ Some v → v.segment ≡ segment → ⊥) → bytes_of wanted segment ≡ None
bytes_nowhere [] segment none = refl
bytes_nowhere (v ∷ wanted) segment none =
    let e : (v.segment == segment) ≡ false = eq_false v.segment segment (λ same. none 0 v refl same) in
    bytes_step (v.segment == segment) v.bytes (bytes_of wanted segment) e ∙ bytes_nowhere wanted segment (λ i x at same. none (suc i) x at same)

some_none : (i : ℕ) → Some i ≡ None → ⊥
some_none i h = cc

pub no_place : (places : BTreeMap ℕ ℕ) (wanted : List Wanted) (handed : ℕ) → AreReads places wanted handed → (segment : ℕ) → get nat_cmp places segment ≡ None → (i : ℕ) (v : Wanted) → slice_get wanted i ≡ Some v → v.segment ≡ segment → ⊥
no_place places wanted handed reads segment none i v at same = some_none i (sym (reads.placed i v at) ∙ ap (get nat_cmp places) same ∙ none)

pub bytes_none : (places : BTreeMap ℕ ℕ) (wanted : List Wanted) (handed : ℕ) → AreReads places wanted handed → (segment : ℕ) → get nat_cmp places segment ≡ None → bytes_of wanted segment ≡ None
bytes_none places wanted handed reads segment none = bytes_nowhere wanted segment (no_place places wanted handed reads segment none)

-- ---- one more

pub got_pushed : {X : Type 0} (xs : List X) (y : X) (i : ℕ) (x : X) → slice_get (xs ++ y ∷ []) i ≡ Some x → (slice_get xs i ≡ Some x) ⊎ ((i ≡ length xs) × (y ≡ x))
got_pushed [] y zero x h = inr (refl, cc)
got_pushed [] y (suc i) x h = absurd cc
got_pushed (z ∷ xs) y zero x h = inl h
got_pushed (z ∷ xs) y (suc i) x h = ⊎_elim (λ (e : slice_get xs i ≡ Some x). inl e) (λ (e : (i ≡ length xs) × (y ≡ x)). inr (ap suc e.0, e.1)) (got_pushed xs y i x h)

pub pushed_old : {X : Type 0} (xs : List X) (y : X) (i : ℕ) (x : X) → slice_get xs i ≡ Some x → slice_get (xs ++ y ∷ []) i ≡ Some x
pushed_old [] y i x h = absurd cc
pushed_old (z ∷ xs) y zero x h = h
pushed_old (z ∷ xs) y (suc i) x h = pushed_old xs y i x h

length_pushed : {X : Type 0} (xs : List X) (y : X) → length (xs ++ y ∷ []) ≡ length xs + 1
length_pushed [] y = refl
length_pushed (z ∷ xs) y = omega (arith, length_pushed xs y)

standing_pushed : (wanted : List Wanted) (y : Wanted) (segment place : ℕ) (o : Option Wanted) → slice_get wanted place ≡ o → IsSomeAnd o (λ w. w.segment ≡ segment) → StandsAt (wanted ++ y ∷ []) segment place
standing_pushed wanted y segment place None e h = absurd h
standing_pushed wanted y segment place (Some w) e h = is_standing (wanted ++ y ∷ []) place w (pushed_old wanted y place w e) segment h

pub one_more : (old new : BTreeMap ℕ ℕ) (wanted : List Wanted) (handed segment : ℕ) → AreReads old wanted handed → get nat_cmp old segment ≡ None → ((n : ℕ) → get nat_cmp new n ≡ cond (segment == n) (Some (length wanted)) (get nat_cmp old n)) →
    AreReads new (wanted ++ record { segment = segment; bytes = None } ∷ []) handed
one_more old new wanted handed segment reads none put = record {
  placed = λ i w at. ⊎_elim (λ (e : slice_get wanted i ≡ Some w). old_place i w e) (λ (e : (i ≡ length wanted) × (more ≡ w)). new_place i w e.0 e.1) (got_pushed wanted more i w at);
  stands = λ s p e. by_test s p (segment == s) refl (sym (put s) ∙ e);
  handed_inside = omega (arith, reads.handed_inside, length_pushed wanted more);
  not_yet = λ i w past at. ⊎_elim (λ (e : slice_get wanted i ≡ Some w). reads.not_yet i w past e) (λ (e : (i ≡ length wanted) × (more ≡ w)). ap (λ (x : Wanted). x.bytes) (sym e.1)) (got_pushed wanted more i w at);
}
  where
    more : Wanted
    more = record { segment = segment; bytes = None }

    old_place : (i : ℕ) (w : Wanted) → slice_get wanted i ≡ Some w → get nat_cmp new w.segment ≡ Some i
    old_place i w at =
        let apart : (segment == w.segment) ≡ false = eq_false segment w.segment (λ same. no_place old wanted handed reads segment none i w at (sym same)) in
        put w.segment ∙ ap (λ (b : Bool). cond b (Some (length wanted)) (get nat_cmp old w.segment)) apart ∙ reads.placed i w at

    new_place : (i : ℕ) (w : Wanted) → i ≡ length wanted → record { segment = segment; bytes = None } ≡ w → get nat_cmp new w.segment ≡ Some i
    new_place i w last is =
        let same : (segment == w.segment) ≡ true = eq_true segment w.segment (ap (λ (x : Wanted). x.segment) is) in
        put w.segment ∙ ap (λ (b : Bool). cond b (Some (length wanted)) (get nat_cmp old w.segment)) same ∙ ap Some (sym last)

    by_test : (s p : ℕ) (b : Bool) → (segment == s) ≡ b → cond (segment == s) (Some (length wanted)) (get nat_cmp old s) ≡ Some p → StandsAt (wanted ++ record { segment = segment; bytes = None } ∷ []) s p
    by_test s p true is e =
        let here : Some (length wanted) ≡ Some p = sym (ap (λ (b : Bool). cond b (Some (length wanted)) (get nat_cmp old s)) is) ∙ e in
        let last : length wanted ≡ p = cc in
        let same : segment ≡ s = grind arith in
        let P : ℕ → Type 0 = λ k. slice_get (wanted ++ record { segment = segment; bytes = None } ∷ []) k ≡ Some (record { segment = segment; bytes = None }) in
        is_standing (wanted ++ record { segment = segment; bytes = None } ∷ []) p (record { segment = segment; bytes = None }) (subst P last (got_new wanted (record { segment = segment; bytes = None }))) s same
    by_test s p false is e =
        let there : get nat_cmp old s ≡ Some p = sym (ap (λ (b : Bool). cond b (Some (length wanted)) (get nat_cmp old s)) is) ∙ e in
        standing_pushed wanted (record { segment = segment; bytes = None }) s p (slice_get wanted p) refl (reads.stands s p there)

-- ---- bytes that come

set_here : {X : Type 0} (xs : List X) (i : ℕ) (x y : X) → slice_get xs i ≡ Some y → slice_get (set xs i x) i ≡ Some x
set_here [] i x y h = absurd cc
set_here (z ∷ xs) zero x y h = refl
set_here (z ∷ xs) (suc i) x y h = set_here xs i x y h

pub set_there : {X : Type 0} (xs : List X) (i j : ℕ) (x : X) → (i ≡ j → ⊥) → slice_get (set xs i x) j ≡ slice_get xs j
set_there [] i j x h = refl
set_there (z ∷ xs) zero zero x h = absurd (h refl)
set_there (z ∷ xs) zero (suc j) x h = refl
set_there (z ∷ xs) (suc i) zero x h = refl
set_there (z ∷ xs) (suc i) (suc j) x h = set_there xs i j x (λ e. h (ap suc e))

length_set : {X : Type 0} (xs : List X) (i : ℕ) (x : X) → length (set xs i x) ≡ length xs
length_set [] i x = refl
length_set (z ∷ xs) zero x = refl
length_set (z ∷ xs) (suc i) x = ap suc (length_set xs i x)

pub map_set : {X Y : Type 0} (f : X → Y) (xs : List X) (i : ℕ) (x : X) → map f (set xs i x) ≡ set (map f xs) i (f x)
map_set f [] i x = refl
map_set f (z ∷ xs) zero x = refl
map_set f (z ∷ xs) (suc i) x = ap (λ (ys : List _). f z ∷ ys) (map_set f xs i x)

pub bytes_came : (places : BTreeMap ℕ ℕ) (wanted : List Wanted) (handed : ℕ) → AreReads places wanted handed → (place : ℕ) (w : Wanted) (bytes : List ℕ) → place < handed → slice_get wanted place ≡ Some w → AreReads places (set wanted place (record { segment = w.segment; bytes = Some bytes })) handed
bytes_came places wanted handed reads place w bytes before at = record {
  placed = λ i v e. ⊎_elim (λ (same : place ≡ i). here i v same e) (λ (apart : place ≡ i → ⊥). reads.placed i v (sym (set_there wanted place i came apart) ∙ e)) (cases_eq place i);
  stands = λ s p e. ⊎_elim (λ (same : place ≡ p). there s p same (reads.stands s p e)) (λ (apart : place ≡ p → ⊥). subst (λ (o : Option Wanted). IsSomeAnd o (λ v. v.segment ≡ s)) (sym (set_there wanted place p came apart)) (reads.stands s p e)) (cases_eq place p);
  handed_inside = omega (arith, reads.handed_inside, length_set wanted place came);
  not_yet = λ i v past e. reads.not_yet i v past (sym (set_there wanted place i came (λ same. absurd (omega arith))) ∙ e);
}
  where
    came : Wanted
    came = record { segment = w.segment; bytes = Some bytes }

    here : (i : ℕ) (v : Wanted) → place ≡ i → slice_get (set wanted place (record { segment = w.segment; bytes = Some bytes })) i ≡ Some v → get nat_cmp places v.segment ≡ Some i
    here i v same e =
        let came2 : Wanted = record { segment = w.segment; bytes = Some bytes } in
        let P : ℕ → Type 0 = λ k. slice_get (set wanted place came2) k ≡ Some came2 in
        let is : Some came2 ≡ Some v = sym (subst P same (set_here wanted place came2 w at)) ∙ e in
        let named : came2 ≡ v = cc in
        let segment : w.segment ≡ v.segment = ap (λ (x : Wanted). x.segment) named in
        ap (get nat_cmp places) (sym segment) ∙ reads.placed place w at ∙ ap Some same

    there : (s p : ℕ) → place ≡ p → StandsAt wanted s p → StandsAt (set wanted place (record { segment = w.segment; bytes = Some bytes })) s p
    there s p same stands =
        let came2 : Wanted = record { segment = w.segment; bytes = Some bytes } in
        let P : ℕ → Type 0 = λ k. slice_get (set wanted place came2) k ≡ Some came2 in
        let Q : ℕ → Type 0 = λ k. slice_get wanted k ≡ Some w in
        is_standing (set wanted place came2) p came2 (subst P same (set_here wanted place came2 w at)) s (stands_is wanted s p w (subst Q same at) stands)

-- ---- what is handed out next

pub wanted_with : (w : Wanted) → w.bytes ≡ None → w ≡ record { segment = w.segment; bytes = None }
wanted_with w none = ap (λ (b : Option (List ℕ)). record { segment = w.segment; bytes = b }) none

pub not_handed : (places : BTreeMap ℕ ℕ) (wanted : List Wanted) (handed : ℕ) → AreReads places wanted handed → (w : Wanted) → slice_get wanted handed ≡ Some w → slice_get wanted handed ≡ Some (record { segment = w.segment; bytes = None })
not_handed places wanted handed reads w at = at ∙ ap Some (wanted_with w (reads.not_yet handed w (omega arith) at))

pub only_place : (places : BTreeMap ℕ ℕ) (wanted : List Wanted) (handed : ℕ) → AreReads places wanted handed → (i j : ℕ) (w : Wanted) → slice_get wanted j ≡ Some w → StandsAt wanted w.segment i → i ≡ j
only_place places wanted handed reads i j w at stands = by_get (slice_get wanted i) refl stands
  where
    by_get : (o : Option Wanted) → slice_get wanted i ≡ o → IsSomeAnd o (λ v. v.segment ≡ w.segment) → i ≡ j
    by_get None e h = absurd h
    by_get (Some v) e h = one_place places wanted handed reads i j v w e at h

pub none_is : {X : Type 0} (o : Option X) → is_some o ≡ false → o ≡ None
none_is None h = refl
none_is (Some x) h = absurd cc

-- the one segment at a place, of which no bytes came
pub still_none : (wanted : List Wanted) (place : ℕ) (v w : Wanted) → slice_get wanted place ≡ Some v → slice_get wanted place ≡ Some w → w.bytes ≡ None → slice_get wanted place ≡ Some (record { segment = v.segment; bytes = None })
still_none wanted place v w at_v at_w none =
    let both : Some v ≡ Some w = sym at_v ∙ at_w in
    let same : v ≡ w = cc in
    at_v ∙ ap Some (wanted_with v (ap (λ (x : Wanted). x.bytes) same ∙ none))

pub is_still : (wanted : List Wanted) (place segment : ℕ) → slice_get wanted place ≡ Some (record { segment = segment; bytes = None }) → IsSomeAnd (slice_get wanted place) (λ w. w.bytes ≡ None)
is_still wanted place segment at =
    let P : Option Wanted → Type 0 = λ o. IsSomeAnd o (λ w. w.bytes ≡ None) in
    subst P (sym at) refl

-- ---- what is stored

pub item_at : (ws : List WantedSegment) (i : ℕ) (w : WantedSegment) → i < length ws → w ≡ get_or ws i w → slice_get ws i ≡ Some w
item_at ws i w inside is = slice_get-get_or ws i w inside ∙ ap Some (sym is)

pub same_item : (ws : List WantedSegment) (i : ℕ) (v w : WantedSegment) → slice_get ws i ≡ Some v → slice_get ws i ≡ Some w → v ≡ w
same_item ws i v w at_v at_w = same_Some v w (sym at_v ∙ at_w)

-- bytes that did not come are not gone
pub none_gone : (bytes : SegmentBytes) → bytes_in bytes ≡ None → is_gone bytes ≡ false
none_gone NotYet none = refl
none_gone (Came bytes) none = refl
none_gone (LetGo bytes) none = absurd (some_is (bytes.value).items none)
  where
    some_is : (x : List ℕ) → Some x ≡ None → ⊥
    some_is x h = cc

item_mapped : {Y : Type 0} (f : WantedSegment → Y) (ws : List WantedSegment) (i : ℕ) (w : WantedSegment) → slice_get ws i ≡ Some w → slice_get (map f ws) i ≡ Some (f w)
item_mapped f ws i w at = slice_get-map f ws i ∙ ap (option_map f) at

pub stored_at : (ws : List WantedSegment) (i : ℕ) (w : WantedSegment) → i < length ws → w ≡ get_or ws i w → slice_get (map stored_data ws) i ≡ Some (stored_data w)
stored_at ws i w inside is = item_mapped stored_data ws i w (item_at ws i w inside is)

-- the bytes of a wanted segment that came are those at its place
pub came_at : (places : BTreeMap ℕ ℕ) (ws : List WantedSegment) (handed : ℕ) → AreReads places (map wanted_data ws) handed → (segment place : ℕ) (w : WantedSegment) → get nat_cmp places segment ≡ Some place → slice_get ws place ≡ Some w → (bytes : List ℕ) → bytes_of (map wanted_data ws) segment ≡ Some bytes → is_some (bytes_in w.bytes) ≡ true
came_at places ws handed reads segment place w e at bytes came =
    let is : bytes_of (map wanted_data ws) segment ≡ bytes_in w.bytes = bytes_at places (map wanted_data ws) handed reads segment place (wanted_data w) e (item_mapped wanted_data ws place w at) in
    ap is_some (sym is ∙ came)

stored_from : (ws : List WantedSegment) (i : ℕ) (s : Stored) → slice_get (map stored_data ws) i ≡ Some s → (w : WantedSegment) × (slice_get ws i ≡ Some w) × (stored_data w ≡ s)
stored_from [] i s at = absurd cc
stored_from (w ∷ ws) zero s at = (w, refl, same_Some (stored_data w) s at)
stored_from (w ∷ ws) (suc i) s at = stored_from ws i s at

-- one wanted segment in place of another that is seen as the same
pub same_set : {Y : Type 0} (f : WantedSegment → Y) (ws : List WantedSegment) (i : ℕ) (v w : WantedSegment) → slice_get ws i ≡ Some w → f v ≡ f w → map f (set ws i v) ≡ map f ws
same_set f [] i v w at e = refl
same_set f (z ∷ ws) zero v w at e =
    let is : z ≡ w = same_Some z w at in
    ap (λ (y : _). y ∷ map f ws) (e ∙ ap f (sym is))
same_set f (z ∷ ws) (suc i) v w at e = ap (λ (ys : List _). f z ∷ ys) (same_set f ws i v w at e)

named_set : (stored : List Stored) (place : ℕ) (old new : Stored) → slice_get stored place ≡ Some old → old.segment ≡ new.segment → old.last ≤ new.last → (segment n : ℕ) → IsNamed stored segment n → IsNamed (set stored place new) segment n
named_set stored place old new at same last segment n (i, s, at_i, is, less) = ⊎_elim here (λ (apart : place ≡ i → ⊥). (i, s, set_there stored place i new apart ∙ at_i, is, less)) (cases_eq place i)
  where
    here : place ≡ i → IsNamed (set stored place new) segment n
    here e =
        let G : ℕ → Type 0 = λ k. slice_get stored k ≡ Some old in
        let S : ℕ → Type 0 = λ k. slice_get (set stored place new) k ≡ Some new in
        let one : old ≡ s = same_Some old s (sym (subst G e at) ∙ at_i) in
        let named : old.segment ≡ s.segment = ap (λ (x : Stored). x.segment) one in
        let as_last : old.last ≡ s.last = ap (λ (x : Stored). x.last) one in
        let more : n ≤ new.last = omega arith in
        (i, new, subst S e (set_here stored place new old at), sym same ∙ named ∙ is, more)

gone_set : (stored : List Stored) (place : ℕ) (old new : Stored) → slice_get stored place ≡ Some old → (segment : ℕ) → IsGone (set stored place new) segment → IsGone stored segment ⊎ ((new.segment ≡ segment) × (new.gone ≡ true))
gone_set stored place old new at segment (i, s, at_i, is, gone) = ⊎_elim (λ (e : place ≡ i). inr (here e)) (λ (apart : place ≡ i → ⊥). inl (i, s, sym (set_there stored place i new apart) ∙ at_i, is, gone)) (cases_eq place i)
  where
    here : place ≡ i → (new.segment ≡ segment) × (new.gone ≡ true)
    here e =
        let S : ℕ → Type 0 = λ k. slice_get (set stored place new) k ≡ Some new in
        let one : new ≡ s = same_Some new s (sym (subst S e (set_here stored place new old at)) ∙ at_i) in
        (ap (λ (x : Stored). x.segment) one ∙ is, ap (λ (x : Stored). x.gone) one ∙ gone)

-- what was gone still is, where the bytes that are changed don't come back
still_set : (stored : List Stored) (place : ℕ) (old new : Stored) → slice_get stored place ≡ Some old → old.segment ≡ new.segment → (old.gone ≡ true → new.gone ≡ true) → KeepsGone stored (set stored place new)
still_set stored place old new at same stays segment (i, s, at_i, is, gone) = ⊎_elim here (λ (apart : place ≡ i → ⊥). (i, s, set_there stored place i new apart ∙ at_i, is, gone)) (cases_eq place i)
  where
    here : place ≡ i → IsGone (set stored place new) segment
    here e =
        let G : ℕ → Type 0 = λ k. slice_get stored k ≡ Some old in
        let S : ℕ → Type 0 = λ k. slice_get (set stored place new) k ≡ Some new in
        let one : old ≡ s = same_Some old s (sym (subst G e at) ∙ at_i) in
        (i, new, subst S e (set_here stored place new old at), sym same ∙ ap (λ (x : Stored). x.segment) one ∙ is, stays (ap (λ (x : Stored). x.gone) one ∙ gone))

pub changed_still : (ws : List WantedSegment) (place : ℕ) (v w : WantedSegment) → slice_get ws place ≡ Some w → w.segment ≡ v.segment → (is_gone w.bytes ≡ true → is_gone v.bytes ≡ true) → KeepsGone (map stored_data ws) (map stored_data (set ws place v))
changed_still ws place v w at same stays segment gone =
    let P : List Stored → Type 0 = λ stored. IsGone stored segment in
    subst P (sym (map_set stored_data ws place v)) (still_set (map stored_data ws) place (stored_data w) (stored_data v) (item_mapped stored_data ws place w at) same stays segment gone)

-- bytes that are gone came
pub gone_came : (bytes : SegmentBytes) → is_gone bytes ≡ true → is_some (bytes_in bytes) ≡ true
gone_came NotYet gone = gone
gone_came (Came bytes) gone = refl
gone_came (LetGo bytes) gone = refl

pub stored_set : (ws : List WantedSegment) (place : ℕ) (v w : WantedSegment) → slice_get ws place ≡ Some w → slice_get (map stored_data (set ws place v)) place ≡ Some (stored_data v)
stored_set ws place v w at = item_mapped stored_data (set ws place v) place v (set_here ws place v w at)

-- what names a segment still does, when no last place falls
pub changed_named : (ws : List WantedSegment) (place : ℕ) (v w : WantedSegment) → slice_get ws place ≡ Some w → w.segment ≡ v.segment → w.last ≤ v.last → (segment n : ℕ) → IsNamed (map stored_data ws) segment n → IsNamed (map stored_data (set ws place v)) segment n
changed_named ws place v w at same last segment n named =
    let P : List Stored → Type 0 = λ stored. IsNamed stored segment n in
    subst P (sym (map_set stored_data ws place v)) (named_set (map stored_data ws) place (stored_data w) (stored_data v) (item_mapped stored_data ws place w at) same last segment n named)

-- only the bytes of the segment that was changed may be gone from then on
pub changed_gone : (ws : List WantedSegment) (place : ℕ) (v w : WantedSegment) → slice_get ws place ≡ Some w → (segment : ℕ) → IsGone (map stored_data (set ws place v)) segment → IsGone (map stored_data ws) segment ⊎ ((v.segment ≡ segment) × (is_gone v.bytes ≡ true))
changed_gone ws place v w at segment gone =
    let P : List Stored → Type 0 = λ stored. IsGone stored segment in
    gone_set (map stored_data ws) place (stored_data w) (stored_data v) (item_mapped stored_data ws place w at) segment (subst P (map_set stored_data ws place v) gone)

-- and none are where the segment's are as they were
pub kept_gone : (ws : List WantedSegment) (place : ℕ) (v w : WantedSegment) → slice_get ws place ≡ Some w → w.segment ≡ v.segment → is_gone v.bytes ≡ is_gone w.bytes → (segment : ℕ) → IsGone (map stored_data (set ws place v)) segment → IsGone (map stored_data ws) segment
kept_gone ws place v w at same as_gone segment gone =
    ⊎_elim (λ (g : IsGone (map stored_data ws) segment). g) (λ (e : (v.segment ≡ segment) × (is_gone v.bytes ≡ true)). (place, stored_data w, item_mapped stored_data ws place w at, same ∙ e.0, sym as_gone ∙ e.1)) (changed_gone ws place v w at segment gone)

-- a segment is stored once
one_stored : (places : BTreeMap ℕ ℕ) (ws : List WantedSegment) (handed : ℕ) → AreReads places (map wanted_data ws) handed → (place : ℕ) (w : WantedSegment) → slice_get ws place ≡ Some w → (i : ℕ) (s : Stored) → slice_get (map stored_data ws) i ≡ Some s → s.segment ≡ w.segment → w.last ≡ s.last
one_stored places ws handed reads place w at i s at_i same =
    let x = stored_from ws i s at_i in
    let one : i ≡ place = one_place places (map wanted_data ws) handed reads i place (wanted_data x.0) (wanted_data w) (item_mapped wanted_data ws i x.0 x.1) (item_mapped wanted_data ws place w at) (ap (λ (y : Stored). y.segment) x.2 ∙ same) in
    let G : ℕ → Type 0 = λ k. slice_get ws k ≡ Some x.0 in
    let is : w ≡ x.0 = same_Some w x.0 (sym at ∙ subst G one x.1) in
    ap (λ (y : WantedSegment). y.last) is ∙ ap (λ (y : Stored). y.last) x.2

-- no need past the last place names a segment
pub named_before : (places : BTreeMap ℕ ℕ) (ws : List WantedSegment) (handed : ℕ) → AreReads places (map wanted_data ws) handed → (place : ℕ) (w : WantedSegment) → slice_get ws place ≡ Some w → (segment : ℕ) → w.segment ≡ segment → (n : ℕ) → IsNamed (map stored_data ws) segment n → n ≤ w.last
named_before places ws handed reads place w at segment is n (i, s, at_i, named, less) =
    let same : w.last ≡ s.last = one_stored places ws handed reads place w at i s at_i (named ∙ sym is) in
    omega arith

pub pushed_named : (old : List Stored) (more : Stored) (segment n : ℕ) → IsNamed old segment n → IsNamed (old ++ more ∷ []) segment n
pushed_named old more segment n (i, s, at, is, less) = (i, s, pushed_old old more i s at, is, less)

pub pushed_still : (old : List Stored) (more : Stored) → KeepsGone old (old ++ more ∷ [])
pushed_still old more segment (i, s, at, is, gone) = (i, s, pushed_old old more i s at, is, gone)

pub pushed_gone : (old : List Stored) (more : Stored) → more.gone ≡ false → (segment : ℕ) → IsGone (old ++ more ∷ []) segment → IsGone old segment
pushed_gone old more kept segment (i, s, at, is, gone) = ⊎_elim (λ (e : slice_get old i ≡ Some s). (i, s, e, is, gone)) (λ (e : (i ≡ length old) × (more ≡ s)). absurd (true_false (sym gone ∙ ap (λ (x : Stored). x.gone) (sym e.1) ∙ kept))) (got_pushed old more i s at)
  where
    true_false : true ≡ false → ⊥
    true_false h = cc

-- what is stored of a segment stays when its bytes come
pub came_stored : (ws : List WantedSegment) (place : ℕ) (w : WantedSegment) (bytes : Vec ℕ Global) → slice_get ws place ≡ Some w → bytes_in w.bytes ≡ None →
    map stored_data (set ws place (record { segment = w.segment; bytes = Came bytes; last = w.last })) ≡ map stored_data ws
came_stored ws place w bytes at none =
    same_set stored_data ws place (record { segment = w.segment; bytes = Came bytes; last = w.last }) w at (ap (λ (b : Bool). record { segment = w.segment; gone = b; last = w.last }) (sym (none_gone w.bytes none)))
