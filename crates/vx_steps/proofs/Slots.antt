-- Segments in slots: each has one place, and those in the first slots are held.
use Rattle.std.proofs.Common.{◌≡◌, ◌≢◌, ℕ, zero, suc, ◌+◌, ◌<◌, ◌≤◌, ◌==◌, ◌⊎◌, inl, inr, ⊎_elim, Bool, true, false, List, [], ◌∷◌, ◌++◌, Option, Some, None, length, take, get_or, set, refl, sym, ap, ◌∙◌, subst, arith}
use Rattle.std.specs.Prelude.{◌↔◌, if◌then◌else◌, nat_lt, IsSome}
use Rattle.std.specs.Bool.{MatchBool}
use Rattle.std.specs.Option.{is_some}
use Rattle.std.specs.List.{slice_get}
use Rattle.std.specs.Ordering.{nat_cmp}
use Rattle.std.specs.BTreeMap.{BTreeMap, get}
use Rattle.std.proofs.Math.ListN.{length-set}
use Rattle.std.proofs.lemmas.Bool.{cases_eq}
use Rattle.std.proofs.lemmas.Bool.Decides.{nat_tests}
use Rattle.std.proofs.lemmas.Option.{same_Some, slice_get-get_or}
use Rattle.vx_steps.specs.Asked.{AreEachOnce}
use Rattle.vx_steps.specs.HeldData.{ArePlacesOf, Exchanged}
use Rattle.vx_steps.specs.Needs.{Among}
use Rattle.vx_steps.proofs.Keeping.{got_new, got_old}

-- ---- what stands where

among_at : (xs : List ℕ) (s : ℕ) → Among s xs → (place : ℕ) × (slice_get xs place ≡ Some s)
among_at [] s among = absurd among
among_at (x ∷ xs) s (inl e) = (0, ap Some e)
among_at (x ∷ xs) s (inr more) = let r = among_at xs s more in (suc r.0, r.1)

at_among : (xs : List ℕ) (place s : ℕ) → slice_get xs place ≡ Some s → Among s xs
at_among [] place s at = absurd cc
at_among (x ∷ xs) zero s at = inl (same_Some x s at)
at_among (x ∷ xs) (suc place) s at = inr (at_among xs place s at)

taken_at : (n : ℕ) (xs : List ℕ) (s : ℕ) → Among s (take n xs) → (place : ℕ) × (place < n) × (slice_get xs place ≡ Some s)
taken_at zero [] s among = absurd among
taken_at zero (x ∷ xs) s among = absurd among
taken_at (suc n) [] s among = absurd among
taken_at (suc n) (x ∷ xs) s (inl e) = (0, omega arith, ap Some e)
taken_at (suc n) (x ∷ xs) s (inr more) =
    let r = taken_at n xs s more in
    let less = r.1 in
    (suc r.0, omega arith, r.2)

pub at_taken : (n : ℕ) (xs : List ℕ) (place s : ℕ) → place < n → slice_get xs place ≡ Some s → Among s (take n xs)
at_taken zero xs place s less at = absurd (omega arith)
at_taken (suc n) [] place s less at = absurd cc
at_taken (suc n) (x ∷ xs) zero s less at = inl (same_Some x s at)
at_taken (suc n) (x ∷ xs) (suc place) s less at = inr (at_taken n xs place s (omega arith) at)

taken_is : (n : ℕ) (xs : List ℕ) (place s : ℕ) → slice_get (take n xs) place ≡ Some s → slice_get xs place ≡ Some s
taken_is zero [] place s at = at
taken_is zero (x ∷ xs) place s at = absurd cc
taken_is (suc n) [] place s at = at
taken_is (suc n) (x ∷ xs) zero s at = at
taken_is (suc n) (x ∷ xs) (suc place) s at = taken_is n xs place s at

-- ---- an exchange

one_place : (places : BTreeMap ℕ ℕ) (slots : List ℕ) → ArePlacesOf places slots → (i j s : ℕ) → slice_get slots i ≡ Some s → slice_get slots j ≡ Some s → i ≡ j
one_place places slots are i j s at_i at_j = same_Some i j (sym ((are s i).1 at_i) ∙ (are s j).1 at_j)

module _ (one other first second : ℕ) (old new : List ℕ) (before after : BTreeMap ℕ ℕ)
    (at_one : slice_get old one ≡ Some first) (at_other : slice_get old other ≡ Some second)
    (put : (s : ℕ) → get nat_cmp after s ≡ (if second == s then Some one else if first == s then Some other else get nat_cmp before s))
    (exchanged : Exchanged one other old new) (are : ArePlacesOf before old) where
  pub exchanged_places : ArePlacesOf after new
  exchanged_places segment place = (stands (second == segment) (first == segment) refl refl, placed (other == place) (one == place) refl refl)
    where
      stands : (b c : Bool) → (second == segment) ≡ b → (first == segment) ≡ c → get nat_cmp after segment ≡ Some place → slice_get new place ≡ Some segment
      stands true c is_b is_c at =
          let p = put segment in
          let x = exchanged one in
          grind arith
      stands false true is_b is_c at =
          let p = put segment in
          let x = exchanged other in
          grind arith
      stands false false is_b is_c at =
          let p = put segment in
          let x = exchanged place in
          let before_at = (are segment place).0 in
          grind arith

      placed : (b c : Bool) → (other == place) ≡ b → (one == place) ≡ c → slice_get new place ≡ Some segment → get nat_cmp after segment ≡ Some place
      placed true c is_b is_c at =
          let p = put segment in
          let x = exchanged other in
          let first_at = (are first one).1 at_one in
          let second_at = (are second other).1 at_other in
          grind arith
      placed false true is_b is_c at =
          let p = put segment in
          let x = exchanged one in
          grind arith
      placed false false is_b is_c at =
          let p = put segment in
          let x = exchanged place in
          let old_at = (are segment place).1 in
          let first_at = (are first one).1 at_one in
          let second_at = (are second other).1 at_other in
          grind arith

-- ---- one slot is written

got_here : (xs : List ℕ) (i v : ℕ) → i < length xs → slice_get (set xs i v) i ≡ Some v
got_here [] i v less = absurd (omega arith)
got_here (x ∷ xs) zero v less = refl
got_here (x ∷ xs) (suc i) v less = got_here xs i v (omega arith)

got_other : (xs : List ℕ) (i j v : ℕ) → (i ≡ j → ⊥) → slice_get (set xs i v) j ≡ slice_get xs j
got_other [] i j v apart = refl
got_other (x ∷ xs) zero zero v apart = absurd (apart refl)
got_other (x ∷ xs) zero (suc j) v apart = refl
got_other (x ∷ xs) (suc i) zero v apart = refl
got_other (x ∷ xs) (suc i) (suc j) v apart = got_other xs i j v (λ e. apart (ap suc e))

-- two writes exchange two segments
pub written : (xs : List ℕ) (one other first second : ℕ) → one < length xs → other < length xs → first ≡ get_or xs one first → second ≡ get_or xs other second → Exchanged one other xs (set (set xs one second) other first)
written xs one other first second one_in other_in first_is second_is place = by (other == place) (one == place) refl refl
  where
    at_one : Some first ≡ slice_get xs one
    at_one = sym (slice_get-get_or xs one first one_in ∙ ap Some (sym first_is))

    at_other : Some second ≡ slice_get xs other
    at_other = sym (slice_get-get_or xs other second other_in ∙ ap Some (sym second_is))

    half : List ℕ
    half = set xs one second

    whole : List ℕ
    whole = set half other first

    same : length half ≡ length xs
    same = length-set xs one second

    by : (b c : Bool) → (other == place) ≡ b → (one == place) ≡ c → slice_get whole place ≡ (if b then slice_get xs one else if c then slice_get xs other else slice_get xs place)
    by true c is_b is_c =
        let e : other ≡ place = grind arith in
        let size = same in
        subst (λ (k : ℕ). slice_get whole k ≡ slice_get xs one) e (got_here half other first (omega arith) ∙ at_one)
    by false true is_b is_c =
        let e : one ≡ place = grind arith in
        got_other half other place first (λ h. grind arith) ∙ subst (λ (k : ℕ). slice_get half k ≡ slice_get xs other) e (got_here xs one second one_in ∙ at_other)
    by false false is_b is_c = got_other half other place first (λ h. grind arith) ∙ got_other xs one place second (λ h. grind arith)

pub read_at : (xs : List ℕ) (i x : ℕ) → i < length xs → x ≡ get_or xs i x → slice_get xs i ≡ Some x
read_at xs i x inside is = slice_get-get_or xs i x inside ∙ ap Some (sym is)

-- ---- room

pub room_at : (places : BTreeMap ℕ ℕ) (slots : List ℕ) (s : ℕ) → ArePlacesOf places slots → true ≡ is_some (get nat_cmp places s) → Among s slots
room_at places slots s are some = by (get nat_cmp places s) refl some
  where
    by : (o : Option ℕ) → get nat_cmp places s ≡ o → true ≡ is_some o → Among s slots
    by None e h = absurd cc
    by (Some place) e h = at_among slots place s ((are s place).0 e)

-- a segment with no place has no room
pub no_room : (places : BTreeMap ℕ ℕ) (slots : List ℕ) (s : ℕ) → ArePlacesOf places slots → get nat_cmp places s ≡ None → Among s slots → ⊥
no_room places slots s are none among =
    let r = among_at slots s among in
    let at = (are s r.0).1 r.1 in
    absurd cc

-- and isn't held
pub none_held : (places : BTreeMap ℕ ℕ) (slots : List ℕ) (count s : ℕ) → ArePlacesOf places slots → get nat_cmp places s ≡ None → Among s (take count slots) → ⊥
none_held places slots count s are none among =
    let r = taken_at count slots s among in
    let at = (are s r.0).1 r.2 in
    absurd cc

pub one_more_room : (slots : List ℕ) (segment : ℕ) → Among segment (slots ++ segment ∷ [])
one_more_room [] segment = inl refl
one_more_room (x ∷ slots) segment = inr (one_more_room slots segment)

pub room_stays : (slots more : List ℕ) (s : ℕ) → Among s slots → Among s (slots ++ more)
room_stays [] more s among = absurd among
room_stays (x ∷ slots) more s (inl e) = inl e
room_stays (x ∷ slots) more s (inr h) = inr (room_stays slots more s h)

pushed_is : (xs : List ℕ) (x place s : ℕ) → slice_get (xs ++ x ∷ []) place ≡ Some s → (slice_get xs place ≡ Some s) ⊎ ((place ≡ length xs) × (x ≡ s))
pushed_is [] x zero s at = inr (refl, same_Some x s at)
pushed_is [] x (suc place) s at = absurd cc
pushed_is (y ∷ xs) x zero s at = inl at
pushed_is (y ∷ xs) x (suc place) s at = ⊎_elim (λ (e : slice_get xs place ≡ Some s). inl e) (λ (e : (place ≡ length xs) × (x ≡ s)). inr (ap suc e.0, e.1)) (pushed_is xs x place s at)

pub one_more_place : (before after : BTreeMap ℕ ℕ) (slots : List ℕ) (segment : ℕ) → ArePlacesOf before slots → get nat_cmp before segment ≡ None →
    ((s : ℕ) → get nat_cmp after s ≡ (if segment == s then Some (length slots) else get nat_cmp before s)) → ArePlacesOf after (slots ++ segment ∷ [])
one_more_place before after slots segment are none put s place = (stands (segment == s) refl, λ at. placed (pushed_is slots segment place s at))
  where
    stands : (b : Bool) → (segment == s) ≡ b → get nat_cmp after s ≡ Some place → slice_get (slots ++ segment ∷ []) place ≡ Some s
    stands true is_b at =
        let p = put s in
        let here : length slots ≡ place = grind arith in
        let same : segment ≡ s = grind arith in
        subst (λ (k : ℕ). slice_get (slots ++ segment ∷ []) k ≡ Some s) here (got_new slots segment ∙ ap Some same)
    stands false is_b at =
        let p = put s in
        let old : get nat_cmp before s ≡ Some place = grind arith in
        got_old slots (segment ∷ []) place s ((are s place).0 old)

    placed : (slice_get slots place ≡ Some s) ⊎ ((place ≡ length slots) × (segment ≡ s)) → get nat_cmp after s ≡ Some place
    placed (inl at) =
        let p = put s in
        let old = (are s place).1 at in
        grind arith
    placed (inr e) =
        let p = put s in
        grind arith

-- whatever is exchanged, there is room for the same
pub exchanged_room : (one other : ℕ) (old new : List ℕ) → Exchanged one other old new → (s : ℕ) → Among s old → Among s new
exchanged_room one other old new exchanged s among = by (other == r.0) (one == r.0) refl refl
  where
    r : (place : ℕ) × (slice_get old place ≡ Some s)
    r = among_at old s among

    moved : (from to : ℕ) → slice_get new to ≡ slice_get old from → slice_get old from ≡ Some s → Among s new
    moved from to is at = at_among new to s (is ∙ at)

    by : (b c : Bool) → (other == r.0) ≡ b → (one == r.0) ≡ c → Among s new
    by true c is_b is_c = moved r.0 one (let x = exchanged one in grind arith) r.1
    by false true is_b is_c = moved r.0 other (let x = exchanged other in grind arith) r.1
    by false false is_b is_c = moved r.0 r.0 (let x = exchanged r.0 in grind arith) r.1

pub has_place : (places : BTreeMap ℕ ℕ) (slots : List ℕ) (place s : ℕ) → ArePlacesOf places slots → place < length slots → s ≡ get_or slots place s → IsSome (get nat_cmp places s)
has_place places slots place s are inside is = subst (λ (o : Option ℕ). IsSome o) (sym ((are s place).1 (read_at slots place s inside is))) refl

pub placed_still : (old new : BTreeMap ℕ ℕ) (key place s : ℕ) → ((k : ℕ) → get nat_cmp new k ≡ (if key == k then Some place else get nat_cmp old k)) → IsSome (get nat_cmp old s) → IsSome (get nat_cmp new s)
placed_still old new key place s put some = by (key == s) refl
  where
    by : (b : Bool) → (key == s) ≡ b → IsSome (get nat_cmp new s)
    by true e = subst (λ (o : Option ℕ). IsSome o) (sym (put s ∙ ap (λ (c : Bool). if c then Some place else get nat_cmp old s) e)) refl
    by false e = subst (λ (o : Option ℕ). IsSome o) (sym (put s ∙ ap (λ (c : Bool). if c then Some place else get nat_cmp old s) e)) some

-- ---- what is held

pub held_tells : (places : BTreeMap ℕ ℕ) (slots : List ℕ) (count s place : ℕ) → ArePlacesOf places slots → get nat_cmp places s ≡ Some place → (b : Bool) → nat_lt place count ≡ b → MatchBool b (Among s (take count slots)) (Among s (take count slots) → ⊥)
held_tells places slots count s place are at true e = at_taken count slots place s (grind (arith, nat_tests)) ((are s place).0 at)
held_tells places slots count s place are at false e = λ among.
    let r = taken_at count slots s among in
    let less = r.1 in
    let same = same_Some r.0 place (sym ((are s r.0).1 r.2) ∙ at) in
    grind (arith, nat_tests)

pub not_first : (places : BTreeMap ℕ ℕ) (slots : List ℕ) (count s place : ℕ) → ArePlacesOf places slots → get nat_cmp places s ≡ Some place → count ≤ place → Among s (take count slots) → ⊥
not_first places slots count s place are at behind among =
    let r = taken_at count slots s among in
    let less = r.1 in
    let same = same_Some r.0 place (sym ((are s r.0).1 r.2) ∙ at) in
    omega arith

pub held_already : (held : List ℕ) (segment : ℕ) → Among segment held → (s : ℕ) → Among s held ↔ (Among s held ⊎ (segment ≡ s))
held_already held segment among s = (λ h. inl h, ⊎_elim (λ (h : Among s held). h) (λ (e : segment ≡ s). subst (λ (k : ℕ). Among k held) e among))

pub never_held : (held : List ℕ) (segment : ℕ) → (Among segment held → ⊥) → (s : ℕ) → Among s held ↔ (Among s held × (segment ≢ s))
never_held held segment none s = (λ h. (h, λ e. none (subst (λ (k : ℕ). Among k held) (sym e) h)), λ h. h.0)

-- each stands once
pub each_once : (places : BTreeMap ℕ ℕ) (slots : List ℕ) (count : ℕ) → ArePlacesOf places slots → AreEachOnce (take count slots)
each_once places slots count are i j d less inside same =
    let xs = take count slots in
    let at_i = taken_is count slots i (get_or xs i d) (slice_get-get_or xs i d (omega arith)) in
    let at_j = taken_is count slots j (get_or xs j d) (slice_get-get_or xs j d inside) in
    let e : i ≡ j = one_place places slots are i j (get_or xs j d) (at_i ∙ ap Some same) at_j in
    omega arith

-- the segment of a slot behind those that are held comes to the first of these
module _ (slots new : List ℕ) (count place segment : ℕ) (at : slice_get slots place ≡ Some segment) (behind : count ≤ place) (exchanged : Exchanged place count slots new) where
  comes : slice_get new count ≡ Some segment
  comes = let x = exchanged count in grind arith

  stays : (i : ℕ) → i < count → slice_get new i ≡ slice_get slots i
  stays i less = let x = exchanged i in grind arith

  pub one_more_held : (s : ℕ) → Among s (take (count + 1) new) ↔ (Among s (take count slots) ⊎ (segment ≡ s))
  one_more_held s = (only, ⊎_elim (λ (h : Among s (take count slots)). kept h) (λ (e : segment ≡ s). at_taken (count + 1) new count s (omega arith) (comes ∙ ap Some e)))
    where
      only : Among s (take (count + 1) new) → Among s (take count slots) ⊎ (segment ≡ s)
      only among = by (taken_at (count + 1) new s among)
        where
          by : ((i : ℕ) × (i < count + 1) × (slice_get new i ≡ Some s)) → Among s (take count slots) ⊎ (segment ≡ s)
          by r = ⊎_elim (λ (e : r.0 ≡ count). inr (same_Some segment s (sym comes ∙ ap (slice_get new) (sym e) ∙ r.2))) (λ (apart : r.0 ≡ count → ⊥). let less = r.1 in let before : r.0 < count = omega arith in inl (at_taken count slots r.0 s before (sym (stays r.0 before) ∙ r.2))) (cases_eq r.0 count)

      kept : Among s (take count slots) → Among s (take (count + 1) new)
      kept among =
          let r = taken_at count slots s among in
          let less = r.1 in
          at_taken (count + 1) new r.0 s (omega arith) (stays r.0 r.1 ∙ r.2)

-- a segment that is held comes to the last of the slots of those, which isn't one then
module _ (places : BTreeMap ℕ ℕ) (slots new : List ℕ) (last place segment : ℕ) (are : ArePlacesOf places slots) (at : slice_get slots place ≡ Some segment) (first : place ≤ last) (exchanged : Exchanged place last slots new) where
  goes : (i : ℕ) → i < last → (i ≡ place → ⊥) → slice_get new i ≡ slice_get slots i
  goes i less apart = let x = exchanged i in grind arith

  fills : place < last → slice_get new place ≡ slice_get slots last
  fills less = let x = exchanged place in grind arith

  pub one_less_held : (s : ℕ) → Among s (take last new) ↔ (Among s (take (last + 1) slots) × (segment ≢ s))
  one_less_held s = (λ among. only (taken_at last new s among), λ h. kept h.1 (taken_at (last + 1) slots s h.0))
    where
      only : ((i : ℕ) × (i < last) × (slice_get new i ≡ Some s)) → Among s (take (last + 1) slots) × (segment ≢ s)
      only r = by (cases_eq r.0 place)
        where
          by : (r.0 ≡ place) ⊎ (r.0 ≡ place → ⊥) → Among s (take (last + 1) slots) × (segment ≢ s)
          by (inl e) =
              let less = r.1 in
              let before : place < last = omega arith in
              let was : slice_get slots last ≡ Some s = sym (fills before) ∙ ap (slice_get new) (sym e) ∙ r.2 in
              (at_taken (last + 1) slots last s (omega arith) was, λ same. let one = one_place places slots are place last s (at ∙ ap Some same) was in omega arith)
          by (inr apart) =
              let less = r.1 in
              let was : slice_get slots r.0 ≡ Some s = sym (goes r.0 r.1 apart) ∙ r.2 in
              (at_taken (last + 1) slots r.0 s (omega arith) was, λ same. apart (one_place places slots are r.0 place s was (at ∙ ap Some same)))

      kept : segment ≢ s → ((i : ℕ) × (i < last + 1) × (slice_get slots i ≡ Some s)) → Among s (take last new)
      kept other r = by (cases_eq r.0 last)
        where
          apart : r.0 ≡ place → ⊥
          apart e = other (same_Some segment s (sym at ∙ ap (slice_get slots) (sym e) ∙ r.2))

          by : (r.0 ≡ last) ⊎ (r.0 ≡ last → ⊥) → Among s (take last new)
          by (inl e) =
              let apart_of = apart in
              let before : place < last = grind arith in
              at_taken last new place s before (fills before ∙ ap (slice_get slots) (sym e) ∙ r.2)
          by (inr before) =
              let less = r.1 in
              let within : r.0 < last = omega arith in
              at_taken last new r.0 s within (goes r.0 within apart ∙ r.2)
