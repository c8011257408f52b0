-- Numbers that are gone through, each listed once.
use Rattle.std.proofs.Common.{◌≡◌, ◌≢◌, ℕ, zero, suc, ◌+◌, ◌<◌, ◌≤◌, ◌⊎◌, inl, inr, ⊎_elim, Bool, true, false, cond, List, [], ◌∷◌, ◌++◌, length, get_or, map, take, refl, sym, ◌∙◌, subst, arith}
use Rattle.std.specs.Prelude.{not}
use Rattle.std.specs.Ordering.{is_eq, nat_cmp}
use Rattle.std.proofs.lemmas.Bool.Decides.{nat_tests}
use Rattle.std.proofs.lemmas.List.{map-append, take_more}
use Rattle.std.proofs.lemmas.List.Quantifiers.{all_pairs_push}
use Rattle.vx_plan.specs.declared.children.PlanRef.{PlanRef}
use Rattle.vx_plan.specs.Refs.{number_of}
use Rattle.vx_rows.specs.Reads.{IsAmong}
use Rattle.vx_steps.specs.Asked.{AreEachOnce, AreSame}
use Rattle.vx_steps.specs.Needs.{Adds, Among}
use Rattle.vx_steps.proofs.Indexing.{take_all}
use Rattle.vx_steps.proofs.Selecting.{adds_one}

-- ---- what is among numbers

pub among_is : (n : ℕ) (ns : List ℕ) → Among n ns → IsAmong n ns
among_is n [] none = none
among_is n (m ∷ ns) (inl e) = inl e
among_is n (m ∷ ns) (inr more) = inr (among_is n ns more)

pub is_among : (n : ℕ) (ns : List ℕ) → IsAmong n ns → Among n ns
is_among n [] none = none
is_among n (m ∷ ns) (inl e) = inl e
is_among n (m ∷ ns) (inr more) = inr (is_among n ns more)

pub at_among : (ns : List ℕ) (k d : ℕ) → k < length ns → Among (get_or ns k d) ns
at_among [] k d less = absurd (omega arith)
at_among (m ∷ ns) zero d less = inl refl
at_among (m ∷ ns) (suc k) d less = inr (at_among ns k d (omega arith))

-- ---- what is known

at_same : (n q : ℕ) → is_eq (nat_cmp n q) ≡ true → n ≡ q
at_same n q e = grind (arith, nat_tests)

same_at : (n q : ℕ) → n ≡ q → is_eq (nat_cmp n q) ≡ true
same_at n q e = grind (arith, nat_tests)

either_known : (same old : Bool) → cond same true old ≡ true → (same ≡ true) ⊎ (old ≡ true)
either_known true old e = inl refl
either_known false old e = inr e

known_by : (same old : Bool) → (same ≡ true) ⊎ (old ≡ true) → cond same true old ≡ true
known_by true old e = refl
known_by false old (inl e) = absurd cc
known_by false old (inr e) = e

not_false : (known : Bool) → true ≡ not known → known ≡ false
not_false true e = absurd cc
not_false false e = refl

not_true : (known : Bool) → false ≡ not known → known ≡ true
not_true true e = refl
not_true false e = absurd cc

-- the number is known besides those that were
abbrev pub Learns : ℕ → (ℕ → Bool) → (ℕ → Bool) → Type 0
Learns n old new = (q : ℕ) → new q ≡ cond (is_eq (nat_cmp n q)) true (old q)

-- Exactly the numbers so far are listed, each once, and known.
pub record AreListed (so_far listed : List ℕ) (known : ℕ → Bool) : Type 0 where
  pub only : (n : ℕ) → Among n listed → Among n so_far
  pub all : (n : ℕ) → Among n so_far → Among n listed
  pub once : AreEachOnce listed
  pub seen : (n : ℕ) → known n ≡ true → Among n listed
  pub told : (n : ℕ) → Among n listed → known n ≡ true

nothing_listed : (known : ℕ → Bool) → ((n : ℕ) → known n ≡ false) → AreListed [] [] known
nothing_listed known none = record {
  only = λ n h. h;
  all = λ n h. h;
  once = λ i j d less inside. absurd (omega arith);
  seen = λ n e. let no : known n ≡ false = none n in absurd cc;
  told = λ n h. absurd h;
}

-- before the first number
pub none_listed : (numbers : List ℕ) (known : ℕ → Bool) → ((n : ℕ) → known n ≡ false) → AreListed (take 0 numbers) [] known
none_listed [] known none = nothing_listed known none
none_listed (m ∷ numbers) known none = nothing_listed known none

-- ---- one number more

learnt_told : (n : ℕ) (old new : ℕ → Bool) → Learns n old new → (q : ℕ) → (n ≡ q) ⊎ (old q ≡ true) → new q ≡ true
learnt_told n old new learns q either =
    learns q ∙ known_by (is_eq (nat_cmp n q)) (old q) (⊎_elim (λ (e : n ≡ q). inl (same_at n q e)) (λ (e : old q ≡ true). inr e) either)

learnt_seen : (n : ℕ) (old new : ℕ → Bool) → Learns n old new → (q : ℕ) → new q ≡ true → (n ≡ q) ⊎ (old q ≡ true)
learnt_seen n old new learns q e =
    ⊎_elim (λ (same : is_eq (nat_cmp n q) ≡ true). inl (at_same n q same)) (λ (known : old q ≡ true). inr known) (either_known (is_eq (nat_cmp n q)) (old q) (sym (learns q) ∙ e))

-- it was known
known_listed : (so_far listed : List ℕ) (old new : ℕ → Bool) (n : ℕ) → AreListed so_far listed old → old n ≡ true → Learns n old new → AreListed (so_far ++ n ∷ []) listed new
known_listed so_far listed old new n are known learns =
    let here : Among n listed = are.seen n known in
    let at : (q : ℕ) → n ≡ q → Among q listed = λ q e. subst (λ (m : ℕ). Among m listed) e here in
    let one : Adds (λ other. n ≡ other) so_far (so_far ++ n ∷ []) = adds_one n so_far in
    record {
      only = λ q h. one.kept q (are.only q h);
      all = λ q h. ⊎_elim (λ (before : Among q so_far). are.all q before) (λ (e : n ≡ q). at q e) (one.only q h);
      once = are.once;
      seen = λ q e. ⊎_elim (λ (same : n ≡ q). at q same) (λ (before : old q ≡ true). are.seen q before) (learnt_seen n old new learns q e);
      told = λ q h. learnt_told n old new learns q (inr (are.told q h));
    }

-- it is new
new_listed : (so_far listed : List ℕ) (old new : ℕ → Bool) (n : ℕ) → AreListed so_far listed old → old n ≡ false → Learns n old new → AreListed (so_far ++ n ∷ []) (listed ++ n ∷ []) new
new_listed so_far listed old new n are unknown learns =
    let one : Adds (λ other. n ≡ other) so_far (so_far ++ n ∷ []) = adds_one n so_far in
    let more : Adds (λ other. n ≡ other) listed (listed ++ n ∷ []) = adds_one n listed in
    record {
      only = λ q h. ⊎_elim (λ (before : Among q listed). one.kept q (are.only q before)) (λ (e : n ≡ q). one.all q e) (more.only q h);
      all = λ q h. ⊎_elim (λ (before : Among q so_far). more.kept q (are.all q before)) (λ (e : n ≡ q). more.all q e) (one.only q h);
      once = all_pairs_push (λ (a b : ℕ). a ≢ b) listed n are.once (λ k d less e. apart k d less e);
      seen = λ q e. ⊎_elim (λ (same : n ≡ q). more.all q same) (λ (before : old q ≡ true). more.kept q (are.seen q before)) (learnt_seen n old new learns q e);
      told = λ q h. learnt_told n old new learns q (⊎_elim (λ (before : Among q listed). inr (are.told q before)) (λ (e : n ≡ q). inl e) (more.only q h));
    }
  where
    apart : (k d : ℕ) → k < length listed → get_or listed k d ≡ n → ⊥
    apart k d less e =
        let there : Among (get_or listed k d) listed = at_among listed k d less in
        let known : old n ≡ true = are.told n (subst (λ (m : ℕ). Among m listed) e there) in
        absurd cc

-- ---- the next number of a list

pub known_more : (numbers listed : List ℕ) (old new : ℕ → Bool) (i : ℕ) → i < length numbers → AreListed (take i numbers) listed old → false ≡ not (old (get_or numbers i 0)) → Learns (get_or numbers i 0) old new → AreListed (take (i + 1) numbers) listed new
known_more numbers listed old new i less are known learns =
    let F : List ℕ → Type 0 = λ ns. AreListed ns listed new in
    subst F (sym (take_more numbers i 0 less)) (known_listed (take i numbers) listed old new (get_or numbers i 0) are (not_true (old (get_or numbers i 0)) known) learns)

pub new_more : (numbers : List ℕ) (plans : List PlanRef) (old new : ℕ → Bool) (i : ℕ) → i < length numbers → AreListed (take i numbers) (map number_of plans) old → true ≡ not (old (get_or numbers i 0)) → Learns (get_or numbers i 0) old new →
    AreListed (take (i + 1) numbers) (map number_of (plans ++ record { 0 = get_or numbers i 0 } ∷ [])) new
new_more numbers plans old new i less are unknown learns =
    let n : ℕ = get_or numbers i 0 in
    let one : PlanRef = record { 0 = get_or numbers i 0 } in
    let F : List ℕ → Type 0 = λ ns. AreListed ns (map number_of plans ++ get_or numbers i 0 ∷ []) new in
    let G : List ℕ → Type 0 = λ ns. AreListed (take (i + 1) numbers) ns new in
    subst G (sym (map-append number_of plans (one ∷ [])))
    (subst F (sym (take_more numbers i 0 less)) (new_listed (take i numbers) (map number_of plans) old new (get_or numbers i 0) are (not_false (old (get_or numbers i 0)) unknown) learns))

-- all were gone through
pub listed_same : (numbers listed : List ℕ) (known : ℕ → Bool) (i : ℕ) → length numbers ≤ i → AreListed (take i numbers) listed known → AreSame listed numbers
listed_same numbers listed known i all so_far n =
    let F : List ℕ → Type 0 = λ ns. AreListed ns listed known in
    let are : AreListed numbers listed known = subst F (take_all numbers i all) so_far in
    (λ h. among_is n numbers (are.only n (is_among n listed h)), λ h. among_is n listed (are.all n (is_among n numbers h)))
