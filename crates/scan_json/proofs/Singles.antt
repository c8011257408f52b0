-- What members tell of which only one name is to be there, as they are put into an object one after another.
use Rattle.std.proofs.Common.{◌≡◌, ℕ, Bool, true, false, cond, List, Ordering, Less, Equal, Greater, nat_cmp, is_eq, bytes_eq, refl, sym, ap, ◌∙◌}
use Rattle.std.specs.Ordering.{match_ordering}
use Rattle.std.specs.Cmp.Lexicographic.{slice_cmp}
use Rattle.std.proofs.lemmas.Cmp.{nat_list_cmp_total, tied_itself}
use Rattle.std.proofs.lemmas.Map.Text.{is_eq-slice_cmp}
use Rattle.std.proofs.lemmas.Slice.Eq.{bytes_eq-Decides}
use Rattle.serde_json.specs.Data.{Data, Members, no_members, member, put}
use Rattle.scan_json.specs.Singles.{one, many, with_single, single_said}

module _ {X : Type 0} (says : List ℕ → Data → X) where
  said_at : (o : Ordering) (k l : List ℕ) (d e : Data) (b : Bool) → slice_cmp nat_cmp k l ≡ o → bytes_eq l k ≡ b
      → single_said says (match_ordering o (member k d (member l e no_members)) (member l d no_members) (member l e (member k d no_members))) ≡ cond b (one k (says k d)) many
  said_at Less k l d e true is same = let equal = (bytes_eq-Decides l k).0 same in let tied : slice_cmp nat_cmp k l ≡ Equal = rw equal (tied_itself nat_list_cmp_total k) in absurd cc
  said_at Less k l d e false is same = refl
  said_at Equal k l d e true is same = let equal = (bytes_eq-Decides l k).0 same in rw equal refl
  said_at Equal k l d e false is same = let other : bytes_eq l k ≡ true = (bytes_eq-Decides l k).1 (sym ((bytes_eq-Decides k l).0 (sym (is_eq-slice_cmp k l) ∙ ap is_eq is))) in absurd cc
  said_at Greater k l d e true is same = let equal = (bytes_eq-Decides l k).0 same in let tied : slice_cmp nat_cmp k l ≡ Equal = rw equal (tied_itself nat_list_cmp_total k) in absurd cc
  said_at Greater k l d e false is same = refl

  many_at : (o : Ordering) (k l : List ℕ) (d e : Data) (rest : Members) (other : List ℕ) (f : Data) (ms : Members) (next : List ℕ) (g : Data) (more : Members) → rest ≡ member next g more
      → single_said says (match_ordering o (member k d (member l e (member other f ms))) (member l d (member other f ms)) (member l e rest)) ≡ many
  many_at Less k l d e rest other f ms next g more is = refl
  many_at Equal k l d e rest other f ms next g more is = refl
  many_at Greater k l d e rest other f ms next g more is = rw is refl

  never_empty_at : (o : Ordering) (k l : List ℕ) (d e : Data) (ms rest : Members) → (next : List ℕ) × (g : Data) × (more : Members) × (match_ordering o (member k d (member l e ms)) (member l d ms) (member l e rest) ≡ member next g more)
  never_empty_at Less k l d e ms rest = (k, d, member l e ms, refl)
  never_empty_at Equal k l d e ms rest = (l, d, ms, refl)
  never_empty_at Greater k l d e ms rest = (l, e, rest, refl)

  -- with one more member
  pub single_put : (k : List ℕ) (d : Data) (ms : Members) → single_said says (put k d ms) ≡ with_single k (says k d) (single_said says ms)
  single_put k d no_members = refl
  single_put k d (member l e no_members) = said_at (slice_cmp nat_cmp k l) k l d e (bytes_eq l k) refl refl
  single_put k d (member l e (member other f ms)) =
      let next = never_empty_at (slice_cmp nat_cmp k other) k other d f ms (put k d ms) in
      many_at (slice_cmp nat_cmp k l) k l d e (put k d (member other f ms)) other f ms next.0 next.1 next.2 next.3
