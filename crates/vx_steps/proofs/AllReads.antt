-- The reads of several splits, one after another.
use Rattle.std.proofs.Common.{◌≡◌, ℕ, zero, suc, ◌⊎◌, inl, inr, ⊎_elim, List, [], ◌∷◌, ◌++◌, Some, refl, sym, ap, ◌∙◌, subst, append_assoc, append-nil, drop, set}
use Rattle.std.specs.List.{remove, slice_get}
use Rattle.std.proofs.lemmas.Option.{same_Some}
use Rattle.vx_steps.specs.declared.leaf_reads.LeafRead.{LeafRead}
use Rattle.vx_steps.specs.Needs.{Among}
use Rattle.vx_steps.specs.StillRead.{all_reads}

among_first : (xs ys : List LeafRead) (x : LeafRead) → Among x xs → Among x (xs ++ ys)
among_first [] ys x among = absurd among
among_first (z ∷ xs) ys x (inl e) = inl e
among_first (z ∷ xs) ys x (inr h) = inr (among_first xs ys x h)

among_rest : (xs ys : List LeafRead) (x : LeafRead) → Among x ys → Among x (xs ++ ys)
among_rest [] ys x among = among
among_rest (z ∷ xs) ys x among = inr (among_rest xs ys x among)

among_either : (xs ys : List LeafRead) (x : LeafRead) → Among x (xs ++ ys) → Among x xs ⊎ Among x ys
among_either [] ys x among = inr among
among_either (z ∷ xs) ys x (inl e) = inl (inl e)
among_either (z ∷ xs) ys x (inr h) = ⊎_elim (λ (a : Among x xs). inl (inr a)) (λ (a : Among x ys). inr a) (among_either xs ys x h)

-- a read of one of the splits is among all of them
pub one_of_all : (splits : List (List LeafRead)) (reads : List LeafRead) (read : LeafRead) → Among reads splits → Among read reads → Among read (all_reads splits)
one_of_all [] reads read among here = absurd among
one_of_all (first ∷ splits) reads read (inl e) here = among_first first (all_reads splits) read (subst (λ (xs : List LeafRead). Among read xs) (sym e) here)
one_of_all (first ∷ splits) reads read (inr more) here = among_rest first (all_reads splits) read (one_of_all splits reads read more here)

-- and each of all is one of a split
pub all_of_one : (splits : List (List LeafRead)) (read : LeafRead) → Among read (all_reads splits) → (reads : List LeafRead) × Among reads splits × Among read reads
all_of_one [] read among = absurd among
all_of_one (first ∷ splits) read among = by (among_either first (all_reads splits) read among) (λ h. all_of_one splits read h)
  where
    by : Among read first ⊎ Among read (all_reads splits) → (Among read (all_reads splits) → (reads : List LeafRead) × Among reads splits × Among read reads) → (reads : List LeafRead) × Among reads (first ∷ splits) × Among read reads
    by (inl h) rest = (first, inl refl, h)
    by (inr h) rest = let r = rest h in (r.0, inr r.1, r.2)

-- Where the first read of a split goes, it goes from among all of them, and what stands before and behind it stays.
pub record Parts (splits : List (List LeafRead)) (place : ℕ) (read : LeafRead) (rest : List LeafRead) : Type 0 where
  pub before : List LeafRead
  pub behind : List LeafRead
  pub was : all_reads splits ≡ before ++ read ∷ behind
  pub is : all_reads (set splits place rest) ≡ before ++ behind

pub parts_of_all : (splits : List (List LeafRead)) (place : ℕ) (read : LeafRead) (rest : List LeafRead) → slice_get splits place ≡ Some (read ∷ rest) → Parts splits place read rest
parts_of_all [] place read rest at = absurd cc
parts_of_all (first ∷ splits) zero read rest at = record {
  before = [];
  behind = rest ++ all_reads splits;
  was = ap (λ (xs : List LeafRead). xs ++ all_reads splits) (same_Some first (read ∷ rest) at);
  is = refl;
}
parts_of_all (first ∷ splits) (suc place) read rest at =
    let r = parts_of_all splits place read rest at in
    record {
      before = first ++ r.before;
      behind = r.behind;
      was = ap (λ (xs : List LeafRead). first ++ xs) r.was ∙ sym (append_assoc first r.before (read ∷ r.behind));
      is = ap (λ (xs : List LeafRead). first ++ xs) r.is ∙ sym (append_assoc first r.before r.behind);
    }

-- one more split at the end
pub all_pushed : (splits : List (List LeafRead)) (reads : List LeafRead) → all_reads (splits ++ reads ∷ []) ≡ all_reads splits ++ reads
all_pushed [] reads = append-nil reads
all_pushed (first ∷ splits) reads = ap (λ (xs : List LeafRead). first ++ xs) (all_pushed splits reads) ∙ sym (append_assoc first (all_reads splits) reads)

none_dropped : (splits : List (List LeafRead)) → drop zero splits ≡ splits
none_dropped [] = refl
none_dropped (reads ∷ splits) = refl

-- a split less, of which nothing is read any more
pub all_removed : (splits : List (List LeafRead)) (place : ℕ) → slice_get splits place ≡ Some [] → all_reads (remove splits place) ≡ all_reads splits
all_removed [] place at = absurd cc
all_removed (first ∷ splits) zero at = ap all_reads (none_dropped splits) ∙ sym (ap (λ (xs : List LeafRead). xs ++ all_reads splits) (same_Some first [] at))
all_removed (first ∷ splits) (suc place) at = ap (λ (xs : List LeafRead). first ++ xs) (all_removed splits place at)
