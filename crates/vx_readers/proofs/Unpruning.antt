-- Masks that lose the rows of pruned zones: row by row, of one range behind another, and of data that has zones.
use Rattle.std.proofs.Common.{◌≡◌, ℕ, suc, ◌+◌, ◌-◌, ◌<◌, ◌≤◌, Bool, true, false, ◌&&◌, ◌||◌, not, List, [], ◌∷◌, ◌++◌, Some, Result, Ok, Err, length, take, refl, sym, ap, ◌∙◌, subst, arith}
use Rattle.std.specs.Prelude.{slice_range, IfErr, IfOk, IsSome}
use Rattle.std.specs.List.{list_any, slice_get, AllByRecursion}
use Rattle.std.proofs.lemmas.List.{length-take-le}
use Rattle.vx_base.specs.Masks.{without}
use Rattle.vx_expr.specs.Terms.{Term}
use Rattle.vx_layout.specs.Trees.{Tree, chunks, zoned, Forest}
use Rattle.vx_rows.specs.Heads.{Head}
use Rattle.vx_rows.specs.Zones.{Zones}
use Rattle.vx_picking.specs.Rows.{selects_some}
use Rattle.vx_picking.proofs.MaskRanges.{length_between, range_is}
use Rattle.vx_reads.specs.declared.errors.ReaderError.{ReaderError}
use Rattle.vx_reads.specs.declared.reads.SegmentRead.{SegmentRead}
use Rattle.vx_reads.specs.Truths.{EachRow}
use Rattle.vx_reads.proofs.Knowing.{each_append, each_none, each_shift}
use Rattle.vx_readers.specs.Unpruned.{is_pruned, prunes_over, told_by, unpruned, AreTold, AreUnprunedBy, PruningFails}
use Rattle.vx_readers.specs.ZonesOver.{zone_over, zones_over, zones_over_in, ZoneOver, ZonesBy}
use Rattle.vx_readers.specs.ZoneTables.{ArePrunedBy}

-- ---- rows

unpruned_append : (f : ℕ → Bool) (start : ℕ) (xs ys : List Bool) → unpruned f start (xs ++ ys) ≡ unpruned f start xs ++ unpruned f (start + length xs) ys
unpruned_append f start [] ys = ap (λ (k : ℕ). unpruned f k ys) (omega arith)
unpruned_append f start (x ∷ xs) ys =
    let next : start + 1 + length xs ≡ start + length (x ∷ xs) = omega arith in
    ap (λ (bits : List Bool). (x && not (f start)) ∷ bits) (unpruned_append f (start + 1) xs ys ∙ ap (λ (k : ℕ). unpruned f (start + 1) xs ++ unpruned f k ys) next)

unpruned_same : (f g : ℕ → Bool) (a b : ℕ) (bits : List Bool) → ((k : ℕ) → k < length bits → f (a + k) ≡ g (b + k)) → unpruned f a bits ≡ unpruned g b bits
unpruned_same f g a b [] same = refl
unpruned_same f g a b (bit ∷ bits) same =
    let here : f a ≡ g b = (let p : f (a + 0) ≡ g (b + 0) = same 0 (omega arith) in let x : a + 0 ≡ a = omega arith in let y : b + 0 ≡ b = omega arith in sym (ap f x) ∙ p ∙ ap g y) in
    let rest : unpruned f (a + 1) bits ≡ unpruned g (b + 1) bits = unpruned_same f g (a + 1) (b + 1) bits (λ k h.
    let p : f (a + suc k) ≡ g (b + suc k) = same (suc k) (omega arith) in
    let x : a + 1 + k ≡ a + suc k = omega arith in
    let y : b + suc k ≡ b + 1 + k = omega arith in
    ap f x ∙ p ∙ ap g y) in
    λ i. (bit && not (here i)) ∷ rest i

-- a mask of which no row is selected stays
none_unpruned : (f : ℕ → Bool) (start : ℕ) (bits : List Bool) → selects_some bits ≡ false → bits ≡ unpruned f start bits
none_unpruned f start [] none = refl
none_unpruned f start (true ∷ bits) none = absurd cc
none_unpruned f start (false ∷ bits) none = ap (λ (rest : List Bool). false ∷ rest) (none_unpruned f (start + 1) bits none)

pub unpruned_none : (reads : List SegmentRead) (zones : ZonesBy) (e : Term) (start : ℕ) (bits kept : List Bool) → kept ≡ bits → selects_some bits ≡ false → AreUnprunedBy reads zones e start bits kept
unpruned_none reads zones e start bits kept same none bytes have = record {
  is = same ∙ none_unpruned (is_pruned bytes zones e) start bits none;
  told = each_none (AreTold bytes zones) start bits none;
}

-- and so does one over whose rows no zone lies
same_bit : (bit : Bool) → bit ≡ (bit && not false)
same_bit true = refl
same_bit false = refl

bare_unpruned : (f : ℕ → Bool) (start : ℕ) (bits : List Bool) → ((row : ℕ) → f row ≡ false) → bits ≡ unpruned f start bits
bare_unpruned f start [] none = refl
bare_unpruned f start (bit ∷ bits) none =
    let here : bit ≡ (bit && not (f start)) = same_bit bit ∙ ap (λ (b : Bool). bit && not b) (sym (none start)) in
    let rest : bits ≡ unpruned f (start + 1) bits = bare_unpruned f (start + 1) bits none in
    λ i. here i ∷ rest i

each_bare : (P : ℕ → Type 0) → ((row : ℕ) → P row) → (start : ℕ) (bits : List Bool) → EachRow P start bits
each_bare P all start [] = tt
each_bare P all start (true ∷ bits) = (all start, each_bare P all (start + 1) bits)
each_bare P all start (false ∷ bits) = each_bare P all (start + 1) bits

pub unpruned_bare : (reads : List SegmentRead) (zones : ZonesBy) (e : Term) (start : ℕ) (bits kept : List Bool) → kept ≡ bits → ((row : ℕ) → zones row ≡ []) → AreUnprunedBy reads zones e start bits kept
unpruned_bare reads zones e start bits kept same none bytes have = record {
  is = same ∙ bare_unpruned (is_pruned bytes zones e) start bits (λ row. ap (list_any (prunes_over bytes e)) (none row));
  told = each_bare (AreTold bytes zones) (λ row. subst (AllByRecursion (λ (over : ZoneOver). IsSome (told_by bytes over))) (sym (none row)) tt) start bits;
}

-- ---- one range behind another

-- what a range of the mask keeps, behind what is kept so far
pub unpruned_then : (reads : List SegmentRead) (zones zones2 : ZonesBy) (e : Term) (start row done end : ℕ) (mask kept more new : List Bool) → done ≤ end → end ≤ length mask → ((i : ℕ) → i < end - done → zones (start + (done + i)) ≡ zones2 (row + i)) → new ≡ kept ++ more →
    AreUnprunedBy reads zones e start (take done mask) kept → AreUnprunedBy reads zones2 e row (slice_range mask done end) more → AreUnprunedBy reads zones e start (take end mask) new
unpruned_then reads zones zones2 e start row done end mask kept more new forwards inside alike joined before now bytes have =
    let f : ℕ → Bool = is_pruned bytes zones e in
    let g : ℕ → Bool = is_pruned bytes zones2 e in
    let some : List Bool = slice_range mask done end in
    let long : length some ≡ end - done = length_between mask done end forwards inside in
    let k : done + (end - done) ≡ end = omega arith in
    let bits_are : take end mask ≡ take done mask ++ some = ap (λ (k : ℕ). take k mask) (sym k) ∙ range_is mask done (end - done) ∙ ap (λ (k : ℕ). take done mask ++ slice_range mask done k) k in
    let taken : length (take done mask) ≡ done = length-take-le done mask (omega arith) in
    let same : unpruned f (start + done) some ≡ unpruned g row some = unpruned_same f g (start + done) row some (λ i less. (let at : start + done + i ≡ start + (done + i) = omega arith in ap f at ∙ ap (list_any (prunes_over bytes e)) (alike i (omega arith)))) in
    let later : EachRow (AreTold bytes zones) (start + done) some = each_shift (AreTold bytes zones) (AreTold bytes zones2) (start + done) row some (λ i less told. told_alike i (omega arith) told) (now bytes have).told in
    record {
      is =
          joined
          ∙ ap (λ (bits : List Bool). bits ++ more) (before bytes have).is
          ∙ ap (λ (bits : List Bool). unpruned f start (take done mask) ++ bits) ((now bytes have).is ∙ sym same ∙ ap (λ (k : ℕ). unpruned f (start + k) some) (sym taken))
          ∙ sym (unpruned_append f start (take done mask) some)
          ∙ ap (unpruned f start) (sym bits_are);
      told = subst (EachRow (AreTold bytes zones) start) (sym bits_are) (each_append (AreTold bytes zones) start (start + done) (take done mask) some (omega arith) (before bytes have).told later);
    }
  where
    told_alike : (i : ℕ) → i < end - done → AreTold bytes zones2 (row + i) → AreTold bytes zones (start + done + i)
    told_alike i less told =
        let at : start + (done + i) ≡ start + done + i = omega arith in
        subst (AreTold bytes zones) at (subst (AllByRecursion (λ (over : ZoneOver). IsSome (told_by bytes over))) (sym (alike i less)) told)

-- ---- data that has zones

one_bit : (bit f g : Bool) → ((bit && not f) && not g) ≡ (bit && not (g || f))
one_bit true true true = refl
one_bit true true false = refl
one_bit true false true = refl
one_bit true false false = refl
one_bit false true true = refl
one_bit false true false = refl
one_bit false false true = refl
one_bit false false false = refl

without_unpruned : (f g : ℕ → Bool) (start : ℕ) (bits pruned : List Bool) → length pruned ≡ length bits → ((place : ℕ) → place < length bits → slice_get pruned place ≡ Some (g (start + place))) → without (unpruned f start bits) pruned ≡ unpruned (λ row. g row || f row) start bits
without_unpruned f g start [] pruned many are = refl
without_unpruned f g start (bit ∷ bits) [] many are = absurd (omega (arith, many))
without_unpruned f g start (bit ∷ bits) (p ∷ pruned) many are =
    let first : Some p ≡ Some (g (start + 0)) = are 0 (omega arith) in
    let same : p ≡ g (start + 0) = cc in
    let e : start + 0 ≡ start = omega arith in
    let here : ((bit && not (f start)) && not p) ≡ (bit && not (g start || f start)) = ap (λ (b : Bool). (bit && not (f start)) && not b) (same ∙ ap g e) ∙ one_bit bit (f start) (g start) in
    let rest : without (unpruned f (start + 1) bits) pruned ≡ unpruned (λ row. g row || f row) (start + 1) bits = without_unpruned f g (start + 1) bits pruned (omega (arith, many)) (λ place lt.
    let at : slice_get pruned place ≡ Some (g (start + suc place)) = are (suc place) (omega (arith, lt)) in
    let next : start + suc place ≡ start + 1 + place = omega arith in
    at ∙ ap (λ (k : ℕ). Some (g k)) next) in
    λ i. here i ∷ rest i

each_both : (P Q : ℕ → Type 0) (start : ℕ) (bits : List Bool) → ((place : ℕ) → place < length bits → Q (start + place)) → EachRow P start bits → EachRow (λ row. Q row × P row) start bits
each_both P Q start [] all each = tt
each_both P Q start (true ∷ bits) all each = ((here, each.0), each_both P Q (start + 1) bits later each.1)
  where
    here : Q start
    here = let e : start + 0 ≡ start = omega arith in subst Q e (all 0 (omega arith))

    later : (place : ℕ) → place < length bits → Q (start + 1 + place)
    later place lt = let e : start + suc place ≡ start + 1 + place = omega arith in subst Q e (all (suc place) (omega (arith, lt)))
each_both P Q start (false ∷ bits) all each = each_both P Q (start + 1) bits later each
  where
    later : (place : ℕ) → place < length bits → Q (start + 1 + place)
    later place lt = let e : start + suc place ≡ start + 1 + place = omega arith in subst Q e (all (suc place) (omega (arith, lt)))

-- the rows that stay inside the data, without those of the node's own pruned zones
pub zoned_unpruned : (reads : List SegmentRead) (t : Tree) (head : Head) (zones : Zones) (content table : Tree) (e : Term) (start : ℕ) (bits inside pruned kept : List Bool) → t ≡ zoned head zones content table → length pruned ≡ length bits → kept ≡ without inside pruned → ArePrunedBy reads e (zone_over head zones table) start (length bits) pruned → AreUnprunedBy reads (zones_over content) e start bits inside → AreUnprunedBy reads (zones_over t) e start bits kept
zoned_unpruned reads t head zones content table e start bits inside pruned kept is many joined own inner =
    subst (λ (t : Tree). AreUnprunedBy reads (zones_over t) e start bits kept) (sym is) (λ bytes have. record {
      is = joined ∙ ap (λ (rows : List Bool). without rows pruned) (inner bytes have).is ∙ without_unpruned (is_pruned bytes (zones_over content) e) (λ row. prunes_over bytes e (zone_over head zones table row)) start bits pruned many (own bytes have).is;
      told = each_both (AreTold bytes (zones_over content)) (λ row. IsSome (told_by bytes (zone_over head zones table row))) start bits (own bytes have).told (inner bytes have).told;
    })

pub without_count : (xs ys : List Bool) → length ys ≡ length xs → length (without xs ys) ≡ length xs
without_count [] ys many = refl
without_count (x ∷ xs) [] many = absurd (omega (arith, many))
without_count (x ∷ xs) (y ∷ ys) many = ap suc (without_count xs ys (omega (arith, many)))

-- ---- chunks

pub chunks_unpruned : (result : Result (List Bool) ReaderError) (t : Tree) (head : Head) (forest : Forest) (e : Term) (start : ℕ) (bits : List Bool) (reads : List SegmentRead) → t ≡ chunks head forest → IfOk result (AreUnprunedBy reads (zones_over_in forest) e start bits) → IfOk result (AreUnprunedBy reads (zones_over t) e start bits)
chunks_unpruned (Err fault) t head forest e start bits reads is by = tt
chunks_unpruned (Ok kept) t head forest e start bits reads is by = subst (λ (t : Tree). AreUnprunedBy reads (zones_over t) e start bits kept) (sym is) by

pub chunks_lost : (result : Result (List Bool) ReaderError) (t : Tree) (head : Head) (forest : Forest) (start : ℕ) (bits : List Bool) (reads : List SegmentRead) → t ≡ chunks head forest → IfErr result (PruningFails reads (zones_over_in forest) start bits) → IfErr result (PruningFails reads (zones_over t) start bits)
chunks_lost (Ok kept) t head forest start bits reads is by = tt
chunks_lost (Err fault) t head forest start bits reads is by = subst (λ (t : Tree). PruningFails reads (zones_over t) start bits fault) (sym is) by

-- a range of chunks, of which some row is selected
pub range_lost : (result : Result (List Bool) ReaderError) (zones : ZonesBy) (start : ℕ) (some bits : List Bool) (reads : List SegmentRead) → some ≡ bits → IfErr result (PruningFails reads zones start some) → IfErr result (PruningFails reads zones start bits)
range_lost (Ok kept) zones start some bits reads is by = tt
range_lost (Err fault) zones start some bits reads is by = subst (λ (bits : List Bool). PruningFails reads zones start bits fault) is by
