-- Where texts end, length by length.
use Rattle.std.proofs.Common.{◌≡◌, ℕ, suc, ◌+◌, ◌-◌, ◌*◌, ◌^◌, ◌<◌, ◌≤◌, List, [], ◌∷◌, ◌++◌, length, refl, sym, ap, subst, ◌∙◌, arith, append_assoc}
use Rattle.std.specs.Int.{w32, to_le_bytes, from_le_bytes}
use Rattle.std.proofs.lemmas.List.{append-nil, length-append, take_at, drop_at}
use Rattle.std.proofs.lemmas.Nat.{from_le_bytes-to_le_bytes_4}
use Rattle.vx_arrays.specs.Texts.{AreEnds, ends_after}
use Rattle.vx_arrays.proofs.CutTexts.{ends_below, ends-append}
use Rattle.vx_segments.specs.Reading.{lengths_read, ends_read}

pub record EndsSoFar (rows row room : ℕ) (lengths ends : List ℕ) (end : ℕ) (rest : List ℕ) : Type 0 where
  pub left : length rest ≡ 4 * (rows - row)
  pub inside : end ≤ room
  pub so_far : ends ++ ends_after end (lengths_read (rows - row) rest) ≡ ends_read rows lengths
  pub filled : AreEnds 0 end ends

-- the next length is read
word_read : (n len : ℕ) (more : List ℕ) → len < 2 ^ 32 → lengths_read (suc n) (to_le_bytes w32 len ++ more) ≡ len ∷ lengths_read n more
unfolding lengths_read
word_read n len more fits =
    let word = to_le_bytes w32 len in
    (λ i. from_le_bytes w32 (take_at word more 4 refl i) ∷ lengths_read n (drop_at word more 4 refl i))
    ∙ ap (λ (k : ℕ). k ∷ lengths_read n more) (from_le_bytes-to_le_bytes_4 len fits)

pub next_read : (rows row len : ℕ) (rest more : List ℕ) → row < rows → len < 2 ^ 32 → rest ≡ to_le_bytes w32 len ++ more → lengths_read (rows - row) rest ≡ len ∷ lengths_read (rows - (row + 1)) more
next_read rows row len rest more lt fits e =
    let one : rows - row ≡ suc (rows - (row + 1)) = omega arith in
    (λ i. lengths_read (one i) (e i)) ∙ word_read (rows - (row + 1)) len more fits

more_so_far : (rows row room : ℕ) (lengths ends : List ℕ) (end len : ℕ) (rest more : List ℕ) → row < rows → len < 2 ^ 32 → rest ≡ to_le_bytes w32 len ++ more → EndsSoFar rows row room lengths ends end rest
    → ends ++ (end + len) ∷ ends_after (end + len) (lengths_read (rows - (row + 1)) more) ≡ ends_read rows lengths
more_so_far rows row room lengths ends end len rest more lt fits e h =
    ap (λ (lens : List ℕ). ends ++ ends_after end lens) (sym (next_read rows row len rest more lt fits e)) ∙ h.so_far

pub ends_more : (rows row room : ℕ) (lengths ends all : List ℕ) (end len next : ℕ) (rest more : List ℕ) → row < rows → len < 2 ^ 32 → rest ≡ to_le_bytes w32 len ++ more → len ≤ room - end → next ≡ end + len → all ≡ ends ++ next ∷ []
    → EndsSoFar rows row room lengths ends end rest → EndsSoFar rows (row + 1) room lengths all next more
ends_more rows row room lengths ends all end len next rest more lt fits e low sum pushed h =
    let pushed_sum : all ≡ ends ++ (end + len) ∷ [] = pushed ∙ ap (λ (k : ℕ). ends ++ k ∷ []) sum in
    let four : length (to_le_bytes w32 len) ≡ 4 = refl in
    subst (λ (k : ℕ). EndsSoFar rows (row + 1) room lengths all k more) (sym sum) (subst (λ (es : List ℕ). EndsSoFar rows (row + 1) room lengths es (end + len) more) (sym pushed_sum) (record {
      left = omega (arith, h.left, ap length e, length-append (to_le_bytes w32 len) more, four);
      inside = omega (arith, h.inside);
      so_far = append_assoc ends ((end + len) ∷ []) (ends_after (end + len) (lengths_read (rows - (row + 1)) more)) ∙ more_so_far rows row room lengths ends end len rest more lt fits e h;
      filled = ends-append 0 end (end + len) ends ((end + len) ∷ []) h.filled (omega arith, refl);
    }))

ends_split : (from mid to : ℕ) (ends more : List ℕ) → AreEnds from mid ends → AreEnds from to (ends ++ more) → AreEnds mid to more
ends_split from mid to [] more g h = subst (λ (k : ℕ). AreEnds k to more) g h
ends_split from mid to (end ∷ ends) more g h = ends_split end mid to ends more g.1 h.1

pub ends_past : (rows row room : ℕ) (lengths ends : List ℕ) (end len : ℕ) (rest more : List ℕ) → row < rows → len < 2 ^ 32 → rest ≡ to_le_bytes w32 len ++ more → room - end < len → EndsSoFar rows row room lengths ends end rest → ¬ (AreEnds 0 room (ends_read rows lengths))
ends_past rows row room lengths ends end len rest more lt fits e high h are =
    let later = ends_split 0 end room ends ((end + len) ∷ ends_after (end + len) (lengths_read (rows - (row + 1)) more)) h.filled (subst (AreEnds 0 room) (sym (more_so_far rows row room lengths ends end len rest more lt fits e h)) are) in
    omega (arith, h.inside, ends_below (end + len) room (ends_after (end + len) (lengths_read (rows - (row + 1)) more)) later.1)

nothing_left : (rows row : ℕ) (ends rest : List ℕ) (end : ℕ) → rows ≤ row → ends ++ ends_after end (lengths_read (rows - row) rest) ≡ ends
unfolding lengths_read
nothing_left rows row ends rest end past =
    let none : rows - row ≡ 0 = omega arith in
    ap (λ (n : ℕ). ends ++ ends_after end (lengths_read n rest)) none ∙ append-nil ends

pub ends_all : (rows row room : ℕ) (lengths ends : List ℕ) (end : ℕ) (rest : List ℕ) → rows ≤ row → EndsSoFar rows row room lengths ends end rest → ends ≡ ends_read rows lengths
ends_all rows row room lengths ends end rest past h = sym (nothing_left rows row ends rest end past) ∙ h.so_far

pub ends_short : (rows row room : ℕ) (lengths ends : List ℕ) (end : ℕ) (rest : List ℕ) → rows ≤ row → ¬ (end ≡ room) → EndsSoFar rows row room lengths ends end rest → ¬ (AreEnds 0 room (ends_read rows lengths))
ends_short rows row room lengths ends end rest past other h are =
    let all : AreEnds 0 room (ends ++ []) = subst (AreEnds 0 room) (sym (ends_all rows row room lengths ends end rest past h) ∙ sym (append-nil ends)) are in
    other (ends_split 0 end room ends [] h.filled all)
