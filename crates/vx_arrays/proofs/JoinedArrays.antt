-- Structs behind structs, array by array.
use Rattle.std.proofs.Common.{◌≡◌, ℕ, ◌+◌, ◌≤◌, List, [], ◌∷◌, ◌++◌, length, refl, sym, ap, subst, ◌∙◌, arith}
use Rattle.std.proofs.lemmas.List.{append-nil}
use Rattle.vx_types.specs.Columns.{ColumnData}
use Rattle.vx_types.specs.Sizes.{type_size, members_size}
use Rattle.vx_arrays.specs.ArrayRows.{members_in, rows_of, StructRows, struct_rows, HaveRows, joined_each}
use Rattle.vx_arrays.proofs.ArrayRows.{joined_have, joined_members, struct_joined, struct_len, same_head}

-- what was made so far, and what is left of both
pub record AreJoining (rows : ℕ) (one two : StructRows) (made ones others : List ColumnData) : Type 0 where
  pub alike : members_in others ≡ members_in ones
  pub smaller : members_size (members_in ones) ≤ members_size one.members
  pub have : HaveRows rows (made ++ joined_each ones others)
  pub members : members_in (made ++ joined_each ones others) ≡ one.members
  pub filled : rows_of rows (made ++ joined_each ones others) ≡ one.rows ++ two.rows

pub join_begins : (m n rows : ℕ) (one two : StructRows) (made ones others ones_left others_left : List ColumnData) → struct_rows m ones ≡ one → struct_rows n others ≡ two → HaveRows m ones → HaveRows n others → two.members ≡ one.members → rows ≡ length one.rows + length two.rows
    → made ≡ [] → ones_left ≡ ones → others_left ≡ others → AreJoining rows one two made ones_left others_left
join_begins m n rows one two made ones others ones_left others_left v w g h e len none here there =
    let same : members_in others ≡ members_in ones = ap (λ (s : StructRows). s.members) w ∙ e ∙ sym (ap (λ (s : StructRows). s.members) v) in
    let total : rows ≡ m + n = omega (arith, len, struct_len m ones g, struct_len n others h, ap (λ (s : StructRows). length s.rows) v, ap (λ (s : StructRows). length s.rows) w) in
    let start : AreJoining rows one two [] ones others = record {
      alike = same;
      smaller = omega (arith, ap (λ (s : StructRows). members_size s.members) v);
      have = joined_have m n rows ones others (joined_each ones others) total refl g h;
      members = joined_members ones others same ∙ ap (λ (s : StructRows). s.members) v;
      filled = struct_joined m n rows ones others (joined_each ones others) total refl same g h ∙ (λ i. (v i).rows ++ (w i).rows);
    } in
    subst (λ (ps : List ColumnData). AreJoining rows one two ps ones_left others_left) (sym none)
    (subst (λ (ps : List ColumnData). AreJoining rows one two [] ps others_left) (sym here) (subst (λ (ps : List ColumnData). AreJoining rows one two [] ones ps) (sym there) start))

pub next_pair : (rows : ℕ) (one two : StructRows) (made ones others ones_left others_left : List ColumnData) (a b : ColumnData) → ones ≡ a ∷ ones_left → others ≡ b ∷ others_left → AreJoining rows one two made ones others → AreJoining rows one two made (a ∷ ones_left) (b ∷ others_left)
next_pair rows one two made ones others ones_left others_left a b e f h =
    subst (λ (ps : List ColumnData). AreJoining rows one two made ps (b ∷ others_left)) e (subst (λ (ps : List ColumnData). AreJoining rows one two made ones ps) f h)

pub pair_same : (rows : ℕ) (one two : StructRows) (made ones others : List ColumnData) (a b : ColumnData) → AreJoining rows one two made (a ∷ ones) (b ∷ others) → b.dtype ≡ a.dtype
pair_same rows one two made ones others a b h = same_head a b ones others h.alike

pub pair_smaller : (rows : ℕ) (one two : StructRows) (made ones others : List ColumnData) (a b : ColumnData) → AreJoining rows one two made (a ∷ ones) (b ∷ others) → type_size a.dtype ≤ members_size one.members
pair_smaller rows one two made ones others a b h = omega (arith, h.smaller)

pub none_left : (rows : ℕ) (one two : StructRows) (made ones others : List ColumnData) → ones ≡ [] → AreJoining rows one two made ones others → AreJoining rows one two made [] others
none_left rows one two made ones others e h = subst (λ (ps : List ColumnData). AreJoining rows one two made ps others) e h

pub none_left_have : (rows : ℕ) (one two : StructRows) (made others : List ColumnData) → AreJoining rows one two made [] others → HaveRows rows made
none_left_have rows one two made others h = subst (λ (ps : List ColumnData). HaveRows rows ps) (append-nil made) h.have

pub none_left_members : (rows : ℕ) (one two : StructRows) (made others : List ColumnData) → AreJoining rows one two made [] others → members_in made ≡ one.members
none_left_members rows one two made others h = ap members_in (sym (append-nil made)) ∙ h.members

pub none_left_rows : (rows : ℕ) (one two : StructRows) (made others : List ColumnData) → AreJoining rows one two made [] others → rows_of rows made ≡ one.rows ++ two.rows
none_left_rows rows one two made others h = ap (rows_of rows) (sym (append-nil made)) ∙ h.filled

pub some_left : (rows : ℕ) (one two : StructRows) (made ones others left : List ColumnData) (a : ColumnData) → ones ≡ a ∷ left → AreJoining rows one two made ones others → AreJoining rows one two made (a ∷ left) others
some_left rows one two made ones others left a e h = subst (λ (ps : List ColumnData). AreJoining rows one two made ps others) e h

pub never_short : (rows : ℕ) (one two : StructRows) (made ones others : List ColumnData) (a : ColumnData) → ones ≡ [] → AreJoining rows one two made (a ∷ others) ones → ⊥
never_short rows one two made ones others a e h = no_more (ap members_in (sym e) ∙ h.alike)
  where
    no_more : members_in [] ≡ members_in (a ∷ others) → ⊥
    no_more q = absurd cc

pub nothing_left : (ones : List ColumnData) → length ones ≡ 0 → ones ≡ []
nothing_left [] e = refl
nothing_left (a ∷ ones) e = absurd (omega arith)
