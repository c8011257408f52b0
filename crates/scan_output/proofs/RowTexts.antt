-- The texts of structs, field by field.
use Rattle.std.proofs.Common.{◌≡◌, ℕ, suc, ◌+◌, ◌<◌, ◌≤◌, List, ◌++◌, length, get_or, drop, sym, ap, ◌∙◌, add-one, append_assoc}
use Rattle.std.proofs.lemmas.List.{append-nil, drop_all, drop_more}
use Rattle.vx_arrays.specs.Fields.{field_at}
use Rattle.scan_output.specs.RowText.{fields_text, lead, row_text}
use Rattle.vx_base.specs.declared.dtypes.Field.{Field}
use Rattle.vx_base.specs.Data.{Members, Datum}
use Rattle.vx_base.specs.Views.{data_type, members_of}

-- the fields that are left at a place
abbrev pub fields_left : ℕ → List Field → Datum → List ℕ
fields_left place fs v = fields_text place (members_of (drop place fs)) v

-- one field more
pub field_more : (fs : List Field) (place : ℕ) (f : Field) (v : Datum) (before middle after whole : List ℕ) → place < length fs → f ≡ get_or fs place f → middle ≡ before ++ lead place f.name → after ≡ middle ++ row_text (data_type f.dtype) (field_at place v) → before ++ fields_left place fs v ≡ whole → after ++ fields_left (place + 1) fs v ≡ whole
field_more fs place f v before middle after whole lt here led written so_far =
    let rest = drop (place + 1) fs in
    let one = drop_more fs place f lt in
    let text = row_text (data_type f.dtype) (field_at place v) in
    let behind = fields_text (suc place) (members_of rest) v in
    let now : before ++ (lead place f.name ++ (text ++ behind)) ≡ whole = rw (one, ← here) at so_far in
    ap (λ (o : List ℕ). o ++ fields_left (place + 1) fs v) (written ∙ ap (λ (m : List ℕ). m ++ text) led)
    ∙ ap (λ (n : ℕ). ((before ++ lead place f.name) ++ text) ++ fields_text n (members_of rest) v) (add-one place)
    ∙ append_assoc (before ++ lead place f.name) text behind
    ∙ append_assoc before (lead place f.name) (text ++ behind)
    ∙ now

-- a lead that is copied from where it is held
pub lead_copied : (before after copied held text : List ℕ) → after ≡ before ++ copied → copied ≡ held → held ≡ text → after ≡ before ++ text
lead_copied before after copied held text appended lent is = appended ∙ ap (λ (bytes : List ℕ). before ++ bytes) (lent ∙ is)

-- none is left
pub fields_done : (fs : List Field) (ms : Members) (place : ℕ) (v : Datum) (out start : List ℕ) → members_of fs ≡ ms → length fs ≤ place → out ++ fields_left place fs v ≡ start ++ fields_text 0 (members_of fs) v → out ≡ start ++ fields_text 0 ms v
fields_done fs ms place v out start e past so_far =
    sym (append-nil out) ∙ ap (λ (rest : List Field). out ++ fields_text place (members_of rest) v) (sym (drop_all place fs past)) ∙ so_far ∙ ap (λ (m : Members). start ++ fields_text 0 m v) e
