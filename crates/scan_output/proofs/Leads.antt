-- The leads of fields, one field at a time.
use Rattle.std.proofs.Common.{◌≡◌, ℕ, ◌+◌, ◌<◌, ◌≤◌, List, [], ◌∷◌, ◌++◌, length, map, get_or, take, drop, sym, ap, ◌∙◌, add-one, append_assoc, arith}
use Rattle.std.proofs.lemmas.List.{append-nil, drop_all, drop_more, map-append, length-map, length-append, take_at, drop_at, take-map, drop-map}
use Rattle.scan_output.specs.declared.field_leads.Lead.{Lead}
use Rattle.scan_output.specs.FieldLeads.{LeadData, lead_data, leads_in, leads_from}
use Rattle.scan_output.specs.RowText.{lead}
use Rattle.vx_base.specs.declared.dtypes.Field.{Field}
use Rattle.vx_base.specs.Data.{Members}
use Rattle.vx_base.specs.Views.{data_type, members_of}

-- the leads of the fields that are left at a place
abbrev pub leads_left : ℕ → List Field → List LeadData
leads_left place fs = leads_from place (members_of (drop place fs))

-- the lead of a field whose value has so many leads
abbrev pub own_lead : ℕ → Field → LeadData
own_lead place f = record { text = lead place f.name; inside = length (leads_in (data_type f.dtype)) }

pub leads_next : (fs : List Field) (place : ℕ) (f : Field) → place < length fs → f ≡ get_or fs place f → leads_left place fs ≡ own_lead place f ∷ (leads_in (data_type f.dtype) ++ leads_left (place + 1) fs)
leads_next fs place f lt here =
    let rest = drop (place + 1) fs in
    let one = drop_more fs place f lt in
    rw (one, ← here) (ap (λ (n : ℕ). own_lead place f ∷ (leads_in (data_type f.dtype) ++ leads_from n (members_of rest))) (sym (add-one place)))

-- one field more
pub leads_more : (fs : List Field) (place : ℕ) (f : Field) (before pushed after inner : List Lead) (one : Lead) (whole : List LeadData) → place < length fs → f ≡ get_or fs place f
    → map lead_data inner ≡ leads_in (data_type f.dtype) → lead_data one ≡ record { text = lead place f.name; inside = length inner } → pushed ≡ before ++ one ∷ [] → after ≡ pushed ++ inner
    → map lead_data before ++ leads_left place fs ≡ whole → map lead_data after ++ leads_left (place + 1) fs ≡ whole
leads_more fs place f before pushed after inner one whole lt here inside own push more so_far =
    let left = leads_left (place + 1) fs in
    let seen = map lead_data before in
    let count : length inner ≡ length (leads_in (data_type f.dtype)) = sym (length-map inner lead_data) ∙ ap length inside in
    let same : lead_data one ≡ own_lead place f = own ∙ ap (λ (n : ℕ). record { text = lead place f.name; inside = n }) count in
    let all : map lead_data after ≡ (seen ++ lead_data one ∷ []) ++ map lead_data inner = ap (map lead_data) (more ∙ ap (λ (p : List Lead). p ++ inner) push) ∙ map-append lead_data (before ++ one ∷ []) inner ∙ ap (λ (p : List LeadData). p ++ map lead_data inner) (map-append lead_data before (one ∷ [])) in
    ap (λ (p : List LeadData). p ++ left) all
    ∙ append_assoc (seen ++ lead_data one ∷ []) (map lead_data inner) left
    ∙ append_assoc seen (lead_data one ∷ []) (map lead_data inner ++ left)
    ∙ ap (λ (d : LeadData). seen ++ (d ∷ (map lead_data inner ++ left))) same
    ∙ ap (λ (p : List LeadData). seen ++ (own_lead place f ∷ (p ++ left))) inside
    ∙ ap (λ (p : List LeadData). seen ++ p) (sym (leads_next fs place f lt here))
    ∙ so_far

-- none is left
pub leads_done : (fs : List Field) (ms : Members) (place : ℕ) (made : List Lead) → members_of fs ≡ ms → length fs ≤ place → map lead_data made ++ leads_left place fs ≡ leads_from 0 (members_of fs) → map lead_data made ≡ leads_from 0 ms
leads_done fs ms place made e past so_far =
    sym (append-nil (map lead_data made)) ∙ ap (λ (rest : List Field). map lead_data made ++ leads_from place (members_of rest)) (sym (drop_all place fs past)) ∙ so_far ∙ ap (leads_from 0) e

-- ---- cutting leads

-- The first lead is the field's own, then come those inside it, and then those of the other fields.
pub record IsCut (fs : List Field) (place : ℕ) (f : Field) (one : Lead) (behind : List Lead) : Type 0 where
  pub text : one.text.items ≡ lead place f.name
  pub room : one.inside ≤ length behind
  pub inside : map lead_data (take one.inside behind) ≡ leads_in (data_type f.dtype)
  pub others : map lead_data (drop one.inside behind) ≡ leads_left (place + 1) fs

pub cut_leads : (fs : List Field) (place : ℕ) (f : Field) (one : Lead) (all : List Lead) → place < length fs → f ≡ get_or fs place f → 1 ≤ length all → one ≡ get_or all 0 one → map lead_data all ≡ leads_left place fs → IsCut fs place f one (drop 1 all)
cut_leads fs place f one [] lt here some first are = absurd (omega arith)
cut_leads fs place f one (l ∷ behind) lt here some first are =
    let both : lead_data l ∷ map lead_data behind ≡ own_lead place f ∷ (leads_in (data_type f.dtype) ++ leads_left (place + 1) fs) = are ∙ leads_next fs place f lt here in
    let own : lead_data one ≡ own_lead place f = ap lead_data first ∙ cc in
    let rest : map lead_data behind ≡ leads_in (data_type f.dtype) ++ leads_left (place + 1) fs = cc in
    let count : one.inside ≡ length (leads_in (data_type f.dtype)) = ap (λ (d : LeadData). d.inside) own in
    record {
      text = ap (λ (d : LeadData). d.text) own;
      room = omega (arith, count, sym (length-map behind lead_data), ap length rest, length-append (leads_in (data_type f.dtype)) (leads_left (place + 1) fs));
      inside = sym (take-map lead_data one.inside behind) ∙ ap (take one.inside) rest ∙ take_at (leads_in (data_type f.dtype)) (leads_left (place + 1) fs) one.inside (sym count);
      others = sym (drop-map lead_data one.inside behind) ∙ ap (drop one.inside) rest ∙ drop_at (leads_in (data_type f.dtype)) (leads_left (place + 1) fs) one.inside (sym count);
    }
