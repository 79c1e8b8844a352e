-- Why a run of bytes is judged by its rules: what stands at its start follows the rules of a field, and a run is refused where they say.
-- Assumes nothing.
use Rattle.std.specs.Prelude.{◌≡◌, refl, List, [], ◌∷◌, ◌++◌, ◌⊎◌, ℕ, suc, ◌+◌, ◌≤◌, ◌<◌, length, Some, None}
use Rattle.std.proofs.Common.{sym, ap, ◌∙◌, append_assoc, inl, inr, arith, length-append}
use Rattle.refusals.specs.Order.{Rule, asks}
use Rattle.refusals.specs.declared.Refusal.{Refusal}
use Rattle.fields.specs.declared.FieldKind.{FieldKind}
use Rattle.fields.specs.Start.{tag_of, field_bytes, kind_of_tag}
use Rattle.fields.specs.Run.{Refused, run_of}
use Rattle.fields.specs.Grammar.{Trees, no_more, leaf, group, bytes_of, Bytes, Allowed, no_more_allowed, leaf_allowed, group_allowed}
use Rattle.fields.specs.Rules.{RefusedAt}

-- ---- what stands at the start of a run follows the rules of a field

abbrev pub AmongTags : ℕ → Type 0
AmongTags t = (t ≡ 0x10) ⊎ ((t ≡ 0x11) ⊎ ((t ≡ 0x12) ⊎ (t ≡ 0x20)))

pub among_tags : (k : FieldKind) (t : ℕ) → t ≡ tag_of k → AmongTags t
among_tags FieldKind.Word t e = inl e
among_tags FieldKind.Figure t e = inr (inl e)
among_tags FieldKind.Note t e = inr (inr (inl e))
among_tags FieldKind.Group t e = inr (inr (inr e))

pub unknown : (t : ℕ) → kind_of_tag t ≡ None → AmongTags t → ⊥
unknown t e (inl a) = let z : Some FieldKind.Word ≡ None = sym (ap kind_of_tag a) ∙ e in let y : ◌≡◌ {A = ℕ} 0 1 = cc in omega arith
unknown t e (inr (inl a)) = let z : Some FieldKind.Figure ≡ None = sym (ap kind_of_tag a) ∙ e in let y : ◌≡◌ {A = ℕ} 0 1 = cc in omega arith
unknown t e (inr (inr (inl a))) = let z : Some FieldKind.Note ≡ None = sym (ap kind_of_tag a) ∙ e in let y : ◌≡◌ {A = ℕ} 0 1 = cc in omega arith
unknown t e (inr (inr (inr a))) = let z : Some FieldKind.Group ≡ None = sym (ap kind_of_tag a) ∙ e in let y : ◌≡◌ {A = ℕ} 0 1 = cc in omega arith

-- the last rules of a field with this tag and length: its length and its depth, and before them its content
abbrev pub last_rules : (d t n : ℕ) → List (Rule Refusal)
last_rules d t n = asks ((t ≡ 0x10 → n ≡ 4) × (t ≡ 0x11 → n ≡ 9)) Refusal.Length ∷ asks (t ≡ 0x20 → d < 4) Refusal.Depth ∷ []

abbrev pub content_rules : (d t n left : ℕ) → List (Rule Refusal)
content_rules d t n left = asks (3 + n ≤ suc (suc (suc left))) Refusal.Truncated ∷ last_rules d t n

-- ---- what the rules refuse is refused

-- ---- what is refused the rules refuse

-- fields before fields
abbrev pub joined : Trees → Trees → Trees
joined no_more us = us
joined (leaf k c ts) us = leaf k c (joined ts us)
joined (group vs ts) us = group vs (joined ts us)

joined_bytes : (ts us : Trees) → bytes_of (joined ts us) ≡ bytes_of ts ++ bytes_of us
joined_bytes no_more us = refl
joined_bytes (leaf k c ts) us = ap (λ (y : List ℕ). field_bytes k c ++ y) (joined_bytes ts us) ∙ sym (append_assoc (field_bytes k c) (bytes_of ts) (bytes_of us))
joined_bytes (group vs ts) us =
    ap (λ (y : List ℕ). field_bytes FieldKind.Group (bytes_of vs) ++ y) (joined_bytes ts us) ∙ sym (append_assoc (field_bytes FieldKind.Group (bytes_of vs)) (bytes_of ts) (bytes_of us))

pub joined_allowed : (d : ℕ) (ts us : Trees) → Allowed d ts → Allowed d us → Allowed d (joined ts us)
joined_allowed d no_more us no_more_allowed b = b
joined_allowed d (leaf k c ts) us (leaf_allowed plain long short bytes rest) b = leaf_allowed plain long short bytes (joined_allowed d ts us rest b)
joined_allowed d (group vs ts) us (group_allowed deep short inner rest) b = group_allowed deep short inner (joined_allowed d ts us rest b)

-- legal fields in front move the refusal
module _ (d p : ℕ) (ts : Trees) (legal : Allowed d ts) where
  pub front : (before : Trees) (rest : List ℕ) → bytes_of (joined ts before) ++ rest ≡ bytes_of ts ++ (bytes_of before ++ rest)
  front before rest = ap (λ (y : List ℕ). y ++ rest) (joined_bytes ts before) ∙ append_assoc (bytes_of ts) (bytes_of before) rest

  pub offset : (before : Trees) (at : ℕ) → at ≡ p + length (bytes_of ts) → p + length (bytes_of (joined ts before)) ≡ at + length (bytes_of before)
  offset before at e =
      let size : length (bytes_of (joined ts before)) ≡ length (bytes_of ts) + length (bytes_of before) = ap length (joined_bytes ts before) ∙ length-append (bytes_of ts) (bytes_of before) in
      omega arith

abbrev pub Finds : ℕ → Type 0
Finds m = (d p : ℕ) (bs : List ℕ) → length bs ≤ m → Bytes bs → (f : Refusal) (q : ℕ) → run_of d p bs ≡ Refused f q → RefusedAt d p bs f q
