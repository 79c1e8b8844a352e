-- Which refusal a sheet gets, and at which offset, said of its bytes and apart from the order of the code: "15 first; then from the left, at each field 9 (header cut), 10, 9 (content runs
-- past the enclosing end), 11, 12, then the group's inside". That every sheet follows them is in `Judged`.
-- Assumes nothing.
use Rattle.std.specs.Prelude.{◌≡◌, List, [], ◌∷◌, ◌++◌, ◌⊎◌, ℕ, suc, ◌+◌, ◌*◌, ◌≤◌, ◌<◌, length, get_or}
use Rattle.refusals.specs.Order.{Rule, asks, FirstBroken}
use Rattle.refusals.specs.declared.Refusal.{Refusal}
use Rattle.fields.specs.declared.FieldKind.{FieldKind}
use Rattle.fields.specs.Start.{field_bytes}
use Rattle.fields.specs.Grammar.{Trees, bytes_of, Allowed}

-- ---- what is stated

-- the tag of the field that starts here, and its length, high byte first
abbrev pub tag_in : List ℕ → ℕ
tag_in bs = get_or bs 0 0

abbrev pub length_in : List ℕ → ℕ
length_in bs = get_or bs 1 0 * 256 + get_or bs 2 0

-- what is asked of a field at a depth, where these bytes are left of the run that it stands in: 9, 10, 9, 11, 12
abbrev pub field_rules : (depth : ℕ) → List ℕ → List (Rule Refusal)
field_rules d bs =
    asks (3 ≤ length bs) Refusal.Truncated
    ∷ asks ((tag_in bs ≡ 0x10) ⊎ ((tag_in bs ≡ 0x11) ⊎ ((tag_in bs ≡ 0x12) ⊎ (tag_in bs ≡ 0x20)))) Refusal.Tag
    ∷ asks (3 + length_in bs ≤ length bs) Refusal.Truncated
    ∷ asks ((tag_in bs ≡ 0x10 → length_in bs ≡ 4) × (tag_in bs ≡ 0x11 → length_in bs ≡ 9)) Refusal.Length
    ∷ asks (tag_in bs ≡ 0x20 → d < 4) Refusal.Depth
    ∷ []

-- A run of bytes at a depth, whose first byte has this offset, is refused with f at q: `before` are legal fields, and the next field breaks a rule,
-- or is a group in which a field does. The offset is that of the tag of the field that breaks it, and of its rules the first broken one counts.
pub data RefusedAt : (depth offset : ℕ) → List ℕ → Refusal → ℕ → Type 0 where
  breaks_rule : {d p : ℕ} {f : Refusal} (before : Trees) (rest : List ℕ) → Allowed d before → 0 < length rest → FirstBroken (field_rules d rest) f
      → RefusedAt d p (bytes_of before ++ rest) f (p + length (bytes_of before))
  in_group : {d p q : ℕ} {f : Refusal} (before : Trees) (content rest : List ℕ) → Allowed d before → d < 4 → RefusedAt (suc d) (p + length (bytes_of before) + 3) content f q
      → RefusedAt d p (bytes_of before ++ (field_bytes FieldKind.Group content ++ rest)) f q

-- A run of bytes keeps the rules if legal fields wrote it.
abbrev pub Written : (depth : ℕ) → List ℕ → Type 0
Written d bs = (ts : Trees) × Allowed d ts × (bytes_of ts ≡ bs)

abbrev pub run_rule : (depth : ℕ) → List ℕ → Rule (Refusal × ℕ)
run_rule d bs = record { kept = Written d bs; broken = λ r. RefusedAt d 0 bs r.0 r.1 }

-- 15 at 0 first
abbrev pub sheet_rules : List ℕ → List (Rule (Refusal × ℕ))
sheet_rules bs = asks (length bs ≤ 32768) (Refusal.Oversize, 0) ∷ run_rule 1 bs ∷ []

-- the inside of a group that is to be a top field has no 15 of its own
abbrev pub inside_rules : List ℕ → List (Rule (Refusal × ℕ))
inside_rules bs = run_rule 2 bs ∷ []
