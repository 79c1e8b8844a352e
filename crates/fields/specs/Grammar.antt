-- A legal run of bytes is exactly what a list of fields writes: tag, length high byte first, content, and in a group the bytes of the fields it holds.
-- Assumes nothing.
use Rattle.std.specs.Prelude.{◌≡◌, refl, Bool, true, false, cond, List, [], ◌∷◌, ◌++◌, ℕ, zero, suc, ◌+◌, ◌≤◌, ◌<◌, eqb, length, take, drop, Some, None, Ok}
use Rattle.std.proofs.Common.{ap, ◌∙◌, arith, eqb-true, le-ltb}
use Rattle.fields.specs.declared.FieldKind.{FieldKind}
use Rattle.fields.specs.Start.{tag_of, is_leaf, field_bytes, kind_of_tag, length_allowed, depth_allowed, judged}
use Rattle.fields.specs.Run.{Field, Scan, Fields, Refused, ◌and_then◌, run_of}

-- ---- what is stated

-- a list of fields: no more, a field that holds none, or a group of fields, each before the others of its list
pub data Trees : Type 0 where
  no_more : Trees
  leaf : FieldKind → List ℕ → Trees → Trees
  group : Trees → Trees → Trees

-- its bytes
abbrev pub bytes_of : Trees → List ℕ
bytes_of no_more = []
bytes_of (leaf k c ts) = field_bytes k c ++ bytes_of ts
bytes_of (group us ts) = field_bytes FieldKind.Group (bytes_of us) ++ bytes_of ts

-- the fields in the order of their tags, with place and depth
abbrev pub fields_of : (depth place : ℕ) → Trees → List Field
fields_of d p no_more = []
fields_of d p (leaf k c ts) = record { place = p; depth = d; kind = k; content = c } ∷ fields_of d (p + 3 + length c) ts
fields_of d p (group us ts) =
    record { place = p; depth = d; kind = FieldKind.Group; content = bytes_of us }
    ∷ (fields_of (suc d) (p + 3) us ++ fields_of d (p + 3 + length (bytes_of us)) ts)

-- each is below 256
pub data Bytes : List ℕ → Type 0 where
  no_byte : Bytes []
  byte : {b : ℕ} {bs : List ℕ} → b < 256 → Bytes bs → Bytes (b ∷ bs)

-- what may be written at a depth: lengths that two bytes hold, four bytes in a word and nine in a figure, and groups at depths below 4
pub data Allowed : ℕ → Trees → Type 0 where
  no_more_allowed : {d : ℕ} → Allowed d no_more
  leaf_allowed : {d : ℕ} {k : FieldKind} {c : List ℕ} {ts : Trees} → is_leaf k ≡ true → length_allowed k (length c) ≡ true → length c < 0x10000 → Bytes c → Allowed d ts
      → Allowed d (leaf k c ts)
  group_allowed : {d : ℕ} {us ts : Trees} → d < 4 → length (bytes_of us) < 0x10000 → Allowed (suc d) us → Allowed d ts → Allowed d (group us ts)

-- ---- a written field before the rest of its run

pub known-tag : (k : FieldKind) → kind_of_tag (tag_of k) ≡ Some k
known-tag FieldKind.Word = refl
known-tag FieldKind.Figure = refl
known-tag FieldKind.Note = refl
known-tag FieldKind.Group = refl

pub judged-field : (k : FieldKind) (len left d : ℕ) → len ≤ left → length_allowed k len ≡ true → depth_allowed k d ≡ true → judged (Some k) len left d ≡ Ok (Some (k, len))
judged-field k len left d room long deep = rw (le-ltb _ _ room, long, deep)

pub bytes_append : {xs ys : List ℕ} → Bytes xs → Bytes ys → Bytes (xs ++ ys)
bytes_append no_byte b = b
bytes_append (byte h a) b = byte h (bytes_append a b)

-- ---- a legal run is written by such a list

pub bytes_take : (n : ℕ) {bs : List ℕ} → Bytes bs → Bytes (take n bs)
bytes_take zero b = no_byte
bytes_take (suc n) no_byte = no_byte
bytes_take (suc n) (byte h b) = byte h (bytes_take n b)

pub bytes_drop : (n : ℕ) {bs : List ℕ} → Bytes bs → Bytes (drop n bs)
bytes_drop zero b = b
bytes_drop (suc n) no_byte = no_byte
bytes_drop (suc n) (byte h b) = bytes_drop n b

pub tag-known : (t : ℕ) (k : FieldKind) → kind_of_tag t ≡ Some k → t ≡ tag_of k
tag-known t k e = by (eqb t 0x10) refl (eqb t 0x11) refl (eqb t 0x12) refl (eqb t 0x20) refl e
  where
    by : (a : Bool) → eqb t 0x10 ≡ a → (b : Bool) → eqb t 0x11 ≡ b → (c : Bool) → eqb t 0x12 ≡ c → (g : Bool) → eqb t 0x20 ≡ g
        → cond a (Some FieldKind.Word) (cond b (Some FieldKind.Figure) (cond c (Some FieldKind.Note) (cond g (Some FieldKind.Group) None)))
        ≡ Some k
        → t ≡ tag_of k
    by true ea b eb c ec g eg e = let same : FieldKind.Word ≡ k = cc in eqb-true t 0x10 ea ∙ ap tag_of same
    by false ea true eb c ec g eg e = let same : FieldKind.Figure ≡ k = cc in eqb-true t 0x11 eb ∙ ap tag_of same
    by false ea false eb true ec g eg e = let same : FieldKind.Note ≡ k = cc in eqb-true t 0x12 ec ∙ ap tag_of same
    by false ea false eb false ec true eg e = let same : FieldKind.Group ≡ k = cc in eqb-true t 0x20 eg ∙ ap tag_of same
    by false ea false eb false ec false eg e = let z : ◌≡◌ {A = ℕ} 0 1 = cc in absurd (omega arith)

-- a run that starts with a field is that field's bytes and a rest
pub record FirstField (d : ℕ) (k : FieldKind) (bs : List ℕ) : Type 0 where
  pub content : List ℕ
  pub rest : List ℕ
  pub whole : bs ≡ field_bytes k content ++ rest
  pub long : length_allowed k (length content) ≡ true
  pub deep : depth_allowed k d ≡ true
  pub short : length content < 0x10000
  pub content_bytes : Bytes content
  pub rest_bytes : Bytes rest

-- all of a run, its first field and the rest, is legal only where each is
pub record Both (x : Field) (i r : Scan) (fs : List Field) : Type 0 where
  pub inner : List Field
  pub after : List Field
  pub inside_legal : i ≡ Fields inner
  pub rest_legal : r ≡ Fields after
  pub all : fs ≡ x ∷ (inner ++ after)

pub both : (x : Field) (i r : Scan) (fs : List Field) → Fields (x ∷ []) and_then i and_then r ≡ Fields fs → Both x i r fs
both x (Refused f p) r fs e = let z : ◌≡◌ {A = ℕ} 0 1 = cc in absurd (omega arith)
both x (Fields gs) (Refused f p) fs e = let z : ◌≡◌ {A = ℕ} 0 1 = cc in absurd (omega arith)
both x (Fields gs) (Fields hs) fs e = record { inner = gs; after = hs; inside_legal = refl; rest_legal = refl; all = cc }

-- the list of fields that a run was written by
pub record WrittenBy (d p : ℕ) (bs : List ℕ) (fs : List Field) : Type 0 where
  pub trees : Trees
  pub allowed : Allowed d trees
  pub bytes : bytes_of trees ≡ bs
  pub fields : fields_of d p trees ≡ fs

abbrev pub Reads : ℕ → Type 0
Reads m = (d p : ℕ) (bs : List ℕ) → length bs ≤ m → Bytes bs → (fs : List Field) → run_of d p bs ≡ Fields fs → WrittenBy d p bs fs

-- ---- sheets
