-- A legal run of bytes is exactly what a list of fields writes: tag, length high byte first, content, and in a group the bytes of the fields it holds.
-- Assumes nothing.
use Rattle.std.specs.Prelude.{◌≡◌, refl, Bool, true, false, cond, ◌||◌, List, [], ◌∷◌, ◌++◌, ℕ, zero, suc, ◌+◌, ◌/◌, ◌%◌, ◌≤◌, ◌<◌, ltb, length, take, drop, Option, Some, None, Result, Ok, Err}
use Rattle.std.proofs.Common.{sym, ap, ap₂, subst, ◌∙◌, append-nil, div-add-mod', le_refl, arith, ltb-true, ltb-false, lt-ltb, length-append, take-append-drop, length-take-le, drop-drop}
use Rattle.std.proofs.Math.Seq.{take-append_seam, drop-append_seam}
use Rattle.refusals.specs.declared.Refusal.{Refusal}
use Rattle.fields.specs.declared.FieldKind.{FieldKind}
use Rattle.fields.specs.Start.{tag_of, is_leaf, field_bytes, length_allowed, depth_allowed, judged, start_of}
use Rattle.fields.specs.Run.{Field, Scan, Fields, Refused, ◌and_then◌, inside, step, scan, run_of, sheet_of}
use Rattle.fields.specs.Laws.{StartView, header}
use Rattle.fields.proofs.Laws.{start_view, end_empty, run_step}
use Rattle.fields.specs.AndThenLemmas.{nothing-after}
use Rattle.fields.proofs.Limits.{longer, not_longer}
use Rattle.fields.specs.Grammar.{Trees, bytes_of, fields_of, Bytes, Allowed, known-tag, judged-field, bytes_append, bytes_take, bytes_drop, tag-known, FirstField, Both, both, WrittenBy, Reads, no_more, leaf, group, no_byte, byte, no_more_allowed, leaf_allowed, group_allowed}

module _ (d p : ℕ) (k : FieldKind) (c rest : List ℕ) (long : length_allowed k (length c) ≡ true) (deep : depth_allowed k d ≡ true) where
  start-written : start_of d (field_bytes k c ++ rest) ≡ Ok (Some (k, length c))
  start-written =
      let all : length (c ++ rest) ≡ length c + length rest = length-append c rest in
      ap₂ (λ (t : Option FieldKind) (n : ℕ). judged t n (length (c ++ rest)) d) (known-tag k) (div-add-mod' (length c) 256)
      ∙ judged-field k (length c) (length (c ++ rest)) d (omega arith) long deep

  -- Its run is the field, its inside, then the rest.
  pub run_written : run_of d p (field_bytes k c ++ rest)
      ≡ Fields (record { place = p; depth = d; kind = k; content = c } ∷ []) and_then inside run_of k d p c and_then run_of d (p + 3 + length c) rest
  run_written =
      run_step d p (field_bytes k c ++ rest)
      ∙ ap (step run_of d p (field_bytes k c ++ rest)) start-written
      ∙ ap₂ (λ (x y : List ℕ). Fields (record { place = p; depth = d; kind = k; content = x } ∷ []) and_then inside run_of k d p x and_then run_of d (p + 3 + length c) y)
      (take-append_seam c rest) (sym (drop-drop (length c) 3 (field_bytes k c ++ rest)) ∙ drop-append_seam c rest)

-- one field alone: the field, then its inside
pub run_one : (d p : ℕ) (k : FieldKind) (c : List ℕ) → length_allowed k (length c) ≡ true → depth_allowed k d ≡ true
    → run_of d p (field_bytes k c) ≡ Fields (record { place = p; depth = d; kind = k; content = c } ∷ []) and_then inside run_of k d p c
run_one d p k c long deep =
    ap (run_of d p) (sym (append-nil (field_bytes k c)))
    ∙ run_written d p k c [] long deep
    ∙ ap (λ (r : Scan). Fields (record { place = p; depth = d; kind = k; content = c } ∷ []) and_then inside run_of k d p c and_then r) (run_step d (p + 3 + length c) [])
    ∙ ap (λ (r : Scan). Fields (record { place = p; depth = d; kind = k; content = c } ∷ []) and_then r) (nothing-after (inside run_of k d p c))

leaf_inside : (k : FieldKind) (d p : ℕ) (c : List ℕ) → is_leaf k ≡ true → inside run_of k d p c ≡ Fields []
leaf_inside k d p c plain = ap (λ (b : Bool). cond b (Fields []) (run_of (suc d) (p + 3) c)) plain

leaf_deep : (k : FieldKind) (d : ℕ) → is_leaf k ≡ true → depth_allowed k d ≡ true
leaf_deep k d plain = ap (λ (b : Bool). b || ltb d 4) plain

-- What is written is legal, and has the fields that were written.
pub written_legal : (d p : ℕ) (ts : Trees) → Allowed d ts → run_of d p (bytes_of ts) ≡ Fields (fields_of d p ts)
unfolding scan
written_legal d p no_more no_more_allowed = refl
written_legal d p (leaf k c ts) (leaf_allowed plain long short b rest) =
    run_written d p k c (bytes_of ts) long (leaf_deep k d plain)
    ∙ ap₂ (λ (i r : Scan). Fields (record { place = p; depth = d; kind = k; content = c } ∷ []) and_then i and_then r) (leaf_inside k d p c plain)
    (written_legal d (p + 3 + length c) ts rest)
written_legal d p (group us ts) (group_allowed deep short inner rest) =
    run_written d p FieldKind.Group (bytes_of us) (bytes_of ts) refl (lt-ltb d 4 deep)
    ∙ ap₂ (λ (i r : Scan). Fields (record { place = p; depth = d; kind = FieldKind.Group; content = bytes_of us } ∷ []) and_then i and_then r)
    (written_legal (suc d) (p + 3) us inner) (written_legal d (p + 3 + length (bytes_of us)) ts rest)

pub bytes_written : (k : FieldKind) (c rest : List ℕ) → length c < 0x10000 → Bytes c → Bytes rest → Bytes (field_bytes k c ++ rest)
bytes_written k c rest short b r =
    let high : length c / 256 < 256 = omega arith in
    let low : length c % 256 < 256 = omega arith in
    byte (tag k) (byte high (byte low (bytes_append b r)))
  where
    tag : (k : FieldKind) → tag_of k < 256
    tag FieldKind.Word = omega arith
    tag FieldKind.Figure = omega arith
    tag FieldKind.Note = omega arith
    tag FieldKind.Group = omega arith

-- And it consists of bytes.
pub written_bytes : (d : ℕ) (ts : Trees) → Allowed d ts → Bytes (bytes_of ts)
written_bytes d no_more no_more_allowed = no_byte
written_bytes d (leaf k c ts) (leaf_allowed plain long short b rest) = bytes_written k c (bytes_of ts) short b (written_bytes d ts rest)
written_bytes d (group us ts) (group_allowed deep short inner rest) =
    bytes_written FieldKind.Group (bytes_of us) (bytes_of ts) short (written_bytes (suc d) us inner) (written_bytes d ts rest)

pub first_field : (d : ℕ) (bs : List ℕ) (k : FieldKind) (n : ℕ) → Bytes bs → StartView d bs (Ok (Some (k, n))) → FirstField d k bs
first_field d _ k n no_byte v = elim v [ ]
first_field d _ k n (byte {b = t} ht no_byte) v = elim v [ ]
first_field d _ k n (byte {b = t} ht (byte hh no_byte)) v = elim v [ ]
first_field d bs k n (byte ht (byte hh (byte hl b))) (header t h l w j known room long deep) =
    let size : length (take n w) ≡ n = length-take-le n w room in
    let high : h ≡ length (take n w) / 256 = omega arith in
    let low : l ≡ length (take n w) % 256 = omega arith in
    record {
      content = take n w;
      rest = drop n w;
      whole = λ i. tag-known t k known i ∷ high i ∷ low i ∷ sym (take-append-drop n w) i;
      long = ap (length_allowed k) size ∙ long;
      deep = deep;
      short = omega arith;
      content_bytes = bytes_take n b;
      rest_bytes = bytes_drop n b;
    }

-- a field before a list of fields: a leaf as it is, a group by the list of fields that it holds
module _ (d p : ℕ) (c rest : List ℕ) (fs : List Field) (short : length c < 0x10000) where
  read_leaf : (k : FieldKind) → is_leaf k ≡ true → length_allowed k (length c) ≡ true → Bytes c
      → (b : Both (record { place = p; depth = d; kind = k; content = c }) (inside run_of k d p c) (run_of d (p + 3 + length c) rest) fs)
      → WrittenBy d (p + 3 + length c) rest b.after → WrittenBy d p (field_bytes k c ++ rest) fs
  read_leaf k plain long cb b w =
      let none : Fields [] ≡ Fields b.inner = sym (leaf_inside k d p c plain) ∙ b.inside_legal in
      let empty : [] ≡ b.inner = cc in
      record {
        trees = leaf k c w.trees;
        allowed = leaf_allowed plain long short cb w.allowed;
        bytes = ap (λ (y : List ℕ). field_bytes k c ++ y) w.bytes;
        fields =
            ap₂ (λ (x y : List Field). record { place = p; depth = d; kind = k; content = c } ∷ (x ++ y)) empty w.fields ∙ sym b.all;
      }

  read_group : depth_allowed FieldKind.Group d ≡ true
      → (b : Both (record { place = p; depth = d; kind = FieldKind.Group; content = c }) (run_of (suc d) (p + 3) c) (run_of d (p + 3 + length c) rest) fs)
      → WrittenBy (suc d) (p + 3) c b.inner → WrittenBy d (p + 3 + length c) rest b.after → WrittenBy d p (field_bytes FieldKind.Group c ++ rest) fs
  read_group deep b u w =
      let same : length (bytes_of u.trees) ≡ length c = ap length u.bytes in
      record {
        trees = group u.trees w.trees;
        allowed = group_allowed {us = u.trees} {ts = w.trees} (ltb-true d 4 deep) (omega arith) u.allowed w.allowed;
        bytes = ap₂ (λ (x y : List ℕ). field_bytes FieldKind.Group x ++ y) u.bytes w.bytes;
        fields =
            ap₂ (λ (x : List ℕ) (y : List Field). record { place = p; depth = d; kind = FieldKind.Group; content = x } ∷ (y ++ fields_of d (p + 3 + length x) w.trees)) u.bytes u.fields
            ∙ ap (λ (z : List Field). record { place = p; depth = d; kind = FieldKind.Group; content = c } ∷ (b.inner ++ z)) w.fields
            ∙ sym b.all;
      }

reads_step : (m : ℕ) → Reads m → Reads (suc m)
reads_step m shorter d p bs h b fs e = by (start_of d bs) refl (start_view d bs) (sym (run_step d p bs) ∙ e)
  where
    field : (k : FieldKind) → FirstField d k bs → WrittenBy d p bs fs
    field k f =
        let c = f.content in
        let size : length bs ≡ 3 + (length c + length f.rest) = ap length f.whole ∙ ap (λ (n : ℕ). suc (suc (suc n))) (length-append c f.rest) ∙ omega arith in
        let restFits : length f.rest ≤ m = omega arith in
        let contentFits : length c ≤ m = omega arith in
        let parts = both _ _ _ fs (sym (run_written d p k c f.rest f.long f.deep) ∙ ap (run_of d p) (sym f.whole) ∙ e) in
        let w = shorter d (p + 3 + length c) f.rest restFits f.rest_bytes parts.after parts.rest_legal in
        subst (λ (xs : List ℕ). WrittenBy d p xs fs) (sym f.whole) (of_kind k f parts w contentFits)
      where
        of_kind : (k : FieldKind) (f : FirstField d k bs)
            → (parts : Both (record { place = p; depth = d; kind = k; content = f.content }) (inside run_of k d p f.content) (run_of d (p + 3 + length f.content) f.rest) fs)
            → WrittenBy d (p + 3 + length f.content) f.rest parts.after → length f.content ≤ m → WrittenBy d p (field_bytes k f.content ++ f.rest) fs
        of_kind FieldKind.Word f parts w h = read_leaf d p f.content f.rest fs f.short FieldKind.Word refl f.long f.content_bytes parts w
        of_kind FieldKind.Figure f parts w h = read_leaf d p f.content f.rest fs f.short FieldKind.Figure refl f.long f.content_bytes parts w
        of_kind FieldKind.Note f parts w h = read_leaf d p f.content f.rest fs f.short FieldKind.Note refl f.long f.content_bytes parts w
        of_kind FieldKind.Group f parts w h =
            read_group d p f.content f.rest fs f.short f.deep parts (shorter (suc d) (p + 3) f.content h f.content_bytes parts.inner parts.inside_legal) w

    by : (s : Result (Option (FieldKind × ℕ)) Refusal) → start_of d bs ≡ s → StartView d bs s → step run_of d p bs s ≡ Fields fs → WrittenBy d p bs fs
    by (Ok None) s v e = record { trees = no_more; allowed = no_more_allowed; bytes = sym (end_empty d bs s); fields = cc }
    by (Err f) s v e = let z : ◌≡◌ {A = ℕ} 0 1 = cc in absurd (omega arith)
    by (Ok (Some (k, n))) s v e = field k (first_field d bs k n b v)

reads : (m : ℕ) → Reads m
reads zero d p [] h b fs e = record { trees = no_more; allowed = no_more_allowed; bytes = refl; fields = cc (sym (run_step d p []) ∙ e) }
reads zero d p (x ∷ bs) h b fs e = absurd (omega arith)
reads (suc m) d p bs h b fs e = reads_step m (reads m) d p bs h b fs e

-- Each legal run of bytes was written so, and its fields are those that were written.
pub legal_written : (d p : ℕ) (bs : List ℕ) → Bytes bs → (fs : List Field) → run_of d p bs ≡ Fields fs → WrittenBy d p bs fs
legal_written d p bs b fs e = reads (length bs) d p bs (le_refl _) b fs e

-- What is written within the limit is a legal sheet of bytes.
pub sheet_written : (ts : Trees) → Allowed 1 ts → length (bytes_of ts) ≤ 32768 → sheet_of (bytes_of ts) ≡ Fields (fields_of 1 0 ts)
sheet_written ts a h = not_longer (bytes_of ts) h ∙ written_legal 1 0 ts a

-- Each legal sheet of bytes is within the limit and was written so.
pub written_sheet : (bs : List ℕ) → Bytes bs → (fs : List Field) → sheet_of bs ≡ Fields fs → (length bs ≤ 32768) × WrittenBy 1 0 bs fs
written_sheet bs b fs e = by (ltb 32768 (length bs)) refl
  where
    by : (long : Bool) → ltb 32768 (length bs) ≡ long → (length bs ≤ 32768) × WrittenBy 1 0 bs fs
    by true eb = let bad : Refused Refusal.Oversize 0 ≡ Fields fs = sym (longer bs (ltb-true _ _ eb)) ∙ e in let z : ◌≡◌ {A = ℕ} 0 1 = cc in absurd (omega arith)
    by false eb = let short : length bs ≤ 32768 = ltb-false _ _ eb in (short, legal_written 1 0 bs b fs (sym (not_longer bs short) ∙ e))
