-- Why a run of bytes is judged by its rules: what stands at its start follows the rules of a field, and a run is refused where they say.
-- Assumes nothing.
use Rattle.std.specs.Prelude.{◌≡◌, refl, Bool, true, false, cond, List, [], ◌∷◌, ◌++◌, ◌↔◌, ℕ, zero, suc, ◌+◌, ◌*◌, ◌≤◌, ◌<◌, ltb, length, Option, Some, None, Result, Ok, Err}
use Rattle.std.proofs.Common.{sym, ap, subst, ◌∙◌, append-nil, le_refl, add-zero, arith, eqb-true, eq-eqb, ltb-true, ltb-false, lt-ltb, length-append}
use Rattle.refusals.specs.Order.{asks, Follows, no_rules}
use Rattle.refusals.proofs.Order.{kept-one, broken_one, tested}
use Rattle.refusals.specs.declared.Refusal.{Refusal}
use Rattle.fields.specs.declared.FieldKind.{FieldKind}
use Rattle.fields.specs.Start.{tag_of, field_bytes, kind_of_tag, length_allowed, depth_allowed, judged, start_of}
use Rattle.fields.specs.Run.{Field, Scan, Fields, Refused, ◌and_then◌, inside, step, run_of}
use Rattle.fields.specs.Laws.{StartView, refused}
use Rattle.fields.proofs.Laws.{start_view, run_step}
use Rattle.fields.proofs.Append.{append}
use Rattle.fields.specs.Grammar.{Trees, no_more, bytes_of, fields_of, Bytes, no_byte, Allowed, no_more_allowed, tag-known, FirstField}
use Rattle.fields.proofs.Grammar.{run_written, run_one, written_legal, bytes_written, first_field, legal_written}
use Rattle.fields.specs.Answers.{started}
use Rattle.fields.specs.Rules.{field_rules, RefusedAt, breaks_rule, in_group}
use Rattle.fields.specs.RulesLemmas.{AmongTags, among_tags, unknown, last_rules, content_rules, joined, joined_allowed, front, offset, Finds}

length_test : (k : FieldKind) (t n : ℕ) → t ≡ tag_of k → (length_allowed k n ≡ true) ↔ ((t ≡ 0x10 → n ≡ 4) × (t ≡ 0x11 → n ≡ 9))
length_test FieldKind.Word t n e = (λ h. (λ g. eqb-true n 4 h, λ g. absurd (omega arith)), λ h. eq-eqb n 4 (h.0 e))
length_test FieldKind.Figure t n e = (λ h. (λ g. absurd (omega arith), λ g. eqb-true n 9 h), λ h. eq-eqb n 9 (h.1 e))
length_test FieldKind.Note t n e = (λ h. (λ g. absurd (omega arith), λ g. absurd (omega arith)), λ h. refl)
length_test FieldKind.Group t n e = (λ h. (λ g. absurd (omega arith), λ g. absurd (omega arith)), λ h. refl)

depth_test : (k : FieldKind) (t d : ℕ) → t ≡ tag_of k → (depth_allowed k d ≡ true) ↔ (t ≡ 0x20 → d < 4)
depth_test FieldKind.Word t d e = (λ h g. absurd (omega arith), λ h. refl)
depth_test FieldKind.Figure t d e = (λ h g. absurd (omega arith), λ h. refl)
depth_test FieldKind.Note t d e = (λ h g. absurd (omega arith), λ h. refl)
depth_test FieldKind.Group t d e = (λ h g. ltb-true d 4 h, λ h. lt-ltb d 4 (h e))

module _ (d t n left : ℕ) where
  last_follow : (k : FieldKind) → t ≡ tag_of k
      → Follows started (last_rules d t n) (cond {A = Result (Option (FieldKind × ℕ)) Refusal} (length_allowed k n) (cond (depth_allowed k d) (Ok (Some (k, n))) (Err Refusal.Depth)) (Err Refusal.Length))
  last_follow k own =
      let size = length_test k t n own in
      let deep = depth_test k t d own in
      tested started (length_allowed k n) ((t ≡ 0x10 → n ≡ 4) × (t ≡ 0x11 → n ≡ 9)) Refusal.Length _ _ size.0 size.1
      (λ s. tested started (depth_allowed k d) (t ≡ 0x20 → d < 4) Refusal.Depth [] _ deep.0 deep.1 (λ g. no_rules started (Ok (Some (k, n))) (k, n, refl)))

  content_follows : (k : FieldKind) → t ≡ tag_of k → (cut : Bool) → ltb left n ≡ cut
      → Follows started (content_rules d t n left)
      (cond {A = Result (Option (FieldKind × ℕ)) Refusal} cut (Err Refusal.Truncated) (cond (length_allowed k n) (cond (depth_allowed k d) (Ok (Some (k, n))) (Err Refusal.Depth)) (Err Refusal.Length)))
  content_follows k own true e = let past : left < n = ltb-true _ _ e in broken_one started (3 + n ≤ suc (suc (suc left))) Refusal.Truncated _ (λ r. omega arith)
  content_follows k own false e = let room : n ≤ left = ltb-false _ _ e in kept-one started (3 + n ≤ suc (suc (suc left))) Refusal.Truncated _ _ (omega arith) (last_follow k own)

  judged_follows : (tag : Option FieldKind) → kind_of_tag t ≡ tag → Follows started (asks (AmongTags t) Refusal.Tag ∷ content_rules d t n left) (judged tag n left d)
  judged_follows None e = broken_one started (AmongTags t) Refusal.Tag _ (unknown t e)
  judged_follows (Some k) e =
      let own : t ≡ tag_of k = tag-known t k e in
      kept-one started (AmongTags t) Refusal.Tag _ _ (among_tags k t own) (content_follows k own (ltb left n) refl)

pub start_follows : (d : ℕ) (bs : List ℕ) → 0 < length bs → Follows started (field_rules d bs) (start_of d bs)
start_follows d [] some = absurd (omega arith)
start_follows d (t ∷ []) some = broken_one started _ Refusal.Truncated _ (λ h. omega arith)
start_follows d (t ∷ h ∷ []) some = broken_one started _ Refusal.Truncated _ (λ h. omega arith)
start_follows d (t ∷ h ∷ l ∷ w) some = kept-one started _ Refusal.Truncated _ _ (omega arith) (judged_follows d t (h * 256 + l) (length w) (kind_of_tag t) refl)

pub refused_so : {d p q : ℕ} {bs : List ℕ} {f : Refusal} → RefusedAt d p bs f q → run_of d p bs ≡ Refused f q
refused_so {d} {p} {q} {bs} {f} (breaks_rule before rest legal some broken) =
    append d p (bytes_of before) rest (fields_of d p before) (written_legal d p before legal)
    ∙ ap (λ (r : Scan). Fields (fields_of d p before) and_then r)
    (run_step d (p + length (bytes_of before)) rest
    ∙ ap (step run_of d (p + length (bytes_of before)) rest) (((start_follows d rest some).refused f).1 broken))
refused_so {d} {p} {q} {bs} {f} (in_group before content rest legal deep inner) =
    let at : ℕ = p + length (bytes_of before) in
    append d p (bytes_of before) (field_bytes FieldKind.Group content ++ rest) (fields_of d p before) (written_legal d p before legal)
    ∙ ap (λ (r : Scan). Fields (fields_of d p before) and_then r)
    (run_written d at FieldKind.Group content rest refl (lt-ltb d 4 deep)
    ∙ ap (λ (i : Scan). Fields (record { place = at; depth = d; kind = FieldKind.Group; content = content } ∷ []) and_then i and_then run_of d (at + 3 + length content) rest) (refused_so inner))

module _ (d p : ℕ) (ts : Trees) (legal : Allowed d ts) where
  after_legal : (at : ℕ) → at ≡ p + length (bytes_of ts) → (rest : List ℕ) (f : Refusal) (q : ℕ) → RefusedAt d at rest f q → RefusedAt d p (bytes_of ts ++ rest) f q
  after_legal at e rest f q (breaks_rule before left allowed some broken) =
      subst (λ (xs : List ℕ). RefusedAt d p xs f (at + length (bytes_of before))) ((front d p ts legal) before left)
      (subst (λ (r : ℕ). RefusedAt d p (bytes_of (joined ts before) ++ left) f r) ((offset d p ts legal) before at e)
      (breaks_rule (joined ts before) left (joined_allowed d ts before legal allowed) some broken))
  after_legal at e rest f q (in_group before content left allowed deep inner) =
      subst (λ (xs : List ℕ). RefusedAt d p xs f q) ((front d p ts legal) before (field_bytes FieldKind.Group content ++ left))
      (in_group (joined ts before) content left (joined_allowed d ts before legal allowed) deep
      (subst (λ (r : ℕ). RefusedAt (suc d) (r + 3) content f q) (sym ((offset d p ts legal) before at e)) inner))

module _ (m : ℕ) (shorter : Finds m) (d p : ℕ) (f : Refusal) (q : ℕ) where
  -- nothing before the field
  here : (bs : List ℕ) → 0 < length bs → start_of d bs ≡ Err f → p ≡ q → RefusedAt d p bs f q
  here bs some e same =
      subst (λ (r : ℕ). RefusedAt d p bs f r) (add-zero p ∙ same) (breaks_rule no_more bs no_more_allowed some (((start_follows d bs some).refused f).0 e))

  within : (k : FieldKind) (c rest : List ℕ) → depth_allowed k d ≡ true → length c ≤ m → Bytes c → inside run_of k d p c ≡ Refused f q → RefusedAt d p (field_bytes k c ++ rest) f q
  within FieldKind.Word c rest deep h b e = let z : ◌≡◌ {A = ℕ} 0 1 = cc in absurd (omega arith)
  within FieldKind.Figure c rest deep h b e = let z : ◌≡◌ {A = ℕ} 0 1 = cc in absurd (omega arith)
  within FieldKind.Note c rest deep h b e = let z : ◌≡◌ {A = ℕ} 0 1 = cc in absurd (omega arith)
  within FieldKind.Group c rest deep h b e =
      in_group no_more c rest no_more_allowed (ltb-true d 4 deep)
      (subst (λ (r : ℕ). RefusedAt (suc d) (r + 3) c f q) (sym (add-zero p)) (shorter (suc d) (p + 3) c h b f q e))

  -- a legal field before the rest
  past : (k : FieldKind) (c rest : List ℕ) (gs : List Field) → length_allowed k (length c) ≡ true → depth_allowed k d ≡ true → length c < 0x10000 → Bytes c → inside run_of k d p c ≡ Fields gs
      → RefusedAt d (p + 3 + length c) rest f q → RefusedAt d p (field_bytes k c ++ rest) f q
  past k c rest gs long deep short b e r =
      let one = legal_written d p (field_bytes k c) (subst Bytes (append-nil (field_bytes k c)) (bytes_written k c [] short b no_byte)) (record { place = p; depth = d; kind = k; content = c } ∷ gs)
      (run_one d p k c long deep ∙ ap (λ (i : Scan). Fields (record { place = p; depth = d; kind = k; content = c } ∷ []) and_then i) e) in
      let size : length (bytes_of one.trees) ≡ suc (suc (suc (length c))) = ap length one.bytes in
      let at : p + 3 + length c ≡ p + length (bytes_of one.trees) = omega arith in
      subst (λ (xs : List ℕ). RefusedAt d p (xs ++ rest) f q) one.bytes (after_legal d p one.trees one.allowed (p + 3 + length c) at rest f q r)

  parts : (k : FieldKind) (bs : List ℕ) (x : FirstField d k bs) → length bs ≤ suc m → (i r : Scan)
      → inside run_of k d p x.content ≡ i → run_of d (p + 3 + length x.content) x.rest ≡ r
      → Fields (record { place = p; depth = d; kind = k; content = x.content } ∷ []) and_then i and_then r ≡ Refused f q
      → RefusedAt d p (field_bytes k x.content ++ x.rest) f q
  parts k bs x h i r ei er e = by i r ei er e
    where
      size : length bs ≡ 3 + (length x.content + length x.rest)
      size = ap length x.whole ∙ ap (λ (n : ℕ). suc (suc (suc n))) (length-append x.content x.rest) ∙ omega arith

      by : (i r : Scan) → inside run_of k d p x.content ≡ i → run_of d (p + 3 + length x.content) x.rest ≡ r
          → Fields (record { place = p; depth = d; kind = k; content = x.content } ∷ []) and_then i and_then r ≡ Refused f q
          → RefusedAt d p (field_bytes k x.content ++ x.rest) f q
      by (Refused g s) r ei er e = within k x.content x.rest x.deep (omega (arith, size, h)) x.content_bytes (ei ∙ e)
      by (Fields gs) (Refused g s) ei er e =
          past k x.content x.rest gs x.long x.deep x.short x.content_bytes ei
          (shorter d (p + 3 + length x.content) x.rest (omega (arith, size, h)) x.rest_bytes f q (er ∙ e))
      by (Fields gs) (Fields hs) ei er e = let z : ◌≡◌ {A = ℕ} 0 1 = cc in absurd (omega arith)

  at-start : (bs : List ℕ) → length bs ≤ suc m → Bytes bs → run_of d p bs ≡ Refused f q → (s : Result (Option (FieldKind × ℕ)) Refusal) → start_of d bs ≡ s → StartView d bs s → RefusedAt d p bs f q
  at-start bs h b e (Ok None) es v = let none : Fields [] ≡ Refused f q = sym (run_step d p bs ∙ ap (step run_of d p bs) es) ∙ e in let z : ◌≡◌ {A = ℕ} 0 1 = cc in absurd (omega arith)
  at-start bs h b e (Err g) es (refused g' xs number some) =
      let same : Refused g p ≡ Refused f q = sym (run_step d p bs ∙ ap (step run_of d p bs) es) ∙ e in
      let which : g ≡ f = cc in
      here bs some (es ∙ ap Err which) cc
  at-start bs h b e (Ok (Some (k, n))) es v =
      let x = first_field d bs k n b v in
      subst (λ (xs : List ℕ). RefusedAt d p xs f q) (sym x.whole)
      (parts k bs x h _ _ refl refl (sym (run_written d p k x.content x.rest x.long x.deep) ∙ ap (run_of d p) (sym x.whole) ∙ e))

finds : (m : ℕ) → Finds m
finds zero d p [] h b f q e = let none : Fields [] ≡ Refused f q = sym (run_step d p []) ∙ e in let z : ◌≡◌ {A = ℕ} 0 1 = cc in absurd (omega arith)
finds zero d p (x ∷ bs) h b f q e = absurd (omega arith)
finds (suc m) d p bs h b f q e = at-start m (finds m) d p f q bs h b e (start_of d bs) refl (start_view d bs)

pub refused-only_so : (d p : ℕ) (bs : List ℕ) → Bytes bs → (f : Refusal) (q : ℕ) → run_of d p bs ≡ Refused f q → RefusedAt d p bs f q
refused-only_so d p bs b f q e = finds (length bs) d p bs (le_refl _) b f q e
