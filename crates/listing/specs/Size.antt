-- How long a listing is at most: a word field has 7 bytes and a line of 25 at most, so the text of a whole sheet stays below 2^17 bytes.
-- Assumes nothing.
use Rattle.std.specs.Prelude.{◌≡◌, refl, Bool, true, false, cond, List, [], ◌∷◌, ◌++◌, ℕ, zero, suc, ◌+◌, ◌*◌, ◌-◌, ◌^◌, ◌≤◌, ◌<◌, eqb, ltb, ℤ, length, take, drop, Option, Ok, Err, Some, None, Result}
use Rattle.std.proofs.Common.{sym, ap, ◌∙◌, ⊎_elim, zero-le, arith, eqb-true, ltb-true, ltb-false, length-append, length-drop, length-take-le}
use Rattle.refusals.specs.declared.Refusal.{Refusal}
use Rattle.fields.specs.declared.FieldKind.{FieldKind}
use Rattle.fields.specs.Start.{is_leaf, start_of}
use Rattle.fields.specs.Run.{Field, Scan, Fields, Refused, ◌and_then◌, inside, step, scan, run_of, sheet_of}
use Rattle.fields.proofs.Laws.{whole-field}
use Rattle.fields.proofs.Limits.{not_longer, longer, sheet_refusal}
use Rattle.contents.specs.BigEndian.{value_of}
use Rattle.contents.specs.Contents.{word_in, figure_in}
use Rattle.verdicts.specs.Verdicts.{verdict_of}
use Rattle.word_lines.specs.Lengths.{word_line_length}
use Rattle.lines.specs.Lengths.{verdict_line_length}
use Rattle.totals.specs.Totals.{is_word, words_in}
use Rattle.listing.specs.Listing.{previous, after, line_of_word, line_of_figure, line_of, lines_of}

-- ---- the bytes of a sheet that are a field's own: all of it, or a group's header

abbrev pub own : FieldKind → List ℕ → ℕ
own k c = cond (is_leaf k) (3 + length c) 3

abbrev pub owned : List Field → ℕ
owned [] = 0
owned (f ∷ fs) = own f.kind f.content + owned fs

abbrev owned_in : Scan → ℕ
owned_in (Fields fs) = owned fs
owned_in (Refused f p) = 0

owned-append : (fs gs : List Field) → owned (fs ++ gs) ≡ owned fs + owned gs
owned-append [] gs = omega arith
owned-append (f ∷ fs) gs = let rest : owned (fs ++ gs) ≡ owned fs + owned gs = owned-append fs gs in omega arith

both_owned : (a b : Scan) → owned_in (a and_then b) ≤ owned_in a + owned_in b
both_owned (Fields fs) (Fields gs) = let sum : owned (fs ++ gs) ≡ owned fs + owned gs = owned-append fs gs in omega arith
both_owned (Fields fs) (Refused f p) = zero-le
both_owned (Refused f p) b = zero-le

-- a field's own bytes and those of its inside lie in the field
field-owned : (run : ℕ → ℕ → List ℕ → Scan) (k : FieldKind) (d p : ℕ) (c : List ℕ) → owned_in (run (suc d) (p + 3) c) ≤ length c → own k c + owned_in (inside run k d p c) ≤ 3 + length c
field-owned run FieldKind.Word d p c h = omega arith
field-owned run FieldKind.Figure d p c h = omega arith
field-owned run FieldKind.Note d p c h = omega arith
field-owned run FieldKind.Group d p c h = omega arith

-- one step, where shorter runs own no more than their bytes
step-owned : (run : ℕ → ℕ → List ℕ → Scan) → ((d p : ℕ) (bs : List ℕ) → owned_in (run d p bs) ≤ length bs) → (d p : ℕ) (bs : List ℕ) (s : Result (Option (FieldKind × ℕ)) Refusal) → start_of d bs ≡ s
    → owned_in (step run d p bs s) ≤ length bs
step-owned run h d p bs (Ok None) e = zero-le
step-owned run h d p bs (Err f) e = zero-le
step-owned run h d p bs (Ok (Some (j, n))) e =
    let c : List ℕ = take n (drop 3 bs) in
    let rest : List ℕ = drop (3 + n) bs in
    let room : 3 + n ≤ length bs = (whole-field d bs j n e).room in
    let left : length (drop (3 + n) bs) ≡ length bs - (3 + n) = length-drop (3 + n) bs in
    let after : length (drop 3 bs) ≡ length bs - 3 = length-drop 3 bs in
    let long : length (take n (drop 3 bs)) ≡ n = length-take-le n (drop 3 bs) (omega arith) in
    omega (
      arith,
      both_owned (Fields (record { place = p; depth = d; kind = j; content = c } ∷ [])) (inside run j d p c and_then run d (p + 3 + n) rest),
      both_owned (inside run j d p c) (run d (p + 3 + n) rest),
      field-owned run j d p c (h (suc d) (p + 3) c),
      h d (p + 3 + n) rest,
      left,
      long,
      room,
    )

-- no byte is two fields' own
scan-owned : (k d p : ℕ) (bs : List ℕ) → owned_in (scan k d p bs) ≤ length bs
unfolding scan
scan-owned zero d p bs = zero-le
scan-owned (suc k) d p bs = step-owned (scan k) (scan-owned k) d p bs (start_of d bs) refl

-- so the fields of a sheet own no more bytes than a sheet may have
pub fields_owned : (s : List ℕ) (fs : List Field) → sheet_of s ≡ Fields fs → owned fs ≤ 32768
fields_owned s fs e = at (ltb 32768 (length s)) refl
  where
    at : (b : Bool) → ltb 32768 (length s) ≡ b → owned fs ≤ 32768
    at true l = let clash : Refused Refusal.Oversize 0 ≡ Fields fs = sym (longer s (ltb-true 32768 (length s) l)) ∙ e in let z : ◌≡◌ {A = ℕ} 0 1 = cc in absurd (omega arith)
    at false l =
        let few : length s ≤ 32768 = ltb-false 32768 (length s) l in
        let run : run_of 1 0 s ≡ Fields fs = sym (not_longer s few) ∙ e in
        let mine : owned_in (run_of 1 0 s) ≤ length s = scan-owned (length s) 1 0 s in
        let same : owned_in (run_of 1 0 s) ≡ owned fs = ap owned_in run in
        omega arith

-- the refusal of a sheet is one line, with an offset below 2^64
pub refusal_short : (s : List ℕ) (f : Refusal) (p : ℕ) → sheet_of s ≡ Refused f p → p < 2 ^ 64
refusal_short s f p e = ⊎_elim (λ a. omega (arith, a.2)) (λ b. omega (arith, b.0, b.1.offset.1)) (sheet_refusal s f p e)

-- ---- a line for each field that has one

word_short : (c : List ℕ) → 7 * length (line_of_word (word_in c)) ≤ 25 * (3 + length c)
word_short c = by (eqb (length c) 4) refl
  where
    by : (b : Bool) → eqb (length c) 4 ≡ b → 7 * length (line_of_word (cond b (Ok (value_of c)) (Err Refusal.Length))) ≤ 25 * (3 + length c)
    by true e = let four : length c ≡ 4 = eqb-true (length c) 4 e in omega (arith, word_line_length (value_of c))
    by false e = zero-le

figure_by : (p : Option ℕ) (c : List ℕ) (l : ℕ) (m : ℤ) (b : Bool) → eqb (length c) 9 ≡ b
    → 7 * length (line_of_figure p (cond b (Ok (l, m)) (Err Refusal.Length))) ≤ 25 * (3 + length c)
figure_by p c l m true e = let nine : length c ≡ 9 = eqb-true (length c) 9 e in omega (arith, verdict_line_length (verdict_of p l m))
figure_by p c l m false e = zero-le

figure_short : (p : Option ℕ) (c : List ℕ) → 7 * length (line_of_figure p (figure_in c)) ≤ 25 * (3 + length c)
figure_short p c = figure_by p c _ _ (eqb (length c) 9) refl

line_short : (b : Option (ℕ × ℕ)) (k : FieldKind) (d : ℕ) (c : List ℕ) → 7 * length (line_of b k d c) ≤ 25 * own k c
line_short b FieldKind.Word d c = word_short c
line_short b FieldKind.Figure d c = figure_short (previous b d) c
line_short b FieldKind.Note d c = zero-le
line_short b FieldKind.Group d c = zero-le

pub lines_short : (b : Option (ℕ × ℕ)) (fs : List Field) → 7 * length (lines_of b fs) ≤ 25 * owned fs
lines_short b [] = zero-le
lines_short b (f ∷ fs) =
    let line : List ℕ = line_of b f.kind f.depth f.content in
    let rest : List ℕ = lines_of (after f.kind f.depth f.content) fs in
    let sum : length (line ++ rest) ≡ length line + length rest = length-append line rest in
    omega (arith, line_short b f.kind f.depth f.content, lines_short (after f.kind f.depth f.content) fs)

-- ---- the totals

word-own : (k : FieldKind) (c : List ℕ) → is_word k ≤ own k c
word-own FieldKind.Word c = omega arith
word-own FieldKind.Figure c = zero-le
word-own FieldKind.Note c = zero-le
word-own FieldKind.Group c = zero-le

pub words_few : (fs : List Field) → words_in fs ≤ owned fs
words_few [] = zero-le
words_few (f ∷ fs) = omega (arith, word-own f.kind f.content, words_few fs)

-- ---- the whole text

-- The listing of every sheet has at most 117,085 bytes.
abbrev pub longest : ℕ
longest = 117085
