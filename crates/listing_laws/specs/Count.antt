-- A listing ends with its total, and has one line for each word field and each figure field, and one for the total.
-- Assumes nothing.
use Rattle.std.specs.Prelude.{◌≡◌, refl, Bool, true, false, cond, List, [], ◌∷◌, ◌++◌, ℕ, zero, suc, ◌+◌, ◌/◌, ◌^◌, ◌<◌, eqb, ℤ, length, Option, Some, None, Result, Ok, Err}
use Rattle.std.proofs.Common.{ap, arith, ne_eqb, lit<}
use Rattle.std.proofs.lemmas.Bool.{false≢true}
use Rattle.refusals.specs.Numbers.{number_of}
use Rattle.refusals.specs.declared.Refusal.{Refusal}
use Rattle.statuses.specs.declared.Status.{Status}
use Rattle.fields.specs.declared.FieldKind.{FieldKind}
use Rattle.fields.specs.Run.{Field, Fields, sheet_of}
use Rattle.records.specs.declared.Record.{Record}
use Rattle.contents.specs.BigEndian.{value_of}
use Rattle.decode.specs.Decode.{decode_of}
use Rattle.verdicts.specs.declared.Verdict.{Verdict}
use Rattle.verdicts.specs.Verdicts.{verdict_of}
use Rattle.columns.specs.declared.Mark.{Mark}
use Rattle.columns.specs.declared.Figure.{Figure}
use Rattle.columns.specs.declared.Columns.{Columns}
use Rattle.columns.specs.Columns.{columns_of}
use Rattle.text.specs.Ascii.{ascii}
use Rattle.numerals.specs.Digits.{decimal, padded, octal3, fixed, sign}
use Rattle.numerals.specs.Theorems.{Digits, decimal-digits, padded-digits}
use Rattle.word_lines.specs.WordLines as words
use Rattle.lines.specs.Lines as lines
use Rattle.totals.specs.Totals.{words_in, refused_words_in}
use Rattle.listing.specs.Listing.{line_of_word, line_of_figure, lines_of, listing_of, text_of}

-- ---- what is counted

-- the line ends of a text
abbrev pub line_ends : List ℕ → ℕ
line_ends [] = 0
line_ends (c ∷ t) = cond (eqb c 10) 1 0 + line_ends t

-- the figure fields of a sheet
abbrev pub is_figure : FieldKind → ℕ
is_figure FieldKind.Word = 0
is_figure FieldKind.Figure = 1
is_figure FieldKind.Note = 0
is_figure FieldKind.Group = 0

abbrev pub figures_in : List Field → ℕ
figures_in [] = 0
figures_in (f ∷ fs) = is_figure f.kind + figures_in fs

-- ---- pieces of a line

pub ends_append : (s t : List ℕ) → line_ends (s ++ t) ≡ line_ends s + line_ends t
ends_append [] t = omega arith
ends_append (c ∷ s) t = let rest : line_ends (s ++ t) ≡ line_ends s + line_ends t = ends_append s t in omega arith

-- two texts without a line end, and one with a line end behind it
none_both : (s t : List ℕ) → line_ends s ≡ 0 → line_ends t ≡ 0 → line_ends (s ++ t) ≡ 0
none_both s t h k = omega (arith, ends_append s t)

one_end : (s : List ℕ) → line_ends s ≡ 0 → line_ends (s ++ ascii "\n") ≡ 1
one_end s h = omega (arith, ends_append s (ascii "\n"))

-- digits are no line ends
digits-none : (base : ℕ) (t : List ℕ) → Digits base t → line_ends t ≡ 0
digits-none base [] h = refl
digits-none base (d ∷ t) h =
    let here : ◌≡◌ {A = ℕ} (cond (eqb d 10) 1 0) 0 = ap (λ (b : Bool). cond {A = ℕ} b 1 0) (ne_eqb d 10 (λ e. omega (arith, h.0.0))) in
    let rest : line_ends t ≡ 0 = digits-none base t h.1 in
    omega arith

decimal-none : (n : ℕ) → line_ends (decimal n) ≡ 0
decimal-none n = digits-none 10 (decimal n) (decimal-digits n)

padded-none : (base places n : ℕ) → 0 < base → line_ends (padded base places n) ≡ 0
padded-none base places n h = digits-none base (padded base places n) (padded-digits base places n h)

fixed-none : (places n : ℕ) → line_ends (fixed places n) ≡ 0
fixed-none zero n = decimal-none n
fixed-none (suc places) n =
    none_both (decimal (n / 10 ^ suc places) ++ (46 ∷ [])) (padded 10 (suc places) n)
    (none_both (decimal (n / 10 ^ suc places)) (46 ∷ []) (decimal-none (n / 10 ^ suc places)) refl) (padded-none 10 (suc places) n (lit< tt))

sign-none : (b : Bool) → line_ends (sign b) ≡ 0
sign-none true = refl
sign-none false = refl

figure_none : (f : Option Figure) → line_ends (words.figure_text f) ≡ 0
figure_none (Some f) = none_both (sign f.negative) (fixed f.places f.size) (sign-none f.negative) (fixed-none f.places f.size)
figure_none None = refl

status_none : (s : Status) → line_ends (words.status_text s) ≡ 0
status_none Status.Failure = refl
status_none Status.NoData = refl
status_none Status.Test = refl
status_none Status.Ready = refl

mark_none : (m : Mark) → line_ends (words.mark_text m) ≡ 0
mark_none (Mark.Status s) = status_none s
mark_none (Mark.Part n) = none_both (ascii "part") (decimal n) refl (decimal-none n)

-- ---- each line has one line end

heading-none : (label source : ℕ) → line_ends (words.heading label source) ≡ 0
heading-none label source =
    none_both (octal3 label ++ ascii " " ++ decimal source) (ascii " ")
    (none_both (octal3 label ++ ascii " ") (decimal source) (none_both (octal3 label) (ascii " ") (padded-none 8 3 label (lit< tt)) refl) (decimal-none source))
    refl

word-one : (d : Result Record Refusal) (label : ℕ) → line_ends (words.decoded_line d label) ≡ 1
word-one (Err f) label =
    one_end (ascii "refused " ++ decimal (number_of f)) (none_both (ascii "refused ") (decimal (number_of f)) refl (decimal-none (number_of f)))
word-one (Ok r) label =
    let columns : Columns = columns_of r.body in
    let head : List ℕ = words.heading label r.source in
    one_end (words.marked label r.source columns.mark ++ words.figure_text columns.figure)
    (none_both (words.marked label r.source columns.mark) (words.figure_text columns.figure)
    (none_both (head ++ words.mark_text columns.mark) (ascii " ")
    (none_both head (words.mark_text columns.mark) (heading-none label r.source) (mark_none columns.mark)) refl)
    (figure_none columns.figure))

verdict_one : (v : Verdict) → line_ends (lines.verdict_line v) ≡ 1
verdict_one Verdict.Agrees = refl
verdict_one Verdict.Differs = refl
verdict_one Verdict.Unmatched = refl

pub total-one : (words refused : ℕ) → line_ends (lines.total_line words refused) ≡ 1
total-one words refused =
    one_end ((ascii "words " ++ decimal words) ++ (ascii " refused " ++ decimal refused))
    (none_both (ascii "words " ++ decimal words) (ascii " refused " ++ decimal refused)
    (none_both (ascii "words ") (decimal words) refl (decimal-none words)) (none_both (ascii " refused ") (decimal refused) refl (decimal-none refused)))

-- ---- the lines of a list of fields

pub word-field : (c : List ℕ) (b : Bool) → eqb (length c) 4 ≡ b → b ≡ true → line_ends (line_of_word (cond b (Ok (value_of c)) (Err Refusal.Length))) ≡ 1
word-field c true e h = word-one (decode_of (value_of c)) _
word-field c false e h = absurd (false≢true h)

pub figure_field : (p : Option ℕ) (l : ℕ) (m : ℤ) (b : Bool) → b ≡ true → line_ends (line_of_figure p (cond b (Ok (l, m)) (Err Refusal.Length))) ≡ 1
figure_field p l m true h = verdict_one (verdict_of p l m)
figure_field p l m false h = absurd (false≢true h)

pub words_append : (fs gs : List Field) → words_in (fs ++ gs) ≡ words_in fs + words_in gs
words_append [] gs = omega arith
words_append (f ∷ fs) gs = omega (arith, words_append fs gs)

pub figures-append : (fs gs : List Field) → figures_in (fs ++ gs) ≡ figures_in fs + figures_in gs
figures-append [] gs = omega arith
figures-append (f ∷ fs) gs = omega (arith, figures-append fs gs)

-- ---- the whole listing

-- The text of a legal sheet is the lines of its fields, and ends with the total.
pub ends_with-total : (s : List ℕ) (fs : List Field) → sheet_of s ≡ Fields fs → text_of s ≡ lines_of None fs ++ lines.total_line (words_in fs) (refused_words_in fs)
ends_with-total s fs e = ap listing_of e
