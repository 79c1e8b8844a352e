-- A listing ends with its total, and has one line for each word field and each figure field, and one for the total.
-- Assumes nothing.
use Rattle.std.specs.Prelude.{◌≡◌, refl, true, List, ℕ, suc, ◌+◌, eqb, length, Option, None}
use Rattle.std.proofs.Common.{sym, ap, ap₂, ◌∙◌, arith}
use Rattle.fields.specs.declared.FieldKind.{FieldKind}
use Rattle.fields.specs.Start.{length_allowed}
use Rattle.fields.specs.Run.{Field, Fields, sheet_of}
use Rattle.fields.specs.Grammar.{Trees, no_more, leaf, group, Bytes, bytes_of, fields_of, Allowed, no_more_allowed, leaf_allowed, group_allowed}
use Rattle.fields.proofs.Grammar.{written_sheet}
use Rattle.columns.specs.declared.Figure.{Figure}
use Rattle.word_lines.specs.WordLines as words
use Rattle.lines.specs.Lines as lines
use Rattle.totals.specs.Totals.{is_word, words_in, refused_words_in}
use Rattle.listing.specs.Listing.{line_after, lines_of, text_of}
use Rattle.listing_laws.specs.Groups.{seen, lines_of_trees}
use Rattle.listing_laws.proofs.Groups.{lines_by_groups}
use Rattle.listing_laws.specs.Count.{line_ends, is_figure, figures_in, ends_append, total-one, word-field, figure_field, words_append, figures-append, ends_with-total}

line_one : (p : Option ℕ) (k : FieldKind) (c : List ℕ) → length_allowed k (length c) ≡ true → line_ends (line_after p k c) ≡ is_word k + is_figure k
line_one p FieldKind.Word c h = word-field c (eqb (length c) 4) refl h
line_one p FieldKind.Figure c h = figure_field p _ _ (eqb (length c) 9) h
line_one p FieldKind.Note c h = refl
line_one p FieldKind.Group c h = refl

trees_lines : (d place : ℕ) (p : Option ℕ) (ts : Trees) → Allowed d ts → line_ends (lines_of_trees p ts) ≡ words_in (fields_of d place ts) + figures_in (fields_of d place ts)
trees_lines d place p no_more no_more_allowed = refl
trees_lines d place p (leaf k c ts) (leaf_allowed plain long short b rest) =
    omega (
      arith,
      ends_append (line_after p k c) (lines_of_trees (seen k c) ts),
      line_one p k c long,
      trees_lines d (place + 3 + length c) (seen k c) ts rest,
    )
trees_lines d place p (group us ts) (group_allowed deep short inner rest) =
    let inside : List Field = fields_of (suc d) (place + 3) us in
    let behind : List Field = fields_of d (place + 3 + length (bytes_of us)) ts in
    omega (
      arith,
      ends_append (lines_of_trees None us) (lines_of_trees None ts),
      trees_lines (suc d) (place + 3) None us inner,
      trees_lines d (place + 3 + length (bytes_of us)) None ts rest,
      words_append inside behind,
      figures-append inside behind,
    )

-- It has one line for each word field and each figure field, and the total's.
pub one_line_each : (s : List ℕ) → Bytes s → (fs : List Field) → sheet_of s ≡ Fields fs → line_ends (text_of s) ≡ words_in fs + figures_in fs + 1
one_line_each s b fs e =
    let w = (written_sheet s b fs e).1 in
    let these : fields_of 1 0 w.trees ≡ fs = w.fields in
    let lines_are : line_ends (lines_of None fs) ≡ words_in fs + figures_in fs =
    ap (λ (gs : List Field). line_ends (lines_of None gs)) (sym these)
    ∙ ap line_ends (lines_by_groups 1 0 w.trees None)
    ∙ trees_lines 1 0 None w.trees w.allowed
    ∙ ap (λ (gs : List Field). words_in gs + figures_in gs) these in
    ap line_ends (ends_with-total s fs e)
    ∙ ends_append (lines_of None fs) (lines.total_line (words_in fs) (refused_words_in fs))
    ∙ ap₂ (λ (x y : ℕ). x + y) lines_are (total-one (words_in fs) (refused_words_in fs))
