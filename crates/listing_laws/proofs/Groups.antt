-- The listing by the groups of a sheet: a figure is tested against the field just before it in its own list, and a group is listed by itself.
-- Assumes nothing.
use Rattle.std.specs.Prelude.{◌≡◌, refl, List, ◌++◌, ℕ, suc, ◌+◌, ◌≤◌, length, Option, None}
use Rattle.std.proofs.Common.{ap, ap₂, ◌∙◌, arith}
use Rattle.fields.specs.Run.{Field}
use Rattle.fields.specs.Grammar.{Trees, no_more, leaf, group, bytes_of, fields_of, Allowed}
use Rattle.fields.proofs.Grammar.{sheet_written}
use Rattle.lines.specs.Lines.{total_line}
use Rattle.totals.specs.Totals.{word_of, words_in, refused_words_in}
use Rattle.listing.specs.Listing.{previous, after, line_after, lines_of, listing_of, text_of}
use Rattle.listing_laws.specs.Groups.{lines_of_trees, last_of, lines-append, not_seen, last_deeper, seen-word, no_word}

-- The lines of the fields in the order of their tags are those of the lists.
pub lines_by_groups : (d p : ℕ) (ts : Trees) (b : Option (ℕ × ℕ)) → lines_of b (fields_of d p ts) ≡ lines_of_trees (previous b d) ts
lines_by_groups d p no_more b = refl
lines_by_groups d p (leaf k c ts) b =
    ap (λ (x : List ℕ). line_after (previous b d) k c ++ x)
    (lines_by_groups d (p + 3 + length c) ts (after k d c) ∙ ap (λ (q : Option ℕ). lines_of_trees q ts) (seen-word d (word_of k c)))
lines_by_groups d p (group us ts) b =
    let inner : List Field = fields_of (suc d) (p + 3) us in
    let rest : List Field = fields_of d (p + 3 + length (bytes_of us)) ts in
    let unseen : previous (last_of None inner) d ≡ None = not_seen d (last_of None inner) (last_deeper d (suc d) (p + 3) us None (omega arith) no_word) in
    lines-append None inner rest
    ∙ ap₂ (λ (x y : List ℕ). x ++ y) (lines_by_groups (suc d) (p + 3) us None)
    (lines_by_groups d (p + 3 + length (bytes_of us)) ts (last_of None inner) ∙ ap (λ (q : Option ℕ). lines_of_trees q ts) unseen)

-- The listing of a sheet that a list of fields writes: the list's lines, then the total.
pub text_by_groups : (ts : Trees) → Allowed 1 ts → length (bytes_of ts) ≤ 32768
    → text_of (bytes_of ts) ≡ lines_of_trees None ts ++ total_line (words_in (fields_of 1 0 ts)) (refused_words_in (fields_of 1 0 ts))
text_by_groups ts a h =
    ap listing_of (sheet_written ts a h)
    ∙ ap (λ (x : List ℕ). x ++ total_line (words_in (fields_of 1 0 ts)) (refused_words_in (fields_of 1 0 ts))) (lines_by_groups 1 0 ts None)
