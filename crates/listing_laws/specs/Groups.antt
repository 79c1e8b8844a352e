-- The listing by the groups of a sheet: a figure is tested against the field just before it in its own list, and a group is listed by itself.
-- Assumes nothing.
use Rattle.std.specs.Prelude.{◌≡◌, refl, List, [], ◌∷◌, ◌++◌, ℕ, suc, ◌+◌, ◌<◌, length, Option, Some, None, Result, Ok, Err}
use Rattle.std.proofs.Common.{sym, ap, subst, ◌∙◌, append_assoc, arith, eq-eqb, ne_eqb}
use Rattle.fields.specs.declared.FieldKind.{FieldKind}
use Rattle.fields.specs.Run.{Field}
use Rattle.fields.specs.Grammar.{Trees, no_more, leaf, group, bytes_of, fields_of}
use Rattle.refusals.specs.declared.Refusal.{Refusal}
use Rattle.totals.specs.Totals.{word_of}
use Rattle.listing.specs.Listing.{previous, word_at, after, line_after, line_of, lines_of}

-- ---- what is stated

-- what a field is to the figure just after it in its list
abbrev pub seen_word : Result ℕ Refusal → Option ℕ
seen_word (Ok w) = Some w
seen_word (Err f) = None

abbrev pub seen : FieldKind → List ℕ → Option ℕ
seen k c = seen_word (word_of k c)

-- a list of fields: each after the one before it. The first of a group sees nothing, and nothing sees into a group.
abbrev pub lines_of_trees : Option ℕ → Trees → List ℕ
lines_of_trees p no_more = []
lines_of_trees p (leaf k c ts) = line_after p k c ++ lines_of_trees (seen k c) ts
lines_of_trees p (group us ts) = lines_of_trees None us ++ lines_of_trees None ts

-- ---- one list after another

-- what the last field is to the next one
abbrev pub last_of : Option (ℕ × ℕ) → List Field → Option (ℕ × ℕ)
last_of b [] = b
last_of b (f ∷ fs) = last_of (after f.kind f.depth f.content) fs

pub lines-append : (b : Option (ℕ × ℕ)) (fs gs : List Field) → lines_of b (fs ++ gs) ≡ lines_of b fs ++ lines_of (last_of b fs) gs
lines-append b [] gs = refl
lines-append b (f ∷ fs) gs =
    let line : List ℕ = line_of b f.kind f.depth f.content in
    let next : Option (ℕ × ℕ) = after f.kind f.depth f.content in
    ap (λ (t : List ℕ). line ++ t) (lines-append next fs gs) ∙ sym (append_assoc line (lines_of next fs) (lines_of (last_of next fs) gs))

-- a word at a greater depth is not seen
pub data Deeper (d : ℕ) : Option (ℕ × ℕ) → Type 0 where
  no_word : Deeper d None
  deep_word : {e w : ℕ} → d < e → Deeper d (Some (e, w))

pub not_seen : (d : ℕ) (b : Option (ℕ × ℕ)) → Deeper d b → previous b d ≡ None
not_seen d None no_word = refl
not_seen d (Some (e, w)) (deep_word h) = rw (ne_eqb e d (λ q. omega arith))

word_deeper : (d e : ℕ) (r : Result ℕ Refusal) → d < e → Deeper d (word_at e r)
word_deeper d e (Ok w) h = deep_word h
word_deeper d e (Err f) h = no_word

last-append : (b : Option (ℕ × ℕ)) (fs gs : List Field) → last_of b (fs ++ gs) ≡ last_of (last_of b fs) gs
last-append b [] gs = refl
last-append b (f ∷ fs) gs = last-append (after f.kind f.depth f.content) fs gs

-- the last field of a deeper list is not seen
pub last_deeper : (d e p : ℕ) (ts : Trees) (b : Option (ℕ × ℕ)) → d < e → Deeper d b → Deeper d (last_of b (fields_of e p ts))
last_deeper d e p no_more b h k = k
last_deeper d e p (leaf j c ts) b h k = last_deeper d e (p + 3 + length c) ts (after j e c) h (word_deeper d e (word_of j c) h)
last_deeper d e p (group us ts) b h k =
    let inner = last_deeper d (suc e) (p + 3) us None (omega arith) no_word in
    subst (Deeper d) (sym (last-append None (fields_of (suc e) (p + 3) us) (fields_of e (p + 3 + length (bytes_of us)) ts)))
    (last_deeper d e (p + 3 + length (bytes_of us)) ts (last_of None (fields_of (suc e) (p + 3) us)) h inner)

-- ---- the lines of a list of fields

pub seen-word : (d : ℕ) (r : Result ℕ Refusal) → previous (word_at d r) d ≡ seen_word r
seen-word d (Ok w) = rw (eq-eqb d d refl)
seen-word d (Err f) = refl
