-- How the code finds the kind of a word: by a hash of its lowest byte and one comparison of labels, which finds the kind that the word's label stands for (`kind_hit`, `kind_miss`).
-- Assumes nothing.
use Rattle.std.specs.Prelude.{◌≡◌, refl, List, [], ◌∷◌, ℕ, ◌*◌, ◌/◌, ◌%◌, get_or, Option, Some, None}
use Rattle.std.proofs.Common.{sym, ap, ◌∙◌, div-one}
use Rattle.bits.specs.Fields.{bits}
use Rattle.records.specs.All.{kinds, agree}
use Rattle.records.specs.declared.Kind.{Kind}
use Rattle.records.specs.declared.Kind.TheVariants.{VorAzimuth, VorFrequency, IlsCourse, IlsGlide, IlsFrequency, MlsFrequency, MlsAzimuthDeviation, MlsGlideDeviation, SelectedAzimuth, GreatestGlideAngle, SelectedGlideAngle, Part1, Part2, Part3, Part4}
use Rattle.labels.specs.Label.{label_of}
use Rattle.labels.proofs.LabelLaws.{label_byte}
use Rattle.labels.specs.Table.{label_number, byte_of, rows, find_kind, only}
use Rattle.labels.proofs.Table.{found}
use Rattle.word_kinds.specs.declared.KindLabel.{KindLabel}

-- the kind whose byte has each hash, from 0 to 15; no kind's has 7, where part 4 stands again
abbrev pub hashed : List Kind
hashed =
    Part2 ∷ SelectedGlideAngle ∷ Part1 ∷ GreatestGlideAngle ∷ VorFrequency ∷ MlsAzimuthDeviation ∷ IlsGlide ∷ Part4 ∷ Part4 ∷ Part3 ∷ VorAzimuth ∷ MlsFrequency ∷ SelectedAzimuth ∷ IlsFrequency ∷ MlsGlideDeviation ∷ IlsCourse ∷ []

abbrev pub hash : ℕ → ℕ
hash b = b * 23 / 64 % 16

-- the kind of a hash, with its label
abbrev pub hashed_at : ℕ → KindLabel
hashed_at h = record { 0 = get_or hashed h VorAzimuth; 1 = label_number (get_or hashed h VorAzimuth) }

-- the only kind that can have the byte
abbrev pub candidate_of : ℕ → KindLabel
candidate_of b = hashed_at (hash b)

-- no two kinds' bytes have the same hash
own : (k : Kind) → (candidate_of (byte_of k)).0 ≡ k
own = agree (λ k. (candidate_of (byte_of k)).0) (λ k. k) refl

low_byte : (w : ℕ) → bits 1 8 w ≡ w % 256
low_byte w = ap (λ (x : ℕ). x % 256) (div-one w)

module _ (w : ℕ) (c : KindLabel) (told : c ≡ candidate_of (w % 256)) where
  -- a word with the label of its candidate is of that kind
  pub kind_hit : c.1 ≡ label_of w → Some c.0 ≡ find_kind rows (label_of w)
  kind_hit e =
      let k = (candidate_of (w % 256)).0 in
      let l : label_number k ≡ label_of w = ap (λ (x : KindLabel). x.1) (sym told) ∙ e in
      ap (λ (x : KindLabel). Some x.0) told ∙ sym (found k) ∙ ap (find_kind rows) l

  -- and one with another label is of no kind
  pub kind_miss : (c.1 ≡ label_of w → ⊥) → None ≡ find_kind rows (label_of w)
  kind_miss n = by (find_kind rows (label_of w)) refl
    where
      by : (l : Option Kind) → find_kind rows (label_of w) ≡ l → None ≡ find_kind rows (label_of w)
      by None e = sym e
      by (Some k) e =
          let l : label_number k ≡ label_of w = only kinds (label_of w) k e in
          let b : byte_of k ≡ w % 256 = ap label_of l ∙ label_byte w ∙ low_byte w in
          absurd (n (ap (λ (x : KindLabel). x.1) told ∙ ap label_number (ap (λ (x : ℕ). (candidate_of x).0) (sym b) ∙ own k) ∙ l))
