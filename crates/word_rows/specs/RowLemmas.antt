-- A packed row has its fields, and the byte of the candidate's row tells whether a word is of that kind.
-- Assumes nothing.
use Rattle.std.specs.Prelude.{◌≡◌, refl, ℕ, ◌%◌, Some, None}
use Rattle.std.proofs.Common.{sym, ap, ◌∙◌, div-one}
use Rattle.bits.specs.Fields.{bits}
use Rattle.records.specs.All.{agree}
use Rattle.records.specs.declared.Kind.{Kind}
use Rattle.labels.specs.Label.{label_of}
use Rattle.labels.proofs.LabelLaws.{label_low, label_byte}
use Rattle.labels.specs.Table.{label_number, byte_of, rows, find_kind}
use Rattle.word_kinds.specs.HashLemmas.{candidate_of, kind_hit, kind_miss}
use Rattle.word_rows.specs.Rows.{asked, unpacked, packed, candidate}

pub unpacks : (k : Kind) → unpacked (packed k) ≡ asked k
unpacks = agree (λ k. unpacked (packed k)) asked refl

low_byte : (w : ℕ) → bits 1 8 w ≡ w % 256
low_byte w = ap (λ (x : ℕ). x % 256) (div-one w)

-- a kind's label is its byte, turned
label_again : (k : Kind) → label_of (byte_of k) ≡ label_number k
label_again = agree (λ k. label_of (byte_of k)) label_number refl

asked_byte : (k : Kind) → (asked k).byte ≡ byte_of k
asked_byte = agree (λ k. (asked k).byte) byte_of refl

module _ (w : ℕ) where
  -- a word with the byte of its candidate is of that kind
  pub byte_hit : (asked (candidate (w % 256))).byte ≡ w % 256 → find_kind rows (label_of w) ≡ Some (candidate (w % 256))
  byte_hit e =
      let k = candidate (w % 256) in
      sym
      (kind_hit w (candidate_of (w % 256)) refl
      (sym (label_again k) ∙ ap label_of (sym (asked_byte k) ∙ e ∙ sym (low_byte w)) ∙ label_low w))

  -- and one with another byte is of no kind
  pub byte_miss : ((asked (candidate (w % 256))).byte ≡ w % 256 → ⊥) → find_kind rows (label_of w) ≡ None
  byte_miss n =
      let k = candidate (w % 256) in
      sym
      (kind_miss w (candidate_of (w % 256)) refl
      (λ l. n (asked_byte k ∙ ap label_of l ∙ label_byte w ∙ low_byte w)))
