-- The whole lines and the begun one as parts of a buffer.
-- Assumes nothing.
use mathlib.Core.Path.{◌≡◌, sym, ap, ap₂, ◌∙◌}
use mathlib.Core.List.{List}
use Prim.Native.Nat.{ℕ, ◌+◌, ◌≤◌}
use native.Mathlib.Omega.{arith}
use lib.ListN.{length, take, drop, length-append}
use lib.Seq.{take-take, length-take-le, take-append_seam, drop-append_seam}
use Rattle.text_lines.specs.Lines.{whole_lines, begun_line}
use Rattle.text_lines.proofs.LineLaws.{whole_begun}

module _ (b : List ℕ) (filled whole : ℕ) (h : filled ≤ length b) (e : whole ≡ length (whole_lines (take filled b))) where
  sum : length (whole_lines (take filled b)) + length (begun_line (take filled b)) ≡ filled
  sum = sym (length-append (whole_lines (take filled b)) (begun_line (take filled b))) ∙ ap length (whole_begun (take filled b)) ∙ length-take-le filled b h

  pub whole_within : whole ≤ filled
  whole_within = omega (arith, sum)

  pub whole_part : take whole b ≡ whole_lines (take filled b)
  whole_part =
      sym (take-take whole filled b whole_within)
      ∙ ap₂ (λ (k : ℕ) (l : List ℕ). take k l) e (sym (whole_begun (take filled b)))
      ∙ take-append_seam (whole_lines (take filled b)) (begun_line (take filled b))

  pub begun_part : drop whole (take filled b) ≡ begun_line (take filled b)
  begun_part =
      ap₂ (λ (k : ℕ) (l : List ℕ). drop k l) e (sym (whole_begun (take filled b)))
      ∙ drop-append_seam (whole_lines (take filled b)) (begun_line (take filled b))
