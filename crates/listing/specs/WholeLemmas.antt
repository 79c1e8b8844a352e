-- A text that a buffer has room for: the answer is its length, and it stands first in the buffer.
-- Assumes nothing.
use Rattle.std.specs.Prelude.{◌≡◌, refl, List, ◌++◌, ℕ, ◌+◌, ◌≤◌, length, take, drop, Result, Ok, Err}
use Rattle.std.proofs.Common.{sym, ap, ap₂, ◌∙◌, arith, le-ltb, length-append}
use Rattle.std.proofs.Math.Seq.{take-append_seam}
use Rattle.refusals.specs.declared.Refusal.{Refusal}
use Rattle.listing.specs.Listing.{listed_of, buffer_of}

module _ (text out : List ℕ) (fits : length text ≤ length out) (r : Result ℕ Refusal) (answer : r ≡ listed_of text out) where
  is_length : r ≡ Ok (length text)
  is_length = answer ∙ rw (le-ltb (length out) (length text) fits) refl

  pub never_refused : (f : Refusal) → r ≡ Err f → ⊥
  never_refused f e =
      let clash : Err f ≡ Ok (length text) = sym e ∙ is_length in
      let z : ◌≡◌ {A = ℕ} 0 1 = cc in
      omega arith

  -- the length counts bytes of the buffer, and they are the text
  pub whole : (out' : List ℕ) → out' ≡ buffer_of text out → (n : ℕ) → r ≡ Ok n → ((n ≤ length out') × (n ≡ length (take n out'))) × (take n out' ≡ text)
  whole out' content n e =
      let same : ◌≡◌ {A = Result ℕ Refusal} (Ok n) (Ok (length text)) = sym e ∙ is_length in
      let size : n ≡ length text = cc in
      let stored : out' ≡ text ++ drop (length text) out = content ∙ rw (le-ltb (length out) (length text) fits) refl in
      let first : take n out' ≡ text = ap₂ (λ (k : ℕ) (b : List ℕ). take k b) size stored ∙ take-append_seam text (drop (length text) out) in
      let within : length out' ≡ length text + length (drop (length text) out) = ap length stored ∙ length-append text (drop (length text) out) in
      ((omega (arith, size, within), size ∙ ap length (sym first)), first)
