-- A text written from a buffer's start, where it fits, stands first in the buffer, and the rest is as it was; and a text that is only counted.
-- Assumes nothing.
use Rattle.std.specs.Prelude.{◌≡◌, true, false, List, ◌++◌, ℕ, ◌≤◌, ltb, length, drop, Ok, Err}
use Rattle.std.proofs.Common.{ap, ◌∙◌, zero-add, arith, ltb-false}
use Rattle.std.proofs.lemmas.List.Edits.{sets-eq}
use Rattle.refusals.specs.declared.Refusal.{Refusal}
use Rattle.text.specs.Writing.{last, Writes, exact}
use Rattle.listing.specs.Listing.{listed_of, buffer_of}

-- Any text that a buffer could hold.
module _ (t out out' : List ℕ) (n : ℕ) (short : length t ≤ last) (w : Writes out 0 t out' n) where
  -- the length of the text, however little of it was stored
  pub length-counted : n ≡ length t
  length-counted = exact w (omega (arith, short)) ∙ omega arith

  -- the text fits
  pub stored : ltb (length out) (length t) ≡ false → (Ok n ≡ listed_of t out) × (out' ≡ buffer_of t out)
  stored e =
      let fits : length t ≤ length out = ltb-false (length out) (length t) e in
      (rw e (ap Ok length-counted), rw e (w.stored ∙ sets-eq t out 0 (omega arith) ∙ ap (λ (k : ℕ). t ++ drop k out) (zero-add (length t))))

-- the text is too long for the buffer
pub no_room : (t out : List ℕ) → ltb (length out) (length t) ≡ true → (Err Refusal.Room ≡ listed_of t out) × (out ≡ buffer_of t out)
no_room t out e = (rw e, rw e)
