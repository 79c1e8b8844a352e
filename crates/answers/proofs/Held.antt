-- How the code finds an answer: by what the word holds. The same text and outcome as by the reason that is told.
-- Assumes nothing.
use Rattle.std.specs.Prelude.{◌≡◌, List, ◌++◌, ℕ, ℤ}
use Rattle.std.proofs.Common.{ap}
use Rattle.decode.specs.Decode.{decode_of}
use Rattle.explanations.specs.Explanations.{held_in}
use Rattle.text.specs.Ascii.{ascii}
use Rattle.answers.specs.Answers.{pair_text, pair_answer}
use Rattle.answers.specs.Held.{held_text, held_in_lem}

pub by_held : (w : ℕ) (figure : ℤ) → pair_text w figure ++ held_text (held_in (decode_of w)) figure ++ ascii "\n" ≡ pair_answer w figure
by_held w figure = ap (λ (t : List ℕ). pair_text w figure ++ t ++ ascii "\n") (held_in_lem (decode_of w) figure)
