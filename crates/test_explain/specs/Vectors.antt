-- What a line of the test vectors says of a figure beside a word: the number of its refusal, or 0 and the number of its reason.
-- Assumes nothing.
use Rattle.std.specs.Prelude.{Bool, ◌&&◌, ℕ, eqb, ℤ}
use Rattle.explanations.specs.Explanations.{explained_of}
use Rattle.flat_explanations.specs.Explained.{flat_explained}
use Rattle.flat_explanations.specs.declared.FlatExplained.{FlatExplained}
use Rattle.test_explain.specs.declared.Answer.{Answer}

-- the answer that was given is the one that the line says
abbrev pub given : FlatExplained → Answer → Bool
given found a = eqb found.refusal a.refusal && eqb found.reason a.reason

-- a line is right about its figure and its word
abbrev pub right : ℕ → ℤ → Answer → Bool
right word figure a = given (flat_explained (explained_of word figure)) a
