-- What a line of the test vectors says of a figure: the number of its refusal, or 0 and the word that it is coded to.
-- Assumes nothing.
use Rattle.std.specs.Prelude.{Bool, ◌&&◌, eqb, ℤ, Result, Ok, Err, ℕ}
use Rattle.refusals.specs.Numbers.{number_of}
use Rattle.refusals.specs.declared.Refusal.{Refusal}
use Rattle.figures.specs.Coding.{coded_of}
use Rattle.agreements.specs.Agreement.{agrees_of}
use Rattle.test_figures.specs.declared.Answer.{Answer}
use Rattle.test_figures.specs.declared.Expected.{Expected}

-- coding gave what the line says, and the figure agrees with the word
abbrev pub given : Result ℕ Refusal → ℤ → Answer → Bool
given (Ok w) figure a = eqb a.refusal 0 && (eqb w a.word && agrees_of w figure)
given (Err f) figure a = eqb (number_of f) a.refusal

-- a line is right about its figure
abbrev pub right : Expected → Bool
right e = given (coded_of e.label e.source e.millionths) e.millionths e.answer
