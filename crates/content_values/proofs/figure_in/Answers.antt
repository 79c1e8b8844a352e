-- The last eight bytes are the list without its first, written out: two numbers of four bytes, and then one of 64 digits.
use Rattle.std.specs.Prelude.{Ok, Err, Result, ℤ}
use mathlib.Core.Path.{◌≡◌, sym, ap, ap₂, ◌∙◌}
use mathlib.Core.Bool.{Bool, cond}
use mathlib.Core.List.{List}
use Prim.Native.Nat.{ℕ, ◌+◌, ◌*◌}
use borrow.Author.Tests.{eq-eqb}
use lib.ListN.{length, get_or, drop}
use mir.Syntax.{w64}
use mir.Facts.{to_z-of_z}
use Rattle.refusals.specs.declared.Refusal.{Refusal}
use Rattle.bits.specs.Complement.{signed}
use Rattle.contents.specs.BigEndian.{value_of}
use Rattle.content_values.proofs.Elements.{written_out, halves}
use borrow.Author.Rules.{rules}
use Rattle.content_values.proofs.figure_in.Goals as goal

pub returns : goal.returns
returns c =
    let l : List ℕ = c.args.content.now in
    let nine : length l ≡ 9 = c.if-content-ne9.false in
    let digits : c.of_halves.result ≡ value_of (drop 1 l) =
    c.of_halves.ensures
    ∙ ap₂ (λ (x y : ℕ). x * 0x100000000 + y) c.of_four-higher.ensures c.of_four-lower.ensures
    ∙ halves (get_or l 1 0) (get_or l 2 0) (get_or l 3 0) (get_or l 4 0) (get_or l 5 0) (get_or l 6 0) (get_or l 7 0) (get_or l 8 0)
    ∙ ap value_of (sym (written_out 8 1 l nine)) in
    ap (λ z. Ok (get_or l 0 0, z))
    (to_z-of_z {w = w64} {z = c.signed_64.result} (search rules) ∙ c.signed_64.ensures ∙ ap (signed 64) digits)
    ∙ ap (λ (b : Bool). cond {A = Result (ℕ × ℤ) Refusal} b (Ok (get_or l 0 0, signed 64 (value_of (drop 1 l)))) (Err Refusal.Length)) (sym (eq-eqb (length l) 9 nine))
