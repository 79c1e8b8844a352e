-- The three answers of a writing, each with its condition.
-- Assumes nothing.
use Rattle.std.specs.Prelude.{◌≡◌, refl, Bool, true, false, cond, ℕ, ◌+◌, ◌<◌, ◌≤◌, ltb, Ok, Err, Result}
use Rattle.std.proofs.Common.{ap₂, arith, lt-ltb, le-ltb, ltb-false}
use Rattle.refusals.specs.declared.Refusal.{Refusal}
use Rattle.fields.specs.Run.{sheet_limit}
use Rattle.writer.specs.Write.{answer_of}

module _ (room place n : ℕ) where
  by_tests : (far short : Bool) → ltb sheet_limit (place + 3 + n) ≡ far → ltb room (place + 3 + n) ≡ short
      → answer_of room place n ≡ cond {A = Result ℕ (Refusal × ℕ)} far (Err (Refusal.Oversize, 0)) (cond short (Err (Refusal.Room, 0)) (Ok (place + 3 + n)))
  by_tests far short e f =
      ap₂ (λ (x y : Bool). cond {A = Result ℕ (Refusal × ℕ)} x (Err (Refusal.Oversize, 0)) (cond y (Err (Refusal.Room, 0)) (Ok (place + 3 + n)))) e f

  -- 15 where the end passes the sheet's limit
  pub past_limit : sheet_limit < place + 3 + n → answer_of room place n ≡ Err (Refusal.Oversize, 0)
  past_limit h = by_tests true (ltb room (place + 3 + n)) (lt-ltb sheet_limit (place + 3 + n) h) refl

  -- else 13 where it passes the buffer
  pub past_buffer : place + 3 + n ≤ sheet_limit → room < place + 3 + n → answer_of room place n ≡ Err (Refusal.Room, 0)
  past_buffer h k = by_tests false true (le-ltb sheet_limit (place + 3 + n) h) (lt-ltb room (place + 3 + n) k)

  -- else the field is written
  pub within : place + 3 + n ≤ sheet_limit → place + 3 + n ≤ room → answer_of room place n ≡ Ok (place + 3 + n)
  within h k = by_tests false false (le-ltb sheet_limit (place + 3 + n) h) (le-ltb room (place + 3 + n) k)

  -- a field that is written ends within both
  pub record Ends (end : ℕ) : Type 0 where
    pub at : end ≡ place + 3 + n
    pub limit : place + 3 + n ≤ sheet_limit
    pub space : place + 3 + n ≤ room

  pub ends : (end : ℕ) → answer_of room place n ≡ Ok end → Ends end
  ends end e = by (ltb sheet_limit (place + 3 + n)) refl (ltb room (place + 3 + n)) refl e
    where
      by : (far : Bool) → ltb sheet_limit (place + 3 + n) ≡ far → (short : Bool) → ltb room (place + 3 + n) ≡ short
          → cond {A = Result ℕ (Refusal × ℕ)} far (Err (Refusal.Oversize, 0)) (cond short (Err (Refusal.Room, 0)) (Ok (place + 3 + n))) ≡ Ok end
          → Ends end
      by true f short s e = let z : ◌≡◌ {A = ℕ} 0 1 = cc in absurd (omega arith)
      by false f true s e = let z : ◌≡◌ {A = ℕ} 0 1 = cc in absurd (omega arith)
      by false f false s e =
          record { at = cc; limit = ltb-false sheet_limit (place + 3 + n) f; space = ltb-false room (place + 3 + n) s }
