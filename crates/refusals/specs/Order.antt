-- An order of refusals, stated over a list of rules and not by nested tests: what is refused is what the first broken rule refuses, and what breaks none is accepted.
-- One law for every entry point: over any type F of what is refused with (a refusal, or one with its offset) and any type A of answers.
-- Assumes nothing.
use Rattle.std.specs.Prelude.{◌≡◌, List, [], ◌∷◌, ◌⊎◌, ◌↔◌}
use Rattle.std.proofs.Common.{subst}

-- A rule: what keeps it, and what breaks it with which refusal.
pub record Rule (F : Type 0) : Type 1 where
  pub kept : Type 0
  pub broken : F → Type 0

-- a rule with one refusal
abbrev pub asks : {F : Type 0} → Type 0 → F → Rule F
asks kept refusal = record { kept = kept; broken = λ f. (kept → ⊥) × (f ≡ refusal) }

-- the first rule of the list that is broken gives this refusal: all before it are kept
abbrev pub FirstBroken : {F : Type 0} → List (Rule F) → F → Type 0
FirstBroken [] f = ⊥
FirstBroken (rule ∷ rules) f = rule.broken f ⊎ (rule.kept × FirstBroken rules f)

abbrev pub AllKept : {F : Type 0} → List (Rule F) → Type 0
AllKept [] = Unit {0}
AllKept (rule ∷ rules) = rule.kept × AllKept rules

-- How a type of answers refuses and accepts: no answer does both, and none refuses twice.
pub record Answers (F A : Type 0) : Type 1 where
  pub refuse : F → A
  pub accepts : A → Type 0
  pub apart : (f : F) → accepts (refuse f) → ⊥
  pub once : (f g : F) → refuse f ≡ refuse g → f ≡ g

-- An answer follows the rules: it is refused with exactly what the first broken rule gives, and accepted exactly when none is broken.
pub record Follows {F A : Type 0} (by : Answers F A) (rules : List (Rule F)) (answer : A) : Type 0 where
  pub refused : (f : F) → (answer ≡ by.refuse f) ↔ FirstBroken rules f
  pub accepted : by.accepts answer ↔ AllKept rules

-- ---- the laws by which an answer follows its rules

module _ {F A : Type 0} (by : Answers F A) where
  -- with no rules, what is accepted
  pub no_rules : (answer : A) → by.accepts answer → Follows by [] answer
  no_rules answer h = record { refused = λ f. (λ e. by.apart f (subst by.accepts e h), λ b. absurd b); accepted = (λ a. tt, λ a. h) }
