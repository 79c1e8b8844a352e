-- What an answer says: a refusal, or what is given, and never both.
-- Assumes nothing.
use Rattle.std.specs.Prelude.{◌≡◌}
use Rattle.std.proofs.Common.{sym, ap, subst, ◌∙◌}
use Rattle.refusals.specs.Order.{Answers}

pub data Says (F B : Type 0) : Type 0 where
  refuses : F → Says F B
  gives : B → Says F B

-- the two are apart, and a refusal is one
pub never : {F B : Type 0} (f : F) (b : B) → ◌≡◌ {A = Says F B} (refuses f) (gives b) → ⊥
never {F} {B} f b e = subst is_refused_lem e tt
  where
    is_refused_lem : Says F B → Type 0
    is_refused_lem (refuses g) = Unit {0}
    is_refused_lem (gives c) = ⊥

pub same : {F B : Type 0} (f g : F) → ◌≡◌ {A = Says F B} (refuses f) (refuses g) → f ≡ g
same {F} {B} f g e = ap refusal e
  where
    refusal : Says F B → F
    refusal (refuses h) = h
    refusal (gives c) = f

-- answers that say so: what gives something is accepted
abbrev pub saying : {F A B : Type 0} (refuse : F → A) (says : A → Says F B) → ((f : F) → says (refuse f) ≡ refuses f) → Answers F A
saying {F} {A} {B} refuse says refused = record {
  refuse = refuse;
  accepts = λ a. (b : B) × (says a ≡ gives b);
  apart = λ f h. never f h.0 (sym (refused f) ∙ h.1);
  once = λ f g e. same {B = B} f g (sym (refused f) ∙ ap says e ∙ refused g);
}
