-- An order of refusals where one answer goes on from another: a sheet's own refusals first, then what is asked of its fields.
-- Assumes nothing.
use Rattle.std.specs.Prelude.{◌≡◌, List, [], ◌∷◌, ◌++◌, ◌⊎◌}
use Rattle.std.proofs.Common.{sym, ap, subst, ◌∙◌, inl, inr}
use Rattle.refusals.specs.Order.{Rule, FirstBroken, AllKept, Answers, Follows}

module _ {F : Type 0} (more : List (Rule F)) where
  broken_before : (rules : List (Rule F)) (f : F) → FirstBroken rules f → FirstBroken (rules ++ more) f
  broken_before [] f b = absurd b
  broken_before (rule ∷ rules) f (inl b) = inl b
  broken_before (rule ∷ rules) f (inr b) = inr (b.0, broken_before rules f b.1)

  broken_after : (rules : List (Rule F)) (f : F) → AllKept rules → FirstBroken more f → FirstBroken (rules ++ more) f
  broken_after [] f k b = b
  broken_after (rule ∷ rules) f k b = inr (k.0, broken_after rules f k.1 b)

  where_broken : (rules : List (Rule F)) (f : F) → FirstBroken (rules ++ more) f → FirstBroken rules f ⊎ (AllKept rules × FirstBroken more f)
  where_broken [] f b = inr (tt, b)
  where_broken (rule ∷ rules) f (inl b) = inl (inl b)
  where_broken (rule ∷ rules) f (inr b) =
      elim (where_broken rules f b.1) [ inl c ↦ inl (inr (b.0, c)) | inr c ↦ inr ((b.0, c.0), c.1) ]

  kept_both : (rules : List (Rule F)) → AllKept rules → AllKept more → AllKept (rules ++ more)
  kept_both [] k l = l
  kept_both (rule ∷ rules) k l = (k.0, kept_both rules k.1 l)

  kept-each : (rules : List (Rule F)) → AllKept (rules ++ more) → AllKept rules × AllKept more
  kept-each [] k = (tt, k)
  kept-each (rule ∷ rules) k = let h = kept-each rules k.1 in ((k.0, h.0), h.1)

module _ {F A B : Type 0} (by : Answers F A) (on : Answers F B) (rules more : List (Rule F)) (answer : A) (next : B) (first : Follows by rules answer) where
  -- A refusal is handed on, and what is accepted is asked for more.
  pub chained : ((f : F) × (answer ≡ by.refuse f) × (next ≡ on.refuse f)) ⊎ (by.accepts answer × Follows on more next) → Follows on (rules ++ more) next
  chained (inl (f, e, handed)) = record {
    refused = λ g. (
      λ q. broken_before more rules g ((first.refused g).0 (e ∙ ap by.refuse (on.once f g (sym handed ∙ q)))),
      λ b. elim (where_broken more rules g b) [
        | inl c ↦ handed ∙ ap on.refuse (by.once f g (sym e ∙ (first.refused g).1 c))
        | inr c ↦ absurd (not-kept c.0)
      ],
    );
    accepted = (
      λ p. absurd (on.apart f (subst on.accepts handed p)),
      λ k. absurd (not-kept (kept-each more rules k).0),
    );
  }
    where
      not-kept : AllKept rules → ⊥
      not-kept k = by.apart f (subst by.accepts e (first.accepted.1 k))
  chained (inr (ok, rest)) = record {
    refused = λ g. (
      λ q. broken_after more rules g (first.accepted.0 ok) ((rest.refused g).0 q),
      λ b. elim (where_broken more rules g b) [
        | inl c ↦ absurd (by.apart g (subst by.accepts ((first.refused g).1 c) ok))
        | inr c ↦ (rest.refused g).1 c.1
      ],
    );
    accepted = (
      λ p. kept_both more rules (first.accepted.0 ok) (rest.accepted.0 p),
      λ k. rest.accepted.1 (kept-each more rules k).1,
    );
  }
