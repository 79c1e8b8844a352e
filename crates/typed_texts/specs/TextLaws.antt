-- What makes the definitions of `Texts` believable: what stands before a byte has none of it, and with the byte and what stands behind it is the text.
-- Assumes nothing.
use Rattle.std.specs.Prelude.{◌≡◌, refl, Bool, true, false, cond, List, [], ◌∷◌, ◌++◌, ℕ, suc, ◌-◌, ◌≤◌, ◌<◌, eqb, length, take, drop}
use Rattle.std.proofs.Common.{sym, ap, ◌∙◌, arith, eqb-true, length-drop, take_all}
use Rattle.typed_texts.specs.Texts.{text_before, text_behind}

-- whether a text has the byte x
abbrev pub has : ℕ → List ℕ → Bool
has x [] = false
has x (c ∷ t) = cond (eqb c x) true (has x t)

-- None stands before the first.
pub none_before : (x : ℕ) (t : List ℕ) → has x (text_before x t) ≡ false
none_before x [] = refl
none_before x (c ∷ t) = go (eqb c x) refl (none_before x t)
  where
    go : (b : Bool) → eqb c x ≡ b → has x (text_before x t) ≡ false → has x (cond b [] (c ∷ text_before x t)) ≡ false
    go true e later = refl
    go false e later = ap (λ (b : Bool). cond b true (has x (text_before x t))) e ∙ later

-- Before, the byte and behind are the text.
pub parts : (x : ℕ) (t : List ℕ) → has x t ≡ true → text_before x t ++ (x ∷ text_behind x t) ≡ t
parts x [] h = let z : ◌≡◌ {A = ℕ} 0 1 = cc in absurd (omega arith)
parts x (c ∷ t) h = go (eqb c x) refl h (parts x t)
  where
    go : (b : Bool) → eqb c x ≡ b → cond b true (has x t) ≡ true → (has x t ≡ true → text_before x t ++ (x ∷ text_behind x t) ≡ t)
        → cond b [] (c ∷ text_before x t) ++ (x ∷ cond b t (text_behind x t)) ≡ c ∷ t
    go true e h later = ap (λ (y : ℕ). y ∷ t) (sym (eqb-true c x e))
    go false e h later = ap (λ (r : List ℕ). c ∷ r) (later h)

-- A text with none of it stands before it, and nothing behind.
pub whole : (x : ℕ) (t : List ℕ) → has x t ≡ false → (text_before x t ≡ t) × (text_behind x t ≡ [])
whole x [] h = (refl, refl)
whole x (c ∷ t) h = go (eqb c x) h (whole x t)
  where
    go : (b : Bool) → cond b true (has x t) ≡ false → (has x t ≡ false → (text_before x t ≡ t) × (text_behind x t ≡ []))
        → (cond b [] (c ∷ text_before x t) ≡ c ∷ t) × (cond b t (text_behind x t) ≡ [])
    go true h later = let z : ◌≡◌ {A = ℕ} 0 1 = cc in absurd (omega arith)
    go false h later = (ap (λ (r : List ℕ). c ∷ r) (later h).0, (later h).1)

-- ---- their lengths, as a loop over the lines of a text needs them

pub before_within : (x : ℕ) (t : List ℕ) → length (text_before x t) ≤ length t
before_within x [] = omega arith
before_within x (c ∷ t) = go (eqb c x) (before_within x t)
  where
    go : (b : Bool) → length (text_before x t) ≤ length t → length (cond b [] (c ∷ text_before x t)) ≤ suc (length t)
    go true h = omega arith
    go false h = omega arith

behind_within : (x : ℕ) (t : List ℕ) → length (text_behind x t) ≤ length t
behind_within x [] = omega arith
behind_within x (c ∷ t) = go (eqb c x) (behind_within x t)
  where
    go : (b : Bool) → length (text_behind x t) ≤ length t → length (cond b t (text_behind x t)) ≤ suc (length t)
    go true h = omega arith
    go false h = omega arith

pub behind_shorter : (x : ℕ) (t : List ℕ) → 0 < length t → length (text_behind x t) < length t
behind_shorter x [] h = absurd (omega arith)
behind_shorter x (c ∷ t) h = go (eqb c x) (behind_within x t)
  where
    go : (b : Bool) → length (text_behind x t) ≤ length t → length (cond b t (text_behind x t)) < suc (length t)
    go true h = omega arith
    go false h = omega arith

-- Less is left behind the line that starts at a place than from that place on.
pub later_starts : (x : ℕ) (t : List ℕ) (i : ℕ) → i < length t → length (text_behind x (take (length t - i) (drop i t))) < length t - i
later_starts x t i h =
    let left : length (drop i t) ≡ length t - i = length-drop i t in
    let rest : length (text_behind x (take (length t - i) (drop i t))) ≡ length (text_behind x (drop i t)) =
    ap (λ (r : List ℕ). length (text_behind x r)) (take_all (length t - i) (drop i t) (omega arith)) in
    omega (arith, behind_shorter x (drop i t) (omega arith))
