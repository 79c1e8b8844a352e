-- A line of two parts: what its functions find is exactly what is typed.
-- Assumes nothing.
use Rattle.std.specs.Prelude.{◌≡◌, true, false, ◌↔◌, List, [], ◌++◌, ℕ}
use Rattle.std.proofs.Common.{sym, ap, ap₂, subst, ◌∙◌, append-nil}
use Rattle.typed_lines.specs.Lines.{run_of, behind_run, skip_blanks, first_part, behind_part}
use Rattle.typed_lines.specs.LineLaws.{Blanks, NoBlank, Starts, run_joined}
use Rattle.typed_lines.proofs.LineLaws.{run_each, behind_starts, run_alone}
use Rattle.typed_lines.specs.TwoParts.{behind_first, Found, Spelled, neither, each_starts, joined_starts}

-- a text that is all skipped is blanks, and blanks are all skipped
all_skipped : (t : List ℕ) → skip_blanks t ≡ [] → Blanks t
all_skipped t e =
    let same : run_of true t ≡ t = sym (append-nil (run_of true t)) ∙ ap (λ (r : List ℕ). run_of true t ++ r) (sym e) ∙ run_joined true t in
    subst (λ (r : List ℕ). Blanks r) same (run_each true t)

skip_all : (t : List ℕ) → Blanks t → skip_blanks t ≡ []
skip_all t h = ap (behind_run true) (sym (append-nil t)) ∙ (run_alone true t [] h tt).1

-- Two parts are found in a line exactly where they are typed in it.
pub two_parts : (l a b : List ℕ) → Found l a b ↔ Spelled l a b
two_parts l a b = (there, back)
  where
    there : Found l a b → Spelled l a b
    there f =
        let s : List ℕ = skip_blanks l in
        let y : List ℕ = behind_part s in
        let t : List ℕ = skip_blanks y in
        record {
          before = run_of true l;
          between = run_of true y;
          behind = behind_part t;
          before_blank = run_each true l;
          between_blank = run_each true y;
          between_there = λ e.
              let same : t ≡ y = ap (λ (r : List ℕ). r ++ t) (sym e) ∙ run_joined true y in
              let none : y ≡ [] = neither y (behind_starts false s) (subst (λ (r : List ℕ). Starts false r) same (behind_starts true y)) in
              f.second_there (sym f.second ∙ ap first_part (same ∙ none));
          behind_blank = all_skipped (behind_part t) f.nothing_behind;
          first-whole = subst (λ (r : List ℕ). NoBlank r) f.first (run_each false s);
          first_there = f.first_there;
          second-whole = subst (λ (r : List ℕ). NoBlank r) f.second (run_each false t);
          second_there = f.second_there;
          text =
              sym (run_joined true l)
              ∙ ap (λ (r : List ℕ). run_of true l ++ r)
              (sym (run_joined false s)
              ∙ ap₂ ◌++◌ f.first
              (sym (run_joined true y)
              ∙ ap (λ (r : List ℕ). run_of true y ++ r) (sym (run_joined false t) ∙ ap (λ (r : List ℕ). r ++ behind_part t) f.second)));
        }

    back : Spelled l a b → Found l a b
    back s =
        let rest : List ℕ = b ++ s.behind in
        let middle : List ℕ = s.between ++ rest in
        let start : skip_blanks l ≡ a ++ middle =
        ap (behind_run true) s.text ∙ (run_alone true s.before (a ++ middle) s.before_blank (joined_starts false a middle s.first_there s.first-whole)).1 in
        let one = run_alone false a middle s.first-whole (joined_starts true s.between rest s.between_there s.between_blank) in
        let next : behind_first l ≡ rest =
        ap skip_blanks (ap behind_part start ∙ one.1)
        ∙ (run_alone true s.between rest s.between_blank (joined_starts false b s.behind s.second_there s.second-whole)).1 in
        let two = run_alone false b s.behind s.second-whole (each_starts true s.behind s.behind_blank) in
        record {
          first = ap first_part start ∙ one.0;
          second = ap first_part next ∙ two.0;
          nothing_behind = ap skip_blanks (ap behind_part next ∙ two.1) ∙ skip_all s.behind s.behind_blank;
          first_there = s.first_there;
          second_there = s.second_there;
        }
