-- Where a completed group comes from: only from parts one to four of one source in sequence, with only other words between.
use Rattle.std.specs.Prelude.{ℕ, ◌≡◌, refl}
use Rattle.std.proofs.Common.{sym, ap, ap₂, subst, ⊎_elim, arith}
use mathlib.Core.List.{List, [], ◌∷◌, ◌++◌, map, append_assoc, append-nil, nil≢cons, head-eq_of_cons-eq, tail-eq_of_cons-eq}
use Rattle.reassembly_parts.specs.declared.Part.{Part}
use Rattle.reassembly_parts.specs.declared.Group.{Group}
use Rattle.reassembly_parts.specs.declared.Answer.TheVariants.{Complete}
use Rattle.reassembly_parts.specs.declared.Reassembly.{Reassembly}
use Rattle.reassembly_parts.specs.declared.Reassembly.TheVariants.{Empty, AfterOne, AfterTwo, AfterThree}
use Rattle.reassembly_parts.specs.Take.{take_of}
use Rattle.reassembly_parts.specs.Sequence.{InSequence, first, second, third, fourth, sequence, second-taken, third-taken}
use Rattle.reassembly_parts.proofs.Sequence.{fourth_taken}
use Rattle.reassembly_parts.specs.Run.{Input, part, other, Reply, answered, reply_of, next_of, replies, held_after}
use Rattle.reassembly_parts.specs.Provenance.{stored, HeldFrom, ends_with_other, held_from_stored, Completes, FirstThree, held-first_three, Located}

module _ {R : Type 0} where
  -- one part more
  held_from_taken : (held : Reassembly) (p : Part) (xs : List (Input R)) → InSequence held p → HeldFrom held xs → HeldFrom (take_of held p).next (xs ++ (part p ∷ []))
  held_from_taken held p xs first h = (xs, [], refl, tt)
  held_from_taken held p xs (second {s} {a} {b}) h = rw (second-taken s a b) (xs, [], refl, h)
  held_from_taken held p xs (third {s} {a} {b} {c}) h = rw (third-taken s a b c) (xs, [], refl, h)
  held_from_taken held p xs (fourth {s} {a} {b} {c} {d} {m}) h = rw (fourth_taken s a b c d m) tt

  held_from_part : (held : Reassembly) (p : Part) (xs : List (Input R)) → HeldFrom held xs → HeldFrom (take_of held p).next (xs ++ (part p ∷ []))
  held_from_part held p xs h = ⊎_elim (λ i. held_from_taken held p xs i h) (λ e. rw e tt) (sequence held p)

  -- one word more
  held_from_next : (held : Reassembly) (x : Input R) (xs : List (Input R)) → HeldFrom held xs → HeldFrom (next_of held x) (xs ++ (x ∷ []))
  held_from_next held (part p) xs h = held_from_part held p xs h
  held_from_next Empty (other r) xs h = tt
  held_from_next (AfterOne s a) (other r) xs h = ends_with_other _ _ xs r h
  held_from_next (AfterTwo s a b) (other r) xs h = ends_with_other _ _ xs r h
  held_from_next (AfterThree s a b c) (other r) xs h = ends_with_other _ _ xs r h

  held_from_after : (held : Reassembly) (before xs : List (Input R)) → HeldFrom held before → HeldFrom (held_after held xs) (before ++ xs)
  held_from_after held before [] h = rw append-nil h
  held_from_after held before (x ∷ xs) h =
      subst (λ (l : List (Input R)). HeldFrom (held_after (next_of held x) xs) l) (append_assoc before (x ∷ []) xs)
      (held_from_after (next_of held x) (before ++ (x ∷ [])) xs (held_from_next held x before h))

module _ (R : Type 0) where
  -- What is held after any words comes from the last of them, with the parts held at the start in front.
  pub held_from : (start : Reassembly) (xs : List (Input R)) → HeldFrom (held_after start xs) (stored start ++ xs)
  held_from start xs = held_from_after start (stored start) xs ((held_from_stored R) start)

completes_taken : (held : Reassembly) (p : Part) (g : Group) → InSequence held p → (take_of held p).answer ≡ Complete g → Completes held p g
completes_taken held p g first h = let z : ◌≡◌ {A = ℕ} 0 1 = cc in absurd (omega arith)
completes_taken held p g (second {s} {a} {b}) h = let z : ◌≡◌ {A = ℕ} 0 1 = cc (second-taken s a b) in absurd (omega arith)
completes_taken held p g (third {s} {a} {b} {c}) h = let z : ◌≡◌ {A = ℕ} 0 1 = cc (third-taken s a b c) in absurd (omega arith)
completes_taken held p g (fourth {s} {a} {b} {c} {d} {m}) h =
    record { source = s; first = a; second = b; third = c; fourth = d; good = m; holding = refl; last = refl; group = cc (fourth_taken s a b c d m) }

completes : (held : Reassembly) (p : Part) (g : Group) → (take_of held p).answer ≡ Complete g → Completes held p g
completes held p g h = ⊎_elim (λ i. completes_taken held p g i h) (λ e. let z : ◌≡◌ {A = ℕ} 0 1 = cc in absurd (omega arith)) (sequence held p)

module _ {R : Type 0} where
  completing : (held : Reassembly) (x : Input R) (g : Group) → reply_of held x ≡ answered (Complete g) → (p : Part) × (x ≡ part p) × Completes held p g
  completing held (part p) g e = (p, refl, completes held p g (cc))
  completing held (other r) g e = let z : ◌≡◌ {A = ℕ} 0 1 = cc in absurd (omega arith)

module _ {W R : Type 0} (classify : W → Input R) where
  -- how the group g was completed in a run of words, `answers` being the answers before it
  pub record CompletedBy (start : Reassembly) (words : List W) (answers : List (Reply R)) (g : Group) : Type 0 where
    pub located : (Located classify) start words answers (answered (Complete g))
    -- the word is part four, and the group is that of its four parts
    pub last : Part
    pub is_last : classify located.word ≡ part last
    pub completes : Completes (held_after start (map classify located.before)) last g
    -- and what is held at the start, followed by the words before, ends with the three others in sequence
    pub first_three_lem : FirstThree completes.source completes.first completes.second completes.third (stored start ++ map classify located.before)

  locate : (start : Reassembly) (words : List W) (answers : List (Reply R)) (o : Reply R) (later : List (Reply R))
      → replies start (map classify words) ≡ answers ++ (o ∷ later) → (Located classify) start words answers o
  locate start [] [] o later e = absurd (nil≢cons e)
  locate start [] (a ∷ rest) o later e = absurd (nil≢cons e)
  locate start (w ∷ ws) [] o later e =
      record { before = []; word = w; after = ws; words_are = refl; answers_are = refl; is = head-eq_of_cons-eq e }
  locate start (w ∷ ws) (a ∷ rest) o later e =
      let l = locate (next_of start (classify w)) ws rest o later (tail-eq_of_cons-eq e) in
      record {
        before = w ∷ l.before;
        word = l.word;
        after = l.after;
        words_are = ap (λ (r : List W). w ∷ r) l.words_are;
        answers_are = ap₂ (λ (b : Reply R) (r : List (Reply R)). b ∷ r) (sym (head-eq_of_cons-eq e)) l.answers_are;
        is = l.is;
      }

  -- Wherever a run of words gives a group, it was completed so.
  pub completed-only_by : (start : Reassembly) (words : List W) (answers later : List (Reply R)) (g : Group)
      → replies start (map classify words) ≡ answers ++ (answered (Complete g) ∷ later) → CompletedBy start words answers g
  completed-only_by start words answers later g e =
      let l = locate start words answers (answered (Complete g)) later e in
      let xs = map classify l.before in
      let f = completing (held_after start xs) (classify l.word) g l.is in
      let k = f.2 in
      record {
        located = l;
        last = f.0;
        is_last = f.1;
        completes = k;
        first_three_lem = held-first_three k.source k.first k.second k.third (stored start ++ xs) (rw k.holding at (held_from R start xs));
      }
