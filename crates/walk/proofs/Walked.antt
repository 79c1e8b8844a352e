-- Walking a sheet: from the start it gives the sheet's own refusal, or each field, in the order of the tags, with place and depth, and then the end.
-- Assumes nothing.
use Rattle.std.specs.Prelude.{◌≡◌, refl, ℕ, zero, suc, ◌+◌, ◌-◌, ◌≤◌, ◌<◌, length, take, drop, replicate, Result, Err, Option, Some, None, Ok}
use Rattle.std.proofs.Common.{sym, ap, ap₂, subst, ◌∙◌, ⊎_elim, arith}
use mathlib.Core.List.Memᴰ
use mathlib.Core.List.{List, [], ◌∷◌, map, Memᴰ}
use Rattle.refusals.specs.declared.Refusal.{Refusal}
use Rattle.fields.specs.declared.FieldKind.{FieldKind}
use Rattle.fields.specs.Run.{Field, Scan, Fields, Refused, scan, sheet_of}
use Rattle.walk.specs.declared.Position.{Position}
use Rattle.walk.specs.declared.FieldAt.{FieldAt}
use Rattle.walk.specs.declared.WalkStep.{WalkStep}
use Rattle.walk.specs.Step.{walk_of, start_walk, step_of}
use Rattle.walk.specs.Rest.{field_of}
use Rattle.walk.specs.Stands.{Stands, left}
use Rattle.walk.proofs.Stands.{start_stands, advances, content-length, step_stands, step_ends, step-refused}
use Rattle.walk.specs.Walked.{walked, after, given_of, InSheet, Steps, stays}

pub steps : (s : List ℕ) (w : Result Position (Refusal × ℕ)) (f : Field) (fs : List Field) → Stands s w (Fields (f ∷ fs)) → Steps s w f fs
steps s w f fs h = by (step_of s w).given refl
  where
    by : (g : Result (Option FieldAt) (Refusal × ℕ)) → (step_of s w).given ≡ g → Steps s w f fs
    by (Ok None) e =
        let none = step_ends s w (Fields (f ∷ fs)) h e in
        let z : ◌≡◌ {A = ℕ} 0 1 = cc in absurd (omega arith)
    by (Err (g, p)) e =
        let none = step-refused s w (Fields (f ∷ fs)) h g p e in
        let z : ◌≡◌ {A = ℕ} 0 1 = cc in absurd (omega arith)
    by (Ok (Some a)) e =
        let gives = step_stands s w (Fields (f ∷ fs)) h a e in
        let both = gives.first in
        let field : field_of s a ≡ f = cc in
        let others : gives.later ≡ fs = cc in
        let inside = (advances s w a e).in_sheet in
        let long = content-length s w a e in
        record {
          given = e ∙ ap (λ (n : ℕ). Ok (Some (record { place = a.place; depth = a.depth; kind = a.kind; length = n }))) (sym long) ∙ ap given_of field;
          next = subst (λ (l : List Field). Stands s (step_of s w).next (Fields l)) others gives.next;
          in_sheet = subst (InSheet s) field (record { ends = subst (λ (n : ℕ). a.place + 3 + n ≤ length s) (sym long) inside; content = ap (λ (n : ℕ). take n (drop (a.place + 3) s)) (sym long) });
          here = (advances s w a e).here ∙ ap (λ (g : Field). length s - g.place) field;
          less = (advances s w a e).less;
        }

-- with nothing ahead, a step gives the end and leaves the walk as it is
pub ends : (s : List ℕ) (w : Result Position (Refusal × ℕ)) → Stands s w (Fields []) → step_of s w ≡ record { given = (Ok None); next = w }
ends s w h = by (step_of s w).given refl
  where
    by : (g : Result (Option FieldAt) (Refusal × ℕ)) → (step_of s w).given ≡ g → step_of s w ≡ record { given = (Ok None); next = w }
    by (Ok None) e = λ i. record { given = e i; next = stays s w (λ a g. let z : ◌≡◌ {A = ℕ} 0 1 = cc in omega arith) i }
    by (Err (g, p)) e =
        let none = step-refused s w (Fields []) h g p e in
        let z : ◌≡◌ {A = ℕ} 0 1 = cc in absurd (omega arith)
    by (Ok (Some a)) e =
        let none = (step_stands s w (Fields []) h a e).first in
        let z : ◌≡◌ {A = ℕ} 0 1 = cc in absurd (omega arith)

walked_fields : (s : List ℕ) (w : Result Position (Refusal × ℕ)) (fs : List Field) → Stands s w (Fields fs) → walked (length fs) s w ≡ map given_of fs
walked_fields s w [] h = refl
walked_fields s w (f ∷ fs) h =
    let one = steps s w f fs h in
    ap₂ ◌∷◌ one.given (walked_fields s (step_of s w).next fs one.next)

walked_to_end : (s : List ℕ) (w : Result Position (Refusal × ℕ)) (fs : List Field) → Stands s w (Fields fs) → Stands s (after (length fs) s w) (Fields [])
walked_to_end s w [] h = h
walked_to_end s w (f ∷ fs) h = walked_to_end s (step_of s w).next fs (steps s w f fs h).next

-- a walk that stays gives the same for ever
same_again : (s : List ℕ) (w : Result Position (Refusal × ℕ)) (g : Result (Option FieldAt) (Refusal × ℕ)) (n : ℕ) → step_of s w ≡ record { given = g; next = w } → walked n s w ≡ replicate n g
same_again s w g zero e = refl
same_again s w g (suc n) e =
    ap₂ ◌∷◌ (ap (λ (x : WalkStep). x.given) e) (ap (λ (v : Result Position (Refusal × ℕ)). walked n s v) (ap (λ (x : WalkStep). x.next) e) ∙ same_again s w g n e)

-- where a sheet is known, so is what is ahead at its start
pub starts : (s : List ℕ) (r : Scan) → sheet_of s ≡ r → Stands s (start_walk s) r
starts s r e = subst (Stands s (start_walk s)) e (start_stands s)

-- The walk over a legal sheet gives its fields,
pub walk_gives : (s : List ℕ) (fs : List Field) → sheet_of s ≡ Fields fs → walked (length fs) s (start_walk s) ≡ map given_of fs
walk_gives s fs e = walked_fields s (start_walk s) fs (starts s (Fields fs) e)

-- then the end, again and again,
pub walk_ends : (s : List ℕ) (fs : List Field) (n : ℕ) → sheet_of s ≡ Fields fs → walked n s (after (length fs) s (start_walk s)) ≡ replicate n (Ok None)
walk_ends s fs n e =
    same_again s (after (length fs) s (start_walk s)) (Ok None) n
    (ends s (after (length fs) s (start_walk s)) (walked_to_end s (start_walk s) fs (starts s (Fields fs) e)))

-- and the walk over a refused sheet its refusal alone.
pub walk_refused : (s : List ℕ) (f : Refusal) (p n : ℕ) → sheet_of s ≡ Refused f p → walked n s (start_walk s) ≡ replicate n (Err (f, p))
walk_refused s f p n e =
    ap (λ (r : Scan). walked n s (walk_of r)) e ∙ same_again s (Err (f, p)) (Err (f, p)) n refl

in_sheet_lem : (s : List ℕ) (w : Result Position (Refusal × ℕ)) (fs : List Field) (f : Field) → Stands s w (Fields fs) → Memᴰ f fs → InSheet s f
in_sheet_lem s w [] f h m = absurd (Memᴰ.not-nil m)
in_sheet_lem s w (g ∷ fs) f h m =
    let one = steps s w g fs h in
    ⊎_elim (λ e. subst (InSheet s) (sym e) one.in_sheet) (λ later. in_sheet_lem s (step_of s w).next fs f one.next later) (Memᴰ.cases_cons m)

-- Each field's content is the part of the sheet that starts 3 bytes after its place.
pub content_in_sheet : (s : List ℕ) (fs : List Field) (f : Field) → sheet_of s ≡ Fields fs → Memᴰ f fs → InSheet s f
content_in_sheet s fs f e m = in_sheet_lem s (start_walk s) fs f (starts s (Fields fs) e) m

-- the fields ahead have no lesser places than the walk
ahead : (s : List ℕ) (w : Result Position (Refusal × ℕ)) (fs : List Field) (f : Field) → Stands s w (Fields fs) → Memᴰ f fs → length s - f.place ≤ left s w
ahead s w [] f h m = absurd (Memᴰ.not-nil m)
ahead s w (g ∷ fs) f h m =
    let one = steps s w g fs h in
    let here : left s w ≡ length s - g.place = one.here in
    let less : left s (step_of s w).next < left s w = one.less in
    ⊎_elim (λ e. same e here) (λ later. behind less (ahead s (step_of s w).next fs f one.next later)) (Memᴰ.cases_cons m)
  where
    same : f ≡ g → left s w ≡ length s - g.place → length s - f.place ≤ left s w
    same e here = let place : f.place ≡ g.place = ap (λ (x : Field). x.place) e in omega arith

    behind : {a b c : ℕ} → b < c → a ≤ b → a ≤ c
    behind h k = omega arith

-- Places rise along a walk, so no two fields have the same.
pub rising : (s : List ℕ) (w : Result Position (Refusal × ℕ)) (f g : Field) (fs : List Field) → Stands s w (Fields (f ∷ fs)) → Memᴰ g fs → f.place < g.place
rising s w f g fs h m =
    let one = steps s w f fs h in
    let here : left s w ≡ length s - f.place = one.here in
    let less : left s (step_of s w).next < left s w = one.less in
    let behind : length s - g.place ≤ left s (step_of s w).next = ahead s (step_of s w).next fs g one.next m in
    omega arith

-- ---- a worked sheet: a group that holds a word, then a note of one byte
worked :
    walked 4 (0x20 ∷ 0 ∷ 7 ∷ 0x10 ∷ 0 ∷ 4 ∷ 0xE8 ∷ 0 ∷ 0 ∷ 0x49 ∷ 0x12 ∷ 0 ∷ 1 ∷ 65 ∷ []) (start_walk (0x20 ∷ 0 ∷ 7 ∷ 0x10 ∷ 0 ∷ 4 ∷ 0xE8 ∷ 0 ∷ 0 ∷ 0x49 ∷ 0x12 ∷ 0 ∷ 1 ∷ 65 ∷ []))
    ≡ Ok (Some (record { place = 0; depth = 1; kind = FieldKind.Group; length = 7 }))
    ∷ Ok (Some (record { place = 3; depth = 2; kind = FieldKind.Word; length = 4 }))
    ∷ Ok (Some (record { place = 10; depth = 1; kind = FieldKind.Note; length = 1 }))
    ∷ (Ok None) ∷ []
unfolding scan
worked = refl
