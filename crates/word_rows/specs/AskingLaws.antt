-- The answer by the row of a word's kind is the single call's: the row's tests are the kind's rules, and the count is that of the record.
-- Assumes nothing.
use Rattle.std.specs.Prelude.{◌≡◌, refl, Bool, true, false, not, cond, ℕ, ◌/◌, ◌%◌, ◌^◌, ◌<◌, T, eqb, leb, Option, None, Result, Ok, Err}
use Rattle.std.proofs.Common.{sym, ap, ◌∙◌, mod-lt, arith, le-leb, lit<}
use Rattle.std.specs.Int.Bits.{bit_and}
use Rattle.std.specs.Int.Count.{ones_in}
use Rattle.std.proofs.Math.Pow.{mod-mod-pow}
use Rattle.bits.specs.Fields.{bits}
use Rattle.bits.specs.Layout.{clear, mask}
use Rattle.bits.proofs.Laws.{mask_test}
use Rattle.bits.specs.Parity.{odd}
use Rattle.refusals.specs.declared.Refusal.{Refusal}
use Rattle.records.specs.All.{agree}
use Rattle.records.specs.Layouts.{word_layout}
use Rattle.records.proofs.Layouts.{whole}
use Rattle.records.specs.declared.Kind.{Kind}
use Rattle.records.specs.declared.Record.{Record}
use Rattle.labels.specs.BytesLemmas.{every, every-at}
use Rattle.decode.specs.Decode.{judged, decode_as}
use Rattle.measurements.specs.Measurements.{measurement_of}
use Rattle.pages.specs.Page.{count_in, answer_in, answer_of}
use Rattle.pages.specs.declared.Answer.{Answer}
use Rattle.word_rows.specs.RowLemmas.{byte_miss}
use Rattle.word_rows.specs.Rows.{asked, candidate}
use Rattle.word_rows.specs.declared.Asked.{Asked}
use Rattle.word_rows.specs.Asking.{is_listed, most, checked, plain_judgement, refused, judged_answer, unknown_answer}

-- ---- the codes

abbrev alike : Bool → Bool → Bool
alike true b = b
alike false b = not b

alike_same : (a b : Bool) → T (alike a b) → a ≡ b
alike_same true true t = refl
alike_same true false t = absurd t
alike_same false true t = absurd t
alike_same false false t = refl

-- two tests that agree on each of the eight codes of three bits
pub eight : (p q : ℕ → Bool) → T (every (λ (c : ℕ). alike (p c) (q c)) 8) → (c : ℕ) → c < 8 → p c ≡ q c
eight p q t c h = alike_same (p c) (q c) (every-at (λ (x : ℕ). alike (p x) (q x)) 8 t c h)

-- code c is in a list of codes
abbrev pub among : (codes c : ℕ) → Bool
among codes c = eqb (codes / 2 ^ c % 2) 1

pub three : (w place : ℕ) → w / 2 ^ place % 8 < 8
three w place = mod-lt (w / 2 ^ place) (lit< tt)

pub every_code : (w : ℕ) → among 0xff (w / 2 ^ 0 % 8) ≡ true
every_code w = eight (among 0xff) (λ c. true) tt (w / 2 ^ 0 % 8) (three w 0)

-- of bits 30 to 32 only the lower two are the part's code
pub part : (k : Kind) (code w : ℕ) → T (every (λ (c : ℕ). alike (among (asked k).codes c) (eqb (c % 4) code)) 8) → among (asked k).codes (w / 2 ^ 29 % 8) ≡ eqb (w / 2 ^ 29 % 4) code
part k code w t =
    eight (among (asked k).codes) (λ (c : ℕ). eqb (c % 4) code) t (w / 2 ^ 29 % 8) (three w 29) ∙ ap (λ (c : ℕ). eqb c code) (mod-mod-pow (w / 2 ^ 29) 1 2)

-- ---- a row's tests and count are those of its kind

pub any-setting : (w : ℕ) → leb (bits 20 28 w) 511 ≡ true
any-setting w = le-leb (bits 20 28 w) 511 (omega arith)

-- the three tests of a word that is no frequency
abbrev plain : (listed within right : Bool) → Result Unit Refusal
plain listed within right = cond listed (cond within (cond right (Ok tt) (Err Refusal.AngleParity)) (Err Refusal.Value)) (Err Refusal.Code)

pub judged_by : (a : Asked) (w : ℕ) {listed within right : Bool} → is_listed a w ≡ listed → leb (bits 20 28 w) (most a) ≡ within → odd (checked a w) ≡ right → plain_judgement a w ≡ plain listed within right
judged_by a w e f g = λ i. plain (e i) (f i) (g i)

pub one-odd : odd 1 ≡ true
unfolding ones_in
one-odd = refl

-- a kind that only lists codes
pub coded : (k : Kind) (w : ℕ) {listed : Bool} → is_listed (asked k) w ≡ listed → (asked k).limited ≡ 0 → (asked k).angle ≡ 0 → plain_judgement (asked k) w ≡ plain listed true true
coded k w e l a =
    judged_by (asked k) w e (ap (λ (n : ℕ). leb (bits 20 28 w) (cond (eqb n 1) 359 511)) l ∙ any-setting w) (ap (λ (n : ℕ). odd (cond (eqb n 1) (bits 20 28 w) 1)) a ∙ one-odd)

asked-zeros : (k : Kind) → (asked k).zeros ≡ mask (word_layout k)
asked-zeros = agree (λ k. (asked k).zeros) (λ k. mask (word_layout k)) refl

pub cleared : (k : Kind) (w : ℕ) → eqb (bit_and w (asked k).zeros) 0 ≡ clear (word_layout k) w
cleared k w = ap (λ (z : ℕ). eqb (bit_and w z) 0) (asked-zeros k) ∙ mask_test (word_layout k) w (whole k)

-- ---- the answer

pub judged-answer : (j : Result Unit Refusal) (r : Record) → judged_answer j (count_in (measurement_of r.body)) ≡ answer_in (judged j r)
judged-answer (Ok tt) r = refl
judged-answer (Err f) r = refl

-- a test that fails refuses
pub tested : (b : Bool) (x : Answer) (d : Result Record Refusal) (f : Refusal) → x ≡ answer_in d → cond b x (refused f) ≡ answer_in (cond b d (Err f))
tested true x d f e = e
tested false x d f e = refl

pub unknown_answer_lem : (w : ℕ) → unknown_answer w ≡ answer_in (decode_as None w)
unknown_answer_lem w = tested (odd w) (refused Refusal.Label) (Err Refusal.Label) Refusal.Parity refl

module _ (w : ℕ) (a : Asked) (told : a ≡ asked (candidate (w % 256))) where
  pub answer_miss : (a.byte ≡ w % 256 → ⊥) → unknown_answer w ≡ answer_of w
  answer_miss n =
      unknown_answer_lem w
      ∙ ap (λ (l : Option Kind). answer_in (decode_as l w)) (sym (byte_miss w (λ e. n (ap (λ (x : Asked). x.byte) told ∙ e))))
