-- Words as numbers: a word gives numbers that are written to that word, and numbers that are written to a word are its own. The order of the
-- refusals of numbers: 2, then 4, then 6.
-- Assumes nothing.
use Rattle.std.specs.Prelude.{◌≡◌, refl, Bool, true, false, ◌&&◌, ℕ, leb, Option, Some, None, Result, Ok, Err}
use Rattle.std.proofs.Common.{sym, ap, ap₂, ◌∙◌, arith}
use Rattle.std.proofs.lemmas.Bool.{false≢true}
use Rattle.bits.specs.Laws.{both_true}
use Rattle.refusals.specs.Numbers.{number_of}
use Rattle.refusals.proofs.Numbers.{number-bounds}
use Rattle.records.specs.declared.Kind.{Kind}
use Rattle.refusals.specs.declared.Refusal.{Refusal}
use Rattle.labels.proofs.Assignment.{document01}
use Rattle.records.specs.declared.Record.{Record}
use Rattle.encode.specs.Encode.{codes_listed, values_legal, values_broken}
use Rattle.encode.proofs.Encode.{codes_broken}
use Rattle.flat_records.specs.declared.FlatRecord.{FlatRecord}
use Rattle.flat_fields.specs.Fields.{kind_at, listed, fits, body_from, record_as, record_of_kind, record_found}
use Rattle.flat_fields.specs.Fields.{codes_broken as numbers-broken, value_broken, all-kept}
use Rattle.flat_words.specs.Words.{flat_word, encoded, encode_flat}
use Rattle.flat_words.specs.declared.FlatWord.{FlatWord}

-- ---- there and back

-- no refusal has the number 0
pub no_number : (x : Refusal) → number_of x ≡ 0 → ⊥
no_number x e = omega (arith, (number-bounds x).0)

pub is_word_lem : (x : Result ℕ Refusal) (w : ℕ) → flat_word x ≡ record { refusal = 0; word = w } → x ≡ Ok w
is_word_lem (Ok v) w e = ap Ok (ap (λ (y : FlatWord). y.word) e)
is_word_lem (Err x) w e = absurd (no_number x (ap (λ (y : FlatWord). y.refusal) e))

-- ---- the order of the refusals

abbrev pub refused_by : Refusal → FlatWord
refused_by x = record { refusal = number_of x; word = 0 }

-- the source and every code of the kind, a frequency's status among them, are in their lists
abbrev pub all_listed : Kind → FlatRecord → Bool
all_listed k f = (leb f.source 3 && listed k f) && codes_listed (body_from k f)

-- every other field is legal
abbrev pub all_legal : Kind → FlatRecord → Bool
all_legal k f = fits k f && values_legal (body_from k f)

-- 2: no kind has the number
pub no_kind : (f : FlatRecord) → kind_at f.kind ≡ None → encode_flat f ≡ refused_by Refusal.Label
no_kind f e = ap (λ (l : Option Kind). flat_word (encoded (record_found l f))) e

-- kinds of which a field may not fit have a code for every status
unfit_coded : (k : Kind) (f : FlatRecord) → fits k f ≡ false → codes_listed (body_from k f) ≡ true
unfit_coded Kind.VorAzimuth f e = refl
unfit_coded Kind.VorFrequency f e = absurd (false≢true (sym e))
unfit_coded Kind.IlsCourse f e = refl
unfit_coded Kind.IlsGlide f e = refl
unfit_coded Kind.IlsFrequency f e = absurd (false≢true (sym e))
unfit_coded Kind.MlsFrequency f e = absurd (false≢true (sym e))
unfit_coded Kind.MlsAzimuthDeviation f e = refl
unfit_coded Kind.MlsGlideDeviation f e = refl
unfit_coded Kind.SelectedAzimuth f e = refl
unfit_coded Kind.GreatestGlideAngle f e = refl
unfit_coded Kind.SelectedGlideAngle f e = refl
unfit_coded Kind.Part1 f e = refl
unfit_coded Kind.Part2 f e = refl
unfit_coded Kind.Part3 f e = refl
unfit_coded Kind.Part4 f e = refl

module _ (f : FlatRecord) (k : Kind) (known : kind_at f.kind ≡ Some k) where
  -- what the numbers of a known kind are written to
  as_kind : encode_flat f ≡ flat_word (encoded (record_of_kind k f))
  as_kind = ap (λ (l : Option Kind). flat_word (encoded (record_found l f))) known

  pub by_tests : (s c v : Bool) → (leb f.source 3 && listed k f) ≡ s → codes_listed (body_from k f) ≡ c → fits k f ≡ v
      → (s && c) ≡ false → encode_flat f ≡ refused_by Refusal.Code
  by_tests false c v es ec ev e = as_kind ∙ ap (λ (d : Result Record Refusal). flat_word (encoded d)) (numbers-broken k f es)
  by_tests true true v es ec ev e = let z : ◌≡◌ {A = ℕ} 0 1 = cc in absurd (omega arith)
  by_tests true false true es ec ev e =
      as_kind
      ∙ ap (λ (d : Result Record Refusal). flat_word (encoded d)) (all-kept k f es ev)
      ∙ ap flat_word (codes_broken document01 (record_as k f) (ap₂ ◌&&◌ (both_true (leb f.source 3) (listed k f) es).0 ec))
  by_tests true false false es ec ev e = absurd (false≢true (sym ec ∙ unfit_coded k f ev))

  by_values : (v l : Bool) → fits k f ≡ v → values_legal (body_from k f) ≡ l → all_listed k f ≡ true → (v && l) ≡ false
      → encode_flat f ≡ refused_by Refusal.Value
  by_values false l ev el c e =
      as_kind
      ∙ ap (λ (d : Result Record Refusal). flat_word (encoded d)) (value_broken k f (both_true (leb f.source 3 && listed k f) (codes_listed (body_from k f)) c).0 ev)
  by_values true true ev el c e = let z : ◌≡◌ {A = ℕ} 0 1 = cc in absurd (omega arith)
  by_values true false ev el c e =
      let b = both_true (leb f.source 3 && listed k f) (codes_listed (body_from k f)) c in
      as_kind
      ∙ ap (λ (d : Result Record Refusal). flat_word (encoded d)) (all-kept k f b.0 ev)
      ∙ ap flat_word (values_broken document01 (record_as k f) (ap₂ ◌&&◌ (both_true (leb f.source 3) (listed k f) b.0).0 b.1) el)

  -- 6: every code and the source are listed, and another field is not legal
  pub value-second : all_listed k f ≡ true → all_legal k f ≡ false → encode_flat f ≡ refused_by Refusal.Value
  value-second c e = by_values (fits k f) (values_legal (body_from k f)) refl refl c e
