-- What a legal body writes fits its layout, so that the word has 32 bits.
-- Assumes nothing.
use Rattle.std.specs.Prelude.{◌≡◌, true, [], ◌∷◌, ◌++◌, ℕ, ◌+◌, ◌/◌, ◌^◌, ◌<◌, leb}
use Rattle.std.proofs.Common.{subst, arith, leb-true, lit<}
use Rattle.bits.specs.Laws.{both_true, join-lt}
use Rattle.bits.specs.Complement.{complement-lt}
use Rattle.bits.specs.Parity.{parity_lt}
use Rattle.statuses.specs.Statuses.{binary_lt, decimal-lt}
use Rattle.codes.specs.Codes.{marker_lt, category_lt, flag-lt}
use Rattle.records.specs.Kinds.{kind_of}
use Rattle.records.specs.Layouts.{upper_layout}
use Rattle.frequencies.specs.declared.Band.{Band}
use Rattle.records.specs.declared.Body.{Body}
use Rattle.records.specs.declared.Record.{Record}
use Rattle.labels.proofs.LabelLaws.{label_lt}
use Rattle.encode.specs.Fields.{fields_of, status_bits}
use Rattle.encode.specs.Encode.{values_legal, upper_bits, lower_as}
use Rattle.encode.specs.Laws.{below, Writes, digit, tens_fit, upper-size}

pub fields_fit : (b : Body) → values_legal b ≡ true → Writes b
fields_fit (Body.VorAzimuth s m c) e = (marker_lt m, (complement-lt 13 c.0, (binary_lt s, tt)))
fields_fit (Body.VorFrequency s f) e = (digit f, (digit (f / 10), (digit (f / 100), (tens_fit Band.Vor s f e, (decimal-lt s, tt)))))
fields_fit (Body.IlsCourse s i c) e = (flag-lt i, (complement-lt 13 c.0, (binary_lt s, tt)))
fields_fit (Body.IlsGlide s i c) e = (flag-lt i, (complement-lt 13 c.0, (binary_lt s, tt)))
fields_fit (Body.IlsFrequency s k f) e = (category_lt k, (digit f, (digit (f / 10), (digit (f / 100), (tens_fit Band.Ils s f e, (decimal-lt s, tt))))))
fields_fit (Body.MlsFrequency s f) e = (digit f, (digit (f / 10), (digit (f / 100), (tens_fit Band.Mls s f e, (decimal-lt s, tt)))))
fields_fit (Body.MlsAzimuthDeviation s i l c) e = (flag-lt i, (flag-lt l, (complement-lt 16 c.0, (binary_lt s, tt))))
fields_fit (Body.MlsGlideDeviation s i l c) e = (flag-lt i, (flag-lt l, (complement-lt 16 c.0, (binary_lt s, tt))))
fields_fit (Body.SelectedAzimuth s m d) e = (flag-lt m, (omega (arith, leb-true d 359 e), (binary_lt s, tt)))
fields_fit (Body.GreatestGlideAngle s t) e = (parity_lt 8 t (below t 255 e), (binary_lt s, tt))
fields_fit (Body.SelectedGlideAngle s m t) e = (flag-lt m, (below t 511 e, (binary_lt s, tt)))
fields_fit (Body.Part1 n c) e =
    let b = both_true (leb n 255) (leb c 255) e in
    (below n 255 b.0, (below c 255 b.1, (lit< tt, tt)))
fields_fit (Body.Part2 c) e = (below c 65535 e, (lit< tt, tt))
fields_fit (Body.Part3 c) e = (below c 65535 e, (lit< tt, tt))
fields_fit (Body.Part4 g c) e = (flag-lt g, (below c 65535 e, (lit< tt, tt)))

pub upper_lt : (b : Body) → values_legal b ≡ true → upper_bits b < 2 ^ 21
upper_lt b e =
    subst (λ (n : ℕ). upper_bits b < 2 ^ n) (upper-size (kind_of b)) (join-lt (upper_layout (kind_of b)) (fields_of b ++ (status_bits b ∷ [])) (fields_fit b e))

pub lower_lt : (l : ℕ) (r : Record) → r.source < 4 → values_legal r.body ≡ true → lower_as l r < 2 ^ 31
lower_lt l r s e = omega (arith, upper_lt r.body e, label_lt l)
