-- Demand 3, sentence by sentence, as a statement about any coder and printer of figures. Distances are exact: they are sizes of differences
-- of whole numbers, both sides multiplied by the step's denominator (`Statements` of the crate `quantities`).
-- Assumes nothing.
use Rattle.std.specs.Prelude.{◌≡◌, ◌≢◌, ◌⊎◌, ◌↔◌, false, ℕ, ◌-◌, ◌*◌, ◌/◌, ◌^◌, ◌≤◌, ◌<◌, ℤ, pos, neg_ℤ, ◌≤ℤ◌, ◌<ℤ◌, Result, Ok, Err}
use Rattle.bits.specs.Fields.{bits}
use Rattle.bits.specs.Complement.{signed}
use Rattle.rounding.specs.Rounding.{Even}
use Rattle.refusals.specs.declared.Refusal.{Refusal}
use Rattle.labels.specs.Assignment.{Assignment}
use Rattle.labels.specs.Label.{label_of}
use Rattle.decode.specs.Decode.{decode_with}
use Rattle.quantities.specs.Mls.{IsMls}
use Rattle.quantities.specs.Scale.{scale_of, on_circle}
use Rattle.quantities.specs.Statements.{LegalCount, gap, Away, Printed}
use Rattle.quantities.specs.declared.Quantity.{Quantity}
use Rattle.figures.specs.Coding.{label_for, ready_record}
use Rattle.figures.specs.Five.{rows, table}

-- what the count bits of a word hold
abbrev pub count_bits : Quantity → ℕ → ℤ
count_bits Quantity.Azimuth w = signed 13 (bits 17 29 w)
count_bits Quantity.Course w = signed 13 (bits 17 29 w)
count_bits Quantity.Glide w = signed 13 (bits 17 29 w)
count_bits Quantity.MlsAzimuth w = signed 16 (bits 14 29 w)
count_bits Quantity.MlsGlide w = signed 16 (bits 14 29 w)

-- a word of 32 bits with the label of the quantity, which is accepted as a ready record of this source: every field is zero but the
-- count, which is what its count bits hold
pub record ReadyWord (a : Assignment) (q : Quantity) (source w : ℕ) : Type 0 where
  pub size : w < 2 ^ 32
  pub label : label_of w ≡ label_for a q
  pub accepted : decode_with a w ≡ Ok (ready_record q source (count_bits q w))

-- `code label source figure` is what coding a figure gives, and `print q c` the whole number of millionths printed for a count.
-- "Take any of the five measured quantities, any legal source and any figure in whole millionths that 64 bits can hold."
pub record Demand3 (a : Assignment) (code : ℕ → ℕ → ℤ → Result ℕ Refusal) (print : Quantity → ℤ → ℤ) : Type 0 where
  -- the five quantities, each with its label, its step and its legal counts: `scale_of` and `label_for` are document 01's, with request 3's MLS step
  pub five : rows a ≡ table a
  -- "Steps: azimuth 45/1024 degree (bit 28 is 90 degrees); course 1/10240 and glide 1/5120 of modulation depth difference (bit 28 is half of 0.4 and of 0.8)":
  -- the value of the count that bit 28 alone makes is that figure
  pub bit_28_azimuth : gap (scale_of Quantity.Azimuth) (pos 90000000) (count_bits Quantity.Azimuth (2 ^ (28 - 1))) ≡ 0
  pub bit_28_course : gap (scale_of Quantity.Course) (pos (400000 / 2)) (count_bits Quantity.Course (2 ^ (28 - 1))) ≡ 0
  pub bit_28_glide : gap (scale_of Quantity.Glide) (pos (800000 / 2)) (count_bits Quantity.Glide (2 ^ (28 - 1))) ≡ 0
  -- request 3: "Bits that halve from 1200 mV end at 75/1024 mV": bit 28 is 1200 mV, and the count's lowest bit, 14, is one step
  pub bit_28_mls : (q : Quantity) → IsMls q → gap (scale_of q) (pos 1200000000) (count_bits q (2 ^ (28 - 1))) ≡ 0
  pub bit_14_mls : (q : Quantity) → IsMls q → count_bits q (2 ^ (14 - 1)) ≡ pos 1
  -- "A course, glide or MLS figure is refused exactly when no legal value lies within half a step of it."
  pub deviation_refused : (q : Quantity) → on_circle q ≡ false → (source : ℕ) → source ≤ 3 → (figure : ℤ)
      → (code (label_for a q) source figure ≡ Err Refusal.Reach)
      ↔ ((c : ℤ) → LegalCount (scale_of q) c → ¬ (2 * gap (scale_of q) figure c ≤ (scale_of q).numerator))
  -- request 3: "The figure 2399963378 is coded and 2399963379 refused; -2400036621 is coded and -2400036622 refused."
  pub mls-refused : (q : Quantity) → IsMls q → (source : ℕ) → source ≤ 3 → (figure : ℤ)
      → (code (label_for a q) source figure ≡ Err Refusal.Reach)
      ↔ ((figure <ℤ neg_ℤ (pos 2400036621)) ⊎ (pos 2399963378 <ℤ figure))
  -- "An azimuth is refused exactly when it is below -180, or is 360 or more."
  pub azimuth_refused : (source : ℕ) → source ≤ 3 → (figure : ℤ)
      → (code (label_for a Quantity.Azimuth) source figure ≡ Err Refusal.Reach)
      ↔ ((figure <ℤ neg_ℤ (pos 180000000)) ⊎ (pos 360000000 ≤ℤ figure))
  -- "All the rest are coded, each as the accepted word of that quantity and source that document 01 gives."
  pub rest_coded : (q : Quantity) (source : ℕ) → source ≤ 3 → (figure : ℤ)
      → (code (label_for a q) source figure ≡ Err Refusal.Reach)
      ⊎ ((w : ℕ) × (code (label_for a q) source figure ≡ Ok w) × ReadyWord a q source w)
  -- the coded count is a legal one
  pub legal : (q : Quantity) (source : ℕ) → source ≤ 3 → (figure : ℤ) (w : ℕ) → code (label_for a q) source figure ≡ Ok w
      → LegalCount (scale_of q) (count_bits q w)
  -- "No other legal count of that quantity then has a value nearer to the figure than the coded count's;"
  pub none_nearer : (q : Quantity) (source : ℕ) → source ≤ 3 → (figure : ℤ) (w : ℕ) → code (label_for a q) source figure ≡ Ok w
      → (other : ℤ) → LegalCount (scale_of q) other
      → (d e : ℕ) → Away q figure (count_bits q w) d → Away q figure other e → d ≤ e
  -- "where another is equally near, the coded count is the even one."
  pub even_if_tied : (q : Quantity) (source : ℕ) → source ≤ 3 → (figure : ℤ) (w : ℕ) → code (label_for a q) source figure ≡ Ok w
      → (other : ℤ) → LegalCount (scale_of q) other → other ≢ count_bits q w
      → (d : ℕ) → Away q figure (count_bits q w) d → Away q figure other d → Even (count_bits q w)
  -- request 3: "no MLS figure is then a tie." Nor is one of another quantity: every other legal count lies farther than the coded one
  pub untied : (q : Quantity) (source : ℕ) → source ≤ 3 → (figure : ℤ) (w : ℕ) → code (label_for a q) source figure ≡ Ok w
      → (other : ℤ) → LegalCount (scale_of q) other → other ≢ count_bits q w
      → (d e : ℕ) → Away q figure (count_bits q w) d → Away q figure other e → d < e
  -- "For azimuth we measure the shorter way round the circle." `Away` is that distance, the least over all whole turns; every count has one
  pub distance : (q : Quantity) (figure c : ℤ) → (d : ℕ) × Away q figure c d
  pub one-distance : (q : Quantity) (figure c : ℤ) (d e : ℕ) → Away q figure c d → Away q figure c e → d ≡ e
  -- "Printing rounds the count's exact value to the nearest millionth, ties to the even one."
  pub printed : (q : Quantity) (c : ℤ) → Printed q c (print q c)
  -- "And the value of every legal count, printed to six decimals, codes back to that count under every legal source."
  pub codes_back : (q : Quantity) (c : ℤ) → LegalCount (scale_of q) c → (source : ℕ) → source ≤ 3
      → (w : ℕ) × (code (label_for a q) source (print q c) ≡ Ok w) × (count_bits q w ≡ c)

-- "Coding a figure takes label, source and a signed 64-bit whole number of millionths. Order: 2, 4, 8." Demand 3 says when 8 is given.
pub record Order (a : Assignment) (code : ℕ → ℕ → ℤ → Result ℕ Refusal) : Type 0 where
  -- 2: a label that is none of the five, whatever the source and the figure
  pub label_first : (label : ℕ) → ((q : Quantity) → label ≢ label_for a q) → (source : ℕ) (figure : ℤ)
      → code label source figure ≡ Err Refusal.Label
  -- 4: one of the five and a source above 3, whatever the figure
  pub source_second : (q : Quantity) (source : ℕ) → 3 < source → (figure : ℤ)
      → code (label_for a q) source figure ≡ Err Refusal.Code
