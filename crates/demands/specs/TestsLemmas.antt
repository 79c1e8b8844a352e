-- Each test that decoding makes says just what the layouts ask.
-- Assumes nothing.
use Rattle.std.specs.Prelude.{◌≡◌, refl, Bool, true, not, ◌&&◌, ◌↔◌, ◌≢◌, ℕ, zero, suc, ◌+◌, ◌*◌, ◌%◌, ◌^◌, ◌<◌, ◌≤◌, eqb, leb}
use Rattle.std.proofs.Common.{sym, ap, ap₂, subst, ◌∙◌, arith, eq-eqb, ne_eqb, eqb-true, ltb-true, le-leb, leb-true, lit<}
use Rattle.std.proofs.Math.Path.{subst⁻¹}
use Rattle.std.proofs.Math.Bool.{and-true}
use Rattle.std.proofs.lemmas.Bool.{eqb-false, not-true}
use Rattle.std.specs.Int.Count.{ones, ones_in}
use Rattle.bits.specs.Fields.{bits, digits}
use Rattle.bits.specs.Laws.{both_true}
use Rattle.bits.specs.Parity.{odd, ones_in_lem}
use Rattle.statuses.specs.Statuses.{decimal_code, decimal_status, decimal_listed}
use Rattle.codes.specs.Codes.{marker_of, marker_listed, marker_code_lem}
use Rattle.frequencies.specs.Frequencies.{mls_tens, vhf_range, frequency_in}
use Rattle.channels.specs.Raster.{MlsChannel, Under}
use Rattle.channels.specs.Channels.{is_mls}
use Rattle.channels.proofs.RasterLaws.{mls_test}
use Rattle.frequencies.specs.declared.Band.{Band}
use Rattle.records.specs.declared.Kind.{Kind}
use Rattle.codes.specs.declared.Marker.{Marker}
use Rattle.statuses.specs.declared.Status.{Status}
use Rattle.decode.specs.Rules.{rules}
use Rattle.roundtrip.specs.Digits.{digits-say}
use Rattle.roundtrip.specs.Forth.{marker_listed_lem}
use Rattle.demands.specs.Holds.{bit, sum, number, DecimalStatus, MarkerIs, VhfIs, SentAs, MlsIs}
use Rattle.demands.specs.HoldsLemmas.{sum-digits, field_lt, status_bits_lem, marker_is, decimal-only, decimal_read, decimal-holds, vhf_is, tens_sent, never_two, mls-only, mls-holds}
use Rattle.demands.specs.Legal.{Vhf}
use Rattle.demands.specs.Allowed.{DecimalDigits, OnChannel, asks}

-- a test that always passes
pub always : (true ≡ true) ↔ Unit {0}
always = (λ e. tt, λ u. refl)

pub odd_test : (w : ℕ) → w < 2 ^ 32 → (odd w ≡ true) ↔ (ones w % 2 ≡ 1)
odd_test w h =
    let o : ones w ≡ ones_in 32 w = ones_in_lem 32 w h in (
      λ e. ap (λ (x : ℕ). x % 2) o ∙ eqb-true (ones_in 32 w % 2) 1 e,
      λ e. eq-eqb (ones_in 32 w % 2) 1 (ap (λ (x : ℕ). x % 2) (sym o) ∙ e),
    )

equal_test : (n m : ℕ) → (eqb n m ≡ true) ↔ (n ≡ m)
equal_test n m = (eqb-true n m, eq-eqb n m)

pub at-most_test : (n m : ℕ) → (leb n m ≡ true) ↔ (n ≤ m)
at-most_test n m = (leb-true n m, le-leb n m)

pub both_test : {a b : Bool} {P Q : Type 0} → (a ≡ true) ↔ P → (b ≡ true) ↔ Q → ((a && b) ≡ true) ↔ (P × Q)
both_test {a} {b} p q = (λ e. let c = both_true a b e in (p.0 c.0, q.0 c.1), λ h. ap₂ ◌&&◌ (p.1 h.0) (q.1 h.1))

pub marker_test : (w : ℕ) → (marker_listed (bits 11 13 w) ≡ true) ↔ ((m : Marker) × MarkerIs m w)
marker_test w = (
  λ e. let m : Marker = marker_of (bits 11 13 w) in (m, (marker_is m w).1 (marker_code_lem (bits 11 13 w) e)),
  λ s. ap marker_listed (sym ((marker_is s.0 w).0 s.1)) ∙ marker_listed_lem s.0,
)

-- the four digits, as the test reads them and as the statement does
at-most_9 : (o w : ℕ) → (leb (digits o 4 w) 9 ≡ true) ↔ (sum (suc o) 4 w ≤ 9)
at-most_9 o w = rw (sum-digits o 4 w) (at-most_test (digits o 4 w) 9)

pub digits_test : (w : ℕ) → ((leb (bits 15 18 w) 9 && (leb (bits 19 22 w) 9 && leb (bits 23 26 w) 9)) ≡ true) ↔ DecimalDigits w
digits_test w =
    let t = both_test (at-most_9 14 w) (both_test (at-most_9 18 w) (at-most_9 22 w)) in
    (λ e. let d = t.0 e in (d.0, d.1.0, d.1.1), λ d. t.1 (d.0, (d.1, d.2)))

decimal-listed : (s : Status) (w : ℕ) → DecimalStatus s w → decimal_listed (decimal_code s) ≡ true
decimal-listed Status.Failure w h = absurd h
decimal-listed Status.NoData w h = refl
decimal-listed Status.Test w h = refl
decimal-listed Status.Ready w h = refl

decimal-found : (w c : ℕ) → c ≡ bits 30 31 w → decimal_listed c ≡ true → (s : Status) × DecimalStatus s w
decimal-found w zero e h = (Status.Ready, (status_bits_lem 0 0 w (lit< tt) (lit< tt)).1 e)
decimal-found w (suc zero) e h = (Status.NoData, (status_bits_lem 1 0 w (lit< tt) (lit< tt)).1 e)
decimal-found w (suc (suc zero)) e h = (Status.Test, (status_bits_lem 0 1 w (lit< tt) (lit< tt)).1 e)
decimal-found w (suc (suc (suc c))) e h = absurd (omega (arith, ltb-true (suc (suc (suc c))) 3 h))

pub status_test : (w : ℕ) → (decimal_listed (bits 30 31 w) ≡ true) ↔ ((s : Status) × DecimalStatus s w)
status_test w = (
  λ e. decimal-found w (bits 30 31 w) refl e,
  λ h. ap decimal_listed (sym (decimal-only h.0 w h.1)) ∙ decimal-listed h.0 w h.1,
)

unequal_test : (n m : ℕ) → (not (eqb n m) ≡ true) ↔ (n ≢ m)
unequal_test n m = (λ e. eqb-false n m (not-true (eqb n m) e), λ e. ap not (ne_eqb n m e))

pub tens_test : (w : ℕ) → (not (eqb (bits 27 29 w) 2) ≡ true) ↔ ((tens : ℕ) × SentAs tens (number 27 29 w))
tens_test w =
    rw (sum-digits 26 3 w) (
      λ e. (mls_tens (bits 27 29 w), tens_sent (bits 27 29 w) (field_lt 26 3 w) ((unequal_test (bits 27 29 w) 2).0 e)),
      λ h. (unequal_test (bits 27 29 w) 2).1 (never_two h.0 (bits 27 29 w) h.1),
    )

pub vhf_codes : (w : ℕ) → ((decimal_listed (bits 30 31 w) && true) ≡ true) ↔ ((s : Status) × DecimalStatus s w)
vhf_codes w =
    let t = and-true (decimal_listed (bits 30 31 w)) in
    (λ e. (status_test w).0 (sym t ∙ e), λ n. t ∙ (status_test w).1 n)

-- bits 31 and 30 of a part
pub part_test : (p q w : ℕ) → p < 2 → q < 2 → (eqb (bits 30 31 w) (p + 2 * q) ≡ true) ↔ ((bit 31 w ≡ q) × (bit 30 w ≡ p))
part_test p q w hp hq =
    let t = equal_test (bits 30 31 w) (p + 2 * q) in
    let b = status_bits_lem p q w hp hq in
    (λ e. let c = b.1 (sym (t.0 e)) in (c.1.0, c.0), λ h. t.1 (sym (b.0 (h.1, (h.0, tt)))))

digits_in : (w : ℕ) → DecimalDigits w → (bits 15 18 w ≤ 9) × (bits 19 22 w ≤ 9) × (bits 23 26 w ≤ 9)
digits_in w d = (leb-true _ 9 ((at-most_9 14 w).1 d.0), leb-true _ 9 ((at-most_9 18 w).1 d.1), leb-true _ 9 ((at-most_9 22 w).1 d.2))

-- a VOR or ILS word with decimal digits: the test of its frequency, under its status, says what is asked under each status that it has
module _ (w : ℕ) (d : DecimalDigits w) (C : ℕ → Type 0) where
  abbrev f : ℕ
  f = frequency_in Band.Vor w

  said : Vhf f
  said = let n = digits_in w d in vhf_range f (digits-say Band.Vor (bits 15 18 w) (bits 19 22 w) (bits 23 26 w) (bits 27 29 w) n.0 n.1 n.2 (field_lt 26 3 w) refl)

  on_channel : C f ↔ OnChannel VhfIs C w
  on_channel = (λ c. (f, sym (vhf_is w), c), λ h. subst C (h.1 ∙ vhf_is w) h.2)

  under : (s : Status) → Under s (C f) (Vhf f) ↔ Under s (OnChannel VhfIs C w) Unit
  under Status.Failure = (λ r. tt, λ u. said)
  under Status.NoData = (λ r. tt, λ u. said)
  under Status.Test = on_channel
  under Status.Ready = on_channel

  pub vhf-value : (test : Status → Bool) → ((s : Status) → (test s ≡ true) ↔ Under s (C f) (Vhf f)) → (s : Status) × DecimalStatus s w
      → (test (decimal_status (bits 30 31 w)) ≡ true) ↔ ((s : Status) → DecimalStatus s w → Under s (OnChannel VhfIs C w) Unit)
  vhf-value test right c =
      let its = decimal_status (bits 30 31 w) in (
        λ e s h. subst⁻¹ (λ (t : Status). Under t (OnChannel VhfIs C w) Unit) (decimal_read s w h) ((under its).0 ((right its).0 e)),
        λ g. (right its).1 ((under its).1 (g its (decimal-holds w c))),
      )

-- the tens code of a channel is never 2
channel_tens : (h s u t k : ℕ) → h ≤ 9 → s ≤ 9 → u ≤ 9 → 500000 + (((t * 10 + u) * 10 + s) * 10 + h) ≡ 503100 + 30 * k → 3 ≤ t
channel_tens h s u t k a b c e = omega arith

not_two : (c : ℕ) → 3 ≤ mls_tens c → c ≢ 2
not_two c h e = let z : 3 ≤ 2 = subst (λ (x : ℕ). 3 ≤ mls_tens x) e h in omega arith

pub channel_test : (w : ℕ) → DecimalDigits w → (is_mls (frequency_in Band.Mls w) ≡ true) ↔ OnChannel MlsIs MlsChannel w
channel_test w d =
    let n = digits_in w d in
    let t = mls_test (frequency_in Band.Mls w) in (
      λ e.
          let c = t.0 e in
          let l = channel_tens (bits 15 18 w) (bits 19 22 w) (bits 23 26 w) (mls_tens (bits 27 29 w)) c.0 n.0 n.1 n.2 c.2 in
          let s = (tens_test w).0 ((unequal_test (bits 27 29 w) 2).1 (not_two (bits 27 29 w) l)) in
          (frequency_in Band.Mls w, mls-holds w s.0 s.1, c),
      λ h. t.1 (subst MlsChannel (mls-only h.0 w h.1) h.2),
    )

-- the four tests of a kind
pub record Tested (k : Kind) (w : ℕ) : Type 0 where
  pub digits : ((rules k w).digits ≡ true) ↔ (asks k w).digits
  pub codes : ((rules k w).codes ≡ true) ↔ (asks k w).codes
  pub value : (asks k w).digits → (asks k w).codes → ((rules k w).value ≡ true) ↔ (asks k w).value
  pub angle : ((rules k w).angle ≡ true) ↔ (asks k w).angle
