-- What the lists of a page tell beside the numbers of the single call: element i has the refusal and the count that lampcygnet_decode gives of word i.
-- Assumes nothing.
use Rattle.std.specs.Prelude.{◌≡◌, refl, List, ℕ, ◌<◌, ℤ, pos, length, get_or, Result, Ok, Err}
use Rattle.std.proofs.Common.{sym, ◌∙◌}
use Rattle.records.specs.declared.Body.{Body}
use Rattle.decode.specs.Decode.{decode_of}
use Rattle.records.specs.declared.Record.{Record}
use Rattle.refusals.specs.declared.Refusal.{Refusal}
use Rattle.measurements.specs.Measurements.{measurement_of}
use Rattle.pages.specs.Page.{refusal_in, count_in, count_of, page_of}
use Rattle.pages.specs.Statements.{Fits}
use Rattle.pages.proofs.Theorems.{answered}
use Rattle.flat_records.specs.Numbers.{flat_numbers, flat_of}
use Rattle.flat_laws.specs.Refusals.{accepted-number}

-- the count among the numbers of each kind
count-among : (n s : ℕ) (b : Body) → (flat_numbers n s b).count ≡ count_in (measurement_of b)
count-among n s (Body.VorAzimuth status marker count) = refl
count-among n s (Body.VorFrequency status frequency) = refl
count-among n s (Body.IlsCourse status inhibit count) = refl
count-among n s (Body.IlsGlide status inhibit count) = refl
count-among n s (Body.IlsFrequency status category frequency) = refl
count-among n s (Body.MlsFrequency status frequency) = refl
count-among n s (Body.MlsAzimuthDeviation status inhibit clearance count) = refl
count-among n s (Body.MlsGlideDeviation status inhibit clearance count) = refl
count-among n s (Body.SelectedAzimuth status manual degrees) = refl
count-among n s (Body.GreatestGlideAngle status tenths) = refl
count-among n s (Body.SelectedGlideAngle status manual tenths) = refl
count-among n s (Body.Part1 number content) = refl
count-among n s (Body.Part2 content) = refl
count-among n s (Body.Part3 content) = refl
count-among n s (Body.Part4 good content) = refl

single_refusal : (d : Result Record Refusal) → (flat_of d).refusal ≡ refusal_in d
single_refusal (Ok r) = accepted-number r
single_refusal (Err f) = refl

single_count : (d : Result Record Refusal) → (flat_of d).count ≡ count_of d
single_count (Ok r) = count-among _ r.source r.body
single_count (Err f) = refl

pub element_told : (words refusals : List ℕ) (counts : List ℤ) → Fits words refusals counts → (i : ℕ) → i < length words
    → (get_or (page_of words refusals counts).refusals i 0 ≡ (flat_of (decode_of (get_or words i 0))).refusal)
    × (get_or (page_of words refusals counts).counts i (pos 0) ≡ (flat_of (decode_of (get_or words i 0))).count)
element_told words refusals counts fits i h =
    let page = answered words refusals counts fits in
    let d = decode_of (get_or words i 0) in
    (page.refusal i h ∙ sym (single_refusal d), page.count i h ∙ sym (single_count d))
