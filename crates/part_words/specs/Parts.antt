-- What a word is to the reassembly of group C: the part that its record carries, or its refusal. Document 01, "The word" and "Refusal numbers".
-- Assumes nothing.
use Rattle.std.specs.Prelude.{ℕ, ◌+◌, ◌*◌, ◌≡◌, false, cond, List, [], ◌∷◌, eqb, Option, Some, None, Result, Ok, Err}
use Rattle.bits.specs.Parity.{odd}
use Rattle.records.specs.All.{place_of}
use Rattle.records.specs.declared.Body.{Body}
use Rattle.records.specs.declared.Kind.{Kind}
use Rattle.records.specs.declared.Kind.TheVariants.{Part1, Part2, Part3, Part4}
use Rattle.refusals.specs.declared.Refusal.TheVariants.{Parity, Label}
use Rattle.labels.specs.Label.{label_of}
use Rattle.labels.specs.Assignment.{Assignment}
use Rattle.labels.proofs.Assignment.{document01}
use Rattle.reassembly_parts.specs.declared.Part.{Part}
use Rattle.records.specs.declared.Record.{Record}
use Rattle.refusals.specs.declared.Refusal.{Refusal}
use Rattle.decode.specs.Decode.{decode_as}
use Rattle.reassembly_parts.specs.declared.Part.TheVariants.{One, Two, Three, Four}

-- the kind, if it is one of the list
abbrev pub among : List Kind → Kind → Option Kind
among [] k = None
among (j ∷ js) k = cond (eqb (place_of k) (place_of j)) (Some k) (among js k)

-- Here the four parts alone have a label: a word of any other kind is one of unknown label, whatever else is wrong with it.
abbrev pub only_parts : Option Kind → Option Kind
only_parts (Some k) = among (Part1 ∷ Part2 ∷ Part3 ∷ Part4 ∷ []) k
only_parts None = None

-- The part that a record carries: its source and its 16 bits, in part one the word number below the content, and in part four whether the parity was good.
abbrev pub part_of : ℕ → Body → Result Part Refusal
part_of source (Body.Part1 number content) = Ok (One source (number + 256 * content))
part_of source (Body.Part2 content) = Ok (Two source content)
part_of source (Body.Part3 content) = Ok (Three source content)
part_of source (Body.Part4 good content) = Ok (Four source content good)
part_of source (Body.VorAzimuth status marker count) = Err Label
part_of source (Body.VorFrequency status frequency) = Err Label
part_of source (Body.IlsCourse status inhibit count) = Err Label
part_of source (Body.IlsGlide status inhibit count) = Err Label
part_of source (Body.IlsFrequency status category frequency) = Err Label
part_of source (Body.MlsFrequency status frequency) = Err Label
part_of source (Body.MlsAzimuthDeviation status inhibit clearance count) = Err Label
part_of source (Body.MlsGlideDeviation status inhibit clearance count) = Err Label
part_of source (Body.SelectedAzimuth status manual degrees) = Err Label
part_of source (Body.GreatestGlideAngle status tenths) = Err Label
part_of source (Body.SelectedGlideAngle status manual tenths) = Err Label

abbrev pub part_read : Result Record Refusal → Result Part Refusal
part_read (Ok r) = part_of r.source r.body
part_read (Err f) = Err f

-- a word, under an assignment of labels: it is decoded by the labels of the parts
abbrev pub part_with : Assignment → ℕ → Result Part Refusal
part_with a w = part_read (decode_as (only_parts (a.kind (label_of w))) w)

-- a word, under document 01's labels
abbrev pub part_in : ℕ → Result Part Refusal
part_in w = part_with document01 w

pub parity_broken : (a : Assignment) (w : ℕ) → odd w ≡ false → part_with a w ≡ Err Parity
parity_broken a w p = rw p
