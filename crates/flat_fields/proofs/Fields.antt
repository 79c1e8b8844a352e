-- The record that numbers stand for, or their refusal: 2 for no kind, 4 for a code or a source outside its list, 6 for a flag above 1 or a value
-- that the record cannot hold. What the kind has no field for is not looked at.
-- Assumes nothing.
use Rattle.std.specs.Prelude.{◌≡◌, refl}
use Rattle.records.specs.declared.Kind.{Kind}
use Rattle.records.specs.All.{agree}
use Rattle.flat_records.specs.declared.FlatRecord.{FlatRecord}
use Rattle.flat_fields.specs.Fields.{listed, flagless}

-- Which numbers are refused with 4 does not depend on a flag: document 01 has lists for codes, and a flag is none.
pub flags_no_code : (f : FlatRecord) (k : Kind) → listed k (flagless f) ≡ listed k f
flags_no_code f k = agree (λ j. listed j (flagless f)) (λ j. listed j f) refl k
