-- A record's word, or its refusal: 2 for a label of more than 8 bits, 4 if a code or the source is outside its list, else 6 if any other field is.
-- Assumes nothing.
use Rattle.std.specs.Prelude.{◌≡◌, false, ◌&&◌, leb, Err}
use Rattle.records.specs.declared.Record.{Record}
use Rattle.refusals.specs.declared.Refusal.{Refusal}
use Rattle.labels.specs.Assignment.{Assignment}
use Rattle.encode.specs.Encode.{codes_listed, encode_with}

pub codes_broken : (a : Assignment) (r : Record) → (leb r.source 3 && codes_listed r.body) ≡ false → encode_with a r ≡ Err Refusal.Code
codes_broken a r c = rw c
