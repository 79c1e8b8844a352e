-- What each entry point asks, in the order in which it refuses, and how its answers refuse and give. Words have theirs in `Order`, the chart point in `Words` of the crate `chart`,
-- sheets in `Rules` of the crate `fields`.
-- Assumes nothing.
use Rattle.std.specs.Prelude.{◌≡◌, refl, ◌≢◌, ℕ, ◌+◌, ◌%◌, ◌≤◌, ℤ, length, take, drop, Result, Ok, Err, Option, Some, None}
use mathlib.Core.List.{List, [], ◌∷◌, ◌++◌, Memᴰ}
use Rattle.std.specs.Int.Count.{ones}
use Rattle.bits.specs.Fields.{bits}
use Rattle.refusals.specs.Order.{Rule, asks, Answers}
use Rattle.refusals.specs.declared.Refusal.{Refusal}
use Rattle.records.specs.declared.Record.{Record}
use Rattle.labels.specs.Label.{label_of}
use Rattle.labels.proofs.Assignment.{document01}
use Rattle.quantities.specs.Statements.{Beyond}
use Rattle.quantities.specs.declared.Quantity.{Quantity}
use Rattle.figures.specs.Coding.{label_for}
use Rattle.reassembly_parts.specs.Sequence.{InSequence}
use Rattle.reassembly_parts.specs.declared.Group.{Group}
use Rattle.reassembly_parts.specs.declared.Part.{Part}
use Rattle.part_words.specs.Carries.{Carries}
use Rattle.reassembly.specs.declared.Reassembler.{Reassembler}
use Rattle.reassembly.specs.declared.WordAnswer.{WordAnswer}
use Rattle.fields.specs.declared.FieldKind.{FieldKind}
use Rattle.fields.specs.Run.{Field, Fields, sheet_of}
use Rattle.fields.specs.Rules.{length_in, RefusedAt, Written as WrittenAt, sheet_rules, inside_rules}
use Rattle.walk.specs.declared.FieldAt.{FieldAt}
use Rattle.notes.specs.Note.{NoteText, Text, NoText}
use Rattle.totals.specs.declared.Totals.{Totals}
use Rattle.demands.specs.Answers.{Says, refuses, gives, saying}
use Rattle.demands.specs.Legal.{LegalCodes, LegalValues}

-- ---- the rules

-- "Writing a record refuses 4 if any code or source is outside its list, else 6 if any other field is; never otherwise."
abbrev pub record_rules : Record → List (Rule Refusal)
record_rules r = asks (LegalCodes r) Refusal.Code ∷ asks (LegalValues r) Refusal.Value ∷ []

-- the same under a label that is handed in: 2 before both where it has more than 8 bits
abbrev pub record_rules_as : (label : ℕ) → Record → List (Rule Refusal)
record_rules_as label r = asks (label ≤ 255) Refusal.Label ∷ record_rules r

-- "Coding a figure takes label, source and a signed 64-bit whole number of millionths. Order: 2, 4, 8." (`Beyond` is when a figure of a quantity is out of reach)
abbrev pub reach_rule : (label : ℕ) → ℤ → Rule Refusal
reach_rule label figure = record {
  kept = (q : Quantity) → label ≡ label_for document01 q → Beyond q figure → ⊥;
  broken = λ f. (q : Quantity) × (label ≡ label_for document01 q) × Beyond q figure × (f ≡ Refusal.Reach);
}

abbrev pub figure_rules : (label source : ℕ) → ℤ → List (Rule Refusal)
figure_rules label source figure =
    asks ((q : Quantity) × (label ≡ label_for document01 q)) Refusal.Label ∷ asks (source ≤ 3) Refusal.Code ∷ reach_rule label figure ∷ []

-- the same of a quantity, under any label of 8 bits
abbrev pub figure_rules_as : Quantity → (source : ℕ) → ℤ → List (Rule Refusal)
figure_rules_as q source figure = asks (source ≤ 3) Refusal.Code ∷ asks (Beyond q figure → ⊥) Refusal.Reach ∷ []

-- A word as a part: its parity, one of the labels 140 to 143, its zero bits, and bits 31, 30, which read 00 to 11 for parts 1 to 4.
abbrev pub part_rules : ℕ → List (Rule Refusal)
part_rules w =
    asks (ones w % 2 ≡ 1) Refusal.Parity
    ∷ asks ((0o140 ≤ label_of w) × (label_of w ≤ 0o143)) Refusal.Label
    ∷ asks ((label_of w ≡ 0o143 → bits 12 13 w ≡ 0) × (label_of w ≢ 0o143 → bits 11 13 w ≡ 0)) Refusal.ZeroBit
    ∷ asks (label_of w ≡ 0o140 + bits 30 31 w) Refusal.Code
    ∷ []

-- "Parts 2, 3 and 4 are taken only next in turn and from the same source; else 14": last, the part that the word carries is in sequence.
abbrev pub take_rules : Reassembler → ℕ → List (Rule Refusal)
take_rules held w = part_rules w ++ (asks ((p : Part) → Carries document01 p w → InSequence held.group_c p) Refusal.Sequence ∷ [])

-- a content has its kind's length
abbrev pub content_rules : (n : ℕ) → List ℕ → List (Rule Refusal)
content_rules n c = asks (length c ≡ n) Refusal.Length ∷ []

-- the bytes of the field at a place of a sheet: its header and the content that the header tells, as far as there are bytes
abbrev pub own_bytes : List ℕ → (at : ℕ) → List ℕ
own_bytes s at = take (3 + length_in (drop at s)) (drop at s)

-- A top field at a place, with its inside: its own bytes are a run at depth 1 whose first byte has that offset. Legal fields wrote them: one, or none where no byte is left.
abbrev pub top_field_rules : List ℕ → (at : ℕ) → List (Rule (Refusal × ℕ))
top_field_rules s at = record { kept = WrittenAt 1 (own_bytes s at); broken = λ r. RefusedAt 1 at (own_bytes s at) r.0 r.1 } ∷ []

-- the sheet has a note whose tag stands at the place
pub record NoteAt (s : List ℕ) (place : ℕ) : Type 0 where
  pub fields : List Field
  pub legal : sheet_of s ≡ Fields fields
  pub field : Field
  pub among : Memᴰ field fields
  pub note : field.kind ≡ FieldKind.Note
  pub at : field.place ≡ place

-- "A note is asked for by its place: the sheet's own refusal first, then 10 with that place where the walk finds no note."
abbrev pub note_rules : List ℕ → (place : ℕ) → List (Rule (Refusal × ℕ))
note_rules s place = sheet_rules s ++ (asks (NoteAt s place) (Refusal.Tag, place) ∷ [])

-- "The writer adds one field at a given place: 15 if the end would pass 32,768, else 13 if the buffer is too short or the place lies past it." The field has a header of 3 bytes and a content of n.
abbrev pub write_rules : (room place n : ℕ) → List (Rule (Refusal × ℕ))
write_rules room place n = asks (place + 3 + n ≤ 32768) (Refusal.Oversize, 0) ∷ asks (place + 3 + n ≤ room) (Refusal.Room, 0) ∷ []

-- "A group is made from a run of bytes checked first as the inside of a top group: 9 to 12, with the offset in the run, come before 15 and 13."
abbrev pub group_rules : (room place : ℕ) → List ℕ → List (Rule (Refusal × ℕ))
group_rules room place run = inside_rules run ++ write_rules room place (length run)

-- a text has room in a buffer
abbrev pub room_rules : (room n : ℕ) → List (Rule Refusal)
room_rules room n = asks (n ≤ room) Refusal.Room ∷ []

-- ---- the answers

abbrev pub say_encoded : Result ℕ Refusal → Says Refusal ℕ
say_encoded (Ok w) = gives w
say_encoded (Err f) = refuses f

abbrev pub encoded : Answers Refusal (Result ℕ Refusal)
encoded = saying Err say_encoded (λ f. refl)

abbrev pub say_part : Result Part Refusal → Says Refusal Part
say_part (Ok p) = gives p
say_part (Err f) = refuses f

abbrev pub parts : Answers Refusal (Result Part Refusal)
parts = saying Err say_part (λ f. refl)

-- a part is taken, with the group if it was the last
pub data Taken : Type 0 where
  awaited : Taken
  complete : Group → Taken

abbrev pub say_taken : WordAnswer → Says Refusal Taken
say_taken WordAnswer.Incomplete = gives awaited
say_taken (WordAnswer.Complete g) = gives (complete g)
say_taken (WordAnswer.Refused f) = refuses f

abbrev pub taken : Answers Refusal WordAnswer
taken = saying WordAnswer.Refused say_taken (λ f. refl)

abbrev pub say_word : Result ℕ Refusal → Says Refusal ℕ
say_word (Ok w) = gives w
say_word (Err f) = refuses f

abbrev pub words : Answers Refusal (Result ℕ Refusal)
words = saying Err say_word (λ f. refl)

abbrev pub say_figure : Result (ℕ × ℤ) Refusal → Says Refusal (ℕ × ℤ)
say_figure (Ok (label, m)) = gives (label, m)
say_figure (Err f) = refuses f

abbrev pub figures : Answers Refusal (Result (ℕ × ℤ) Refusal)
figures = saying Err say_figure (λ f. refl)

abbrev pub say_checked : Result Unit (Refusal × ℕ) → Says (Refusal × ℕ) (Unit {0})
say_checked (Ok tt) = gives tt
say_checked (Err (f, p)) = refuses (f, p)

abbrev pub checked : Answers (Refusal × ℕ) (Result Unit (Refusal × ℕ))
checked = saying (λ r. Err (r.0, r.1)) say_checked (λ r. refl)

-- no byte is left, or the sheet goes on at a place
pub data Passed : Type 0 where
  no_byte_left : Passed
  goes_on : ℕ → Passed

abbrev pub say_passed : Result (Option ℕ) (Refusal × ℕ) → Says (Refusal × ℕ) Passed
say_passed (Ok None) = gives no_byte_left
say_passed (Ok (Some next)) = gives (goes_on next)
say_passed (Err (f, p)) = refuses (f, p)

abbrev pub passed : Answers (Refusal × ℕ) (Result (Option ℕ) (Refusal × ℕ))
passed = saying (λ r. Err (r.0, r.1)) say_passed (λ r. refl)

-- the next field, or the end
pub data Next : Type 0 where
  next_field : FieldAt → Next
  no_field : Next

abbrev pub say_given : Result (Option FieldAt) (Refusal × ℕ) → Says (Refusal × ℕ) Next
say_given (Ok (Some a)) = gives (next_field a)
say_given (Ok None) = gives no_field
say_given (Err (f, p)) = refuses (f, p)

abbrev pub walked : Answers (Refusal × ℕ) (Result (Option FieldAt) (Refusal × ℕ))
walked = saying (λ r. Err (r.0, r.1)) say_given (λ r. refl)

abbrev pub say_note : NoteText → Says (Refusal × ℕ) (List ℕ)
say_note (Text t) = gives t
say_note (NoText f p) = refuses (f, p)

abbrev pub noted : Answers (Refusal × ℕ) NoteText
noted = saying (λ r. NoText r.0 r.1) say_note (λ r. refl)

abbrev pub say_counted : Result Totals (Refusal × ℕ) → Says (Refusal × ℕ) Totals
say_counted (Ok t) = gives t
say_counted (Err (f, p)) = refuses (f, p)

abbrev pub counted : Answers (Refusal × ℕ) (Result Totals (Refusal × ℕ))
counted = saying (λ r. Err (r.0, r.1)) say_counted (λ r. refl)

abbrev pub say_written : Result ℕ (Refusal × ℕ) → Says (Refusal × ℕ) ℕ
say_written (Ok end) = gives end
say_written (Err (f, p)) = refuses (f, p)

abbrev pub written : Answers (Refusal × ℕ) (Result ℕ (Refusal × ℕ))
written = saying (λ r. Err (r.0, r.1)) say_written (λ r. refl)

abbrev pub say_listed : Result ℕ Refusal → Says Refusal ℕ
say_listed (Ok n) = gives n
say_listed (Err f) = refuses f

abbrev pub listed : Answers Refusal (Result ℕ Refusal)
listed = saying Err say_listed (λ f. refl)
