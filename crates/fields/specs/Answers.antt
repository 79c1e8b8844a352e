-- How what stands at the start of a run, and how a whole run, refuse and accept: what the orders of refusals of a sheet are about.
-- Assumes nothing.
use Rattle.std.specs.Prelude.{◌≡◌, List, ℕ, Option, Some, Result, Ok, Err}
use Rattle.std.proofs.Common.{arith}
use Rattle.refusals.specs.Order.{Answers}
use Rattle.refusals.specs.declared.Refusal.{Refusal}
use Rattle.fields.specs.declared.FieldKind.{FieldKind}
use Rattle.fields.specs.Run.{Field, Scan, Fields, Refused}

pub no_field : (k : FieldKind) (n : ℕ) (f : Refusal) → ◌≡◌ {A = Result (Option (FieldKind × ℕ)) Refusal} (Err f) (Ok (Some (k, n))) → ⊥
no_field k n f e = let z : ◌≡◌ {A = ℕ} 0 1 = cc in omega arith

pub same_start : (f g : Refusal) → ◌≡◌ {A = Result (Option (FieldKind × ℕ)) Refusal} (Err f) (Err g) → f ≡ g
same_start f g e = cc

-- a field is refused, or stands there
abbrev pub started : Answers Refusal (Result (Option (FieldKind × ℕ)) Refusal)
started = record {
  refuse = Err;
  accepts = λ s. (k : FieldKind) × (n : ℕ) × (s ≡ Ok (Some (k, n)));
  apart = λ f h. no_field h.0 h.1 f h.2;
  once = same_start;
}

pub never : (fs : List Field) (f : Refusal) (p : ℕ) → Refused f p ≡ Fields fs → ⊥
never fs f p e = let z : ◌≡◌ {A = ℕ} 0 1 = cc in omega arith

pub same_refusal : (f g : Refusal) (p q : ℕ) → Refused f p ≡ Refused g q → (f ≡ g) × (p ≡ q)
same_refusal f g p q e = (cc, cc)

-- a run is refused at an offset, or has fields
abbrev pub scanned : Answers (Refusal × ℕ) Scan
scanned = record {
  refuse = λ r. Refused r.0 r.1;
  accepts = λ s. (fs : List Field) × (s ≡ Fields fs);
  apart = λ r h. never h.0 r.0 r.1 h.1;
  once = λ r s e. let same = same_refusal r.0 s.0 r.1 s.1 e in λ i. (same.0 i, same.1 i);
}
