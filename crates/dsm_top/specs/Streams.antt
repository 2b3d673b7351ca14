-- What the top call did to its source and its sink.
use Rattle.std.specs.Prelude.{◌≡◌, ℕ, List, Option}
use Rattle.std.specs.Io.KnownBytes.{Appends}
use Rattle.dsm_io.specs.Faults.{Rose}
use Rattle.dsm_io.specs.Whole.{AppendsPrefix, HandsOnAll}

-- a source before and after: the bytes that it has left, where it tells them, and its count of faults
pub record Reading : Type 0 where
  pub left_before : Option (List ℕ)
  pub left_after : Option (List ℕ)
  pub faults_before : ℕ
  pub faults_after : ℕ

-- a sink before and after: the bytes written, and those handed on, where it tells them, and its count of faults
pub record Writing : Type 0 where
  pub written_before : Option (List ℕ)
  pub written_after : Option (List ℕ)
  pub handed_after : Option (List ℕ)
  pub faults_before : ℕ
  pub faults_after : ℕ

-- the same of a source and a sink with these meanings
abbrev pub reading : {S : Type 0} → (S → Option (List ℕ)) → (S → ℕ) → S → S → Reading
reading left faults old new = record { left_before = left old; left_after = left new; faults_before = faults old; faults_after = faults new }

abbrev pub writing : {K : Type 0} → (K → Option (List ℕ)) → (K → Option (List ℕ)) → (K → ℕ) → K → K → Writing
writing written handed faults old new = record {
  written_before = written old;
  written_after = written new;
  handed_after = handed new;
  faults_before = faults old;
  faults_after = faults new;
}

-- the bytes were written, all that was written was handed on, and no call of the sink failed
abbrev pub WritesAll : Writing → List ℕ → Type 0
WritesAll w bytes = Appends w.written_before w.written_after bytes × HandsOnAll w.handed_after w.written_after × (w.faults_after ≡ w.faults_before)

-- a prefix of them was, and a call failed
abbrev pub WritesPrefix : Writing → List ℕ → Type 0
WritesPrefix w bytes = AppendsPrefix w.written_before w.written_after bytes × Rose w.faults_before w.faults_after
