-- Streams of std, as callers see them.
use Rattle.std.specs.Prelude.{ℕ, List, Option}

-- a source over a reader: the bytes that the reader has left, where it tells them, and the count of faults
pub record ReaderSource : Type 0 where
  pub left : Option (List ℕ)
  pub faults : ℕ

-- a sink over a writer: the bytes that the writer holds, where it tells them, and the count of faults
pub record WriterSink : Type 0 where
  pub written : Option (List ℕ)
  pub faults : ℕ
