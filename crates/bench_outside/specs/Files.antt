-- What a contract sees of a shelf over the files of the system, and of the streams below it.
-- No clause of `Shelf` or of `Sink` cites this.
use Rattle.std.specs.Prelude.{◌≡◌, ℕ, List, Option, IfSome, take}
use Rattle.std.specs.Io.KnownBytes.{Appends}
use Rattle.bench_outside.specs.Shelf.{Faults}
use Rattle.bench_outside.specs.Calls.{no_faults}
use Rattle.bench_outside.specs.Sink.{IsPrefix}

-- the files below, and the reads and the writes that failed
pub record FileShelf (F : Type 0) : Type 0 where
  pub files : F
  pub reads : Faults
  pub writes : Faults

-- a shelf over these files, on which nothing failed
abbrev pub fresh_shelf : {F : Type 0} → F → FileShelf F
fresh_shelf files = record { files = files; reads = no_faults; writes = no_faults }

-- the reader below, and how many reads failed
pub record InStream (R : Type 0) : Type 0 where
  pub reader : R
  pub faults : ℕ

-- the writer below, and how many writes failed
pub record OutSink (W : Type 0) : Type 0 where
  pub writer : W
  pub faults : ℕ

-- the first bytes of what is left to be read, at most so many, where that is known
abbrev pub IsFirstOf : List ℕ → ℕ → Option (List ℕ) → Type 0
IsFirstOf bytes most left = IfSome left (λ all. bytes ≡ take most all)

-- some first part of these bytes went to the writer, as far as it tells
abbrev pub AppendsPart : Option (List ℕ) → Option (List ℕ) → List ℕ → Type 0
AppendsPart old new bytes = (part : List ℕ) × IsPrefix part bytes × Appends old new part

-- These are the first bytes of a file that was opened so, at most so many.
-- As far as files tell: what is left to be read in a file that was just opened is all that it holds.
abbrev pub ReadFrom : {F : Type 0} → (F → Type 0) → (F → Option (List ℕ)) → List ℕ → ℕ → Type 0
ReadFrom {F = F} IsOpened left bytes most = (file : F) × IsOpened file × IsFirstOf bytes most (left file)

-- A file that was made so has taken these bytes and no others, as far as files tell.
abbrev pub WrittenTo : {F : Type 0} → (F → Type 0) → (F → Option (List ℕ)) → List ℕ → Type 0
WrittenTo {F = F} IsMade contents bytes = (old new : F) × IsMade old × Appends (contents old) (contents new) bytes
