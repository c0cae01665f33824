-- What a command has to do, and what a call did. No command is named here.
use Rattle.std.specs.Prelude.{◌≡◌, ◌⊎◌, ℕ, List, Contains}
use Rattle.bench_outside.specs.Causes.{Rose}
use Rattle.bench_outside.specs.Pieces.{WritesAll, BreaksOff, StopsBefore}
use Rattle.bench_outside.specs.declared.sink.Sink.{Ghosts as sink_ghosts}
use Rattle.bench_outside.specs.declared.shelf.Shelf.{Ghosts as shelf_ghosts}
use Rattle.bench_outside.specs.declared.refusal.FileId.{FileId}
use Rattle.bench_top.specs.declared.status.Status.{Status}
use Rattle.bench_top.specs.declared.status.Status.TheVariants.{Done, Usage, Refused, Unread, Unwritten, Memory, Spent}
use Rattle.bench_top.specs.Statuses.{WritesNothing}

-- What a command has to do where no read and no write fails and memory is there.
pub record Deed : Type 0 where
  -- the files that it reads, in their order, each with its name; none stands behind the first that breaks a rule
  pub asked : List (FileId × List ℕ)
  -- the status with which it ends
  pub status : Status
  -- what it writes to the output: each is one write
  pub lines : List (List ℕ)

-- a status that comes of a fault, or of want of memory
abbrev pub IsFault : Status → Type 0
IsFault Done = ⊥
IsFault Usage = ⊥
IsFault (Refused refusal) = ⊥
IsFault (Unread file) = Unit {0}
IsFault Unwritten = Unit {0}
IsFault Memory = Unit {0}
IsFault Spent = ⊥

module _ {O : Type 0} (sink : sink_ghosts O) where
  -- What a call did where this was to be done. The name is that of the last read that failed.
  pub record CarriedOut (deed : Deed) (old new : O) (blamed : List ℕ) (result : Status) : Type 0 where
    -- without a fault it ends as it has to, and has written all lines
    pub answer : IsFault result ⊎ (result ≡ deed.status)
    pub whole : IsFault result ⊎ WritesAll sink old new deed.lines
    -- where a write failed: the lines before it, a first part of its own, and nothing behind it
    pub broken : result ≡ Unwritten → BreaksOff sink old new deed.lines
    -- for want of memory: whole lines
    pub stopped : result ≡ Memory → StopsBefore sink old new deed.lines
    -- a file that couldn't be read is one of those that it reads
    pub named : (file : FileId) → result ≡ Unread file → Contains deed.asked (file, blamed)

module _ {H O : Type 0} (shelf : shelf_ghosts H) (sink : sink_ghosts O) where
  -- Which faults a call answers, and what it leaves. This holds also where nothing is told of contents.
  pub record Caused (before now : H) (old new : O) (result : Status) : Type 0 where
    -- a file couldn't be read: a read failed in this call; and no other answer comes where one did
    pub unread : (file : FileId) → result ≡ Unread file
        → Rose (shelf.read_faults before).count (shelf.read_faults now).count
    pub unblamed : ((file : FileId) × (result ≡ Unread file)) ⊎ (shelf.read_faults now ≡ shelf.read_faults before)
    -- the same of the output
    pub unwritten : result ≡ Unwritten → Rose (sink.faults old) (sink.faults new)
    pub kept : (result ≡ Unwritten) ⊎ (sink.faults new ≡ sink.faults old)
    -- where a file is refused or couldn't be read, nothing was written
    pub untouched : WritesNothing result → new ≡ old
    -- the shelf holds what it held, and no write of it failed
    pub holds : shelf.holds now ≡ shelf.holds before
    pub others : shelf.write_faults now ≡ shelf.write_faults before
