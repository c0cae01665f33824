-- A shelf in memory: its files, and what its calls do to it.
-- No clause of `Shelf` cites this.
use Rattle.std.specs.Prelude.{◌≡◌, ℕ, List, [], ◌∷◌, Option, Some, None, Result, Ok, Err, refl}
use Rattle.std.specs.Prelude.{if◌then◌else◌, option_map, unwrap_or, take, bytes_eq, codes}
use Rattle.std.specs.Option.{ok_or}
use Rattle.bench_outside.specs.declared.shelf.ShelfError.{ShelfError}
use Rattle.bench_outside.specs.declared.shelf.ShelfError.TheVariants.{Failed}
use Rattle.bench_outside.specs.Shelf.{Contents}
use Rattle.bench_outside.specs.Calls.{Calls, no_calls, next_fails, with_call, with_failed_call}

-- each file as its name and its bytes
abbrev pub Files : Type 0
Files = List (List ℕ × List ℕ)

-- the files, and the calls of either kind
pub record MemShelf : Type 0 where
  pub files : Files
  pub reads : Calls
  pub writes : Calls

abbrev pub empty_shelf : MemShelf
empty_shelf = record { files = []; reads = no_calls; writes = no_calls }

-- the bytes of the file of this name, if there is one
abbrev pub file_at : Files → List ℕ → Option (List ℕ)
file_at [] name = None
file_at (file ∷ files) name = if bytes_eq file.0 name then Some file.1 else file_at files name

-- the bytes of each name; none where there is no such file
abbrev pub contents_of : Files → Contents
contents_of files name = unwrap_or (file_at files name) []

-- the files with these bytes under this name: in place of what it held, or else behind all others
abbrev pub put_file : Files → List ℕ → List ℕ → Files
put_file [] name bytes = (name, bytes) ∷ []
put_file (file ∷ files) name bytes =
    if bytes_eq file.0 name then (name, bytes) ∷ files else file ∷ put_file files name bytes

-- The answer of a read: the first bytes of the file, at most so many.
-- It fails where it is to fail, and where there is no such file.
abbrev pub read_answer : MemShelf → List ℕ → ℕ → Result (List ℕ) ShelfError
read_answer shelf name most =
    if next_fails shelf.reads
    then Err Failed
    else ok_or (option_map (take most) (file_at shelf.files name)) Failed

-- after a read that didn't fail
abbrev pub with_read : MemShelf → MemShelf
with_read shelf = record shelf { reads = with_call shelf.reads }

-- after a read of this name that failed
abbrev pub with_failed_read : MemShelf → List ℕ → MemShelf
with_failed_read shelf name = record shelf { reads = with_failed_call shelf.reads name }

-- after a write of these bytes that didn't fail
abbrev pub with_write : MemShelf → List ℕ → List ℕ → MemShelf
with_write shelf name bytes =
    record shelf { files = put_file shelf.files name bytes; writes = with_call shelf.writes }

-- after a write of this name that failed: every file is as before
abbrev pub with_failed_write : MemShelf → List ℕ → MemShelf
with_failed_write shelf name = record shelf { writes = with_failed_call shelf.writes name }

-- two files, the first of which was written twice
abbrev two_files : MemShelf
two_files =
    let first = with_write empty_shelf (codes "a") (1 ∷ []) in
    let second = with_write first (codes "b") (2 ∷ 3 ∷ []) in
    with_write second (codes "a") (4 ∷ 5 ∷ 6 ∷ [])

written_twice : two_files.files ≡ (codes "a", 4 ∷ 5 ∷ 6 ∷ []) ∷ (codes "b", 2 ∷ 3 ∷ []) ∷ []
written_twice = refl

first_two_bytes : read_answer two_files (codes "a") 2 ≡ Ok (4 ∷ 5 ∷ [])
first_two_bytes = refl

no_such_file : read_answer two_files (codes "c") 2 ≡ Err Failed
no_such_file = refl
