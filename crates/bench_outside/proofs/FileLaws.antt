-- Laws of files in memory.
use Rattle.std.proofs.Common.{◌≡◌, ◌≢◌, ◌++◌, ◌<◌, ℕ, List, [], ◌∷◌, Bool, true, false, true≢false}
use Rattle.std.proofs.Common.{Some, if◌then◌else◌, length, take, drop, slice_set, slice_index_or}
use Rattle.std.proofs.Common.{refl, sym, ◌∙◌, ap}
use Rattle.std.specs.Str.{bytes_eq}
use Rattle.std.proofs.lemmas.Slice.Eq.{bytes_eq-Decides}
use Rattle.std.proofs.lemmas.List.{set_split}
use Rattle.std.proofs.Math.Seq.{drop-cons}
use Rattle.std.proofs.Math.Path.{fun_ext}
use Rattle.bench_outside.specs.Shelf.{Contents, with_file}
use Rattle.bench_outside.specs.MemShelf.{Files, file_at, put_file, contents_of}

bytes_eq-same : (xs : List ℕ) → bytes_eq xs xs ≡ true
bytes_eq-same xs = (bytes_eq-Decides xs xs).1 refl

bytes_eq-other : (xs ys : List ℕ) → ys ≢ xs → bytes_eq xs ys ≡ false
bytes_eq-other xs ys apart = by_test (bytes_eq xs ys) refl
  where
    by_test : (b : Bool) → bytes_eq xs ys ≡ b → b ≡ false
    by_test true is = absurd (apart (sym ((bytes_eq-Decides xs ys).0 is)))
    by_test false is = refl

-- The steps of the inductions go by whether the first file has the name.
found-step : (file : List ℕ × List ℕ) (files : Files) (name bytes : List ℕ)
    (b : Bool) → bytes_eq file.0 name ≡ b
    → file_at (put_file files name bytes) name ≡ Some bytes
    → file_at (if b then (name, bytes) ∷ files else file ∷ put_file files name bytes) name
    ≡ Some bytes
found-step file files name bytes true is found = rw (bytes_eq-same name) refl
found-step file files name bytes false is found = rw is found

pub file_at-put_file : (files : Files) (name bytes : List ℕ)
    → file_at (put_file files name bytes) name ≡ Some bytes
file_at-put_file [] name bytes = rw (bytes_eq-same name) refl
file_at-put_file (file ∷ files) name bytes =
    let found = file_at-put_file files name bytes in
    found-step file files name bytes (bytes_eq file.0 name) refl found

spares-step : (file : List ℕ × List ℕ) (files : Files) (name bytes other : List ℕ)
    (b : Bool) → bytes_eq file.0 name ≡ b → other ≢ name
    → file_at (put_file files name bytes) other ≡ file_at files other
    → file_at (if b then (name, bytes) ∷ files else file ∷ put_file files name bytes) other
    ≡ file_at (file ∷ files) other
spares-step file files name bytes other true is apart spared =
    let differs = bytes_eq-other name other apart in
    rw (differs, (bytes_eq-Decides file.0 name).0 is, differs) refl
spares-step file files name bytes other false is apart spared = rw spared refl

pub file_at-put_file_other : (files : Files) (name bytes other : List ℕ) → other ≢ name
    → file_at (put_file files name bytes) other ≡ file_at files other
file_at-put_file_other [] name bytes other apart = rw (bytes_eq-other name other apart) refl
file_at-put_file_other (file ∷ files) name bytes other apart =
    let spared = file_at-put_file_other files name bytes other apart in
    spares-step file files name bytes other (bytes_eq file.0 name) refl apart spared

-- a put where the first file of this name stands
pub put_file-at : (files : Files) (i : ℕ) (file : List ℕ × List ℕ) (name bytes : List ℕ)
    → i < length files → file ≡ slice_index_or files i file → bytes_eq file.0 name ≡ true
    → take i files ++ put_file (drop i files) name bytes ≡ slice_set files i (name, bytes)
put_file-at files i file name bytes inside here named =
    rw (drop-cons files i file inside, ← here, named) (sym (set_split files i (name, bytes) inside))

contents-step : (files : Files) (name bytes other : List ℕ) (b : Bool) → bytes_eq other name ≡ b
    → contents_of (put_file files name bytes) other
    ≡ (if b then bytes else contents_of files other)
contents-step files name bytes other true is =
    rw ((bytes_eq-Decides other name).0 is, file_at-put_file files name bytes) refl
contents-step files name bytes other false is =
    let apart = λ (e : other ≡ name). true≢false (sym ((bytes_eq-Decides other name).1 e) ∙ is) in
    rw (file_at-put_file_other files name bytes other apart) refl

pub contents_of-put_file : (files : Files) (name bytes : List ℕ)
    → contents_of (put_file files name bytes) ≡ with_file (contents_of files) name bytes
contents_of-put_file files name bytes =
    fun_ext (λ other. contents-step files name bytes other (bytes_eq other name) refl)

same-step : (held : Contents) (name other : List ℕ) (b : Bool) → bytes_eq other name ≡ b
    → held other ≡ (if b then held name else held other)
same-step held name other true is = ap held ((bytes_eq-Decides other name).0 is)
same-step held name other false is = refl

-- a name that is given what it holds
pub with_file-same : (held : Contents) (name : List ℕ) → held ≡ with_file held name (held name)
with_file-same held name =
    fun_ext (λ other. same-step held name other (bytes_eq other name) refl)
