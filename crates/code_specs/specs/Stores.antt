-- What a module's code works on, beside its operands and locals: its memory and its globals (WebAssembly Core 1.0,
-- sections 4.2.8 and 4.2.9). The table never changes, so the module alone says what it holds.
use Rattle.std.specs.Prelude.{ℕ, zero, suc, ◌+◌, ◌*◌, ◌/◌, ◌%◌, min, List, [], ◌∷◌, ◌++◌, Option, Some, None, length, take, drop, nat_le, slice_get, slice_range, if◌then◌else◌}
use Rattle.wasm_types.specs.declared.module.Limits.{Limits}
use Rattle.wasm_types.specs.Modules.{NestedModule}
use Rattle.module_specs.specs.ModuleSpelling.{most_pages}

-- the bytes of the memory, none where there is no memory, and the numbers in the globals
pub record Store : Type 0 where
  pub bytes : List ℕ
  pub globals : List ℕ

-- the bytes of a page (4.2.8)
abbrev pub page_size : ℕ
page_size = 65536

-- the size of the memory in pages
abbrev pub pages : Store → ℕ
pages s = length s.bytes / page_size

-- the most pages that a memory with these limits may have
abbrev pub pages_within : Option ℕ → ℕ
pages_within None = most_pages
pages_within (Some max) = min max most_pages

-- the most pages that the module's memory may have
abbrev pub greatest_pages : NestedModule → ℕ
greatest_pages m = of_memory (slice_get m.memories 0)
  where
    of_memory : Option Limits → ℕ
    of_memory None = 0
    of_memory (Some l) = pages_within l.max

-- the number with these bytes, the lowest first (littleendian, 4.3.1)
abbrev pub number_of_bytes : List ℕ → ℕ
number_of_bytes [] = 0
number_of_bytes (b ∷ bs) = b + 256 * number_of_bytes bs

-- the lowest bytes of a number, so many, the lowest first
unfoldable pub bytes_of : ℕ → ℕ → List ℕ
bytes_of zero n = []
bytes_of (suc count) n = n % 256 ∷ bytes_of count (n / 256)

-- so many bytes from an address on; None where one of them lies outside
abbrev pub bytes_at : List ℕ → (address count : ℕ) → Option (List ℕ)
bytes_at bytes address count =
    if nat_le (address + count) (length bytes) then Some (slice_range bytes address (address + count)) else None

-- a list with these items from a place on
abbrev pub replaced_at : {A : Type 0} → List A → (place : ℕ) → List A → List A
replaced_at items place new = take place items ++ (new ++ drop (place + length new) items)
