-- Each load and store, the size of a memory and its growth.
use Rattle.std.specs.Prelude.{◌≡◌, ℕ, List, [], ◌∷◌, None, replicate, refl}
use Rattle.wasm_types.specs.declared.instr.Instr.TheVariants.{Access, MemorySize, MemoryGrow}
use Rattle.wasm_types.specs.Modules.{NestedModule}
use Rattle.module_specs.specs.ModuleSpelling.{empty}
use Rattle.code_specs.specs.declared.trap.TrapKind.TheVariants.{Memory}
use Rattle.code_specs.specs.Values.{Value}
use Rattle.code_specs.specs.Stores.{Store, pages, bytes_of}
use Rattle.code_specs.specs.Signatures.{signature_of, opcode_signature, access_bytes}
use Rattle.code_specs.specs.Effects.{Effect, Continues, Traps, Stuck, typed, bare, meaning_of, effect_of}
use Rattle.worked_code.specs.Sample.{i32, i64, sample}

abbrev small : NestedModule
small = sample []

abbrev over : List ℕ → Store
over bytes = record { bytes = bytes; globals = [] }

-- nine bytes, of which all but the first are loaded
abbrev nine : Store
nine = over (0x10 ∷ 0x80 ∷ 0xA0 ∷ 0x01 ∷ 0x82 ∷ 0x83 ∷ 0x84 ∷ 0x85 ∷ 0x86 ∷ [])

-- a load from 0 with the offset 1
abbrev load : ℕ → Effect Value
load op = effect_of typed small (Access op 0 1) (i32 0 ∷ []) nine

-- ten bytes of zeros
abbrev ten : Store
ten = over (replicate 10 0)

-- a store to 0 with the offset 1
abbrev store : ℕ → Value → Effect Value
store op v = effect_of typed small (Access op 0 1) (v ∷ i32 0 ∷ []) ten

i32_load : load 0x28 ≡ Continues (i32 0x8201A080 ∷ []) nine
unfolding effect_of meaning_of signature_of opcode_signature access_bytes bytes_of
i32_load = refl

i64_load : load 0x29 ≡ Continues (i64 0x868584838201A080 ∷ []) nine
unfolding effect_of meaning_of signature_of opcode_signature access_bytes bytes_of
i64_load = refl

i32_load8_s : load 0x2C ≡ Continues (i32 0xFFFFFF80 ∷ []) nine
unfolding effect_of meaning_of signature_of opcode_signature access_bytes bytes_of
i32_load8_s = refl

i32_load8_u : load 0x2D ≡ Continues (i32 0x80 ∷ []) nine
unfolding effect_of meaning_of signature_of opcode_signature access_bytes bytes_of
i32_load8_u = refl

i32_load16_s : load 0x2E ≡ Continues (i32 0xFFFFA080 ∷ []) nine
unfolding effect_of meaning_of signature_of opcode_signature access_bytes bytes_of
i32_load16_s = refl

i32_load16_u : load 0x2F ≡ Continues (i32 0xA080 ∷ []) nine
unfolding effect_of meaning_of signature_of opcode_signature access_bytes bytes_of
i32_load16_u = refl

i64_load8_s : load 0x30 ≡ Continues (i64 0xFFFFFFFFFFFFFF80 ∷ []) nine
unfolding effect_of meaning_of signature_of opcode_signature access_bytes bytes_of
i64_load8_s = refl

i64_load8_u : load 0x31 ≡ Continues (i64 0x80 ∷ []) nine
unfolding effect_of meaning_of signature_of opcode_signature access_bytes bytes_of
i64_load8_u = refl

i64_load16_s : load 0x32 ≡ Continues (i64 0xFFFFFFFFFFFFA080 ∷ []) nine
unfolding effect_of meaning_of signature_of opcode_signature access_bytes bytes_of
i64_load16_s = refl

i64_load16_u : load 0x33 ≡ Continues (i64 0xA080 ∷ []) nine
unfolding effect_of meaning_of signature_of opcode_signature access_bytes bytes_of
i64_load16_u = refl

i64_load32_s : load 0x34 ≡ Continues (i64 0xFFFFFFFF8201A080 ∷ []) nine
unfolding effect_of meaning_of signature_of opcode_signature access_bytes bytes_of
i64_load32_s = refl

i64_load32_u : load 0x35 ≡ Continues (i64 0x8201A080 ∷ []) nine
unfolding effect_of meaning_of signature_of opcode_signature access_bytes bytes_of
i64_load32_u = refl

i32_store : store 0x36 (i32 0xB1B2B3B4) ≡ Continues [] (over (0 ∷ 0xB4 ∷ 0xB3 ∷ 0xB2 ∷ 0xB1 ∷ 0 ∷ 0 ∷ 0 ∷ 0 ∷ 0 ∷ []))
unfolding effect_of meaning_of signature_of opcode_signature access_bytes bytes_of
i32_store = refl

i64_store : store 0x37 (i64 0xA1A2A3A4B1B2B3B4) ≡ Continues [] (over (0 ∷ 0xB4 ∷ 0xB3 ∷ 0xB2 ∷ 0xB1 ∷ 0xA4 ∷ 0xA3 ∷ 0xA2 ∷ 0xA1 ∷ 0 ∷ []))
unfolding effect_of meaning_of signature_of opcode_signature access_bytes bytes_of
i64_store = refl

i32_store8 : store 0x3A (i32 0xB1B2B3B4) ≡ Continues [] (over (0 ∷ 0xB4 ∷ 0 ∷ 0 ∷ 0 ∷ 0 ∷ 0 ∷ 0 ∷ 0 ∷ 0 ∷ []))
unfolding effect_of meaning_of signature_of opcode_signature access_bytes bytes_of
i32_store8 = refl

i32_store16 : store 0x3B (i32 0xB1B2B3B4) ≡ Continues [] (over (0 ∷ 0xB4 ∷ 0xB3 ∷ 0 ∷ 0 ∷ 0 ∷ 0 ∷ 0 ∷ 0 ∷ 0 ∷ []))
unfolding effect_of meaning_of signature_of opcode_signature access_bytes bytes_of
i32_store16 = refl

i64_store8 : store 0x3C (i64 0xA1A2A3A4B1B2B3B4) ≡ Continues [] (over (0 ∷ 0xB4 ∷ 0 ∷ 0 ∷ 0 ∷ 0 ∷ 0 ∷ 0 ∷ 0 ∷ 0 ∷ []))
unfolding effect_of meaning_of signature_of opcode_signature access_bytes bytes_of
i64_store8 = refl

i64_store16 : store 0x3D (i64 0xA1A2A3A4B1B2B3B4) ≡ Continues [] (over (0 ∷ 0xB4 ∷ 0xB3 ∷ 0 ∷ 0 ∷ 0 ∷ 0 ∷ 0 ∷ 0 ∷ 0 ∷ []))
unfolding effect_of meaning_of signature_of opcode_signature access_bytes bytes_of
i64_store16 = refl

i64_store32 : store 0x3E (i64 0xA1A2A3A4B1B2B3B4) ≡ Continues [] (over (0 ∷ 0xB4 ∷ 0xB3 ∷ 0xB2 ∷ 0xB1 ∷ 0 ∷ 0 ∷ 0 ∷ 0 ∷ 0 ∷ []))
unfolding effect_of meaning_of signature_of opcode_signature access_bytes bytes_of
i64_store32 = refl

-- the last four bytes, and one byte further; an address and an offset that together are over 2^32
last_bytes : effect_of typed small (Access 0x28 0 2) (i32 3 ∷ []) nine ≡ Continues (i32 0x86858483 ∷ []) nine
unfolding effect_of meaning_of signature_of opcode_signature access_bytes bytes_of
last_bytes = refl

one_byte_over : effect_of typed small (Access 0x28 0 2) (i32 4 ∷ []) nine ≡ Traps Memory
unfolding effect_of meaning_of signature_of opcode_signature access_bytes bytes_of
one_byte_over = refl

address_does_not_wrap : effect_of typed small (Access 0x2D 0 0xFFFFFFFF) (i32 1 ∷ []) nine ≡ Traps Memory
unfolding effect_of meaning_of signature_of opcode_signature access_bytes bytes_of
address_does_not_wrap = refl

store_over_the_end : effect_of typed small (Access 0x37 0 0) (i64 1 ∷ i32 3 ∷ []) ten ≡ Traps Memory
unfolding effect_of meaning_of signature_of opcode_signature access_bytes bytes_of
store_over_the_end = refl

-- the address has another type, or isn't there; a module without a memory
address_of_i64 : effect_of typed small (Access 0x28 0 0) (i64 0 ∷ []) nine ≡ Stuck
unfolding effect_of meaning_of signature_of opcode_signature access_bytes bytes_of
address_of_i64 = refl

no_address : effect_of typed small (Access 0x28 0 0) [] nine ≡ Stuck
unfolding effect_of meaning_of signature_of opcode_signature access_bytes bytes_of
no_address = refl

no_memory : effect_of typed empty (Access 0x28 0 0) (i32 0 ∷ []) nine ≡ Stuck
unfolding effect_of meaning_of signature_of opcode_signature access_bytes bytes_of
no_memory = refl

-- the same over bare numbers
bare_load : effect_of bare small (Access 0x2C 0 1) (0 ∷ 7 ∷ []) nine ≡ Continues (0xFFFFFF80 ∷ 7 ∷ []) nine
unfolding effect_of meaning_of signature_of opcode_signature access_bytes bytes_of
bare_load = refl

bare_store : effect_of bare small (Access 0x3A 0 1) (0x1FF ∷ 0 ∷ 7 ∷ []) (over (1 ∷ 2 ∷ 3 ∷ [])) ≡ Continues (7 ∷ []) (over (1 ∷ 0xFF ∷ 3 ∷ []))
unfolding effect_of meaning_of signature_of opcode_signature access_bytes bytes_of
bare_store = refl

-- a page has 65,536 bytes
one_page : pages (over (replicate 65536 0)) ≡ 1
one_page = refl

size_of_none : effect_of typed small MemorySize [] (over []) ≡ Continues (i32 0 ∷ []) (over [])
unfolding effect_of meaning_of signature_of opcode_signature access_bytes bytes_of
size_of_none = refl

-- growth by no page; by one page, to the greatest size; and by two, which is refused with -1
grown_by_none : effect_of typed small MemoryGrow (i32 0 ∷ []) (over []) ≡ Continues (i32 0 ∷ []) (over [])
unfolding effect_of meaning_of signature_of opcode_signature access_bytes bytes_of
grown_by_none = refl

grown_by_one : effect_of typed small MemoryGrow (i32 1 ∷ []) (over []) ≡ Continues (i32 0 ∷ []) (over (replicate 65536 0))
unfolding effect_of meaning_of signature_of opcode_signature access_bytes bytes_of
grown_by_one = refl

grow_refused : effect_of typed small MemoryGrow (i32 2 ∷ []) (over []) ≡ Continues (i32 0xFFFFFFFF ∷ []) (over [])
unfolding effect_of meaning_of signature_of opcode_signature access_bytes bytes_of
grow_refused = refl

-- without a greatest size of its own a memory may have 256 pages
abbrev unbounded : NestedModule
unbounded = record empty { memories = record { min = 0; max = None } ∷ [] }

grow_over_256_refused : effect_of typed unbounded MemoryGrow (i32 257 ∷ []) (over []) ≡ Continues (i32 0xFFFFFFFF ∷ []) (over [])
unfolding effect_of meaning_of signature_of opcode_signature access_bytes bytes_of
grow_over_256_refused = refl
