-- The program is spelled by some bytes, whatever its memory holds.
use Rattle.std.proofs.Common.{◌≡◌, ℕ, ◌+◌, ◌<◌, ◌≤◌, ◌^◌, List, [], ◌∷◌, ◌++◌, length, Ok, refl, sym, ap, subst, ◌∙◌, arith, length-append, append-nil, append_assoc, pos}
use Rattle.std.specs.Str.{is_utf8, chars}
use Rattle.std.specs.Char.{encode_utf8}
use Rattle.std.proofs.lemmas.List.Elements.{All-from_recursion}
use Rattle.leb_bytes.specs.Writing.{shortest, unsigned_text, signed_text}
use Rattle.leb_bytes.proofs.Spelled.{IsBytes, bytes_of_all}
use Rattle.leb_bytes.proofs.Splitting.{unsigned_spelled, signed_spelled}
use Rattle.wasm_types.specs.declared.instr.ValType.TheVariants.{I32}
use Rattle.wasm_types.specs.declared.module.Limits.{Limits}
use Rattle.wasm_types.specs.declared.module.Constant.{Constant}
use Rattle.wasm_types.specs.declared.module.Data.{Data}
use Rattle.wasm_types.specs.declared.module.Module.{Module}
use Rattle.wasm_types.specs.Modules.{flat_module}
use Rattle.module_specs.specs.Spelling.{SpellsByte, SpellsU32, SpellsEach, SpellsVector}
use Rattle.module_specs.specs.ModuleSpelling.{SpellsConstant, SpellsData, Section, Types, Funcs, Memories, Exports, Codes, Datas, Before, start, after, SpellsSection, SpellsSections, SpellsModule, magic, version, most_bytes}
use Rattle.module_specs.specs.Reading.{byte_at, u32_at, s32_at, s64_at, zero_at, each_at, vector_at, sized_at, name_at, type_at, block_type_at}
use Rattle.module_specs.specs.CodeReading.{token_at, code_from, runs_at, locals_at, content_at, body_at}
use Rattle.module_specs.specs.ModuleReading.{func_type_at, limits_at, table_at, constant_at, global_at, export_at, offset_at, element_at, data_at, imports_at, custom_at, bodies_at, codes_at, section_at, sections_at}
use Rattle.module_specs.proofs.Sections.{sections_here}
use Rattle.wasm_writer.specs.Texts.{vector_text, sized_text}
use Rattle.wasm_writer.specs.ModuleTexts.{constant_text, data_text, section_text}
use Rattle.wasm_writer.specs.Building.{segment_at}
use Rattle.module_specs.specs.Spelled.{IsSpelled}
use Rattle.wasm_writer.proofs.Bodies.{tell}
use Rattle.wasm_writer.proofs.NumberSizes.{unsigned_most}
use Rattle.module_specs.specs.declared.section.SectionKind.TheVariants as kind
use Rattle.guest_kit.specs.Program.{types, functions, exports, program}
use Rattle.guest_kit.specs.Guests.{numbers_of, guest_module}
use Rattle.guest_kit.specs.declared.manner.Manner.{Manner}
use Rattle.guest_kit.proofs.Bytes.{section_bytes}

-- ---- the sections of the program

abbrev pub indices : List ℕ
indices = 1 ∷ 0 ∷ 2 ∷ 2 ∷ 1 ∷ 1 ∷ 0 ∷ 1 ∷ 3 ∷ 4 ∷ 5 ∷ 6 ∷ []

abbrev pub one_page : List Limits
one_page = program.memories

abbrev pub sections : List Section
sections = Types types ∷ Funcs indices ∷ Memories one_page ∷ Exports exports ∷ Codes functions ∷ []

abbrev pub size : ℕ
size = length section_bytes

sections_are_read : sections_at size start section_bytes 0 ≡ Ok (sections, size)
unfolding byte_at u32_at s32_at s64_at zero_at each_at vector_at sized_at name_at type_at block_type_at token_at code_from runs_at locals_at
    content_at body_at func_type_at limits_at table_at constant_at global_at export_at offset_at element_at data_at imports_at custom_at
    bodies_at codes_at section_at sections_at is_utf8 chars encode_utf8
sections_are_read = refl

sections_fit : IsBytes section_bytes
sections_fit = bytes_of_all section_bytes (All-from_recursion (λ b. b < 256) section_bytes (search arith))

pub record Found : Type 0 where
  pub text : List ℕ
  pub spelled : SpellsSections start sections text
  pub length : length text ≡ size

pub found : Found
found =
    let h = sections_here tell size start section_bytes sections_fit 0 size sections (omega arith) (omega arith) sections_are_read in
    record { text = h.0; spelled = h.3; length = omega (arith, h.1.size) }

-- ---- a section behind others

abbrev behind : List Section → Before → Before
behind [] s = s
behind (x ∷ xs) s = behind xs (after x s)

appended : (xs : List Section) (s : Before) (text : List ℕ) (y : Section) (more : List ℕ) → SpellsSections s xs text
    → SpellsSection (behind xs s) y more
    → SpellsSections s (xs ++ y ∷ []) (text ++ more)
appended [] s text y more t last = subst (λ l. SpellsSections s (y ∷ []) (l ++ more)) (sym t) (more, [], sym (append-nil more), last, refl)
appended (x ∷ xs) s text y more t last =
    (t.0, t.1 ++ more, ap (λ l. l ++ more) t.2 ∙ append_assoc t.0 t.1 more, t.3, appended xs (after x s) t.1 y more t.4 last)

-- ---- data

u32_spelled : (n : ℕ) → n < 2 ^ 32 → SpellsU32 n (unsigned_text n)
u32_spelled n small = unsigned_spelled 32 n (omega arith) (omega arith) small

each_byte : (bytes : List ℕ) → SpellsEach SpellsByte bytes bytes
each_byte [] = refl
each_byte (x ∷ xs) = (x ∷ [], xs, refl, refl, each_byte xs)

bytes_spelled : (bytes : List ℕ) → length bytes < 2 ^ 32 → SpellsVector SpellsByte bytes (sized_text bytes)
bytes_spelled bytes small = (unsigned_text (length bytes), bytes, refl, u32_spelled (length bytes) small, each_byte bytes)

abbrev constant : ℕ → Constant
constant at = record { ty = I32; value = at }

data_spelled : (at : ℕ) (bytes : List ℕ) → SpellsConstant (constant at) (constant_text (constant at)) → length bytes < 2 ^ 32
    → SpellsData (segment_at at bytes) (data_text (segment_at at bytes))
unfolding shortest
data_spelled at bytes place small = (
  0 ∷ [],
  constant_text (constant at) ++ sized_text bytes,
  refl,
  u32_spelled 0 (omega arith),
  (constant_text (constant at), sized_text bytes, refl, place, bytes_spelled bytes small),
)

at_first : SpellsConstant (constant 0) (constant_text (constant 0))
at_first = (
  0x41 ∷ signed_text (pos 0),
  0x0B ∷ [],
  refl,
  (
    pos 0,
    refl,
    (
      signed_text (pos 0),
      refl,
      signed_spelled 32 (pos 0) (omega arith)
          (omega arith) (search arith),
    ),
  ),
  refl,
)

at_second : SpellsConstant (constant 32768) (constant_text (constant 32768))
at_second = (
  0x41 ∷ signed_text (pos 32768),
  0x0B ∷ [],
  refl,
  (
    pos 32768,
    refl,
    (signed_text (pos 32768), refl, signed_spelled 32 (pos 32768) (omega arith) (omega arith) (search arith)),
  ),
  refl,
)

-- ---- how long it is

sized_few : (content : List ℕ) → length (sized_text content) ≤ 10 + length content
sized_few content = omega (arith, length-append (unsigned_text (length content)) content, unsigned_most (length content))

first_few : length (constant_text (constant 0)) ≡ 3
unfolding shortest
first_few = refl

second_few : length (constant_text (constant 32768)) ≡ 5
unfolding shortest
second_few = refl

data_few : (at : ℕ) (bytes : List ℕ) → length (data_text (segment_at at bytes)) ≤ 11 + length (constant_text (constant at)) + length bytes
data_few at bytes = omega (arith, length-append (constant_text (constant at)) (sized_text bytes), sized_few bytes)

-- ---- the module

module _ (numbers opening : List ℕ) (n : length numbers ≤ 168) (o : length opening ≤ 4800) where
  abbrev pub datas : List Data
  datas = segment_at 0 numbers ∷ segment_at 32768 opening ∷ []

  abbrev pub content : List ℕ
  content = vector_text data_text datas

  abbrev pub one : List ℕ
  one = data_text (segment_at 0 numbers)

  abbrev pub two : List ℕ
  two = data_text (segment_at 32768 opening)

  content_few : length content ≤ 6000
  content_few =
      omega (
        arith,
        n,
        o,
        length-append (unsigned_text 2) (one ++ (two ++ [])),
        unsigned_most 2,
        length-append one (two ++ []),
        length-append two [],
        data_few 0 numbers,
        data_few 32768 opening,
        first_few,
        second_few,
      )

  abbrev pub last : List ℕ
  last = section_text kind.Data content

  last_spelled : SpellsSection (behind sections start) (Datas datas) last
  last_spelled =
      let small = content_few in (
        omega arith,
        (
          sized_text content,
          refl,
          (
            unsigned_text (length content),
            content,
            refl,
            u32_spelled (length content) (omega (arith, small)),
            (
              unsigned_text 2,
              one ++ (two ++ []),
              refl,
              u32_spelled 2 (omega arith),
              (
                one,
                two ++ [],
                refl,
                data_spelled 0 numbers at_first (omega (arith, n)),
                (two, [], refl, data_spelled 32768 opening at_second (omega (arith, o)), refl),
              ),
            ),
          ),
        ),
      )

  abbrev pub rest : List ℕ
  rest = found.text ++ last

  rest_few : length (magic ++ (version ++ rest)) ≤ most_bytes
  rest_few = omega (arith, found.length, length-append found.text last, sized_few content, content_few)

  abbrev pub bytes : List ℕ
  bytes = magic ++ (version ++ rest)

  pub with_memory : SpellsModule (record program { datas = datas }) bytes
  with_memory = (
    rest_few,
    (
      rest,
      refl,
      (
        sections ++ Datas datas ∷ [],
        refl,
        refl,
        appended sections start found.text (Datas datas) last
            found.spelled last_spelled,
      ),
    ),
  )

module _ (m : Manner) (answer opening : List ℕ) (a : length answer ≤ 128) (o : length opening ≤ 4800) where
  pub numbers_few : length (numbers_of m answer opening) ≤ 168
  numbers_few = omega (arith, a)

  -- the module of a guest is spelled by some bytes
  abbrev pub guest_bytes : List ℕ
  guest_bytes = bytes (numbers_of m answer opening) opening numbers_few o

  pub guest_spelled : SpellsModule (guest_module m answer opening) guest_bytes
  guest_spelled = with_memory (numbers_of m answer opening) opening numbers_few o

  pub guest_is_spelled : (made : Module) → made ≡ flat_module (guest_module m answer opening) → IsSpelled made
  guest_is_spelled made is = record { nested = guest_module m answer opening; flat = is; bytes = guest_bytes; spelled = guest_spelled }
