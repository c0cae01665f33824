-- Constants and modules: what is spelled is what can be spelled.
use Rattle.std.proofs.Common.{◌≡◌, ℕ, suc, ◌-◌, ◌<◌, ◌^◌, ℤ, pos, negsuc, List, [], ◌∷◌, ◌++◌, All, refl, sym, ap, subst, ◌∙◌, arith, inl, inr}
use Rattle.std.specs.List.{AllByRecursion}
use Rattle.std.specs.Int.{cast_unsigned, w32, w64}
use Rattle.std.proofs.lemmas.Bool.{cases_lt}
use Rattle.std.proofs.lemmas.Int.{ints}
use Rattle.std.proofs.lemmas.List.Elements.{All-from_recursion, All-nil}
use Rattle.leb_bytes.specs.Spelling.{FitsBits}
use Rattle.leb_bytes.specs.Writing.{signed_text}
use Rattle.leb_bytes.proofs.Sizes.{signed_fits}
use Rattle.leb_bytes.proofs.Splitting.{signed_spelled}
use Rattle.wasm_types.specs.declared.instr.ValType.{ValType}
use Rattle.wasm_types.specs.declared.instr.ValType.TheVariants.{I32, I64}
use Rattle.wasm_types.specs.declared.module.Constant.{Constant}
use Rattle.wasm_types.specs.declared.module.GlobalVar.{GlobalVar}
use Rattle.wasm_types.specs.declared.module.Element.{Element}
use Rattle.wasm_types.specs.declared.module.Data.{Data}
use Rattle.wasm_types.specs.Modules.{NestedFunc, NestedModule}
use Rattle.wasm_types.specs.Spellable.{HasSpellableLeaves, FitsType, HasSpellableParts}
use Rattle.module_specs.specs.Spelling.{SpellsEach, SpellsVector}
use Rattle.module_specs.specs.CodeSpelling.{SpellsBody, most_nested}
use Rattle.module_specs.specs.ModuleSpelling.{SpellsValue, SpellsConstant, SpellsGlobal, SpellsElement, SpellsData, Section, Custom, Types, Imports, Funcs, Tables, Memories, Globals, Exports, Start, Elements, Codes, Datas, Before, after, SpellsSectionContent, SpellsSections, put, put_all, empty, SpellsModule}
use Rattle.module_specs.proofs.Spellable.{leaves_fit}

-- ---- constants

i32_bits_fit : (z : ℤ) → FitsBits 32 z → cast_unsigned w32 z < 2 ^ 32
i32_bits_fit (pos n) f = omega (arith, ints, f.1)
i32_bits_fit (negsuc n) f = omega arith

i64_bits_fit : (z : ℤ) → FitsBits 64 z → cast_unsigned w64 z < 2 ^ 64
i64_bits_fit (pos n) f = omega (arith, ints, f.1)
i64_bits_fit (negsuc n) f = omega arith

value_fits : (t : ValType) (c : Constant) (text : List ℕ) → SpellsValue t c text → FitsType c
value_fits I32 c text s = subst FitsType (sym s.1) (i32_bits_fit s.0 (signed_fits 32 s.0 s.2.0 s.2.2))
value_fits I64 c text s = subst FitsType (sym s.1) (i64_bits_fit s.0 (signed_fits 64 s.0 s.2.0 s.2.2))

pub constant_fits : (c : Constant) (text : List ℕ) → SpellsConstant c text → FitsType c
constant_fits c text s = value_fits c.ty c s.0 s.3

i32_of_bits : (n : ℕ) → n < 2 ^ 32 → (z : ℤ) × FitsBits 32 z × (cast_unsigned w32 z ≡ n)
i32_of_bits n small =
    elim (cases_lt n (2 ^ 31)) [
      | inl less ↦ (pos n, (omega (arith, ints), omega (arith, ints)), refl)
      | inr over ↦ (negsuc (2 ^ 32 - suc n), (omega (arith, ints), omega (arith, ints)), omega arith)
    ]

i64_of_bits : (n : ℕ) → n < 2 ^ 64 → (z : ℤ) × FitsBits 64 z × (cast_unsigned w64 z ≡ n)
i64_of_bits n small =
    elim (cases_lt n (2 ^ 63)) [
      | inl less ↦ (pos n, (omega (arith, ints), omega (arith, ints)), refl)
      | inr over ↦ (negsuc (2 ^ 64 - suc n), (omega (arith, ints), omega (arith, ints)), omega arith)
    ]

same_constant : (c : Constant) (t : ValType) (n : ℕ) → c.ty ≡ t → n ≡ c.value → c ≡ record { ty = t; value = n }
same_constant c t n e f = ap (λ t. record { ty = t; value = c.value }) e ∙ ap (λ n. record { ty = t; value = n }) (sym f)

value_text : (t : ValType) (c : Constant) → c.ty ≡ t → FitsType c → (text : List ℕ) × SpellsValue t c text
value_text I32 c e f =
    let z = i32_of_bits c.value (subst (λ t. FitsType (record { ty = t; value = c.value })) e f) in (
      0x41 ∷ signed_text z.0,
      (
        z.0,
        same_constant c I32 (cast_unsigned w32 z.0) e z.2,
        (signed_text z.0, refl, signed_spelled 32 z.0 (omega arith) (omega arith) z.1),
      ),
    )
value_text I64 c e f =
    let z = i64_of_bits c.value (subst (λ t. FitsType (record { ty = t; value = c.value })) e f) in (
      0x42 ∷ signed_text z.0,
      (
        z.0,
        same_constant c I64 (cast_unsigned w64 z.0) e z.2,
        (signed_text z.0, refl, signed_spelled 64 z.0 (omega arith) (omega arith) z.1),
      ),
    )

pub constant_text : (c : Constant) → FitsType c → (text : List ℕ) × SpellsConstant c text
constant_text c f = let v = value_text c.ty c refl f in (v.0 ++ 0x0B ∷ [], (v.0, 0x0B ∷ [], refl, v.1, refl))

-- ---- modules

pub each_fits : {A : Type 0} (S : A → List ℕ → Type 0) (P : A → Type 0) → ((x : A) (text : List ℕ) → S x text → P x)
    → (xs : List A) (text : List ℕ) → SpellsEach S xs text → AllByRecursion P xs
each_fits S P f [] text s = tt
each_fits S P f (x ∷ xs) text s = (f x s.0 s.3, each_fits S P f xs s.1 s.4)

all_fit : {A : Type 0} (S : A → List ℕ → Type 0) (P : A → Type 0) → ((x : A) (text : List ℕ) → S x text → P x)
    → (xs : List A) (text : List ℕ) → SpellsVector S xs text → All P xs
all_fit S P f xs text s = All-from_recursion P xs (each_fits S P f xs s.1 s.4)

abbrev FuncFits : NestedFunc → Type 0
FuncFits f = HasSpellableLeaves f.code

body_fits : (f : NestedFunc) (text : List ℕ) → SpellsBody f text → FuncFits f
body_fits f text s = let content = s.4 in let code = content.4 in leaves_fit f.code most_nested code.0 code.2

abbrev GlobalFits : GlobalVar → Type 0
GlobalFits g = FitsType g.init

global_fits : (g : GlobalVar) (text : List ℕ) → SpellsGlobal g text → GlobalFits g
global_fits g text s = let init = s.4 in constant_fits g.init init.0 init.2

abbrev ElementFits : Element → Type 0
ElementFits e = FitsType e.offset

element_fits : (e : Element) (text : List ℕ) → SpellsElement e text → ElementFits e
element_fits e text s = let rest = s.4 in constant_fits e.offset rest.0 rest.3

abbrev DataFits : Data → Type 0
DataFits d = FitsType d.offset

data_fits : (d : Data) (text : List ℕ) → SpellsData d text → DataFits d
data_fits d text s = let rest = s.4 in constant_fits d.offset rest.0 rest.3

module _ (m : NestedModule) (h : HasSpellableParts m) where
  put_fits : (s : Before) (x : Section) (text : List ℕ) → SpellsSectionContent s x text → HasSpellableParts (put x m)
  put_fits s Custom text c = h
  put_fits s (Types types) text c = record { funcs = h.funcs; globals = h.globals; elements = h.elements; datas = h.datas }
  put_fits s Imports text c = h
  put_fits s (Funcs indices) text c = h
  put_fits s (Tables tables) text c = record { funcs = h.funcs; globals = h.globals; elements = h.elements; datas = h.datas }
  put_fits s (Memories memories) text c = record { funcs = h.funcs; globals = h.globals; elements = h.elements; datas = h.datas }
  put_fits s (Globals globals) text c = record {
    funcs = h.funcs;
    globals = all_fit SpellsGlobal GlobalFits global_fits globals text c;
    elements = h.elements;
    datas = h.datas;
  }
  put_fits s (Exports exports) text c = record { funcs = h.funcs; globals = h.globals; elements = h.elements; datas = h.datas }
  put_fits s (Start func) text c = record { funcs = h.funcs; globals = h.globals; elements = h.elements; datas = h.datas }
  put_fits s (Elements elements) text c = record {
    funcs = h.funcs;
    globals = h.globals;
    elements = all_fit SpellsElement ElementFits
        element_fits elements text c;
    datas = h.datas;
  }
  put_fits s (Codes funcs) text c = record {
    funcs = all_fit SpellsBody FuncFits body_fits funcs text c.1;
    globals = h.globals;
    elements
        = h.elements;
    datas = h.datas;
  }
  put_fits s (Datas datas) text c = record {
    funcs = h.funcs;
    globals = h.globals;
    elements = h.elements;
    datas = all_fit SpellsData
        DataFits data_fits datas text c;
  }

sections_fit : (xs : List Section) (s : Before) (m : NestedModule) (text : List ℕ) → HasSpellableParts m → SpellsSections s xs text
    → HasSpellableParts (put_all xs m)
sections_fit [] s m text h t = h
sections_fit (x ∷ xs) s m text h t =
    let section = t.3 in
    let sized = section.1.2 in
    sections_fit xs (after x s) (put x m) t.1 (put_fits m h s x sized.1 sized.4) t.4

nothing_unfit : HasSpellableParts empty
nothing_unfit = record { funcs = All-nil FuncFits; globals = All-nil GlobalFits; elements = All-nil ElementFits; datas = All-nil DataFits }

pub module_fits : (m : NestedModule) (bytes : List ℕ) → SpellsModule m bytes → HasSpellableParts m
module_fits m bytes s =
    let rest = s.1.2 in
    subst HasSpellableParts (sym rest.1) (sections_fit rest.0 (record { last = 0; indices = [] }) empty s.1.0 nothing_unfit rest.3)
