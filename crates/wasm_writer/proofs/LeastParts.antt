-- The parts of a module: the text of each is a spelling and as short as any.
use Rattle.std.proofs.Common.{SFits, ◌≡◌, ℕ, ◌-◌, ◌%◌, ◌<◌, ◌≤◌, ◌^◌, ℤ, pos, negsuc, List, [], ◌∷◌, ◌++◌, length, Option, Some, None, refl, sym, ap, subst, ◌∙◌, arith}
use Rattle.std.specs.Int.{cast_unsigned, cast_signed, Width, w32, w64}
use mir.Val.{bits, hbits}
use Rattle.std.proofs.lemmas.Int.{ints, to_z-of_z}
use Rattle.std.specs.Prelude.{IsUtf8}
use Rattle.leb_bytes.specs.Spelling.{SpellsSigned, FitsBits}
use Rattle.leb_bytes.specs.Writing.{unsigned_text, signed_text}
use Rattle.leb_bytes.proofs.Sizes.{signed_fits}
use Rattle.wasm_types.specs.declared.instr.ValType.{ValType}
use Rattle.wasm_types.specs.declared.instr.ValType.TheVariants.{I32, I64}
use Rattle.wasm_types.specs.declared.module.FuncType.{FuncType}
use Rattle.wasm_types.specs.declared.module.Limits.{Limits}
use Rattle.wasm_types.specs.declared.module.Constant.{Constant}
use Rattle.wasm_types.specs.declared.module.GlobalVar.{GlobalVar}
use Rattle.wasm_types.specs.declared.module.Export.{Export}
use Rattle.wasm_types.specs.declared.module.Element.{Element}
use Rattle.wasm_types.specs.declared.module.Data.{Data}
use Rattle.wasm_types.specs.Modules.{NestedFunc}
use Rattle.module_specs.specs.Spelling.{Then, SpellsByte, SpellsU32, SpellsVector, SpellsName, SpellsType}
use Rattle.module_specs.specs.CodeSpelling.{SpellsLocals, SpellsExpr, SpellsContent, SpellsBody}
use Rattle.module_specs.specs.ModuleSpelling.{Behind, SpellsFuncType, SpellsSizes, SpellsTable, SpellsMemory, SpellsLimits, SpellsValue, SpellsConstant, SpellsGlobal, SpellsExport, SpellsElement, SpellsData, mutable_byte, most_entries, most_pages}
use Rattle.wasm_writer.specs.Texts.{vector_text, sized_text, type_text}
use Rattle.wasm_writer.specs.CodeTexts.{locals_text, expr_text, body_text}
use Rattle.wasm_writer.specs.ModuleTexts.{func_type_text, sizes_text, table_text, memory_text, value_text, constant_text, global_text, export_text, element_text, data_text}
use Rattle.wasm_writer.proofs.Least.{Least, then_least, behind_least, where_least, byte_least, type_least, u32_least, zero_least, signed_least, vector_least, sized_least, bytes_least}
use Rattle.wasm_writer.proofs.LeastCode.{expr_least}
use Rattle.wasm_writer.proofs.LeastLocals.{locals_least}

pub body_least : (f : NestedFunc) → Least (SpellsBody f) (body_text f)
body_least f =
    sized_least SpellsContent f (locals_text f.locals ++ expr_text f.code)
    (then_least (SpellsLocals f.locals) (SpellsExpr f.code) (locals_text f.locals) (expr_text f.code) (locals_least f.locals) (expr_least f.code))

pub func_type_least : (f : FuncType) → Least (SpellsFuncType f) (func_type_text f)
func_type_least f =
    let types = vector_least SpellsType type_text type_least in
    behind_least 0x60 (Then (SpellsVector SpellsType f.params) (SpellsVector SpellsType f.results)) (vector_text type_text f.params ++ vector_text type_text f.results)
    (then_least (SpellsVector SpellsType f.params) (SpellsVector SpellsType f.results) (vector_text type_text f.params) (vector_text type_text f.results) (types f.params) (types f.results))

sizes_least : (min : ℕ) (max : Option ℕ) → Least (SpellsSizes min max) (sizes_text min max)
sizes_least min None = behind_least 0x00 (SpellsU32 min) (unsigned_text min) (u32_least min)
sizes_least min (Some max) =
    behind_least 0x01 (Then (SpellsU32 min) (SpellsU32 max)) (unsigned_text min ++ unsigned_text max)
    (then_least (SpellsU32 min) (SpellsU32 max) (unsigned_text min) (unsigned_text max) (u32_least min) (u32_least max))

limits_least : (most : ℕ) (l : Limits) → Least (SpellsLimits most l) (sizes_text l.min l.max)
limits_least most l = where_least (l.min ≤ most) (SpellsSizes l.min l.max) (sizes_text l.min l.max) (sizes_least l.min l.max)

pub table_least : (l : Limits) → Least (SpellsTable l) (table_text l)
table_least l = behind_least 0x70 (SpellsLimits most_entries l) (sizes_text l.min l.max) (limits_least most_entries l)

pub memory_least : (l : Limits) → Least (SpellsMemory l) (memory_text l)
memory_least l = limits_least most_pages l

-- ---- constants

i32_small : (z : ℤ) → FitsBits 32 z → cast_unsigned w32 z % 2 ^ 32 ≡ cast_unsigned w32 z
i32_small (pos n) f = let half : n < 2 ^ 31 = omega (arith, ints, f.1) in omega arith
i32_small (negsuc n) f = omega arith

signed_fits_width : (w : Width) (z : ℤ) → FitsBits (bits w) z → hbits w ≡ bits w - 1 → SFits w z
signed_fits_width w (pos n) f half = record { sfits = subst (λ k. n < 2 ^ k) (sym half) (omega (arith, ints, f.1)) }
signed_fits_width w (negsuc n) f half = record { sfits = subst (λ k. n < 2 ^ k) (sym half) (omega (arith, ints, f.0)) }

i32_back : (z : ℤ) → FitsBits 32 z → cast_signed w32 (cast_unsigned w32 z % 2 ^ 32) ≡ z
i32_back z f = ap (cast_signed w32) (i32_small z f) ∙ to_z-of_z w32 z (signed_fits_width w32 z f refl)

i64_back : (z : ℤ) → FitsBits 64 z → cast_signed w64 (cast_unsigned w64 z) ≡ z
i64_back z f = to_z-of_z w64 z (signed_fits_width w64 z f refl)

-- a constant whose number is known
known_least : (w : ℕ) (op : ℕ) (z : ℤ) → 0 < w → w ≤ 64 → Least (Behind op (λ t. SpellsSigned w t z)) (op ∷ signed_text z)
known_least w op z some most = behind_least op (λ t. SpellsSigned w t z) (signed_text z) (signed_least w z some most)

value_least : (t : ValType) (c : Constant) → Least (SpellsValue t c) (value_text t c.value)
value_least I32 c = record {
  spelled = λ other s. (s.0, s.1, subst (λ y. Behind 0x41 (λ t. SpellsSigned 32 t s.0) (0x41 ∷ signed_text y)) (sym (is other s)) ((known s.0).spelled other s.2));
  unbeaten = λ other s. subst (λ y. length (0x41 ∷ signed_text y) ≤ length other) (sym (is other s)) ((known s.0).unbeaten other s.2);
}
  where
    known : (z : ℤ) → Least (Behind 0x41 (λ t. SpellsSigned 32 t z)) (0x41 ∷ signed_text z)
    known z = known_least 32 0x41 z (omega arith) (omega arith)

    is : (other : List ℕ) (s : SpellsValue I32 c other) → cast_signed w32 (c.value % 2 ^ 32) ≡ s.0
    is other s = ap (λ (c : Constant). cast_signed w32 (c.value % 2 ^ 32)) s.1 ∙ i32_back s.0 (signed_fits 32 s.0 s.2.0 s.2.2)
value_least I64 c = record {
  spelled = λ other s. (s.0, s.1, subst (λ y. Behind 0x42 (λ t. SpellsSigned 64 t s.0) (0x42 ∷ signed_text y)) (sym (is other s)) ((known s.0).spelled other s.2));
  unbeaten = λ other s. subst (λ y. length (0x42 ∷ signed_text y) ≤ length other) (sym (is other s)) ((known s.0).unbeaten other s.2);
}
  where
    known : (z : ℤ) → Least (Behind 0x42 (λ t. SpellsSigned 64 t z)) (0x42 ∷ signed_text z)
    known z = known_least 64 0x42 z (omega arith) (omega arith)

    is : (other : List ℕ) (s : SpellsValue I64 c other) → cast_signed w64 c.value ≡ s.0
    is other s = ap (λ (c : Constant). cast_signed w64 c.value) s.1 ∙ i64_back s.0 (signed_fits 64 s.0 s.2.0 s.2.2)

pub constant_least : (c : Constant) → Least (SpellsConstant c) (constant_text c)
constant_least c = then_least (SpellsValue c.ty c) (SpellsByte 0x0B) (value_text c.ty c.value) (0x0B ∷ []) (value_least c.ty c) (byte_least 0x0B)

-- ---- globals, exports and segments

pub global_least : (g : GlobalVar) → Least (SpellsGlobal g) (global_text g)
global_least g =
    then_least (SpellsType g.ty) (Behind (mutable_byte g.mutable) (SpellsConstant g.init)) (type_text g.ty) (mutable_byte g.mutable ∷ constant_text g.init)
    (type_least g.ty) (behind_least (mutable_byte g.mutable) (SpellsConstant g.init) (constant_text g.init) (constant_least g.init))

name_least : (name : List ℕ) → Least (SpellsName name) (sized_text name)
name_least name = where_least (IsUtf8 name) (SpellsVector SpellsByte name) (sized_text name) (bytes_least name)

pub export_least : (e : Export) → Least (SpellsExport e) (export_text e)
export_least e =
    where_least (e.kind ≤ 3) (Then (SpellsName e.name) (Behind e.kind (SpellsU32 e.index))) (export_text e)
    (then_least (SpellsName e.name) (Behind e.kind (SpellsU32 e.index)) (sized_text e.name) (e.kind ∷ unsigned_text e.index)
    (name_least e.name) (behind_least e.kind (SpellsU32 e.index) (unsigned_text e.index) (u32_least e.index)))

pub element_least : (e : Element) → Least (SpellsElement e) (element_text e)
element_least e =
    then_least (SpellsU32 0) (Then (SpellsConstant e.offset) (SpellsVector SpellsU32 e.funcs)) (0 ∷ []) (constant_text e.offset ++ vector_text unsigned_text e.funcs)
    zero_least
    (then_least (SpellsConstant e.offset) (SpellsVector SpellsU32 e.funcs) (constant_text e.offset) (vector_text unsigned_text e.funcs) (constant_least e.offset) (vector_least SpellsU32 unsigned_text u32_least e.funcs))

pub data_least : (d : Data) → Least (SpellsData d) (data_text d)
data_least d =
    then_least (SpellsU32 0) (Then (SpellsConstant d.offset) (SpellsVector SpellsByte d.bytes)) (0 ∷ []) (constant_text d.offset ++ sized_text d.bytes)
    zero_least
    (then_least (SpellsConstant d.offset) (SpellsVector SpellsByte d.bytes) (constant_text d.offset) (sized_text d.bytes) (constant_least d.offset) (bytes_least d.bytes))
