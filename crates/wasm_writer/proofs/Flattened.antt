-- The text of a flat module is that of its nested form, and a module that some bytes spell is small.
use Rattle.std.proofs.Common.{◌≡◌, ℕ, ◌+◌, ◌<◌, ◌≤◌, ◌^◌, List, [], ◌∷◌, ◌++◌, length, map, refl, sym, ap, subst, ◌∙◌, arith, append_assoc, All}
use Rattle.std.specs.List.{AllByRecursion}
use Rattle.std.proofs.lemmas.List.{length-map}
use Rattle.std.proofs.lemmas.List.Elements.{All-from_recursion}
use Rattle.leb_bytes.specs.Writing.{unsigned_text}
use Rattle.wasm_types.specs.declared.instr.Instr.{Instr}
use Rattle.wasm_types.specs.declared.instr.Instr.TheVariants as instr
use Rattle.wasm_types.specs.declared.module.Func.{Func}
use Rattle.wasm_types.specs.declared.module.Module.{Module}
use Rattle.wasm_types.specs.Nested.{Code, Nil, Leaf, InBlock, InLoop, IfOnly, IfElse, size, flat_code, flat_body}
use Rattle.wasm_types.specs.Modules.{NestedFunc, NestedModule, flat_func, flat_module}
use Rattle.wasm_types.specs.Back.{nested_module}
use Rattle.wasm_types.proofs.Whole.{module_back}
use Rattle.wasm_types.proofs.Spelled.{plain_module}
use Rattle.module_specs.specs.declared.section.SectionKind.{SectionKind}
use Rattle.module_specs.specs.declared.section.SectionKind.TheVariants as kind
use Rattle.module_specs.specs.Spelling.{SpellsEach, block_byte}
use Rattle.module_specs.specs.CodeSpelling.{SpellsBody, most_locals}
use Rattle.module_specs.specs.ModuleSpelling.{magic, version, SpellsModule, most_bytes}
use Rattle.module_specs.proofs.SpellableParts.{module_fits}
use Rattle.wasm_writer.specs.Texts.{each_text, sized_text}
use Rattle.wasm_writer.specs.CodeTexts.{instr_text, code_text, expr_text, locals_text, body_text}
use Rattle.wasm_writer.specs.ModuleTexts.{func_type_text, table_text, memory_text, global_text, export_text, element_text, data_text, section_text, items_text, start_text, module_text}
use Rattle.wasm_writer.specs.FlatTexts.{index_text, flat_body_text, flat_sections_text, flat_module_text}
use Rattle.module_specs.specs.Spelled.{IsSpelled}
use Rattle.wasm_writer.proofs.LeastModule.{spelled_of, module_least}

-- ---- code

pub each_text-append : {A : Type 0} (text : A → List ℕ) (xs ys : List A)
    → each_text text (xs ++ ys) ≡ each_text text xs ++ each_text text ys
each_text-append text [] ys = refl
each_text-append text (x ∷ xs) ys =
    ap (λ l. text x ++ l) (each_text-append text xs ys) ∙ sym (append_assoc (text x) (each_text text xs) (each_text text ys))

-- a list that is closed, and what follows
closed : (one two : List Instr) (c d : List ℕ) (i : Instr) → each_text instr_text one ≡ c → each_text instr_text two ≡ d
    → each_text instr_text (one ++ i ∷ two) ≡ c ++ (instr_text i ++ d)
closed one two c d i e f =
    each_text-append instr_text one (i ∷ two) ∙ ap (λ l. l ++ (instr_text i ++ each_text instr_text two)) e
    ∙ ap (λ l. c ++ (instr_text i ++ l)) f

flat_code_text : (c : Code) (p : ℕ) → each_text instr_text (flat_code c p) ≡ code_text c
flat_code_text Nil p = refl
flat_code_text (Leaf i rest) p = ap (λ l. instr_text i ++ l) (flat_code_text rest (p + 1))
flat_code_text (InBlock r inner rest) p =
    let e = p + 1 + size inner in
    ap (λ l. 0x02 ∷ block_byte r ∷ l) (closed (flat_code inner (p + 1)) (flat_code rest (e + 1)) (code_text inner) (code_text rest)
    instr.End (flat_code_text inner (p + 1)) (flat_code_text rest (e + 1)))
flat_code_text (InLoop r inner rest) p =
    let e = p + 1 + size inner in
    ap (λ l. 0x03 ∷ block_byte r ∷ l) (closed (flat_code inner (p + 1)) (flat_code rest (e + 1)) (code_text inner) (code_text rest)
    instr.End (flat_code_text inner (p + 1)) (flat_code_text rest (e + 1)))
flat_code_text (IfOnly r inner rest) p =
    let e = p + 1 + size inner in
    ap (λ l. 0x04 ∷ block_byte r ∷ l) (closed (flat_code inner (p + 1)) (flat_code rest (e + 1)) (code_text inner) (code_text rest)
    instr.End (flat_code_text inner (p + 1)) (flat_code_text rest (e + 1)))
flat_code_text (IfElse r first second rest) p =
    let q = p + 1 + size first in
    let e = q + 1 + size second in
    let behind = closed (flat_code second (q + 1)) (flat_code rest (e + 1)) (code_text second) (code_text rest) instr.End
    (flat_code_text second (q + 1)) (flat_code_text rest (e + 1)) in
    ap (λ l. 0x04 ∷ block_byte r ∷ l) (closed (flat_code first (p + 1)) (flat_code second (q + 1) ++ instr.End ∷ flat_code rest (e + 1))
    (code_text first) (code_text second ++ 0x0B ∷ code_text rest) (instr.Else e) (flat_code_text first (p + 1)) behind)

flat_expr_text : (c : Code) → each_text instr_text (flat_body c) ≡ expr_text c
flat_expr_text c = each_text-append instr_text (flat_code c 0) (instr.End ∷ []) ∙ ap (λ l. l ++ 0x0B ∷ []) (flat_code_text c 0)

flat_func_text : (f : NestedFunc) → flat_body_text (flat_func f) ≡ body_text f
flat_func_text f = ap (λ l. sized_text (locals_text f.locals ++ l)) (flat_expr_text f.code)

-- ---- sections and modules

module _ {A B : Type 0} (f : A → B) (text : B → List ℕ) (other : A → List ℕ) (same : (x : A) → text (f x) ≡ other x) where
  each_text-map : (xs : List A) → each_text text (map f xs) ≡ each_text other xs
  each_text-map [] = refl
  each_text-map (x ∷ xs) = ap (λ l. l ++ each_text text (map f xs)) (same x) ∙ ap (λ l. other x ++ l) (each_text-map xs)

  items_text-map : (k : SectionKind) (xs : List A) → items_text k text (map f xs) ≡ items_text k other xs
  items_text-map k [] = refl
  items_text-map k (x ∷ xs) =
      ap (λ n. section_text k (unsigned_text n ++ each_text text (map f (x ∷ xs)))) (length-map (x ∷ xs) f)
      ∙ ap (λ l. section_text k (unsigned_text (length (x ∷ xs)) ++ l)) (each_text-map (x ∷ xs))

pub flat_text : (m : NestedModule) → flat_module_text (flat_module m) ≡ module_text m
flat_text m = ap (λ l. header l (items_text kind.Code flat_body_text (map flat_func m.funcs))) funcs
    ∙ ap (header (items_text kind.Function unsigned_text (map (λ f. f.ty) m.funcs))) codes
  where
    funcs : items_text kind.Function index_text (map flat_func m.funcs) ≡ items_text kind.Function unsigned_text (map (λ f. f.ty) m.funcs)
    funcs =
        items_text-map flat_func index_text (λ (f : NestedFunc). unsigned_text f.ty) (λ f. refl) kind.Function m.funcs
        ∙ sym (items_text-map (λ (f : NestedFunc). f.ty) unsigned_text (λ (f : NestedFunc). unsigned_text f.ty) (λ f. refl) kind.Function
        m.funcs)

    codes : items_text kind.Code flat_body_text (map flat_func m.funcs) ≡ items_text kind.Code body_text m.funcs
    codes = items_text-map flat_func flat_body_text body_text flat_func_text kind.Code m.funcs

    header : List ℕ → List ℕ → List ℕ
    header a b = magic ++ (version ++ (
        items_text kind.Type func_type_text m.types
        ++ (a
        ++ (items_text kind.Table table_text m.tables
        ++ (items_text kind.Memory memory_text m.memories
        ++ (items_text kind.Global global_text m.globals
        ++ (items_text kind.Export export_text m.exports
        ++ (start_text m.start
        ++ (items_text kind.Element element_text m.elements
        ++ (b
        ++ items_text kind.Data data_text m.datas))))))))))

-- ---- a module that some bytes spell

back : (n : NestedModule) (bytes : List ℕ) → SpellsModule n bytes → nested_module (flat_module n) ≡ n
back n bytes s = module_back n (plain_module n (module_fits n bytes s))

pub spelled_text : (m : Module) → IsSpelled m → flat_module_text m ≡ module_text (nested_module m)
spelled_text m s =
    ap flat_module_text s.flat ∙ flat_text s.nested ∙ ap module_text (sym (back s.nested s.bytes s.spelled))
    ∙ ap (λ m. module_text (nested_module m)) (sym s.flat)

pub spelled_small : (m : Module) → IsSpelled m → length (flat_module_text m) ≤ most_bytes
spelled_small m s =
    let same : flat_module_text m ≡ module_text s.nested = ap flat_module_text s.flat ∙ flat_text s.nested in
    let fewer : length (module_text s.nested) ≤ length s.bytes = (module_least s.nested).unbeaten s.bytes s.spelled in
    let most : length s.bytes ≤ most_bytes = s.spelled.0 in
    omega (arith, ap length same)

pub sections_small : (m : Module) → IsSpelled m → length (flat_sections_text m) + 8 ≤ most_bytes
sections_small m s = let small : length (flat_module_text m) ≤ most_bytes = spelled_small m s in omega arith

pub spelled_length : (m : Module) → IsSpelled m → 8 + length (flat_sections_text m) ≡ length (module_text (nested_module m))
spelled_length m s =
    let whole : 8 + length (flat_sections_text m) ≡ length (flat_module_text m) = omega arith in
    whole ∙ ap length (spelled_text m s)

abbrev pub FewLocals : Func → Type 0
FewLocals f = length f.locals < 2 ^ 32

few_locals : (fs : List NestedFunc) (text : List ℕ) → SpellsEach SpellsBody fs text → AllByRecursion FewLocals (map flat_func fs)
few_locals [] text s = tt
few_locals (f ∷ fs) text s =
    let content = s.3.4 in
    let locals = content.3 in
    let few : length f.locals ≤ most_locals = locals.2 in
    (omega arith, few_locals fs s.1 s.4)

pub spelled_locals : (m : Module) → IsSpelled m → All FewLocals m.funcs
spelled_locals m s =
    let n = s.nested in
    let rest = s.spelled.1 in
    let codes = (spelled_of n rest.0 rest.2).parts.codes in
    let each = codes.4.4 in
    subst (λ (m : Module). All FewLocals m.funcs) (sym s.flat) (All-from_recursion FewLocals (map flat_func n.funcs)
    (few_locals n.funcs codes.4.1 each))
