-- What holds of modules that some bytes spell.
use Rattle.std.proofs.Common.{◌≡◌, ℕ, zero, suc, ◌+◌, ◌-◌, ◌≤◌, List, [], ◌∷◌, ◌++◌, length, Option, Some, None, refl, sym, ap, ◌∙◌, subst, arith}
use Rattle.std.proofs.lemmas.Bool.{leb-true}
use Rattle.std.proofs.lemmas.List.Elements.{recursion_from_All}
use Rattle.std.specs.Prelude.{true, map, slice_get, option_map, option_and_then}
use Rattle.std.specs.List.{AllByRecursion}
use Rattle.wasm_types.specs.declared.module.FuncType.{FuncType}
use Rattle.wasm_types.specs.declared.module.Func.{Func}
use Rattle.wasm_types.specs.declared.module.Limits.{Limits}
use Rattle.wasm_types.specs.declared.module.Module.{Module}
use Rattle.wasm_types.specs.Nested.{Code, Nil, Leaf, InBlock, InLoop, IfOnly, IfElse, HasPlainLeaves, size, flat_code, flat_body}
use Rattle.wasm_types.specs.Spellable.{IsSpellable, HasSpellableLeaves, HasSpellableParts}
use Rattle.wasm_types.specs.declared.instr.Instr.{Instr}
use Rattle.wasm_types.specs.declared.instr.Instr.TheVariants.{Block, Loop, If, Else, End, Numeric, Access, I32Const, I64Const}
use Rattle.wasm_types.specs.Modules.{NestedFunc, NestedModule, HasPlainFuncs, flat_func, flat_module}
use Rattle.wasm_types.specs.Back.{nested_module}
use Rattle.wasm_types.proofs.Whole.{body_stands, module_back}
use Rattle.module_specs.specs.CodeSpelling.{SpellsCode, SpellsBody, most_nested}
use Rattle.module_specs.specs.ModuleSpelling.{SpellsTable, SpellsMemory, SpellsSectionContent, SpellsSections, SpellsModule, Section, Custom, Types, Imports, Funcs, Tables, Memories, Globals, Exports, Start, Elements, Codes, Datas, Before, after, put, put_all, empty, most_entries, most_pages}
use Rattle.module_specs.proofs.SpellableParts.{each_fits}
use Rattle.code_specs.specs.declared.rule.Rule.TheVariants as rule
use Rattle.code_specs.specs.Instances.{first_failing}
use Rattle.code_specs.specs.Validity.{each, has_one_result, validity, IsValid}
use Rattle.code_laws.proofs.Tests.{passed, some_is}
use Rattle.code_laws.proofs.Parts.{none_fails, each_passes}
use Rattle.code_specs.specs.Signatures.{Function, function_at, typed_function}
use Rattle.machine_steps.specs.Nesting.{Nests}
use Rattle.machine_steps.specs.Modules.{IsEncodable, IsReady, FuncFits, HasLimits}
use Rattle.machine_steps.proofs.States.{Matches, Same}

-- ---- limits

nests : (c : Code) (room around : ℕ) (text : List ℕ) → around + room ≡ most_nested → SpellsCode room c text → Nests around c
nests Nil room around text e s = tt
nests (Leaf i rest) room around text e s = nests rest room around s.1 e s.4
nests (InBlock r inner rest) room around text e s = (
  omega (arith, e, s.3),
  nests inner (room - 1) (suc around) s.0 (omega (arith, e, s.3))
      s.4,
  nests rest room around s.1 e s.5,
)
nests (InLoop r inner rest) room around text e s = (
  omega (arith, e, s.3),
  nests inner (room - 1) (suc around) s.0 (omega (arith, e, s.3))
      s.4,
  nests rest room around s.1 e s.5,
)
nests (IfOnly r inner rest) room around text e s = (
  omega (arith, e, s.3),
  nests inner (room - 1) (suc around) s.0 (omega (arith, e, s.3))
      s.4,
  nests rest room around s.1 e s.5,
)
nests (IfElse r first second rest) room around text e s = (
  omega (arith, e, s.4),
  nests first (room - 1) (suc around) s.0 (omega (arith, e, s.4)) s.5,
  nests second (room - 1) (suc around) s.1
      (omega (arith, e, s.4)) s.6,
  nests rest room around s.2 e s.7,
)

body_fits : (f : NestedFunc) (text : List ℕ) → SpellsBody f text → FuncFits f
body_fits f text s =
    let content = s.4 in
    let code = content.4 in
    let locals = content.3 in
    record { nests = nests f.code most_nested 0 code.0 refl code.2; locals = locals.2 }

abbrev TableFits : Limits → Type 0
TableFits l = l.min ≤ most_entries

table_fits : (l : Limits) (text : List ℕ) → SpellsTable l text → TableFits l
table_fits l text s = s.2.0

abbrev MemoryFits : Limits → Type 0
MemoryFits l = l.min ≤ most_pages

memory_fits : (l : Limits) (text : List ℕ) → SpellsMemory l text → MemoryFits l
memory_fits l text s = s.0

module _ (m : NestedModule) (h : HasLimits m) where
  put_keeps : (s : Before) (x : Section) (text : List ℕ) → SpellsSectionContent s x text → HasLimits (put x m)
  put_keeps s Custom text c = h
  put_keeps s (Types types) text c = record { funcs = h.funcs; tables = h.tables; memories = h.memories }
  put_keeps s Imports text c = h
  put_keeps s (Funcs indices) text c = h
  put_keeps s (Tables tables) text c = record {
    funcs = h.funcs;
    tables = each_fits SpellsTable TableFits table_fits tables c.1 c.4;
    memories = h.memories;
  }
  put_keeps s (Memories memories) text c = record {
    funcs = h.funcs;
    tables = h.tables;
    memories = each_fits SpellsMemory MemoryFits
        memory_fits memories c.1 c.4;
  }
  put_keeps s (Globals globals) text c = record { funcs = h.funcs; tables = h.tables; memories = h.memories }
  put_keeps s (Exports exports) text c = record { funcs = h.funcs; tables = h.tables; memories = h.memories }
  put_keeps s (Start func) text c = record { funcs = h.funcs; tables = h.tables; memories = h.memories }
  put_keeps s (Elements elements) text c = record { funcs = h.funcs; tables = h.tables; memories = h.memories }
  put_keeps s (Codes funcs) text c = record {
    funcs = each_fits SpellsBody FuncFits body_fits funcs c.1.1 c.1.4;
    tables = h.tables;
    memories
        = h.memories;
  }
  put_keeps s (Datas datas) text c = record { funcs = h.funcs; tables = h.tables; memories = h.memories }

sections_keep : (xs : List Section) (s : Before) (m : NestedModule) (text : List ℕ) → HasLimits m → SpellsSections s xs text
    → HasLimits (put_all xs m)
sections_keep [] s m text h t = h
sections_keep (x ∷ xs) s m text h t =
    let section = t.3 in
    let sized = section.1.2 in
    sections_keep xs (after x s) (put x m) t.1 (put_keeps m h s x sized.1 sized.4) t.4

pub limits_are : (m : NestedModule) (bytes : List ℕ) → SpellsModule m bytes → HasLimits m
limits_are m bytes s =
    let rest = s.1.2 in
    subst HasLimits (sym rest.1) (sections_keep rest.0 (record { last = 0; indices = [] }) empty s.1.0
    (record { funcs = tt; tables = tt; memories = tt }) rest.3)

-- ---- the two forms

pub all_at : {A : Type 0} (P : A → Type 0) (xs : List A) (i : ℕ) (x : A) → AllByRecursion P xs → slice_get xs i ≡ Some x → P x
all_at P [] i x all e = cc
all_at P (y ∷ xs) zero x all e = subst P (some_is y x e) all.0
all_at P (y ∷ xs) (suc i) x all e = all_at P xs i x all.1 e

flat_at : (fs : List NestedFunc) (i : ℕ) (f : NestedFunc) → slice_get fs i ≡ Some f → slice_get (map flat_func fs) i ≡ Some (flat_func f)
flat_at [] i f e = cc
flat_at (g ∷ fs) zero f e = ap (λ (h : NestedFunc). Some (flat_func h)) (some_is g f e)
flat_at (g ∷ fs) (suc i) f e = flat_at fs i f e

-- a function that is there, with its type
pub record HasFunction (m : NestedModule) (i : ℕ) (fn : Function) : Type 0 where
  pub f : NestedFunc
  pub t : FuncType
  pub is : slice_get m.funcs i ≡ Some f
  pub has : slice_get m.types f.ty ≡ Some t
  pub whole : typed_function f t ≡ fn

pub function_is : (m : NestedModule) (i : ℕ) (fn : Function) → function_at m i ≡ Some fn → HasFunction m i fn
function_is m i fn e = by_func (slice_get m.funcs i) refl e
  where
    by_type : (f : NestedFunc) → slice_get m.funcs i ≡ Some f → (o : Option FuncType) → slice_get m.types f.ty ≡ o
        → option_map (typed_function f) o ≡ Some fn → HasFunction m i fn
    by_type f is None has e = cc
    by_type f is (Some t) has e = record { f = f; t = t; is = is; has = has; whole = some_is (typed_function f t) fn e }

    by_func : (o : Option NestedFunc) → slice_get m.funcs i ≡ o → option_and_then
        (λ (f : NestedFunc). option_map (typed_function f) (slice_get m.types f.ty)) o ≡ Some fn → HasFunction m i fn
    by_func None is e = cc
    by_func (Some f) is e = by_type f is (slice_get m.types f.ty) refl e

same_flat : (n : NestedModule) → AllByRecursion (λ (f : NestedFunc). HasPlainLeaves f.code) n.funcs → HasLimits n → Same n (flat_module n)
same_flat n plain h = record {
  each = λ i fn e.
      let x = function_is n i fn e in
      subst (λ fn. (f : Func) × (slice_get (flat_module n).funcs i ≡ Some f) × Matches (flat_module n) fn f) x.whole (
        flat_func x.f,
        flat_at n.funcs i x.f x.is,
        record {
          typed = x.has;
          locals = refl;
          fin = size x.f.code;
          stands = body_stands x.f.code (all_at (λ (f : NestedFunc). HasPlainLeaves f.code) n.funcs i x.f plain x.is);
          nests = (all_at FuncFits n.funcs i x.f h.funcs x.is).nests;
        },
      );
}

pub same_forms : (fm : Module) (n : NestedModule) → fm ≡ flat_module n → HasPlainFuncs n → HasLimits n → Same (nested_module fm) fm
same_forms fm n flat plain h =
    subst (λ (x : Module). Same (nested_module x) x) (sym flat)
    (subst (λ (y : NestedModule). Same y (flat_module n)) (sym (module_back n plain))
    (same_flat n (recursion_from_All (λ (f : NestedFunc). HasPlainLeaves f.code) n.funcs plain) h))

pub nested_is : (fm : Module) (n : NestedModule) → fm ≡ flat_module n → HasPlainFuncs n → nested_module fm ≡ n
nested_is fm n flat plain = ap nested_module flat ∙ module_back n plain

-- ---- small modules

few_results : (m : NestedModule) → IsValid m → (i : ℕ) (t : FuncType) → slice_get m.types i ≡ Some t → length t.results ≤ 1
unfolding validity
few_results m valid i t at =
    let types = passed (each rule.TypeResult has_one_result m.types) _ tt valid in
    leb-true (length t.results) 1 (each_passes has_one_result 0 m.types
    (none_fails rule.TypeResult (first_failing has_one_result 0 m.types) types.it types.is) i t at)

-- the nested form of a flat function that is there
pub record Unflat (fs : List NestedFunc) (i : ℕ) (f : Func) : Type 0 where
  pub nested : NestedFunc
  pub at : slice_get fs i ≡ Some nested
  pub is : flat_func nested ≡ f

unflat : (fs : List NestedFunc) (i : ℕ) (f : Func) → slice_get (map flat_func fs) i ≡ Some f → Unflat fs i f
unflat [] i f e = cc
unflat (g ∷ fs) zero f e = record { nested = g; at = refl; is = some_is (flat_func g) f e }
unflat (g ∷ fs) (suc i) f e = let u = unflat fs i f e in record { nested = u.nested; at = u.at; is = u.is }

-- ---- opcodes

all_append : (xs ys : List Instr) → AllByRecursion IsEncodable xs → AllByRecursion IsEncodable ys → AllByRecursion IsEncodable (xs ++ ys)
all_append [] ys g h = h
all_append (x ∷ xs) ys g h = (g.0, all_append xs ys g.1 h)

spellable_has : (i : Instr) → IsSpellable i → IsEncodable i
spellable_has (Numeric op) s = s
spellable_has (Access op align offset) s = s.0
spellable_has (I32Const z) s = s
spellable_has (I64Const z) s = s
spellable_has (Block r e) s = tt
spellable_has (Loop r e) s = tt
spellable_has (If r q e) s = tt
spellable_has (Else e) s = tt
spellable_has End s = tt
spellable_has i s = tt

code_has : (c : Code) (p : ℕ) → HasSpellableLeaves c → AllByRecursion IsEncodable (flat_code c p)
code_has Nil p s = tt
code_has (Leaf i rest) p s = (spellable_has i s.0, code_has rest (p + 1) s.1)
code_has (InBlock r inner rest) p s =
    let e = p + 1 + size inner in
    (tt, all_append (flat_code inner (p + 1)) (End ∷ flat_code rest (e + 1)) (code_has inner (p + 1) s.0) (tt, code_has rest (e + 1) s.1))
code_has (InLoop r inner rest) p s =
    let e = p + 1 + size inner in
    (tt, all_append (flat_code inner (p + 1)) (End ∷ flat_code rest (e + 1)) (code_has inner (p + 1) s.0) (tt, code_has rest (e + 1) s.1))
code_has (IfOnly r inner rest) p s =
    let e = p + 1 + size inner in
    (tt, all_append (flat_code inner (p + 1)) (End ∷ flat_code rest (e + 1)) (code_has inner (p + 1) s.0) (tt, code_has rest (e + 1) s.1))
code_has (IfElse r first second rest) p s =
    let q = p + 1 + size first in
    let e = q + 1 + size second in (
      tt,
      all_append (flat_code first (p + 1)) (Else e ∷ (flat_code second (q + 1) ++ End ∷ flat_code rest (e + 1)))
          (code_has first (p + 1) s.0) (
            tt,
            all_append (flat_code second (q + 1)) (End ∷ flat_code rest (e + 1)) (code_has second (q + 1) s.1)
                (tt, code_has rest (e + 1) s.2),
          ),
    )

body_has : (c : Code) → HasSpellableLeaves c → AllByRecursion IsEncodable (flat_body c)
body_has c s = all_append (flat_code c 0) (End ∷ []) (code_has c 0 s) (tt, tt)

pub ready_is : (fm : Module) (n : NestedModule) → fm ≡ flat_module n → HasLimits n → HasSpellableParts n → IsValid n → IsReady fm
ready_is fm n flat h parts valid = record {
  encodable = λ i f e p x at.
      let u = unflat n.funcs i f (subst (λ (x : Module). slice_get x.funcs i ≡ Some f) flat e) in
      let leaves = all_at (λ (f : NestedFunc). HasSpellableLeaves f.code) n.funcs i u.nested
      (recursion_from_All (λ (f : NestedFunc). HasSpellableLeaves f.code) n.funcs parts.funcs) u.at in
      all_at IsEncodable f.body p x (subst (λ (f : Func). AllByRecursion IsEncodable f.body) u.is (body_has u.nested.code leaves)) at;
  locals = λ i f e.
      let u = unflat n.funcs i f (subst (λ (x : Module). slice_get x.funcs i ≡ Some f) flat e) in
      subst (λ (f : Func). length f.locals ≤ 4096) u.is (all_at FuncFits n.funcs i u.nested h.funcs u.at).locals;
  results = λ i t e. few_results n valid i t (subst (λ (x : Module). slice_get x.types i ≡ Some t) flat e);
}
