-- Flat code read back, from its last instruction to its first: the nested code of a flat body.
use Rattle.std.specs.Prelude.{List, [], ◌∷◌, Some, None, map, ◌≡◌, refl}
use Rattle.wasm_types.specs.declared.instr.Instr.{Instr}
use Rattle.wasm_types.specs.declared.instr.Instr.TheVariants.{Block, Loop, If, Else, End}
use Rattle.wasm_types.specs.declared.module.Func.{Func}
use Rattle.wasm_types.specs.declared.module.Module.{Module}
use Rattle.wasm_types.specs.Nested.{Code, Nil, Leaf, InBlock, InLoop, IfOnly, IfElse, flat_body, sample}
use Rattle.wasm_types.specs.Modules.{NestedFunc, NestedModule}

-- the innermost list begins with one instruction more
abbrev pub with_one : (Code → Code) → List Code → List Code
with_one f [] = []
with_one f (rest ∷ lists) = f rest ∷ lists

-- the innermost list becomes a part of the one around it
abbrev pub with_two : (Code → Code → Code) → List Code → List Code
with_two f (inner ∷ rest ∷ lists) = f inner rest ∷ lists
with_two f lists = []

-- the two innermost lists become parts of the one around them
abbrev pub with_three : (Code → Code → Code → Code) → List Code → List Code
with_three f (first ∷ second ∷ rest ∷ lists) = f first second rest ∷ lists
with_three f lists = []

-- the lists from an instruction on, where these are the lists behind it; the innermost comes first
abbrev pub lists_from : Instr → List Code → List Code
lists_from End lists = Nil ∷ lists
lists_from (Else e) lists = Nil ∷ lists
lists_from (Block r e) lists = with_two (InBlock r) lists
lists_from (Loop r e) lists = with_two (InLoop r) lists
lists_from (If r None e) lists = with_two (IfOnly r) lists
lists_from (If r (Some q) e) lists = with_three (IfElse r) lists
lists_from i lists = with_one (Leaf i) lists

-- the lists that flat code goes through, each from here to its end; the innermost comes first
abbrev pub lists_of : List Instr → List Code
lists_of [] = []
lists_of (i ∷ is) = lists_from i (lists_of is)

-- the first of these lists; of a whole body there is one alone
abbrev pub first_code : List Code → Code
first_code [] = Nil
first_code (c ∷ lists) = c

-- the nested code of a flat body
unfoldable pub code_of : List Instr → Code
code_of body = first_code (lists_of body)

abbrev pub nested_func : Func → NestedFunc
nested_func f = record { ty = f.ty; locals = f.locals; code = code_of f.body }

-- the module whose flat form this is
abbrev pub nested_module : Module → NestedModule
nested_module m = record {
  types = m.types;
  funcs = map nested_func m.funcs;
  tables = m.tables;
  memories = m.memories;
  globals = m.globals;
  exports = m.exports;
  start = m.start;
  elements = m.elements;
  datas = m.datas;
}

-- the sample is read back from its flat form
code_of-sample : code_of (flat_body sample) ≡ sample
unfolding code_of
code_of-sample = refl
