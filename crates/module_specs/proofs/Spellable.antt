-- What the table spells is what can be spelled.
use Rattle.std.proofs.Common.{◌≡◌, ℕ, zero, suc, ◌-◌, ◌<◌, ◌≤◌, Bool, true, false, not, cond, List, [], ◌∷◌, ◌++◌, length, refl, sym, ap, subst, ◌∙◌, arith, inl, inr, ◌&&◌, ◌||◌, nat_lt, nat_le, eqb}
use Rattle.std.specs.List.{AllByRecursion}
use Rattle.std.proofs.lemmas.Bool.{and_parts, and_right, ltb-true, lt-leb, le-ltb, ne_eqb, cases_lt}
use Rattle.std.proofs.lemmas.List.Elements.{All-from_recursion, recursion_from_All}
use Rattle.leb_bytes.specs.Writing.{unsigned_text, signed_text}
use Rattle.leb_bytes.proofs.Sizes.{unsigned_fits, signed_fits}
use Rattle.leb_bytes.proofs.Splitting.{unsigned_spelled, signed_spelled}
use Rattle.wasm_types.specs.declared.instr.ValType.TheVariants.{I32, I64}
use Rattle.wasm_types.specs.declared.instr.Instr.{Instr}
use Rattle.wasm_types.specs.declared.instr.Instr.TheVariants as instr
use Rattle.wasm_types.specs.Nested.{Code, Nil, Leaf, InBlock, InLoop, IfOnly, IfElse}
use Rattle.wasm_types.specs.Spellable.{is_in, is_local_op, is_global_op, is_access_op, is_numeric_op, IsU32, IsSpellable, HasSpellableLeaves}
use Rattle.module_specs.specs.declared.opcodes.Simple.{Simple}
use Rattle.module_specs.specs.declared.opcodes.Simple.TheVariants as simple
use Rattle.module_specs.specs.declared.opcodes.Indexed.{Indexed}
use Rattle.module_specs.specs.declared.opcodes.Indexed.TheVariants as indexed
use Rattle.module_specs.specs.declared.opcodes.Group.{Group}
use Rattle.module_specs.specs.declared.opcodes.Group.TheVariants as group
use Rattle.module_specs.specs.declared.opcodes.Row.{Row}
use Rattle.module_specs.specs.Opcodes.{Family, plain_row, control_table, data_table, numeric_table, is_of, look_up, group_of, simple_instr, indexed_instr}
use Rattle.module_specs.specs.Spelling.{SpellsU32, SpellsEach}
use Rattle.module_specs.specs.CodeSpelling.{SpellsImmediates, SpellsInstr, SpellsCode}

-- ---- the groups of opcodes, compared over all bytes

abbrev same : Bool → Bool → Bool
same true y = y
same false y = not y

is_same : (x y : Bool) → same x y ≡ true → x ≡ y
is_same true true e = refl
is_same true false e = absurd cc
is_same false true e = absurd cc
is_same false false e = refl

abbrev is_numeric : Group → Bool
is_numeric (group.Bare simple.Numeric) = true
is_numeric other = false

abbrev is_access : Group → Bool
is_access (group.Access bytes) = true
is_access other = false

abbrev is_local : Group → Bool
is_local (group.Index indexed.Local) = true
is_local other = false

abbrev is_global : Group → Bool
is_global (group.Index indexed.Globals) = true
is_global other = false

-- a byte 00 follows no numeric instruction
abbrev zero_fits : Group → Bool
zero_fits (group.Zero simple.Numeric) = false
zero_fits other = true

abbrev agrees : ℕ → Bool
agrees op =
    same (is_numeric_op op) (is_numeric (group_of op))
    && (same (is_access_op op) (is_access (group_of op))
    && (same (is_local_op op) (is_local (group_of op))
    && (same (is_global_op op) (is_global (group_of op)) && zero_fits (group_of op))))

abbrev all_below : (ℕ → Bool) → ℕ → Bool
all_below f zero = true
all_below f (suc n) = f n && all_below f n

each_below : (f : ℕ → Bool) (n k : ℕ) → k < n → all_below f n ≡ true → f k ≡ true
each_below f zero k lt e = absurd (omega arith)
each_below f (suc n) k lt e =
    let both = and_parts (f n) (all_below f n) e in
    elim (cases_lt k n) [
      | inl less ↦ each_below f n k less both.1
      | inr over ↦ let is : n ≡ k = omega arith in subst (λ n. f n ≡ true) is both.0
    ]

bytes_agree : (op : ℕ) → op < 256 → agrees op ≡ true
bytes_agree op lt = each_below agrees 256 op lt refl

-- no family goes on to here
abbrev ends_before : ℕ → List Family → Bool
ends_before n [] = true
ends_before n (f ∷ fs) = nat_lt f.last n && ends_before n fs

look_far : (n op : ℕ) (fs : List Family) → ends_before n fs ≡ true → n ≤ op → look_up op fs ≡ plain_row group.Unknown
look_far n op [] e le = refl
look_far n op (f ∷ fs) e le =
    let both = and_parts (nat_lt f.last n) (ends_before n fs) e in
    let under : f.last < n = ltb-true f.last n both.0 in
    let outside : is_of op f ≡ false = and_right (nat_le f.first op) (nat_le op f.last) (lt-leb op f.last (omega arith)) in
    ap (λ t. cond t f.row (look_up op fs)) outside ∙ look_far n op fs both.1 le

group_far : (op : ℕ) → 256 ≤ op → group_of op ≡ group.Unknown
group_far op le = ap (λ (r : Row). r.group) (by_tests (nat_lt op 0x20) (nat_lt op 0x45) (le-ltb op 0x20 (omega arith)) (le-ltb op 0x45 (omega arith)))
  where
    by_tests : (t u : Bool) → t ≡ false → u ≡ false → cond t (look_up op control_table) (cond u (look_up op data_table) (look_up op numeric_table)) ≡ plain_row group.Unknown
    by_tests true u e f = absurd cc
    by_tests false true e f = absurd cc
    by_tests false false e f = look_far 256 op numeric_table refl le

-- a range of bytes ends before
out_of_range : (low high op : ℕ) → high < op → is_in low high op ≡ false
out_of_range low high op lt = and_right (nat_le low op) (nat_le op high) (lt-leb op high lt)

far_agree : (op : ℕ) → 256 ≤ op → agrees op ≡ true
far_agree op le =
    ap (λ g. same (is_numeric_op op) (is_numeric g) && (same (is_access_op op) (is_access g) && (same (is_local_op op) (is_local g) && (same (is_global_op op) (is_global g) && zero_fits g)))) (group_far op le)
    ∙ all_false (is_numeric_op op) (is_access_op op) (is_local_op op) (is_global_op op) numeric access (out_of_range 0x20 0x22 op (omega arith)) (out_of_range 0x23 0x24 op (omega arith))
  where
    none : (x y z : Bool) → x ≡ false → y ≡ false → z ≡ false → x || y || z ≡ false
    none x y z e f g = rw (e, f, g) refl

    none4 : (w x y z : Bool) → w ≡ false → x ≡ false → y ≡ false → z ≡ false → w || x || y || z ≡ false
    none4 w x y z d e f g = rw (d, e, f, g) refl

    numeric : is_numeric_op op ≡ false
    numeric = none4 (is_in 0x45 0x5A op) (is_in 0x67 0x8A op) (eqb op 0xA7) (is_in 0xAC 0xAD op) (out_of_range 0x45 0x5A op (omega arith)) (out_of_range 0x67 0x8A op (omega arith)) (ne_eqb op 0xA7 (λ e. omega (arith, e, le))) (out_of_range 0xAC 0xAD op (omega arith))

    access : is_access_op op ≡ false
    access = none (is_in 0x28 0x29 op) (is_in 0x2C 0x37 op) (is_in 0x3A 0x3E op) (out_of_range 0x28 0x29 op (omega arith)) (out_of_range 0x2C 0x37 op (omega arith)) (out_of_range 0x3A 0x3E op (omega arith))

    all_false : (w x y z : Bool) → w ≡ false → x ≡ false → y ≡ false → z ≡ false → same w false && (same x false && (same y false && (same z false && true))) ≡ true
    all_false w x y z d e f g = rw (d, e, f, g) refl

record Agreement (op : ℕ) : Type 0 where
  pub numeric : is_numeric_op op ≡ is_numeric (group_of op)
  pub access : is_access_op op ≡ is_access (group_of op)
  pub local : is_local_op op ≡ is_local (group_of op)
  pub global : is_global_op op ≡ is_global (group_of op)
  pub zero : zero_fits (group_of op) ≡ true

agreement : (op : ℕ) → Agreement op
agreement op =
    elim (cases_lt op 256) [
      | inl less ↦ of_test (bytes_agree op less)
      | inr over ↦ of_test (far_agree op over)
    ]
  where
    of_test : agrees op ≡ true → Agreement op
    of_test e =
        let a = and_parts _ _ e in
        let b = and_parts _ _ a.1 in
        let c = and_parts _ _ b.1 in
        let d = and_parts _ _ c.1 in
        record { numeric = is_same _ _ a.0; access = is_same _ _ b.0; local = is_same _ _ c.0; global = is_same _ _ d.0; zero = d.1 }

-- ---- what is spelled

numbers_fit : (xs : List ℕ) (text : List ℕ) → SpellsEach SpellsU32 xs text → AllByRecursion IsU32 xs
numbers_fit [] text s = tt
numbers_fit (x ∷ xs) text s = (unsigned_fits 32 x s.0 s.3, numbers_fit xs s.1 s.4)

module _ (op : ℕ) where
  simple_fits : (what : Simple) → (what ≡ simple.Numeric → is_numeric_op op ≡ true) → IsSpellable (simple_instr op what)
  simple_fits simple.Unreachable n = tt
  simple_fits simple.Nop n = tt
  simple_fits simple.Return n = tt
  simple_fits simple.Drop n = tt
  simple_fits simple.Select n = tt
  simple_fits simple.MemorySize n = tt
  simple_fits simple.MemoryGrow n = tt
  simple_fits simple.Numeric n = n refl

  indexed_fits : (what : Indexed) (n : ℕ) → group_of op ≡ group.Index what → IsU32 n → IsSpellable (indexed_instr op what n)
  indexed_fits indexed.Br n is small = small
  indexed_fits indexed.BrIf n is small = small
  indexed_fits indexed.Call n is small = small
  indexed_fits indexed.Local n is small = ((agreement op).local ∙ ap is_local is, small)
  indexed_fits indexed.Globals n is small = ((agreement op).global ∙ ap is_global is, small)

  group_fits : (g : Group) (i : Instr) (text : List ℕ) → group_of op ≡ g → SpellsImmediates op g i text → IsSpellable i
  group_fits (group.Bare what) i text is s =
      subst IsSpellable (sym s.1) (simple_fits what (λ n. (agreement op).numeric ∙ ap is_numeric (is ∙ ap group.Bare n)))
  group_fits (group.Zero what) i text is s =
      subst IsSpellable (sym s.1) (simple_fits what (λ n. absurd (not_zero (sym (ap zero_fits (is ∙ ap group.Zero n)) ∙ (agreement op).zero))))
    where
      not_zero : false ≡ true → ⊥
      not_zero e = cc
  group_fits (group.Index what) i text is s = subst IsSpellable (sym s.2) (indexed_fits what s.0 is (unsigned_fits 32 s.0 text s.1))
  group_fits (group.Access bytes) i text is s =
      let t = s.2 in
      subst IsSpellable (sym s.3) ((agreement op).access ∙ ap is_access is, unsigned_fits 32 s.0 t.0 t.3, unsigned_fits 32 s.1 t.1 t.4)
  group_fits (group.Constant I32) i text is s = subst IsSpellable (sym s.2) (signed_fits 32 s.0 text s.1)
  group_fits (group.Constant I64) i text is s = subst IsSpellable (sym s.2) (signed_fits 64 s.0 text s.1)
  group_fits group.Indirect i text is s = let t = s.1 in subst IsSpellable (sym s.2) (unsigned_fits 32 s.0 t.0 t.3)
  group_fits group.Table i text is s =
      let t = s.2 in
      let v = t.3 in
      subst IsSpellable (sym s.3) (unsigned_fits 32 (length s.0) v.0 v.3, All-from_recursion IsU32 s.0 (numbers_fit s.0 v.1 v.4), unsigned_fits 32 s.1 t.1 t.4)
  group_fits (group.Opens k) i text is s = absurd s
  group_fits group.Else i text is s = absurd s
  group_fits group.End i text is s = absurd s
  group_fits group.Float i text is s = absurd s
  group_fits group.Unknown i text is s = absurd s

pub instr_fits : (i : Instr) (text : List ℕ) → SpellsInstr i text → IsSpellable i
instr_fits i [] s = absurd s
instr_fits i (op ∷ text) s = group_fits op (group_of op) i text refl s

pub leaves_fit : (c : Code) (room : ℕ) (text : List ℕ) → SpellsCode room c text → HasSpellableLeaves c
leaves_fit Nil room text s = tt
leaves_fit (Leaf i rest) room text s = (instr_fits i s.0 s.3, leaves_fit rest room s.1 s.4)
leaves_fit (InBlock r inner rest) room text s = (leaves_fit inner (room - 1) s.0 s.4, leaves_fit rest room s.1 s.5)
leaves_fit (InLoop r inner rest) room text s = (leaves_fit inner (room - 1) s.0 s.4, leaves_fit rest room s.1 s.5)
leaves_fit (IfOnly r inner rest) room text s = (leaves_fit inner (room - 1) s.0 s.4, leaves_fit rest room s.1 s.5)
leaves_fit (IfElse r first second rest) room text s = (leaves_fit first (room - 1) s.0 s.5, leaves_fit second (room - 1) s.1 s.6, leaves_fit rest room s.2 s.7)

-- ---- what can be spelled

u32_text : (n : ℕ) → IsU32 n → SpellsU32 n (unsigned_text n)
u32_text n small = unsigned_spelled 32 n (omega arith) (omega arith) small

numbers_text : (xs : List ℕ) → AllByRecursion IsU32 xs → (text : List ℕ) × SpellsEach SpellsU32 xs text
numbers_text [] h = ([], refl)
numbers_text (x ∷ xs) h = let more = numbers_text xs h.1 in (unsigned_text x ++ more.0, (unsigned_text x, more.0, refl, u32_text x h.0, more.1))

numeric_is : (g : Group) → is_numeric g ≡ true → g ≡ group.Bare simple.Numeric
numeric_is (group.Bare simple.Numeric) e = refl
numeric_is (group.Bare simple.Unreachable) e = absurd cc
numeric_is (group.Bare simple.Nop) e = absurd cc
numeric_is (group.Bare simple.Return) e = absurd cc
numeric_is (group.Bare simple.Drop) e = absurd cc
numeric_is (group.Bare simple.Select) e = absurd cc
numeric_is (group.Bare simple.MemorySize) e = absurd cc
numeric_is (group.Bare simple.MemoryGrow) e = absurd cc
numeric_is (group.Zero what) e = absurd cc
numeric_is (group.Index what) e = absurd cc
numeric_is (group.Access bytes) e = absurd cc
numeric_is (group.Constant t) e = absurd cc
numeric_is (group.Opens k) e = absurd cc
numeric_is group.Indirect e = absurd cc
numeric_is group.Table e = absurd cc
numeric_is group.Else e = absurd cc
numeric_is group.End e = absurd cc
numeric_is group.Float e = absurd cc
numeric_is group.Unknown e = absurd cc

access_is : (g : Group) → is_access g ≡ true → (bytes : ℕ) × (g ≡ group.Access bytes)
access_is (group.Access bytes) e = (bytes, refl)
access_is (group.Bare what) e = absurd cc
access_is (group.Zero what) e = absurd cc
access_is (group.Index what) e = absurd cc
access_is (group.Constant t) e = absurd cc
access_is (group.Opens k) e = absurd cc
access_is group.Indirect e = absurd cc
access_is group.Table e = absurd cc
access_is group.Else e = absurd cc
access_is group.End e = absurd cc
access_is group.Float e = absurd cc
access_is group.Unknown e = absurd cc

local_is : (g : Group) → is_local g ≡ true → g ≡ group.Index indexed.Local
local_is (group.Index indexed.Local) e = refl
local_is (group.Index indexed.Globals) e = absurd cc
local_is (group.Index indexed.Br) e = absurd cc
local_is (group.Index indexed.BrIf) e = absurd cc
local_is (group.Index indexed.Call) e = absurd cc
local_is (group.Access bytes) e = absurd cc
local_is (group.Bare what) e = absurd cc
local_is (group.Zero what) e = absurd cc
local_is (group.Constant t) e = absurd cc
local_is (group.Opens k) e = absurd cc
local_is group.Indirect e = absurd cc
local_is group.Table e = absurd cc
local_is group.Else e = absurd cc
local_is group.End e = absurd cc
local_is group.Float e = absurd cc
local_is group.Unknown e = absurd cc

global_is : (g : Group) → is_global g ≡ true → g ≡ group.Index indexed.Globals
global_is (group.Index indexed.Globals) e = refl
global_is (group.Index indexed.Local) e = absurd cc
global_is (group.Index indexed.Br) e = absurd cc
global_is (group.Index indexed.BrIf) e = absurd cc
global_is (group.Index indexed.Call) e = absurd cc
global_is (group.Access bytes) e = absurd cc
global_is (group.Bare what) e = absurd cc
global_is (group.Zero what) e = absurd cc
global_is (group.Constant t) e = absurd cc
global_is (group.Opens k) e = absurd cc
global_is group.Indirect e = absurd cc
global_is group.Table e = absurd cc
global_is group.Else e = absurd cc
global_is group.End e = absurd cc
global_is group.Float e = absurd cc
global_is group.Unknown e = absurd cc

-- an opcode whose group is known, with its immediates
with_op : (op : ℕ) (g : Group) (i : Instr) (text : List ℕ) → group_of op ≡ g → SpellsImmediates op g i text → SpellsInstr i (op ∷ text)
with_op op g i text is s = subst (λ g. SpellsImmediates op g i text) (sym is) s

abbrev Spelled : Instr → Type 0
Spelled i = (text : List ℕ) × SpellsInstr i text

pub instr_text : (i : Instr) → IsSpellable i → Spelled i
instr_text instr.Unreachable s = (0x00 ∷ [], (refl, refl))
instr_text instr.Nop s = (0x01 ∷ [], (refl, refl))
instr_text instr.Return s = (0x0F ∷ [], (refl, refl))
instr_text instr.Drop s = (0x1A ∷ [], (refl, refl))
instr_text instr.Select s = (0x1B ∷ [], (refl, refl))
instr_text instr.MemorySize s = (0x3F ∷ 0x00 ∷ [], (refl, refl))
instr_text instr.MemoryGrow s = (0x40 ∷ 0x00 ∷ [], (refl, refl))
instr_text (instr.Br n) s = (0x0C ∷ unsigned_text n, (n, u32_text n s, refl))
instr_text (instr.BrIf n) s = (0x0D ∷ unsigned_text n, (n, u32_text n s, refl))
instr_text (instr.Call n) s = (0x10 ∷ unsigned_text n, (n, u32_text n s, refl))
instr_text (instr.CallIndirect n) s = (0x11 ∷ (unsigned_text n ++ 0x00 ∷ []), (n, (unsigned_text n, 0x00 ∷ [], refl, u32_text n s, refl), refl))
instr_text (instr.BrTable labels default) s =
    let each = numbers_text labels (recursion_from_All IsU32 labels s.1) in
    let count = unsigned_text (length labels) in (
      0x0E ∷ ((count ++ each.0) ++ unsigned_text default),
      (labels, default, (count ++ each.0, unsigned_text default, refl, (count, each.0, refl, u32_text (length labels) s.0, each.1), u32_text default s.2), refl),
    )
instr_text (instr.Local op n) s =
    (op ∷ unsigned_text n, with_op op (group.Index indexed.Local) (instr.Local op n) (unsigned_text n) (local_is (group_of op) (sym (agreement op).local ∙ s.0)) (n, u32_text n s.1, refl))
instr_text (instr.Globals op n) s =
    (op ∷ unsigned_text n, with_op op (group.Index indexed.Globals) (instr.Globals op n) (unsigned_text n) (global_is (group_of op) (sym (agreement op).global ∙ s.0)) (n, u32_text n s.1, refl))
instr_text (instr.Access op a o) s =
    let g = access_is (group_of op) (sym (agreement op).access ∙ s.0) in
    let text = unsigned_text a ++ unsigned_text o in
    (op ∷ text, with_op op (group.Access g.0) (instr.Access op a o) text g.1 (a, o, (unsigned_text a, unsigned_text o, refl, u32_text a s.1, u32_text o s.2), refl))
instr_text (instr.I32Const z) s = (0x41 ∷ signed_text z, (z, signed_spelled 32 z (omega arith) (omega arith) s, refl))
instr_text (instr.I64Const z) s = (0x42 ∷ signed_text z, (z, signed_spelled 64 z (omega arith) (omega arith) s, refl))
instr_text (instr.Numeric op) s =
    (op ∷ [], with_op op (group.Bare simple.Numeric) (instr.Numeric op) [] (numeric_is (group_of op) (sym (agreement op).numeric ∙ s)) (refl, refl))
instr_text (instr.Block r e) s = absurd s
instr_text (instr.Loop r e) s = absurd s
instr_text (instr.If r q e) s = absurd s
instr_text (instr.Else e) s = absurd s
instr_text instr.End s = absurd s
