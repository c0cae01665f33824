-- Code: the text of each instruction, and of lists of them, is a spelling and as short as any.
use Rattle.std.proofs.Common.{◌≡◌, ℕ, ◌-◌, ◌≤◌, Bool, true, false, cond, List, [], ◌∷◌, ◌++◌, length, refl, sym, ap, subst, ◌∙◌, arith, length-append, ◌&&◌, nat_lt}
use Rattle.std.proofs.lemmas.Bool.{and_parts}
use Rattle.leb_bytes.specs.Writing.{unsigned_text}
use Rattle.wasm_types.specs.declared.instr.ValType.TheVariants.{I32, I64}
use Rattle.wasm_types.specs.declared.instr.Instr.{Instr}
use Rattle.wasm_types.specs.declared.instr.Instr.TheVariants as instr
use Rattle.wasm_types.specs.Nested.{Code, Nil, Leaf, InBlock, InLoop, IfOnly, IfElse}
use Rattle.module_specs.specs.declared.opcodes.Simple.{Simple}
use Rattle.module_specs.specs.declared.opcodes.Simple.TheVariants as simple
use Rattle.module_specs.specs.declared.opcodes.Indexed.{Indexed}
use Rattle.module_specs.specs.declared.opcodes.Indexed.TheVariants as indexed
use Rattle.module_specs.specs.declared.opcodes.Group.{Group}
use Rattle.module_specs.specs.declared.opcodes.Group.TheVariants as group
use Rattle.module_specs.specs.Opcodes.{Family, control_table, data_table, numeric_table, is_of, look_up, group_of, simple_instr, indexed_instr}
use Rattle.module_specs.specs.Spelling.{SpellsByte, SpellsU32, SpellsVector, block_byte}
use Rattle.module_specs.specs.CodeSpelling.{SpellsImmediates, SpellsInstr, SpellsCode, SpellsExpr, most_nested}
use Rattle.wasm_writer.specs.Texts.{vector_text}
use Rattle.wasm_writer.specs.CodeTexts.{immediates_text, instr_text, code_text, expr_text}
use Rattle.wasm_writer.proofs.Least.{Least, then_least, byte_least, u32_least, signed_least, vector_least, nothing_least}

-- ---- the rows of the table

-- a byte 00 follows memory.size and memory.grow, and no numeric instruction
abbrev follows_well : Group → Bool
follows_well (group.Zero simple.Numeric) = false
follows_well (group.Bare simple.MemorySize) = false
follows_well (group.Bare simple.MemoryGrow) = false
follows_well other = true

abbrev all_follow_well : List Family → Bool
all_follow_well [] = true
all_follow_well (f ∷ fs) = follows_well f.row.group && all_follow_well fs

looked_up : (op : ℕ) (fs : List Family) → all_follow_well fs ≡ true → follows_well (look_up op fs).group ≡ true
looked_up op [] e = refl
looked_up op (f ∷ fs) e = let both = and_parts (follows_well f.row.group) (all_follow_well fs) e in by_test (is_of op f) both.0 (looked_up op fs both.1)
  where
    by_test : (t : Bool) → follows_well f.row.group ≡ true → follows_well (look_up op fs).group ≡ true
        → follows_well (cond t f.row (look_up op fs)).group ≡ true
    by_test true here behind = here
    by_test false here behind = behind

row_follows : (op : ℕ) → follows_well (group_of op) ≡ true
row_follows op = by_tests (nat_lt op 0x20) (nat_lt op 0x45)
  where
    by_tests : (t u : Bool) → follows_well (cond t (look_up op control_table) (cond u (look_up op data_table) (look_up op numeric_table))).group ≡ true
    by_tests true u = looked_up op control_table refl
    by_tests false true = looked_up op data_table refl
    by_tests false false = looked_up op numeric_table refl

-- ---- instructions

-- an instruction's text is one, and nothing shorter follows an opcode of its group
abbrev IsLeast : Instr → List ℕ → Type 0
IsLeast i text = SpellsInstr i (instr_text i) × (length (immediates_text i) ≤ length text)

module _ (op : ℕ) where
  never : (g : Group) → group_of op ≡ g → follows_well g ≡ false → ⊥
  never g is wrong = let right : follows_well g ≡ true = ap follows_well (sym is) ∙ row_follows op in let e : false ≡ true = sym wrong ∙ right in cc

  -- an opcode whose group is known, with its immediates
  with_op : (g : Group) (i : Instr) (text : List ℕ) → group_of op ≡ g → SpellsImmediates op g i text → SpellsInstr i (op ∷ text)
  with_op g i text is s = subst (λ g. SpellsImmediates op g i text) (sym is) s

  bare_least : (what : Simple) (text : List ℕ) → group_of op ≡ group.Bare what → IsLeast (simple_instr op what) text
  bare_least simple.Unreachable text is = ((refl, refl), omega arith)
  bare_least simple.Nop text is = ((refl, refl), omega arith)
  bare_least simple.Return text is = ((refl, refl), omega arith)
  bare_least simple.Drop text is = ((refl, refl), omega arith)
  bare_least simple.Select text is = ((refl, refl), omega arith)
  bare_least simple.MemorySize text is = absurd (never (group.Bare simple.MemorySize) is refl)
  bare_least simple.MemoryGrow text is = absurd (never (group.Bare simple.MemoryGrow) is refl)
  bare_least simple.Numeric text is = (with_op (group.Bare simple.Numeric) (instr.Numeric op) [] is (refl, refl), omega arith)

  zero_least : (what : Simple) (text : List ℕ) → group_of op ≡ group.Zero what → length text ≡ 1 → IsLeast (simple_instr op what) text
  zero_least simple.Unreachable text is one = ((refl, refl), omega arith)
  zero_least simple.Nop text is one = ((refl, refl), omega arith)
  zero_least simple.Return text is one = ((refl, refl), omega arith)
  zero_least simple.Drop text is one = ((refl, refl), omega arith)
  zero_least simple.Select text is one = ((refl, refl), omega arith)
  zero_least simple.MemorySize text is one = ((refl, refl), omega arith)
  zero_least simple.MemoryGrow text is one = ((refl, refl), omega arith)
  zero_least simple.Numeric text is one = absurd (never (group.Zero simple.Numeric) is refl)

  index_least : (what : Indexed) (n : ℕ) (text : List ℕ) → group_of op ≡ group.Index what → SpellsU32 n text → IsLeast (indexed_instr op what n) text
  index_least what n text is s = by_what what is
    where
      first : SpellsU32 n (unsigned_text n)
      first = (u32_least n).spelled text s

      fewer : length (unsigned_text n) ≤ length text
      fewer = (u32_least n).unbeaten text s

      by_what : (what : Indexed) → group_of op ≡ group.Index what → IsLeast (indexed_instr op what n) text
      by_what indexed.Br is = ((n, first, refl), fewer)
      by_what indexed.BrIf is = ((n, first, refl), fewer)
      by_what indexed.Call is = ((n, first, refl), fewer)
      by_what indexed.Local is = (with_op (group.Index indexed.Local) (instr.Local op n) (unsigned_text n) is (n, first, refl), fewer)
      by_what indexed.Globals is = (with_op (group.Index indexed.Globals) (instr.Globals op n) (unsigned_text n) is (n, first, refl), fewer)

  group_least : (g : Group) (i : Instr) (text : List ℕ) → group_of op ≡ g → SpellsImmediates op g i text → IsLeast i text
  group_least (group.Bare what) i text is s = subst (λ i. IsLeast i text) (sym s.1) (bare_least what text is)
  group_least (group.Zero what) i text is s = subst (λ i. IsLeast i text) (sym s.1) (zero_least what text is (ap length s.0))
  group_least (group.Index what) i text is s = subst (λ i. IsLeast i text) (sym s.2) (index_least what s.0 text is s.1)
  group_least (group.Access bytes) i text is s =
      let both = then_least (SpellsU32 s.0) (SpellsU32 s.1) (unsigned_text s.0) (unsigned_text s.1) (u32_least s.0) (u32_least s.1) in
      subst (λ i. IsLeast i text) (sym s.3) (
        with_op (group.Access bytes) (instr.Access op s.0 s.1) (unsigned_text s.0 ++ unsigned_text s.1) is (s.0, s.1, both.spelled text s.2, refl),
        both.unbeaten text s.2,
      )
  group_least (group.Constant I32) i text is s =
      let number = signed_least 32 s.0 (omega arith) (omega arith) in
      subst (λ i. IsLeast i text) (sym s.2) ((s.0, number.spelled text s.1, refl), number.unbeaten text s.1)
  group_least (group.Constant I64) i text is s =
      let number = signed_least 64 s.0 (omega arith) (omega arith) in
      subst (λ i. IsLeast i text) (sym s.2) ((s.0, number.spelled text s.1, refl), number.unbeaten text s.1)
  group_least group.Indirect i text is s =
      let both = then_least (SpellsU32 s.0) (SpellsByte 0x00) (unsigned_text s.0) (0x00 ∷ []) (u32_least s.0) (byte_least 0x00) in
      subst (λ i. IsLeast i text) (sym s.2) ((s.0, both.spelled text s.1, refl), both.unbeaten text s.1)
  group_least group.Table i text is s =
      let both = then_least (SpellsVector SpellsU32 s.0) (SpellsU32 s.1) (vector_text unsigned_text s.0) (unsigned_text s.1) (vector_least SpellsU32 unsigned_text u32_least s.0) (u32_least s.1) in
      subst (λ i. IsLeast i text) (sym s.3) ((s.0, s.1, both.spelled text s.2, refl), both.unbeaten text s.2)
  group_least (group.Opens k) i text is s = absurd s
  group_least group.Else i text is s = absurd s
  group_least group.End i text is s = absurd s
  group_least group.Float i text is s = absurd s
  group_least group.Unknown i text is s = absurd s

instr_is : (i : Instr) (text : List ℕ) → SpellsInstr i text → SpellsInstr i (instr_text i) × (length (instr_text i) ≤ length text)
instr_is i [] s = absurd s
instr_is i (op ∷ text) s = let both = group_least op (group_of op) i text refl s in (both.0, let fewer = both.1 in omega arith)

pub instr_least : (i : Instr) → Least (SpellsInstr i) (instr_text i)
instr_least i = record {
  spelled = λ other s. (instr_is i other s).0;
  unbeaten = λ other s. (instr_is i other s).1;
}

-- ---- lists of instructions

-- an opening, a list, an end, and the rest
shorter_one : (one two one' two' text : List ℕ) (a b c a' b' : ℕ) → text ≡ a' ∷ b' ∷ (one' ++ c ∷ two') → length one ≤ length one' → length two ≤ length two'
    → length (a ∷ b ∷ (one ++ c ∷ two)) ≤ length text
shorter_one one two one' two' text a b c a' b' e first second =
    let whole : length text ≡ length (a' ∷ b' ∷ (one' ++ c ∷ two')) = ap length e in
    omega (arith, length-append one (c ∷ two), length-append one' (c ∷ two'))

pub code_least : (c : Code) (room : ℕ) → Least (SpellsCode room c) (code_text c)
code_least Nil room = nothing_least
code_least (Leaf i rest) room = then_least (SpellsInstr i) (SpellsCode room rest) (instr_text i) (code_text rest) (instr_least i) (code_least rest room)
code_least (InBlock r inner rest) room =
    let one = code_least inner (room - 1) in
    let two = code_least rest room in record {
      spelled = λ other t. (code_text inner, code_text rest, refl, t.3, one.spelled t.0 t.4, two.spelled t.1 t.5);
      unbeaten = λ other t. shorter_one (code_text inner) (code_text rest) t.0 t.1 other 0x02 (block_byte r) _ _ _ t.2 (one.unbeaten t.0 t.4) (two.unbeaten t.1 t.5);
    }
code_least (InLoop r inner rest) room =
    let one = code_least inner (room - 1) in
    let two = code_least rest room in record {
      spelled = λ other t. (code_text inner, code_text rest, refl, t.3, one.spelled t.0 t.4, two.spelled t.1 t.5);
      unbeaten = λ other t. shorter_one (code_text inner) (code_text rest) t.0 t.1 other 0x03 (block_byte r) _ _ _ t.2 (one.unbeaten t.0 t.4) (two.unbeaten t.1 t.5);
    }
code_least (IfOnly r inner rest) room =
    let one = code_least inner (room - 1) in
    let two = code_least rest room in record {
      spelled = λ other t. (code_text inner, code_text rest, refl, t.3, one.spelled t.0 t.4, two.spelled t.1 t.5);
      unbeaten = λ other t. shorter_one (code_text inner) (code_text rest) t.0 t.1 other 0x04 (block_byte r) _ _ _ t.2 (one.unbeaten t.0 t.4) (two.unbeaten t.1 t.5);
    }
code_least (IfElse r first second rest) room =
    let one = code_least first (room - 1) in
    let two = code_least second (room - 1) in
    let three = code_least rest room in record {
      spelled = λ other t. (code_text first, code_text second, code_text rest, refl, t.4, one.spelled t.0 t.5, two.spelled t.1 t.6, three.spelled t.2 t.7);
      unbeaten = λ other t.
          let a = one.unbeaten t.0 t.5 in
          let b = two.unbeaten t.1 t.6 in
          let c = three.unbeaten t.2 t.7 in
          let whole = ap length t.3 in
          omega (
            arith,
            length-append (code_text first) (0x05 ∷ (code_text second ++ 0x0B ∷ code_text rest)),
            length-append (code_text second) (0x0B ∷ code_text rest),
            length-append t.0 (0x05 ∷ (t.1 ++ 0x0B ∷ t.2)),
            length-append t.1 (0x0B ∷ t.2),
          );
    }

pub expr_least : (c : Code) → Least (SpellsExpr c) (expr_text c)
expr_least c =
    let code = code_least c most_nested in record {
      spelled = λ other t. (code_text c, refl, code.spelled t.0 t.2);
      unbeaten = λ other t.
          let fewer : length (code_text c) ≤ length t.0 = code.unbeaten t.0 t.2 in
          let whole : length other ≡ length (t.0 ++ 0x0B ∷ []) = ap length t.1 in
          omega (arith, length-append (code_text c) (0x0B ∷ []), length-append t.0 (0x0B ∷ []));
    }
