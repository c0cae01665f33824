-- What sections hold lies in their region, and so do its faults, none of which is want of memory.
use Rattle.std.proofs.Common.{ℕ, ◌≤◌, Bool, true, false, not, eqb, cond, List, [], ◌∷◌, length, Option, Some, None, Ok, Err, arith}
use Rattle.std.specs.Prelude.{nat_lt}
use Rattle.std.specs.Str.{is_utf8}
use Rattle.wasm_types.specs.declared.instr.ValType.{ValType}
use Rattle.wasm_types.specs.declared.module.FuncType.{FuncType}
use Rattle.wasm_types.specs.declared.module.Limits.{Limits}
use Rattle.wasm_types.specs.declared.module.Constant.{Constant}
use Rattle.wasm_types.specs.declared.module.GlobalVar.{GlobalVar}
use Rattle.wasm_types.specs.declared.module.Export.{Export}
use Rattle.wasm_types.specs.Modules.{NestedFunc}
use Rattle.module_specs.specs.declared.fault.Fault.{Fault}
use Rattle.module_specs.specs.declared.fault.Fault.TheVariants as fault
use Rattle.module_specs.specs.declared.section.SectionKind.{SectionKind}
use Rattle.module_specs.specs.declared.section.SectionKind.TheVariants as kind
use Rattle.module_specs.specs.ModuleSpelling.{most_entries, most_pages, i32_constant, i64_constant, Custom, Types, Imports, Funcs, Tables, Memories, Globals, Exports, Start, Elements, Codes, Datas, Before}
use Rattle.module_specs.specs.Reading.{Read, ◌>>=◌, refuse_if, mapped, byte_at, u32_at, s32_at, s64_at, vector_at, name_at, type_at}
use Rattle.module_specs.specs.CodeReading.{body_at}
use Rattle.module_specs.specs.ModuleReading.{func_type_at, max_at, limits_at, table_at, memory_at, value_of, constant_at, global_at, export_at, offset_at, element_at, data_at, imports_at, custom_at, bodies_at, codes_at, section_content_at}
use Rattle.module_specs.specs.Faults.{place_of}
use Rattle.module_specs.proofs.Readers.{cons_read}
use Rattle.module_specs.proofs.Items.{checked}
use Rattle.module_specs.proofs.Within.{Allows, Fine, Stays, earlier, then, unless, seen, byte_stays, u32_stays, s32_stays, s64_stays, type_stays, vector_stays}
use Rattle.wasm_code.specs.Faults.{IsOfCode, InBody}
use Rattle.wasm_code.proofs.Within.{body_stays}
use Rattle.module_laws.specs.Readings.{IsOfBytes}

-- a fault in a region with this end, or at its end
abbrev pub InRegion : ℕ → Fault → Type 0
InRegion end e = IsOfBytes e × (place_of e ≤ end)

pub allows : Allows InRegion
allows = record {
  grows = λ m n e le h. (h.0, omega (arith, h.1));
  short = λ n. (tt, omega arith);
  number = λ n at le. (tt, le);
  float = λ n at le. (tt, le);
  form = λ n at le. (tt, le);
  opcode = λ n at byte le. (tt, le);
}

code_is : (e : Fault) → IsOfCode e → IsOfBytes e
code_is fault.Memory h = absurd h
code_is e h = tt

-- the faults of bodies
pub body_lies : (ty : ℕ) → Stays InRegion (body_at ty)
body_lies ty b at le = by_read (body_at ty b at) (body_stays ty b at le)
  where
    by_read : (r : Read NestedFunc) → Fine InBody b at r → Fine InRegion b at r
    by_read (Ok x) f = f
    by_read (Err e) f = (code_is e f.0, f.1)

abbrev Lies : {A : Type 0} → List ℕ → ℕ → Read A → Type 0
Lies = Fine InRegion

-- one reader, and what follows it from its end on
next : {A B : Type 0} (b : List ℕ) (at : ℕ) (r : Read A) (f : A × ℕ → Read B) → Lies b at r → ((x : A × ℕ) → at ≤ x.1 → x.1 ≤ length b → Lies b x.1 (f x)) → Lies b at (r >>= f)
next b at r f h k = then InRegion b at r f h (λ x more within. earlier InRegion b at (f x) x.1 more (k x more within))

checked_lies : {A : Type 0} (b : List ℕ) (at byte : ℕ) (e : Fault) (f : ℕ → Read A) → at ≤ length b → InRegion (length b) e → ((p : ℕ) → p ≤ length b → Lies b p (f p)) → Lies b at (checked b at byte e f)
checked_lies b at byte e f le small k =
    next b at (byte_at b at) (λ x. refuse_if (not (eqb x.0 byte)) e >>= λ fine. f x.1) (byte_stays InRegion allows b at le)
    (λ x more within. unless InRegion b x.1 (not (eqb x.0 byte)) e (λ fine. f x.1) small (λ fine. k x.1 within))

name_stays : Stays InRegion name_at
unfolding name_at
name_stays b at le =
    then InRegion b at (vector_at byte_at b at) (λ name. refuse_if (not (is_utf8 name.0)) (fault.Utf8 at) >>= λ fine. Ok name) (vector_stays InRegion allows byte_at (byte_stays InRegion allows) b at le)
    (λ x more within. unless InRegion b at (not (is_utf8 x.0)) (fault.Utf8 at) (λ fine. Ok x) (tt, le) (λ fine. (more, within)))

types_stay : Stays InRegion (vector_at type_at)
types_stay = vector_stays InRegion allows type_at (type_stays InRegion allows)

func_type_stays : Stays InRegion func_type_at
unfolding func_type_at
func_type_stays b at le =
    checked_lies b at 0x60 (fault.Form at) (λ p. vector_at type_at b p >>= λ params. vector_at type_at b params.1 >>= made params.0) le (tt, le)
    (λ p within. next b p (vector_at type_at b p) (λ params. vector_at type_at b params.1 >>= made params.0) (types_stay b p within)
    (λ x more to. then InRegion b x.1 (vector_at type_at b x.1) (made x.0) (types_stay b x.1 to) (λ y from end. (from, end))))
  where
    made : List ValType → List ValType × ℕ → Read FuncType
    made params results = Ok (record { params = params; results = results.0 }, results.1)

max_lies : (flag : ℕ) (b : List ℕ) (at : ℕ) → at ≤ length b → Lies b at (max_at flag b at)
max_lies flag b at le = by_test (eqb flag 0)
  where
    by_test : (t : Bool) → Lies b at (cond t (Ok (None, at)) (mapped (λ max. Some max) (u32_at b at)))
    by_test true = (omega arith, le)
    by_test false = seen InRegion b at (λ max. Some max) (u32_at b at) (u32_stays InRegion allows b at le)

limits_stay : (most : ℕ) → Stays InRegion (limits_at most)
unfolding limits_at
limits_stay most b at le =
    then InRegion b at (byte_at b at) (λ flag. refuse_if (nat_lt 1 flag.0) (fault.Form at) >>= λ form. u32_at b flag.1 >>= min_then flag.0 flag.1) (byte_stays InRegion allows b at le)
    (λ flag more within. unless InRegion b at (nat_lt 1 flag.0) (fault.Form at) (λ form. u32_at b flag.1 >>= min_then flag.0 flag.1) (tt, le)
    (λ form. earlier InRegion b at (u32_at b flag.1 >>= min_then flag.0 flag.1) flag.1 more
    (then InRegion b flag.1 (u32_at b flag.1) (min_then flag.0 flag.1) (u32_stays InRegion allows b flag.1 within)
    (λ min on end. unless InRegion b flag.1 (nat_lt most min.0) (fault.Limit flag.1) (λ fine. max_at flag.0 b min.1 >>= made min.0) (tt, within)
    (λ fine. earlier InRegion b flag.1 (max_at flag.0 b min.1 >>= made min.0) min.1 on
    (then InRegion b min.1 (max_at flag.0 b min.1) (made min.0) (max_lies flag.0 b min.1 end) (λ max from to. (from, to))))))))
  where
    made : ℕ → Option ℕ × ℕ → Read Limits
    made min max = Ok (record { min = min; max = max.0 }, max.1)

    min_then : ℕ → ℕ → ℕ × ℕ → Read Limits
    min_then flag place min = refuse_if (nat_lt most min.0) (fault.Limit place) >>= λ fine. max_at flag b min.1 >>= made min.0

table_stays : Stays InRegion table_at
unfolding table_at
table_stays b at le = checked_lies b at 0x70 (fault.Form at) (limits_at most_entries b) le (tt, le) (λ p within. limits_stay most_entries b p within)

value_lies : (b : List ℕ) (at p op : ℕ) → at ≤ length b → p ≤ length b → Lies b p (value_of b at p op)
value_lies b at p op le within = by_tests (eqb op 0x41) (eqb op 0x42) (eqb op 0x43) (eqb op 0x44)
  where
    by_tests : (w x y z : Bool) → Lies b p (cond w (mapped i32_constant (s32_at b p)) (cond x (mapped i64_constant (s64_at b p)) (cond y (Err (fault.Float at)) (cond z (Err (fault.Float at)) (Err (fault.Form at))))))
    by_tests true x y z = seen InRegion b p i32_constant (s32_at b p) (s32_stays InRegion allows b p within)
    by_tests false true y z = seen InRegion b p i64_constant (s64_at b p) (s64_stays InRegion allows b p within)
    by_tests false false true z = (tt, le)
    by_tests false false false true = (tt, le)
    by_tests false false false false = (tt, le)

constant_stays : Stays InRegion constant_at
unfolding constant_at
constant_stays b at le =
    next b at (byte_at b at) (λ op. value_of b at op.1 op.0 >>= end_then) (byte_stays InRegion allows b at le)
    (λ op more within. next b op.1 (value_of b at op.1 op.0) end_then (value_lies b at op.1 op.0 le within)
    (λ value on to. checked_lies b value.1 0x0B (fault.Form value.1) (made value.0) to (tt, to) (λ p end. (omega arith, end))))
  where
    made : Constant → ℕ → Read Constant
    made c p = Ok (c, p)

    end_then : Constant × ℕ → Read Constant
    end_then value = checked b value.1 0x0B (fault.Form value.1) (made value.0)

global_stays : Stays InRegion global_at
unfolding global_at
global_stays b at le =
    next b at (type_at b at) (λ type. byte_at b type.1 >>= mutable_then type.0 type.1) (type_stays InRegion allows b at le)
    (λ type more within. next b type.1 (byte_at b type.1) (mutable_then type.0 type.1) (byte_stays InRegion allows b type.1 within)
    (λ m on to. unless InRegion b m.1 (nat_lt 1 m.0) (fault.Form type.1) (λ fine. constant_at b m.1 >>= made type.0 m.0) (tt, within)
    (λ fine. then InRegion b m.1 (constant_at b m.1) (made type.0 m.0) (constant_stays b m.1 to) (λ init from end. (from, end)))))
  where
    made : ValType → ℕ → Constant × ℕ → Read GlobalVar
    made t mutable init = Ok (record { ty = t; mutable = eqb mutable 1; init = init.0 }, init.1)

    mutable_then : ValType → ℕ → ℕ × ℕ → Read GlobalVar
    mutable_then t place m = refuse_if (nat_lt 1 m.0) (fault.Form place) >>= λ fine. constant_at b m.1 >>= made t m.0

export_stays : Stays InRegion export_at
unfolding export_at
export_stays b at le =
    next b at (name_at b at) (λ name. byte_at b name.1 >>= kind_then name.0 name.1) (name_stays b at le)
    (λ name more within. next b name.1 (byte_at b name.1) (kind_then name.0 name.1) (byte_stays InRegion allows b name.1 within)
    (λ k on to. unless InRegion b k.1 (nat_lt 3 k.0) (fault.Form name.1) (λ fine. u32_at b k.1 >>= made name.0 k.0) (tt, within)
    (λ fine. then InRegion b k.1 (u32_at b k.1) (made name.0 k.0) (u32_stays InRegion allows b k.1 to) (λ index from end. (from, end)))))
  where
    made : List ℕ → ℕ → ℕ × ℕ → Read Export
    made name kind index = Ok (record { name = name; kind = kind; index = index.0 }, index.1)

    kind_then : List ℕ → ℕ → ℕ × ℕ → Read Export
    kind_then name place k = refuse_if (nat_lt 3 k.0) (fault.Form place) >>= λ fine. u32_at b k.1 >>= made name k.0

offset_stays : Stays InRegion offset_at
unfolding offset_at
offset_stays b at le =
    next b at (u32_at b at) (λ index. refuse_if (not (eqb index.0 0)) (fault.Form at) >>= λ fine. constant_at b index.1) (u32_stays InRegion allows b at le)
    (λ index more within. unless InRegion b index.1 (not (eqb index.0 0)) (fault.Form at) (λ fine. constant_at b index.1) (tt, le) (λ fine. constant_stays b index.1 within))

-- an offset, and what a segment holds behind it
segment_lies : {A X : Type 0} (read : List ℕ → ℕ → Read A) → Stays InRegion read → (make : Constant → A × ℕ → Read X) → ((b : List ℕ) (c : Constant) (x : A × ℕ) → x.1 ≤ length b → Lies b x.1 (make c x))
    → (b : List ℕ) (at : ℕ) → at ≤ length b → Lies b at (offset_at b at >>= λ offset. read b offset.1 >>= make offset.0)
segment_lies read stays make fine b at le =
    next b at (offset_at b at) (λ offset. read b offset.1 >>= make offset.0) (offset_stays b at le)
    (λ offset more within. next b offset.1 (read b offset.1) (make offset.0) (stays b offset.1 within) (λ x on to. fine b offset.0 x to))

indices_stay : Stays InRegion (vector_at u32_at)
indices_stay = vector_stays InRegion allows u32_at (u32_stays InRegion allows)

element_stays : Stays InRegion element_at
unfolding element_at
element_stays b at le = segment_lies (vector_at u32_at) indices_stay (λ c funcs. Ok (record { offset = c; funcs = funcs.0 }, funcs.1)) (λ b c x to. (omega arith, to)) b at le

data_stays : Stays InRegion data_at
unfolding data_at
data_stays b at le = segment_lies (vector_at byte_at) (vector_stays InRegion allows byte_at (byte_stays InRegion allows)) (λ c bytes. Ok (record { offset = c; bytes = bytes.0 }, bytes.1)) (λ b c x to. (omega arith, to)) b at le

-- ---- sections

bodies_stay : (indices : List ℕ) → Stays InRegion (bodies_at indices)
unfolding bodies_at
bodies_stay [] b at le = (omega arith, le)
bodies_stay (ty ∷ indices) b at le =
    next b at (body_at ty b at) (λ x. bodies_at indices b x.1 >>= cons_read x.0) (body_lies ty b at le)
    (λ x more within. then InRegion b x.1 (bodies_at indices b x.1) (cons_read x.0) (bodies_stay indices b x.1 within) (λ xs from to. (from, to)))

module _ (s : Before) (id : ℕ) where
  codes_lie : (b : List ℕ) (at : ℕ) → id ≤ length b → at ≤ length b → Lies b at (codes_at id s.indices b at)
  unfolding codes_at
  codes_lie b at low le =
      next b at (u32_at b at) (λ count. refuse_if (not (eqb count.0 (length s.indices))) (fault.Count id) >>= λ fine. bodies_at s.indices b count.1) (u32_stays InRegion allows b at le)
      (λ count more within. unless InRegion b count.1 (not (eqb count.0 (length s.indices))) (fault.Count id) (λ fine. bodies_at s.indices b count.1) (tt, low) (λ fine. bodies_stay s.indices b count.1 within))

  pub content_lies : (k : SectionKind) (b : List ℕ) (at : ℕ) → id ≤ at → at ≤ length b → Lies b at (section_content_at s id k b at)
  unfolding custom_at imports_at
  content_lies kind.Custom b at low le = then InRegion b at (name_at b at) (λ name. Ok (Custom, length b)) (name_stays b at le) (λ x more within. (le, omega arith))
  content_lies kind.Import b at low le =
      then InRegion b at (u32_at b at) (λ count. refuse_if (nat_lt 0 count.0) (fault.Import id) >>= λ fine. Ok (Imports, count.1)) (u32_stays InRegion allows b at le)
      (λ count more within. unless InRegion b at (nat_lt 0 count.0) (fault.Import id) (λ fine. Ok (Imports, count.1)) (tt, omega arith) (λ fine. (more, within)))
  content_lies kind.Type b at low le = seen InRegion b at Types (vector_at func_type_at b at) (vector_stays InRegion allows func_type_at func_type_stays b at le)
  content_lies kind.Function b at low le = seen InRegion b at Funcs (vector_at u32_at b at) (indices_stay b at le)
  content_lies kind.Table b at low le = seen InRegion b at Tables (vector_at table_at b at) (vector_stays InRegion allows table_at table_stays b at le)
  content_lies kind.Memory b at low le = seen InRegion b at Memories (vector_at memory_at b at) (vector_stays InRegion allows memory_at (limits_stay most_pages) b at le)
  content_lies kind.Global b at low le = seen InRegion b at Globals (vector_at global_at b at) (vector_stays InRegion allows global_at global_stays b at le)
  content_lies kind.Export b at low le = seen InRegion b at Exports (vector_at export_at b at) (vector_stays InRegion allows export_at export_stays b at le)
  content_lies kind.Start b at low le = seen InRegion b at Start (u32_at b at) (u32_stays InRegion allows b at le)
  content_lies kind.Element b at low le = seen InRegion b at Elements (vector_at element_at b at) (vector_stays InRegion allows element_at element_stays b at le)
  content_lies kind.Code b at low le = seen InRegion b at Codes (codes_at id s.indices b at) (codes_lie b at (omega arith) le)
  content_lies kind.Data b at low le = seen InRegion b at Datas (vector_at data_at b at) (vector_stays InRegion allows data_at data_stays b at le)
