-- Bodies lie in their region, and so do their faults.
use Rattle.std.proofs.Common.{◌≡◌, ℕ, zero, suc, ◌-◌, ◌≤◌, Bool, true, false, cond, List, [], ◌∷◌, length, Ok, Err, subst, arith}
use Rattle.std.specs.Prelude.{nat_lt}
use Rattle.wasm_types.specs.declared.instr.ValType.TheVariants.{I32, I64}
use Rattle.wasm_types.specs.declared.instr.Instr.TheVariants as instr
use Rattle.wasm_types.specs.Nested.{Code, Nil, Leaf}
use Rattle.wasm_types.specs.Modules.{NestedFunc}
use Rattle.module_specs.specs.declared.fault.Fault.{Fault}
use Rattle.module_specs.specs.declared.fault.Fault.TheVariants.{Short, Size, Limit, Memory}
use Rattle.module_specs.specs.declared.opcodes.Kind.TheVariants as kind
use Rattle.module_specs.specs.declared.opcodes.Group.{Group}
use Rattle.module_specs.specs.declared.opcodes.Group.TheVariants as group
use Rattle.module_specs.specs.declared.token.Token.{Token}
use Rattle.module_specs.specs.declared.token.Token.TheVariants.{Plain, Opens, Else, End}
use Rattle.module_specs.specs.Opcodes.{group_of, simple_instr, indexed_instr}
use Rattle.module_specs.specs.CodeSpelling.{most_nested, most_locals}
use Rattle.module_specs.specs.Reading.{Read, ◌>>=◌, refuse_if, Fails, byte_at, u32_at, s32_at, s64_at, zero_at, vector_at, type_at, block_type_at}
use Rattle.module_specs.specs.CodeReading.{immediates_at, token_at, Part, First, Second, made, Open, after_else, act, code_from, code_at, runs_at, locals_at, content_at, body_at}
use Rattle.module_specs.proofs.Within.{Allows, Fine, Stays, earlier, then, unless, byte_stays, u32_stays, s32_stays, s64_stays, zero_then, type_stays, block_type_stays, vector_stays, sized_fine}
use Rattle.wasm_code.specs.Faults.{IsOfCode, HasError, InBody}
use Rattle.wasm_code.specs.Flat.{flat_read}
use Rattle.wasm_code.proofs.Runs.{before_run}

allows : Allows InBody
allows = record {
  grows = λ m n e le h. (h.0, omega (arith, h.1));
  short = λ n. (tt, omega arith);
  number = λ n at le. (tt, le);
  float = λ n at le. (tt, le);
  form = λ n at le. (tt, le);
  opcode = λ n at byte le. (tt, le);
}

abbrev Lies : {A : Type 0} → List ℕ → ℕ → Read A → Type 0
Lies = Fine InBody

module _ (b : List ℕ) where
  -- a number, and what follows it
  u32_then : {A : Type 0} (at : ℕ) (f : ℕ × ℕ → Read A) → at ≤ length b → ((x : ℕ × ℕ) → at ≤ x.1 → x.1 ≤ length b → Lies b at (f x))
      → Lies b at (u32_at b at >>= f)
  u32_then at f le k = then InBody b at (u32_at b at) f (u32_stays InBody allows b at le) k

  from_next : (op p : ℕ) (g : Group) (at : ℕ) → at ≤ p → p ≤ length b → Lies b p (immediates_at b at op p g)
  from_next op p (group.Opens k) at le within = (omega arith, within)
  from_next op p group.Else at le within = (omega arith, within)
  from_next op p group.End at le within = (omega arith, within)
  from_next op p (group.Bare what) at le within = (omega arith, within)
  from_next op p (group.Zero what) at le within = zero_then InBody allows b p (λ end. Ok (Plain (simple_instr op what), end)) within
      (λ end more to. (more, to))
  from_next op p (group.Index what) at le within = u32_then p (λ n. Ok (Plain (indexed_instr op what n.0), n.1)) within
      (λ x more to. (more, to))
  from_next op p (group.Access bytes) at le within =
      u32_then p (λ align. u32_at b align.1 >>= λ offset. Ok (Plain (instr.Access op align.0 offset.0), offset.1)) within
      (λ x more to. earlier InBody b p (u32_at b x.1 >>= λ offset. Ok (Plain (instr.Access op x.0 offset.0), offset.1)) x.1 more
      (u32_then x.1 (λ offset. Ok (Plain (instr.Access op x.0 offset.0), offset.1)) to (λ y on end. (on, end))))
  from_next op p (group.Constant I32) at le within = then InBody b p (s32_at b p) (λ z. Ok (Plain (instr.I32Const z.0), z.1))
      (s32_stays InBody allows b p within) (λ x more to. (more, to))
  from_next op p (group.Constant I64) at le within = then InBody b p (s64_at b p) (λ z. Ok (Plain (instr.I64Const z.0), z.1))
      (s64_stays InBody allows b p within) (λ x more to. (more, to))
  from_next op p group.Indirect at le within =
      u32_then p (λ type. zero_at b type.1 >>= λ end. Ok (Plain (instr.CallIndirect type.0), end)) within
      (λ x more to. earlier InBody b p (zero_at b x.1 >>= λ end. Ok (Plain (instr.CallIndirect x.0), end)) x.1 more
      (zero_then InBody allows b x.1 (λ end. Ok (Plain (instr.CallIndirect x.0), end)) to (λ y on end. (on, end))))
  from_next op p group.Table at le within =
      then InBody b p (vector_at u32_at b p) (λ labels. u32_at b labels.1 >>= λ default. Ok
      (Plain (instr.BrTable labels.0 default.0), default.1)) (vector_stays InBody allows u32_at (u32_stays InBody allows) b p within)
      (λ x more to. earlier InBody b p (u32_at b x.1 >>= λ default. Ok (Plain (instr.BrTable x.0 default.0), default.1)) x.1 more
      (u32_then x.1 (λ default. Ok (Plain (instr.BrTable x.0 default.0), default.1)) to (λ y on end. (on, end))))
  from_next op p group.Float at le within = allows.float (length b) at (omega arith)
  from_next op p group.Unknown at le within = allows.opcode (length b) at op (omega arith)

  token_stays : (at : ℕ) → at ≤ length b → Lies b at (token_at b at)
  unfolding token_at
  token_stays at le =
      then InBody b at (byte_at b at) (λ op. immediates_at b at op.0 op.1 (group_of op.0)) (byte_stays InBody allows b at le)
      (λ op more within. earlier InBody b at (immediates_at b at op.0 op.1 (group_of op.0)) op.1 more
      (from_next op.0 op.1 (group_of op.0) at more within))

  module _ (at : ℕ) where
    abbrev Goes : (ℕ → List Open → (Code → Code) → Read Code) → Type 0
    Goes go = (place : ℕ) (os : List Open) (list : Code → Code) → at ≤ place → place ≤ length b → Lies b at (go place os list)

    module _ (go : ℕ → List Open → (Code → Code) → Read Code) (goes : Goes go) (place next : ℕ) (le : at ≤ next) (within : next ≤ length b)
        (here : place ≤ length b) where
      else_lies : (os : List Open) (list : Code → Code) → Lies b at (after_else (go next) place os list)
      else_lies [] list = (tt, here)
      else_lies (o ∷ os) list = by_part o.what
        where
          by_part : (what : Part) → Lies b at (after_else (go next) place (record { what = what; before = o.before } ∷ os) list)
          by_part (First kind.Block r) = (tt, here)
          by_part (First kind.Loop r) = (tt, here)
          by_part (First kind.If r) = goes next (record { what = Second r (list Nil); before = o.before } ∷ os) (λ rest. rest) le within
          by_part (Second r first) = (tt, here)

      act_lies : (t : Token) (os : List Open) (list : Code → Code) → Lies b at (act go b place os list t next)
      act_lies (Plain i) os list = goes next os (λ rest. list (Leaf i rest)) le within
      act_lies (Opens k) os list = by_test (nat_lt (length os) most_nested)
        where
          by_test : (t : Bool) → Lies b at (cond t (block_type_at b next >>= λ r. go r.1 (record { what = First k r.0; before = list } ∷ os)
              (λ rest. rest)) (Err (Limit place)))
          by_test true =
              then InBody b at (block_type_at b next) (λ r. go r.1 (record { what = First k r.0; before = list } ∷ os) (λ rest. rest))
              (earlier InBody b at (block_type_at b next) next le (block_type_stays InBody allows b next within))
              (λ r more to. goes r.1 (record { what = First k r.0; before = list } ∷ os) (λ rest. rest) more to)
          by_test false = (tt, here)
      act_lies Else os list = else_lies os list
      act_lies End [] list = (le, within)
      act_lies End (o ∷ os) list = goes next os (λ rest. o.before (made o.what (list Nil) rest)) le within

    code_lies : (fuel : ℕ) → Goes (code_from fuel b)
    unfolding code_from
    code_lies zero place os list le within = allows.short (length b)
    code_lies (suc fuel) place os list le within =
        then InBody b at (token_at b place) (λ token. act (code_from fuel b) b place os list token.0 token.1)
        (earlier InBody b at (token_at b place) place le (token_stays place within))
        (λ t more to. act_lies (code_from fuel b) (code_lies fuel) place t.1 more to within t.0 os list)

  module _ (body at : ℕ) (behind : body ≤ at) where
    runs_lie : (n room place : ℕ) → at ≤ place → place ≤ length b → Lies b at (runs_at body b room n place)
    unfolding runs_at
    runs_lie zero room place le within = (le, within)
    runs_lie (suc n) room place le within =
        then InBody b at (u32_at b place) (λ count. refuse_if (nat_lt room count.0) (Limit body) >>= λ fine. type_at b count.1 >>= λ type.
        runs_at body b (room - count.0) n type.1 >>= before_run count.0 type.0)
        (earlier InBody b at (u32_at b place) place le (u32_stays InBody allows b place within))
        (λ count more to. unless InBody b at (nat_lt room count.0) (Limit body)
        (λ fine. type_at b count.1 >>= λ type. runs_at body b (room - count.0) n type.1 >>= before_run count.0 type.0) (tt, omega arith)
        (λ fine. then InBody b at (type_at b count.1) (λ type. runs_at body b (room - count.0) n type.1 >>= before_run count.0 type.0)
        (earlier InBody b at (type_at b count.1) count.1 more (type_stays InBody allows b count.1 to))
        (λ type on end. then InBody b at (runs_at body b (room - count.0) n type.1) (before_run count.0 type.0)
        (runs_lie n (room - count.0) type.1 on end) (λ rest from stop. (from, stop)))))

    locals_lie : at ≤ length b → Lies b at (locals_at body b at)
    unfolding locals_at
    locals_lie within =
        then InBody b at (u32_at b at) (λ count. runs_at body b most_locals count.0 count.1) (u32_stays InBody allows b at within)
        (λ count more to. runs_lie count.0 most_locals count.1 more to)

    content_lies : (ty : ℕ) → at ≤ length b → Lies b at (content_at ty body b at)
    unfolding content_at
    content_lies ty within =
        then InBody b at (locals_at body b at) (λ locals. code_at b locals.1 >>= λ code. Ok
        (record { ty = ty; locals = locals.0; code = code.0 }, code.1)) (locals_lie within)
        (λ locals more to. then InBody b at (code_at b locals.1) (λ code. Ok (record { ty = ty; locals = locals.0; code = code.0 }, code.1))
        (code_lies at (length b) locals.1 [] (λ rest. rest) more to) (λ code on end. (on, end)))

-- a body lies in its region, and so does its first fault, which is one of code
pub body_stays : (ty : ℕ) → Stays InBody (body_at ty)
unfolding body_at
body_stays ty b at le =
    sized_fine InBody allows (λ end. Short (length b)) (Size at) (content_at ty at) b at le
    (λ stop past. allows.short (length b)) (tt, le) (λ r p more within small. content_lies r at p more ty within)

pub fault_lies : (ty at : ℕ) (b : List ℕ) (e : Fault) → at ≤ length b → body_at ty b at ≡ Err e → InBody (length b) e
fault_lies ty at b e le h = subst (Lies b at) h (body_stays ty b at le)

-- a returned fault has an error that names it
pub has_error : (ty : ℕ) (b : List ℕ) (at : ℕ) (e : Fault) → at ≤ length b → Fails e (flat_read (body_at ty b at)) → HasError e
has_error ty b at e le h = by_fault e h
  where
    by_read : (e : Fault) (r : Read NestedFunc) → Lies b at r → flat_read r ≡ Err e → IsOfCode e
    by_read e (Ok x) f h = absurd cc
    by_read e (Err d) f h = let same : d ≡ e = cc in subst IsOfCode same f.0

    by_fault : (e : Fault) → Fails e (flat_read (body_at ty b at)) → HasError e
    by_fault Memory h = tt
    by_fault e h = by_read e (body_at ty b at) (body_stays ty b at le) h
