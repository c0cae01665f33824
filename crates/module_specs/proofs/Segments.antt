-- Constants, globals, exports and segments: what is spelled is read, and what is read is spelled.
use Rattle.std.proofs.Common.{◌≡◌, ℕ, zero, suc, ◌+◌, ◌≤◌, Bool, true, false, not, eqb, cond, List, [], ◌∷◌, ◌++◌, length, Ok, Err, refl, sym, ap, subst, ◌∙◌, arith, append_assoc, inl, inr}
use Rattle.std.specs.Prelude.{nat_lt}
use Rattle.std.proofs.lemmas.Bool.{ltb-false, le-ltb, eqb-true}
use Rattle.leb_bytes.proofs.Spelled.{IsBytes}
use Rattle.wasm_types.specs.declared.instr.ValType.{ValType}
use Rattle.wasm_types.specs.declared.instr.ValType.TheVariants.{I32, I64}
use Rattle.wasm_types.specs.declared.module.Constant.{Constant}
use Rattle.wasm_types.specs.declared.module.GlobalVar.{GlobalVar}
use Rattle.wasm_types.specs.declared.module.Export.{Export}
use Rattle.wasm_types.specs.declared.module.Element.{Element}
use Rattle.wasm_types.specs.declared.module.Data.{Data}
use Rattle.module_specs.specs.declared.fault.Fault.TheVariants.{Form, Float}
use Rattle.module_specs.specs.Spelling.{Here, Then, SpellsByte, SpellsU32, SpellsVector, SpellsName, SpellsType}
use Rattle.module_specs.specs.ModuleSpelling.{i32_constant, i64_constant, SpellsValue, SpellsConstant, mutable_byte, SpellsGlobal, SpellsExport, SpellsElement, SpellsData}
use Rattle.module_specs.specs.Reading.{Read, ◌>>=◌, refuse_if, mapped, byte_at, u32_at, s32_at, s64_at, vector_at, name_at, type_at}
use Rattle.module_specs.specs.ModuleReading.{value_of, constant_at, global_at, export_at, offset_at, element_at, data_at}
use Rattle.module_specs.proofs.Places.{bind_ok, ok_is, not_refused, goes_past, not_not, here_first, here_second, here_join, same_text, byte_again, byte_rest, byte_here}
use Rattle.module_specs.proofs.Readers.{Tells, u32_tells, s32_tells, s64_tells, vector_tells, mapped_ok}
use Rattle.module_specs.proofs.ValueTypes.{chosen, type_tells}
use Rattle.module_specs.proofs.Items.{step, checked, checked_again, checked_here, bytes_tell, name_tells}

-- ---- constants

abbrev made_constant : Constant → ℕ → Read Constant
made_constant c next = Ok (c, next)

abbrev end_then : List ℕ → Constant × ℕ → Read Constant
end_then b value = checked b value.1 0x0B (Form value.1) (made_constant value.0)

-- the value of this type, from its first byte on
value_again : (t : ValType) (c : Constant) (b : List ℕ) (at next : ℕ) (text : List ℕ) → SpellsValue t c text → Here b at text next
    → byte_at b at >>= (λ op. value_of b at op.1 op.0 >>= end_then b) ≡ end_then b (c, next)
value_again I32 c b at next text s h =
    let t = s.2 in
    let k = same_text b at next text (0x41 ∷ t.0) t.1 h in
    ap (λ r. r >>= (λ op. value_of b at op.1 op.0 >>= end_then b)) (byte_again b at next 0x41 t.0 k)
    ∙ ap (λ r. mapped i32_constant r >>= end_then b) (s32_tells.again b (at + 1) next s.0 t.0 t.2 (byte_rest b at next 0x41 t.0 k))
    ∙ ap (λ c. end_then b (c, next)) (sym s.1)
value_again I64 c b at next text s h =
    let t = s.2 in
    let k = same_text b at next text (0x42 ∷ t.0) t.1 h in
    ap (λ r. r >>= (λ op. value_of b at op.1 op.0 >>= end_then b)) (byte_again b at next 0x42 t.0 k)
    ∙ ap (λ r. mapped i64_constant r >>= end_then b) (s64_tells.again b (at + 1) next s.0 t.0 t.2 (byte_rest b at next 0x42 t.0 k))
    ∙ ap (λ c. end_then b (c, next)) (sym s.1)

-- no other byte begins a constant
no_value : (op at next : ℕ) (c : Constant) → cond (eqb op 0x43) (let r : Read Constant = Err (Float at) in r) (cond (eqb op 0x44) (Err (Float at)) (Err (Form at))) ≡ Ok (c, next) → ⊥
no_value op at next c e = by_tests (eqb op 0x43) (eqb op 0x44) e
  where
    by_tests : (x y : Bool) → cond x (let r : Read Constant = Err (Float at) in r) (cond y (Err (Float at)) (Err (Form at))) ≡ Ok (c, next) → ⊥
    by_tests true y e = absurd cc
    by_tests false true e = absurd cc
    by_tests false false e = absurd cc

abbrev ValueHere : List ℕ → ℕ → ℕ → ℕ → Constant → Type 0
ValueHere b op p next c = (text : List ℕ) × Here b p text next × SpellsValue c.ty c (op ∷ text)

value_here : (b : List ℕ) → IsBytes b → (op at p next : ℕ) (c : Constant) → p ≤ length b → value_of b at p op ≡ Ok (c, next) → ValueHere b op p next c
value_here b fits op at p next c le e =
    elim (chosen (eqb op 0x41) (mapped i32_constant (s32_at b p)) _ (Ok (c, next)) e) [
      | inl x ↦
          let m = mapped_ok i32_constant (s32_at b p) c next x.1 in
          let h = s32_tells.here b fits p next m.0 le m.1 in
          subst (λ (op : ℕ). ValueHere b op p next c) (sym (eqb-true op 0x41 x.0))
          (subst (ValueHere b 0x41 p next) (sym m.2) (h.0, h.1, (m.0, refl, (h.0, refl, h.2))))
      | inr y ↦ elim (chosen (eqb op 0x42) (mapped i64_constant (s64_at b p)) _ (Ok (c, next)) y) [
        | inl x ↦
            let m = mapped_ok i64_constant (s64_at b p) c next x.1 in
            let h = s64_tells.here b fits p next m.0 le m.1 in
            subst (λ (op : ℕ). ValueHere b op p next c) (sym (eqb-true op 0x42 x.0))
            (subst (ValueHere b 0x42 p next) (sym m.2) (h.0, h.1, (m.0, refl, (h.0, refl, h.2))))
        | inr z ↦ absurd (no_value op at next c z)
      ]
    ]

pub constant_tells : Tells SpellsConstant constant_at
unfolding constant_at
constant_tells = record { again = again; here = here }
  where
    again : (b : List ℕ) (at next : ℕ) (c : Constant) (text : List ℕ) → SpellsConstant c text → Here b at text next → constant_at b at ≡ Ok (c, next)
    again b at next c text s h =
        let k = same_text b at next text (s.0 ++ s.1) s.2 h in
        let mid = at + length s.0 in
        let last = same_text b mid next s.1 (0x0B ∷ []) s.4 (here_second b at next s.0 s.1 k) in
        let n : mid + 1 ≡ next = omega (arith, last.size) in
        value_again c.ty c b at mid s.0 s.3 (here_first b at next s.0 s.1 k)
        ∙ checked_again b mid 0x0B (Form mid) (made_constant c) next [] last
        ∙ ap (λ n. Ok (c, n)) n

    here : (b : List ℕ) → IsBytes b → (at next : ℕ) (c : Constant) → at ≤ length b → constant_at b at ≡ Ok (c, next) → (text : List ℕ) × Here b at text next × SpellsConstant c text
    here b fits at next c le e =
        let op = bind_ok (byte_at b at) (λ op. value_of b at op.1 op.0 >>= end_then b) (c, next) e in
        let value = bind_ok (value_of b at op.0.1 op.0.0) (end_then b) (c, next) op.2 in
        let end = checked_here b value.0.1 0x0B (Form value.0.1) (made_constant value.0.0) (c, next) value.2 in
        let h0 = byte_here b at op.0.1 op.0.0 op.1 in
        let x = value_here b fits op.0.0 at op.0.1 value.0.1 value.0.0 h0.within value.1 in
        let made : Constant × ℕ = (value.0.0, value.0.1 + 1) in
        let front = op.0.0 ∷ x.0 in
        subst (λ (p : Constant × ℕ). (text : List ℕ) × Here b at text p.1 × SpellsConstant p.0 text) (ok_is made (c, next) end.1)
        (front ++ 0x0B ∷ [], here_join b at value.0.1 (value.0.1 + 1) front (0x0B ∷ []) (here_join b at op.0.1 value.0.1 (op.0.0 ∷ []) x.0 h0 x.1) end.0, (front, 0x0B ∷ [], refl, x.2, refl))

-- ---- globals

abbrev made_global : ValType → ℕ → Constant × ℕ → Read GlobalVar
made_global t mutable init = Ok (record { ty = t; mutable = eqb mutable 1; init = init.0 }, init.1)

abbrev mutable_then : List ℕ → ValType → ℕ → ℕ × ℕ → Read GlobalVar
mutable_then b t place mutable = refuse_if (nat_lt 1 mutable.0) (Form place) >>= λ fine. constant_at b mutable.1 >>= made_global t mutable.0

abbrev type_then : List ℕ → ValType × ℕ → Read GlobalVar
type_then b type = byte_at b type.1 >>= mutable_then b type.0 type.1

mutable_again : (b : List ℕ) (t : ValType) (place p : ℕ) (m : Bool) → mutable_then b t place (mutable_byte m, p) ≡ constant_at b p >>= made_global t (mutable_byte m)
mutable_again b t place p true = refl
mutable_again b t place p false = refl

mutable_is : (m : Bool) → eqb (mutable_byte m) 1 ≡ m
mutable_is true = refl
mutable_is false = refl

mutable_back : (n : ℕ) → n ≤ 1 → mutable_byte (eqb n 1) ≡ n
mutable_back zero le = refl
mutable_back (suc zero) le = refl
mutable_back (suc (suc n)) le = absurd (omega arith)

pub global_tells : Tells SpellsGlobal global_at
unfolding global_at
global_tells = record { again = again; here = here }
  where
    again : (b : List ℕ) (at next : ℕ) (g : GlobalVar) (text : List ℕ) → SpellsGlobal g text → Here b at text next → global_at b at ≡ Ok (g, next)
    again b at next g text s h =
        let k = same_text b at next text (s.0 ++ s.1) s.2 h in
        let mid = at + length s.0 in
        let t = s.4 in
        let byte = mutable_byte g.mutable in
        let k1 = same_text b mid next s.1 (byte ∷ t.0) t.1 (here_second b at next s.0 s.1 k) in
        step SpellsType type_at type_tells b at mid g.ty s.0 (type_then b) s.3 (here_first b at next s.0 s.1 k)
        ∙ ap (λ r. r >>= mutable_then b g.ty mid) (byte_again b mid next byte t.0 k1)
        ∙ mutable_again b g.ty mid (mid + 1) g.mutable
        ∙ step SpellsConstant constant_at constant_tells b (mid + 1) next g.init t.0 (made_global g.ty byte) t.2 (byte_rest b mid next byte t.0 k1)
        ∙ ap (λ m. Ok (record { ty = g.ty; mutable = m; init = g.init }, next)) (mutable_is g.mutable)

    here : (b : List ℕ) → IsBytes b → (at next : ℕ) (g : GlobalVar) → at ≤ length b → global_at b at ≡ Ok (g, next) → (text : List ℕ) × Here b at text next × SpellsGlobal g text
    here b fits at next g le e =
        let type = bind_ok (type_at b at) (type_then b) (g, next) e in
        let m = bind_ok (byte_at b type.0.1) (mutable_then b type.0.0 type.0.1) (g, next) type.2 in
        let fine = not_refused (nat_lt 1 m.0.0) (Form type.0.1) (λ fine. constant_at b m.0.1 >>= made_global type.0.0 m.0.0) (g, next) m.2 in
        let init = bind_ok (constant_at b m.0.1) (made_global type.0.0 m.0.0) (g, next) fine.1 in
        let h1 = type_tells.here b fits at type.0.1 type.0.0 le type.1 in
        let h2 = byte_here b type.0.1 m.0.1 m.0.0 m.1 in
        let h3 = constant_tells.here b fits m.0.1 init.0.1 init.0.0 h2.within init.1 in
        let made : GlobalVar × ℕ = (record { ty = type.0.0; mutable = eqb m.0.0 1; init = init.0.0 }, init.0.1) in
        let back : mutable_byte (eqb m.0.0 1) ≡ m.0.0 = mutable_back m.0.0 (ltb-false 1 m.0.0 fine.0) in
        let rest = m.0.0 ∷ h3.0 in
        subst (λ (p : GlobalVar × ℕ). (text : List ℕ) × Here b at text p.1 × SpellsGlobal p.0 text) (ok_is made (g, next) init.2) (
          h1.0 ++ rest,
          here_join b at type.0.1 init.0.1 h1.0 rest h1.1 (here_join b type.0.1 m.0.1 init.0.1 (m.0.0 ∷ []) h3.0 h2 h3.1),
          (h1.0, rest, refl, h1.2, (h3.0, ap (λ n. n ∷ h3.0) (sym back), h3.2)),
        )

-- ---- exports

abbrev made_export : List ℕ → ℕ → ℕ × ℕ → Read Export
made_export name kind index = Ok (record { name = name; kind = kind; index = index.0 }, index.1)

abbrev kind_then : List ℕ → List ℕ → ℕ → ℕ × ℕ → Read Export
kind_then b name place kind = refuse_if (nat_lt 3 kind.0) (Form place) >>= λ fine. u32_at b kind.1 >>= made_export name kind.0

abbrev name_then : List ℕ → List ℕ × ℕ → Read Export
name_then b name = byte_at b name.1 >>= kind_then b name.0 name.1

pub export_tells : Tells SpellsExport export_at
unfolding export_at
export_tells = record { again = again; here = here }
  where
    again : (b : List ℕ) (at next : ℕ) (x : Export) (text : List ℕ) → SpellsExport x text → Here b at text next → export_at b at ≡ Ok (x, next)
    again b at next x text s h =
        let t = s.1 in
        let k = same_text b at next text (t.0 ++ t.1) t.2 h in
        let mid = at + length t.0 in
        let r = t.4 in
        let k1 = same_text b mid next t.1 (x.kind ∷ r.0) r.1 (here_second b at next t.0 t.1 k) in
        step SpellsName name_at name_tells b at mid x.name t.0 (name_then b) t.3 (here_first b at next t.0 t.1 k)
        ∙ ap (λ r. r >>= kind_then b x.name mid) (byte_again b mid next x.kind r.0 k1)
        ∙ goes_past (nat_lt 3 x.kind) (Form mid) (λ fine. u32_at b (mid + 1) >>= made_export x.name x.kind) (le-ltb 3 x.kind s.0)
        ∙ step SpellsU32 u32_at u32_tells b (mid + 1) next x.index r.0 (made_export x.name x.kind) r.2 (byte_rest b mid next x.kind r.0 k1)

    here : (b : List ℕ) → IsBytes b → (at next : ℕ) (x : Export) → at ≤ length b → export_at b at ≡ Ok (x, next) → (text : List ℕ) × Here b at text next × SpellsExport x text
    here b fits at next x le e =
        let name = bind_ok (name_at b at) (name_then b) (x, next) e in
        let kind = bind_ok (byte_at b name.0.1) (kind_then b name.0.0 name.0.1) (x, next) name.2 in
        let fine = not_refused (nat_lt 3 kind.0.0) (Form name.0.1) (λ fine. u32_at b kind.0.1 >>= made_export name.0.0 kind.0.0) (x, next) kind.2 in
        let index = bind_ok (u32_at b kind.0.1) (made_export name.0.0 kind.0.0) (x, next) fine.1 in
        let h1 = name_tells.here b fits at name.0.1 name.0.0 le name.1 in
        let h2 = byte_here b name.0.1 kind.0.1 kind.0.0 kind.1 in
        let h3 = u32_tells.here b fits kind.0.1 index.0.1 index.0.0 h2.within index.1 in
        let made : Export × ℕ = (record { name = name.0.0; kind = kind.0.0; index = index.0.0 }, index.0.1) in
        let rest = kind.0.0 ∷ h3.0 in
        subst (λ (p : Export × ℕ). (text : List ℕ) × Here b at text p.1 × SpellsExport p.0 text) (ok_is made (x, next) index.2) (
          h1.0 ++ rest,
          here_join b at name.0.1 index.0.1 h1.0 rest h1.1 (here_join b name.0.1 kind.0.1 index.0.1 (kind.0.0 ∷ []) h3.0 h2 h3.1),
          (ltb-false 3 kind.0.0 fine.0, (h1.0, rest, refl, h1.2, (h3.0, refl, h3.2))),
        )

-- ---- segments

abbrev SpellsOffset : Constant → List ℕ → Type 0
SpellsOffset c text = Then (SpellsU32 0) (SpellsConstant c) text

abbrev index_then : List ℕ → ℕ → ℕ × ℕ → Read Constant
index_then b at index = refuse_if (not (eqb index.0 0)) (Form at) >>= λ fine. constant_at b index.1

offset_tells : Tells SpellsOffset offset_at
unfolding offset_at
offset_tells = record { again = again; here = here }
  where
    again : (b : List ℕ) (at next : ℕ) (c : Constant) (text : List ℕ) → SpellsOffset c text → Here b at text next → offset_at b at ≡ Ok (c, next)
    again b at next c text s h =
        let k = same_text b at next text (s.0 ++ s.1) s.2 h in
        let mid = at + length s.0 in
        step SpellsU32 u32_at u32_tells b at mid 0 s.0 (index_then b at) s.3 (here_first b at next s.0 s.1 k)
        ∙ constant_tells.again b mid next c s.1 s.4 (here_second b at next s.0 s.1 k)

    here : (b : List ℕ) → IsBytes b → (at next : ℕ) (c : Constant) → at ≤ length b → offset_at b at ≡ Ok (c, next) → (text : List ℕ) × Here b at text next × SpellsOffset c text
    here b fits at next c le e =
        let index = bind_ok (u32_at b at) (index_then b at) (c, next) e in
        let fine = not_refused (not (eqb index.0.0 0)) (Form at) (λ fine. constant_at b index.0.1) (c, next) index.2 in
        let is : index.0.0 ≡ 0 = eqb-true index.0.0 0 (not_not (eqb index.0.0 0) fine.0) in
        let h1 = u32_tells.here b fits at index.0.1 index.0.0 le index.1 in
        let h2 = constant_tells.here b fits index.0.1 next c h1.1.within fine.1 in
        (h1.0 ++ h2.0, here_join b at index.0.1 next h1.0 h2.0 h1.1 h2.1, (h1.0, h2.0, refl, subst (λ (n : ℕ). SpellsU32 n h1.0) is h1.2, h2.2))

-- what a segment holds behind its offset
module _ {A X : Type 0} (S : A → List ℕ → Type 0) (read : List ℕ → ℕ → Read A) (tells : Tells S read) (make : Constant → A → X) where
  abbrev SpellsSegment : Constant → A → List ℕ → Type 0
  SpellsSegment c x text = Then (SpellsU32 0) (Then (SpellsConstant c) (S x)) text

  abbrev made_segment : Constant → A × ℕ → Read X
  made_segment c x = Ok (make c x.0, x.1)

  abbrev segment : List ℕ → ℕ → Read X
  segment b at = offset_at b at >>= λ offset. read b offset.1 >>= made_segment offset.0

  segment_again : (b : List ℕ) (at next : ℕ) (c : Constant) (x : A) (text : List ℕ) → SpellsSegment c x text → Here b at text next → segment b at ≡ Ok (make c x, next)
  segment_again b at next c x text s h =
      let t = s.4 in
      let front = s.0 ++ t.0 in
      let whole : text ≡ front ++ t.1 = s.2 ∙ ap (λ l. s.0 ++ l) t.2 ∙ sym (append_assoc s.0 t.0 t.1) in
      let k = same_text b at next text (front ++ t.1) whole h in
      let mid = at + length front in
      step SpellsOffset offset_at offset_tells b at mid c front (λ offset. read b offset.1 >>= made_segment offset.0) (s.0, t.0, refl, s.3, t.3) (here_first b at next front t.1 k)
      ∙ step S read tells b mid next x t.1 (made_segment c) t.4 (here_second b at next front t.1 k)

  segment_here : (b : List ℕ) → IsBytes b → (at next : ℕ) (y : X) → at ≤ length b → segment b at ≡ Ok (y, next)
      → (c : Constant) × (x : A) × (y ≡ make c x) × (text : List ℕ) × Here b at text next × SpellsSegment c x text
  segment_here b fits at next y le e =
      let offset = bind_ok (offset_at b at) (λ offset. read b offset.1 >>= made_segment offset.0) (y, next) e in
      let x = bind_ok (read b offset.0.1) (made_segment offset.0.0) (y, next) offset.2 in
      let h1 = offset_tells.here b fits at offset.0.1 offset.0.0 le offset.1 in
      let h2 = tells.here b fits offset.0.1 x.0.1 x.0.0 h1.1.within x.1 in
      let o = h1.2 in
      let made : X × ℕ = (make offset.0.0 x.0.0, x.0.1) in
      let same = ok_is made (y, next) x.2 in
      let place : x.0.1 ≡ next = ap (λ (p : X × ℕ). p.1) same in
      let regrouped : h1.0 ++ h2.0 ≡ o.0 ++ (o.1 ++ h2.0) = ap (λ l. l ++ h2.0) o.2 ∙ append_assoc o.0 o.1 h2.0 in (
        offset.0.0,
        x.0.0,
        sym (ap (λ (p : X × ℕ). p.0) same),
        h1.0 ++ h2.0,
        subst (Here b at (h1.0 ++ h2.0)) place (here_join b at offset.0.1 x.0.1 h1.0 h2.0 h1.1 h2.1),
        (o.0, o.1 ++ h2.0, regrouped, o.3, (o.1, h2.0, refl, o.4, h2.2)),
      )

indices_tell : Tells (SpellsVector SpellsU32) (vector_at u32_at)
indices_tell = vector_tells SpellsU32 u32_at u32_tells

abbrev element : Constant → List ℕ → Element
element c funcs = record { offset = c; funcs = funcs }

pub element_tells : Tells SpellsElement element_at
unfolding element_at
element_tells = record {
  again = λ b at next e text s h. segment_again (SpellsVector SpellsU32) (vector_at u32_at) indices_tell element b at next e.offset e.funcs text s h;
  here = λ b fits at next e le r.
      let x = segment_here (SpellsVector SpellsU32) (vector_at u32_at) indices_tell element b fits at next e le r in
      (x.3, x.4, subst (λ (e : Element). SpellsElement e x.3) (sym x.2) x.5);
}

abbrev data_of : Constant → List ℕ → Data
data_of c bytes = record { offset = c; bytes = bytes }

pub data_tells : Tells SpellsData data_at
unfolding data_at
data_tells = record {
  again = λ b at next d text s h. segment_again (SpellsVector SpellsByte) (vector_at byte_at) bytes_tell data_of b at next d.offset d.bytes text s h;
  here = λ b fits at next d le r.
      let x = segment_here (SpellsVector SpellsByte) (vector_at byte_at) bytes_tell data_of b fits at next d le r in
      (x.3, x.4, subst (λ (d : Data). SpellsData d x.3) (sym x.2) x.5);
}
