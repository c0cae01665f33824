-- The items of sections: what is spelled is read, and what is read is spelled.
use Rattle.std.proofs.Common.{◌≡◌, ℕ, zero, suc, ◌+◌, ◌≤◌, not, eqb, List, [], ◌∷◌, ◌++◌, length, Option, Some, None, Result, Ok, refl, sym, ap, subst, ◌∙◌, arith}
use Rattle.std.specs.Prelude.{nat_lt}
use Rattle.std.specs.Str.{is_utf8}
use Rattle.std.proofs.lemmas.Bool.{ltb-false, le-ltb, eqb-true, eq-eqb}
use Rattle.std.proofs.lemmas.Str.{IsUtf8-from_is_utf8, is_utf8-from_IsUtf8}
use Rattle.leb_bytes.proofs.Spelled.{IsBytes}
use Rattle.wasm_types.specs.declared.instr.ValType.{ValType}
use Rattle.wasm_types.specs.declared.module.FuncType.{FuncType}
use Rattle.wasm_types.specs.declared.module.Limits.{Limits}
use Rattle.module_specs.specs.declared.fault.Fault.{Fault}
use Rattle.module_specs.specs.declared.fault.Fault.TheVariants.{Form, Utf8, Limit}
use Rattle.module_specs.specs.Spelling.{Here, SpellsByte, SpellsU32, SpellsVector, SpellsName, SpellsType}
use Rattle.module_specs.specs.ModuleSpelling.{SpellsFuncType, SpellsSizes, SpellsLimits, SpellsTable, SpellsMemory, most_entries, most_pages}
use Rattle.module_specs.specs.Reading.{Read, ◌>>=◌, refuse_if, mapped, byte_at, u32_at, vector_at, name_at, type_at}
use Rattle.module_specs.specs.ModuleReading.{func_type_at, max_at, limits_at, table_at, memory_at}
use Rattle.module_specs.proofs.Places.{bind_ok, ok_is, not_refused, goes_past, not_not, here_first, here_second, here_join, same_text, byte_again, byte_rest, byte_here}
use Rattle.module_specs.proofs.Readers.{Tells, byte_tells, u32_tells, vector_tells, mapped_ok}
use Rattle.module_specs.proofs.ValueTypes.{type_tells}

-- one reader, and what follows
pub step : {A B : Type 0} (S : A → List ℕ → Type 0) (read : List ℕ → ℕ → Read A) → Tells S read → (b : List ℕ) (at mid : ℕ) (x : A) (text : List ℕ) (f : A × ℕ → Result B Fault)
    → S x text → Here b at text mid → read b at >>= f ≡ f (x, mid)
step S read tells b at mid x text f s h = ap (λ r. r >>= f) (tells.again b at mid x text s h)

-- a byte that has to be this one, and what follows
module _ {B : Type 0} (b : List ℕ) (at byte : ℕ) (e : Fault) (f : ℕ → Result B Fault) where
  abbrev pub checked : Result B Fault
  checked = byte_at b at >>= λ x. refuse_if (not (eqb x.0 byte)) e >>= λ fine. f x.1

  pub checked_again : (next : ℕ) (text : List ℕ) → Here b at (byte ∷ text) next → checked ≡ f (at + 1)
  checked_again next text h =
      ap (λ r. r >>= λ x. refuse_if (not (eqb x.0 byte)) e >>= λ fine. f x.1) (byte_again b at next byte text h)
      ∙ goes_past (not (eqb byte byte)) e (λ fine. f (at + 1)) (ap not (eq-eqb byte byte refl))

  pub checked_here : (y : B) → checked ≡ Ok y → Here b at (byte ∷ []) (at + 1) × (f (at + 1) ≡ Ok y)
  checked_here y h =
      let x = bind_ok (byte_at b at) (λ x. refuse_if (not (eqb x.0 byte)) e >>= λ fine. f x.1) y h in
      let fine = not_refused (not (eqb x.0.0 byte)) e (λ fine. f x.0.1) y x.2 in
      let h0 = byte_here b at x.0.1 x.0.0 x.1 in
      let place : x.0.1 ≡ at + 1 = omega (arith, h0.size) in
      let is : x.0.0 ≡ byte = eqb-true x.0.0 byte (not_not (eqb x.0.0 byte) fine.0) in
      (subst (λ n. Here b at (byte ∷ []) n) place (subst (λ (x' : ℕ). Here b at (x' ∷ []) x.0.1) is h0), subst (λ n. f n ≡ Ok y) place fine.1)

-- ---- names

pub bytes_tell : Tells (SpellsVector SpellsByte) (vector_at byte_at)
bytes_tell = vector_tells SpellsByte byte_at byte_tells

abbrev utf8_then : ℕ → List ℕ × ℕ → Read (List ℕ)
utf8_then at name = refuse_if (not (is_utf8 name.0)) (Utf8 at) >>= λ fine. Ok name

pub name_tells : Tells SpellsName name_at
unfolding name_at
name_tells = record { again = again; here = here }
  where
    again : (b : List ℕ) (at next : ℕ) (name text : List ℕ) → SpellsName name text → Here b at text next → name_at b at ≡ Ok (name, next)
    again b at next name text s h =
        let made : List ℕ × ℕ = (name, next) in
        step (SpellsVector SpellsByte) (vector_at byte_at) bytes_tell b at next name text (utf8_then at) s.1 h
        ∙ goes_past (not (is_utf8 name)) (Utf8 at) (λ fine. Ok made) (ap not (is_utf8-from_IsUtf8 name s.0))

    here : (b : List ℕ) → IsBytes b → (at next : ℕ) (name : List ℕ) → at ≤ length b → name_at b at ≡ Ok (name, next) → (text : List ℕ) × Here b at text next × SpellsName name text
    here b fits at next name le e =
        let x = bind_ok (vector_at byte_at b at) (utf8_then at) (name, next) e in
        let fine = not_refused (not (is_utf8 x.0.0)) (Utf8 at) (λ fine. Ok x.0) (name, next) x.2 in
        let h = bytes_tell.here b fits at x.0.1 x.0.0 le x.1 in
        subst (λ (p : List ℕ × ℕ). (text : List ℕ) × Here b at text p.1 × SpellsName p.0 text) (ok_is x.0 (name, next) fine.1)
        (h.0, h.1, (IsUtf8-from_is_utf8 x.0.0 (not_not (is_utf8 x.0.0) fine.0), h.2))

-- ---- function types

pub types_tell : Tells (SpellsVector SpellsType) (vector_at type_at)
types_tell = vector_tells SpellsType type_at type_tells

abbrev made_type : List ValType → List ValType × ℕ → Read FuncType
made_type params results = Ok (record { params = params; results = results.0 }, results.1)

abbrev params_then : List ℕ → ℕ → Read FuncType
params_then b at = vector_at type_at b at >>= λ params. vector_at type_at b params.1 >>= made_type params.0

pub func_type_tells : Tells SpellsFuncType func_type_at
unfolding func_type_at
func_type_tells = record { again = again; here = here }
  where
    again : (b : List ℕ) (at next : ℕ) (f : FuncType) (text : List ℕ) → SpellsFuncType f text → Here b at text next → func_type_at b at ≡ Ok (f, next)
    again b at next f text s h =
        let k = same_text b at next text (0x60 ∷ s.0) s.1 h in
        let t = s.2 in
        let k1 = same_text b (at + 1) next s.0 (t.0 ++ t.1) t.2 (byte_rest b at next 0x60 s.0 k) in
        let mid = at + 1 + length t.0 in
        checked_again b at 0x60 (Form at) (params_then b) next s.0 k
        ∙ step (SpellsVector SpellsType) (vector_at type_at) types_tell b (at + 1) mid f.params t.0 (λ params. vector_at type_at b params.1 >>= made_type params.0) t.3 (here_first b (at + 1) next t.0 t.1 k1)
        ∙ step (SpellsVector SpellsType) (vector_at type_at) types_tell b mid next f.results t.1 (made_type f.params) t.4 (here_second b (at + 1) next t.0 t.1 k1)

    here : (b : List ℕ) → IsBytes b → (at next : ℕ) (f : FuncType) → at ≤ length b → func_type_at b at ≡ Ok (f, next) → (text : List ℕ) × Here b at text next × SpellsFuncType f text
    here b fits at next f le e =
        let form = checked_here b at 0x60 (Form at) (params_then b) (f, next) e in
        let params = bind_ok (vector_at type_at b (at + 1)) (λ params. vector_at type_at b params.1 >>= made_type params.0) (f, next) form.1 in
        let results = bind_ok (vector_at type_at b params.0.1) (made_type params.0.0) (f, next) params.2 in
        let h1 = types_tell.here b fits (at + 1) params.0.1 params.0.0 form.0.within params.1 in
        let h2 = types_tell.here b fits params.0.1 results.0.1 results.0.0 h1.1.within results.1 in
        let made : FuncType × ℕ = (record { params = params.0.0; results = results.0.0 }, results.0.1) in
        let rest = h1.0 ++ h2.0 in
        subst (λ (p : FuncType × ℕ). (text : List ℕ) × Here b at text p.1 × SpellsFuncType p.0 text) (ok_is made (f, next) results.2)
        (0x60 ∷ rest, here_join b at (at + 1) results.0.1 (0x60 ∷ []) rest form.0 (here_join b (at + 1) params.0.1 results.0.1 h1.0 h2.0 h1.1 h2.1), (rest, refl, (h1.0, h2.0, refl, h1.2, h2.2)))

-- ---- limits

module _ (most : ℕ) where
  abbrev made_limits : ℕ → Option ℕ × ℕ → Read Limits
  made_limits min max = Ok (record { min = min; max = max.0 }, max.1)

  abbrev min_then : List ℕ → ℕ → ℕ → ℕ × ℕ → Read Limits
  min_then b flag place min = refuse_if (nat_lt most min.0) (Limit place) >>= λ fine. max_at flag b min.1 >>= made_limits min.0

  abbrev flag_then : List ℕ → ℕ → ℕ × ℕ → Read Limits
  flag_then b at flag = refuse_if (nat_lt 1 flag.0) (Form at) >>= λ form. u32_at b flag.1 >>= min_then b flag.0 flag.1

  min_again : (b : List ℕ) (flag place p : ℕ) (min : ℕ) → min ≤ most → min_then b flag place (min, p) ≡ max_at flag b p >>= made_limits min
  min_again b flag place p min small = goes_past (nat_lt most min) (Limit place) (λ fine. max_at flag b p >>= made_limits min) (le-ltb most min small)

  limits_again : (b : List ℕ) (at next min : ℕ) (max : Option ℕ) (text : List ℕ) → min ≤ most → SpellsSizes min max text → Here b at text next
      → byte_at b at >>= flag_then b at ≡ Ok (record { min = min; max = max }, next)
  limits_again b at next min None text small s h =
      let k = same_text b at next text (0x00 ∷ s.0) s.1 h in
      ap (λ r. r >>= flag_then b at) (byte_again b at next 0x00 s.0 k)
      ∙ step SpellsU32 u32_at u32_tells b (at + 1) next min s.0 (min_then b 0x00 (at + 1)) s.2 (byte_rest b at next 0x00 s.0 k)
      ∙ min_again b 0x00 (at + 1) next min small
  limits_again b at next min (Some max) text small s h =
      let k = same_text b at next text (0x01 ∷ s.0) s.1 h in
      let t = s.2 in
      let k1 = same_text b (at + 1) next s.0 (t.0 ++ t.1) t.2 (byte_rest b at next 0x01 s.0 k) in
      let mid = at + 1 + length t.0 in
      ap (λ r. r >>= flag_then b at) (byte_again b at next 0x01 s.0 k)
      ∙ step SpellsU32 u32_at u32_tells b (at + 1) mid min t.0 (min_then b 0x01 (at + 1)) t.3 (here_first b (at + 1) next t.0 t.1 k1)
      ∙ min_again b 0x01 (at + 1) mid min small
      ∙ ap (λ r. mapped (λ max. Some max) r >>= made_limits min) (u32_tells.again b mid next max t.1 t.4 (here_second b (at + 1) next t.0 t.1 k1))

  -- behind the least size
  max_here : (b : List ℕ) → IsBytes b → (flag min place at next : ℕ) (max : Option ℕ) (text : List ℕ) → flag ≤ 1 → SpellsU32 min text → Here b place text at → max_at flag b at ≡ Ok (max, next)
      → (rest : List ℕ) × Here b place rest next × SpellsSizes min max (flag ∷ rest)
  max_here b fits zero min place at next max text small s h e =
      let none : Option ℕ × ℕ = (None, at) in
      subst (λ (p : Option ℕ × ℕ). (rest : List ℕ) × Here b place rest p.1 × SpellsSizes min p.0 (0 ∷ rest)) (ok_is none (max, next) e) (text, h, (text, refl, s))
  max_here b fits (suc zero) min place at next max text small s h e =
      let m = mapped_ok (λ max. Some max) (u32_at b at) max next e in
      let h2 = u32_tells.here b fits at next m.0 h.within m.1 in
      subst (λ (max : Option ℕ). (rest : List ℕ) × Here b place rest next × SpellsSizes min max (1 ∷ rest)) (sym m.2)
      (text ++ h2.0, here_join b place at next text h2.0 h h2.1, (text ++ h2.0, refl, (text, h2.0, refl, s, h2.2)))
  max_here b fits (suc (suc n)) min place at next max text small s h e = absurd (omega arith)

  pub limits_tell : Tells (SpellsLimits most) (limits_at most)
  unfolding limits_at
  limits_tell = record { again = again; here = here }
    where
      again : (b : List ℕ) (at next : ℕ) (l : Limits) (text : List ℕ) → SpellsLimits most l text → Here b at text next → limits_at most b at ≡ Ok (l, next)
      again b at next l text s h = limits_again b at next l.min l.max text s.0 s.1 h

      here : (b : List ℕ) → IsBytes b → (at next : ℕ) (l : Limits) → at ≤ length b → limits_at most b at ≡ Ok (l, next) → (text : List ℕ) × Here b at text next × SpellsLimits most l text
      here b fits at next l le e =
          let flag = bind_ok (byte_at b at) (flag_then b at) (l, next) e in
          let form = not_refused (nat_lt 1 flag.0.0) (Form at) (λ form. u32_at b flag.0.1 >>= min_then b flag.0.0 flag.0.1) (l, next) flag.2 in
          let min = bind_ok (u32_at b flag.0.1) (min_then b flag.0.0 flag.0.1) (l, next) form.1 in
          let fine = not_refused (nat_lt most min.0.0) (Limit flag.0.1) (λ fine. max_at flag.0.0 b min.0.1 >>= made_limits min.0.0) (l, next) min.2 in
          let max = bind_ok (max_at flag.0.0 b min.0.1) (made_limits min.0.0) (l, next) fine.1 in
          let h0 = byte_here b at flag.0.1 flag.0.0 flag.1 in
          let h1 = u32_tells.here b fits flag.0.1 min.0.1 min.0.0 h0.within min.1 in
          let x = max_here b fits flag.0.0 min.0.0 flag.0.1 min.0.1 max.0.1 max.0.0 h1.0 (ltb-false 1 flag.0.0 form.0) h1.2 h1.1 max.1 in
          let made : Limits × ℕ = (record { min = min.0.0; max = max.0.0 }, max.0.1) in
          subst (λ (p : Limits × ℕ). (text : List ℕ) × Here b at text p.1 × SpellsLimits most p.0 text) (ok_is made (l, next) max.2)
          (flag.0.0 ∷ x.0, here_join b at flag.0.1 max.0.1 (flag.0.0 ∷ []) x.0 h0 x.1, (ltb-false most min.0.0 fine.0, x.2))

pub memory_tells : Tells SpellsMemory memory_at
memory_tells = limits_tell most_pages

pub table_tells : Tells SpellsTable table_at
unfolding table_at
table_tells = record { again = again; here = here }
  where
    limits : Tells (SpellsLimits most_entries) (limits_at most_entries)
    limits = limits_tell most_entries

    again : (b : List ℕ) (at next : ℕ) (l : Limits) (text : List ℕ) → SpellsTable l text → Here b at text next → table_at b at ≡ Ok (l, next)
    again b at next l text s h =
        let k = same_text b at next text (0x70 ∷ s.0) s.1 h in
        checked_again b at 0x70 (Form at) (limits_at most_entries b) next s.0 k
        ∙ limits.again b (at + 1) next l s.0 s.2 (byte_rest b at next 0x70 s.0 k)

    here : (b : List ℕ) → IsBytes b → (at next : ℕ) (l : Limits) → at ≤ length b → table_at b at ≡ Ok (l, next) → (text : List ℕ) × Here b at text next × SpellsTable l text
    here b fits at next l le e =
        let form = checked_here b at 0x70 (Form at) (limits_at most_entries b) (l, next) e in
        let x = limits.here b fits (at + 1) next l form.0.within form.1 in
        (0x70 ∷ x.0, here_join b at (at + 1) next (0x70 ∷ []) x.0 form.0 x.1, (x.0, refl, x.2))
