-- Bodies: what is spelled is read, and what is read is spelled.
use Rattle.module_specs.proofs.Readers.{Tells, fills_of, sized_tells}
use Rattle.module_specs.specs.Spelling.{SpellsSized}
use Rattle.module_specs.specs.Reading.{sized_at}
use Rattle.std.proofs.Common.{◌≡◌, ℕ, zero, suc, ◌+◌, ◌-◌, ◌≤◌, false, List, [], ◌∷◌, ◌++◌, length, take, drop, replicate, Result, Ok, Err, refl, sym, ap, subst, ◌∙◌, arith, length-append}
use Rattle.std.specs.Prelude.{nat_lt}
use Rattle.std.proofs.lemmas.Bool.{ltb-false, le-ltb}
use Rattle.std.proofs.lemmas.List.{append-nil, length-replicate}
use Rattle.leb_bytes.proofs.Spelled.{IsBytes}
use Rattle.leb_bytes.specs.Spelling.{SpellsUnsigned}
use Rattle.wasm_types.specs.declared.instr.ValType.{ValType}
use Rattle.wasm_types.specs.declared.module.Func.{Func}
use Rattle.wasm_types.specs.Nested.{Code}
use Rattle.wasm_types.specs.Modules.{NestedFunc, flat_func}
use Rattle.module_specs.specs.declared.fault.Fault.{Fault}
use Rattle.module_specs.specs.declared.fault.Fault.TheVariants.{Limit, Size, Short}
use Rattle.wasm_code.specs.Flat.{flat_read}
use Rattle.wasm_code.proofs.Codes.{code_again}
use Rattle.wasm_code.proofs.Found.{code_here}
use Rattle.wasm_code.proofs.Runs.{before_run}
use Rattle.module_specs.specs.Reading.{Read, ◌>>=◌, refuse_if, Gives, u32_at, type_at}
use Rattle.module_specs.specs.CodeReading.{code_at, runs_at, locals_at, content_at, body_at}
use Rattle.module_specs.specs.CodeSpelling.{most_locals, SpellsRun, SpellsLocals, SpellsContent, SpellsBody, locals_of}
use Rattle.module_specs.specs.Spelling.{Here, type_byte, SpellsEach}
use Rattle.module_specs.proofs.Places.{not_refused, goes_past, bind_ok, ok_is, nothing_here, here_first, here_second, here_join, same_text, u32_again, u32_here}
use Rattle.module_specs.proofs.ValueTypes.{type_again, type_here}
use Rattle.module_specs.proofs.Regions.{take_fits, region_size, narrow, widen}

module _ (body : ℕ) (b : List ℕ) where
  -- ---- locals

  runs_again : (runs : List (ℕ × ValType)) (room at next : ℕ) (text : List ℕ) → length (locals_of runs) ≤ room → at ≤ length b
      → SpellsEach SpellsRun runs text → Here b at text next → runs_at body b room (length runs) at ≡ Ok (locals_of runs, next)
  unfolding runs_at
  runs_again [] room at next text le within s h =
      let n : at ≡ next = sym (omega (arith, h.size, ap length s)) in
      ap (λ (n : ℕ). Ok ([], n)) n
  runs_again (run ∷ runs) room at next text le within s h =
      let one = s.0 in
      let two = s.1 in
      let k = same_text b at next text (one ++ two) s.2 h in
      let mid = at + length one in
      let h1 = here_first b at next one two k in
      let h2 = here_second b at next one two k in
      let t = s.3 in
      let k1 = same_text b at mid one (t.0 ++ t.1) t.2 h1 in
      let p = at + length t.0 in
      let h3 = here_first b at mid t.0 t.1 k1 in
      let h4 = same_text b p mid t.1 (type_byte run.1 ∷ []) t.4 (here_second b at mid t.0 t.1 k1) in
      let sizes = length-append (replicate run.0 run.1) (locals_of runs) in
      let size = length-replicate run.0 run.1 in
      let fine : nat_lt room run.0 ≡ false = le-ltb room run.0 (omega arith) in
      let m : p + 1 ≡ mid = omega (arith, h4.size) in
      let others = runs_again runs (room - run.0) mid next two (omega arith) (omega (arith, h1.within)) s.4 h2 in
      ap (λ r. r >>= λ count. refuse_if (nat_lt room count.0) (Limit body) >>= λ fine. type_at b count.1 >>= λ type. runs_at body b
      (room - count.0) (length runs) type.1 >>= before_run count.0 type.0) (u32_again b at p run.0 t.0 t.3 h3)
      ∙ goes_past (nat_lt room run.0) (Limit body) (λ fine. type_at b p >>= λ type. runs_at body b (room - run.0) (length runs) type.1 >>=
      before_run run.0 type.0) fine
      ∙ ap (λ r. r >>= λ type. runs_at body b (room - run.0) (length runs) type.1 >>= before_run run.0 type.0)
      (type_again b p mid run.1 [] h4)
      ∙ ap (λ n. runs_at body b (room - run.0) (length runs) n >>= before_run run.0 run.1) m
      ∙ ap (λ r. r >>= before_run run.0 run.1) others

  locals_again : (locals : List ValType) (at next : ℕ) (text : List ℕ) → SpellsLocals locals text → Here b at text next
      → locals_at body b at ≡ Ok (locals, next)
  unfolding locals_at
  locals_again locals at next text s h =
      let runs = s.0 in
      let t = s.3 in
      let k = same_text b at next text (t.0 ++ t.1) t.2 h in
      let p = at + length t.0 in
      let h1 = here_first b at next t.0 t.1 k in
      ap (λ r. r >>= λ count. runs_at body b most_locals count.0 count.1) (u32_again b at p (length runs) t.0 t.3 h1)
      ∙ runs_again runs most_locals p next t.1 (subst (λ l. length l ≤ 4096) s.1 s.2) h1.within t.4 (here_second b at next t.0 t.1 k)
      ∙ ap (λ l. Ok (l, next)) (sym s.1)

  abbrev RunsHere : ℕ → ℕ → ℕ → ℕ → List ValType → Type 0
  RunsHere room n at next locals =
      (runs : List (ℕ × ValType)) × (text : List ℕ) × (locals ≡ locals_of runs) × (length locals ≤ room) × (length runs ≡ n) × Here b at
      text next × SpellsEach SpellsRun runs text

  module _ (fits : IsBytes b) where
    runs_here : (n room at next : ℕ) (locals : List ValType) → at ≤ length b → runs_at body b room n at ≡ Ok (locals, next)
        → RunsHere room n at next locals
    unfolding runs_at
    runs_here zero room at next locals le e =
        let made : List ValType × ℕ = ([], at) in
        let same = ok_is made (locals, next) e in
        let none : [] ≡ locals = ap (λ (p : List ValType × ℕ). p.0) same in
        let place : at ≡ next = ap (λ (p : List ValType × ℕ). p.1) same in
        let small : length locals ≤ room = subst (λ l. length l ≤ room) none (omega arith) in
        ([], [], sym none, small, refl, subst (Here b at []) place (nothing_here b at le), refl)
    runs_here (suc n) room at next locals le e =
        let count = bind_ok (u32_at b at) (λ count. refuse_if (nat_lt room count.0) (Limit body) >>= λ fine. type_at b count.1 >>= λ type.
        runs_at body b (room - count.0) n type.1 >>= before_run count.0 type.0) (locals, next) e in
        let c = count.0.0 in
        let fine = not_refused (nat_lt room c) (Limit body) (λ fine. type_at b count.0.1 >>= λ type. runs_at body b (room - c) n type.1 >>=
        before_run c type.0) (locals, next) count.2 in
        let type = bind_ok (type_at b count.0.1) (λ type. runs_at body b (room - c) n type.1 >>= before_run c type.0) (locals, next) fine.1
        in
        let rest = bind_ok (runs_at body b (room - c) n type.0.1) (before_run c type.0.0) (locals, next) type.2 in
        let h1 = u32_here b fits at count.0.1 c le count.1 in
        let h2 = type_here b count.0.1 type.0.1 type.0.0 type.1 in
        let x = runs_here n (room - c) type.0.1 rest.0.1 rest.0.0 h2.within rest.1 in
        let made : List ValType × ℕ = (replicate c type.0.0 ++ rest.0.0, rest.0.1) in
        let same = ok_is made (locals, next) rest.2 in
        let is_locals : replicate c type.0.0 ++ rest.0.0 ≡ locals = ap (λ (p : List ValType × ℕ). p.0) same in
        let place : rest.0.1 ≡ next = ap (λ (p : List ValType × ℕ). p.1) same in
        let enough : c ≤ room = ltb-false room c fine.0 in
        let sizes : length locals ≤ room = subst (λ l. length l ≤ room) is_locals
        (omega (arith, length-append (replicate c type.0.0) rest.0.0, length-replicate c type.0.0, x.3)) in
        let one_text = h1.0 ++ type_byte type.0.0 ∷ [] in
        let one_here = here_join b at count.0.1 type.0.1 h1.0 (type_byte type.0.0 ∷ []) h1.1 h2 in
        let run : ℕ × ValType = (c, type.0.0) in (
          run ∷ x.0,
          one_text ++ x.1,
          sym is_locals ∙ ap (λ l. replicate c type.0.0 ++ l) x.2,
          sizes,
          ap suc x.4,
          subst (Here b at (one_text ++ x.1)) place (here_join b at type.0.1 rest.0.1 one_text x.1 one_here x.5),
          (one_text, x.1, refl, (h1.0, type_byte type.0.0 ∷ [], refl, h1.2, refl), x.6),
        )

    locals_here : (at next : ℕ) (locals : List ValType) → at ≤ length b → locals_at body b at ≡ Ok (locals, next)
        → (text : List ℕ) × Here b at text next × SpellsLocals locals text
    unfolding locals_at
    locals_here at next locals le e =
        let count = bind_ok (u32_at b at) (λ count. runs_at body b most_locals count.0 count.1) (locals, next) e in
        let h = u32_here b fits at count.0.1 count.0.0 le count.1 in
        let x = runs_here count.0.0 most_locals count.0.1 next locals h.1.within count.2 in (
          h.0 ++ x.1,
          here_join b at count.0.1 next h.0 x.1 h.1 x.5,
          (x.0, x.2, x.3, (h.0, x.1, refl, subst (SpellsUnsigned 32 h.0) (sym x.4) h.2, x.6)),
        )

  -- ---- the content of a body

  abbrev finish : ℕ → List ValType → Code × ℕ → Read NestedFunc
  finish ty locals code = Ok (record { ty = ty; locals = locals; code = code.0 }, code.1)

  content_again : (f : NestedFunc) (at next : ℕ) (text : List ℕ) → SpellsContent f text → Here b at text next
      → content_at f.ty body b at ≡ Ok (f, next)
  unfolding content_at
  content_again f at next text s h =
      let k = same_text b at next text (s.0 ++ s.1) s.2 h in
      let mid = at + length s.0 in
      ap (λ r. r >>= λ locals. code_at b locals.1 >>= finish f.ty locals.0)
      (locals_again f.locals at mid s.0 s.3 (here_first b at next s.0 s.1 k))
      ∙ ap (λ r. r >>= finish f.ty f.locals) (code_again b f.code s.1 mid next s.4 (here_second b at next s.0 s.1 k))

  content_here : IsBytes b → (ty at next : ℕ) (f : NestedFunc) → at ≤ length b → content_at ty body b at ≡ Ok (f, next)
      → (text : List ℕ) × Here b at text next × (f.ty ≡ ty) × SpellsContent f text
  unfolding content_at
  content_here fits ty at next f le e =
      let locals = bind_ok (locals_at body b at) (λ locals. code_at b locals.1 >>= finish ty locals.0) (f, next) e in
      let code = bind_ok (code_at b locals.0.1) (finish ty locals.0.0) (f, next) locals.2 in
      let made : NestedFunc × ℕ = (record { ty = ty; locals = locals.0.0; code = code.0.0 }, code.0.1) in
      let same = ok_is made (f, next) code.2 in
      let h1 = locals_here fits at locals.0.1 locals.0.0 le locals.1 in
      let h2 = code_here b fits code.0.0 code.0.1 locals.0.1 code.1 in
      subst (λ (p : NestedFunc × ℕ). (text : List ℕ) × Here b at text p.1 × (p.0.ty ≡ ty) × SpellsContent p.0 text) same
      (h1.0 ++ h2.0, here_join b at locals.0.1 code.0.1 h1.0 h2.0 h1.1 h2.1, refl, (h1.0, h2.0, refl, h1.2, h2.2))

-- ---- bodies

-- the content of a function of this type
abbrev pub OfType : ℕ → NestedFunc → List ℕ → Type 0
OfType ty f text = (f.ty ≡ ty) × SpellsContent f text

pub content_tells : (ty body : ℕ) → Tells (OfType ty) (content_at ty body)
content_tells ty body = record {
  again = λ b at next f text s h. subst (λ t. content_at t body b at ≡ Ok (f, next)) s.0 (content_again body b f at next text s.1 h);
  here = λ b fits at next f le e. let x = content_here body b fits ty at next f le e in (x.0, x.1, (x.2, x.3));
}

module _ (b : List ℕ) where
  sized : (ty at : ℕ) → Tells (SpellsSized (OfType ty)) (sized_at (λ end. Short (length b)) (Size at) (content_at ty at))
  sized ty at =
      sized_tells (OfType ty) (content_at ty at) (fills_of (OfType ty) (content_at ty at) (content_tells ty at)) (λ end. Short (length b))
      (Size at)

  pub body_again : (f : NestedFunc) (at next : ℕ) (text : List ℕ) → SpellsBody f text → Here b at text next
      → body_at f.ty b at ≡ Ok (f, next)
  unfolding body_at
  body_again f at next text s h = (sized f.ty at).again b at next f text (s.0, s.1, s.2, s.3, (refl, s.4)) h

  pub body_here : IsBytes b → (ty at next : ℕ) (f : NestedFunc) → at ≤ length b → body_at ty b at ≡ Ok (f, next)
      → (text : List ℕ) × Here b at text next × (f.ty ≡ ty) × SpellsBody f text
  unfolding body_at
  body_here fits ty at next f le e =
      let x = (sized ty at).here b fits at next f le e in
      let s = x.2 in
      (x.0, x.1, s.4.0, (s.0, s.1, s.2, s.3, s.4.1))

pub whole_here : (text : List ℕ) → Here text 0 text (length text)
whole_here text = record {
  whole = sym (ap (λ l. text ++ l) (nothing_left text) ∙ append-nil text);
  size = omega arith;
  within = omega arith;
}
  where
    nothing_left : (l : List ℕ) → drop (length l) l ≡ []
    nothing_left [] = refl
    nothing_left (x ∷ l) = nothing_left l

-- a text is the body of one function
pub one_function : (one two : NestedFunc) (text : List ℕ) → one.ty ≡ two.ty → SpellsBody one text → SpellsBody two text → one ≡ two
one_function one two text same s t =
    let first : body_at one.ty text 0 ≡ Ok (one, length text) = body_again text one 0 (length text) text s (whole_here text) in
    let second : body_at two.ty text 0 ≡ Ok (two, length text) = body_again text two 0 (length text) text t (whole_here text) in
    ap (λ (p : NestedFunc × ℕ). p.0) (ok_is (one, length text) (two, length text) (sym first ∙ ap (λ t. body_at t text 0) same ∙ second))

-- ---- as the reader's contract says it

module _ (b : List ℕ) (end at ty : ℕ) (inside : end ≤ length b) where
  pub is_found : IsBytes b → at ≤ end → (p : Func × ℕ) → flat_read (body_at ty (take end b) at) ≡ Ok p
      → (f : NestedFunc) × (text : List ℕ) × (p.0 ≡ flat_func f) × (f.ty ≡ ty) × (p.1 ≤ end) × Here b at text p.1 × SpellsBody f text
  is_found fits le p given = by_read (body_at ty (take end b) at) refl given
    where
      by_read : (read : Read NestedFunc) → body_at ty (take end b) at ≡ read → flat_read read ≡ Ok p
          → (f : NestedFunc) × (text : List ℕ) × (p.0 ≡ flat_func f) × (f.ty ≡ ty) × (p.1 ≤ end) × Here b at text p.1 × SpellsBody f text
      by_read (Err e) is given = absurd cc
      by_read (Ok q) is given =
          let made : Func × ℕ = (flat_func q.0, q.1) in
          let same = ok_is made p given in
          let size = region_size b end inside in
          let x = body_here (take end b) (take_fits end b fits) ty at q.1 q.0 (omega arith) is in
          subst (λ (p : Func × ℕ). (f : NestedFunc) × (text : List ℕ) × (p.0 ≡ flat_func f) × (f.ty ≡ ty) × (p.1 ≤ end) × Here b at text p.1
          × SpellsBody f text) same
          (q.0, x.0, refl, x.2, omega (arith, x.1.within), widen b end inside at q.1 x.0 x.1, x.3)

  pub is_read : (r : Result (Func × ℕ) Fault) → Gives (λ p. p) r (flat_read (body_at ty (take end b) at))
      → (f : NestedFunc) (text : List ℕ) (next : ℕ) → f.ty ≡ ty → next ≤ end → Here b at text next → SpellsBody f text
      → Gives (λ p. p) r (Ok (flat_func f, next))
  is_read r given f text next same le h s =
      let again : body_at ty (take end b) at ≡ Ok (f, next) = subst (λ t. body_at t (take end b) at ≡ Ok (f, next)) same
      (body_again (take end b) f at next text s (narrow b end inside at next text le h)) in
      subst (Gives (λ p. p) r) (ap flat_read again) given
