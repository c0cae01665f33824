-- Reading sections one after the other, as a loop does, and the module that they make.
use Rattle.std.proofs.Common.{◌≡◌, ℕ, zero, suc, ◌-◌, ◌+◌, ◌≤◌, ◌<◌, Bool, true, false, not, cond, eqb, ◌&&◌, List, [], ◌∷◌, length, drop, Some, Result, Ok, Err, refl, sym, ap, subst, ◌∙◌, arith}
use Rattle.std.specs.Prelude.{nat_lt, nat_le}
use Rattle.std.proofs.lemmas.Bool.{lt-ltb, le-ltb}
use Rattle.std.proofs.lemmas.List.{length-map, length-take, length-drop}
use Rattle.wasm_types.specs.declared.module.Module.{Module}
use Rattle.wasm_types.specs.Modules.{NestedModule, flat_func, flat_module}
use Rattle.module_specs.specs.declared.fault.Fault.{Fault}
use Rattle.module_specs.specs.declared.fault.Fault.TheVariants as fault
use Rattle.module_specs.specs.declared.section.SectionKind.{SectionKind}
use Rattle.module_specs.specs.declared.section.SectionKind.TheVariants as kind
use Rattle.module_specs.specs.ModuleSpelling.{Section, Custom, Types, Imports, Funcs, Tables, Memories, Globals, Exports, Start, Elements, Codes, Datas, id_byte, Before, start, after, put_all, empty, module_of, declared, magic, version}
use Rattle.module_specs.specs.Reading.{Read, ◌>>=◌, refuse_if, Fails, Gives}
use Rattle.module_specs.specs.ModuleReading.{falls, section_at, sections_at, with_section, lacks_bodies, rest_at, differs}
use Rattle.module_specs.proofs.Places.{ok_is}
use Rattle.module_specs.proofs.Loops.{fails_of}
use Rattle.module_specs.proofs.Modules.{same_bytes}
use Rattle.wasm_code.proofs.Tokens.{gives_same}
use Rattle.wasm_reader.specs.declared.content.Part.{Part}
use Rattle.wasm_reader.specs.declared.content.Sofar.{Sofar}
use Rattle.wasm_reader.specs.Flat.{flat_section, flat_part, flat_whole, before_of, with_part, with_all, nothing, ends_in, finished}

-- no id but 0 may stand behind a greater one or itself
pub falls_is : (last : ℕ) (k : SectionKind) → falls last k ≡ (nat_lt 0 (id_byte k) && nat_le (id_byte k) last)
falls_is last kind.Custom = refl
falls_is last kind.Type = refl
falls_is last kind.Import = refl
falls_is last kind.Function = refl
falls_is last kind.Table = refl
falls_is last kind.Memory = refl
falls_is last kind.Global = refl
falls_is last kind.Export = refl
falls_is last kind.Start = refl
falls_is last kind.Element = refl
falls_is last kind.Code = refl
falls_is last kind.Data = refl

-- ---- sections

abbrev sections_then : ℕ → Before → List ℕ → Section × ℕ → Read (List Section)
sections_then n s b x = sections_at n (after x.0 s) b x.1 >>= with_section x.0

put_first : (p : Sofar) (x : Section) (r : Read (List Section)) → ends_in p (r >>= with_section x) ≡ ends_in (with_part (flat_section x) p)
    r
put_first p x (Ok xs) = refl
put_first p x (Err e) = refl

still_before : (p : Sofar) (x : Section) → after x (before_of p) ≡ before_of (with_part (flat_section x) p)
still_before p Custom = refl
still_before p (Types types) = refl
still_before p Imports = refl
still_before p (Funcs indices) = refl
still_before p (Tables tables) = refl
still_before p (Memories memories) = refl
still_before p (Globals globals) = refl
still_before p (Exports exports) = refl
still_before p (Start func) = refl
still_before p (Elements elements) = refl
still_before p (Codes funcs) = refl
still_before p (Datas datas) = refl

part_is : (r : Read Section) (y : Part) (next : ℕ) → flat_part r ≡ Ok (y, next) → (x : Section) × (r ≡ Ok (x, next)) × (flat_section x ≡ y)
part_is (Err e) y next h = absurd cc
part_is (Ok p) y next h =
    let made : Part × ℕ = (flat_section p.0, p.1) in
    let same = ok_is made (y, next) h in
    let place : p.1 ≡ next = ap (λ (q : Part × ℕ). q.1) same in
    (p.0, ap (λ (n : ℕ). Ok (p.0, n)) place, ap (λ (q : Part × ℕ). q.0) same)

part_fails : (r : Read Section) (e : Fault) (f : Section × ℕ → Read (List Section)) (p : Sofar) → Fails e (flat_part r)
    → Fails e (ends_in p (r >>= f))
part_fails r fault.Memory f p h = tt
part_fails r e f p h = fails_of e (ends_in p (r >>= f)) (ap (λ r. ends_in p (r >>= f)) (is_err r h))
  where
    is_err : (r : Read Section) → flat_part r ≡ Err e → r ≡ Err e
    is_err (Ok x) h = absurd cc
    is_err (Err d) h = let same : d ≡ e = cc in ap (λ d. Err d) same

module _ (b : List ℕ) (p : Sofar) (left i place : ℕ) (total : Result Sofar Fault) where
  one_more : i < left → place < length b → sections_at (left - i) (before_of p) b place ≡ section_at (before_of p) b place >>= sections_then
      (left - (i + 1)) (before_of p) b
  unfolding sections_at
  one_more lt within =
      let k : left - i ≡ suc (left - (i + 1)) = omega arith in
      let made : List Section × ℕ = ([], place) in
      ap (λ n. sections_at n (before_of p) b place) k
      ∙ ap (λ t. cond t (section_at (before_of p) b place >>= sections_then (left - (i + 1)) (before_of p) b) (Ok made))
      (lt-ltb place (length b) within)

  goes_on : (y : Part) (next : ℕ) → i < left → place < length b → flat_part (section_at (before_of p) b place) ≡ Ok (y, next)
      → ends_in p (sections_at (left - i) (before_of p) b place) ≡ total
      → ends_in (with_part y p) (sections_at (left - (i + 1)) (before_of (with_part y p)) b next) ≡ total
  goes_on y next lt within h so_far =
      let x = part_is (section_at (before_of p) b place) y next h in
      let n = left - (i + 1) in
      subst (λ y. ends_in (with_part y p) (sections_at n (before_of (with_part y p)) b next) ≡ total) x.2
      (sym (ap (λ s. ends_in (with_part (flat_section x.0) p) (sections_at n s b next)) (still_before p x.0))
      ∙ sym (put_first p x.0 (sections_at n (after x.0 (before_of p)) b next))
      ∙ sym (ap (ends_in p) (one_more lt within ∙ ap (λ r. r >>= sections_then n (before_of p) b) x.1))
      ∙ so_far)

  pub ends : (e : Fault) → i < left → place < length b → Fails e (flat_part (section_at (before_of p) b place))
      → ends_in p (sections_at (left - i) (before_of p) b place) ≡ total → Fails e total
  ends e lt within h so_far =
      subst (Fails e) (sym (ap (ends_in p) (one_more lt within)) ∙ so_far)
      (part_fails (section_at (before_of p) b place) e (sections_then (left - (i + 1)) (before_of p) b) p h)

  pub at_end : length b ≤ place → ends_in p (sections_at (left - i) (before_of p) b place) ≡ total → total ≡ Ok p
  unfolding sections_at
  at_end past so_far = sym so_far ∙ ap (ends_in p) (none (left - i))
    where
      made : List Section × ℕ
      made = ([], place)

      none : (n : ℕ) → sections_at n (before_of p) b place ≡ Ok made
      none zero = refl
      none (suc n) = ap (λ t. cond t (section_at (before_of p) b place >>= sections_then n (before_of p) b) (Ok made))
          (le-ltb place (length b) past)

  pub runs_out : left ≤ i → ends_in p (sections_at (left - i) (before_of p) b place) ≡ total → total ≡ Ok p
  unfolding sections_at
  runs_out past so_far =
      let k : left - i ≡ 0 = omega arith in
      sym so_far ∙ ap (λ n. ends_in p (sections_at n (before_of p) b place)) k

pub put_on : (b : List ℕ) (p q : Sofar) (left i place : ℕ) (total : Result Sofar Fault) (y : Part) (next : ℕ) → q ≡ with_part y p → i < left
    → place < length b
    → flat_part (section_at (before_of p) b place) ≡ Ok (y, next) → ends_in p (sections_at (left - i) (before_of p) b place) ≡ total
    → ends_in q (sections_at (left - (i + 1)) (before_of q) b next) ≡ total
put_on b p q left i place total y next is lt within h so_far =
    subst (λ (q : Sofar). ends_in q (sections_at (left - (i + 1)) (before_of q) b next) ≡ total) (sym is)
    (goes_on b p left i place total y next lt within h so_far)

-- ---- the module

-- what was read, where these sections made it
abbrev sofar_of : SectionKind → List ℕ → NestedModule → Sofar
sofar_of last indices m = record { last = last; indices = indices; made = flat_module m }

all_put : (xs : List Section) (last : SectionKind) (indices : List ℕ) (m : NestedModule)
    → (k : SectionKind) × (with_all xs (sofar_of last indices m) ≡ sofar_of k (declared xs indices) (put_all xs m))
all_put [] last indices m = (last, refl)
all_put (Custom ∷ xs) last indices m = all_put xs last indices m
all_put (Types types ∷ xs) last indices m = all_put xs kind.Type indices (record m { types = types })
all_put (Imports ∷ xs) last indices m = all_put xs kind.Import indices m
all_put (Funcs declares ∷ xs) last indices m = all_put xs kind.Function declares m
all_put (Tables tables ∷ xs) last indices m = all_put xs kind.Table indices (record m { tables = tables })
all_put (Memories memories ∷ xs) last indices m = all_put xs kind.Memory indices (record m { memories = memories })
all_put (Globals globals ∷ xs) last indices m = all_put xs kind.Global indices (record m { globals = globals })
all_put (Exports exports ∷ xs) last indices m = all_put xs kind.Export indices (record m { exports = exports })
all_put (Start func ∷ xs) last indices m = all_put xs kind.Start indices (record m { start = Some func })
all_put (Elements elements ∷ xs) last indices m = all_put xs kind.Element indices (record m { elements = elements })
all_put (Codes funcs ∷ xs) last indices m = all_put xs kind.Code indices (record m { funcs = funcs })
all_put (Datas datas ∷ xs) last indices m = all_put xs kind.Data indices (record m { datas = datas })

pub rest_is : (b : List ℕ) (at : ℕ) → flat_whole (rest_at b at) ≡ ends_in nothing (sections_at (length b) start b at) >>= finished
    (length b)
unfolding rest_at
rest_is b at = by_read (sections_at (length b) start b at)
  where
    by_test : (t : Bool) (m : NestedModule) → flat_whole (refuse_if t (fault.Count (length b)) >>= λ fine. Ok m) ≡ refuse_if t
        (fault.Count (length b)) >>= λ fine. Ok (flat_module m)
    by_test true m = refl
    by_test false m = refl

    by_read : (r : Read (List Section)) → flat_whole (r >>= λ xs. refuse_if (lacks_bodies xs.0) (fault.Count (length b)) >>= λ fine. Ok
        (module_of xs.0)) ≡ ends_in nothing r >>= finished (length b)
    by_read (Err e) = refl
    by_read (Ok xs) =
        let m = module_of xs.0 in
        let indices = declared xs.0 [] in
        let h = all_put xs.0 kind.Custom [] empty in
        by_test (lacks_bodies xs.0) m
        ∙ ap (λ n. refuse_if (not (eqb n (length indices))) (fault.Count (length b)) >>= λ fine. Ok (flat_module m))
        (sym (length-map m.funcs flat_func))
        ∙ ap (finished (length b)) (sym h.1)

-- what stands behind the header is read as its sections make it
pub finishes : (b : List ℕ) (at : ℕ) (p : Sofar) (r : Result Module Fault) → r ≡ finished (length b) p
    → ends_in nothing (sections_at (length b) start b at) ≡ Ok p
    → Gives (λ m. m) r (flat_whole (rest_at b at))
finishes b at p r is h = gives_same r (flat_whole (rest_at b at)) (rest_is b at ∙ ap (λ r. r >>= finished (length b)) h ∙ sym is)

pub no_sections : (b : List ℕ) (at : ℕ) (e : Fault) → Fails e (ends_in nothing (sections_at (length b) start b at))
    → Fails e (flat_whole (rest_at b at))
no_sections b at fault.Memory h = tt
no_sections b at e h = fails_of e (flat_whole (rest_at b at)) (rest_is b at ∙ ap (λ r. r >>= finished (length b)) h)

-- ---- the header

pub has_magic : (b : List ℕ) → differs b 0 magic ≡ false → 4 ≤ length b
has_magic b e = omega (arith, ap length (same_bytes b 0 magic e), length-take 4 (drop 0 b))

pub has_version : (b : List ℕ) → 4 ≤ length b → differs b 4 version ≡ false → 8 ≤ length b
has_version b four e = omega (arith, ap length (same_bytes b 4 version e), length-take 4 (drop 4 b), length-drop 4 b)
