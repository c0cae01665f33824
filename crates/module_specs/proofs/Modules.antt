-- Modules: what is spelled is read, and what is read is spelled.
use Rattle.std.proofs.Common.{◌≡◌, ℕ, ◌+◌, ◌≤◌, false, not, eqb, List, [], ◌∷◌, ◌++◌, length, take, drop, Result, Ok, refl, sym, ap, subst, ◌∙◌, arith, append-nil}
use Rattle.std.specs.Prelude.{nat_lt, bytes_eq}
use Rattle.std.proofs.lemmas.Bool.{ltb-false, le-ltb, eqb-true, eq-eqb}
use Rattle.std.proofs.lemmas.List.{take-append-drop, drop-drop}
use Rattle.std.proofs.lemmas.Slice.Eq.{bytes_eq-Decides}
use Rattle.leb_bytes.proofs.Spelled.{IsBytes}
use Rattle.wasm_types.specs.Modules.{NestedModule}
use Rattle.module_specs.specs.declared.fault.Fault.{Fault}
use Rattle.module_specs.specs.declared.fault.Fault.TheVariants as fault
use Rattle.module_specs.specs.Spelling.{Here}
use Rattle.module_specs.specs.ModuleSpelling.{Section, start, module_of, declared, magic, version, most_bytes, SpellsRest, SpellsModule}
use Rattle.module_specs.specs.Reading.{◌>>=◌, refuse_if}
use Rattle.module_specs.specs.ModuleReading.{sections_at, lacks_bodies, rest_at, differs, module_read}
use Rattle.module_specs.proofs.Places.{bind_ok, ok_is, not_refused, goes_past, not_not}
use Rattle.module_specs.proofs.Sections.{BodiesTell, sections_again, sections_here}

-- the bytes behind the header
header_off : (b rest : List ℕ) → b ≡ magic ++ (version ++ rest) → drop 8 b ≡ rest
header_off b rest e = ap (drop 8) e

pub same_bytes : (b : List ℕ) (at : ℕ) (these : List ℕ) → differs b at these ≡ false → take 4 (drop at b) ≡ these
same_bytes b at these e = (bytes_eq-Decides (take 4 (drop at b)) these).0 (not_not (bytes_eq (take 4 (drop at b)) these) e)

header_whole : (b : List ℕ) → take 4 (drop 0 b) ≡ magic → take 4 (drop 4 b) ≡ version → b ≡ magic ++ (version ++ drop 8 b)
header_whole b first second =
    let behind : drop 4 (drop 4 b) ≡ drop 8 b = drop-drop 4 4 b in
    sym (take-append-drop 4 b) ∙ ap (λ l. l ++ drop 4 b) first
    ∙ ap (λ l. magic ++ l) (sym (take-append-drop 4 (drop 4 b)) ∙ ap (λ l. l ++ drop 4 (drop 4 b)) second ∙ ap (λ l. version ++ l) behind)

nothing_left : (l : List ℕ) → drop (length l) l ≡ []
nothing_left [] = refl
nothing_left (x ∷ l) = nothing_left l

module _ (tell : BodiesTell) where
  abbrev pub counted : List ℕ → List Section × ℕ → Result NestedModule Fault
  counted b xs = refuse_if (lacks_bodies xs.0) (fault.Count (length b)) >>= λ fine. Ok (module_of xs.0)

  rest_again : (b : List ℕ) (at : ℕ) (m : NestedModule) (text : List ℕ) → SpellsRest m text → Here b at text (length b) → rest_at b at ≡ Ok m
  unfolding rest_at
  rest_again b at m text t h =
      let made : NestedModule = module_of t.0 in
      let same : length made.funcs ≡ length (declared t.0 []) = ap (λ (m : NestedModule). length m.funcs) (sym t.1) ∙ t.2 in
      ap (λ r. r >>= counted b) (sections_again tell (length b) start b t.0 at text (omega arith) t.3 h)
      ∙ goes_past (lacks_bodies t.0) (fault.Count (length b)) (λ fine. Ok made) (ap not (eq-eqb (length made.funcs) (length (declared t.0 [])) same))
      ∙ ap (λ m. Ok m) (sym t.1)

  rest_here : (b : List ℕ) → IsBytes b → (at : ℕ) (m : NestedModule) → at ≤ length b → rest_at b at ≡ Ok m
      → (text : List ℕ) × Here b at text (length b) × SpellsRest m text
  unfolding rest_at
  rest_here b fits at m le e =
      let xs = bind_ok (sections_at (length b) start b at) (counted b) m e in
      let made : NestedModule = module_of xs.0.0 in
      let fine = not_refused (lacks_bodies xs.0.0) (fault.Count (length b)) (λ fine. Ok made) m xs.2 in
      let h = sections_here tell (length b) start b fits at xs.0.1 xs.0.0 le (omega arith) xs.1 in
      let is : made ≡ m = ok_is made m fine.1 in
      let same : length made.funcs ≡ length (declared xs.0.0 []) = eqb-true _ _ (not_not (eqb (length made.funcs) (length (declared xs.0.0 []))) fine.0) in
      (h.0, subst (Here b at h.0) h.2 h.1, (xs.0.0, sym is, ap (λ (m : NestedModule). length m.funcs) (sym is) ∙ same, h.3))

  abbrev second_then : List ℕ → Result NestedModule Fault
  second_then b = refuse_if (differs b 4 version) (fault.Version 4) >>= λ first. rest_at b 8

  abbrev first_then : List ℕ → Result NestedModule Fault
  first_then b = refuse_if (differs b 0 magic) (fault.Magic 0) >>= λ wasm. second_then b

  -- what is spelled is read
  pub module_again : (m : NestedModule) (b : List ℕ) → SpellsModule m b → module_read b ≡ Ok m
  unfolding module_read
  module_again m b s =
      let t = s.1 in
      let rest = t.0 in
      let wasm : differs b 0 magic ≡ false = ap (λ b. differs b 0 magic) t.1 in
      let one : differs b 4 version ≡ false = ap (λ b. differs b 4 version) t.1 in
      let size : length b ≡ 8 + length rest = omega (arith, ap length t.1) in
      let h : Here b 8 rest (length b) = record {
        whole = header_off b rest t.1 ∙ sym (append-nil rest) ∙ ap (λ l. rest ++ l) (sym (nothing_left b));
        size = omega (arith, size);
        within = omega arith;
      } in
      goes_past (nat_lt most_bytes (length b)) (fault.Size most_bytes) (λ small. first_then b) (le-ltb most_bytes (length b) s.0)
      ∙ goes_past (differs b 0 magic) (fault.Magic 0) (λ wasm. second_then b) wasm
      ∙ goes_past (differs b 4 version) (fault.Version 4) (λ first. rest_at b 8) one
      ∙ rest_again b 8 m rest t.2 h

  -- what is read is spelled
  pub module_here : (m : NestedModule) (b : List ℕ) → IsBytes b → module_read b ≡ Ok m → SpellsModule m b
  unfolding module_read
  module_here m b fits e =
      let small = not_refused (nat_lt most_bytes (length b)) (fault.Size most_bytes) (λ small. first_then b) m e in
      let wasm = not_refused (differs b 0 magic) (fault.Magic 0) (λ wasm. second_then b) m small.1 in
      let one = not_refused (differs b 4 version) (fault.Version 4) (λ first. rest_at b 8) m wasm.1 in
      let whole = header_whole b (same_bytes b 0 magic wasm.0) (same_bytes b 4 version one.0) in
      let size : length b ≡ 8 + length (drop 8 b) = omega (arith, ap length whole) in
      let x = rest_here b fits 8 m (omega (arith, size)) one.1 in
      let h = x.1 in
      let is_rest : drop 8 b ≡ x.0 = h.whole ∙ ap (λ l. x.0 ++ l) (nothing_left b) ∙ append-nil x.0 in
      (ltb-false most_bytes (length b) small.0, (x.0, whole ∙ ap (λ l. magic ++ (version ++ l)) is_rest, x.2))
