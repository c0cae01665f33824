-- Why a file is refused.
use Rattle.std.proofs.Common.{◌≡◌, ℕ, ◌+◌, zero, suc, ◌<◌, ◌≤◌, Bool, true, false, not, cond, List, [], ◌∷◌, ◌++◌, length, take, drop, Result, Ok, Err, refl, sym, ap, subst, ◌∙◌, arith, inl, inr}
use Rattle.std.specs.Prelude.{nat_lt, bytes_eq, ◌⊎◌}
use Rattle.std.proofs.lemmas.Bool.{ltb-true, eq-eqb}
use Rattle.std.proofs.lemmas.List.{take_all, take-append-drop, drop-drop, length-take}
use Rattle.leb_bytes.proofs.Spelled.{IsBytes, bytes_of_all}
use Rattle.wasm_types.specs.Modules.{NestedModule}
use Rattle.module_specs.specs.declared.fault.Fault.{Fault}
use Rattle.module_specs.specs.declared.fault.Fault.TheVariants as fault
use Rattle.module_specs.specs.Spelling.{Here}
use Rattle.module_specs.specs.Fronts.{after_all}
use Rattle.module_specs.specs.ModuleSpelling.{Section, Before, start, after, SpellsSections, SpellsModule, magic, version, most_bytes, module_of, declared}
use Rattle.module_specs.specs.Reading.{Read, ◌>>=◌, refuse_if}
use Rattle.module_specs.specs.ModuleReading.{section_at, sections_at, with_section, lacks_bodies, rest_at, differs, module_read}
use Rattle.module_specs.specs.Faults.{IsIn}
use Rattle.module_specs.proofs.Places.{nothing_here, here_first, here_second, here_join, same_text}
use Rattle.module_specs.proofs.Sections.{section_again, section_here, sections_here, sections_then}
use Rattle.module_specs.proofs.Modules.{same_bytes}
use Rattle.module_laws.specs.Files.{IsStuck, HasBodies, LacksBodies, HasCause}
use Rattle.module_laws.specs.Grammars.{SpellsUnlessCause}
use Rattle.module_laws.specs.Readings.{IsHeadless, RefusalsHaveCauses}
use Rattle.module_laws.proofs.Determined.{tell, clash, GoesOn, goes_on, Filled, all_begins, front_is, begins_whole, same_sections}
use Rattle.module_laws.proofs.Exact.{refuses}

refused_or : {A : Type 0} (t : Bool) (d e : Fault) (f : Unit {0} → Result A Fault) → refuse_if t d >>= f ≡ Err e → ((t ≡ true) × (d ≡ e)) ⊎ ((t ≡ false) × (f tt ≡ Err e))
refused_or true d e f h = inl (refl, cc)
refused_or false d e f h = inr (refl, h)

-- ---- the header

no_magic : (b : List ℕ) → differs b 0 magic ≡ true → Here b 0 (magic ++ version) 8 → ⊥
no_magic b wrong h = let right : differs b 0 magic ≡ false = ap (λ l. not (bytes_eq (take 4 l) magic)) h.whole in absurd cc

no_version : (b : List ℕ) → differs b 4 version ≡ true → Here b 0 (magic ++ version) 8 → ⊥
no_version b wrong h = let right : differs b 4 version ≡ false = ap (λ l. not (bytes_eq (take 4 l) version)) (here_second b 0 8 magic version h).whole in absurd cc

header_here : (b : List ℕ) → differs b 0 magic ≡ false → differs b 4 version ≡ false → Here b 0 (magic ++ version) 8
header_here b first second = record { whole = whole; size = refl; within = omega (arith, ap length whole) }
  where
    behind : drop 4 (drop 4 b) ≡ drop 8 b
    behind = drop-drop 4 4 b

    whole : b ≡ (magic ++ version) ++ drop 8 b
    whole =
        sym (take-append-drop 4 b) ∙ ap (λ l. l ++ drop 4 b) (same_bytes b 0 magic first)
        ∙ ap (λ l. magic ++ l) (sym (take-append-drop 4 (drop 4 b)) ∙ ap (λ l. l ++ drop 4 (drop 4 b)) (same_bytes b 4 version second) ∙ ap (λ l. version ++ l) behind)

-- ---- the first section that can't be read

pub record FailsAt (b : List ℕ) (s : Before) (from : ℕ) (e : Fault) : Type 0 where
  pub sections : List Section
  pub text : List ℕ
  pub at : ℕ
  pub here : Here b from text at
  pub spelled : SpellsSections s sections text
  pub more : at < length b
  pub fails : section_at (after_all sections s) b at ≡ Err e

chosen : {A : Type 0} (t : Bool) (x y z : A) → cond t x y ≡ z → ((t ≡ true) × (x ≡ z)) ⊎ ((t ≡ false) × (y ≡ z))
chosen true x y z e = inl (refl, e)
chosen false x y z e = inr (refl, e)

with_err : (x : Section) (r : Read (List Section)) (e : Fault) → r >>= with_section x ≡ Err e → r ≡ Err e
with_err x (Ok xs) e h = absurd cc
with_err x (Err d) e h = h

no_fault : (e : Fault) (p : List Section × ℕ) → (let r : Read (List Section) = Ok p in r ≡ Err e) → ⊥
no_fault e p h = absurd cc

module _ (b : List ℕ) (fits : IsBytes b) (e : Fault) where
  fails : (n : ℕ) (s : Before) (at : ℕ) → at ≤ length b → sections_at n s b at ≡ Err e → FailsAt b s at e
  unfolding sections_at
  fails zero s at le h = absurd (no_fault e ([], at) h)
  fails (suc n) s at le h =
      elim (chosen (nat_lt at (length b)) (section_at s b at >>= sections_then tell n s b) (Ok ([], at)) (Err e) h) [
        | inl t ↦ by_section (λ x le h. fails n (after x.0 s) x.1 le h) (section_at s b at) refl t.1 (ltb-true at (length b) t.0)
        | inr t ↦ absurd (no_fault e ([], at) t.1)
      ]
    where
      by_section : ((x : Section × ℕ) → x.1 ≤ length b → sections_at n (after x.0 s) b x.1 ≡ Err e → FailsAt b (after x.0 s) x.1 e)
          → (r : Read Section) → section_at s b at ≡ r → r >>= sections_then tell n s b ≡ Err e → at < length b → FailsAt b s at e
      by_section go (Err d) is h lt = record { sections = []; text = []; at = at; here = nothing_here b at le; spelled = refl; more = lt; fails = let same : d ≡ e = cc in subst (λ (d : Fault). section_at s b at ≡ Err d) same is }
      by_section go (Ok x) is h lt =
          let k = section_here tell s b fits at x.1 x.0 is in
          let rest = go x k.1.within (with_err x.0 (sections_at n (after x.0 s) b x.1) e h) in
          record {
            sections = x.0 ∷ rest.sections;
            text = k.0 ++ rest.text;
            at = rest.at;
            here = here_join b at x.1 rest.at k.0 rest.text k.1 rest.here;
            spelled = (k.0, rest.text, refl, k.3, rest.spelled);
            more = rest.more;
            fails = rest.fails;
          }

-- ---- the file

-- a fault of the header, which lies in the file
pub record OfHeader (b : List ℕ) (e : Fault) : Type 0 where
  pub headless : IsHeadless b e
  pub inside : IsIn (length b) e

-- a fault of the first section that can't be read
pub record OfSection (b : List ℕ) (e : Fault) : Type 0 where
  pub header : Here b 0 (magic ++ version) 8
  pub failing : FailsAt b start 8 e

-- where a fault comes from
abbrev pub Cause : List ℕ → Fault → Type 0
Cause b e =
    ((most_bytes < length b) × (e ≡ fault.Size most_bytes))
    ⊎ (OfHeader b e ⊎ (OfSection b e ⊎ (LacksBodies b × (e ≡ fault.Count (length b)))))

module _ (b : List ℕ) (e : Fault) (fits : IsBytes b) where
  abbrev counted_then : List Section × ℕ → Result NestedModule Fault
  counted_then xs = refuse_if (lacks_bodies xs.0) (fault.Count (length b)) >>= λ fine. Ok (module_of xs.0)

  behind : Here b 0 (magic ++ version) 8 → rest_at b 8 ≡ Err e → OfSection b e ⊎ (LacksBodies b × (e ≡ fault.Count (length b)))
  unfolding rest_at
  behind header h = by_read (sections_at (length b) start b 8) refl h
    where
      lacks : (xs : List Section) → lacks_bodies xs ≡ true → HasBodies xs → ⊥
      lacks xs is bodies = let right : lacks_bodies xs ≡ false = ap not (eq-eqb (length (module_of xs).funcs) (length (declared xs [])) bodies) in absurd cc

      whole : (xs : List Section × ℕ) → sections_at (length b) start b 8 ≡ Ok xs → lacks_bodies xs.0 ≡ true → LacksBodies b
      whole xs is lacking =
          let r = sections_here tell (length b) start b fits 8 xs.1 xs.0 header.within (omega arith) is in
          record {
            sections = xs.0;
            whole = record { header = header; text = r.0; here = subst (Here b 8 r.0) r.2 r.1; spelled = r.3 };
            lacks = lacks xs.0 lacking;
          }

      no_module : (m : NestedModule) → (let r : Result NestedModule Fault = Ok m in r ≡ Err e) → ⊥
      no_module m h = absurd cc

      by_read : (r : Read (List Section)) → sections_at (length b) start b 8 ≡ r → r >>= counted_then ≡ Err e → OfSection b e ⊎ (LacksBodies b × (e ≡ fault.Count (length b)))
      by_read (Err d) is h =
          let same : d ≡ e = cc in
          inl (record { header = header; failing = fails b fits e (length b) start 8 header.within (subst (λ (d : Fault). sections_at (length b) start b 8 ≡ Err d) same is) })
      by_read (Ok xs) is h =
          elim (refused_or (lacks_bodies xs.0) (fault.Count (length b)) e (λ fine. Ok (module_of xs.0)) h) [
            | inl x ↦ inr (whole xs is x.0, sym x.1)
            | inr y ↦ absurd (no_module (module_of xs.0) y.1)
          ]

  pub cause : module_read b ≡ Err e → Cause b e
  unfolding module_read
  cause h =
      elim (refused_or (nat_lt most_bytes (length b)) (fault.Size most_bytes) e (λ small. first_then) h) [
        | inl x ↦ let over : most_bytes < length b = ltb-true _ _ x.0 in inl (over, sym x.1)
        | inr small ↦ elim (refused_or (differs b 0 magic) (fault.Magic 0) e (λ wasm. second_then) small.1) [
          | inl x ↦ inr (inl (record { headless = record { unspelled = no_magic b x.0; of_header = inl (sym x.1) }; inside = subst (IsIn (length b)) x.1 (omega arith) }))
          | inr wasm ↦
              let four : 4 ≤ length b = omega (arith, ap length (same_bytes b 0 magic wasm.0), length-take 4 (drop 0 b)) in
              elim (refused_or (differs b 4 version) (fault.Version 4) e (λ first. rest_at b 8) wasm.1) [
                | inl x ↦ inr (inl (record { headless = record { unspelled = no_version b x.0; of_header = inr (sym x.1) }; inside = subst (IsIn (length b)) x.1 four }))
                | inr first ↦ inr (inr (behind (header_here b wasm.0 first.0) first.1))
              ]
        ]
      ]
    where
      second_then : Result NestedModule Fault
      second_then = refuse_if (differs b 4 version) (fault.Version 4) >>= λ first. rest_at b 8

      first_then : Result NestedModule Fault
      first_then = refuse_if (differs b 0 magic) (fault.Magic 0) >>= λ wasm. second_then

-- as the law says it
pub causes : RefusalsHaveCauses module_read
causes b e file h = by_cause (cause b e (bytes_of_all b file.bytes) h)
  where
    stuck : OfSection b e → IsStuck b
    stuck o = let f = o.failing in (
      f.at,
      record {
        sections = f.sections;
        before = record { header = o.header; text = f.text; here = f.here; spelled = f.spelled };
        more = f.more;
        unspelled = λ x text next k t. clash (section_at (after_all f.sections start) b f.at) e (x, next) f.fails (section_again tell (after_all f.sections start) b f.at next x text t k);
      },
    )

    by_cause : Cause b e → IsHeadless b e ⊎ (IsStuck b ⊎ (LacksBodies b × (e ≡ fault.Count (length b))))
    by_cause (inl x) = absurd (omega (arith, file.small, x.0))
    by_cause (inr (inl o)) = inl o.headless
    by_cause (inr (inr (inl o))) = inr (inl (stuck o))
    by_cause (inr (inr (inr x))) = inr (inr x)

-- ---- each cause is one

-- where sections stand up to the end, there is no place without one
pub none_stuck : (b : List ℕ) → Filled b → IsStuck b → ⊥
none_stuck b all stuck = by_others r.others r.text r.spelled r.here
  where
    at : ℕ
    at = stuck.0

    r : GoesOn b (let k = stuck.1 in k.sections) all.sections start at (length b)
    r =
        let k = stuck.1 in
        let before = k.before in
        let begins = all.begins in
        goes_on b k.sections all.sections start 8 at (length b) before.text begins.text before.spelled before.here begins.spelled begins.here (omega (arith, k.more))

    by_others : (ys : List Section) (text : List ℕ) → SpellsSections (after_all (let k = stuck.1 in k.sections) start) ys text → Here b at text (length b) → ⊥
    by_others [] text t h = let k = stuck.1 in absurd (omega (arith, k.more, h.size, ap length t))
    by_others (y ∷ ys) text t h =
        let k = stuck.1 in
        k.unspelled y t.0 (at + length t.0) (here_first b at (length b) t.0 t.1 (same_text b at (length b) text (t.0 ++ t.1) t.2 h)) t.3

none_lacks : (b : List ℕ) (m : NestedModule) → SpellsModule m b → LacksBodies b → ⊥
none_lacks b m s lacking =
    let t = s.1 in
    let x = t.2 in
    let begins = lacking.whole in
    let whole : b ≡ (magic ++ version) ++ begins.text = sym (take_all (length b) b (omega arith)) ∙ front_is b ((magic ++ version) ++ begins.text) (length b) (begins_whole b lacking.sections (length b) begins) in
    let rest : t.0 ≡ begins.text = ap (drop 8) (sym t.1 ∙ whole) in
    let same : x.0 ≡ lacking.sections = same_sections x.0 lacking.sections begins.text (subst (SpellsSections start x.0) rest x.3) begins.spelled in
    let bodies : HasBodies x.0 = ap (λ (m : NestedModule). length m.funcs) (sym x.1) ∙ x.2 in
    lacking.lacks (subst HasBodies same bodies)

pub unless_cause : SpellsUnlessCause SpellsModule
unless_cause b file = (has, is)
  where
    has : ((m : NestedModule) → SpellsModule m b → ⊥) → HasCause b
    has none =
        let r = (refuses b file.bytes).1 none in
        elim (causes b r.0 file r.1) [
          | inl h ↦ inl h.unspelled
          | inr other ↦ inr (elim other [ inl stuck ↦ inl stuck | inr lacking ↦ inr lacking.0 ])
        ]

    is : HasCause b → (m : NestedModule) → SpellsModule m b → ⊥
    is (inl headless) m s = let all = all_begins m b s in let begins = all.begins in headless begins.header
    is (inr (inl stuck)) m s = none_stuck b (all_begins m b s) stuck
    is (inr (inr lacking)) m s = none_lacks b m s lacking
