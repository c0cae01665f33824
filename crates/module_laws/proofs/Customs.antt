-- Custom sections change nothing.
use Rattle.std.proofs.Common.{◌≡◌, ℕ, ◌+◌, ◌≤◌, List, [], ◌∷◌, ◌++◌, length, drop, refl, sym, ap, subst, ◌∙◌, arith, append-nil, append_assoc, length-append}
use Rattle.wasm_types.specs.Modules.{NestedModule}
use Rattle.module_specs.specs.Spelling.{Here}
use Rattle.module_specs.specs.Fronts.{after_all}
use Rattle.module_specs.specs.ModuleSpelling.{Section, Custom, Before, start, put, put_all, empty, module_of, declared, indices_after, SpellsSection, SpellsSections, SpellsRest, SpellsModule, magic, version, most_bytes}
use Rattle.module_specs.proofs.Places.{here_first, here_second}
use Rattle.module_laws.specs.Grammars.{IgnoresCustom}
use Rattle.wasm_code.proofs.Whole.{whole_here}
use Rattle.module_laws.proofs.Determined.{one_text, goes_on, after_both, spelled_both}

-- ---- what sections make

put_both : (xs ys : List Section) (m : NestedModule) → put_all (xs ++ ys) m ≡ put_all ys (put_all xs m)
put_both [] ys m = refl
put_both (x ∷ xs) ys m = put_both xs ys (put x m)

declared_both : (xs ys : List Section) (indices : List ℕ) → declared (xs ++ ys) indices ≡ declared ys (declared xs indices)
declared_both [] ys indices = refl
declared_both (x ∷ xs) ys indices = declared_both xs ys (indices_after x indices)

-- with a custom section more they make the same
same_module : (xs ys : List Section) → module_of (xs ++ Custom ∷ ys) ≡ module_of (xs ++ ys)
same_module xs ys = put_both xs (Custom ∷ ys) empty ∙ sym (put_both xs ys empty)

same_declared : (xs ys : List Section) → declared (xs ++ Custom ∷ ys) [] ≡ declared (xs ++ ys) []
same_declared xs ys = declared_both xs (Custom ∷ ys) [] ∙ sym (declared_both xs ys [])

-- and what follows reads on as before
same_after : (xs : List Section) (s : Before) → after_all (xs ++ Custom ∷ []) s ≡ after_all xs s
same_after xs s = after_both xs (Custom ∷ []) s

regroup : (xs ys : List Section) → (xs ++ Custom ∷ []) ++ ys ≡ xs ++ Custom ∷ ys
regroup xs ys = append_assoc xs (Custom ∷ []) ys

-- ---- modules with a front

-- what stands behind a front is sections
parted : (m : NestedModule) (xs : List Section) (front rest : List ℕ) → SpellsSections start xs front → SpellsRest m (front ++ rest)
    → (ys : List Section) × (m ≡ module_of (xs ++ ys)) × (length m.funcs ≡ length (declared (xs ++ ys) [])) × SpellsSections
    (after_all xs start) ys rest
parted m xs front rest f t =
    let b = front ++ rest in
    let whole : Here b 0 (front ++ rest) (length b) = whole_here b in
    let at = 0 + length front in
    let r = goes_on b xs t.0 start 0 at (length b) front b f (here_first b 0 (length b) front rest whole) t.3 whole
    (omega (arith, length-append front rest)) in
    let here = here_second b 0 (length b) front rest whole in
    let same : r.text ≡ rest = one_text b at (length b) r.text rest r.here here in (
      r.others,
      t.1 ∙ ap module_of r.whole,
      t.2 ∙ ap (λ l. length (declared l [])) r.whole,
      subst
          (SpellsSections (after_all xs start) r.others) same r.spelled,
    )

-- a front, and sections behind it
joined : (m : NestedModule) (xs ys : List Section) (front rest : List ℕ) → SpellsSections start xs front
    → SpellsSections (after_all xs start) ys rest
    → m ≡ module_of (xs ++ ys) → length m.funcs ≡ length (declared (xs ++ ys) []) → SpellsRest m (front ++ rest)
joined m xs ys front rest f t is counts = (xs ++ ys, is, counts, spelled_both xs ys start front rest f t)

module _ (m : NestedModule) (xs : List Section) (front custom rest : List ℕ) (f : SpellsSections start xs front)
    (c : SpellsSection start Custom custom) where
  -- the custom section belongs to the front
  longer : SpellsSections start (xs ++ Custom ∷ []) (front ++ custom)
  longer = spelled_both xs (Custom ∷ []) start front custom f (custom, [], sym (append-nil custom), c, refl)

  more : SpellsRest m (front ++ rest) → SpellsRest m (front ++ (custom ++ rest))
  more t =
      let p = parted m xs front rest f t in
      let ys = p.0 in
      let read_on = subst (λ (s : Before). SpellsSections s ys rest) (sym (same_after xs start)) p.3 in
      let made : SpellsRest m ((front ++ custom) ++ rest) =
      joined m (xs ++ Custom ∷ []) ys (front ++ custom) rest longer read_on
      (p.1 ∙ sym (same_module xs ys) ∙ ap module_of (sym (regroup xs ys)))
      (p.2 ∙ ap length (sym (same_declared xs ys)) ∙ ap (λ l. length (declared l [])) (sym (regroup xs ys))) in
      subst (SpellsRest m) (append_assoc front custom rest) made

  fewer : SpellsRest m (front ++ (custom ++ rest)) → SpellsRest m (front ++ rest)
  fewer t =
      let p = parted m (xs ++ Custom ∷ []) (front ++ custom) rest longer (subst (SpellsRest m) (sym (append_assoc front custom rest)) t) in
      let ys = p.0 in
      let read_on = subst (λ (s : Before). SpellsSections s ys rest) (same_after xs start) p.3 in
      joined m xs ys front rest f read_on
      (p.1 ∙ ap module_of (regroup xs ys) ∙ same_module xs ys)
      (p.2 ∙ ap (λ l. length (declared l [])) (regroup xs ys) ∙ ap length (same_declared xs ys))

-- the same behind a header
behind_header : (m : NestedModule) (front text rest : List ℕ) → front ≡ magic ++ (version ++ text) → length (front ++ rest) ≤ most_bytes
    → SpellsRest m (text ++ rest) → SpellsModule m (front ++ rest)
behind_header m front text rest is small t = (small, (text ++ rest, ap (λ l. l ++ rest) is, t))

rest_of : (m : NestedModule) (front text rest : List ℕ) → front ≡ magic ++ (version ++ text) → SpellsModule m (front ++ rest)
    → SpellsRest m (text ++ rest)
rest_of m front text rest is s =
    let t = s.1 in
    let same : t.0 ≡ text ++ rest = ap (drop 8) (sym t.1 ∙ ap (λ l. l ++ rest) is) in
    subst (SpellsRest m) same t.2

pub ignored : IgnoresCustom SpellsModule
ignored m front custom rest f c small = (forth, back)
  where
    fits : length (front ++ rest) ≤ most_bytes
    fits = omega (arith, small, length-append front rest, length-append front (custom ++ rest), length-append custom rest)

    forth : SpellsModule m (front ++ rest) → SpellsModule m (front ++ (custom ++ rest))
    forth s = behind_header m front f.rest (custom ++ rest) f.whole small
        (more m f.sections f.rest custom rest f.spelled c (rest_of m front f.rest rest f.whole s))

    back : SpellsModule m (front ++ (custom ++ rest)) → SpellsModule m (front ++ rest)
    back s = behind_header m front f.rest rest f.whole fits (fewer m f.sections f.rest custom rest f.spelled c
        (rest_of m front f.rest (custom ++ rest) f.whole s))
